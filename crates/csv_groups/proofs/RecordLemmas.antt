-- The records that a reader has left, record by record.
use Rattle.std.proofs.Common.{◌≡◌, ◌≢◌, ◌⊎◌, inl, inr, ℕ, zero, suc, ◌<◌, ◌≤◌, Bool, true, false}
use Rattle.std.proofs.Common.{cond}
use Rattle.std.proofs.Common.{List, [], ◌∷◌, ◌++◌, length, Option, Some, None, refl, ap, sym, ◌∙◌}
use Rattle.std.proofs.Common.{arith, Bor}
use Rattle.std.proofs.lemmas.Option.{same_Some}
use Rattle.csv.specs.Machine.{Read, next_record, ends_at_end, is_end, step, fields_after}
use Rattle.csv.specs.Machine.{field_after}
use Rattle.csv.specs.Reading.{default_config, records_from, records_next, Reached, ReadRecord}
use Rattle.csv.specs.Reading.{ReadsNext, NextIs, took_first}
use Rattle.csv.specs.declared.parser.Config.{Config}
use Rattle.csv.specs.declared.parser.State.{State}
use Rattle.csv.specs.declared.parser.State.TheVariants as st
use Rattle.csv.proofs.ReadFacts.{rows-more, rows-end}
use Rattle.csv_groups.specs.Cells.{Cells, are_utf8}
use Rattle.csv.specs.Reading.{ExplainsRead}
use Rattle.csv.specs.declared.error.ErrorKind.{ErrorKind}
use Rattle.csv.specs.declared.error.ErrorKind.TheVariants as kind
use Rattle.csv_groups.specs.Reading.{BytesReader, HasLeft, error_fault}
use Rattle.csv_groups.specs.declared.fault.RowFault.{RowFault}
use Rattle.csv_groups.specs.declared.fault.RowFault.TheVariants.{Refused, Memory}
use Rattle.csv_groups.specs.declared.fault.RowWhy.TheVariants.{Shape}
use Rattle.csv_groups.proofs.CellLemmas.{are_utf8-no_text}

-- no more bytes are left behind a record than behind its first byte
behind-first : (cfg : Config) (s : State) (fields : Cells) (field : List ℕ) (c : ℕ) (rest : List ℕ)
    (p : Read)
    → (next_record cfg (step cfg s c).0 (fields_after (step cfg s c).1 fields field)
    (field_after (step cfg s c).1 c field) rest ≡ Some p → length p.2 ≤ length rest)
    → next_record cfg s fields field (c ∷ rest) ≡ Some p → length p.2 ≤ length rest
unfolding next_record
behind-first cfg s fields field c rest p more e = at (is_end (step cfg s c).1) e
  where
    at : (b : Bool) → cond b
        (Some (fields_after (step cfg s c).1 fields field, (step cfg s c).0, rest))
        (next_record cfg (step cfg s c).0 (fields_after (step cfg s c).1 fields field)
        (field_after (step cfg s c).1 c field) rest) ≡ Some p
        → length p.2 ≤ length rest
    at true e =
        let same : length rest ≡ length p.2 = ap (λ (q : Read). length q.2) (same_Some _ _ e) in
        omega (arith, same)
    at false e = more e

-- no more bytes are left behind a record than before it
next-shorter : (cfg : Config) (s : State) (fields : Cells) (field bytes : List ℕ) (p : Read)
    → next_record cfg s fields field bytes ≡ Some p → length p.2 ≤ length bytes
unfolding next_record
next-shorter cfg s fields field [] p e = at (ends_at_end s) e
  where
    at : (b : Bool) → cond b (Some (fields ++ (field ∷ []), st.StartRecord, [])) None ≡ Some p
        → length p.2 ≤ 0
    at true e =
        let same : 0 ≡ length p.2 = ap (λ (q : Read). length q.2) (same_Some _ _ e) in
        omega (arith, same)
    at false e = absurd (cc)
next-shorter cfg s fields field (c ∷ rest) p e =
    let behind = behind-first cfg s fields field c rest p
    (next-shorter cfg (step cfg s c).0 (fields_after (step cfg s c).1 fields field)
    (field_after (step cfg s c).1 c field) rest p) e in
    omega (arith, behind)

-- behind a record at the end of the bytes there is none
next-last : (cfg : Config) (s : State) (p : Read) → next_record cfg s [] [] [] ≡ Some p
    → next_record cfg p.1 [] [] p.2 ≡ None
unfolding next_record
next-last cfg s p e = at (ends_at_end s) e
  where
    at : (b : Bool) → cond b (Some (([] ∷ []), st.StartRecord, [])) None ≡ Some p
        → next_record cfg p.1 [] [] p.2 ≡ None
    at true e = ap (λ (q : Read). next_record cfg q.1 [] [] q.2) (sym (same_Some _ _ e))
    at false e = absurd (cc)

-- fewer bytes than so many, and so fewer than one less behind a record; or no record behind it
few-behind : (s : State) (bytes : List ℕ) (n : ℕ) (p : Read)
    → next_record default_config s [] [] bytes ≡ Some p → length bytes < suc n
    → (length p.2 < n) ⊎ (next_record default_config p.1 [] [] p.2 ≡ None)
few-behind s [] n p e few = inr (next-last default_config s p e)
few-behind s (c ∷ rest) n p e few =
    let behind = behind-first default_config s [] [] c rest p
    (next-shorter default_config (step default_config s c).0
    (fields_after (step default_config s c).1 [] [])
    (field_after (step default_config s c).1 c []) rest p) e in
    inl (omega (arith, behind, few))

-- a record is the first of those that are left, of which there are no more than so many
record-taken : (s : State) (bytes : List ℕ) (count : ℕ) (p : Read)
    → next_record default_config s [] [] bytes ≡ Some p
    → (length bytes < count) ⊎ (next_record default_config s [] [] bytes ≡ None)
    → (fewer : ℕ) × (records_from default_config count s bytes
    ≡ p.0 ∷ records_from default_config fewer p.1 p.2)
    × ((length p.2 < fewer) ⊎ (next_record default_config p.1 [] [] p.2 ≡ None))
unfolding records_from
record-taken s bytes zero p e (inl few) = absurd (omega (arith, few))
record-taken s bytes (suc n) p e (inl few) =
    (n, ap (records_next (records_from default_config n)) e, few-behind s bytes n p e few)
record-taken s bytes count p e (inr none) = absurd (cc)

-- where there is no record none are left
none-left : (s : State) (bytes : List ℕ) (count : ℕ)
    → next_record default_config s [] [] bytes ≡ None
    → records_from default_config count s bytes ≡ []
unfolding records_from
none-left s bytes zero e = refl
none-left s bytes (suc n) e = ap (records_next (records_from default_config n)) e

abbrev remaining : Bor (List ℕ) → Option (List ℕ)
remaining s = Some s.now

-- one record was read
reached-one : (s s2 : State) (bytes rest : List ℕ) (cells : Cells)
    → Reached default_config s bytes (cells ∷ []) s2 rest
    → (p : Read) × (next_record default_config s [] [] bytes ≡ Some p) × (cells ≡ p.0)
    × (p.1 ≡ s2) × (p.2 ≡ rest)
unfolding Reached
reached-one s s2 bytes rest cells h = (h.0, h.1, h.2, h.3.0, h.3.1)

-- a read that takes a record takes the first one
pub record-read : (a b : BytesReader) (cells : Cells) (rows : List Cells) → HasLeft a rows
    → ReadRecord remaining a b true cells → took_first b ≡ true
    → (more : List Cells) × (rows ≡ cells ∷ more) × HasLeft b more
unfolding Reached
record-read a b cells rows h r first =
    let (rest, source, reached) = rows-more remaining a b cells default_config a.state h.bytes
    h.bytes [] h.config h.source (refl, refl) r in
    let (p, next, is, state, bytes) = reached-one a.state b.state h.bytes rest cells reached in
    let (fewer, left, enough) = record-taken a.state h.bytes h.count p next h.enough in (
      records_from default_config fewer b.state rest,
      sym h.left ∙ rw (sym is, state, bytes) at left,
      record {
        trim = r.3 ∙ h.trim;
        config = r.2 ∙ h.config;
        ready = inl first;
        bytes = rest;
        source = source;
        count = fewer;
        left = refl;
        enough = rw (state, bytes) at enough;
      },
    )

-- a read that takes none finds none
pub none-read : (a b : BytesReader) (cells : Cells) (rows : List Cells) → HasLeft a rows
    → ReadRecord remaining a b false cells → rows ≡ []
none-read a b cells rows h r =
    sym h.left ∙ none-left a.state h.bytes h.count
    (rows-end remaining a b cells default_config h.bytes h.config h.source r)

-- what a read shows is the next record
shown-next : (next : Option Read) (cells : Cells) (s : State) (rest : List ℕ)
    → NextIs next true cells s rest → (p : Read) × (next ≡ Some p) × (cells ≡ p.0)
shown-next None cells s rest h = absurd (cc)
shown-next (Some p) cells s rest h = (p, refl, h.1)

taken-next : (s s2 : State) (bytes : List ℕ) (after : Option (List ℕ)) (cells : Cells)
    → ReadsNext default_config s (Some bytes) after true cells s2
    → (p : Read) × (next_record default_config s [] [] bytes ≡ Some p) × (cells ≡ p.0)
taken-next s s2 bytes None cells h = absurd h
taken-next s s2 bytes (Some rest) cells h = shown-next _ cells s2 rest h

-- the first of the records that are left
first-left : (rows all : List Cells) (first cells : Cells) (more : List Cells) → all ≡ rows
    → all ≡ first ∷ more → cells ≡ first → rows ≡ cells ∷ more
first-left rows all first cells more is left same =
    sym is ∙ left ∙ ap (λ x. x ∷ more) (sym same)

-- an error of a read that is no want of memory says that the first record is no UTF-8
pub error-read : (a b : BytesReader) (row : ℕ) (k : ErrorKind) (fault : RowFault)
    (rows : List Cells) → HasLeft a rows → ExplainsRead remaining a b true k
    → fault ≡ error_fault row k → fault ≢ Memory
    → (cells : Cells) × (more : List Cells) × (rows ≡ cells ∷ more) × (are_utf8 cells ≡ false)
    × (fault ≡ Refused row Shape)
error-read a b row (kind.Utf8 pos err) fault rows h (same, cells, took, no_text) is other =
    let (p, next, shown) = taken-next a.state b.state h.bytes _ cells
    (rw (h.config, h.source) at took) in
    let (fewer, left, enough) = record-taken a.state h.bytes h.count p next h.enough in (
      cells,
      records_from default_config fewer p.1 p.2,
      first-left rows (records_from default_config h.count a.state h.bytes) p.0 cells
          (records_from default_config fewer p.1 p.2) h.left left shown,
      are_utf8-no_text cells no_text,
      is,
    )
error-read a b row (kind.Io e) fault rows h why is other = absurd (other is)
error-read a b row (kind.UnequalLengths pos expected len) fault rows h why is other =
    absurd (other is)
error-read a b row kind.OutOfMemory fault rows h why is other = absurd (other is)
error-read a b row (kind.Serialize text) fault rows h why is other = absurd (other is)
error-read a b row (kind.Deserialize pos err) fault rows h why is other = absurd (other is)
