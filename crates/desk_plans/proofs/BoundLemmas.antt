-- The documents that plans leave are within bounds.
use Rattle.std.proofs.Common.{◌≡◌, ℕ, zero, suc, ◌+◌, ◌≤◌, nat_le, Option, Some, None}
use Rattle.std.proofs.Common.{List, [], ◌∷◌, map, length, filter, slice_set, slice_get, Result, Ok}
use Rattle.std.proofs.Common.{Err, IfOk, refl, ap, subst, arith, length-set}
use Rattle.std.specs.Option.{ForSome}
use Rattle.std.proofs.lemmas.Bool.{leb-true}
use Rattle.std.specs.List.{All, AllZip}
use Rattle.std.proofs.lemmas.List.Elements.{All-nil, All-cons, All-head, All-tail, All-filter}
use Rattle.reg_base.specs.declared.records.Doc.{Doc}
use Rattle.reg_base.specs.declared.records.Document.{Document}
use Rattle.reg_base.specs.declared.records.Posting.{Posting}
use Rattle.reg_base.specs.declared.records.Rec.{Rec}
use Rattle.reg_base.specs.declared.records.Sets.{Sets}
use Rattle.reg_base.specs.declared.fault.PostFault.{PostFault}
use Rattle.reg_base.specs.declared.fault.PostFault.TheVariants.{TooManyRecords}
use Rattle.reg_base.proofs.ForAbove.{IfOk-then, IfOk-next, IfOk-unless}
use Rattle.reg_base.specs.Results.{◌>>=◌}
use Rattle.cfg_model.specs.declared.config.Config.{Config}
use Rattle.cfg_model.specs.declared.ledger.Chart.{Chart}
use Rattle.cfg_model.specs.declared.register.Register.{Register}
use Rattle.cfg_model.specs.Entries.{entry_check}
use Rattle.cfg_model.specs.Limits.{IsWithinLimits}
use Rattle.post_model.specs.declared.made.Yield.{Yield}
use Rattle.post_model.specs.Laws.{AreRecordsOf, AreSetsOf}
use Rattle.post_model.proofs.ForAbove.{registers-counted, ledgers-counted, records-few, entries-few}
use Rattle.desk_words.specs.declared.reply.Refusal.{Refusal}
use Rattle.desk_words.specs.declared.reply.Refusal.TheVariants.{Rule}
use Rattle.desk_model.specs.declared.plan.Given.{Given}
use Rattle.desk_model.specs.declared.plan.GivenEntry.{GivenEntry}
use Rattle.desk_model.specs.declared.plan.GivenSet.{GivenSet}
use Rattle.desk_model.specs.declared.plan.GivenSet.TheVariants.{Records, Entries}
use Rattle.desk_model.specs.Entries.{is_entry_made, or_entry_fault, entry_at, entries_from}
use Rattle.desk_model.specs.Entries.{entry_set, most_entries}
use Rattle.desk_model.specs.RecordSets.{is_made, with_lines, record_set, most_records, no_sets}
use Rattle.desk_model.specs.RecordSets.{with_set, with_given, given_by_hand}
use Rattle.desk_model.specs.State.{Setting}
use Rattle.desk_model.specs.DocumentSets.{document_of, sets_before, with_yield}
use Rattle.reg_base.specs.declared.tried.Fault.{Fault}
use Rattle.reg_base.specs.declared.tried.Fault.TheVariants.{Refused, Memory}
use Rattle.desk_plans.specs.Bounds.{AreNumbers, HaveNumbers, IsWithinBounds}
use Rattle.desk_plans.specs.Bounds.{GivesNumbersIn}
use Rattle.desk_plans.specs.DocumentParts.{with_sets}
use Rattle.reg_base.specs.Tries.{Tries}

-- what the definition has, the call has
pub IfOk-Tries : {X : Type 0} (P : X → Type 0) (result : Result X (Fault Refusal))
    (definition : Result X Refusal) → Tries result definition → IfOk definition P → IfOk result P
IfOk-Tries P (Ok x) definition is holds =
    subst (λ (r : Result _ Refusal). IfOk r P) is holds
IfOk-Tries P (Err (Refused refusal)) definition is holds = tt
IfOk-Tries P (Err Memory) definition is holds = tt

-- ---- sets

-- what holds of all elements holds where one of them is put in the place of another
All-slice_set : {X : Type 0} (P : X → Type 0) (xs : List X) (place : ℕ) (x : X) → All P xs → P x →
    All P (slice_set xs place x)
All-slice_set P [] place x all is = all
All-slice_set P (y ∷ ys) zero x all is = All-cons P x ys is (All-tail P y ys all)
All-slice_set P (y ∷ ys) (suc place) x all is =
    All-cons P y (slice_set ys place x) (All-head P y ys all)
    (All-slice_set P ys place x (All-tail P y ys all) is)

-- no set yet for each element of a list
abbrev none_for : {A X : Type 0} → List A → List (List X)
none_for xs = map (λ _. []) xs

length-none_for : {A : Type 0} (X : Type 0) (xs : List A) → length (none_for {X = X} xs) ≡ length xs
length-none_for X [] = refl
length-none_for X (x ∷ xs) = ap suc (length-none_for X xs)

-- what holds of the empty set holds of all empty sets
All-none_for : {A X : Type 0} (P : List X → Type 0) (xs : List A) → P [] → All P (none_for xs)
All-none_for P [] is = All-nil P
All-none_for P (x ∷ xs) is = All-cons P [] (none_for xs) is (All-none_for P xs is)

-- a document without records is within bounds
no_sets-bounds : (config : Config) (doc : Doc) → IsWithinLimits config →
    IsWithinBounds (document_of doc (no_sets config))
no_sets-bounds config doc limits = record {
  registers = omega (arith, limits.few_registers, length-none_for Rec config.registers);
  ledgers = omega (arith, limits.few_ledgers, length-none_for Posting config.ledgers);
  records = All-none_for (λ (s : List Rec). length s ≤ 5_000) config.registers (omega arith);
  entries = All-none_for (λ (s : List Posting). length s ≤ 5_000) config.ledgers (omega arith);
  numbers = All-none_for HaveNumbers config.registers (All-nil (λ (r : Rec). AreNumbers r.sums));
}

-- ---- records and entries that are made

length-with_lines : (line date : ℕ) (given : List Given) → length (with_lines line date given)
    ≡ length given
length-with_lines line date [] = refl
length-with_lines line date (g ∷ gs) = ap suc (length-with_lines (line + 1) date gs)

-- the numbers of what is given stay
with_lines-numbers : (line date : ℕ) (given : List Given) →
    All (λ (g : Given). AreNumbers g.sums) given → HaveNumbers (with_lines line date given)
with_lines-numbers line date [] are = All-nil (λ (r : Rec). AreNumbers r.sums)
with_lines-numbers line date (g ∷ gs) are =
    All-cons (λ (r : Rec). AreNumbers r.sums) _ (with_lines (line + 1) date gs)
    (All-head (λ (g : Given). AreNumbers g.sums) g gs are)
    (with_lines-numbers (line + 1) date gs (All-tail (λ (g : Given). AreNumbers g.sums) g gs are))

-- a set of a register: not too long, and no number past the largest one
abbrev IsSet : List Rec → Type 0
IsSet records = (length records ≤ 5_000) × HaveNumbers records

record_set-IsSet : (date : ℕ) (given : List Given) → All (λ (g : Given). AreNumbers g.sums) given →
    IfOk (record_set date given) IsSet
unfolding record_set
record_set-IsSet date given are =
    IfOk-unless IsSet
    (nat_le (length (filter is_made given)) most_records) (Rule TooManyRecords None)
    (λ _. Ok (with_lines 1 date (filter is_made given)))
    (λ few. (
      omega (
        arith,
        leb-true _ most_records few,
        length-with_lines 1 date (filter is_made given),
      ),
      with_lines-numbers 1 date (filter is_made given)
          (All-filter is_made (λ (g : Given). AreNumbers g.sums) given are),
    ))

entry_at-within : (chart : Chart) (date line : ℕ) (given : GivenEntry) →
    IfOk (entry_at chart date line given) (λ _. line ≤ 5_000)
unfolding entry_at
entry_at-within chart date line given =
    IfOk-next (λ _. line ≤ 5_000)
    (or_entry_fault line (entry_check chart given.debit given.credit)) _
    (λ _. IfOk-unless (λ _. line ≤ 5_000) (nat_le line most_entries) (Rule TooManyRecords None) _
    (λ few. leb-true line most_entries few))

entries_from-few : (chart : Chart) (date line : ℕ) (given : List GivenEntry) → line ≤ 5_001 →
    IfOk (entries_from chart date line given) (λ entries. line + length entries ≤ 5_001)
entries_from-few chart date line [] low = omega (arith, low)
entries_from-few chart date line (g ∷ gs) low =
    IfOk-then (λ _. line ≤ 5_000) (λ entries. line + length entries ≤ 5_001)
    (entry_at chart date line g)
    (λ entry. entries_from chart date (line + 1) gs >>= λ entries. Ok (entry ∷ entries))
    (entry_at-within chart date line g)
    (λ entry below. IfOk-then (λ entries. line + 1 + length entries ≤ 5_001)
    (λ entries. line + length entries ≤ 5_001) (entries_from chart date (line + 1) gs)
    (λ entries. Ok (entry ∷ entries))
    (entries_from-few chart date (line + 1) gs (omega (arith, below)))
    (λ entries few. omega (arith, few)))

entry_set-few : (chart : Option Chart) (date : ℕ) (given : List GivenEntry) →
    IfOk (entry_set chart date given) (λ entries. length entries ≤ 5_000)
entry_set-few None date given = omega arith
entry_set-few (Some chart) date given = at (entries_from chart date 1 (filter is_entry_made given))
    (entries_from-few chart date 1 (filter is_entry_made given) (omega arith))
  where
    at : (made : Result (List Posting) Refusal) → IfOk made (λ entries. 1 + length entries ≤ 5_001)
        → IfOk made (λ entries. length entries ≤ 5_000)
    at (Ok entries) few = omega (arith, few)
    at (Err refusal) few = tt

-- ---- documents

with_set-bounds : (config : Config) (date : ℕ) (doc : Doc) (sets : Sets) (set : GivenSet) →
    GivesNumbersIn set → IsWithinBounds (document_of doc sets) →
    IfOk (with_set config date sets set) (λ made. IsWithinBounds (document_of doc made))
with_set-bounds config date doc sets (Records place given) are bounds =
    IfOk-then IsSet (λ made. IsWithinBounds (document_of doc made))
    (record_set date given) _ (record_set-IsSet date given are)
    (λ records is. record {
      registers = omega (arith, bounds.registers, length-set sets.registers place records);
      ledgers = bounds.ledgers;
      records = All-slice_set (λ (s : List Rec). length s ≤ 5_000) sets.registers place records
          bounds.records is.0;
      entries = bounds.entries;
      numbers = All-slice_set HaveNumbers sets.registers place records bounds.numbers is.1;
    })
with_set-bounds config date doc sets (Entries place given) are bounds =
    IfOk-then (λ entries. length entries ≤ 5_000) (λ made. IsWithinBounds (document_of doc made))
    (entry_set (slice_get config.ledgers place) date given) _
    (entry_set-few (slice_get config.ledgers place) date given)
    (λ entries few. record {
      registers = bounds.registers;
      ledgers = omega (arith, bounds.ledgers, length-set sets.ledgers place entries);
      records = bounds.records;
      entries = All-slice_set (λ (s : List Posting). length s ≤ 5_000) sets.ledgers place entries
          bounds.entries few;
      numbers = bounds.numbers;
    })

with_given-bounds : (config : Config) (date : ℕ) (doc : Doc) (sets : Sets)
    (given : List GivenSet) → All GivesNumbersIn given → IsWithinBounds (document_of doc sets) →
    IfOk (with_given config date sets given) (λ made. IsWithinBounds (document_of doc made))
with_given-bounds config date doc sets [] are bounds = bounds
with_given-bounds config date doc sets (set ∷ more) are bounds =
    IfOk-then (λ made. IsWithinBounds (document_of doc made))
    (λ made. IsWithinBounds (document_of doc made)) (with_set config date sets set)
    (λ made. with_given config date made more)
    (with_set-bounds config date doc sets set (All-head GivesNumbersIn set more are) bounds)
    (λ made holds. with_given-bounds config date doc made more
    (All-tail GivesNumbersIn set more are) holds)

-- the one document of an option
ForSome-one : (document : Document) → IsWithinBounds document →
    ForSome (Some document) IsWithinBounds
ForSome-one document bounds d is = subst IsWithinBounds (some-same document d is) bounds
  where
    some-same : (a b : Document) → Some a ≡ Some b → a ≡ b
    some-same a b e = cc

sets_before-bounds : (config : Config) (before : Option Document) (doc : Doc) →
    IsWithinLimits config → ForSome before IsWithinBounds →
    IsWithinBounds (document_of doc (sets_before config before))
sets_before-bounds config None doc limits before = no_sets-bounds config doc limits
sets_before-bounds config (Some d) doc limits before =
    let bounds : IsWithinBounds d = before d refl in
    record {
      registers = bounds.registers;
      ledgers = bounds.ledgers;
      records = bounds.records;
      entries = bounds.entries;
      numbers = bounds.numbers;
    }

-- ---- what rules make

AllZip-numbers : (registers : List Register) (sets : List (List Rec)) →
    AllZip AreRecordsOf registers sets → All HaveNumbers sets
AllZip-numbers [] [] all = All-nil HaveNumbers
AllZip-numbers [] (set ∷ sets) all = absurd all
AllZip-numbers (register ∷ registers) [] all = absurd all
AllZip-numbers (register ∷ registers) (set ∷ sets) all =
    All-cons HaveNumbers set sets all.0.small (AllZip-numbers registers sets all.1)

made-bounds : (config : Config) (doc : Doc) (sets : Sets) → IsWithinLimits config →
    AreSetsOf config sets → IsWithinBounds (document_of doc sets)
made-bounds config doc sets limits are = record {
  registers = omega (arith, limits.few_registers, registers-counted config sets are);
  ledgers = omega (arith, limits.few_ledgers, ledgers-counted config sets are);
  records = records-few config sets are;
  entries = entries-few config sets are;
  numbers = AllZip-numbers config.registers sets.registers are.registers;
}

-- ---- the documents of plans

-- given by hand
pub by_hand-bounds : (config : Config) (doc : Doc) (given : List GivenSet) →
    IsWithinLimits config → All GivesNumbersIn given →
    IfOk (with_sets doc (given_by_hand config doc.date given)) (λ made. ForSome made IsWithinBounds)
by_hand-bounds config doc given limits are =
    IfOk-then (λ sets. IsWithinBounds (document_of doc sets)) (λ made. ForSome made IsWithinBounds)
    (given_by_hand config doc.date given) (λ sets. Ok (Some (document_of doc sets)))
    (with_given-bounds config doc.date doc (no_sets config) given are
    (no_sets-bounds config doc limits))
    (λ sets holds. ForSome-one (document_of doc sets) holds)

-- made by rules
pub with_yield-bounds : (setting : Setting) (doc : Doc) (tried : Result Yield PostFault) →
    IsWithinLimits setting.config → IfOk tried (λ made. AreSetsOf setting.config made.sets) →
    IfOk (with_yield setting doc tried) (λ made. ForSome made IsWithinBounds)
with_yield-bounds setting doc (Ok made) limits are =
    ForSome-one (document_of doc made.sets)
    (made-bounds setting.config doc made.sets limits are)
with_yield-bounds setting doc (Err fault) limits are = tt

-- kept
pub kept-bounds : (config : Config) (before : Option Document) (doc : Doc) →
    IsWithinLimits config → ForSome before IsWithinBounds →
    ForSome (Some (document_of doc (sets_before config before))) IsWithinBounds
kept-bounds config before doc limits bounds =
    ForSome-one (document_of doc (sets_before config before))
    (sets_before-bounds config before doc limits bounds)

-- none
pub none-bounds : (config : Config) (doc : Doc) → IsWithinLimits config →
    ForSome (Some (document_of doc (no_sets config))) IsWithinBounds
none-bounds config doc limits =
    ForSome-one (document_of doc (no_sets config)) (no_sets-bounds config doc limits)
