-- From how a file begins to what it is.
use Rattle.std.proofs.Common.{◌≡◌, ◌⊎◌, inl, inr, ⊎_elim, ℕ, ◌≤◌, Bool, true, false, List, [], ◌∷◌}
use Rattle.std.proofs.Common.{length, drop, Option, None, Some, IfSome, Ok, Err, refl, sym, ◌∙◌, ap}
use Rattle.std.proofs.Common.{subst, arith}
use Rattle.std.specs.Prelude.{nat_le, ◌==◌, if◌then◌else◌}
use Rattle.std.proofs.lemmas.Bool.{true≢false, and_parts, or_cases, eqb-true, leb-true, not-true}
use Rattle.std.proofs.lemmas.Bool.{lt-leb}
use Rattle.reg_io.specs.Disks.{DiskState}
use Rattle.post_journal.specs.Images.{entries_held, fresh, image_by, image_of, is_begun, is_fresh}
use Rattle.post_journal.specs.Images.{is_open, not_a_journal, run_from}
use Rattle.post_journal.specs.Gates.{HasNoEntries, IsClosedFile, IsContent, IsEmptyJournal}
use Rattle.post_journal.specs.Journals.{HasAll, Keeps, RunsTo, ShowsOnly}
use Rattle.post_journal.specs.Openings.{EndsRun, OpensAs, beginning_of, closes_first, payloads}
use Rattle.post_journal.specs.declared.beginning.Beginning.{Beginning}
use Rattle.post_journal.specs.declared.beginning.Beginning.TheVariants.{Empty, Fresh, Begun, Other}
use Rattle.post_journal.specs.declared.fault.OpenFault.{OpenFault}
use Rattle.post_journal.specs.declared.fault.OpenFault.TheVariants.{NotAJournal, BadEntry}
use Rattle.post_journal.specs.declared.fault.OpenFault.TheVariants.{DiskFault, Memory}
use Rattle.post_journal.specs.declared.journal.Payload.{Payload}
use Rattle.post_journal.proofs.Begins.{fresh_by}
use Rattle.post_journal.proofs.ForAbove.{all_same, none_more}
use Rattle.post_journal.proofs.Gates.{image_is}
use Rattle.post_journal.proofs.Shows.{shows_by, shows_more}

abbrev code : Beginning → ℕ
code Empty = 0
code Fresh = 1
code Begun = 2
code Other = 3

abbrev kind_by : Bool → Bool → Bool → Beginning
kind_by f c b = if f then (if c then Empty else Fresh) else (if b then Begun else Other)

empty_by : (f c b : Bool) → kind_by f c b ≡ Empty → (f ≡ true) × (c ≡ true)
empty_by true true b e = (refl, refl)
empty_by true false b e = absurd (omega (arith, ap code e))
empty_by false c true e = absurd (omega (arith, ap code e))
empty_by false c false e = absurd (omega (arith, ap code e))

fresh_kind : (f c b : Bool) → kind_by f c b ≡ Fresh → (f ≡ true) × (c ≡ false)
fresh_kind true true b e = absurd (omega (arith, ap code e))
fresh_kind true false b e = (refl, refl)
fresh_kind false c true e = absurd (omega (arith, ap code e))
fresh_kind false c false e = absurd (omega (arith, ap code e))

begun_by : (f c b : Bool) → kind_by f c b ≡ Begun → (f ≡ false) × (b ≡ true)
begun_by true true b e = absurd (omega (arith, ap code e))
begun_by true false b e = absurd (omega (arith, ap code e))
begun_by false c true e = (refl, refl)
begun_by false c false e = absurd (omega (arith, ap code e))

other_by : (f c b : Bool) → kind_by f c b ≡ Other → (f ≡ false) × (b ≡ false)
other_by true true b e = absurd (omega (arith, ap code e))
other_by true false b e = absurd (omega (arith, ap code e))
other_by false c true e = absurd (omega (arith, ap code e))
other_by false c false e = (refl, refl)

small_by : (bytes : List ℕ) → closes_first bytes ≡ true → length bytes ≤ 1
small_by bytes is = ⊎_elim
    (λ none. omega (arith, eqb-true (length bytes) 0 none))
    (λ one. omega (arith, eqb-true (length bytes) 1 (and_parts (length bytes == 1) _ one).0))
    (or_cases (length bytes == 0) _ is)

closed_by : (bytes : List ℕ) → is_fresh bytes ≡ true → closes_first bytes ≡ false
    → IsClosedFile bytes
closed_by [] old closes = absurd (true≢false closes)
closed_by (b ∷ []) old closes = record { some = omega arith; small = omega arith; shut = closes }
closed_by (b ∷ c ∷ bytes) old closes =
    let long = lt-leb (length (b ∷ c ∷ bytes)) 1 (omega arith) in
    ⊎_elim
    (λ short. absurd (true≢false (sym short ∙ long)))
    (λ both. let parts = and_parts (nat_le (length (b ∷ c ∷ bytes)) 23) _ both in record {
      some = omega arith;
      small = leb-true (length (b ∷ c ∷ bytes)) 23 parts.0;
      shut = not-true (is_open (b ∷ c ∷ bytes)) parts.1;
    })
    (or_cases (nat_le (length (b ∷ c ∷ bytes)) 1) _ old)

abbrev HasKind : Option (List ℕ) → Beginning → Type 0
HasKind o kind = IfSome o (λ bytes. kind ≡ beginning_of bytes)

pub is_small : (o : Option (List ℕ)) (kind : Beginning) → HasKind o kind → kind ≡ Empty
    → IfSome o (λ bytes. length bytes ≤ 1)
is_small None kind is e = tt
is_small (Some bytes) kind is e = small_by bytes (empty_by _ _ (is_begun bytes) (sym is ∙ e)).1

pub is_closed : (o : Option (List ℕ)) (kind : Beginning) → HasKind o kind → kind ≡ Fresh
    → IfSome o IsClosedFile
is_closed None kind is e = tt
is_closed (Some bytes) kind is e =
    let by = fresh_kind _ _ (is_begun bytes) (sym is ∙ e) in closed_by bytes by.0 by.1

pub is_new : (o : Option (List ℕ)) (kind : Beginning) → HasKind o kind
    → (kind ≡ Empty) ⊎ (kind ≡ Fresh) → IfSome o (λ bytes. image_of bytes ≡ fresh)
is_new None kind is e = tt
is_new (Some bytes) kind is (inl e) =
    fresh_by bytes (empty_by _ (closes_first bytes) (is_begun bytes) (sym is ∙ e)).0
is_new (Some bytes) kind is (inr e) =
    fresh_by bytes (fresh_kind _ (closes_first bytes) (is_begun bytes) (sym is ∙ e)).0

pub begun_run : (o : Option (List ℕ)) (kind : Beginning) → HasKind o kind → kind ≡ Begun
    → IfSome o (λ bytes. image_of bytes ≡ run_from (length bytes) 22 (drop 22 bytes))
begun_run None kind is e = tt
begun_run (Some bytes) kind is e =
    let by = begun_by _ (closes_first bytes) _ (sym is ∙ e) in
    let run = run_from (length bytes) 22 (drop 22 bytes) in
    image_is bytes ∙ ap (λ (b : Bool). image_by b (is_begun bytes) run) by.0
    ∙ ap (λ (b : Bool). image_by false b run) by.1

pub not_begun : (o : Option (List ℕ)) (kind : Beginning) → HasKind o kind → kind ≡ Other
    → IfSome o (λ bytes. image_of bytes ≡ not_a_journal)
not_begun None kind is e = tt
not_begun (Some bytes) kind is e =
    let by = other_by _ (closes_first bytes) _ (sym is ∙ e) in
    let run = run_from (length bytes) 22 (drop 22 bytes) in
    image_is bytes ∙ ap (λ (b : Bool). image_by b (is_begun bytes) run) by.0
    ∙ ap (λ (b : Bool). image_by false b run) by.1

same_empty : (o : Option (List ℕ)) → IfSome o (λ bytes. image_of bytes ≡ fresh)
    → (image : List ℕ) → IfSome o (λ _. HasNoEntries image) → HasAll o [] image
same_empty None new image none = tt
same_empty (Some bytes) new image none =
    none ∙ sym (ap entries_held new) ∙ none_more (entries_held (image_of bytes))

-- what was looked at is as before
pub keeps_looked : (first now : DiskState) → ShowsOnly first now (IsContent first) → Keeps first now
keeps_looked first now shows = shows_by shows (all_same first.content)

-- a file that was to be begun is a journal without entries
pub keeps_begun : (first mid now : DiskState) → ShowsOnly first mid (IsContent first)
    → mid.content ≡ first.content → IfSome first.content (λ bytes. image_of bytes ≡ fresh)
    → ShowsOnly mid now (IsEmptyJournal mid) → Keeps first now
keeps_begun first mid now shows same new begun =
    shows_more (keeps_looked first mid shows) begun (λ image none.
    same_empty first.content new image
    (subst (λ (o : Option (List ℕ)). IfSome o (λ _. HasNoEntries image)) same none))

pub opens_new : {A : Type 0} (o : Option (List ℕ)) (journal : A)
    → IfSome o (λ bytes. image_of bytes ≡ fresh)
    → IfSome o (λ bytes. OpensAs (image_of bytes) (Ok (journal, [])))
opens_new None journal new = tt
opens_new (Some bytes) journal new = ap entries_held new

pub opens_run : {A : Type 0} (o : Option (List ℕ)) (journal : A) (end : ℕ) (entries : List Payload)
    → IfSome o (λ bytes. image_of bytes ≡ run_from (length bytes) 22 (drop 22 bytes))
    → IfSome o (λ bytes. EndsRun (run_from (length bytes) 22 (drop 22 bytes)) (Ok (end, entries)))
    → IfSome o (λ bytes. OpensAs (image_of bytes) (Ok (journal, entries)))
    × IfSome o (RunsTo end)
opens_run None journal end entries is ends = (tt, tt)
opens_run (Some bytes) journal end entries is ends =
    (ap entries_held (is ∙ ends), (payloads entries, is ∙ ends))

pub opens_bad : (A : Type 0) (o : Option (List ℕ)) (e : OpenFault)
    → IfSome o (λ bytes. image_of bytes ≡ run_from (length bytes) 22 (drop 22 bytes))
    → IfSome o (λ bytes. EndsRun (run_from (length bytes) 22 (drop 22 bytes)) (Err e))
    → IfSome o (λ bytes. OpensAs {A = A} (image_of bytes) (Err e))
opens_bad A None e is ends = tt
opens_bad A (Some bytes) NotAJournal is ends = absurd ends
opens_bad A (Some bytes) (BadEntry place) is ends = is ∙ ends
opens_bad A (Some bytes) DiskFault is ends = tt
opens_bad A (Some bytes) Memory is ends = tt

pub opens_empty : (o : Option (List ℕ)) (entries : List Payload) → entries ≡ []
    → IfSome o (λ bytes. image_of bytes ≡ fresh)
    → IfSome o (λ bytes. entries_held (image_of bytes) ≡ Some (payloads entries))
opens_empty None entries none new = tt
opens_empty (Some bytes) entries none new =
    ap entries_held new ∙ ap (λ (l : List Payload). Some (payloads l)) (sym none)

-- what is seen of a file tells how it begins, and how long it is
pub seen_kind : (o : Option (List ℕ)) (kind : Beginning) (len : ℕ)
    → IfSome o (λ bytes. (kind ≡ beginning_of bytes) × (len ≡ length bytes)) → HasKind o kind
seen_kind None kind len seen = tt
seen_kind (Some bytes) kind len seen = seen.0

pub seen_len : (o : Option (List ℕ)) (kind : Beginning) (len : ℕ)
    → IfSome o (λ bytes. (kind ≡ beginning_of bytes) × (len ≡ length bytes))
    → IfSome o (λ bytes. len ≡ length bytes)
seen_len None kind len seen = tt
seen_len (Some bytes) kind len seen = seen.1

pub seen_both : (o : Option (List ℕ)) (kind : Beginning) (len : ℕ) → HasKind o kind
    → IfSome o (λ bytes. len ≡ length bytes)
    → IfSome o (λ bytes. (kind ≡ beginning_of bytes) × (len ≡ length bytes))
seen_both None kind len is long = tt
seen_both (Some bytes) kind len is long = (is, long)
