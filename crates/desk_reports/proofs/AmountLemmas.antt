-- No amount of an entry that a command makes is past the largest number.
use Rattle.std.proofs.Common.{◌≡◌, ℕ, zero, suc, ◌+◌, ◌≤◌, ℤ, unsigned_abs, true, nat_le}
use Rattle.std.proofs.Common.{option_map, Option, Some, None, IfSome, List, [], ◌∷◌, map, filter}
use Rattle.std.proofs.Common.{slice_get, slice_set, Result, Ok, Err, IfOk}
use Rattle.std.specs.List.{All, AllZip}
use Rattle.std.specs.Prelude.{⊤}
use Rattle.std.specs.Result.{result_ok}
use Rattle.std.proofs.lemmas.Bool.{le-leb}
use Rattle.std.proofs.lemmas.List.Elements.{All-cons, All-filter, All-head, All-nil, All-tail}
use Rattle.reg_base.specs.declared.num.Num.{Num}
use Rattle.reg_base.specs.declared.num.NumFault.{NumFault}
use Rattle.reg_base.specs.declared.fault.PostFault.{PostFault}
use Rattle.reg_base.specs.declared.fault.PostFault.TheVariants.{TooManyRecords}
use Rattle.reg_base.specs.declared.records.Doc.{Doc}
use Rattle.reg_base.specs.declared.records.Document.{Document}
use Rattle.reg_base.specs.declared.records.Posting.{Posting}
use Rattle.reg_base.specs.declared.records.Sets.{Sets}
use Rattle.reg_base.specs.Numbers.{largest_units, parse_num}
use Rattle.reg_base.specs.Records.{Booked, records_of}
use Rattle.reg_base.specs.Results.{◌>>=◌, each, some_or}
use Rattle.reg_base.proofs.ForAbove.{IfOk-next, IfOk-some_or, IfOk-then, IfOk-unless}
use Rattle.cfg_model.specs.declared.config.Config.{Config}
use Rattle.cfg_model.specs.declared.ledger.Chart.{Chart}
use Rattle.cfg_model.specs.Entries.{entry_check}
use Rattle.rule_lang.specs.declared.rules.Rules.{Rules}
use Rattle.post_model.specs.declared.made.Yield.{Yield}
use Rattle.post_model.specs.Laws.{AreEntries, AreSetsOf}
use Rattle.post_model.specs.Scenes.{is_number}
use Rattle.post_model.specs.Yields.{yield_of}
use Rattle.desk_words.specs.declared.request.LedgerText.{LedgerText}
use Rattle.desk_words.specs.declared.request.RecordText.{RecordText}
use Rattle.desk_words.specs.declared.request.RecordText.TheVariants.{Ledger as InLedger}
use Rattle.desk_words.specs.declared.request.RecordText.TheVariants.{Register as InRegister}
use Rattle.desk_words.specs.declared.request.SetText.{SetText}
use Rattle.desk_words.specs.declared.reply.Field.TheVariants.{Amount, Space as SpaceField}
use Rattle.desk_words.specs.declared.reply.Refusal.TheVariants.{BadField, Rule}
use Rattle.desk_model.specs.declared.plan.GivenEntry.{GivenEntry}
use Rattle.desk_model.specs.declared.plan.GivenSet.{GivenSet}
use Rattle.desk_model.specs.declared.plan.GivenSet.TheVariants.{Entries, Records}
use Rattle.desk_model.specs.declared.plan.Source.{Source}
use Rattle.desk_model.specs.declared.plan.Source.TheVariants.{ByHand, ByRules, Kept, Nothing}
use Rattle.desk_model.specs.declared.plan.Source.TheVariants.{Removed}
use Rattle.desk_model.specs.declared.plan.Space.{Space}
use Rattle.desk_model.specs.declared.plan.Space.TheVariants.{Ledger as LedgerSpace}
use Rattle.desk_model.specs.declared.plan.Space.TheVariants.{Register as RegisterSpace}
use Rattle.desk_model.specs.State.{Setting}
use Rattle.desk_model.specs.DocumentSets.{document_from, document_of, sets_before, with_yield}
use Rattle.desk_model.specs.Entries.{entries_from, entry_at, entry_set, is_entry_made, most_entries}
use Rattle.desk_model.specs.Entries.{or_entry_fault}
use Rattle.desk_model.specs.GivenRecords.{entry_in_ledger, given_entry, given_record, units_in}
use Rattle.desk_model.specs.Manuals.{given_set, sets_in}
use Rattle.desk_model.specs.RecordSets.{given_by_hand, no_sets, record_set, with_given, with_set}

-- ---- what is small

-- the number is not past the largest one
abbrev pub IsSmallAmount : ℤ → Type 0
IsSmallAmount n = is_number n ≡ true

-- no amount of a set of entries is
abbrev pub HasSmallAmounts : List Posting → Type 0
HasSmallAmounts entries = All (λ (e : Posting). IsSmallAmount e.amount) entries

-- no amount of a document's entries is
abbrev pub HasSmallSets : Document → Type 0
HasSmallSets d = All HasSmallAmounts d.sets.ledgers

-- no amount that is given for a ledger is
abbrev pub GivesSmallIn : GivenSet → Type 0
GivesSmallIn (Records place given) = ⊤
GivesSmallIn (Entries place given) = All (λ (g : GivenEntry). IsSmallAmount g.amount) given

-- where entries are given by hand, none of their amounts is
abbrev pub GivesSmall : Source → Type 0
GivesSmall (ByHand given) = All GivesSmallIn given
GivesSmall ByRules = ⊤
GivesSmall Kept = ⊤
GivesSmall Nothing = ⊤
GivesSmall Removed = ⊤

-- ---- what is given by hand

-- what holds of all that can be read holds of each that is
each-All : {F A X : Type 0} (P : X → Type 0) (read : A → Result X F)
    → ((x : A) → IfOk (read x) P) → (xs : List A) → IfOk (each read xs) (All P)
each-All P read is [] = All-nil P
each-All P read is (x ∷ xs) =
    IfOk-then P (All P) (read x) (λ y. each read xs >>= λ ys. Ok (y ∷ ys)) (is x)
    (λ y holds. IfOk-then (All P) (All P) (each read xs) (λ ys. Ok (y ∷ ys))
    (each-All P read is xs) (λ ys all. All-cons P y ys holds all))

module _ (in_range : (text : List ℕ) (scale : ℕ)
    → IfOk (parse_num text scale) (λ n. unsigned_abs n.units ≤ largest_units)) where
  units_in-small : (scale : ℕ) (text : List ℕ) → IfSome (units_in scale text) IsSmallAmount
  units_in-small scale text = at (parse_num text scale) (in_range text scale)
    where
      at : (read : Result Num NumFault) → IfOk read (λ n. unsigned_abs n.units ≤ largest_units)
          → IfSome (option_map (λ (n : Num). n.units) (result_ok read)) IsSmallAmount
      at (Ok n) within = le-leb _ largest_units within
      at (Err fault) within = tt

  entry_in_ledger-small : (chart : Chart) (text : LedgerText)
      → IfOk (entry_in_ledger chart text) (λ (g : GivenEntry). IsSmallAmount g.amount)
  unfolding entry_in_ledger
  entry_in_ledger-small chart text =
      IfOk-then IsSmallAmount (λ (g : GivenEntry). IsSmallAmount g.amount)
      (some_or (units_in chart.scale text.amount) (BadField Amount)) _
      (IfOk-some_or IsSmallAmount (units_in chart.scale text.amount) (BadField Amount)
      (units_in-small chart.scale text.amount)) (λ amount small. small)

  given_entry-small : (chart : Chart) (text : RecordText)
      → IfOk (given_entry chart text) (λ (g : GivenEntry). IsSmallAmount g.amount)
  unfolding given_entry
  given_entry-small chart (InRegister text) = tt
  given_entry-small chart (InLedger text) = entry_in_ledger-small chart text

  given_set-small : (config : Config) (space : Space) (set : SetText)
      → IfOk (given_set config space set) GivesSmallIn
  unfolding given_set
  given_set-small config (RegisterSpace place) set =
      IfOk-next GivesSmallIn (some_or (slice_get config.registers place) (BadField SpaceField)) _
      (λ register. IfOk-next GivesSmallIn (each (given_record register) set.records)
      (λ records. Ok (Records place records)) (λ records. tt))
  given_set-small config (LedgerSpace place) set =
      IfOk-next GivesSmallIn (some_or (slice_get config.ledgers place) (BadField SpaceField)) _
      (λ chart. IfOk-then (All (λ (g : GivenEntry). IsSmallAmount g.amount)) GivesSmallIn
      (each (given_entry chart) set.records) (λ entries. Ok (Entries place entries))
      (each-All (λ (g : GivenEntry). IsSmallAmount g.amount) (given_entry chart)
      (given_entry-small chart) set.records) (λ entries are. are))

  pub sets_in-small : (config : Config) (spaces : List Space) (sets : List SetText)
      → IfOk (sets_in config spaces sets) (All GivesSmallIn)
  sets_in-small config [] sets = All-nil GivesSmallIn
  sets_in-small config (space ∷ spaces) [] = All-nil GivesSmallIn
  sets_in-small config (space ∷ spaces) (set ∷ sets) =
      IfOk-then GivesSmallIn (All GivesSmallIn) (given_set config space set)
      (λ given. sets_in config spaces sets >>= λ more. Ok (given ∷ more))
      (given_set-small config space set)
      (λ given is. IfOk-then (All GivesSmallIn) (All GivesSmallIn)
      (sets_in config spaces sets) (λ more. Ok (given ∷ more))
      (sets_in-small config spaces sets)
      (λ more are. All-cons GivesSmallIn given more is are))

-- ---- the sets of a document

-- what holds of all elements holds where one of them is put in the place of another
All-slice_set : {X : Type 0} (P : X → Type 0) (xs : List X) (place : ℕ) (x : X) → All P xs → P x
    → All P (slice_set xs place x)
All-slice_set P [] place x all is = all
All-slice_set P (y ∷ ys) zero x all is = All-cons P x ys is (All-tail P y ys all)
All-slice_set P (y ∷ ys) (suc place) x all is =
    All-cons P y (slice_set ys place x) (All-head P y ys all)
    (All-slice_set P ys place x (All-tail P y ys all) is)

-- what holds of the empty set holds of all empty sets
All-none_for : {A X : Type 0} (P : List X → Type 0) (xs : List A) → P []
    → All P (map (λ _. []) xs)
All-none_for P [] is = All-nil P
All-none_for P (x ∷ xs) is = All-cons P [] (map (λ _. []) xs) is (All-none_for P xs is)

no_sets-small : (config : Config) (doc : Doc) → HasSmallSets (document_of doc (no_sets config))
no_sets-small config doc = All-none_for HasSmallAmounts config.ledgers
    (All-nil (λ (e : Posting). IsSmallAmount e.amount))

entry_at-small : (chart : Chart) (date line : ℕ) (given : GivenEntry)
    → IsSmallAmount given.amount
    → IfOk (entry_at chart date line given) (λ (e : Posting). IsSmallAmount e.amount)
unfolding entry_at
entry_at-small chart date line given small =
    IfOk-next (λ (e : Posting). IsSmallAmount e.amount)
    (or_entry_fault line (entry_check chart given.debit given.credit)) _
    (λ _. IfOk-unless (λ (e : Posting). IsSmallAmount e.amount) (nat_le line most_entries)
    (Rule TooManyRecords None) _ (λ few. small))

entries_from-small : (chart : Chart) (date line : ℕ) (given : List GivenEntry)
    → All (λ (g : GivenEntry). IsSmallAmount g.amount) given
    → IfOk (entries_from chart date line given) HasSmallAmounts
entries_from-small chart date line [] are = All-nil (λ (e : Posting). IsSmallAmount e.amount)
entries_from-small chart date line (g ∷ gs) are =
    IfOk-then (λ (e : Posting). IsSmallAmount e.amount) HasSmallAmounts
    (entry_at chart date line g)
    (λ entry. entries_from chart date (line + 1) gs >>= λ entries. Ok (entry ∷ entries))
    (entry_at-small chart date line g
    (All-head (λ (g : GivenEntry). IsSmallAmount g.amount) g gs are))
    (λ entry small. IfOk-then HasSmallAmounts HasSmallAmounts
    (entries_from chart date (line + 1) gs) (λ entries. Ok (entry ∷ entries))
    (entries_from-small chart date (line + 1) gs
    (All-tail (λ (g : GivenEntry). IsSmallAmount g.amount) g gs are))
    (λ entries others. All-cons (λ (e : Posting). IsSmallAmount e.amount) entry entries small
    others))

entry_set-small : (chart : Option Chart) (date : ℕ) (given : List GivenEntry)
    → All (λ (g : GivenEntry). IsSmallAmount g.amount) given
    → IfOk (entry_set chart date given) HasSmallAmounts
entry_set-small None date given are = All-nil (λ (e : Posting). IsSmallAmount e.amount)
entry_set-small (Some chart) date given are =
    entries_from-small chart date 1 (filter is_entry_made given)
    (All-filter is_entry_made (λ (g : GivenEntry). IsSmallAmount g.amount) given are)

with_set-small : (config : Config) (date : ℕ) (sets : Sets) (set : GivenSet) → GivesSmallIn set
    → All HasSmallAmounts sets.ledgers
    → IfOk (with_set config date sets set) (λ made. All HasSmallAmounts made.ledgers)
with_set-small config date sets (Records place given) small are =
    IfOk-next (λ made. All HasSmallAmounts made.ledgers) (record_set date given) _
    (λ records. are)
with_set-small config date sets (Entries place given) small are =
    IfOk-then HasSmallAmounts (λ made. All HasSmallAmounts made.ledgers)
    (entry_set (slice_get config.ledgers place) date given) _
    (entry_set-small (slice_get config.ledgers place) date given small)
    (λ entries made. All-slice_set HasSmallAmounts sets.ledgers place entries are made)

with_given-small : (config : Config) (date : ℕ) (sets : Sets) (given : List GivenSet)
    → All GivesSmallIn given → All HasSmallAmounts sets.ledgers
    → IfOk (with_given config date sets given) (λ made. All HasSmallAmounts made.ledgers)
with_given-small config date sets [] small are = are
with_given-small config date sets (set ∷ more) small are =
    IfOk-then (λ made. All HasSmallAmounts made.ledgers)
    (λ made. All HasSmallAmounts made.ledgers) (with_set config date sets set)
    (λ made. with_given config date made more)
    (with_set-small config date sets set (All-head GivesSmallIn set more small) are)
    (λ made holds. with_given-small config date made more (All-tail GivesSmallIn set more small)
    holds)

-- ---- the document of a plan

-- the document that a change leaves, where it leaves one
abbrev pub LeavesSmall : Option Document → Type 0
LeavesSmall after = IfSome after HasSmallSets

AllZip-small : (charts : List Chart) (sets : List (List Posting))
    → AllZip (λ chart entries. AreEntries entries) charts sets → All HasSmallAmounts sets
AllZip-small [] [] all = All-nil HasSmallAmounts
AllZip-small [] (set ∷ sets) all = absurd all
AllZip-small (chart ∷ charts) [] all = absurd all
AllZip-small (chart ∷ charts) (set ∷ sets) all =
    All-cons HasSmallAmounts set sets all.0.small (AllZip-small charts sets all.1)

with_yield-small : (setting : Setting) (doc : Doc) (tried : Result Yield PostFault)
    → IfOk tried (λ made. AreSetsOf setting.config made.sets)
    → IfOk (with_yield setting doc tried) LeavesSmall
with_yield-small setting doc (Ok made) are =
    AllZip-small setting.config.ledgers made.sets.ledgers are.ledgers
with_yield-small setting doc (Err fault) are = tt

sets_before-small : (config : Config) (before : Option Document) (doc : Doc)
    → LeavesSmall before → HasSmallSets (document_of doc (sets_before config before))
sets_before-small config None doc are = no_sets-small config doc
sets_before-small config (Some d) doc are = are

-- what rules make has no amount past the largest number
abbrev pub YieldsAreSmall : Type 0
YieldsAreSmall = (config : Config) (rules : Rules) (doc : Doc) (books : ℕ → List Booked)
    → IfOk (yield_of config rules doc books) (λ made. AreSetsOf config made.sets)

pub document_from-small : YieldsAreSmall → (setting : Setting) (documents : List Document)
    (before : Option Document) (doc : Doc) (source : Source) → GivesSmall source
    → LeavesSmall before
    → IfOk (document_from setting documents before doc source) LeavesSmall
document_from-small yields setting documents before doc (ByHand given) small are =
    IfOk-then (λ sets. All HasSmallAmounts sets.ledgers) LeavesSmall
    (given_by_hand setting.config doc.date given) (λ sets. Ok (Some (document_of doc sets)))
    (with_given-small setting.config doc.date (no_sets setting.config) given small
    (no_sets-small setting.config doc)) (λ sets made. made)
document_from-small yields setting documents before doc ByRules small are =
    with_yield-small setting doc _
    (yields setting.config setting.rules doc (λ register. records_of register documents))
document_from-small yields setting documents before doc Kept small are =
    sets_before-small setting.config before doc are
document_from-small yields setting documents before doc Nothing small are =
    no_sets-small setting.config doc
document_from-small yields setting documents before doc Removed small are = tt
