-- What a kept sequence means for each statement.
use Rattle.std.proofs.Common.{◌≡◌, ℕ, Bool, true, false, not, cond, ◌&&◌, ◌||◌, List, Option, Some}
use Rattle.std.proofs.Common.{None, refl, ap, sym, ◌∙◌, subst, slice_get}
use Rattle.std.proofs.lemmas.Bool.{and_parts}
use Rattle.std.proofs.lemmas.List.Folds.{Any-from_list_any, list_any-from_Any}
use Rattle.std.proofs.lemmas.List.Sums.{AllPass-from_list_all}
use Rattle.std.proofs.lemmas.Slice.Eq.{bytes_eq-Decides}
use Rattle.std.specs.List.{list_all, Any, Contains}
use Rattle.std.specs.Str.{bytes_eq}
use Rattle.reg_base.specs.declared.point.Point.{Point as PointValue}
use Rattle.reg_base.specs.declared.value.Value.{Value}
use Rattle.cfg_model.specs.declared.config.Config.{Config}
use Rattle.cfg_model.specs.declared.kind.Field.{Field}
use Rattle.cfg_model.specs.declared.kind.Kind.{Kind}
use Rattle.cfg_model.specs.declared.register.Dimension.{Dimension}
use Rattle.cfg_model.specs.declared.register.Register.{Register}
use Rattle.cfg_model.specs.declared.sequence.Sequence.{Sequence}
use Rattle.rule_lang.specs.Sequences.{is_among, is_head_field, is_dimension, binds_head}
use Rattle.rule_lang.specs.Sequences.{binds_each_head, sequence_fits, kept_by, all_kept}
use Rattle.rule_lang.specs.Sequences.{sequences_fit, keeps_sequences}
use Rattle.rule_lang.specs.SequenceLaws.{value_of_bind, HasValuesOf, HasHeadValue, KeepsSequence}
use Rattle.rule_lang.specs.SequenceLaws.{KeepsAct, KeepsSequences}
use Rattle.rule_lang.specs.declared.statement.Act.{Act}
use Rattle.rule_lang.specs.declared.statement.Act.TheVariants.{Make, WriteOff, Require, Control}
use Rattle.rule_lang.specs.declared.statement.Act.TheVariants.{Entry}
use Rattle.rule_lang.specs.declared.statement.Bind.{Bind}
use Rattle.rule_lang.specs.declared.statement.BindTo.{BindTo}
use Rattle.rule_lang.specs.declared.statement.BindTo.TheVariants.{Code, Point}
use Rattle.rule_lang.specs.declared.statement.CodeTerm.TheVariants.{Text, Head, Line}
use Rattle.rule_lang.proofs.StepLemmas.{All-follows}

-- the bind gives the register's dimension of the name the head's field of that name
record BindsHead (register : Register) (kind : Kind) (name : List ℕ) (bind : Bind) : Type 0 where
  dimension : Dimension
  dimension_found : slice_get register.dimensions bind.dimension ≡ Some dimension
  dimension_named : dimension.name ≡ name
  place : ℕ
  bound : bind.to ≡ Code (Head place)
  field : Field
  field_found : slice_get kind.head place ≡ Some field
  field_named : field.name ≡ name

-- what each passes an element passes
passes-element : {X : Type 0} (test : X → Bool) (xs : List X) (x : X) → list_all test xs ≡ true
    → Contains xs x → test x ≡ true
passes-element test xs x all at = sym (ap test at.2) ∙ AllPass-from_list_all test xs all at.0 x at.1

found-Contains : (names : List (List ℕ)) (name : List ℕ) → is_among names name ≡ true
    → Contains names name
found-Contains names name e = by_name (Any-from_list_any (λ n. bytes_eq n name) names e)
  where
    by_name : Any (λ n. bytes_eq n name ≡ true) names → Contains names name
    by_name found = rw (sym ((bytes_eq-Decides found.1 name).0 found.4)) (found.0, found.2, found.3)

Contains-found : (names : List (List ℕ)) (name : List ℕ) → Contains names name
    → is_among names name ≡ true
Contains-found names name at = list_any-from_Any (λ n. bytes_eq n name) names
    (at.0, name, at.1, at.2, (bytes_eq-Decides name name).1 refl)

-- the dimension that has the name
dimension-named : (dimensions : List Dimension) (name : List ℕ) (place : ℕ)
    (found : Option Dimension) → slice_get dimensions place ≡ found
    → is_dimension dimensions name place ≡ true
    → (d : Dimension) × (slice_get dimensions place ≡ Some d) × (d.name ≡ name)
dimension-named dimensions name place (Some d) at e = (
  d,
  at,
  (bytes_eq-Decides d.name name).0
      (sym same ∙ e),
)
  where
    same : is_dimension dimensions name place ≡ bytes_eq d.name name
    same = rw at refl
dimension-named dimensions name place None at e = absurd (unlike (sym same ∙ e))
  where
    same : is_dimension dimensions name place ≡ false
    same = rw at refl

    unlike : false ≡ true → ⊥
    unlike f = cc

-- the field of the head that has the name
field-named : (head : List Field) (name : List ℕ) (place : ℕ) (found : Option Field)
    → slice_get head place ≡ found
    → is_head_field head name (Code (Head place)) ≡ true
    → (f : Field) × (slice_get head place ≡ Some f) × (f.name ≡ name)
field-named head name place (Some f) at e = (f, at, (bytes_eq-Decides f.name name).0 (sym same ∙ e))
  where
    same : is_head_field head name (Code (Head place)) ≡ bytes_eq f.name name
    same = rw at refl
field-named head name place None at e = absurd (unlike (sym same ∙ e))
  where
    same : is_head_field head name (Code (Head place)) ≡ false
    same = rw at refl

    unlike : false ≡ true → ⊥
    unlike f = cc

bound-to : (head : List Field) (name : List ℕ) (to : BindTo) → is_head_field head name to ≡ true
    → (place : ℕ) × (to ≡ Code (Head place)) × (f : Field) × (slice_get head place ≡ Some f)
    × (f.name ≡ name)
bound-to head name Point e = absurd (cc)
bound-to head name (Code (Text code)) e = absurd (cc)
bound-to head name (Code (Line place)) e = absurd (cc)
bound-to head name (Code (Head place)) e =
    let (f, at, named) = field-named head name place (slice_get head place) refl e in
    (place, refl, f, at, named)

binds-true : (register : Register) (kind : Kind) (name : List ℕ) (bind : Bind)
    → is_dimension register.dimensions name bind.dimension && is_head_field kind.head name bind.to
    ≡ true → BindsHead register kind name bind
binds-true register kind name bind e =
    of (dimension-named register.dimensions name bind.dimension
    (slice_get register.dimensions bind.dimension) refl (and_parts _ _ e).0)
    (bound-to kind.head name bind.to (and_parts _ _ e).1)
  where
    of : ((d : Dimension) × (slice_get register.dimensions bind.dimension ≡ Some d) × (d.name
        ≡ name))
        → ((place : ℕ) × (bind.to ≡ Code (Head place)) × (f : Field) × (slice_get kind.head place
        ≡ Some f) × (f.name ≡ name))
        → BindsHead register kind name bind
    of a b = record {
      dimension = a.0;
      dimension_found = a.1;
      dimension_named = a.2;
      place = b.0;
      bound = b.1;
      field = b.2;
      field_found = b.3;
      field_named = b.4;
    }

binds_head-true : (register : Register) (kind : Kind) (binds : List Bind) (name : List ℕ)
    → binds_head register kind binds name ≡ true → Any (BindsHead register kind name) binds
binds_head-true register kind binds name e = by_bind (Any-from_list_any _ binds e)
  where
    by_bind : Any (λ b. is_dimension register.dimensions name b.dimension && is_head_field kind.head
        name b.to ≡ true) binds
        → Any (BindsHead register kind name) binds
    by_bind found = (
      found.0,
      found.1,
      found.2,
      found.3,
      binds-true register kind name found.1
          found.4,
    )

or-true-at : (a b : Bool) → a ≡ true → (not a || b) ≡ true → b ≡ true
or-true-at true b is e = e
or-true-at false b is e = absurd (cc)

cond-reads : (a b r : Bool) → cond a b (not r) ≡ true → r ≡ true → a ≡ true
cond-reads true b r e is = refl
cond-reads false b true e is = absurd (cc)
cond-reads false b false e is = absurd (cc)

cond-at : (a b c : Bool) → a ≡ true → cond a b c ≡ true → b ≡ true
cond-at true b c is e = e
cond-at false b c is e = absurd (cc)

-- what is bound to the head has its value
head-value : (register : Register) (kind : Kind) (binds : List Bind) (head line : List Value)
    (point : PointValue) (values : List Value) → HasValuesOf head line point binds values
    → (name : List ℕ) → Any (BindsHead register kind name) binds
    → HasHeadValue register kind head values name
unfolding value_of_bind
head-value register kind binds head line point values has name found =
    let bind : Bind = found.1 in
    let is : BindsHead register kind name bind = found.4 in
    let value : slice_get values bind.dimension ≡ value_of_bind head line point bind.to =
    subst (λ b. slice_get values b.dimension ≡ value_of_bind head line point b.to) found.3
    (has found.0 found.1 found.2) in
    record {
      dimension_place = bind.dimension;
      dimension = is.dimension;
      dimension_found = is.dimension_found;
      dimension_named = is.dimension_named;
      field_place = is.place;
      field = is.field;
      field_found = is.field_found;
      field_named = is.field_named;
      same_value = value ∙ ap (value_of_bind head line point) is.bound;
    }

-- a sequence that is kept, in words
fits-true : (register : Register) (kind : Kind) (binds : List Bind) (reads : Bool)
    (sequence : Sequence) → sequence_fits register kind binds reads sequence ≡ true
    → KeepsSequence register kind binds reads sequence
unfolding sequence_fits
fits-true register kind binds reads sequence e = record {
  affects = λ is. found-Contains sequence.registers register.name
      (cond-reads _ (binds_each_head register kind binds sequence.dimensions) reads e is);
  head_values = λ at head line point values has.
      All-follows (λ name. binds_head register kind binds name ≡ true)
      (HasHeadValue register kind head values)
      (λ name is. head-value register kind binds head line point values has name
      (binds_head-true register kind binds name is)) sequence.dimensions
      (AllPass-from_list_all (binds_head register kind binds) sequence.dimensions
      (cond-at _ _ (not reads) (Contains-found sequence.registers register.name at) e));
}

kept-true : (register : Register) (kind : Kind) (binds : List Bind) (reads : Bool)
    (sequences : List Sequence) (sequence : Sequence)
    → all_kept register kind binds reads sequences ≡ true → Contains sequences sequence
    → Contains sequence.kinds kind.name
    → KeepsSequence register kind binds reads sequence
kept-true register kind binds reads sequences sequence all at stands = fits-true register kind binds
    reads sequence
    (or-true-at _ _ (Contains-found sequence.kinds kind.name stands)
    (passes-element (kept_by register kind binds reads) sequences sequence all at))

fit-at : (config : Config) (kind : Kind) (place : ℕ) (binds : List Bind) (reads : Bool)
    (register : Register)
    → slice_get config.registers place ≡ Some register
    → sequences_fit config kind place binds reads ≡ all_kept register kind binds reads
    config.sequences
unfolding sequences_fit
fit-at config kind place binds reads register at = rw at refl

on_register : (config : Config) (kind : Kind) (place : ℕ) (binds : List Bind) (reads : Bool)
    (sequence : Sequence)
    → sequences_fit config kind place binds reads ≡ true → Contains config.sequences sequence
    → Contains sequence.kinds kind.name
    → (register : Register) → slice_get config.registers place ≡ Some register
    → KeepsSequence register kind binds reads sequence
on_register config kind place binds reads sequence e at stands register found =
    kept-true register kind binds reads config.sequences sequence
    (sym (fit-at config kind place binds reads register found) ∙ e) at stands

-- an act that keeps the sequences, in words
pub keeps_sequences-true : (config : Config) (kind : Kind) (act : Act)
    → keeps_sequences config kind act ≡ true → KeepsSequences config kind act
unfolding keeps_sequences KeepsAct
keeps_sequences-true config kind (Make verb place binds sums) e sequence at stands = on_register
    config kind place binds false sequence e at stands
keeps_sequences-true config kind (WriteOff fifo place binds quantity wanted amount) e sequence at
    stands = on_register config kind place binds true sequence e at stands
keeps_sequences-true config kind (Require place binds resource least code) e sequence at stands =
    on_register config kind place binds true sequence e at stands
keeps_sequences-true config kind (Control register resource) e sequence at stands = tt
keeps_sequences-true config kind (Entry ledger debit credit amount) e sequence at stands = tt
