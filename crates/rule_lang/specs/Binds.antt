-- The dimensions and resources of a register with what is given them.
use Rattle.std.specs.Prelude.{ℕ, Bool, true, false, not, ◌&&◌, ◌||◌, List, [], ◌∷◌, Some, Ok}
use Rattle.std.specs.List.{list_any, list_all}
use Rattle.reg_base.specs.Results.{◌>>=◌, unless}
use Rattle.cfg_model.specs.declared.kind.Kind.{Kind}
use Rattle.cfg_model.specs.declared.register.Dimension.{Dimension}
use Rattle.cfg_model.specs.declared.register.Register.{Register}
use Rattle.rule_text.specs.Fronts.{is_spelt}
use Rattle.rule_text.specs.declared.token.Spelling.{Spelling}
use Rattle.rule_text.specs.declared.token.Spelling.TheVariants.{Named, Other}
use Rattle.rule_text.specs.declared.plain.PlainAmount.{PlainAmount}
use Rattle.rule_text.specs.declared.plain.PlainBind.{PlainBind}
use Rattle.rule_text.specs.declared.plain.PlainTo.{PlainTo}
use Rattle.rule_text.specs.declared.plain.PlainTo.TheVariants.{Code as PlainCodeTo}
use Rattle.rule_text.specs.declared.plain.PlainTo.TheVariants.{Point as PlainPoint}
use Rattle.rule_lang.specs.Least.{Checked, beside}
use Rattle.rule_lang.specs.Fields.{place_of, item_at}
use Rattle.rule_lang.specs.Terms.{resolved_code, resolved_sum}
use Rattle.rule_lang.specs.declared.fault.RuleWhy.TheVariants.{WrongType}
use Rattle.rule_lang.specs.declared.terms.Round.{Round}
use Rattle.rule_lang.specs.declared.statement.Bind.{Bind}
use Rattle.rule_lang.specs.declared.statement.BindTo.{BindTo}
use Rattle.rule_lang.specs.declared.statement.BindTo.TheVariants.{Code, Point}
use Rattle.rule_lang.specs.declared.statement.Sum.{Sum}

-- `point` for a lot, and a code for every other dimension
unfoldable pub resolved_bind_to : Kind → Round → Bool → PlainTo → Checked BindTo
resolved_bind_to kind round lot PlainPoint = do
  _ ← unless lot WrongType
  Ok Point
resolved_bind_to kind round lot (PlainCodeTo plain) = do
  code ← beside (unless (not lot) WrongType) (resolved_code kind round plain)
  Ok (Code code)

-- a dimension of the register with its value
unfoldable pub resolved_bind : Kind → Round → Register → PlainBind → Checked Bind
resolved_bind kind round register plain = do
  place ← place_of (λ d. d.name) register.dimensions plain.dimension
  dimension ← item_at register.dimensions place
  to ← resolved_bind_to kind round dimension.lot plain.to
  Ok (record { dimension = place; to = to })

-- a resource of the register with its number
unfoldable pub resolved_amount : Kind → Round → Register → PlainAmount → Checked (ℕ × Sum)
resolved_amount kind round register plain = do
  place ← place_of (λ r. r.name) register.resources plain.resource
  resource ← item_at register.resources place
  sum ← resolved_sum kind round (Some resource.scale) plain.sum
  Ok (place, sum)

-- whether the dimension has a value
abbrev pub is_bound : List PlainBind → Dimension → Bool
is_bound binds dimension = list_any (λ b. is_spelt dimension.name b.dimension) binds

-- whether each dimension has a value, or is a lot where lots need none
abbrev pub binds_each_dimension : Bool → Register → List PlainBind → Bool
binds_each_dimension lots_free register binds =
    list_all (λ d. (lots_free && d.lot) || is_bound binds d) register.dimensions

-- whether two words are one name
abbrev pub same_name : Spelling → Spelling → Bool
same_name Other second = false
same_name (Named name) second = is_spelt name second

-- whether no name stands twice
unfoldable pub none_twice : {X : Type 0} → (X → Spelling) → List X → Bool
none_twice word_of [] = true
none_twice word_of (x ∷ xs) =
    not (list_any (λ y. same_name (word_of x) (word_of y)) xs) && none_twice word_of xs
