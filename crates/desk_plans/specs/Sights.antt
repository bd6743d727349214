-- What a change sees, and which plans suit it.
use Rattle.std.specs.Prelude.{◌≡◌, ⊤, Option, IsSome}
use Rattle.std.specs.Option.{option_copied}
use Rattle.reg_base.specs.declared.records.Document.{Document}
use Rattle.desk_model.specs.declared.plan.Plan.{Plan}
use Rattle.desk_model.specs.declared.plan.Source.{Source}
use Rattle.desk_model.specs.declared.plan.Source.TheVariants.{ByHand, ByRules, Kept, Nothing}
use Rattle.desk_model.specs.declared.plan.Source.TheVariants.{Removed}
use Rattle.desk_model.specs.Plans.{Sight}
use Rattle.desk_model.specs.States.{number_with}
use Rattle.desk_plans.specs.Bounds.{GivesNumbers}
use Rattle.desk_plans.specs.declared.sight.Sight.{Sight as SightOf}

-- what is seen, as the machine's changes see it
abbrev pub sight_view : SightOf → Sight
sight_view sight = record {
  before = option_copied sight.before;
  holder = sight.holder;
  closed = sight.closed;
  drawn = sight.drawn;
}

-- only a document that is there is removed
abbrev pub RemovesOne : Option Document → Source → Type 0
RemovesOne before (ByHand given) = ⊤
RemovesOne before ByRules = ⊤
RemovesOne before Kept = ⊤
RemovesOne before Nothing = ⊤
RemovesOne before Removed = IsSome before

-- a plan has the number of the document that it changes, or the drawn one, and what it gives has
-- no number past the largest one
pub record Suits (sight : Sight) (plan : Plan) : Type 0 where
  pub number : plan.doc.number ≡ number_with sight
  pub removes : RemovesOne sight.before plan.source
  pub numbers : GivesNumbers plan.source
