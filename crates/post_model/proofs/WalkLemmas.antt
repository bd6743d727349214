-- A walk over the statements of a document, with two books at once: what holds of every act that
-- runs holds of all that is made.
use Rattle.std.proofs.Common.{◌≡◌, ℕ, ℤ, pos, suc, Bool, true, false, List, [], ◌∷◌, Result, Ok}
use Rattle.std.proofs.Common.{Err, refl}
use Rattle.std.specs.Bool.{beq}
use Rattle.reg_base.specs.Records.{Booked}
use Rattle.reg_base.specs.Results.{◌>>=◌}
use Rattle.reg_base.specs.declared.fault.PostFault.{PostFault}
use Rattle.reg_base.specs.declared.records.Doc.{Doc}
use Rattle.reg_base.specs.declared.value.Cell.{Cell}
use Rattle.cfg_model.specs.declared.config.Config.{Config}
use Rattle.rule_lang.specs.declared.rules.Rules.{Rules}
use Rattle.rule_lang.specs.declared.statement.Act.{Act}
use Rattle.rule_lang.specs.declared.statement.Act.TheVariants.{Make, WriteOff, Require, Control}
use Rattle.rule_lang.specs.declared.statement.Act.TheVariants.{Entry}
use Rattle.rule_lang.specs.declared.statement.Statement.{Statement}
use Rattle.post_model.specs.Scenes.{Scene, when_holds}
use Rattle.post_model.specs.Yields.{passed_over, act_run, run_if, statement_run, run_in_round}
use Rattle.post_model.specs.Yields.{round_run, round_begun, lines_run, nothing_made, statements_for}
use Rattle.post_model.specs.Yields.{yield_of}
use Rattle.post_model.specs.declared.made.Made.{Made}
use Rattle.post_model.specs.declared.made.Yield.{Yield}

-- what was made, at another cost
abbrev pub at_cost : ℤ → Made → Made
at_cost cost made = record made { cost = cost }

-- where a statement of a document runs
abbrev pub scene_of : Doc → ℕ → ℕ → List Cell → ℤ → Scene
scene_of doc rule line cells cost =
    record { doc = doc; rule = rule; line = line; cells = cells; cost = cost }

-- what stands between what was made before, and what is made by each of the books
abbrev pub Relation : Type 1
Relation = Made → Result Made PostFault → Result Made PostFault → Type 0

-- a relation that holds of every act holds of a walk
pub record Carries (config : Config) (doc : Doc) (books others : ℕ → List Booked)
    (R : Relation) : Type 0 where
  pub costs : (made : Made) (cost : ℤ) → R made (Ok (at_cost cost made)) (Ok (at_cost cost made))
  pub stops : (made : Made) (fault : PostFault) → R made (Err fault) (Err fault)
  pub goes_on : (made : Made) (one other : Result Made PostFault)
      (next another : Made → Result Made PostFault) → R made one other
      → ((after : Made) → R after (next after) (another after))
      → R made (one >>= next) (other >>= another)
  pub acts : (rule line : ℕ) (cells : List Cell) (cost : ℤ) (act : Act) (made : Made)
      → R made (act_run config books (scene_of doc rule line cells cost) act made)
      (act_run config others (scene_of doc rule line cells cost) act made)

-- all that a document makes
abbrev pub all_made : Config → Rules → Doc → (ℕ → List Booked) → Result Made PostFault
all_made config rules doc books =
    round_begun config books doc (statements_for rules doc) false 0 [] (nothing_made config)
    >>= lines_run config books doc (statements_for rules doc) 1 doc.lines

-- of it, what is told
abbrev pub told : Made → Yield
told made = record { sets = made.sets; reads = made.reads; controls = made.controls }

bind-assoc : {F X Y Z : Type 0} (r : Result X F) (f : X → Result Y F) (g : Y → Result Z F)
    → (r >>= λ x. f x >>= g) ≡ (r >>= f) >>= g
bind-assoc (Ok x) f g = refl
bind-assoc (Err fault) f g = refl

pub yield_of-all_made : (config : Config) (rules : Rules) (doc : Doc) (books : ℕ → List Booked)
    → yield_of config rules doc books ≡ all_made config rules doc books >>= λ made. Ok (told made)
unfolding yield_of
yield_of-all_made config rules doc books =
    bind-assoc
    (round_begun config books doc (statements_for rules doc) false 0 [] (nothing_made config))
    (lines_run config books doc (statements_for rules doc) 1 doc.lines) (λ made. Ok (told made))

module _ (config : Config) (doc : Doc) (books others : ℕ → List Booked) (R : Relation)
    (carries : Carries config doc books others R) where
  passes : (act : Act) (made : Made)
      → R made (Ok (passed_over act made)) (Ok (passed_over act made))
  passes (WriteOff fifo register binds quantity wanted amount) made = carries.costs made (pos 0)
  passes (Make verb register binds sums) made = carries.costs made made.cost
  passes (Require register binds resource least code) made = carries.costs made made.cost
  passes (Control register resource) made = carries.costs made made.cost
  passes (Entry ledger debit credit amount) made = carries.costs made made.cost

  statement-carries : (rule line : ℕ) (cells : List Cell) (cost : ℤ) (statement : Statement)
      (made : Made)
      → R made (statement_run config books (scene_of doc rule line cells cost) statement made)
      (statement_run config others (scene_of doc rule line cells cost) statement made)
  unfolding statement_run
  statement-carries rule line cells cost statement made = told_to (when_holds scene statement.when)
    where
      scene : Scene
      scene = scene_of doc rule line cells cost

      told_to : (holds : Result Bool PostFault)
          → R made (holds >>= λ h. run_if h config books scene statement.act made)
          (holds >>= λ h. run_if h config others scene statement.act made)
      told_to (Ok true) = carries.acts rule line cells cost statement.act made
      told_to (Ok false) = passes statement.act made
      told_to (Err fault) = carries.stops made fault

  in_round-carries : (runs : Bool) (rule line : ℕ) (cells : List Cell) (cost : ℤ)
      (statement : Statement) (made : Made)
      → R made (run_in_round runs config books (scene_of doc rule line cells cost) statement made)
      (run_in_round runs config others (scene_of doc rule line cells cost) statement made)
  in_round-carries true rule line cells cost statement made =
      statement-carries rule line cells cost statement made
  in_round-carries false rule line cells cost statement made = carries.costs made made.cost

  round-carries : (each : Bool) (line : ℕ) (cells : List Cell) (rule : ℕ)
      (statements : List Statement) (made : Made)
      → R made (round_run config books doc each line cells rule statements made)
      (round_run config others doc each line cells rule statements made)
  unfolding round_run
  round-carries each line cells rule [] made = carries.costs made made.cost
  round-carries each line cells rule (statement ∷ more) made =
      carries.goes_on made _ _ _ _
      (in_round-carries (beq statement.each each) rule line cells made.cost statement made)
      (round-carries each line cells (suc rule) more)

  begun-carries : (each : Bool) (line : ℕ) (cells : List Cell) (statements : List Statement)
      (made : Made)
      → R made (round_begun config books doc statements each line cells made)
      (round_begun config others doc statements each line cells made)
  begun-carries each line cells statements made =
      carries.goes_on made (Ok (at_cost (pos 0) made)) (Ok (at_cost (pos 0) made)) _ _
      (carries.costs made (pos 0)) (round-carries each line cells 1 statements)

  lines-carries : (statements : List Statement) (line : ℕ) (lines : List (List Cell)) (made : Made)
      → R made (lines_run config books doc statements line lines made)
      (lines_run config others doc statements line lines made)
  unfolding lines_run
  lines-carries statements line [] made = carries.costs made made.cost
  lines-carries statements line (cells ∷ more) made =
      carries.goes_on made _ _ _ _ (begun-carries true line cells statements made)
      (lines-carries statements (suc line) more)

  -- and so of all that is made
  pub all_made-carries : (rules : Rules)
      → R (nothing_made config) (all_made config rules doc books) (all_made config rules doc others)
  all_made-carries rules =
      carries.goes_on (nothing_made config) _ _ _ _
      (begun-carries false 0 [] (statements_for rules doc) (nothing_made config))
      (lines-carries (statements_for rules doc) 1 doc.lines)
