-- Checks one after another come to what they come to together.
use Rattle.std.proofs.Common.{◌≡◌, ℕ, Bool, true, false, cond, nat_le, List, [], ◌∷◌, ◌++◌, Option}
use Rattle.std.proofs.Common.{Some, None, Ok, Err, refl, ap, sym, ◌∙◌, append_assoc, append-nil}
use Rattle.std.proofs.Common.{arith, length, drop, ◌≤◌, ◌<◌, ◌+◌, zero, suc, get_or, add-one}
use Rattle.std.proofs.Common.{drop-cons}
use Rattle.std.proofs.lemmas.Bool.Decides.{nat_tests}
use Rattle.rule_lang.specs.Least.{why_number, lesser, Checked, both, with_first, with_one}
use Rattle.rule_lang.specs.Least.{each_or_least}
use Rattle.rule_lang.specs.declared.fault.RuleWhy.{RuleWhy}

-- what was found and what speaks against it, with what the others come to
abbrev pub settled : {Y : Type 0} → List Y → Option RuleWhy → Checked (List Y) → Checked (List Y)
settled front None (Ok ys) = Ok (front ++ ys)
settled front None (Err b) = Err b
settled front (Some a) (Ok ys) = Err a
settled front (Some a) (Err b) = Err (lesser a b)

least_by : {A : Type 0} (a b c : A) (k m n : ℕ)
    → cond (nat_le k (cond (nat_le m n) m n)) a (cond (nat_le m n) b c)
    ≡ cond (nat_le (cond (nat_le k m) k m) n) (cond (nat_le k m) a b) c
least_by a b c k m n = grind (arith, nat_tests)

number-cond : (t : Bool) (b c : RuleWhy)
    → why_number (cond t b c) ≡ cond t (why_number b) (why_number c)
number-cond true b c = refl
number-cond false b c = refl

lesser-assoc : (a b c : RuleWhy) → lesser a (lesser b c) ≡ lesser (lesser a b) c
lesser-assoc a b c =
    rw (
      number-cond (nat_le (why_number b) (why_number c)) b c,
      number-cond
          (nat_le (why_number a) (why_number b)) a b,
    )
    (least_by a b c (why_number a) (why_number b) (why_number c))

-- one that is found stands behind those in front
settled-found : {Y : Type 0} (front : List Y) (against : Option RuleWhy) (y : Y)
    (others : Checked (List Y))
    → settled front against (with_first (both (Ok y) others)) ≡ settled (front ++ y ∷ []) against
    others
unfolding both
settled-found front None y (Ok ys) = ap Ok (sym (append_assoc front (y ∷ []) ys))
settled-found front None y (Err b) = refl
settled-found front (Some a) y (Ok ys) = refl
settled-found front (Some a) y (Err b) = refl

-- a reason against one is kept beside those that were there
settled-against : {Y : Type 0} (front : List Y) (against : Option RuleWhy) (why : RuleWhy)
    (others : Checked (List Y))
    → settled front against (with_first (both (Err why) others))
    ≡ settled front (Some (with_one against why)) others
unfolding both
settled-against front None why (Ok ys) = refl
settled-against front None why (Err b) = refl
settled-against front (Some a) why (Ok ys) = refl
settled-against front (Some a) why (Err b) = ap Err (lesser-assoc a why b)

-- what one more check leaves
abbrev pub one_more : {Y : Type 0} → List Y → Option RuleWhy → Checked Y → Checked (List Y)
    → Checked (List Y)
one_more front against (Ok y) others = settled (front ++ y ∷ []) against others
one_more front against (Err why) others = settled front (Some (with_one against why)) others

settled-more : {Y : Type 0} (front : List Y) (against : Option RuleWhy) (first : Checked Y)
    (others : Checked (List Y))
    → settled front against (with_first (both first others)) ≡ one_more front against first others
settled-more front against (Ok y) others = settled-found front against y others
settled-more front against (Err why) others = settled-against front against why others

pub each-more : {X Y : Type 0} (check : X → Checked Y) (front : List Y) (against : Option RuleWhy)
    (x : X) (xs : List X)
    → settled front against (each_or_least check (x ∷ xs)) ≡ one_more front against (check x)
    (each_or_least check xs)
unfolding each_or_least
each-more check front against x xs = settled-more front against (check x) (each_or_least check xs)

-- what stands where no check is left
abbrev pub all_settled : {Y : Type 0} → List Y → Option RuleWhy → Checked (List Y)
all_settled front None = Ok front
all_settled front (Some why) = Err why

pub each-none : {X Y : Type 0} (check : X → Checked Y) (front : List Y) (against : Option RuleWhy)
    → settled front against (each_or_least check []) ≡ all_settled front against
unfolding each_or_least
each-none check front None = ap Ok (append-nil front)
each-none check front (Some why) = refl

-- the check of the element at a place leaves those behind it
pub each-next : {X Y : Type 0} (check : X → Checked Y) (front : List Y) (against : Option RuleWhy)
    (xs : List X) (i : ℕ) (x : X)
    → i < length xs → x ≡ get_or xs i x
    → settled front against (each_or_least check (drop i xs)) ≡ one_more front against (check x)
    (each_or_least check (drop (i + 1) xs))
each-next check front against xs i x below is =
    let place : drop i xs ≡ x ∷ drop (i + 1) xs = rw add-one (drop-cons xs i x below
    ∙ ap (λ y. y ∷ drop (suc i) xs) (sym is)) in
    rw place (each-more check front against x (drop (i + 1) xs))

-- a check that finds
pub each-found : {X Y : Type 0} (check : X → Checked Y) (front : List Y) (against : Option RuleWhy)
    (xs : List X) (i : ℕ) (x : X) (y : Y)
    → i < length xs → x ≡ get_or xs i x → check x ≡ Ok y
    → settled front against (each_or_least check (drop i xs)) ≡ settled (front ++ y ∷ []) against
    (each_or_least check (drop (i + 1) xs))
each-found check front against xs i x y below is found =
    each-next check front against xs i x below is
    ∙ ap (λ r. one_more front against r (each_or_least check (drop (i + 1) xs))) found

-- a check that speaks against
pub each-against : {X Y : Type 0} (check : X → Checked Y) (front : List Y)
    (against : Option RuleWhy) (xs : List X) (i : ℕ) (x : X) (why : RuleWhy)
    → i < length xs → x ≡ get_or xs i x → check x ≡ Err why
    → settled front against (each_or_least check (drop i xs))
    ≡ settled front (Some (with_one against why)) (each_or_least check (drop (i + 1) xs))
each-against check front against xs i x why below is speaks =
    each-next check front against xs i x below is
    ∙ ap (λ r. one_more front against r (each_or_least check (drop (i + 1) xs))) speaks

pub drop-past : {X : Type 0} (xs : List X) (i : ℕ) → length xs ≤ i → drop i xs ≡ []
drop-past [] zero past = refl
drop-past [] (suc i) past = refl
drop-past (x ∷ xs) zero past = absurd (omega arith)
drop-past (x ∷ xs) (suc i) past = drop-past xs i (omega arith)

-- behind the last check stands what was found
pub each-done : {X Y : Type 0} (check : X → Checked Y) (front : List Y) (against : Option RuleWhy)
    (xs : List X) (i : ℕ)
    → length xs ≤ i → settled front against (each_or_least check (drop i xs))
    ≡ all_settled front against
each-done check front against xs i past =
    let none : drop i xs ≡ [] = drop-past xs i past in
    rw none (each-none check front against)

pub ruleset steps = (each-found, each-against, each-done)
