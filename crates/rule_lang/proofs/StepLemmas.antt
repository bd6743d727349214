-- What holds of a value that is made in steps.
use Rattle.std.proofs.Common.{◌≡◌, suc, zero, Bool, true, false, List, [], ◌∷◌, Option, Some, None}
use Rattle.std.proofs.Common.{Result, Ok, Err, IfOk, refl, arith}
use Rattle.std.specs.Bool.{⊤}
use Rattle.std.specs.List.{All, AllZip}
use Rattle.reg_base.specs.Results.{◌>>=◌, unless, some_or}
use Rattle.rule_lang.specs.Least.{Checked, both, beside, with_first, each_or_least}

-- what holds of the first step's value, and then of the second's
pub step-IfOk : {F X Y : Type 0} (next : X → Result Y F) (Q : Y → Type 0) (first : Result X F)
    (P : X → Type 0)
    → IfOk first P → ((x : X) → P x → IfOk (next x) Q) → IfOk (first >>= next) Q
step-IfOk next Q (Ok x) P holds others = others x holds
step-IfOk next Q (Err fault) P holds others = tt

-- what holds of the second step's value, whatever the first's is
pub skip-IfOk : {F X Y : Type 0} (next : X → Result Y F) (Q : Y → Type 0) (first : Result X F)
    → ((x : X) → IfOk (next x) Q) → IfOk (first >>= next) Q
skip-IfOk next Q (Ok x) others = others x
skip-IfOk next Q (Err fault) others = tt

-- what holds where there was a value
pub some-IfOk : {F X Y : Type 0} (next : X → Result Y F) (Q : Y → Type 0) (found : Option X)
    (fault : F)
    → ((x : X) → found ≡ Some x → IfOk (next x) Q) → IfOk (some_or found fault >>= next) Q
some-IfOk next Q (Some x) fault others = others x refl
some-IfOk next Q None fault others = tt

-- what holds where the test held
pub must-IfOk : {F Y : Type 0} (next : Unit {0} → Result Y F) (Q : Y
    → Type 0) (test : Bool) (fault : F)
    → ((u : Unit {0}) → test ≡ true → IfOk (next u) Q) → IfOk (unless test fault >>= next) Q
must-IfOk next Q true fault others = others tt refl
must-IfOk next Q false fault others = tt

pub any-IfOk : {F X : Type 0} (r : Result X F) → IfOk r (λ _. ⊤)
any-IfOk (Ok x) = tt
any-IfOk (Err fault) = tt

pub unless-IfOk : {F : Type 0} (test : Bool) (fault : F)
    → IfOk (unless test fault) (λ _. test ≡ true)
unless-IfOk true fault = refl
unless-IfOk false fault = tt

-- what holds of each of both
pub both-IfOk : {X Y : Type 0} (a : Checked X) (b : Checked Y) (P : X → Type 0) (Q : Y → Type 0)
    → IfOk a P → IfOk b Q → IfOk (both a b) (λ p. P p.0 × Q p.1)
unfolding both
both-IfOk (Ok x) (Ok y) P Q p q = (p, q)
both-IfOk (Ok x) (Err w) P Q p q = tt
both-IfOk (Err v) (Ok y) P Q p q = tt
both-IfOk (Err v) (Err w) P Q p q = tt

-- what holds of the value, where what is checked beside fits
pub beside-IfOk : {X : Type 0} (fit : Checked (Unit {0})) (a : Checked X) (F : Type 0) (P : X
    → Type 0)
    → IfOk fit (λ _. F) → IfOk a P → IfOk (beside fit a) (λ x. F × P x)
unfolding beside
beside-IfOk (Ok u) (Ok x) F P f p = (f, p)
beside-IfOk (Ok u) (Err w) F P f p = tt
beside-IfOk (Err v) (Ok x) F P f p = tt
beside-IfOk (Err v) (Err w) F P f p = tt

with_first-IfOk : {X Y : Type 0} (R : X → Y → Type 0) (x : X) (xs : List X)
    (p : Checked (Y × List Y)) → IfOk p (λ q. R x q.0 × AllZip R xs q.1)
    → IfOk (with_first p) (AllZip R (x ∷ xs))
with_first-IfOk R x xs (Ok q) h = h
with_first-IfOk R x xs (Err w) h = tt

-- each of them with its value
pub each-IfOk : {X Y : Type 0} (check : X → Checked Y) (R : X → Y → Type 0)
    → ((x : X) → IfOk (check x) (R x)) → (xs : List X) → IfOk (each_or_least check xs) (AllZip R xs)
unfolding each_or_least
each-IfOk check R holds [] = tt
each-IfOk check R holds (x ∷ xs) = with_first-IfOk R x xs (both (check x) (each_or_least check xs))
    (both-IfOk (check x) (each_or_least check xs) (R x) (AllZip R xs) (holds x)
    (each-IfOk check R holds xs))

-- what holds of the first and of the others holds of each
pub All-cons : {X : Type 0} (P : X → Type 0) (x : X) (xs : List X) → P x → All P xs → All P (x ∷ xs)
All-cons P x xs p ps zero d l = p
All-cons P x xs p ps (suc k) d l = ps k d (omega arith)

-- what follows of each follows of all
pub All-follows : {X : Type 0} (P Q : X → Type 0) → ((x : X) → P x → Q x) → (xs : List X) → All P xs
    → All Q xs
All-follows P Q so xs ps k d l = so _ (ps k d l)

-- what follows of each two follows of two lists
pub AllZip-follows : {X Y : Type 0} (P Q : X → Y → Type 0) → ((x : X) (y : Y) → P x y → Q x y)
    → (xs : List X) (ys : List Y) → AllZip P xs ys → AllZip Q xs ys
AllZip-follows P Q so [] [] h = h
AllZip-follows P Q so [] (y ∷ ys) h = h
AllZip-follows P Q so (x ∷ xs) [] h = h
AllZip-follows P Q so (x ∷ xs) (y ∷ ys) h = (so x y h.0, AllZip-follows P Q so xs ys h.1)

-- what follows of the value
pub IfOk-follows : {F X : Type 0} (r : Result X F) (P Q : X → Type 0) → ((x : X) → P x → Q x)
    → IfOk r P → IfOk r Q
IfOk-follows (Ok x) P Q so h = so x h
IfOk-follows (Err fault) P Q so h = tt

-- the value is that of the answer
pub self-IfOk : {F X : Type 0} (r : Result X F) → IfOk r (λ x. r ≡ Ok x)
self-IfOk (Ok x) = refl
self-IfOk (Err fault) = tt
