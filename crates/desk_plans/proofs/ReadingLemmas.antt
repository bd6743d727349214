-- Reading one element after another.
use Rattle.std.proofs.Common.{◌≡◌, ℕ, ◌+◌, ◌<◌, ◌≤◌, List, [], ◌∷◌, ◌++◌, length, drop}
use Rattle.std.proofs.Common.{get_or, suc, Result, Ok, Err, refl, ap, ◌∙◌, sym, arith, add-one}
use Rattle.std.proofs.Common.{drop-cons, append-nil, append_assoc}
use Rattle.std.proofs.lemmas.List.{drop_all}
use Rattle.reg_base.specs.Results.{◌>>=◌}
use Rattle.desk_words.specs.declared.reply.Refusal.{Refusal}
use Rattle.cfg_model.specs.declared.config.Config.{Config}
use Rattle.desk_words.specs.declared.request.SetText.{SetText}
use Rattle.desk_model.specs.declared.plan.GivenSet.{GivenSet}
use Rattle.desk_model.specs.declared.plan.Space.{Space}
use Rattle.reg_base.specs.Results.{each}
use Rattle.desk_model.specs.Manuals.{given_set, sets_in}

-- what was read, and then what is left to be read
abbrev pub following : {X : Type 0} → List X → Result (List X) Refusal → Result (List X) Refusal
following front rest = rest >>= λ xs. Ok (front ++ xs)

following-one : {X : Type 0} (front : List X) (x : X) (rest : Result (List X) Refusal) →
    following front (Ok x >>= λ y. rest >>= λ ys. Ok (y ∷ ys)) ≡ following (front ++ x ∷ []) rest
following-one front x (Ok xs) = ap Ok (sym (append_assoc front (x ∷ []) xs))
following-one front x (Err refusal) = refl

-- what is read of the first element, and then of the others
abbrev pub step_of : {X : Type 0} → Result X Refusal → Result (List X) Refusal →
    Result (List X) Refusal
step_of first rest = first >>= λ y. rest >>= λ ys. Ok (y ∷ ys)

-- the first of what is ahead is read
pub following-read : {X : Type 0} (ahead rest : Result (List X) Refusal) (first : Result X Refusal)
    (front new : List X) (y : X) (all : Result (List X) Refusal) → ahead ≡ step_of first rest →
    Ok y ≡ first → new ≡ front ++ y ∷ [] → following front ahead ≡ all → following new rest ≡ all
following-read ahead rest first front new y all is read_is pushed so_far =
    ap (λ f. following f rest) pushed
    ∙ sym (following-one front y rest)
    ∙ ap (λ r. following front (step_of r rest)) read_is
    ∙ ap (following front) (sym is)
    ∙ so_far

-- the first of what is ahead is refused
pub following-stops : {X : Type 0} (ahead rest : Result (List X) Refusal)
    (first : Result X Refusal) (front : List X) (refusal : Refusal)
    (all : Result (List X) Refusal) → ahead ≡ step_of first rest → Err refusal ≡ first →
    following front ahead ≡ all → Err refusal ≡ all
following-stops ahead rest first front refusal all is read_is so_far =
    ap (λ r. following front (step_of r rest)) read_is
    ∙ ap (following front) (sym is)
    ∙ so_far

-- the elements from a place on are the one there and those behind it
pub drop_at : {A : Type 0} (xs : List A) (i : ℕ) (x : A) → i < length xs → x ≡ get_or xs i x →
    drop i xs ≡ x ∷ drop (i + 1) xs
drop_at xs i x below is =
    rw add-one (drop-cons xs i x below ∙ ap (λ y. y ∷ drop (suc i) xs) (sym is))

-- one more element is read
pub following-next : {A X : Type 0} (read : A → Result X Refusal) (ahead rest : List A) (x : A)
    (front new : List X) (y : X) (all : Result (List X) Refusal) → ahead ≡ x ∷ rest →
    Ok y ≡ read x → new ≡ front ++ y ∷ [] → following front (each read ahead) ≡ all →
    following new (each read rest) ≡ all
following-next read ahead rest x front new y all first read_is pushed so_far =
    following-read (each read ahead) (each read rest) (read x) front new y all
    (ap (each read) first) read_is pushed so_far

-- an element that is refused refuses all
pub following-refused : {A X : Type 0} (read : A → Result X Refusal) (ahead rest : List A) (x : A)
    (front : List X) (refusal : Refusal) (all : Result (List X) Refusal) → ahead ≡ x ∷ rest →
    Err refusal ≡ read x → following front (each read ahead) ≡ all → Err refusal ≡ all
following-refused read ahead rest x front refusal all first read_is so_far =
    following-stops (each read ahead) (each read rest) (read x) front refusal all
    (ap (each read) first) read_is so_far

-- no element is left
pub following-done : {A X : Type 0} (read : A → Result X Refusal) (xs : List A) (i : ℕ)
    (front : List X) (all : Result (List X) Refusal) → length xs ≤ i →
    following front (each read (drop i xs)) ≡ all → Ok front ≡ all
following-done read xs i front all spent so_far =
    ap Ok (sym (append-nil front))
    ∙ ap (λ ds. following front (each read ds)) (sym (drop_all i xs spent)) ∙ so_far

-- one more set is read
pub sets_in-next : (config : Config) (spaces_ahead spaces_rest : List Space)
    (ahead rest : List SetText) (space : Space) (set : SetText) (front new : List GivenSet)
    (given : GivenSet) (all : Result (List GivenSet) Refusal) →
    spaces_ahead ≡ space ∷ spaces_rest → ahead ≡ set ∷ rest →
    Ok given ≡ given_set config space set → new ≡ front ++ given ∷ [] →
    following front (sets_in config spaces_ahead ahead) ≡ all →
    following new (sets_in config spaces_rest rest) ≡ all
sets_in-next config spaces_ahead spaces_rest ahead rest space set front new given all first_space
    first read_is pushed so_far =
    following-read (sets_in config spaces_ahead ahead) (sets_in config spaces_rest rest)
    (given_set config space set) front new given all
    (λ j. sets_in config (first_space j) (first j)) read_is pushed so_far

-- a set that is refused refuses all
pub sets_in-refused : (config : Config) (spaces_ahead spaces_rest : List Space)
    (ahead rest : List SetText) (space : Space) (set : SetText) (front : List GivenSet)
    (refusal : Refusal) (all : Result (List GivenSet) Refusal) →
    spaces_ahead ≡ space ∷ spaces_rest → ahead ≡ set ∷ rest →
    Err refusal ≡ given_set config space set →
    following front (sets_in config spaces_ahead ahead) ≡ all → Err refusal ≡ all
sets_in-refused config spaces_ahead spaces_rest ahead rest space set front refusal all first_space
    first read_is so_far =
    following-stops (sets_in config spaces_ahead ahead) (sets_in config spaces_rest rest)
    (given_set config space set) front refusal all
    (λ j. sets_in config (first_space j) (first j)) read_is so_far

-- no set is left
pub sets_in-done : (config : Config) (spaces : List Space) (sets : List SetText) (i : ℕ)
    (front : List GivenSet) (all : Result (List GivenSet) Refusal) → length sets ≤ i →
    length spaces ≡ length sets → following front (sets_in config (drop i spaces) (drop i sets))
    ≡ all → Ok front ≡ all
sets_in-done config spaces sets i front all spent many so_far =
    ap Ok (sym (append-nil front))
    ∙ ap (λ ss. following front (sets_in config ss (drop i sets)))
    (sym (drop_all i spaces (omega (arith, spent, many))))
    ∙ so_far

-- as many are read as there are
pub length-each : {A X : Type 0} (read : A → Result X Refusal) (xs : List A) (ys : List X) →
    Ok ys ≡ each read xs → length ys ≡ length xs
length-each read [] ys h = let same : ys ≡ [] = cc in ap length same
length-each {A} {X} read (x ∷ xs) ys h = at (read x) (each read xs) (length-each read xs) refl h
  where
    at : (one : Result X Refusal) (others : Result (List X) Refusal) →
        ((zs : List X) → Ok zs ≡ each read xs → length zs ≡ length xs) → each read xs ≡ others →
        Ok ys ≡ (one >>= λ y. others >>= λ zs. Ok (y ∷ zs)) → length ys ≡ suc (length xs)
    at (Ok y) (Ok zs) ih is e = let same : ys ≡ y ∷ zs = cc in ap length same
        ∙ ap suc (ih zs (sym is))
    at (Ok y) (Err refusal) ih is e = cc
    at (Err refusal) others ih is e = cc
