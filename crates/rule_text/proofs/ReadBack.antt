-- Readers that read back what was written, one behind the other.
use Rattle.std.proofs.Common.{◌≡◌, ℕ, suc, ◌+◌, ◌≤◌, ◌<◌, Bool, false, List, [], ◌∷◌, ◌++◌, length}
use Rattle.std.proofs.Common.{Option, Some, None, option_map, Ok, arith, refl, ap, ◌∙◌}
use Rattle.std.proofs.Common.{append_assoc}
use Rattle.std.proofs.lemmas.List.{length-append}
use Rattle.rule_text.specs.Readers.{Reader, ◌>>=◌, takes, pick}
use Rattle.rule_text.specs.Fronts.{first, front}
use Rattle.rule_text.specs.declared.token.Lexeme.{Lexeme}
use Rattle.rule_text.specs.declared.token.Token.{Token}
use Rattle.rule_text.proofs.TextTokens.{tokens_at, tokens_at-blank}

-- in front of what may follow, the reader takes the text and gives the value
pub record ReadsBack {X : Type 0} (follows : List ℕ → Type 0) (read : Reader X) (text : List ℕ)
    (x : X) : Type 0 where
  pub reads : (place : ℕ) (rest : List ℕ) → follows rest
      → read (tokens_at place (text ++ rest)) ≡ Ok (x, tokens_at (place + length text) rest)
  pub fewer : (place : ℕ) (rest : List ℕ) → follows rest
      → length (tokens_at (place + length text) rest) ≤ length (tokens_at place (text ++ rest))

-- the text has at least a token
pub record TakesToken (follows : List ℕ → Type 0) (text : List ℕ) : Type 0 where
  pub taken : (place : ℕ) (rest : List ℕ) → follows rest
      → length (tokens_at (place + length text) rest) < length (tokens_at place (text ++ rest))

-- anything may follow
abbrev pub Anything : List ℕ → Type 0
Anything rest = Unit

-- the tokens behind two texts
tokens_behind : (place : ℕ) (former back rest : List ℕ)
    → tokens_at (place + length former + length back) rest
    ≡ tokens_at (place + length (former ++ back)) rest
tokens_behind place former back rest =
    let same : place + length former + length back ≡ place + length (former ++ back) =
    simp length-append (omega arith) in
    ap (λ n. tokens_at n rest) same

-- a reader and the next read back one text behind the other, where the latter may follow the former
pub then_reads : {X Y : Type 0} {follows ends : List ℕ → Type 0} {read : Reader X}
    → {former back : List ℕ} {x : X} {y : Y} → (next : X → Reader Y)
    → ReadsBack follows read former x → ReadsBack ends (next x) back y
    → ((rest : List ℕ) → ends rest → follows (back ++ rest))
    → ReadsBack ends (read >>= next) (former ++ back) y
then_reads {former = former} {back = back} next h k behind = record {
  reads = λ place rest end.
      let one = h.reads place (back ++ rest) (behind rest end) in
      let other = k.reads (place + length former) rest end in
      rw (append_assoc, one, other, tokens_behind place former back rest) refl;
  fewer = λ place rest end.
      let one = h.fewer place (back ++ rest) (behind rest end) in
      let other = k.fewer (place + length former) rest end in
      rw (append_assoc, ← (tokens_behind place former back rest)) (omega arith);
}

-- a reader reads back its text, where what is done with the value takes no token
pub then_gives : {X Y : Type 0} {follows : List ℕ → Type 0} {read : Reader X}
    → {text : List ℕ} {x : X} {y : Y} → (next : X → Reader Y) → ReadsBack follows read text x
    → ((tokens : List Lexeme) → next x tokens ≡ Ok (y, tokens))
    → ReadsBack follows (read >>= next) text y
then_gives {text = text} next h given = record {
  reads = λ place rest end.
      rw (h.reads place rest end) (given (tokens_at (place + length text) rest));
  fewer = h.fewer;
}

-- a reader that takes no token reads back nothing
pub reads_nothing : {X : Type 0} {follows : List ℕ → Type 0} (read : Reader X) (x : X)
    → ((place : ℕ) (rest : List ℕ) → follows rest
    → read (tokens_at place rest) ≡ Ok (x, tokens_at place rest))
    → ReadsBack follows read [] x
reads_nothing read x given = record {
  reads = λ place rest end.
      let here : place + 0 ≡ place = omega arith in
      rw here (given place rest end);
  fewer = λ place rest end.
      let here : place + 0 ≡ place = omega arith in
      rw here (omega arith);
}

-- a blank in front is passed over
pub behind_blank : {X : Type 0} {follows : List ℕ → Type 0} {read : Reader X} {text : List ℕ}
    → {x : X} → ReadsBack follows read text x → ReadsBack follows read (32 ∷ text) x
behind_blank {text = text} h = record {
  reads = λ place rest end.
      let here : place + suc (length text) ≡ suc place + length text = omega arith in
      rw (tokens_at-blank place 32 (text ++ rest) refl, here) (h.reads (suc place) rest end);
  fewer = λ place rest end.
      let here : place + suc (length text) ≡ suc place + length text = omega arith in
      rw (tokens_at-blank place 32 (text ++ rest) refl, here) (h.fewer (suc place) rest end);
}

-- less may follow
pub reads_before : {X : Type 0} {follows ends : List ℕ → Type 0} {read : Reader X} {text : List ℕ}
    → {x : X} → ReadsBack follows read text x → ((rest : List ℕ) → ends rest → follows rest)
    → ReadsBack ends read text x
reads_before h narrow = record {
  reads = λ place rest end. h.reads place rest (narrow rest end);
  fewer = λ place rest end. h.fewer place rest (narrow rest end);
}

-- where anything may follow, so may less
pub before_less : {X : Type 0} {follows : List ℕ → Type 0} {read : Reader X} {text : List ℕ} {x : X}
    → ReadsBack Anything read text x → ReadsBack follows read text x
before_less h = reads_before h (λ rest end. tt)

-- a text has a token where its former part has one
pub takes_first : {X : Type 0} {follows ends : List ℕ → Type 0} {read : Reader X}
    → {former back : List ℕ} {x : X} → TakesToken follows former → ReadsBack ends read back x
    → ((rest : List ℕ) → ends rest → follows (back ++ rest)) → TakesToken ends (former ++ back)
takes_first {former = former} {back = back} h k behind = record {
  taken = λ place rest end.
      let one = h.taken place (back ++ rest) (behind rest end) in
      let other = k.fewer (place + length former) rest end in
      rw (append_assoc, ← (tokens_behind place former back rest)) (omega arith);
}

-- a text has a token where its later part has one
pub takes_later : {X : Type 0} {follows ends : List ℕ → Type 0} {read : Reader X}
    → {former back : List ℕ} {x : X} → ReadsBack follows read former x → TakesToken ends back
    → ((rest : List ℕ) → ends rest → follows (back ++ rest)) → TakesToken ends (former ++ back)
takes_later {former = former} {back = back} h k behind = record {
  taken = λ place rest end.
      let one = h.fewer place (back ++ rest) (behind rest end) in
      let other = k.taken (place + length former) rest end in
      rw (append_assoc, ← (tokens_behind place former back rest)) (omega arith);
}

-- a token behind a blank
pub takes_blank : {follows : List ℕ → Type 0} {text : List ℕ} → TakesToken follows text
    → TakesToken follows (32 ∷ text)
takes_blank {text = text} h = record {
  taken = λ place rest end.
      let here : place + suc (length text) ≡ suc place + length text = omega arith in
      rw (tokens_at-blank place 32 (text ++ rest) refl, here) (h.taken (suc place) rest end);
}

-- the first token of what follows is this one
pub record Begins (token : Token) (rest : List ℕ) : Type 0 where
  pub first_is : (place : ℕ)
      → option_map (λ lexeme. lexeme.token) (first (tokens_at place rest)) ≡ Some token

front_first : {X : Type 0} (gives : Token → Option X) (token : Token) (tokens : List Lexeme)
    → option_map (λ lexeme. lexeme.token) (first tokens) ≡ Some token
    → front gives tokens ≡ gives token
front_first gives token [] is = absurd (cc)
front_first gives token (lexeme ∷ tokens) is =
    let same : lexeme.token ≡ token = cc in
    ap gives same

-- what the first token gives
pub front-begins : {X : Type 0} {token : Token} {rest : List ℕ} → Begins token rest
    → (gives : Token → Option X) (place : ℕ) → front gives (tokens_at place rest) ≡ gives token
front-begins {token = token} {rest = rest} begins gives place =
    front_first gives token (tokens_at place rest) (begins.first_is place)

-- a blank in front changes nothing
pub begins-blank : {token : Token} {rest : List ℕ} → Begins token rest → Begins token (32 ∷ rest)
begins-blank {token = token} {rest = rest} begins = record {
  first_is = λ place. rw (tokens_at-blank place 32 rest refl) (begins.first_is (suc place));
}

-- the test finds nothing
abbrev pub NotNext : (List Lexeme → Bool) → List ℕ → Type 0
NotNext test rest = (place : ℕ) → test (tokens_at place rest) ≡ false

-- the first token gives nothing
abbrev pub NoneNext : {X : Type 0} → (Token → Option X) → List ℕ → Type 0
NoneNext gives rest = (place : ℕ) → front gives (tokens_at place rest) ≡ None

-- nothing is taken where the test finds nothing
pub takes_nothing : (test : List Lexeme → Bool) → ReadsBack (NotNext test) (takes test) [] false
takes_nothing test = reads_nothing (takes test) false (λ place rest none. rw (none place) refl)

-- the same, where what may follow says so
pub takes_nothing_before : {follows : List ℕ → Type 0} (test : List Lexeme → Bool)
    → ((rest : List ℕ) → follows rest → NotNext test rest) → ReadsBack follows (takes test) [] false
takes_nothing_before test none = reads_before (takes_nothing test) none

-- nothing is picked where the first token gives nothing
pub picks_nothing : {X : Type 0} (gives : Token → Option X)
    → ReadsBack (NoneNext gives) (pick gives) [] None
picks_nothing gives = reads_nothing (pick gives) None (λ place rest none. rw (none place) refl)

-- the text starts with this token
pub record Starts (follows : List ℕ → Type 0) (token : Token) (text : List ℕ) : Type 0 where
  pub begins : (rest : List ℕ) → follows rest → Begins token (text ++ rest)

-- a text starts as its former part does
pub starts_first : {follows ends : List ℕ → Type 0} {token : Token} {former : List ℕ}
    → (back : List ℕ) → Starts follows token former
    → ((rest : List ℕ) → ends rest → follows (back ++ rest))
    → Starts ends token (former ++ back)
starts_first {former = former} back h behind = record {
  begins = λ rest end. rw append_assoc (h.begins (back ++ rest) (behind rest end));
}

-- another reader that does the same there
pub reads_as : {X : Type 0} {follows : List ℕ → Type 0} {read : Reader X} {text : List ℕ} {x : X}
    → (other : Reader X) → ReadsBack follows read text x
    → ((place : ℕ) (rest : List ℕ) → follows rest
    → other (tokens_at place (text ++ rest)) ≡ read (tokens_at place (text ++ rest)))
    → ReadsBack follows other text x
reads_as other h same = record {
  reads = λ place rest end. same place rest end ∙ h.reads place rest end;
  fewer = h.fewer;
}
