-- What a reader does is decided by the tokens that it takes and the first one behind them.
use Rattle.std.proofs.Common.{◌≡◌, ℕ, Bool, true, false, List, [], ◌∷◌, ◌++◌, Option, Some, None}
use Rattle.std.proofs.Common.{option_and_then, Ok, Err, inl, inr, refl, ap, sym, ◌∙◌, subst}
use Rattle.std.proofs.Common.{append_assoc}
use Rattle.std.specs.Bool.{⊤}
use Rattle.std.proofs.lemmas.Option.{same_Some}
use Rattle.rule_text.specs.Fronts.{first, front, is_mark_next, is_word_next, token_word}
use Rattle.rule_text.specs.Readers.{take_front, Read, Reader, then_read, ◌>>=◌, give, stuck, must}
use Rattle.rule_text.specs.Readers.{found_or, pick, takes, mark, word, name, code_if, quoted}
use Rattle.rule_text.specs.Refusals.{StandsAt}
use Rattle.rule_text.specs.declared.fault.ReadFault.TheVariants.{Stuck, Memory}
use Rattle.rule_text.specs.declared.mark.Mark.{Mark}
use Rattle.rule_text.specs.declared.token.Lexeme.{Lexeme}
use Rattle.rule_text.specs.declared.token.Token.{Token}
use Rattle.rule_text.specs.declared.token.Token.TheVariants.{Word, Number, Quoted, Sign, Broken}

-- the same is read in front of all that begins alike
pub record GivesFrom {X : Type 0} (read : Reader X) (tokens : List Lexeme) (x : X)
    (rest : List Lexeme)
    : Type 0 where
  pub front : List Lexeme
  pub is : tokens ≡ front ++ rest
  pub same : (others : List Lexeme) → first others ≡ first rest
      → read (front ++ others) ≡ Ok (x, others)

-- the same token is refused, whatever stands behind it
pub record RefusesFrom {X : Type 0} (read : Reader X) (tokens : List Lexeme) (place : ℕ)
    : Type 0 where
  pub front : List Lexeme
  pub token : Lexeme
  pub behind : List Lexeme
  pub is : tokens ≡ front ++ token ∷ behind
  pub at : StandsAt token place
  pub same : (others : List Lexeme) → read (front ++ token ∷ others) ≡ Err (Stuck (Some place))

abbrev pub IsDecided : {X : Type 0} → Reader X → List Lexeme → Read X → Type 0
IsDecided read tokens (Ok r) = GivesFrom read tokens r.0 r.1
IsDecided read tokens (Err (Stuck (Some place))) = RefusesFrom read tokens place
IsDecided read tokens (Err (Stuck None)) = ⊤
IsDecided read tokens (Err Memory) = ⊤

-- of each list of tokens
pub record Decides {X : Type 0} (read : Reader X) : Type 0 where
  pub each : (tokens : List Lexeme) → IsDecided read tokens (read tokens)

pub first-append : (front others rest : List Lexeme) → first others ≡ first rest
    → first (front ++ others) ≡ first (front ++ rest)
first-append [] others rest e = e
first-append (token ∷ front) others rest e = refl

-- ---- one reader and then another

then-gives : {X Y : Type 0} (read : Reader X) (next : X → Reader Y) (tokens : List Lexeme)
    (r : X × List Lexeme) → GivesFrom read tokens r.0 r.1 → (q : Read Y) → next r.0 r.1 ≡ q
    → IsDecided (next r.0) r.1 q → IsDecided (read >>= next) tokens q
then-gives read next tokens r d (Ok s) e i = record {
  front = d.front ++ i.front;
  is = d.is ∙ ap (λ rest. d.front ++ rest) i.is ∙ sym (append_assoc d.front i.front s.1);
  same = λ others alike.
      let back : read (d.front ++ (i.front ++ others)) ≡ Ok (r.0, i.front ++ others) =
      d.same (i.front ++ others)
      (first-append i.front others s.1 alike ∙ ap first (sym i.is)) in
      ap (λ ts. then_read next (read ts)) (append_assoc d.front i.front others)
      ∙ ap (then_read next) back ∙ i.same others alike;
}
then-gives read next tokens r d (Err (Stuck (Some place))) e i = record {
  front = d.front ++ i.front;
  token = i.token;
  behind = i.behind;
  is = d.is ∙ ap (λ rest. d.front ++ rest) i.is
      ∙ sym (append_assoc d.front i.front (i.token ∷ i.behind));
  at = i.at;
  same = λ others.
      let more : List Lexeme = i.front ++ i.token ∷ others in
      let back : read (d.front ++ more) ≡ Ok (r.0, more) = d.same more
      (first-append-one i.front i.token others i.behind ∙ ap first (sym i.is)) in
      ap (λ ts. then_read next (read ts)) (append_assoc d.front i.front (i.token ∷ others))
      ∙ ap (then_read next) back ∙ i.same others;
}
  where
    first-append-one : (front : List Lexeme) (token : Lexeme) (others behind : List Lexeme)
        → first (front ++ token ∷ others) ≡ first (front ++ token ∷ behind)
    first-append-one [] token others behind = refl
    first-append-one (t ∷ front) token others behind = refl
then-gives read next tokens r d (Err (Stuck None)) e i = tt
then-gives read next tokens r d (Err Memory) e i = tt

pub then-decided : {X Y : Type 0} (read : Reader X) (next : X → Reader Y) (tokens : List Lexeme)
    (r : Read X) → read tokens ≡ r → IsDecided read tokens r
    → ((s : X × List Lexeme) → r ≡ Ok s → IsDecided (next s.0) s.1 (next s.0 s.1))
    → IsDecided (read >>= next) tokens (then_read next r)
then-decided read next tokens (Ok r) e d later =
    then-gives read next tokens r d (next r.0 r.1) refl (later r refl)
then-decided read next tokens (Err (Stuck (Some place))) e d later = record {
  front = d.front;
  token = d.token;
  behind = d.behind;
  is = d.is;
  at = d.at;
  same = λ others. ap (then_read next) (d.same others);
}
then-decided read next tokens (Err (Stuck None)) e d later = tt
then-decided read next tokens (Err Memory) e d later = tt

-- what comes next is asked only behind what was read of these tokens
pub then-decided-at : {X Y : Type 0} (read : Reader X) (next : X → Reader Y)
    (tokens : List Lexeme) → Decides read
    → ((s : X × List Lexeme) → read tokens ≡ Ok s → IsDecided (next s.0) s.1 (next s.0 s.1))
    → IsDecided (read >>= next) tokens (then_read next (read tokens))
then-decided-at read next tokens d later =
    then-decided read next tokens (read tokens) refl (d.each tokens) later

pub then-decides : {X Y : Type 0} (next : X → Reader Y) (read : Reader X) → Decides read
    → ((x : X) → Decides (next x)) → Decides (read >>= next)
then-decides next read d later = record {
  each = λ tokens. then-decided-at read next tokens d (λ s e. (later s.0).each s.1);
}

-- ---- the least readers

pub give-decides : {X : Type 0} (x : X) → Decides (give x)
give-decides x = record {
  each = λ tokens. record { front = []; is = refl; same = λ others alike. refl };
}

stuck-decided : (X : Type 0) (tokens : List Lexeme)
    → IsDecided (stuck {X = X}) tokens (stuck tokens)
stuck-decided X [] = tt
stuck-decided X (token ∷ tokens) = record {
  front = [];
  token = token;
  behind = tokens;
  is = refl;
  at = inl refl;
  same = λ others. refl;
}

pub stuck-decides : {X : Type 0} → Decides (stuck {X = X})
stuck-decides = record { each = stuck-decided _ }

pub must-decides : (found : Bool) → Decides (must found)
must-decides true = give-decides tt
must-decides false = stuck-decides

pub found_or-decides : {X : Type 0} (found : Option X) → Decides (found_or found)
found_or-decides (Some x) = give-decides x
found_or-decides None = stuck-decides

-- a look at the first token alone
abbrev pub OnFirst : {Z : Type 0} → (List Lexeme → Z) → Type 0
OnFirst look = (others tokens : List Lexeme) → first others ≡ first tokens
    → look others ≡ look tokens

pub on-first : {Z : Type 0} (look : List Lexeme → Z)
    → ((token : Lexeme) (a b : List Lexeme) → look (token ∷ a) ≡ look (token ∷ b)) → OnFirst look
on-first look alike [] [] e = refl
on-first look alike [] (t ∷ ts) e = absurd (cc)
on-first look alike (o ∷ os) [] e = absurd (cc)
on-first look alike (o ∷ os) (t ∷ ts) e =
    alike o os ts ∙ ap (λ u. look (u ∷ ts)) (same_Some o t e)

look-decided : {X Z : Type 0} (look : List Lexeme → Z) (next : Z → Reader X) → OnFirst look
    → (tokens : List Lexeme) (r : Read X) → next (look tokens) tokens ≡ r
    → IsDecided (next (look tokens)) tokens r
    → IsDecided (λ ts. next (look ts) ts) tokens r
look-decided look next alike tokens (Ok r) e d = record {
  front = d.front;
  is = d.is;
  same = λ others same.
      let seen : look (d.front ++ others) ≡ look tokens = alike (d.front ++ others) tokens
      (first-append d.front others r.1 same ∙ ap first (sym d.is)) in
      ap (λ z. next z (d.front ++ others)) seen ∙ d.same others same;
}
look-decided look next alike tokens (Err (Stuck (Some place))) e d = record {
  front = d.front;
  token = d.token;
  behind = d.behind;
  is = d.is;
  at = d.at;
  same = λ others.
      let seen : look (d.front ++ d.token ∷ others) ≡ look tokens =
      alike (d.front ++ d.token ∷ others) tokens
      (one d.front d.token others d.behind ∙ ap first (sym d.is)) in
      ap (λ z. next z (d.front ++ d.token ∷ others)) seen ∙ d.same others;
}
  where
    one : (front : List Lexeme) (token : Lexeme) (others behind : List Lexeme)
        → first (front ++ token ∷ others) ≡ first (front ++ token ∷ behind)
    one [] token others behind = refl
    one (t ∷ front) token others behind = refl
look-decided look next alike tokens (Err (Stuck None)) e d = tt
look-decided look next alike tokens (Err Memory) e d = tt

-- what comes next is told by a look at the first token
pub look-decides : {X Z : Type 0} (look : List Lexeme → Z) (next : Z → Reader X) → OnFirst look
    → ((z : Z) → Decides (next z)) → Decides (λ tokens. next (look tokens) tokens)
look-decides look next alike later = record {
  each = λ tokens. look-decided look next alike tokens (next (look tokens) tokens) refl
      ((later (look tokens)).each tokens);
}

takes-decided : (test : List Lexeme → Bool) → OnFirst test → test [] ≡ false
    → (tokens : List Lexeme) → IsDecided (takes test) tokens (takes test tokens)
takes-decided test alike none [] = rw none (record {
  front = [];
  is = refl;
  same = λ others same. rw (alike others [] same ∙ none) refl;
})
takes-decided test alike none (token ∷ tokens) = by_test (test (token ∷ tokens)) refl
  where
    by_test : (found : Bool) → test (token ∷ tokens) ≡ found
        → IsDecided (takes test) (token ∷ tokens) (takes test (token ∷ tokens))
    by_test true e = rw e (record {
      front = token ∷ [];
      is = refl;
      same = λ others same. rw (alike (token ∷ others) (token ∷ tokens) refl ∙ e) refl;
    })
    by_test false e = rw e (record {
      front = [];
      is = refl;
      same = λ others same. rw (alike others (token ∷ tokens) same ∙ e) refl;
    })

pub takes-decides : (test : List Lexeme → Bool) → OnFirst test → test [] ≡ false
    → Decides (takes test)
takes-decides test alike none = record { each = takes-decided test alike none }

pub mark-first : (sign : Mark) → OnFirst (is_mark_next sign)
mark-first sign = on-first (is_mark_next sign) (λ token a b. refl)

pub word-first : (text : List ℕ) → OnFirst (is_word_next text)
word-first text = on-first (is_word_next text) (λ token a b. refl)

pub takes_mark-decides : (sign : Mark) → Decides (takes (is_mark_next sign))
takes_mark-decides sign = takes-decides (is_mark_next sign) (mark-first sign) refl

pub takes_word-decides : (text : List ℕ) → Decides (takes (is_word_next text))
takes_word-decides text = takes-decides (is_word_next text) (word-first text) refl

pub mark-decides : (sign : Mark) → Decides (mark sign)
unfolding mark
mark-decides sign = then-decides _ (takes (is_mark_next sign)) (takes_mark-decides sign)
    must-decides

pub word-decides : (text : List ℕ) → Decides (word text)
unfolding word
word-decides text = then-decides _ (takes (is_word_next text)) (takes_word-decides text)
    must-decides

pick-decided : {X : Type 0} (gives : Token → Option X) (tokens : List Lexeme)
    → IsDecided (pick gives) tokens (pick gives tokens)
pick-decided gives [] = record {
  front = [];
  is = refl;
  same = elim [ [] ↦ λ same. refl | token ∷ tokens ↦ λ same. absurd (cc) ];
}
pick-decided gives (token ∷ tokens) = by_found (gives token.token) refl
  where
    alike : (others : List Lexeme) → first others ≡ first (token ∷ tokens)
        → front gives others ≡ gives token.token
    alike others same = ap (option_and_then (λ (l : Lexeme). gives l.token)) same

    by_found : (found : Option _) → gives token.token ≡ found
        → IsDecided (pick gives) (token ∷ tokens) (pick gives (token ∷ tokens))
    by_found (Some x) e = rw e (record {
      front = token ∷ [];
      is = refl;
      same = λ others same. rw e refl;
    })
    by_found None e = rw e (record {
      front = [];
      is = refl;
      same = λ others same. rw (alike others same ∙ e) refl;
    })

pub pick-decides : {X : Type 0} (gives : Token → Option X) → Decides (pick gives)
pick-decides gives = record { each = pick-decided gives }

pub name-decides : Decides name
unfolding name
name-decides = then-decides _ (pick token_word) (pick-decides token_word) found_or-decides

nothing_taken : {X : Type 0} (read : Reader X) (tokens : List Lexeme) (x : X)
    → ((others : List Lexeme) → first others ≡ first tokens → read others ≡ Ok (x, others))
    → GivesFrom read tokens x tokens
nothing_taken read tokens x same = record { front = []; is = refl; same = same }

no_code : (token : Lexeme) (tokens : List Lexeme)
    → ((ts : List Lexeme) → code_if (token ∷ ts) ≡ Ok (None, token ∷ ts))
    → (others : List Lexeme) → first others ≡ Some token → code_if others ≡ Ok (None, others)
no_code token tokens plain [] e = absurd (cc)
no_code token tokens plain (o ∷ os) e =
    subst (λ t. code_if (t ∷ os) ≡ Ok (None, t ∷ os)) (sym (same_Some o token e)) (plain os)

code_if-decided : (place len : ℕ) (token : Token) (tokens : List Lexeme)
    → IsDecided code_if (record { place = place; len = len; token = token } ∷ tokens)
    (code_if (record { place = place; len = len; token = token } ∷ tokens))
unfolding code_if
code_if-decided place len (Quoted code) tokens =
    record {
      front = record { place = place; len = len; token = Quoted code } ∷ [];
      is = refl;
      same = λ others same. refl;
    }
code_if-decided place len (Broken at) tokens = record {
  front = [];
  token = record { place = place; len = len; token = Broken at };
  behind = tokens;
  is = refl;
  at = inr refl;
  same = λ others. refl;
}
code_if-decided place len (Word spelling) tokens = nothing_taken code_if _ None
    (no_code (record { place = place; len = len; token = Word spelling }) tokens (λ ts. refl))
code_if-decided place len (Number literal) tokens = nothing_taken code_if _ None
    (no_code (record { place = place; len = len; token = Number literal }) tokens (λ ts. refl))
code_if-decided place len (Sign sign) tokens = nothing_taken code_if _ None
    (no_code (record { place = place; len = len; token = Sign sign }) tokens (λ ts. refl))

code_if-each : (tokens : List Lexeme) → IsDecided code_if tokens (code_if tokens)
unfolding code_if
code_if-each [] = nothing_taken code_if [] None
    (elim [ [] ↦ λ same. refl | token ∷ tokens ↦ λ same. absurd (cc) ])
code_if-each (token ∷ tokens) = code_if-decided token.place token.len token.token tokens

pub code_if-decides : Decides code_if
code_if-decides = record { each = code_if-each }

pub quoted-decides : Decides quoted
unfolding quoted
quoted-decides = then-decides _ code_if code_if-decides found_or-decides

take_front-decided : {X : Type 0} (look : List Lexeme → Option X) → OnFirst look → look [] ≡ None
    → (tokens : List Lexeme) → IsDecided (λ ts. take_front (look ts) ts) tokens
    (take_front (look tokens) tokens)
take_front-decided look alike none [] = rw none tt
take_front-decided look alike none (token ∷ tokens) = by_found (look (token ∷ tokens)) refl
  where
    by_found : (found : Option _) → look (token ∷ tokens) ≡ found
        → IsDecided (λ ts. take_front (look ts) ts) (token ∷ tokens)
        (take_front (look (token ∷ tokens)) (token ∷ tokens))
    by_found (Some x) e = rw e (record {
      front = token ∷ [];
      is = refl;
      same = λ others same. rw (alike (token ∷ others) (token ∷ tokens) refl ∙ e) refl;
    })
    by_found None e = rw e (record {
      front = [];
      token = token;
      behind = tokens;
      is = refl;
      at = inl refl;
      same = λ others. rw (alike (token ∷ others) (token ∷ tokens) refl ∙ e) refl;
    })

-- the first token, where the look finds something in it
pub take_front-decides : {X : Type 0} (look : List Lexeme → Option X) → OnFirst look
    → look [] ≡ None → Decides (λ tokens. take_front (look tokens) tokens)
take_front-decides look alike none = record { each = take_front-decided look alike none }
