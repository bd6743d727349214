-- Dimensions and resources with what is given them are read back as they were written.
use Rattle.std.proofs.Common.{◌≡◌, ℕ, Bool, true, false, List, [], ◌∷◌, ◌++◌, codes, refl}
use Rattle.std.proofs.lemmas.Bool.{and_parts}
use Rattle.std.specs.List.{flat_map, list_all}
use Rattle.reg_base.specs.Codes.{is_name}
use Rattle.rule_text.specs.Marks.{mark_text}
use Rattle.rule_text.specs.Readers.{Reader}
use Rattle.rule_text.specs.Fronts.{token_mark, is_mark_next, is_word_next}
use Rattle.rule_text.specs.Binds.{bind_to, bind, after_comma, next_bind, binds, target, amount}
use Rattle.rule_text.specs.Binds.{next_amount, amounts}
use Rattle.rule_text.specs.Tokens.{lexeme}
use Rattle.rule_text.specs.declared.mark.Mark.TheVariants.{Open, Semicolon, Comma, Equal, Plus}
use Rattle.rule_text.specs.declared.mark.Mark.TheVariants.{Minus}
use Rattle.rule_text.specs.declared.token.Spelling.TheVariants.{Named}
use Rattle.rule_text.specs.declared.token.Token.{Token}
use Rattle.rule_text.specs.declared.token.Token.TheVariants.{Word, Quoted, Sign}
use Rattle.rule_text.specs.declared.plain.PlainAmount.{PlainAmount}
use Rattle.rule_text.specs.declared.plain.PlainBind.{PlainBind}
use Rattle.rule_text.specs.declared.plain.PlainCode.{PlainCode}
use Rattle.rule_text.specs.declared.plain.PlainCode.TheVariants.{Text, Head as HeadCode}
use Rattle.rule_text.specs.declared.plain.PlainCode.TheVariants.{Line as LineCode}
use Rattle.rule_text.specs.declared.plain.PlainTo.{PlainTo}
use Rattle.rule_text.specs.declared.plain.PlainTo.TheVariants.{Code, Point}
use Rattle.rule_text.specs.declared.plain.Target.{Target}
use Rattle.rule_text.proofs.PlainTexts.{spelling_text, code_text, to_text, bind_text, binds_text}
use Rattle.rule_text.proofs.PlainTexts.{amount_text, amounts_text, is_named, is_small, code_fits}
use Rattle.rule_text.proofs.PlainTexts.{to_fits, bind_fits, target_fits, amount_fits, amounts_fit}
use Rattle.rule_text.proofs.PlainTexts.{terms_fit}
use Rattle.rule_text.proofs.LexemeLemmas.{EndsPart}
use Rattle.rule_text.proofs.ReadBack.{ReadsBack, Anything, Starts, starts_first, then_reads}
use Rattle.rule_text.proofs.ReadBack.{then_gives, takes_first, behind_blank, reads_before}
use Rattle.rule_text.proofs.ReadBack.{reads_nothing, reads_as, Begins, front-begins, NotNext}
use Rattle.rule_text.proofs.ReadBack.{takes_nothing, takes_nothing_before}
use Rattle.rule_text.proofs.TokensBack.{EndsWord, is_mark, is_quoted, takes-token, begins-token}
use Rattle.rule_text.proofs.TokensBack.{starts_name, reads_mark, takes_mark, takes_word, reads_name}
use Rattle.rule_text.proofs.TokensBack.{not_word, not_mark}
use Rattle.rule_text.proofs.ListsBack.{ReadsMore, reads_list_of}
use Rattle.rule_text.proofs.SumsBack.{reads_code, reads_sum, begins_owner, EndsSum}

-- the token that a code begins with
unfoldable pub code_token : PlainCode → Token
code_token (Text text) = Quoted text
code_token (HeadCode spelling) = Word (Named (codes "head"))
code_token (LineCode spelling) = Word (Named (codes "line"))

-- a code starts with its token
pub starts_code : (x : PlainCode) → code_fits x ≡ true
    → Starts EndsWord (code_token x) (code_text x)
unfolding code_token code_text code_fits is_name
starts_code (Text text) fits =
    record { begins = λ rest end. begins-token (is_quoted text fits) rest tt }
starts_code (HeadCode spelling) fits =
    record { begins = λ rest end. begins_owner (codes "head") refl _ }
starts_code (LineCode spelling) fits =
    record { begins = λ rest end. begins_owner (codes "line") refl _ }

not_point : (x : PlainCode) → is_word_next (codes "point") (lexeme 0 0 (code_token x) ∷ []) ≡ false
unfolding code_token
not_point (Text text) = refl
not_point (HeadCode spelling) = refl
not_point (LineCode spelling) = refl

reads_to : (x : PlainTo) → to_fits x ≡ true → ReadsBack EndsWord bind_to (to_text x) x
unfolding bind_to to_text to_fits is_name
reads_to Point fits = then_gives _ (takes_word (codes "point") refl) (λ tokens. refl)
reads_to (Code x) fits = then_reads _ (takes_nothing (is_word_next (codes "point")))
    (then_gives _ (reads_code x fits) (λ tokens. refl))
    (λ rest end. not_word ((starts_code x fits).begins rest end) (codes "point") (not_point x))

-- a dimension with its value
pub reads_bind : (x : PlainBind) → bind_fits x ≡ true → ReadsBack EndsWord bind (bind_text x) x
unfolding bind bind_text mark_text
reads_bind x fits =
    let parts = and_parts (is_named x.dimension) (to_fits x.to) fits in
    then_reads _ (reads_name x.dimension parts.0)
    (then_reads _ (behind_blank (reads_mark Equal))
    (then_gives _ (behind_blank (reads_to x.to parts.1)) (λ tokens. refl))
    (λ rest end. tt))
    (λ rest end. refl)

-- what may follow a list: what may follow its last element, and no comma
pub record EndsList (follows : List ℕ → Type 0) (rest : List ℕ) : Type 0 where
  pub element : follows rest
  pub no_comma : NotNext (is_mark_next Comma) rest

-- one more element behind a comma
pub reads_after_comma : {X : Type 0} {follows : List ℕ → Type 0} (read : Reader X)
    → (text : X → List ℕ) (fits : X → Bool)
    → ((x : X) → fits x ≡ true → ReadsBack follows read (text x) x)
    → ((rest : List ℕ) → follows (codes ", " ++ rest))
    → ReadsMore follows (EndsList follows) (after_comma read) (λ x. codes ", " ++ text x) fits
unfolding mark_text
reads_after_comma {follows = follows} read text fits element comma = record {
  one = λ x h. then_reads _ (takes_mark Comma)
      (then_gives _ (behind_blank (element x h)) (λ tokens. refl)) (λ rest end. tt);
  some = λ x h.
      takes_first (takes-token (is_mark Comma)) (behind_blank (element x h)) (λ rest end. tt);
  goes_on = λ x rest. comma (text x ++ rest);
  none = then_gives _
      (takes_nothing_before (is_mark_next Comma) (λ rest (end : EndsList follows rest).
      end.no_comma))
      (λ tokens. refl);
  ended = λ rest end. end.element;
}

reads_more_binds : ReadsMore EndsWord (EndsList EndsWord) next_bind
    (λ x. codes ", " ++ bind_text x) bind_fits
unfolding next_bind
reads_more_binds = reads_after_comma bind bind_text bind_fits reads_bind (λ rest. refl)

-- a semicolon follows
pub record EndsBinds (rest : List ℕ) : Type 0 where
  pub word : EndsWord rest
  pub semicolon : Begins (Sign Semicolon) rest

starts_bind : (x : PlainBind) → bind_fits x ≡ true
    → Starts Anything (Word x.dimension) (bind_text x)
unfolding bind_text
starts_bind x fits =
    let parts = and_parts (is_named x.dimension) (to_fits x.to) fits in
    starts_first _ (starts_name x.dimension parts.0) (λ rest end. refl)

binds_end : (rest : List ℕ) → EndsBinds rest → EndsList EndsWord rest
unfolding mark_text
binds_end rest end = record { element = end.word; no_comma = not_mark end.semicolon Comma refl }

-- dimensions with their values
pub reads_binds : (xs : List PlainBind) → list_all bind_fits xs ≡ true
    → ReadsBack EndsBinds binds (binds_text xs) xs
unfolding binds binds_text mark_text
reads_binds [] fit = reads_nothing binds []
    (λ place rest end. rw (front-begins end.semicolon token_mark place) refl)
reads_binds (x ∷ xs) fit =
    let parts = and_parts (bind_fits x) (list_all bind_fits xs) fit in
    let more = flat_map (λ y. codes ", " ++ bind_text y) xs in
    let starts = starts_first {ends = EndsBinds} more (starts_bind x parts.0) (λ rest end. tt) in
    let all = reads_list_of (reads_bind x parts.0) reads_more_binds xs parts.1 in
    reads_as binds (reads_before all binds_end)
    (λ place rest end. rw (not_mark (starts.begins rest end) Semicolon refl place) refl)

-- a register with its dimensions, in parentheses that stay open
unfoldable pub target_text : Target → List ℕ
target_text target =
    spelling_text target.register ++ (codes "(" ++ (binds_text target.binds ++ codes ";"))

-- what a target is read from stands up to the semicolon behind its dimensions
pub reads_target : (x : Target) → target_fits x ≡ true → ReadsBack Anything target (target_text x) x
unfolding target target_text mark_text
reads_target x fits =
    let parts = and_parts (is_named x.register) (list_all bind_fits x.binds) fits in
    then_reads _ (reads_name x.register parts.0)
    (then_reads _ (reads_mark Open)
    (then_reads _ (reads_binds x.binds parts.1)
    (then_gives _ (reads_mark Semicolon) (λ tokens. refl))
    (λ rest end. record { word = refl; semicolon = begins-token (is_mark Semicolon) rest tt }))
    (λ rest end. tt))
    (λ rest end. refl)

-- a sum ends where its last part does and no mark joins one more term
pub ends_sum : {token : Token} {rest : List ℕ} → Begins token rest → EndsPart rest
    → is_mark_next Plus (lexeme 0 0 token ∷ []) ≡ false
    → is_mark_next Minus (lexeme 0 0 token ∷ []) ≡ false → EndsSum rest
ends_sum begins part plus minus = record {
  part = part;
  no_plus = not_mark begins Plus plus;
  no_minus = not_mark begins Minus minus;
}

-- a resource with its number
pub reads_amount : (x : PlainAmount) → amount_fits is_small x ≡ true
    → ReadsBack EndsSum amount (amount_text x) x
unfolding amount amount_text mark_text
reads_amount x fits =
    let parts = and_parts (is_named x.resource) (terms_fit is_small x.sum) fits in
    then_reads _ (reads_name x.resource parts.0)
    (then_reads _ (behind_blank (reads_mark Equal))
    (then_gives _ (behind_blank (reads_sum x.sum parts.1)) (λ tokens. refl))
    (λ rest end. tt))
    (λ rest end. refl)

-- a sum ends at a comma
pub sum_before_comma : (rest : List ℕ) → EndsSum (codes ", " ++ rest)
unfolding mark_text
sum_before_comma rest = ends_sum (begins-token (is_mark Comma) (32 ∷ rest) tt)
    (record { no_word = refl; no_point = refl }) refl refl

reads_more_amounts : ReadsMore EndsSum (EndsList EndsSum) next_amount
    (λ x. codes ", " ++ amount_text x) (amount_fits is_small)
unfolding next_amount
reads_more_amounts =
    reads_after_comma amount amount_text (amount_fits is_small) reads_amount sum_before_comma

-- resources with their numbers
pub reads_amounts : (xs : List PlainAmount) → amounts_fit is_small xs ≡ true
    → ReadsBack (EndsList EndsSum) amounts (amounts_text xs) xs
unfolding amounts amounts_text amounts_fit
reads_amounts [] fit = absurd (cc)
reads_amounts (x ∷ xs) fit =
    let parts = and_parts (amount_fits is_small x) (list_all (amount_fits is_small) xs) fit in
    reads_list_of (reads_amount x parts.0) reads_more_amounts xs parts.1
