-- Acts are read back as they were written.
use Rattle.std.proofs.Common.{◌≡◌, ℕ, Bool, true, false, List, [], ◌∷◌, ◌++◌, Option, Some, None}
use Rattle.std.proofs.Common.{codes, refl, append_assoc}
use Rattle.std.proofs.lemmas.Bool.{and_parts}
use Rattle.std.specs.List.{flat_map, list_all}
use Rattle.reg_base.specs.Codes.{is_code, is_name}
use Rattle.rule_text.specs.Marks.{mark_text}
use Rattle.rule_text.specs.Fronts.{token_mark, is_mark_next, is_word_next}
use Rattle.rule_text.specs.Sums.{code}
use Rattle.rule_text.specs.Binds.{amount}
use Rattle.rule_text.specs.Acts.{make, write_off, require, control, next_code, extra_codes}
use Rattle.rule_text.specs.Acts.{account_side, side, sides, entry, opening_of, act_of, verb, act}
use Rattle.rule_text.specs.Tokens.{lexeme}
use Rattle.rule_text.specs.declared.mark.Mark.TheVariants.{Open, Close, Semicolon, Comma, AtLeast}
use Rattle.rule_text.specs.declared.acts.Opening.{Opening}
use Rattle.rule_text.specs.declared.acts.Opening.TheVariants.{Makes, WritesOff, Requires, Controls}
use Rattle.rule_text.specs.declared.acts.Opening.TheVariants.{Enters}
use Rattle.rule_text.specs.declared.token.Spelling.{Spelling}
use Rattle.rule_text.specs.declared.token.Spelling.TheVariants.{Named}
use Rattle.rule_text.specs.declared.token.Token.TheVariants.{Sign}
use Rattle.rule_text.specs.declared.plain.PlainAct.{PlainAct}
use Rattle.rule_text.specs.declared.plain.PlainAct.TheVariants.{Make, WriteOff, Require, Control}
use Rattle.rule_text.specs.declared.plain.PlainAct.TheVariants.{Entry}
use Rattle.rule_text.specs.declared.plain.PlainAmount.{PlainAmount}
use Rattle.rule_text.specs.declared.plain.PlainCode.{PlainCode}
use Rattle.rule_text.specs.declared.plain.PlainCode.TheVariants.{Text, Head as HeadCode}
use Rattle.rule_text.specs.declared.plain.PlainCode.TheVariants.{Line as LineCode}
use Rattle.rule_text.specs.declared.plain.PlainSide.{PlainSide}
use Rattle.rule_text.specs.declared.plain.PlainSides.{PlainSides}
use Rattle.rule_text.specs.declared.plain.PlainTerm.{PlainTerm}
use Rattle.rule_text.specs.declared.plain.Target.{Target}
use Rattle.rule_text.specs.declared.plain.Verb.{Verb}
use Rattle.rule_text.specs.declared.plain.Verb.TheVariants.{Receipt, Expense, Turn}
use Rattle.rule_text.proofs.PlainTexts.{joined, spelling_text, code_text, binds_text, amount_text}
use Rattle.rule_text.proofs.PlainTexts.{amounts_text, terms_text, verb_text, order_text, side_text}
use Rattle.rule_text.proofs.PlainTexts.{act_text, is_named, is_small, code_fits, target_fits}
use Rattle.rule_text.proofs.PlainTexts.{amount_fits, amounts_fit, terms_fit, side_fits, act_fits}
use Rattle.rule_text.proofs.ReadBack.{ReadsBack, Anything, starts_first, then_reads, then_gives}
use Rattle.rule_text.proofs.ReadBack.{behind_blank, reads_before, before_less, reads_nothing}
use Rattle.rule_text.proofs.ReadBack.{reads_as, Begins, front-begins, begins-blank, takes_nothing}
use Rattle.rule_text.proofs.TokensBack.{EndsWord, is_word, is_mark, begins-token, reads_token}
use Rattle.rule_text.proofs.TokensBack.{reads_mark, reads_word, takes_word, reads_name}
use Rattle.rule_text.proofs.TokensBack.{reads_quoted, not_word, not_mark}
use Rattle.rule_text.proofs.ListsBack.{ReadsMore, may_follow, reads_list_of}
use Rattle.rule_text.proofs.SumsBack.{reads_code, reads_sum, EndsSum, ends_blank}
use Rattle.rule_text.proofs.BindsBack.{code_token, starts_code, EndsList, reads_after_comma}
use Rattle.rule_text.proofs.BindsBack.{target_text, reads_target, ends_sum, reads_amount}
use Rattle.rule_text.proofs.BindsBack.{sum_before_comma, reads_amounts}

reads_more_codes : ReadsMore EndsWord (EndsList EndsWord) next_code
    (λ x. codes ", " ++ code_text x) code_fits
unfolding next_code
reads_more_codes = reads_after_comma code code_text code_fits reads_code (λ rest. refl)

-- a closing mark follows
pub record EndsExtras (rest : List ℕ) : Type 0 where
  pub word : EndsWord rest
  pub close : Begins (Sign Close) rest

extras_end : (rest : List ℕ) → EndsExtras rest → EndsList EndsWord rest
unfolding mark_text
extras_end rest end = record { element = end.word; no_comma = not_mark end.close Comma refl }

not_close : (x : PlainCode) → is_mark_next Close (lexeme 0 0 (code_token x) ∷ []) ≡ false
unfolding code_token
not_close (Text text) = refl
not_close (HeadCode spelling) = refl
not_close (LineCode spelling) = refl

-- the codes behind an account
abbrev extras_text : List PlainCode → List ℕ
extras_text xs = joined (λ _. codes ", ") code_text xs

-- the codes behind an account, where a closing mark follows
reads_extras : (xs : List PlainCode) → list_all code_fits xs ≡ true
    → ReadsBack EndsExtras extra_codes (extras_text xs) xs
unfolding extra_codes mark_text
reads_extras [] fit = reads_nothing extra_codes []
    (λ place rest end. rw (front-begins end.close token_mark place) refl)
reads_extras (x ∷ xs) fit =
    let parts = and_parts (code_fits x) (list_all code_fits xs) fit in
    let more = flat_map (λ y. codes ", " ++ code_text y) xs in
    let starts = starts_first {ends = EndsExtras} more (starts_code x parts.0)
    (λ rest end. may_follow reads_more_codes xs rest (extras_end rest end)) in
    let all = reads_list_of (reads_code x parts.0) reads_more_codes xs parts.1 in
    reads_as extra_codes (reads_before all extras_end)
    (λ place rest end. rw (not_mark (starts.begins rest end) Close (not_close x) place) refl)

-- an account with the codes behind it
abbrev account_text : PlainSide → List ℕ
account_text x = code_text x.account ++ (codes "(" ++ (extras_text x.extras ++ codes ")"))

reads_account : (x : PlainSide) → code_fits x.account ≡ true → list_all code_fits x.extras ≡ true
    → ReadsBack Anything account_side (account_text x) (Some x)
unfolding account_side mark_text
reads_account x account extras =
    then_reads _ (reads_code x.account account)
    (then_reads _ (reads_mark Open)
    (then_reads _ (reads_extras x.extras extras)
    (then_gives _ (reads_mark Close) (λ tokens. refl))
    (λ rest end. record { word = refl; close = begins-token (is_mark Close) rest tt }))
    (λ rest end. tt))
    (λ rest end. refl)

not_none : (x : PlainCode) → is_word_next (codes "none") (lexeme 0 0 (code_token x) ∷ []) ≡ false
unfolding code_token
not_none (Text text) = refl
not_none (HeadCode spelling) = refl
not_none (LineCode spelling) = refl

-- a side of an entry
pub reads_side : (x : Option PlainSide) → side_fits x ≡ true
    → ReadsBack EndsWord side (side_text x) x
unfolding side side_text side_fits is_name
reads_side None fits = then_gives _ (takes_word (codes "none") refl) (λ tokens. refl)
reads_side (Some x) fits =
    let parts = and_parts (code_fits x.account) (list_all code_fits x.extras) fits in
    let starts =
    starts_first {ends = EndsWord} _ (starts_code x.account parts.0) (λ rest end. refl) in
    then_reads _ (takes_nothing (is_word_next (codes "none")))
    (before_less (reads_account x parts.0 parts.1))
    (λ rest end. not_word (starts.begins rest end) (codes "none") (not_none x.account))

-- both sides of an entry
unfoldable pub sides_text : PlainSides → List ℕ
sides_text sides =
    codes "debit " ++ (side_text sides.debit ++ (codes ", credit " ++ side_text sides.credit))

reads_sides : (x : PlainSides) → side_fits x.debit ≡ true → side_fits x.credit ≡ true
    → ReadsBack EndsWord sides (sides_text x) x
unfolding sides sides_text mark_text is_name
reads_sides x debit credit =
    then_reads _ (reads_word (codes "debit") refl)
    (then_reads _ (behind_blank (reads_side x.debit debit))
    (then_reads _ (reads_mark Comma)
    (then_reads _ (behind_blank (reads_word (codes "credit") refl))
    (then_gives _ (behind_blank (reads_side x.credit credit)) (λ tokens. refl))
    (λ rest end. refl))
    (λ rest end. tt))
    (λ rest end. refl))
    (λ rest end. refl)

-- a sum ends at a closing mark, and so does a list of sums
sum_before_close : (rest : List ℕ) → EndsSum (codes ")" ++ rest)
unfolding mark_text
sum_before_close rest = ends_sum (begins-token (is_mark Close) rest tt)
    (record { no_word = refl; no_point = refl }) refl refl

amounts_before_close : (rest : List ℕ) → EndsList EndsSum (codes ")" ++ rest)
unfolding mark_text
amounts_before_close rest = record {
  element = sum_before_close rest;
  no_comma = not_mark (begins-token (is_mark Close) rest tt) Comma refl;
}

-- what stands behind each verb is read back
reads_make : (kind : Verb) (to : Target) (sums : List PlainAmount) → target_fits to ≡ true
    → amounts_fit is_small sums ≡ true
    → ReadsBack Anything (make kind)
    (target_text to ++ (codes " " ++ (amounts_text sums ++ codes ")"))) (Make kind to sums)
unfolding make mark_text
reads_make kind to sums target_fit sums_fit =
    then_reads _ (reads_target to target_fit)
    (then_reads _ (behind_blank (reads_amounts sums sums_fit))
    (then_gives _ (reads_mark Close) (λ tokens. refl))
    (λ rest end. amounts_before_close rest))
    (λ rest end. tt)

reads_write_off : (fifo : Bool) (to : Target) (wanted : PlainAmount) (cost : Spelling)
    → target_fits to ≡ true → amount_fits is_small wanted ≡ true → is_named cost ≡ true
    → ReadsBack Anything (write_off fifo) (target_text to ++ (codes " " ++ (amount_text wanted
    ++ (codes ", " ++ (spelling_text cost ++ codes ")"))))) (WriteOff fifo to wanted cost)
unfolding write_off mark_text
reads_write_off fifo to wanted cost target_fit wanted_fits named =
    then_reads _ (reads_target to target_fit)
    (then_reads _ (behind_blank (reads_amount wanted wanted_fits))
    (then_reads _ (reads_mark Comma)
    (then_reads _ (behind_blank (reads_name cost named))
    (then_gives _ (reads_mark Close) (λ tokens. refl))
    (λ rest end. refl))
    (λ rest end. tt))
    (λ rest end. sum_before_comma (spelling_text cost ++ codes ")" ++ rest)))
    (λ rest end. tt)

sum_before_code : (rest : List ℕ) → EndsSum (codes " code " ++ rest)
unfolding is_name
sum_before_code rest =
    let begins = begins-token (is_word (codes "code") refl) (32 ∷ rest) refl in
    ends_sum (begins-blank begins) (ends_blank _) refl refl

reads_require : (to : Target) (resource : Spelling) (least : List PlainTerm) (text : List ℕ)
    → target_fits to ≡ true → is_named resource ≡ true → terms_fit is_small least ≡ true
    → is_code text ≡ true
    → ReadsBack Anything require (target_text to ++ (codes " " ++ (spelling_text resource
    ++ (codes ") >= " ++ (terms_text least ++ (codes " code \"" ++ (text ++ codes "\"")))))))
    (Require to resource least text)
unfolding require mark_text is_name
reads_require to resource least text target_fit named least_fits coded =
    then_reads _ (reads_target to target_fit)
    (then_reads _ (behind_blank (reads_name resource named))
    (then_reads _ (reads_mark Close)
    (then_reads _ (behind_blank (reads_mark AtLeast))
    (then_reads _ (behind_blank (reads_sum least least_fits))
    (then_reads _ (behind_blank (reads_word (codes "code") refl))
    (then_gives _ (behind_blank (reads_quoted text coded)) (λ tokens. refl))
    (λ rest end. refl))
    (λ rest end. sum_before_code _))
    (λ rest end. tt))
    (λ rest end. tt))
    (λ rest end. refl))
    (λ rest end. tt)

reads_control : (register resource : Spelling) → is_named register ≡ true → is_named resource ≡ true
    → ReadsBack EndsWord control (spelling_text register ++ (codes " " ++ spelling_text resource))
    (Control register resource)
unfolding control
reads_control register resource named also =
    then_reads _ (reads_name register named)
    (then_gives _ (behind_blank (reads_name resource also)) (λ tokens. refl))
    (λ rest end. refl)

reads_entry : (ledger : Spelling) (written : PlainSides) (amount : List PlainTerm)
    → is_named ledger ≡ true → side_fits written.debit ≡ true → side_fits written.credit ≡ true
    → terms_fit is_small amount ≡ true
    → ReadsBack Anything entry (spelling_text ledger ++ (codes "(" ++ (sides_text written
    ++ (codes "; " ++ (terms_text amount ++ codes ")"))))) (Entry ledger written amount)
unfolding entry mark_text
reads_entry ledger written amount named debit credit fits =
    then_reads _ (reads_name ledger named)
    (then_reads _ (reads_mark Open)
    (then_reads _ (reads_sides written debit credit)
    (then_reads _ (reads_mark Semicolon)
    (then_reads _ (behind_blank (reads_sum amount fits))
    (then_gives _ (reads_mark Close) (λ tokens. refl))
    (λ rest end. sum_before_close rest))
    (λ rest end. tt))
    (λ rest end. refl))
    (λ rest end. tt))
    (λ rest end. refl)

-- a verb opens what it is to open
reads_verb : (text : List ℕ) → is_name text ≡ true → (opening : Opening)
    → opening_of (Named text) ≡ Some opening → ReadsBack EndsWord verb text opening
unfolding verb
reads_verb text named opening opens =
    reads_token (is_word text named) verb opening (λ place len tokens. rw opens refl)

reads_making : (kind : Verb) → ReadsBack EndsWord verb (verb_text kind) (Makes kind)
unfolding opening_of is_name
reads_making Receipt = reads_verb (codes "receipt") refl (Makes Receipt) refl
reads_making Expense = reads_verb (codes "expense") refl (Makes Expense) refl
reads_making Turn = reads_verb (codes "turn") refl (Makes Turn) refl

reads_writing_off : (fifo : Bool) → ReadsBack EndsWord verb (order_text fifo) (WritesOff fifo)
unfolding opening_of is_name
reads_writing_off true = reads_verb (codes "fifo") refl (WritesOff true) refl
reads_writing_off false = reads_verb (codes "average") refl (WritesOff false) refl

-- a target in front of more
target_before : (to : Target) (more : List ℕ)
    → spelling_text to.register ++ (codes "(" ++ (binds_text to.binds ++ (codes "; " ++ more)))
    ≡ target_text to ++ (codes " " ++ more)
unfolding target_text
target_before to more = simp append_assoc

-- sides in front of more
sides_before : (written : PlainSides) (more : List ℕ)
    → codes "debit "
    ++ (side_text written.debit ++ (codes ", credit " ++ (side_text written.credit ++ more)))
    ≡ sides_text written ++ more
unfolding sides_text
sides_before written more = simp append_assoc

-- an act
pub reads_act : (x : PlainAct) → act_fits is_small x ≡ true → ReadsBack EndsWord act (act_text x) x
unfolding act act_of act_text act_fits opening_of is_name
reads_act (Make kind to sums) fits =
    let parts = and_parts (target_fits to) (amounts_fit is_small sums) fits in
    rw target_before (then_reads _ (reads_making kind)
    (behind_blank (before_less (reads_make kind to sums parts.0 parts.1)))
    (λ rest end. refl))
reads_act (WriteOff fifo to wanted cost) fits =
    let parts = and_parts (target_fits to) _ fits in
    let others = and_parts (amount_fits is_small wanted) (is_named cost) parts.1 in
    rw target_before (then_reads _ (reads_writing_off fifo)
    (behind_blank (before_less (reads_write_off fifo to wanted cost parts.0 others.0 others.1)))
    (λ rest end. refl))
reads_act (Require to resource least text) fits =
    let parts = and_parts (target_fits to) _ fits in
    let others = and_parts (is_named resource) _ parts.1 in
    let last = and_parts (terms_fit is_small least) (is_code text) others.1 in
    rw target_before (then_reads _ (reads_verb (codes "require") refl Requires refl)
    (behind_blank (before_less
    (reads_require to resource least text parts.0 others.0 last.0 last.1)))
    (λ rest end. refl))
reads_act (Control register resource) fits =
    let parts = and_parts (is_named register) (is_named resource) fits in
    then_reads _ (reads_verb (codes "control") refl Controls refl)
    (behind_blank (reads_control register resource parts.0 parts.1))
    (λ rest end. refl)
reads_act (Entry ledger written amount) fits =
    let parts = and_parts (is_named ledger) _ fits in
    let others = and_parts (side_fits written.debit) _ parts.1 in
    let last = and_parts (side_fits written.credit) (terms_fit is_small amount) others.1 in
    rw sides_before (then_reads _ (reads_verb (codes "entry") refl Enters refl)
    (behind_blank (before_less
    (reads_entry ledger written amount parts.0 others.0 last.0 last.1)))
    (λ rest end. refl))
