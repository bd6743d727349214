-- Statements are read back as they were written.
use Rattle.std.proofs.Common.{◌≡◌, ℕ, suc, ◌+◌, true, false, List, [], ◌∷◌, ◌++◌, length, Option}
use Rattle.std.proofs.Common.{Some, None, option_map, codes, arith, refl, ap, ◌∙◌, append_assoc}
use Rattle.std.proofs.lemmas.Bool.{and_parts}
use Rattle.std.proofs.lemmas.List.{length-append}
use Rattle.reg_base.specs.Codes.{is_name}
use Rattle.rule_text.specs.Marks.{mark_text}
use Rattle.rule_text.specs.Readers.{Reader, mark}
use Rattle.rule_text.specs.Fronts.{first, is_word_next}
use Rattle.rule_text.specs.Sentences.{scope, statement}
use Rattle.rule_text.specs.Tokens.{is_blank, lexeme}
use Rattle.rule_text.specs.declared.mark.Mark.TheVariants.{Semicolon}
use Rattle.rule_text.specs.declared.token.Spelling.TheVariants.{Named}
use Rattle.rule_text.specs.declared.token.Token.TheVariants.{Word}
use Rattle.rule_text.specs.declared.plain.PlainAct.{PlainAct}
use Rattle.rule_text.specs.declared.plain.PlainAct.TheVariants.{Make, WriteOff, Require, Control}
use Rattle.rule_text.specs.declared.plain.PlainAct.TheVariants.{Entry}
use Rattle.rule_text.specs.declared.plain.PlainCond.{PlainCond}
use Rattle.rule_text.specs.declared.plain.PlainStatement.{PlainStatement}
use Rattle.rule_text.specs.declared.plain.Scope.{Scope}
use Rattle.rule_text.specs.declared.plain.Scope.TheVariants.{Once, EachLine}
use Rattle.rule_text.specs.declared.plain.Verb.TheVariants.{Receipt, Expense, Turn}
use Rattle.rule_text.proofs.PlainTexts.{act_text, scope_text, when_text, statement_text, is_small}
use Rattle.rule_text.proofs.PlainTexts.{act_fits, when_fits, statement_fits}
use Rattle.rule_text.proofs.TextTokens.{tokens_at, tokens_at-blank, first_place}
use Rattle.rule_text.proofs.ReadBack.{ReadsBack, TakesToken, Anything, then_reads, then_gives}
use Rattle.rule_text.proofs.ReadBack.{behind_blank, before_less, takes_later, NotNext}
use Rattle.rule_text.proofs.ReadBack.{takes_nothing, takes_nothing_before}
use Rattle.rule_text.proofs.TokensBack.{EndsWord, is_word, is_mark, takes-token, begins-token}
use Rattle.rule_text.proofs.TokensBack.{reads_mark, reads_word, takes_word, not_word}
use Rattle.rule_text.proofs.BindsBack.{ends_sum}
use Rattle.rule_text.proofs.ActsBack.{reads_act}
use Rattle.rule_text.proofs.ConditionsBack.{EndsWhen, reads_when}

-- the tokens behind a text and a blank
behind_text : (place b : ℕ) (text rest : List ℕ) → is_blank b ≡ true
    → tokens_at (place + length text) (b ∷ rest)
    ≡ tokens_at (place + length (text ++ (b ∷ []))) rest
behind_text place b text rest blank =
    let far : suc (place + length text) ≡ place + length (text ++ (b ∷ [])) =
    simp length-append (omega arith) in
    tokens_at-blank (place + length text) b rest blank ∙ ap (λ n. tokens_at n rest) far

-- a blank behind is passed over
before_blank : {X : Type 0} {follows : List ℕ → Type 0} {read : Reader X} {text : List ℕ} {x : X}
    → (b : ℕ) → ReadsBack follows read text x → is_blank b ≡ true
    → ((rest : List ℕ) → follows (b ∷ rest))
    → ReadsBack Anything read (text ++ (b ∷ [])) x
before_blank {text = text} b h blank behind = record {
  reads = λ place rest end.
      let one = h.reads place (b ∷ rest) (behind rest) in
      rw (append_assoc, one, behind_text place b text rest blank) refl;
  fewer = λ place rest end.
      let one = h.fewer place (b ∷ rest) (behind rest) in
      rw (append_assoc, ← (behind_text place b text rest blank)) one;
}

-- a text and a blank have a token where the text has one
takes_before_blank : {follows : List ℕ → Type 0} {text : List ℕ} (b : ℕ) → TakesToken follows text
    → is_blank b ≡ true → ((rest : List ℕ) → follows (b ∷ rest))
    → TakesToken Anything (text ++ (b ∷ []))
takes_before_blank {text = text} b h blank behind = record {
  taken = λ place rest end.
      let one = h.taken place (b ∷ rest) (behind rest) in
      rw (append_assoc, ← (behind_text place b text rest blank)) one;
}

-- neither `once` nor `each` follows
record EndsScope (rest : List ℕ) : Type 0 where
  no_once : NotNext (is_word_next (codes "once")) rest
  no_each : NotNext (is_word_next (codes "each")) rest

reads_scope : (x : Option Scope) → ReadsBack EndsScope scope (scope_text x) x
unfolding scope is_name
reads_scope None =
    then_reads _
    (takes_nothing_before (is_word_next (codes "once"))
    (λ rest (end : EndsScope rest). end.no_once))
    (then_gives _
    (takes_nothing_before (is_word_next (codes "each"))
    (λ rest (end : EndsScope rest). end.no_each))
    (λ tokens. refl))
    (λ rest end. end)
reads_scope (Some Once) =
    let once = then_gives _ (takes_word (codes "once") refl) (λ tokens. refl) in
    before_less (before_blank 32 once refl (λ rest. refl))
reads_scope (Some EachLine) = before_less (before_blank 32
    (then_reads _ (takes_nothing (is_word_next (codes "once")))
    (then_reads _ (takes_word (codes "each") refl)
    (then_gives _ (behind_blank (reads_word (codes "line") refl)) (λ tokens. refl))
    (λ rest end. refl))
    (λ rest end. not_word (begins-token (is_word (codes "each") refl) _ refl) (codes "once") refl))
    refl (λ rest. refl))

-- a word that is no scope
no_scope : (text : List ℕ) → is_name text ≡ true
    → is_word_next (codes "once") (lexeme 0 0 (Word (Named text)) ∷ []) ≡ false
    → is_word_next (codes "each") (lexeme 0 0 (Word (Named text)) ∷ []) ≡ false
    → (rest : List ℕ) → EndsScope (text ++ (32 ∷ rest))
no_scope text named once each rest = record {
  no_once = not_word (begins-token (is_word text named) (32 ∷ rest) refl) (codes "once") once;
  no_each = not_word (begins-token (is_word text named) (32 ∷ rest) refl) (codes "each") each;
}

-- an act begins with a verb, which is no scope
no_scope_act : (x : PlainAct) (rest : List ℕ) → EndsScope (act_text x ++ rest)
unfolding act_text is_name
no_scope_act (Make Receipt to sums) rest = no_scope (codes "receipt") refl refl refl _
no_scope_act (Make Expense to sums) rest = no_scope (codes "expense") refl refl refl _
no_scope_act (Make Turn to sums) rest = no_scope (codes "turn") refl refl refl _
no_scope_act (WriteOff true to wanted cost) rest = no_scope (codes "fifo") refl refl refl _
no_scope_act (WriteOff false to wanted cost) rest = no_scope (codes "average") refl refl refl _
no_scope_act (Require to resource least text) rest = no_scope (codes "require") refl refl refl _
no_scope_act (Control register resource) rest = no_scope (codes "control") refl refl refl _
no_scope_act (Entry ledger sides amount) rest = no_scope (codes "entry") refl refl refl _

-- an act is followed by a blank or a semicolon
act_ends : (x : Option PlainCond) (rest : List ℕ) → EndsWord ((when_text x ++ codes ";\n") ++ rest)
act_ends None rest = refl
act_ends (Some x) rest = refl

-- a condition ends at the semicolon
when_ends : (rest : List ℕ) → EndsWhen (codes ";\n" ++ rest)
unfolding mark_text
when_ends rest =
    let begins = begins-token (is_mark Semicolon) (10 ∷ rest) tt in
    record {
      sum = ends_sum begins (record { no_word = refl; no_point = refl }) refl refl;
      no_when = not_word begins (codes "when") refl;
    }

reads_semicolon : ReadsBack Anything (mark Semicolon) (codes ";\n") tt
unfolding mark_text
reads_semicolon = before_blank 10 (reads_mark Semicolon) refl (λ rest. tt)

takes_semicolon : TakesToken Anything (codes ";\n")
unfolding mark_text
takes_semicolon = takes_before_blank 10 (takes-token (is_mark Semicolon)) refl (λ rest. tt)

scope_ends : (x : PlainAct) (more rest : List ℕ) → EndsScope ((act_text x ++ more) ++ rest)
scope_ends x more rest = rw append_assoc (no_scope_act x (more ++ rest))

-- the statement with the place that it is given
abbrev pub placed_at : ℕ → PlainStatement → PlainStatement
placed_at place x = record { place = place; scope = x.scope; act = x.act; when = x.when }

-- a statement is read back with the place that it is given
pub reads_statement : (place : ℕ) (x : PlainStatement) → statement_fits is_small x ≡ true
    → ReadsBack Anything (statement place) (statement_text x) (placed_at place x)
unfolding statement statement_text
reads_statement place x fits =
    let parts = and_parts (act_fits is_small x.act) (when_fits is_small x.when) fits in
    then_reads _ (reads_scope x.scope)
    (then_reads _ (reads_act x.act parts.0)
    (then_reads _ (reads_when x.when parts.1)
    (then_gives _ reads_semicolon (λ tokens. refl))
    (λ rest end. when_ends rest))
    (λ rest end. act_ends x.when rest))
    (λ rest end. scope_ends x.act (when_text x.when ++ codes ";\n") rest)

-- a statement has a token
pub takes_statement : (x : PlainStatement) → statement_fits is_small x ≡ true
    → TakesToken Anything (statement_text x)
unfolding statement_text
takes_statement x fits =
    let parts = and_parts (act_fits is_small x.act) (when_fits is_small x.when) fits in
    takes_later (reads_scope x.scope)
    (takes_later (reads_act x.act parts.0)
    (takes_later (reads_when x.when parts.1) takes_semicolon (λ rest end. when_ends rest))
    (λ rest end. act_ends x.when rest))
    (λ rest end. scope_ends x.act (when_text x.when ++ codes ";\n") rest)

-- where the first token begins
abbrev pub FirstAt : ℕ → List ℕ → Type 0
FirstAt place bytes =
    option_map (λ lexeme. lexeme.place) (first (tokens_at place bytes)) ≡ Some place

act_first : (place : ℕ) (x : PlainAct) (rest : List ℕ) → FirstAt place (act_text x ++ rest)
unfolding act_text
act_first place (Make Receipt to sums) rest = first_place place 114 _ refl
act_first place (Make Expense to sums) rest = first_place place 101 _ refl
act_first place (Make Turn to sums) rest = first_place place 116 _ refl
act_first place (WriteOff true to wanted cost) rest = first_place place 102 _ refl
act_first place (WriteOff false to wanted cost) rest = first_place place 97 _ refl
act_first place (Require to resource least text) rest = first_place place 114 _ refl
act_first place (Control register resource) rest = first_place place 99 _ refl
act_first place (Entry ledger sides amount) rest = first_place place 101 _ refl

scope_first : (place : ℕ) (scope : Option Scope) (x : PlainAct) (rest : List ℕ)
    → FirstAt place (scope_text scope ++ (act_text x ++ rest))
scope_first place None x rest = act_first place x rest
scope_first place (Some Once) x rest = first_place place 111 _ refl
scope_first place (Some EachLine) x rest = first_place place 101 _ refl

-- a statement begins at its first byte
pub statement_first : (place : ℕ) (x : PlainStatement) (rest : List ℕ)
    → FirstAt place (statement_text x ++ rest)
unfolding statement_text
statement_first place x rest =
    let more = when_text x.when ++ codes ";\n" in
    rw (
      append_assoc (scope_text x.scope) (act_text x.act ++ more) rest,
      append_assoc (act_text x.act) more rest,
    )
    (scope_first place x.scope x.act (more ++ rest))
