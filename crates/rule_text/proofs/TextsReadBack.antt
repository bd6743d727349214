-- What is written of plain statements is read as the same statements.
use Rattle.std.proofs.Common.{◌≡◌, ℕ, zero, suc, ◌+◌, ◌≤◌, true, List, [], ◌∷◌, ◌++◌, length, Some}
use Rattle.std.proofs.Common.{None, Ok, arith, refl}
use Rattle.std.proofs.lemmas.Bool.{and_parts}
use Rattle.std.specs.List.{list_all}
use Rattle.rule_text.specs.Readers.{many, list_on}
use Rattle.rule_text.specs.Sentences.{next_statement, statements, statements_of}
use Rattle.rule_text.specs.declared.plain.PlainStatement.{PlainStatement}
use Rattle.rule_text.proofs.PlainTexts.{statement_text, statements_text, placed, is_small}
use Rattle.rule_text.proofs.PlainTexts.{statement_fits}
use Rattle.rule_text.proofs.TextTokens.{tokens_at, tokens_within, tokens_at-text}
use Rattle.rule_text.proofs.StatementsBack.{placed_at, reads_statement, takes_statement}
use Rattle.rule_text.proofs.StatementsBack.{statement_first}

no_tokens : (place : ℕ) → tokens_at place [] ≡ []
unfolding tokens_at tokens_within
no_tokens place = refl

none_next : next_statement [] ≡ Ok (None, [])
unfolding next_statement
none_next = refl

-- one more statement, with the place of its first byte
next_reads : (place : ℕ) (x : PlainStatement) (rest : List ℕ) → statement_fits is_small x ≡ true
    → next_statement (tokens_at place (statement_text x ++ rest))
    ≡ Ok (Some (placed_at place x), tokens_at (place + length (statement_text x)) rest)
unfolding next_statement
next_reads place x rest fits =
    rw (statement_first place x rest, (reads_statement place x fits).reads place rest tt) refl

-- statements are read with the places of their first bytes, where at least as many may follow
many_read : (xs : List PlainStatement) → list_all (statement_fits is_small) xs ≡ true
    → (most place : ℕ) → length xs ≤ most
    → many next_statement most (tokens_at place (statements_text xs)) ≡ Ok (placed place xs, [])
unfolding many statements_text placed
many_read [] fit zero place enough = rw no_tokens refl
many_read [] fit (suc most) place enough = rw (no_tokens, none_next) refl
many_read (x ∷ xs) fit zero place enough = absurd (omega arith)
many_read (x ∷ xs) fit (suc most) place enough =
    let parts = and_parts (statement_fits is_small x) (list_all (statement_fits is_small) xs) fit in
    let next = next_reads place x (statements_text xs) parts.0 in
    let more = many_read xs parts.1 most (place + length (statement_text x)) (omega arith) in
    rw (next, more) refl

-- there are at least as many tokens as statements
count : (xs : List PlainStatement) → list_all (statement_fits is_small) xs ≡ true → (place : ℕ)
    → length xs ≤ length (tokens_at place (statements_text xs))
unfolding statements_text
count [] fit place = omega arith
count (x ∷ xs) fit place =
    let parts = and_parts (statement_fits is_small x) (list_all (statement_fits is_small) xs) fit in
    let one = (takes_statement x parts.0).taken place (statements_text xs) tt in
    let more = count xs parts.1 (place + length (statement_text x)) in
    omega arith

-- the same statements are read, each at the place that it has in the text
pub texts-read-back : (ps : List PlainStatement) → list_all (statement_fits is_small) ps ≡ true
    → statements_of (statements_text ps) ≡ Ok (placed 0 ps)
unfolding statements_of statements list_on
texts-read-back ps fit =
    let enough = count ps fit 0 in
    let read = many_read ps fit (length (tokens_at 0 (statements_text ps))) 0 enough in
    rw (tokens_at-text (statements_text ps), read) refl
