-- What a refusal at a place says of texts that begin alike.
use Rattle.std.proofs.Common.{◌≡◌, ◌⊎◌, inl, inr, ℕ, List, [], length, Some, None, Result, Ok, Err}
use Rattle.std.proofs.Common.{refl, ap, sym, ◌∙◌, subst}
use Rattle.rule_text.specs.Readers.{Read}
use Rattle.rule_text.specs.Refusals.{IsRefusedThrough, EndsEarly, RefusalsStand, TextsAreReadWhole}
use Rattle.rule_text.specs.Sentences.{statements, statements_of}
use Rattle.rule_text.specs.Tokens.{tokens_of}
use Rattle.rule_text.specs.declared.fault.ReadFault.TheVariants.{Stuck, Memory as ReadMemory}
use Rattle.rule_text.specs.declared.fault.TextFault.{TextFault}
use Rattle.rule_text.specs.declared.fault.TextFault.TheVariants.{Syntax, Memory as TextMemory}
use Rattle.rule_text.specs.declared.plain.PlainStatement.{PlainStatement}
use Rattle.rule_text.specs.declared.token.Lexeme.{Lexeme}
use Rattle.rule_text.proofs.Decided.{IsDecided, RefusesFrom}
use Rattle.rule_text.proofs.DecidedStatements.{statements-decides, statements-whole}

read-ok : (text : List ℕ) (r : List PlainStatement × List Lexeme)
    → statements (tokens_of text) ≡ Ok r → statements_of text ≡ Ok r.0
unfolding statements_of
read-ok text r e = rw e refl

read-stuck : (text : List ℕ) (place : ℕ) → statements (tokens_of text) ≡ Err (Stuck (Some place))
    → statements_of text ≡ Err (Syntax place)
unfolding statements_of
read-stuck text place e = rw e refl

read-end : (text : List ℕ) → statements (tokens_of text) ≡ Err (Stuck None)
    → statements_of text ≡ Err (Syntax (length text))
unfolding statements_of
read-end text e = rw e refl

read-memory : (text : List ℕ) → statements (tokens_of text) ≡ Err ReadMemory
    → statements_of text ≡ Err TextMemory
unfolding statements_of
read-memory text e = rw e refl

same_place : (a b : ℕ) → ◌≡◌ {A = Result (List PlainStatement) TextFault} (Err (Syntax a))
    (Err (Syntax b))
    → a ≡ b
same_place a b e = cc

refused_through : (text : List ℕ) (place : ℕ)
    → statements (tokens_of text) ≡ Err (Stuck (Some place))
    → RefusesFrom statements (tokens_of text) place → IsRefusedThrough text place
refused_through text place e d = record {
  front = d.front;
  token = d.token;
  behind = d.behind;
  tokens = d.is;
  at = d.at;
  refused = λ other others is.
      read-stuck other place (ap statements is ∙ d.same others);
}

by_read : (text : List ℕ) (place : ℕ) → statements_of text ≡ Err (Syntax place)
    → (q : Read (List PlainStatement)) → statements (tokens_of text) ≡ q
    → IsDecided statements (tokens_of text) q
    → EndsEarly text place ⊎ IsRefusedThrough text place
by_read text place e (Ok r) is d = absurd (unlike (sym (read-ok text r is) ∙ e))
  where
    unlike : ◌≡◌ {A = Result (List PlainStatement) TextFault} (Ok r.0) (Err (Syntax place)) → ⊥
    unlike f = cc
by_read text place e (Err (Stuck (Some p))) is d =
    let same : p ≡ place = same_place p place (sym (read-stuck text p is) ∙ e) in
    inr (subst (IsRefusedThrough text) same (refused_through text p is d))
by_read text place e (Err (Stuck None)) is d = inl (record {
  at = same_place place (length text) (sym e ∙ read-end text is);
  refused = λ other alike. read-end other (ap statements alike ∙ is);
})
by_read text place e (Err ReadMemory) is d = absurd (unlike (sym (read-memory text is) ∙ e))
  where
    unlike : ◌≡◌ {A = Result (List PlainStatement) TextFault} (Err TextMemory) (Err (Syntax place))
        → ⊥
    unlike f = cc

pub refusals-stand : RefusalsStand
refusals-stand text place e = by_read text place e (statements (tokens_of text)) refl
    (statements-decides.each (tokens_of text))

whole-read : (text : List ℕ) (plains : List PlainStatement) → statements_of text ≡ Ok plains
    → (q : Read (List PlainStatement)) → statements (tokens_of text) ≡ q
    → statements (tokens_of text) ≡ Ok (plains, [])
whole-read text plains e (Ok r) is =
    let same : r.0 ≡ plains = first_value r.0 plains (sym (read-ok text r is) ∙ e) in
    is ∙ (λ i. Ok (same i, statements-whole (tokens_of text) r is i))
  where
    first_value : (a b : List PlainStatement)
        → ◌≡◌ {A = Result (List PlainStatement) TextFault} (Ok a) (Ok b) → a ≡ b
    first_value a b f = cc
whole-read text plains e (Err (Stuck (Some p))) is = absurd (unlike (sym (read-stuck text p is)
    ∙ e))
  where
    unlike : ◌≡◌ {A = Result (List PlainStatement) TextFault} (Err (Syntax p)) (Ok plains) → ⊥
    unlike f = cc
whole-read text plains e (Err (Stuck None)) is = absurd (unlike (sym (read-end text is) ∙ e))
  where
    unlike : ◌≡◌ {A = Result (List PlainStatement) TextFault} (Err (Syntax (length text)))
        (Ok plains) → ⊥
    unlike f = cc
whole-read text plains e (Err ReadMemory) is = absurd (unlike (sym (read-memory text is) ∙ e))
  where
    unlike : ◌≡◌ {A = Result (List PlainStatement) TextFault} (Err TextMemory) (Ok plains) → ⊥
    unlike f = cc

pub texts-whole : TextsAreReadWhole
texts-whole text plains e = whole-read text plains e (statements (tokens_of text)) refl
