-- For the crates above: plain statements as they are written, which of them a reader gives, and
-- that what is written is read back.
use Rattle.std.proofs.Common.{◌≡◌, ℕ, true, List, Ok, IfOk}
use Rattle.std.specs.List.{list_all}
use Rattle.rule_text.specs.Sentences.{statements_of}
use Rattle.rule_text.specs.declared.plain.PlainStatement.{PlainStatement}
use Rattle.rule_text.proofs.StatementReads as reads
use Rattle.rule_text.proofs.TextsReadBack as texts
unfoldable pub use Rattle.rule_text.proofs.PlainTexts.{
  joined,
  spelling_text,
  literal_text,
  code_text,
}
unfoldable pub use Rattle.rule_text.proofs.PlainTexts.{
  part_text,
  sign_text,
  term_text,
  joint_text,
  terms_text,
}
unfoldable pub use Rattle.rule_text.proofs.PlainTexts.{
  test_text,
  equal_text,
  to_text,
  bind_text,
  binds_text,
}
unfoldable pub use Rattle.rule_text.proofs.PlainTexts.{
  amount_text,
  amounts_text,
  verb_text,
  order_text,
}
unfoldable pub use Rattle.rule_text.proofs.PlainTexts.{
  side_text,
  act_text,
  scope_text,
  cond_text,
  when_text,
}
unfoldable pub use Rattle.rule_text.proofs.PlainTexts.{statement_text, statements_text, placed}
unfoldable pub use Rattle.rule_text.proofs.PlainTexts.{
  is_named,
  is_small,
  is_any,
  code_fits,
  part_fits,
}
unfoldable pub use Rattle.rule_text.proofs.PlainTexts.{
  terms_fit,
  to_fits,
  bind_fits,
  target_fits,
  amount_fits,
}
unfoldable pub use Rattle.rule_text.proofs.PlainTexts.{
  amounts_fit,
  side_fits,
  act_fits,
  has_text,
  cond_fits,
}
unfoldable pub use Rattle.rule_text.proofs.PlainTexts.{when_fits, statement_fits}
unfoldable pub use Rattle.rule_text.proofs.ReadTests.{
  spelling_read,
  code_read,
  part_read,
  term_read,
}
unfoldable pub use Rattle.rule_text.proofs.ReadTests.{
  terms_read,
  to_read,
  bind_read,
  target_read,
  amount_read,
}
unfoldable pub use Rattle.rule_text.proofs.ReadTests.{
  amounts_read,
  side_read,
  act_read,
  cond_read,
  when_read,
}
unfoldable pub use Rattle.rule_text.proofs.ReadTests.{statement_read}

-- all statements that are read pass their tests
pub statements_of-fits : (text : List ℕ)
    → IfOk (statements_of text) (λ ps. list_all statement_read ps ≡ true)
statements_of-fits = reads.statements_of-fits

-- the same statements are read, each at the place that it has in the text
pub texts-read-back : (ps : List PlainStatement) → list_all (statement_fits is_small) ps ≡ true
    → statements_of (statements_text ps) ≡ Ok (placed 0 ps)
texts-read-back = texts.texts-read-back
