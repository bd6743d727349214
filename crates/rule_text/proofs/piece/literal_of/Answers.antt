-- A number that was capped twice is capped once.
use Rattle.std.proofs.Common.{◌≡◌, ℕ, List, min, arith, ap, ◌∙◌}
use Rattle.reg_base.specs.Numbers.{read_on}
use Rattle.reg_base.proofs.ForAbove.{read_on-min}
use Rattle.rule_text.proofs.piece.literal_of.Goals as goal

capped : (first second : ℕ) (whole decimals : List ℕ)
    → first ≡ min (read_on 0 whole) 18446744073709551615
    → second ≡ min (read_on first decimals) 18446744073709551615
    → min second 1000000000000000 ≡ min (read_on (read_on 0 whole) decimals) 1000000000000000
capped first second whole decimals a b =
    let read : second ≡ min (read_on (read_on 0 whole) decimals) 18446744073709551615 =
    b ∙ ap (λ n. min (read_on n decimals) 18446744073709551615) a ∙ read_on-min 18446744073709551615
    (read_on 0 whole) decimals in
    omega (arith, read)

pub returns : goal.returns
returns c =
    ap (λ digits. record { digits = digits; decimals = c.args.count })
    (c.min.ensures ∙ capped _ _ c.args.whole.now c.args.decimals.now c.read_on.ensures
    c.read_on-digits.ensures)
