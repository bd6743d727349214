use Rattle.std.proofs.Common.{◌≡◌, ◌==◌, length, rules, false}
use Rattle.std.specs.List.{position_or_len, list_any}
use Rattle.reg_base.specs.Cuts.{parse_cut}
use Rattle.reg_base.proofs.TextLemmas.{list_any-past}
use Rattle.reg_base.proofs.cut.Cut.parse.Goals as goal

pub returns-in-None : goal.returns-in-None
unfolding parse_cut
returns-in-None c =
    let end : position_or_len (λ b. b == 32) c.args.text.now ≡ length c.args.text.now =
    search rules in
    let none : list_any (λ b. b == 32) c.args.text.now ≡ false = list_any-past _ _ end in
    rw none c.cut_alone.ensures
