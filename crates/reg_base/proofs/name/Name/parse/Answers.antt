-- What has the spelling of a name is short and ASCII.
use Rattle.std.proofs.Common.{◌≡◌, true}
use Rattle.reg_base.specs.Codes.{is_name}
use Rattle.reg_base.proofs.CodeLemmas.{length-name, IsAscii-name}
use Rattle.reg_base.proofs.name.Name.parse.Goals as goal

pub new-requires-clause-short : goal.new-requires-clause-short
new-requires-clause-short c = let is : is_name c.args.text.now ≡ true = cc in length-name _ is

pub new-requires-clause-ascii : goal.new-requires-clause-ascii
new-requires-clause-ascii c = let is : is_name c.args.text.now ≡ true = cc in IsAscii-name _ is
