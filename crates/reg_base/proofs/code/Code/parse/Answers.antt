-- What has the spelling of a code is short and ASCII.
use Rattle.std.proofs.Common.{◌≡◌, true}
use Rattle.reg_base.specs.Codes.{is_code}
use Rattle.reg_base.proofs.CodeLemmas.{length-code, IsAscii-code}
use Rattle.reg_base.proofs.code.Code.parse.Goals as goal

pub new-requires-clause-short : goal.new-requires-clause-short
new-requires-clause-short c = let is : is_code c.args.text.now ≡ true = cc in length-code _ is

pub new-requires-clause-ascii : goal.new-requires-clause-ascii
new-requires-clause-ascii c = let is : is_code c.args.text.now ≡ true = cc in IsAscii-code _ is
