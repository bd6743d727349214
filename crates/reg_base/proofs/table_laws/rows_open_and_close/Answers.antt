use Rattle.reg_base.proofs.OpeningLaws as openings
use Rattle.reg_base.proofs.TableOrder as tables
use Rattle.reg_base.proofs.table_laws.rows_open_and_close.Goals as goal

pub returns-clause-opening : goal.returns-clause-opening
returns-clause-opening c = openings.rows_open

pub returns-clause-closing : goal.returns-clause-closing
returns-clause-closing c = tables.rows_close
