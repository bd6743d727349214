use Rattle.cfg_model.proofs.TomlValues.{toml_document-sorted}
use Rattle.cfg_model.proofs.laws.table_keys_ascend.Goals as goal

pub returns : goal.returns
returns c = toml_document-sorted
