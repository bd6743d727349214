-- Bytes that are all ASCII are text.
use Rattle.std.proofs.Common.{rules}
use Rattle.std.proofs.lemmas.Str.{IsUtf8-from_ascii}
use Rattle.std.specs.Str.{IsUtf8}
use Rattle.reg_base.proofs.short_text.ShortText.as_str.Goals as goal

pub unwrap-requires : goal.unwrap-requires
unwrap-requires c =
    let text : IsUtf8 c.as_bytes-bytes.result.now =
    rw c.as_bytes-bytes.ensures.value (IsUtf8-from_ascii _ c.as_bytes-bytes.ensures.ascii) in
    search rules
