use Rattle.std.proofs.Common.{◌≡◌, List, map, IfOk, ◌∙◌, sym, subst, ap}
use Rattle.std.proofs.lemmas.Simd.{map-map}
use Rattle.serde_json.specs.Data.{Data, string, array}
use Rattle.serde_json.specs.View.{view, items_of}
use Rattle.desk_words.specs.JsonValues.{texts_data}
use Rattle.desk_words.specs.ReplyWords.{value_text}
use Rattle.desk_words.proofs.row_parts.ListValueToJson.to_json.Goals as goal

pub returns : goal.returns
unfolding texts_data
returns c =
    let P : List Data → Type 0 =
    λ ds. IfOk c.array_value.result (λ v. view v ≡ array (items_of ds)) in
    subst P
    (ap (map (λ value. string (value_text value))) c.as_slice.ensures
    ∙ sym (map-map string value_text c.args.self.now))
    c.array_value.ensures
