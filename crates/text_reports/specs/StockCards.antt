-- The stock card of a register: what each group opens with, receives, gives and closes with.
use Rattle.std.specs.Prelude.{ℕ, List, [], ◌∷◌, map, codes}
use Rattle.std.specs.List.{flat_map, enumerate_from}
use Rattle.reg_base.specs.declared.tables.Row.{Row}
use Rattle.cfg_model.specs.declared.register.Register.{Register}
use Rattle.cfg_model.specs.declared.register.Resource.{Resource}
use Rattle.text_reports.specs.declared.table.Column.{Column}
use Rattle.text_reports.specs.Tables.{left_in, right_in, report_text}
use Rattle.text_reports.specs.ShownValues.{shown_group, shown_unit, shown_numbers, number_in_place}

-- group, unit, resource, and four numbers
abbrev pub card_columns : List Column
card_columns = left_in 32 ∷ left_in 30 ∷ left_in 12 ∷ right_in 14 ∷ right_in 14 ∷ right_in 14
    ∷ right_in 14 ∷ []

-- the words over them
abbrev pub card_header : List (List ℕ)
card_header = codes "group" ∷ codes "unit" ∷ codes "resource" ∷ codes "opening"
    ∷ codes "receipt" ∷ codes "expense" ∷ codes "closing" ∷ []

-- the line of a row and a resource, which has the numbers in its place
abbrev pub card_line : Row → ℕ → Resource → List (List ℕ)
card_line row place resource = shown_group row.group ∷ shown_unit row.unit ∷ resource.name
    ∷ shown_numbers resource.scale (number_in_place row.opening place
    ∷ number_in_place row.receipt place ∷ number_in_place row.expense place
    ∷ number_in_place row.closing place ∷ [])

-- the lines of a row, one for each resource
abbrev pub card_lines : Register → Row → List (List (List ℕ))
card_lines register row =
    map (λ (place, resource). card_line row place resource) (enumerate_from 0 register.resources)

-- the text of a stock card
unfoldable pub stock_card_text : Register → List Row → List ℕ
stock_card_text register rows =
    report_text card_columns (card_header ∷ flat_map (card_lines register) rows)
