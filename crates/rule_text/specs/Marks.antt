-- The texts of marks, and the marks that bytes spell.
use Rattle.std.specs.Prelude.{ℕ, codes, ◌==◌, ◌&&◌, if◌then◌else◌, List, Option, Some, None}
use Rattle.rule_text.specs.declared.mark.Mark.{Mark}
use Rattle.rule_text.specs.declared.mark.Mark.TheVariants.{Open, Close, Semicolon, Comma, Equal}
use Rattle.rule_text.specs.declared.mark.Mark.TheVariants.{Point, Plus, Minus, Less, AtMost}
use Rattle.rule_text.specs.declared.mark.Mark.TheVariants.{AtLeast, Greater, Differs}

-- how a mark is spelt
unfoldable pub mark_text : Mark → List ℕ
mark_text Open = codes "("
mark_text Close = codes ")"
mark_text Semicolon = codes ";"
mark_text Comma = codes ","
mark_text Equal = codes "="
mark_text Point = codes "."
mark_text Plus = codes "+"
mark_text Minus = codes "-"
mark_text Less = codes "<"
mark_text AtMost = codes "<="
mark_text AtLeast = codes ">="
mark_text Greater = codes ">"
mark_text Differs = codes "<>"

-- the mark of one byte
unfoldable pub single_mark : ℕ → Option Mark
single_mark b =
    if b == 40 then Some Open
    else if b == 41 then Some Close
    else if b == 59 then Some Semicolon
    else if b == 44 then Some Comma
    else if b == 61 then Some Equal
    else if b == 46 then Some Point
    else if b == 43 then Some Plus
    else if b == 45 then Some Minus
    else if b == 60 then Some Less
    else if b == 62 then Some Greater
    else None

-- the mark of two bytes, `<=`, `<>` or `>=`
unfoldable pub double_mark : ℕ → ℕ → Option Mark
double_mark first second =
    if first == 60 && second == 61 then Some AtMost
    else if first == 60 && second == 62 then Some Differs
    else if first == 62 && second == 61 then Some AtLeast
    else None
