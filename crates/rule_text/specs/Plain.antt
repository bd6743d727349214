-- What is asked of terms, sums and conditions as they are written.
use Rattle.std.specs.Prelude.{Bool, true, false, List, [], ◌∷◌, Option, Some, None}
use Rattle.rule_text.specs.declared.plain.PlainCode.{PlainCode}
use Rattle.rule_text.specs.declared.plain.PlainCode.TheVariants.{Head as HeadCode, Line as LineCode}
use Rattle.rule_text.specs.declared.plain.PlainPart.{PlainPart}
use Rattle.rule_text.specs.declared.plain.PlainPart.TheVariants.{Number, Head, Line, Total, Cost}
use Rattle.rule_text.specs.declared.plain.PlainTerm.{PlainTerm}
use Rattle.rule_text.specs.declared.plain.Test.{Test}
use Rattle.rule_text.specs.declared.plain.Test.TheVariants.{Less, AtMost, Equal, AtLeast, Greater}
use Rattle.rule_text.specs.declared.plain.Test.TheVariants.{Differs}

-- the field of head or line that a part is, which may be a code's
abbrev pub code_of_part : PlainPart → Option PlainCode
code_of_part (Head field) = Some (HeadCode field)
code_of_part (Line field) = Some (LineCode field)
code_of_part (Number literal) = None
code_of_part (Total field) = None
code_of_part Cost = None

-- a sum of one term without a sign may be a field that has a code
unfoldable pub lone_field : List PlainTerm → Option PlainCode
lone_field [] = None
lone_field (term ∷ []) = unsigned_field term.negative term.part
  where
    unsigned_field : Bool → PlainPart → Option PlainCode
    unsigned_field true part = None
    unsigned_field false part = code_of_part part
lone_field (term ∷ next ∷ terms) = None

-- whether a test asks that both are equal or that they differ; codes are compared by these alone
unfoldable pub equality_of : Test → Option Bool
equality_of Equal = Some true
equality_of Differs = Some false
equality_of Less = None
equality_of AtMost = None
equality_of AtLeast = None
equality_of Greater = None
