-- Rows of the definitions, computed.
use Rattle.std.proofs.Common.{◌≡◌, [], ◌∷◌, ◌++◌, refl, None, Some, Ok, Err, true, false}
use Rattle.std.specs.Prelude.{codes}
use Rattle.reg_io.specs.Lines.{lines_of, whole_lines_of}
use Rattle.reg_io.specs.FailingCalls.{fails_next, next_call}
use Rattle.reg_io.specs.Files.{file_named, file_read}
use Rattle.reg_base.specs.declared.line.Line.TheVariants.{Text}
use Rattle.reg_io.specs.declared.shelf.ShelfFault.TheVariants.{Failed, TooLong as FileTooLong}

-- `ab`, an empty line, `c` with a carriage return before its line feed, and `d` and a carriage
-- return that no line feed follows
four_lines : lines_of (codes "ab" ++ 10 ∷ 10 ∷ codes "c" ++ 13 ∷ 10 ∷ codes "d" ++ 13 ∷ [])
    ≡ Text (codes "ab") ∷ Text [] ∷ Text (codes "c") ∷ Text (codes "d" ++ 13 ∷ []) ∷ []
four_lines = refl

three_whole_lines : whole_lines_of (codes "ab" ++ 10 ∷ 10 ∷ codes "c" ++ 13 ∷ 10 ∷ codes "d" ++ 13
    ∷ [])
    ≡ Text (codes "ab") ∷ Text [] ∷ Text (codes "c") ∷ []
three_whole_lines = refl

-- one carriage return goes, and not a second one
two_returns : lines_of (13 ∷ 13 ∷ 10 ∷ []) ≡ Text (13 ∷ []) ∷ []
two_returns = refl

no_lines : lines_of [] ≡ []
no_lines = refl

-- of two files of one name the first is read
first_of_two : file_named (codes "b") ((codes "a", codes "one") ∷ (codes "b", codes "two") ∷
    (codes "b", codes "three") ∷ [])
    ≡ Some (codes "two")
first_of_two = refl

no_such_file : file_named (codes "c") ((codes "a", codes "one") ∷ []) ≡ None
no_such_file = refl

as_long_as_the_limit : file_read (Some (codes "one")) 3 ≡ Ok (codes "one")
as_long_as_the_limit = refl

longer_than_the_limit : file_read (Some (codes "one")) 2 ≡ Err FileTooLong
longer_than_the_limit = refl

not_there : file_read None 2 ≡ Err Failed
not_there = refl

-- of the calls of an object whose second one is listed, the first is made and the second fails
first_call_is_made : fails_next (record { numbers = 2 ∷ []; made = 0 }) ≡ false
first_call_is_made = refl

second_call_fails : fails_next (next_call (record { numbers = 2 ∷ []; made = 0 })) ≡ true
second_call_fails = refl
