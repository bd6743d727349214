-- Files by name, and what reading one answers.
use Rattle.std.specs.Prelude.{◌≡◌, ℕ, List, [], ◌∷◌, length, nat_le, bytes_eq, if◌then◌else◌}
use Rattle.std.specs.Prelude.{Option, None, Some, Result, Ok, Err, ⊤, Vec}
use Rattle.reg_io.specs.declared.shelf.ShelfFault.{ShelfFault}
use Rattle.reg_io.specs.declared.shelf.ShelfFault.TheVariants.{Failed, TooLong, Memory}

-- the bytes of the first file of this name
abbrev pub file_named : List ℕ → List (List ℕ × List ℕ) → Option (List ℕ)
file_named name [] = None
file_named name (file ∷ files) =
    if bytes_eq file.0 name then Some file.1 else file_named name files

-- what reading a file gives: its bytes where they are at most so many, and a fault where there
-- is no such file
abbrev pub file_read : Option (List ℕ) → ℕ → Result (List ℕ) ShelfFault
file_read None most = Err Failed
file_read (Some bytes) most = if nat_le (length bytes) most then Ok bytes else Err TooLong

-- an answer is what reading the file gives, unless a call failed or memory was refused
abbrev pub ReadsFile : {A : Type 0} → Result (List ℕ) ShelfFault → Result (Vec ℕ A) ShelfFault →
    Type 0
ReadsFile read (Ok bytes) = read ≡ Ok bytes.items
ReadsFile read (Err TooLong) = read ≡ Err TooLong
ReadsFile read (Err Failed) = ⊤
ReadsFile read (Err Memory) = ⊤
