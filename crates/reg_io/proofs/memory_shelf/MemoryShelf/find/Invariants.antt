use Rattle.std.proofs.Common.{◌≡◌, drop}
use Rattle.reg_io.specs.Files.{file_named}
use Rattle.reg_io.proofs.memory_shelf.MemoryShelf.find.Given as goal

abbrev pub invariant-loop-file : goal.invariant-loop-file
invariant-loop-file l =
    file_named l.name (drop l.file-index l.file-items) ≡ file_named l.name l.self.files
