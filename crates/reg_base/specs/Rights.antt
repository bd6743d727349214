-- The words of rights.
use Rattle.std.specs.Prelude.{ℕ, List, codes}
use Rattle.reg_base.specs.declared.right.Right.{Right}
use Rattle.reg_base.specs.declared.right.Right.TheVariants.{Write, Post, Manual, Read, Lock, Admin}

-- the word of a right
unfoldable pub right_word : Right → List ℕ
right_word Write = codes "write"
right_word Post = codes "post"
right_word Manual = codes "manual"
right_word Read = codes "read"
right_word Lock = codes "lock"
right_word Admin = codes "admin"
