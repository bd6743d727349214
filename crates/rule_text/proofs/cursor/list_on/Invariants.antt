use Rattle.std.proofs.Common.{◌≡◌, length}
use Rattle.rule_text.specs.Readers.{rest, put_in_front, many}
use Rattle.rule_text.proofs.cursor.list_on.Given as goal

abbrev pub invariant-elements : goal.invariant-elements
invariant-elements g l =
    put_in_front l.elements.items (many g.F.Follows.follows l.counter (rest l.cursor))
    ≡ put_in_front l.fn.front.items (many g.F.Follows.follows (length (rest l.fn.cursor))
    (rest l.fn.cursor))
