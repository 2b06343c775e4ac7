use Rattle.std.proofs.Common.{arith}
use Rattle.class_tree.proofs.Parts.{stands}
use Rattle.class_tree.proofs.lists.stands_from.Goals as goal

pub returns : goal.returns
returns c = λ told.
    stands c.args.items.now c.args.list.now c.args.start (omega (arith, c.if-start-items.false)) c.starts_with.result c.starts_with.ensures.value (c.starts_with.ensures.bound told) told
