use Rattle.class_tree.proofs.SuperNumbers.{are_interfaces}
use Rattle.class_tree.proofs.hierarchy.implements_interfaces.Goals as goal

pub returns : goal.returns
returns c =
    rw c.are_interfaces.ensures (are_interfaces c.args.headers.now c.args.header.now.interfaces c.interfaces.result.now c.interfaces.ensures)
