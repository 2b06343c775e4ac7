use Rattle.class_tree.proofs.InterfaceLists.{lists_placed}
use Rattle.class_tree.proofs.interfaces.interface_lists.Goals as goal

pub returns : goal.returns
returns c = lists_placed c.args.headers.now c.in_ok-numbers.numbers c.in_ok-places.places c.in_ok-numbers.ensures c.in_ok-places.ensures
