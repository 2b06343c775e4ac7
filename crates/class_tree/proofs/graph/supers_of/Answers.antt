use Rattle.std.proofs.Common.{◌≡◌, ◌<◌, List, length, ap, get_or, arith}
use Rattle.class_tree.specs.Headers.{Name}
use Rattle.class_tree.specs.Inner.Nodes.{number_of}
use Rattle.class_tree.proofs.SupersGraph.{one_name_more}
use Rattle.class_tree.proofs.graph.supers_of.Goals as goal

pub loop-name-preserved : goal.loop-name-preserved
loop-name-preserved c =
    let names = c.args.header.now.interfaces in
    let low : c.loop-name.name-index < length names = omega (arith, ap (λ (ns : List Name). length ns) c.as_slice-name-items.ensures) in
    let is : c.name-item.result ≡ get_or names c.loop-name.name-index c.name-item.result = rw (← c.as_slice-name-items.ensures) c.name-item.is in
    one_name_more (number_of c.args.headers.now) c.match-header.numbers c.loop-name.numbers c.push_number-in-loop-name.new.numbers names c.loop-name.name-index c.name-item.result low is
    c.loop-name.invariant c.in_ok-push_number-2.ensures
