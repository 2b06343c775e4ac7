use Rattle.std.proofs.Common.{◌≡◌, sym, rules}
use Rattle.std.specs.List.{list_all}
use Rattle.std.proofs.lemmas.Iterator.{YieldsList-from_slice}
use Rattle.std.proofs.lemmas.Iterator.Search.{all_from_yields_List}
use Rattle.class_tree.proofs.Placed.{is_one, whether_it_follows}
use Rattle.class_tree.proofs.order.can_follow.Goals as goal

pub returns : goal.returns
returns c =
    let test = is_one c.args.placed.now.nodes in
    let targets = c.get.result.now in
    let all : c.all.result ≡ list_all test targets = all_from_yields_List test _ _ _ c.all.ensures.ran (YieldsList-from_slice targets cc) (λ x b q k. search rules) in
    whether_it_follows c.args.graph.now c.args.placed.now.nodes targets c.args.node c.all.result c.get.ensures (sym c.if-has.ensures) all
