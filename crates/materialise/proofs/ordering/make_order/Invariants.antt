use Rattle.std.proofs.Common.{length}
use Rattle.making_code.specs.MakeOrder.{left_of}
use Rattle.materialise.proofs.OrderLaws.{Ordered}
use Rattle.materialise.proofs.ordering.make_order.Given as goal

abbrev pub invariant-loop-site : goal.invariant-loop-site
invariant-loop-site l = Ordered l.state.objects l.sites l.made l.order

abbrev pub decreases-loop-site : goal.decreases-loop-site
decreases-loop-site l = length (left_of l.sites l.made)
