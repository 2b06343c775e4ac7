use Rattle.std.proofs.Common.{sym, subst}
use Rattle.class_tree.specs.Headers.{Classes}
use Rattle.flow_code.specs.FlatCode.{FlatCode}
use Rattle.making_code.specs.IndexedMaking.{all_making_needs}
use Rattle.making_code.specs.MakeCode.{make_code}
use Rattle.materialise.proofs.making.make_code.Goals as goal
use Rattle.materialise.specs.Growing.{IsFull}
use Rattle.materialise.specs.MadeCode.{DescribesConstructors}

pub returns-clause-full : goal.returns-clause-full
returns-clause-full c = λ reason constructor order is described is_order.
    subst (λ (flat : FlatCode). IsFull c.args.pool.now (all_making_needs constructor (make_code flat c.args.at c.args.state.now c.args.sites.now order)) reason) c.in_ok-units.ensures
    (c.write_make_code.ensures.full reason constructor order is
    (subst (λ (classes : Classes). DescribesConstructors classes constructor) (sym c.in_ok-constructors.ensures) described) is_order)
