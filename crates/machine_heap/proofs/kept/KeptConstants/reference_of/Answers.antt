use Rattle.std.proofs.Common.{ap, ◌∙◌}
use Rattle.machine_values.specs.Heaps.{kept_in}
use Rattle.machine_values.specs.contracts.object.ConstantPartialEq.TheImpl.{ghosts as comparison}
use Rattle.machine_heap.proofs.KeptEntries.{found_reference}
use Rattle.machine_heap.proofs.kept.KeptConstants.reference_of.Goals as goal

pub returns : goal.returns
returns c =
    let law = c.constants_compare_by_value.ensures in
    c.copied.ensures ∙ c.get.ensures.value
    ∙ found_reference comparison.eq law.found law.same c.self.inside.references.entries c.args.constant.now
    ∙ ap (λ kept. kept_in kept c.args.constant.now) c.self.view_is
