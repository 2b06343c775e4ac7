use Rattle.std.proofs.Common.{sym, ◌∙◌, ap, arith, get_or}
use Rattle.machine_values.specs.Values.{has_kind}
use Rattle.class_model.specs.declared.descriptor.Kind.TheVariants as kinds
use Rattle.machine_heap.proofs.KindLists.{answers, unequal, none_left, one_differs}
use Rattle.machine_heap.proofs.values.have_kinds.Goals as goal

pub returns-then-kinds-values : goal.returns-then-kinds-values
returns-then-kinds-values c =
    answers _ _ (unequal c.args.kinds.now c.args.values.now c.if-kinds-values.true)

pub returns-then-not-has_kind : goal.returns-then-not-has_kind
returns-then-not-has_kind c =
    answers _ _
    (one_differs c.args.kinds.now c.args.values.now c.loop-at.at kinds.Int c.index-values-at.result
    (omega arith) (omega arith)
    (ap (has_kind (get_or c.args.kinds.now c.loop-at.at kinds.Int)) (sym c.index-values-at.is)
    ∙ sym c.has_kind.ensures
    ∙ c.if-not-has_kind.true)
    ∙ c.loop-at.invariant)

pub returns : goal.returns
returns c =
    answers _ _
    (none_left c.args.kinds.now c.args.values.now c.loop-at.at c.if-kinds-values.false
    c.loop-at-test.false
    ∙ c.loop-at.invariant)
