use Rattle.std.proofs.Common.{◌+◌, ℕ, slice_get, sym, ap, ◌∙◌}
use Rattle.plan_flow.specs.Inner.EdgeKinds.{first_jump}
use Rattle.plan_flow.specs.declared.edge.EdgeKind.{EdgeKind}
use Rattle.plan_flow.proofs.EdgeKinds.{counted_handler, counted_jump, counted_no_next, found}
use Rattle.plan_flow.proofs.plan.counted_by.Goals as goal

pub returns-else-falls : goal.returns-else-falls
returns-else-falls c =
    counted_no_next c.args.edges.now c.requires (sym c.begins_with_next-falls.ensures ∙ c.if-falls.false)
    ∙ ap (λ (by : EdgeKind). found by c.args.edges.now) (sym c.in-Next.is)

pub returns-in-Jump : goal.returns-in-Jump
returns-in-Jump c =
    c.own_at-in-Jump.ensures
    ∙ ap (λ (first : ℕ). slice_get c.args.edges.now (first + c.in-Jump.number)) (c.first_jump.ensures ∙ ap first_jump c.begins_with_next-falls.ensures)
    ∙ counted_jump c.args.edges.now c.in-Jump.number c.requires
    ∙ ap (λ (by : EdgeKind). found by c.args.edges.now) (sym c.in-Jump.is)

pub returns-in-Handler : goal.returns-in-Handler
returns-in-Handler c =
    counted_handler c.args.edges.now c.in-Handler.field-0 c.requires
    ∙ ap (λ (by : EdgeKind). found by c.args.edges.now) (sym c.in-Handler.is)
