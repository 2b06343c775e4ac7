use Rattle.std.proofs.Common.{List, slice_get, sym, ap, ◌∙◌}
use Rattle.plan_flow.specs.Inner.Sharing.{made_in}
use Rattle.plan_flow.specs.Plans.{MadeEdge}
use Rattle.plan_flow.specs.declared.edge.EdgeKind.{EdgeKind}
use Rattle.plan_flow.specs.declared.edge.EdgeKind.TheVariants as kinds
use Rattle.plan_flow.proofs.EdgeKinds.{caught_handler, caught_jump, caught_next, found}
use Rattle.plan_flow.proofs.plan.ThrownPlan.by_kind.Goals as goal

pub returns-in-Handler : goal.returns-in-Handler
returns-in-Handler c =
    let made = made_in c.self.inside.made in
    let handlers = c.self.inside.handlers in
    let number = c.in-Handler.number in
    c.get.ensures
    ∙ ap (λ (list : List MadeEdge). slice_get list number) (sym c.self.view_is)
    ∙ sym (caught_handler made number handlers)
    ∙ ap (found (kinds.Handler number)) c.self.view_is
    ∙ ap (λ (by : EdgeKind). found by c.args.self.now) (sym c.in-Handler.is)

pub returns-in-Next : goal.returns-in-Next
returns-in-Next c =
    sym (caught_next (made_in c.self.inside.made) 0 c.self.inside.handlers)
    ∙ ap (found kinds.Next) c.self.view_is
    ∙ ap (λ (by : EdgeKind). found by c.args.self.now) (sym c.in-Next.is)

pub returns-in-Jump : goal.returns-in-Jump
returns-in-Jump c =
    sym (caught_jump (made_in c.self.inside.made) 0 c.in-Jump.field-0 c.self.inside.handlers)
    ∙ ap (found (kinds.Jump c.in-Jump.field-0)) c.self.view_is
    ∙ ap (λ (by : EdgeKind). found by c.args.self.now) (sym c.in-Jump.is)
