use Rattle.std.proofs.Common.{Bor, List, ℕ, Option, sym, subst}
use Rattle.std.specs.Prelude.{IfSome}
use Rattle.flow_code.specs.declared.handlers.FlatHandler.{FlatHandler}
use Rattle.plan_flow.specs.Inner.Sharing.{AreTargetsOf, handlers_in}
use Rattle.plan_flow.proofs.handler_targets.targets_at.Goals as goal

pub returns-in-Some : goal.returns-in-Some
returns-in-Some c =
    let handlers = handlers_in c.args.flat.now c.args.at in
    subst (AreTargetsOf handlers) (sym c.in_ok-shared.ensures)
    (subst (λ (list : Option (Bor (List ℕ))). IfSome list (λ targets. AreTargetsOf handlers targets.now)) c.in-Some.is c.targets_before.ensures)

pub returns : goal.returns
returns c =
    subst (AreTargetsOf (handlers_in c.args.flat.now c.args.at)) (sym c.in_ok-list.ensures)
    (subst (λ (handlers : List FlatHandler). AreTargetsOf handlers c.in_ok-targets.targets.items) c.handlers_at-handlers.ensures c.in_ok-targets.ensures)
