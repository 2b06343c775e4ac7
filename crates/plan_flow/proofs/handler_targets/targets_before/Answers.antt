use Rattle.std.proofs.Common.{◌≡◌, ◌-◌, [], List, ℕ, Option, Some, slice_get, sym, ap, subst, ◌∙◌, arith}
use Rattle.std.specs.Option.{option_copied, option_map_or}
use Rattle.flow_code.specs.declared.handlers.FlatHandler.{FlatHandler}
use Rattle.plan_flow.specs.Inner.Sharing.{AreTargetsOf, handlers_in, points_of, targets_in}
use Rattle.plan_flow.proofs.TargetLists.{alike_targets}
use Rattle.plan_flow.proofs.handler_targets.targets_before.Goals as goal

pub returns-then-lead_alike : goal.returns-then-lead_alike
returns-then-lead_alike c =
    let flat = c.args.flat.now in
    let at = c.args.at in
    let test = c.if-at-eq0.false in
    let alike : points_of (handlers_in flat at) ≡ points_of (handlers_in flat (at - 1)) =
    ap (λ (list : List FlatHandler). points_of list) (sym c.handlers_at.ensures) ∙ c.lead_alike.ensures c.if-lead_alike.true
    ∙ ap (λ (list : List FlatHandler). points_of list) c.handlers_at-2.ensures in
    let found : slice_get c.args.known.now (at - 1) ≡ Some c.in-Some.targets.now = sym c.known_at.ensures ∙ ap option_copied c.in-Some.is in
    subst (AreTargetsOf (handlers_in flat at)) (ap (λ (list : Option (List ℕ)). option_map_or (λ one. one) list []) found)
    (alike_targets (handlers_in flat at) (handlers_in flat (at - 1)) (targets_in c.args.known.now (at - 1)) alike (c.requires.each (at - 1) (omega (arith, test))))
