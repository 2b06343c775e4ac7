use Rattle.std.proofs.Common.{rules, ◌≡◌, ◌+◌, ℕ, true, false, Some, None, subst}
use Rattle.plan_flow.specs.Plans.{state_left}
use Rattle.plan_flow.proofs.PlanGains.{AbsentUpTo, left_found, left_next, left_none}
use Rattle.virtual_state.specs.Sites.{IsSiteFrom, has}
use Rattle.plan_flow.proofs.saving.site_left_from.Goals as goal

pub returns-then-not-has : goal.returns-then-not-has
returns-then-not-has c =
    let point = c.args.point.now in
    let found : IsSiteFrom point.state.objects c.loop-site.from (Some c.in-Some.site) = search rules in
    let stays : has point.made c.in-Some.site ≡ false = search rules in
    left_found (has point.made) point.state.objects c.args.first c.loop-site.from c.in-Some.site c.loop-site.invariant found stays

pub loop-site-preserved : goal.loop-site-preserved
loop-site-preserved c =
    let point = c.args.point.now in
    let found : IsSiteFrom point.state.objects c.loop-site.from (Some c.in-Some.site) = search rules in
    let away : has point.made c.in-Some.site ≡ true = search rules in
    let same : c.in-Some.site ≡ c.from-from.result = search rules in
    subst (λ (site : ℕ). AbsentUpTo (state_left point).objects c.args.first (site + 1)) same
    (left_next (has point.made) point.state.objects c.args.first c.loop-site.from c.in-Some.site c.loop-site.invariant found away)

pub returns : goal.returns
returns c =
    let point = c.args.point.now in
    let none : IsSiteFrom point.state.objects c.loop-site.from None = search rules in
    left_none (has point.made) point.state.objects c.args.first c.loop-site.from c.loop-site.invariant none
