use Rattle.std.proofs.Common.{sym, ◌∙◌}
use Rattle.pool_bytes.proofs.raw.RawPool.push.Goals as goal
use Rattle.class_model.specs.Laws.Pools.{wide_pushed, narrow_pushed}

pub invariant_of-self-in-Continue-branch-3 : goal.invariant_of-self-in-Continue-branch-3
invariant_of-self-in-Continue-branch-3 c =
    rw (c.in_ok-push-2.ensures.items, c.in_ok-push.ensures.items, c.reserve.ensures.items)
    (wide_pushed c.args.self.now c.self.inside.entries.items c.args.value c.self.view_is c.self.invariant c.requires (sym c.units-is_wide.ensures ∙ c.if-is_wide.true))

pub invariant_of-self-else-is_wide : goal.invariant_of-self-else-is_wide
invariant_of-self-else-is_wide c =
    rw (c.in_ok-push.ensures.items, c.reserve.ensures.items)
    (narrow_pushed c.args.self.now c.self.inside.entries.items c.args.value c.self.view_is c.self.invariant c.requires (λ two. c.if-is_wide.false (c.units-is_wide.ensures ∙ two)))
