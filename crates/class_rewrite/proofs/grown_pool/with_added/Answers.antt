use Rattle.std.proofs.Common.{◌≡◌, ◌++◌, Some, arith, sym, ap, ◌∙◌, slice_get}
use Rattle.class_model.specs.Pool.{entries_of}
use Rattle.class_rewrite.proofs.PoolCopies.{copied_fits, copied_step}
use Rattle.class_rewrite.proofs.grown_pool.with_added.Goals as goal

pub push-requires : goal.push-requires
push-requires c =
    let is : slice_get c.args.added.now.entries c.loop-at.at ≡ Some (c.in-Some.constant.now, c.in-Some.field-0-1.now) = sym c.in-Some.ensures.entry in
    let fits = copied_fits c.args.pool c.loop-at.all c.args.added.now.entries c.loop-at.at _ _ is c.loop-at.invariant in
    rw c.in_ok-copy.ensures (omega (arith, fits, c.requires))

pub loop-at-preserved : goal.loop-at-preserved
loop-at-preserved c =
    let is : slice_get c.args.added.now.entries c.loop-at.at ≡ Some (c.in-Some.constant.now, c.in-Some.field-0-1.now) = sym c.in-Some.ensures.entry in
    c.in_ok-push.ensures.ok ∙ ap (λ value. c.loop-at.all ++ entries_of value) c.in_ok-copy.ensures
    ∙ copied_step c.args.pool c.loop-at.all c.args.added.now.entries c.loop-at.at _ _ is c.loop-at.invariant
