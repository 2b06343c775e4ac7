use Rattle.std.proofs.Common.{length, ap, arith, length-append}
use Rattle.class_model.specs.Pool.{entries_of}
use Rattle.pool_bytes.proofs.Copies.{More, no_copy, one_more, all_copied}
use Rattle.pool_bytes.proofs.CutBack.{some_entries}
use Rattle.pool_bytes.proofs.raw.RawPool.to_pool.Goals as goal
use Rattle.pool_bytes.proofs.raw.RawPool.to_pool.Goals.{In_ok-checked}

more : (c : In_ok-checked) → More c.args.self.now c.loop-constant.pool c.in_ok-checked.field-0
more c =
    rw c.in_ok-checked.ensures
    (one_more c.args.self.now c.loop-constant.pool c.count.result c.in-Some.constant.now c.in-Some.ensures.pool c.loop-constant.invariant c.count.ensures.count c.in-Some.ensures.constant)

pub loop-constant-init : goal.loop-constant-init
loop-constant-init c = rw c.new-pool.ensures (no_copy c.args.self.now)

pub push-requires : goal.push-requires
push-requires c = (more c).fits

pub loop-constant-smaller : goal.loop-constant-smaller
loop-constant-smaller c =
    let constant = c.in_ok-checked.field-0 in
    let fits = (more (goal.at.loop-constant-smaller c).In_ok-checked).fits in
    omega (arith, fits, ap length c.in_ok-push.ensures.ok, length-append c.loop-constant.pool (entries_of constant), some_entries constant)

pub loop-constant-preserved : goal.loop-constant-preserved
loop-constant-preserved c = rw c.in_ok-push.ensures.ok ((more (goal.at.loop-constant-preserved c).In_ok-checked).copied)

pub returns : goal.returns
returns c = all_copied c.args.self.now c.loop-constant.pool c.count.result c.in_default.ensures.pool c.loop-constant.invariant c.count.ensures.count c.in_default.ensures.constant
