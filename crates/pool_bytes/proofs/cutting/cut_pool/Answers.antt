use Rattle.std.proofs.Common.{length, refl, ap, arith, length-append}
use Rattle.std.proofs.lemmas.Result.{err_from_is_err_and}
use Rattle.class_model.specs.Pool.{entries_of}
use Rattle.pool_bytes.proofs.CutBack.{some_entries}
use Rattle.pool_bytes.proofs.Cuts.{at_start, stops, goes_on as one_further, ends}
use Rattle.pool_bytes.proofs.Moves.{stays, goes_on, u2_then}
use Rattle.pool_bytes.proofs.cutting.cut_pool.Goals as goal

pub loop-pool-init : goal.loop-pool-init
loop-pool-init c = record {
  so_far = rw c.new-pool.ensures (at_start c.args.major c.in_ok-count.count c.args.cursor.now c.u2.new.self c.if-count-eq0.false c.in_ok-count.ensures.taken);
  behind = u2_then c.in_ok-count.ensures.taken (stays refl);
}

pub returns-in_err-constant-clause-taken : goal.returns-in_err-constant-clause-taken
returns-in_err-constant-clause-taken c =
    let p = err_from_is_err_and c.from_residual-in_err-constant.result c.from_residual-in_err-constant.ensures.1 in
    rw (p.1, p.2)
    (stops c.args.major c.in_ok-count.count c.args.cursor.now c.loop-pool.pool c.loop-pool.cursor c.entry.new.cursor c.count-in-loop-pool.result c.in_err-constant.field-0.0 c.count-in-loop-pool.ensures.count (omega arith)
    c.loop-pool.invariant.so_far c.in_err-constant.ensures.taken)

pub returns-in_err-constant-clause-behind : goal.returns-in_err-constant-clause-behind
returns-in_err-constant-clause-behind c = goes_on c.loop-pool.invariant.behind c.in_err-constant.ensures.behind

pub returns-in_err-push-clause-behind : goal.returns-in_err-push-clause-behind
returns-in_err-push-clause-behind c = goes_on c.loop-pool.invariant.behind c.in_ok-constant.ensures.behind

pub loop-pool-smaller : goal.loop-pool-smaller
loop-pool-smaller c =
    let constant = c.in_ok-constant.constant in
    omega (arith, ap length c.in_ok-push.ensures.ok, length-append c.loop-pool.pool (entries_of constant), some_entries constant)

pub loop-pool-preserved : goal.loop-pool-preserved
loop-pool-preserved c =
    let here = c.count-in-loop-pool.ensures.count in
    let so_far =
    one_further c.args.major c.in_ok-count.count c.args.cursor.now c.loop-pool.pool c.loop-pool.cursor (omega arith) c.loop-pool.invariant.so_far c.in_ok-constant.constant c.entry.new.cursor
    (rw here at c.in_ok-constant.ensures.taken) (omega (arith, here, c.in_ok-constant.ensures.within)) in
    record { so_far = rw c.in_ok-push.ensures.ok so_far; behind = goes_on c.loop-pool.invariant.behind c.in_ok-constant.ensures.behind }

pub returns-clause-taken : goal.returns-clause-taken
returns-clause-taken c = ends c.args.major c.in_ok-count.count c.args.cursor.now c.loop-pool.pool c.loop-pool.cursor (omega arith) c.loop-pool.invariant.so_far
