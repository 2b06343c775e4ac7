use Rattle.std.proofs.Common.{◌+◌, ◌-◌, arith}
use Rattle.std.proofs.lemmas.Result.{err_from_is_err_and}
use Rattle.class_bytes.specs.Inner.Cut.{field_of, method_of}
use Rattle.class_bytes.proofs.Many.{goes_on, stops, is_done}
use Rattle.class_bytes.proofs.cutting.cut_members.Goals as goal

pub returns-in_err-cut_member-clause-fields : goal.returns-in_err-cut_member-clause-fields
returns-in_err-cut_member-clause-fields c =
    let p = err_from_is_err_and c.from_residual-in_err-cut_member.result c.from_residual-in_err-cut_member.ensures.1 in
    rw (p.1, p.2) (stops (c.in_ok-count.count - (c.loop.counter + 1)) c.loop.invariant.0 (omega arith) c.in_err-cut_member.field-0.0 c.cut_member.new.cursor c.in_err-cut_member.ensures.field)

pub returns-in_err-cut_member-clause-methods : goal.returns-in_err-cut_member-clause-methods
returns-in_err-cut_member-clause-methods c =
    let p = err_from_is_err_and c.from_residual-in_err-cut_member.result c.from_residual-in_err-cut_member.ensures.1 in
    rw (p.1, p.2) (stops (c.in_ok-count.count - (c.loop.counter + 1)) c.loop.invariant.1 (omega arith) c.in_err-cut_member.field-0.0 c.cut_member.new.cursor c.in_err-cut_member.ensures.method)

pub loop-preserved : goal.loop-preserved
loop-preserved c =
    let next = c.in_ok-count.count - (c.loop.counter + 1) in
    let after = c.cut_member.new.cursor in
    rw c.in_ok-push.ensures.ok (
      goes_on field_of next c.loop.members c.loop.invariant.0 (omega arith) c.in_ok-cut_member.field-0 after c.in_ok-cut_member.ensures.field,
      goes_on method_of next c.loop.members c.loop.invariant.1 (omega arith) c.in_ok-cut_member.field-0 after c.in_ok-cut_member.ensures.method,
    )

pub returns-clause-fields : goal.returns-clause-fields
returns-clause-fields c = is_done c.loop.invariant.0 (omega arith)

pub returns-clause-methods : goal.returns-clause-methods
returns-clause-methods c = is_done c.loop.invariant.1 (omega arith)
