use Rattle.std.proofs.Common.{◌+◌, ◌-◌, arith}
use Rattle.std.proofs.lemmas.Result.{err_from_is_err_and}
use Rattle.class_bytes.specs.Inner.Cut.{attr_of, inner_of}
use Rattle.class_bytes.proofs.Many.{goes_on, stops, is_done}
use Rattle.class_bytes.proofs.cutting.cut_attrs.Goals as goal

pub returns-in_err-cut_attr-clause-attrs : goal.returns-in_err-cut_attr-clause-attrs
returns-in_err-cut_attr-clause-attrs c =
    let p = err_from_is_err_and c.from_residual-in_err-cut_attr.result c.from_residual-in_err-cut_attr.ensures.1 in
    rw (p.1, p.2) (stops (c.in_ok-count.count - (c.loop.counter + 1)) c.loop.invariant.0 (omega arith) c.in_err-cut_attr.field-0.0 c.cut_attr.new.cursor c.in_err-cut_attr.ensures.attr)

pub returns-in_err-cut_attr-clause-inners : goal.returns-in_err-cut_attr-clause-inners
returns-in_err-cut_attr-clause-inners c =
    let p = err_from_is_err_and c.from_residual-in_err-cut_attr.result c.from_residual-in_err-cut_attr.ensures.1 in
    rw (p.1, p.2) (stops (c.in_ok-count.count - (c.loop.counter + 1)) c.loop.invariant.1 (omega arith) c.in_err-cut_attr.field-0.0 c.cut_attr.new.cursor c.in_err-cut_attr.ensures.inner)

pub loop-preserved : goal.loop-preserved
loop-preserved c =
    let next = c.in_ok-count.count - (c.loop.counter + 1) in
    let after = c.cut_attr.new.cursor in
    rw c.in_ok-push.ensures.ok (
      goes_on attr_of next c.loop.attrs c.loop.invariant.0 (omega arith) c.in_ok-cut_attr.field-0 after c.in_ok-cut_attr.ensures.attr,
      goes_on inner_of next c.loop.attrs c.loop.invariant.1 (omega arith) c.in_ok-cut_attr.field-0 after c.in_ok-cut_attr.ensures.inner,
    )

pub returns-clause-attrs : goal.returns-clause-attrs
returns-clause-attrs c = is_done c.loop.invariant.0 (omega arith)

pub returns-clause-inners : goal.returns-clause-inners
returns-clause-inners c = is_done c.loop.invariant.1 (omega arith)
