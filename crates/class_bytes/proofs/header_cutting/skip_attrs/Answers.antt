use Rattle.std.proofs.Common.{◌+◌, ◌-◌, length, ap, arith}
use Rattle.std.proofs.lemmas.Result.{err_from_is_err_and}
use Rattle.class_bytes.specs.Inner.Cut.{attr_of}
use Rattle.class_bytes.proofs.Skipping.{skips, attr_refused, all_skipped}
use Rattle.class_bytes.proofs.header_cutting.skip_attrs.Goals as goal

pub returns-in_err-cut_attr : goal.returns-in_err-cut_attr
returns-in_err-cut_attr c =
    let p = err_from_is_err_and c.from_residual-in_err-cut_attr.result c.from_residual-in_err-cut_attr.ensures.1 in
    rw (p.1, p.2) (attr_refused c.args.cursor.now (c.in_ok-count.count - (c.loop.counter + 1)) c.loop.invariant (omega arith) c.in_err-cut_attr.field-0.0 c.cut_attr.new.cursor c.in_err-cut_attr.ensures.attr)

pub loop-preserved : goal.loop-preserved
loop-preserved c = skips (c.in_ok-count.count - (c.loop.counter + 1)) c.loop.invariant (omega arith) (attr_of c.in_ok-cut_attr.field-0) c.cut_attr.new.cursor c.in_ok-cut_attr.ensures.attr

pub returns : goal.returns
returns c =
    let left = ap length c.rest.ensures in
    all_skipped c.args.cursor.now c.loop.invariant (omega arith) _ (omega (arith, left, c.loop.invariant.bytes))
