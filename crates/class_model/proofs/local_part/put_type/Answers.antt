use Rattle.std.proofs.Common.{◌≡◌, length, arith}
use Rattle.class_model.proofs.LocalParts.{kept-put, put-push}
use Rattle.class_model.proofs.local_part.put_type.Goals as goal

pub returns-clause-ok : goal.returns-clause-ok
returns-clause-ok c =
    let many : length c.loop-types.types.items ≡ c.args.at = omega arith in
    rw (c.in_ok-push-2.ensures.items, c.loop-types.invariant.2) (kept-put c.loop-types.invariant.1 (put-push c.loop-types.types.items c.args.at c.args.unit many))
