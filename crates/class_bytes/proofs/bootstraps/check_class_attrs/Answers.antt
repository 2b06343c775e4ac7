use Rattle.std.proofs.Common.{◌≡◌}
use Rattle.class_model.specs.Methods.{bootstrap_count}
use Rattle.class_bytes.specs.Inner.Cut.{attrs_of}
use Rattle.std.proofs.lemmas.Result.{err_from_is_err_and}
use Rattle.class_bytes.proofs.ClassAttrs.{attr_refused, one_behind}
use Rattle.class_bytes.proofs.bootstraps.check_class_attrs.Goals as goal

pub returns-in_err-own : goal.returns-in_err-own
returns-in_err-own c =
    let p = err_from_is_err_and c.from_residual.result c.from_residual.ensures.1 in
    rw (p.1, p.2) (attr_refused _ _ _ _ _ _ c.loop-attr.attr-index _ c.loop-attr-test.true c.loop-attr.invariant (λ count. count ≡ bootstrap_count c.args.pool.now (attrs_of c.args.attrs.now)) _ (rw c.is_some.ensures at c.in_err-own.ensures))

pub loop-attr-preserved : goal.loop-attr-preserved
loop-attr-preserved c =
    rw c.or-found.ensures (one_behind _ _ _ _ _ _ c.loop-attr.attr-index _ c.loop-attr-test.true c.loop-attr.invariant _ (rw c.is_some.ensures at c.in_ok-own.ensures))
