use Rattle.std.proofs.Common.{◌≡◌, true}
use Rattle.std.proofs.lemmas.Result.{err_from_is_err_and}
use Rattle.class_model.specs.Members.{is_named}
use Rattle.class_model.specs.Methods.{bootstrap_methods}
use Rattle.class_bytes.specs.Inner.Cut.{attr_of}
use Rattle.class_bytes.proofs.ClassAttrs.{is_table, is_other, twice_refused, table_refused, table_counted}
use Rattle.class_bytes.proofs.bootstraps.check_class_attr.Goals as goal

pub returns-in_err-ask : goal.returns-in_err-ask
returns-in_err-ask c = λ before same.
    let named : is_named c.args.pool.now bootstrap_methods (attr_of c.args.attr.now) ≡ true = is_table _ c.args.attr.now _ _ c.in_ok-name.ensures.1 c.bytes.ensures.same c.if-ne.ensures in
    let p = err_from_is_err_and c.from_residual-in_err-ask.result c.from_residual-in_err-ask.ensures.1 in
    rw (p.1, p.2) (twice_refused _ before _ c.args.attr.now named c.in_ok-name.ensures.0.0 _ same _ c.in_err-ask.ensures)

pub returns-in_err-count : goal.returns-in_err-count
returns-in_err-count c = λ before same.
    let named : is_named c.args.pool.now bootstrap_methods (attr_of c.args.attr.now) ≡ true = is_table _ c.args.attr.now _ _ c.in_ok-name.ensures.1 c.bytes.ensures.same c.if-ne.ensures in
    let p = err_from_is_err_and c.from_residual-in_err-count.result c.from_residual-in_err-count.ensures.1 in
    rw (p.1, p.2) (table_refused _ before _ c.args.attr.now named c.in_ok-name.ensures.0.0 _ same _ c.in_ok-ask.ensures.0.0 c.in_err-count.ensures)

pub returns : goal.returns
returns c = λ before same.
    let named : is_named c.args.pool.now bootstrap_methods (attr_of c.args.attr.now) ≡ true = is_table _ c.args.attr.now _ _ c.in_ok-name.ensures.1 c.bytes.ensures.same c.if-ne.ensures in
    table_counted _ before _ c.args.attr.now named c.in_ok-name.ensures.0.0 _ same _ c.in_ok-ask.ensures.0.0 c.in_ok-count.ensures

pub returns-then-ne : goal.returns-then-ne
returns-then-ne c = λ before same. is_other _ before _ c.args.attr.now _ _ c.in_ok-name.ensures.0.0 c.in_ok-name.ensures.1 c.bytes.ensures.same c.if-ne.ensures
