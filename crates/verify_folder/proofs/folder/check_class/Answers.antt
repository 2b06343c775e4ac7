use Rattle.std.proofs.Common.{◌≤◌, length, Ok, Some, ◌∙◌, subst, ap, sym}
use Rattle.std.proofs.lemmas.Result.{err_from_is_err_and}
use Rattle.std.specs.Option.{is_some}
use Rattle.class_tree.specs.Headers.{headers_of}
use Rattle.class_model.specs.MethodCode.{code_of}
use Rattle.verify_folder.proofs.MethodWalk.{all_typed, answered, check_stops, item_at, no_frames, none_typed, one_typed}
use Rattle.verify_folder.proofs.folder.check_class.Goals as goal
use Rattle.verify_folder.proofs.folder.check_class.Goals.{then-has_code+in_ok-check_method, else-has_code}

pub loop-number-init : goal.loop-number-init
loop-number-init c = none_typed (headers_of c.args.tree.now) c.args.class.now

pub returns-in_err-check_method : goal.returns-in_err-check_method
returns-in_err-check_method c =
    let class = c.args.class.now in
    let number = c.loop-number.number in
    let method = c.method-item.result in
    let found = item_at class.methods c.as_slice-method-items.result.now number method _ c.as_slice-method-items.ensures c.loop-number-test.true c.method-item.is in
    let code = ap (λ attrs. is_some (code_of attrs)) (sym c.as_slice.ensures) ∙ sym c.has_code.ensures in
    let p = err_from_is_err_and c.from_residual.result c.from_residual.ensures.1 in
    rw (p.1, p.2) (check_stops c.args.tree.now c.args.place number class method c.requires.stands found (code ∙ c.if-has_code.true) c.loop-number.invariant c.in_err-check_method.field-0.0 c.in_err-check_method.ensures)

pub loop-number-preserved : goal.loop-number-preserved
loop-number-preserved c =
    let class = c.args.class.now in
    let number = c.loop-number.number in
    let method = c.method-item.result in
    let found = item_at class.methods c.as_slice-method-items.result.now number method _ c.as_slice-method-items.ensures c.loop-number-test.true c.method-item.is in
    let code = ap (λ attrs. is_some (code_of attrs)) (sym c.as_slice.ensures) ∙ sym c.has_code.ensures in
    let next = one_typed (headers_of c.args.tree.now) class number method found c.loop-number.invariant in
    elim c.if-has_code.branch [
      | then-has_code+in_ok-check_method w ↦ next (Some w.in_ok-check_method.ensures.0) (answered c.args.tree.now c.args.place number class method c.requires.stands found (code ∙ w.if-has_code.true) (Ok w.in_ok-check_method.ensures.0) w.in_ok-check_method.ensures.1)
      | else-has_code w ↦ next _ (no_frames (headers_of c.args.tree.now) class method (code ∙ w.if-has_code.false))
    ]

pub returns : goal.returns
returns c =
    let is = c.loop-number.invariant in
    (is.typed, all_typed (headers_of c.args.tree.now) c.args.class.now c.loop-number.number is.typed (subst (λ methods. length methods ≤ c.loop-number.number) c.as_slice-method-items.ensures c.loop-number-test.false) is.so_far)
