use Rattle.std.proofs.Common.{◌≡◌, ◌+◌, ◌∙◌, ℕ, List, [], Option, ap, arith}
use Rattle.std.proofs.lemmas.Result.{err_from_is_err_and}
use Rattle.class_model.specs.ClassOf.{fields_checks, methods_checks}
use Rattle.class_model.specs.Methods.{Home, bootstrap_count, home_of}
use Rattle.class_bytes.specs.Inner.Cut.{class_of, fields_of, methods_of}
use Rattle.class_bytes.specs.Inner.Parts.{head_len, fields_len, methods_len}
use Rattle.class_bytes.proofs.ClassParts.{fields_at, methods_at, fields_part, methods_part, head_stops, fields_stop, methods_stop, attrs_told, same_fault}
use Rattle.class_bytes.proofs.class_checks.check_behind.Goals as goal

pub returns-in_err-fields : goal.returns-in_err-fields
returns-in_err-fields c =
    let class = class_of c.args.pool.now c.args.body.now in
    let p = err_from_is_err_and c.from_residual.result c.from_residual.ensures.1 in
    rw (p.1, p.2)
    (head_stops c.args.at class (λ (end : ℕ). end ≡ c.args.at + head_len class) (λ (count : ℕ). count ≡ bootstrap_count class.pool class.attrs) c.in_err-fields.field-0.0 c.in_err-fields.ensures)

pub returns-in_err-methods : goal.returns-in_err-methods
returns-in_err-methods c =
    let class = class_of c.args.pool.now c.args.body.now in
    let p = err_from_is_err_and c.from_residual-in_err-methods.result c.from_residual-in_err-methods.ensures.1 in
    let start = c.in_ok-fields.fields in
    let list = fields_of c.as_slice.result.now in
    let place : start ≡ fields_at c.args.at class = omega (arith, c.in_ok-fields.ensures.1) in
    let same =
    ap (λ (n : ℕ). fields_checks class.pool class.flags [] (n + 2) list) place
    ∙ ap (λ items. fields_checks class.pool class.flags [] (fields_at c.args.at class + 2) (fields_of items)) c.as_slice.ensures in
    let Is = λ (end : ℕ). end ≡ start + 2 + fields_len list in
    let Other = λ (count : ℕ). count ≡ bootstrap_count class.pool class.attrs in
    let told = same_fault (fields_checks class.pool class.flags [] (start + 2) list) (fields_part c.args.at class) Is Other c.in_err-methods.field-0.0 same c.in_err-methods.ensures in
    rw (p.1, p.2) (fields_stop c.args.at class c.in_ok-fields.ensures.0 Other Other c.in_err-methods.field-0.0 told)

pub returns-in_err-attrs : goal.returns-in_err-attrs
returns-in_err-attrs c =
    let class = class_of c.args.pool.now c.args.body.now in
    let p = err_from_is_err_and c.from_residual-in_err-attrs.result c.from_residual-in_err-attrs.ensures.1 in
    let place : c.in_ok-fields.fields ≡ fields_at c.args.at class = omega (arith, c.in_ok-fields.ensures.1) in
    let fields = rw (place, c.as_slice.ensures) at c.in_ok-methods.ensures in
    let start = c.in_ok-methods.methods in
    let list = methods_of c.as_slice-2.result.now in
    let own : Option (List ℕ) → Home = λ name. record (home_of class) { name = name } in
    let same =
    ap (λ name. methods_checks (own name) [] (start + 2) list) c.class_name.ensures
    ∙ ap (λ (n : ℕ). methods_checks (home_of class) [] (n + 2) list) fields.1
    ∙ ap (λ items. methods_checks (home_of class) [] (methods_at c.args.at class + 2) (methods_of items)) c.as_slice-2.ensures in
    let Is = λ (end : ℕ). end ≡ start + 2 + methods_len list in
    let Other = λ (count : ℕ). count ≡ bootstrap_count class.pool class.attrs in
    let told = same_fault _ (methods_part c.args.at class) Is Other c.in_err-attrs.field-0.0 same c.in_err-attrs.ensures in
    rw (p.1, p.2) (methods_stop c.args.at class c.in_ok-fields.ensures.0 fields.0 Other Other c.in_err-attrs.field-0.0 told)

pub returns : goal.returns
returns c =
    let class = class_of c.args.pool.now c.args.body.now in
    let place : c.in_ok-fields.fields ≡ fields_at c.args.at class = omega (arith, c.in_ok-fields.ensures.1) in
    let fields = rw (place, c.as_slice.ensures) at c.in_ok-methods.ensures in
    let methods = rw (fields.1, c.as_slice-2.ensures, c.class_name.ensures) at c.in_ok-attrs.ensures in
    attrs_told c.args.at class c.in_ok-fields.ensures.0 fields.0 _ _ methods.0 (rw (methods.1, c.as_slice-3.ensures) at c.check_class_attrs.ensures)
