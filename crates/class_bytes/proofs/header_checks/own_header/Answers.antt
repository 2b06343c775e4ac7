use Rattle.std.proofs.Common.{◌≡◌, ◌+◌, ◌*◌, length, ap}
use Rattle.std.proofs.lemmas.Result.{err_from_is_err_and}
use Rattle.class_bytes.proofs.HeaderAnswers.{fields_at, methods_at, interfaces_refused, fields_refused, methods_refused, all_hold, is_header}
use Rattle.class_bytes.proofs.header_checks.own_header.Goals as goal

pub returns-in_err-interfaces : goal.returns-in_err-interfaces
returns-in_err-interfaces c =
    let p = err_from_is_err_and c.from_residual-in_err-interfaces.result c.from_residual-in_err-interfaces.ensures.1 in
    rw (p.1, p.2)
    (interfaces_refused c.args.pool.now c.args.at c.args.head.now c.in_ok-name.ensures.0 c.in_ok-super_name.ensures.0 c.in_err-interfaces.field-0.0 c.as_slice-indices.result.now c.as_slice-indices.ensures c.in_err-interfaces.ensures)

pub returns-in_err-fields : goal.returns-in_err-fields
returns-in_err-fields c =
    let head = c.args.head.now in
    let p = err_from_is_err_and c.from_residual-in_err-fields.result c.from_residual-in_err-fields.ensures.1 in
    let start = c.args.at + 8 + 2 * length c.as_slice-indices.result.now + 2 in
    let place : start ≡ fields_at c.args.pool.now c.args.at head = ap (λ indices. c.args.at + 8 + 2 * length indices + 2) c.as_slice-indices.ensures in
    let interfaces = rw c.as_slice-indices.ensures at c.in_ok-interfaces.ensures.0 in
    rw (p.1, p.2)
    (fields_refused c.args.pool.now c.args.at head c.in_ok-name.ensures.0 c.in_ok-super_name.ensures.0 interfaces c.in_err-fields.field-0.0 start c.as_slice.result.now place c.as_slice.ensures c.in_err-fields.ensures)

pub returns-in_err-methods : goal.returns-in_err-methods
returns-in_err-methods c =
    let head = c.args.head.now in
    let p = err_from_is_err_and c.from_residual-in_err-methods.result c.from_residual-in_err-methods.ensures.1 in
    let interfaces = rw c.as_slice-indices.ensures at c.in_ok-interfaces.ensures.0 in
    let fields = rw (c.as_slice-indices.ensures, c.as_slice.ensures) at c.in_ok-fields.ensures in
    let start = c.in_ok-fields.end + 2 in
    let place : start ≡ methods_at c.args.pool.now c.args.at head = ap (λ n. n + 2) fields.1.1 in
    rw (p.1, p.2)
    (methods_refused c.args.pool.now c.args.at head c.in_ok-name.ensures.0 c.in_ok-super_name.ensures.0 interfaces fields.0 c.in_err-methods.field-0.0 start c.as_slice-2.result.now place c.as_slice-2.ensures c.in_err-methods.ensures)

pub returns : goal.returns
returns c =
    let head = c.args.head.now in
    let pool = c.args.pool.now in
    let interfaces = rw c.as_slice-indices.ensures at c.in_ok-interfaces.ensures in
    let fields = rw (c.as_slice-indices.ensures, c.as_slice.ensures) at c.in_ok-fields.ensures in
    let methods = rw (fields.1.1, c.as_slice-2.ensures) at c.in_ok-methods.ensures in (
      all_hold pool c.args.at head c.in_ok-name.ensures.0 c.in_ok-super_name.ensures.0 interfaces.0 fields.0 methods.0,
      is_header pool c.args.at head _ _ _ _ _ c.in_ok-name.ensures.1 c.in_ok-super_name.ensures.1 interfaces.1 fields.1.0 methods.1.0,
    )
