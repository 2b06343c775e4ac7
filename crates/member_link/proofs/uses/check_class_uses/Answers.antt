use Rattle.std.proofs.Common.{◌≡◌, Err, length, refl, sym, subst}
use Rattle.std.proofs.lemmas.List.{length_push}
use Rattle.std.proofs.lemmas.Option.{slice_get_read}
use Rattle.std.proofs.lemmas.Result.{err_from_is_err_and}
use Rattle.std.proofs.lemmas.Slice.Zip.{zip_turn}
use Rattle.std.specs.Iterator.Adapters.{zip_first, zip_second}
use Rattle.std.specs.Slice.Iter.{iter_rest}
use Rattle.class_model.specs.Laws.Lists.{at_index}
use Rattle.class_model.specs.declared.header.Header.{Header}
use Rattle.class_tree.specs.Answers.{Answers}
use Rattle.class_tree.specs.Headers.{headers_of}
use Rattle.code_bytes.specs.Codes.{IsReadMethod}
use Rattle.member_link.specs.Uses.{methods_use_checks}
use Rattle.member_link.proofs.MethodUses.{MethodsBelow, MethodAt, no_method_below, method_below, method_refused}
use Rattle.member_link.proofs.uses.check_class_uses.Goals as goal
use Rattle.member_link.proofs.uses.check_class_uses.Goals.{In-Some}

pub loop-method-init : goal.loop-method-init
loop-method-init c = no_method_below (headers_of c.args.tree.now) c.args.class.now c.args.header.now c.in_ok-resolver.resolver c.in_ok-resolver.ensures

method_at : (c : In-Some) → MethodAt c.args.class.now c.args.header.now (length c.loop-method.yielded) c.in-Some.method.now c.in-Some.member.now
method_at c =
    let class = c.args.class.now in
    let header = c.args.header.now in
    let first : iter_rest (zip_first c.into_iter-method-iterator.result) ≡ class.methods = cc in
    let second : iter_rest (zip_second c.into_iter-method-iterator.result) ≡ header.methods = cc in
    let turn = zip_turn class.methods header.methods c.loop-method.yielded c.into_iter-method-iterator.result c.loop-method.method-iterator c.next.new.self c.next.result first second c.loop-method.yielded_by (c.in-Some.method, c.in-Some.member) c.in-Some.is c.next.ensures.steps in
    record { method_within = turn.0; member_within = turn.1; method_is = turn.2 c.in-Some.method.now; member_is = turn.3 c.in-Some.member.now }

pub loop-method-preserved : goal.loop-method-preserved
loop-method-preserved c =
    let headers = headers_of c.args.tree.now in
    subst (MethodsBelow headers c.args.class.now c.args.header.now c.check_method.new.resolver) (sym (length_push c.loop-method.yielded (c.in-Some.method, c.in-Some.member)))
    (method_below headers c.args.class.now c.args.header.now c.loop-method.resolver (length c.loop-method.yielded) c.in-Some.method.now c.in-Some.member.now c.loop-method.invariant (method_at (goal.at.loop-method-preserved c).In-Some)
    c.check_method.new.resolver c.in_ok-check_method.ensures.same c.in_ok-check_method.ensures.told)

pub returns-in_err-check_method : goal.returns-in_err-check_method
returns-in_err-check_method c =
    let p = err_from_is_err_and c.from_residual-in_err-check_method.result c.from_residual-in_err-check_method.ensures.1 in
    let headers = headers_of c.args.tree.now in
    rw (p.1, p.2) (subst (λ (header : Header). Answers {X = Unit {0}} (methods_use_checks headers c.args.class.now header c.args.class.now.methods header.methods) (Err c.in_err-check_method.field-0.0)) c.requires.header
    (method_refused headers c.args.class.now c.args.header.now c.loop-method.resolver (length c.loop-method.yielded) c.in-Some.method.now c.in-Some.member.now c.loop-method.invariant (method_at (goal.at.returns-in_err-check_method c).In-Some)
    _ c.in_err-check_method.ensures.told))

pub check_method-requires-clause-method : goal.check_method-requires-clause-method
check_method-requires-clause-method c =
    let class = c.args.class.now in
    let method = c.in-Some.method.now in
    let at = method_at (goal.at.check_method-requires-clause-method c).In-Some in
    at_index (IsReadMethod class.pool) class.methods (length c.loop-method.yielded) method c.requires.methods (slice_get_read class.methods _ _ method refl at.method_within at.method_is)
