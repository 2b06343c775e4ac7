use Rattle.std.proofs.Common.{sym, subst, ◌∙◌, arith}
use Rattle.std.proofs.lemmas.Option.{same_Some, slice_get_within}
use Rattle.std.proofs.lemmas.Result.{err_from_is_err_and}
use Rattle.class_model.specs.Checks.{asked_each}
use Rattle.class_model.specs.Laws.Checks.{all_remain, passes, remain}
use Rattle.class_model.specs.declared.header.Header.{Header}
use Rattle.class_tree.specs.Answers.{Answers}
use Rattle.class_tree.specs.Headers.{headers_of}
use Rattle.class_tree.specs.Laws.Links.{refused, answered}
use Rattle.class_tree.specs.declared.place.Place.TheVariants.{Folder}
use Rattle.member_link.specs.Declarations.{declaration_checks, declared_field_checks, declared_method_checks}
use Rattle.member_link.proofs.declarations.check_class.Goals as goal

pub returns-in_err-check_fields : goal.returns-in_err-check_fields
returns-in_err-check_fields c = λ header at.
    let headers = headers_of c.args.tree.now in
    let class = c.in-Some.header.now in
    let p = err_from_is_err_and c.from_residual-in_err-check_fields.result c.from_residual-in_err-check_fields.ensures.1 in
    let left = passes (all_remain (declaration_checks headers class)) (c.are_supers_accessible.ensures.0 c.in_ok-ask.ensures.0) in
    let told = refused (asked_each (declared_field_checks headers class) class.fields) (asked_each (declared_method_checks headers class) class.methods) _ left c.in_err-check_fields.ensures in
    subst (λ (header : Header). Answers (declaration_checks headers header) c.from_residual-in_err-check_fields.result) (same_Some class header (c.in-Some.ensures ∙ at)) (rw (p.1, p.2) told)

pub check_methods-requires-clause-place : goal.check_methods-requires-clause-place
check_methods-requires-clause-place c = c.a_tree_is_a_hierarchy.ensures.of_place (Folder c.args.index) c.in-Some.header.now (sym c.in-Some.ensures)

pub bounds-known-index : goal.bounds-known-index
bounds-known-index c =
    omega (arith, slice_get_within (headers_of c.args.tree.now).folder c.args.index c.in-Some.header.now (sym c.in-Some.ensures), c.requires.len)

pub returns : goal.returns
returns c = λ header at.
    let headers = headers_of c.args.tree.now in
    let class = c.in-Some.header.now in
    let left = passes (all_remain (declaration_checks headers class)) (c.are_supers_accessible.ensures.0 c.in_ok-ask.ensures.0) in
    let last = remain (asked_each (declared_field_checks headers class) class.fields) (asked_each (declared_method_checks headers class) class.methods) left c.in_ok-check_fields.ensures in
    subst (λ (header : Header). Answers (declaration_checks headers header) c.check_methods.result) (same_Some class header (c.in-Some.ensures ∙ at)) (answered c.check_methods.result last c.check_methods.ensures)

pub offset_bounds-known-index : goal.offset_bounds-known-index
offset_bounds-known-index c =
    omega (arith, slice_get_within (headers_of c.args.tree.now).folder c.args.index c.in-Some.header.now (sym c.in-Some.ensures), c.requires.len)
