use Rattle.std.proofs.Common.{◌≡◌, ◌≢◌, sym, subst, ◌∙◌, rules}
use Rattle.std.proofs.lemmas.Bool.{both_ways}
use Rattle.class_model.specs.Names.{init}
use Rattle.class_tree.specs.Headers.{Name, headers_of}
use Rattle.class_tree.specs.Subtype.{IsArray}
use Rattle.member_link.specs.Methods.{FindsInClass, IsPolymorphic, of_array, of_class}
use Rattle.member_link.proofs.FoundByName.{no_initialiser, found_initialiser, no_polymorphic, found_polymorphic}
use Rattle.member_link.proofs.methods.find_method.Goals as goal

pub returns-in_err-place : goal.returns-in_err-place
returns-in_err-place c =
    let headers = headers_of c.args.tree.now in
    let is : c.args.name.now ≡ init = search rules in
    let absent = c.a_tree_is_a_hierarchy.ensures.absent c.args.class.now (sym c.place.ensures ∙ c.in_err-place.was) in
    no_initialiser headers c.args.class.now c.args.name.now c.args.desc.now c.from_residual.result is absent c.from_residual.ensures

pub returns-in_err-place-2 : goal.returns-in_err-place-2
returns-in_err-place-2 c =
    let headers = headers_of c.args.tree.now in
    let absent = c.a_tree_is_a_hierarchy.ensures.absent c.args.class.now (sym c.place-then-is_polymorphic.ensures ∙ c.in_err-place-2.was) in
    no_polymorphic headers c.args.class.now c.args.name.now c.args.desc.now c.from_residual-in_err-place-2.result (c.is_polymorphic.ensures.0 c.if-is_polymorphic.true) absent c.from_residual-in_err-place-2.ensures

pub returns-in_ok-place : goal.returns-in_ok-place
returns-in_ok-place c =
    let headers = headers_of c.args.tree.now in
    let is : c.args.name.now ≡ init = search rules in
    let place = c.in_ok-place.field-0 in
    let class = c.a_tree_is_a_hierarchy.ensures.placed c.args.class.now place (sym c.place.ensures ∙ c.in_ok-place.was) in
    found_initialiser headers c.args.class.now c.args.name.now c.args.desc.now c.own_method.result is place class.0 class.1 (c.own_method.ensures class.0 class.1.at)

pub returns-in_ok-place-2 : goal.returns-in_ok-place-2
returns-in_ok-place-2 c =
    let headers = headers_of c.args.tree.now in
    let place = c.in_ok-place-2.field-0 in
    let class = c.a_tree_is_a_hierarchy.ensures.placed c.args.class.now place (sym c.place-then-is_polymorphic.ensures ∙ c.in_ok-place-2.was) in
    found_polymorphic headers c.args.class.now c.args.name.now c.args.desc.now c.first_named.result (c.is_polymorphic.ensures.0 c.if-is_polymorphic.true) place class.0 class.1 (c.first_named.ensures class.0 class.1.at)

pub returns-then-is_array : goal.returns-then-is_array
returns-then-is_array c =
    let found = c.find_in_class.ensures in
    let differ : c.args.name.now ≢ init = λ same. both_ways c.eq.result c.if-eq.false (search rules) in
    let array : IsArray c.args.class.now = search rules in
    record { method = found.0; finds = of_array found.0 differ array found.1; same = found.2 }

pub returns-else-is_array : goal.returns-else-is_array
returns-else-is_array c =
    let headers = headers_of c.args.tree.now in
    let found = c.find_in_class-else-is_array.ensures in
    let finds = subst (λ (class : Name). FindsInClass headers class c.args.name.now c.args.desc.now found.0) c.bytes-else-is_array.ensures.same found.1 in
    let differ : c.args.name.now ≢ init = λ same. both_ways c.eq.result c.if-eq.false (search rules) in
    let single : ¬ IsArray c.args.class.now = λ array. both_ways c.is_array.result c.if-is_array.false (search rules) in
    let plain = λ (every : IsPolymorphic (headers_of c.args.tree.now) c.args.class.now c.args.name.now). both_ways c.is_polymorphic.result c.if-is_polymorphic.false (c.is_polymorphic.ensures.1 every) in
    record { method = found.0; finds = of_class found.0 differ single plain finds; same = found.2 }
