use Rattle.std.proofs.Common.{◌∙◌, List, [], Some, sym, ap, subst}
use Rattle.std.specs.List.{AllByRecursion}
use Rattle.std.proofs.lemmas.Option.{same_Some}
use Rattle.class_model.specs.declared.header.Header.{Header}
use Rattle.class_tree.specs.Headers.{Name, headers_of}
use Rattle.member_link.specs.DeclaredMembers.{declared_by, declared}
use Rattle.member_link.specs.Fields.{FindsFirst, in_class}
use Rattle.member_link.specs.Inner.FieldSearch.{IsInterfaceIfThere}
use Rattle.member_link.specs.Found.{IsFieldFound}
use Rattle.member_link.proofs.Climbed.{own_some, own_none}
use Rattle.member_link.proofs.FieldWalks.{super_left}
use Rattle.member_link.proofs.fields.find_below_super.Goals as goal

pub returns-in-Some : goal.returns-in-Some
returns-in-Some c = λ header at.
    let headers = headers_of c.args.tree.now in
    let named = (c.a_tree_is_a_hierarchy.ensures.of_place c.args.class header at).found in
    let own = own_some (IsFieldFound headers) header.name c.in-Some.found (declared c.args.name.now c.args.desc.now header.fields) (c.in-Some.ensures header at) in
    (Some (declared_by header.name own.0), in_class header.name [] header own.0 named own.1, own.2)

pub find_in_interfaces-requires-clause-kinds : goal.find_in_interfaces-requires-clause-kinds
find_in_interfaces-requires-clause-kinds c =
    let headers = headers_of c.args.tree.now in
    let header = c.in-Some-header.header.now in
    let named = (c.a_tree_is_a_hierarchy.ensures.of_place c.args.class header (sym c.in-Some-header.ensures)).found in
    subst (AllByRecursion (IsInterfaceIfThere headers)) (sym c.as_slice.ensures) (c.a_tree_is_a_hierarchy.ensures.kinds header.name header named).interfaces

pub returns-in-Some-header : goal.returns-in-Some-header
returns-in-Some-header c = λ header at.
    let headers = headers_of c.args.tree.now in
    let named = (c.a_tree_is_a_hierarchy.ensures.of_place c.args.class header at).found in
    let lacks = own_none (IsFieldFound headers) header.name (declared c.args.name.now c.args.desc.now header.fields) (c.in_default.ensures header at) in
    let interfaces = c.as_slice.ensures ∙ ap (λ (h : Header). h.interfaces) (same_Some c.in-Some-header.header.now header (c.in-Some-header.ensures ∙ at)) in
    let found = c.find_in_interfaces.ensures in
    let finds = subst (λ (names : List Name). FindsFirst headers c.args.name.now c.args.desc.now names found.0) interfaces found.1 in
    (found.0, super_left headers c.args.name.now c.args.desc.now header named lacks found.0 finds, found.2)
