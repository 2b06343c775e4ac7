use Rattle.std.proofs.Common.{rules, ◌≡◌, slice_get, Some, sym, subst}
use Rattle.std.specs.Result.{IsErrOf}
use Rattle.class_tree.specs.Headers.{Classes, headers_of}
use Rattle.class_tree.specs.Hierarchy.{IsHierarchy}
use Rattle.class_tree.specs.declared.place.Place.TheVariants.{Folder}
use Rattle.flow_code.specs.declared.reason.KeptFault.TheVariants.{Kept}
use Rattle.constructor_methods.proofs.ConstructorFields.{few_split, header_of_class, own_few}
use Rattle.constructor_methods.proofs.ConstructorMethodLaws.{of_number}
use Rattle.materialise.specs.Laws.DescribedConstructors.{descriptors, descriptors_describe}
use Rattle.constructor_methods.proofs.FewNeeds.{not_full}
use Rattle.constructor_methods.proofs.constructor_method.field_constructor_with.Goals as goal

pub write_method-requires-clause-may : goal.write_method-requires-clause-may
write_method-requires-clause-may c =
    let there : slice_get (headers_of c.args.constructors.now).folder c.args.class ≡ Some c.in-Some.header.now =
    subst (λ (classes : Classes). slice_get (headers_of classes).folder c.args.class ≡ Some c.in-Some.header.now) c.tree-2.ensures (sym c.in-Some.ensures) in
    c.requires.may c.in-Some.header.now there

pub write_method-requires-clause-made : goal.write_method-requires-clause-made
write_method-requires-clause-made c =
    let there : slice_get (headers_of c.args.constructors.now).folder c.args.class ≡ Some c.in-Some.header.now =
    subst (λ (classes : Classes). slice_get (headers_of classes).folder c.args.class ≡ Some c.in-Some.header.now) c.tree-2.ensures (sym c.in-Some.ensures) in
    let hierarchy : IsHierarchy (headers_of c.args.constructors.now) =
    subst (λ (classes : Classes). IsHierarchy (headers_of classes)) c.tree.ensures c.a_tree_is_a_hierarchy.ensures in
    record {
      number = c.args.class;
      of_folder = (hierarchy.of_place (Folder c.args.class) c.in-Some.header.now there).is_place;
      may = (c.requires.may c.in-Some.header.now there).may;
    }

pub write_method-requires-clause-found : goal.write_method-requires-clause-found
write_method-requires-clause-found c =
    let there : slice_get (headers_of c.args.constructors.now).folder c.args.class ≡ Some c.in-Some.header.now =
    subst (λ (classes : Classes). slice_get (headers_of classes).folder c.args.class ≡ Some c.in-Some.header.now) c.tree-2.ensures (sym c.in-Some.ensures) in
    let hierarchy : IsHierarchy (headers_of c.args.constructors.now) =
    subst (λ (classes : Classes). IsHierarchy (headers_of classes)) c.tree.ensures c.a_tree_is_a_hierarchy.ensures in
    header_of_class (headers_of c.args.constructors.now) hierarchy c.args.class c.in-Some.header.now there

pub write_method-requires-clause-few : goal.write_method-requires-clause-few
write_method-requires-clause-few c =
    let there : slice_get (headers_of c.args.constructors.now).folder c.args.class ≡ Some c.in-Some.header.now =
    subst (λ (classes : Classes). slice_get (headers_of classes).folder c.args.class ≡ Some c.in-Some.header.now) c.tree-2.ensures (sym c.in-Some.ensures) in
    let hierarchy : IsHierarchy (headers_of c.args.constructors.now) =
    subst (λ (classes : Classes). IsHierarchy (headers_of classes)) c.tree.ensures c.a_tree_is_a_hierarchy.ensures in
    few_split (headers_of c.args.constructors.now) hierarchy c.args.class c.in-Some.header.now there (c.requires.may c.in-Some.header.now there).few

pub unreachable-requires-in-Err-Kept : goal.unreachable-requires-in-Err-Kept
unreachable-requires-in-Err-Kept c =
    let classes = c.args.constructors.now in
    let header = c.in-Some.header.now in
    let there : slice_get (headers_of c.args.constructors.now).folder c.args.class ≡ Some c.in-Some.header.now =
    subst (λ (classes : Classes). slice_get (headers_of classes).folder c.args.class ≡ Some c.in-Some.header.now) c.tree-2.ensures (sym c.in-Some.ensures) in
    let hierarchy : IsHierarchy (headers_of c.args.constructors.now) =
    subst (λ (classes : Classes). IsHierarchy (headers_of classes)) c.tree.ensures c.a_tree_is_a_hierarchy.ensures in
    let fails : IsErrOf c.write_method.result (Kept c.in-Err-Kept.field-0-0) = search rules in
    not_full (descriptors classes) (headers_of classes) header.name c.args.pool.now c.in-Err-Kept.field-0-0
    (own_few (headers_of classes) hierarchy c.args.class header there (c.requires.may header there).few) c.requires.room
    (c.write_method.ensures.full c.in-Err-Kept.field-0-0 (descriptors classes) fails (descriptors_describe classes))

pub returns-in-Ok-clause-method : goal.returns-in-Ok-clause-method
returns-in-Ok-clause-method c =
    let there : slice_get (headers_of c.args.constructors.now).folder c.args.class ≡ Some c.in-Some.header.now =
    subst (λ (classes : Classes). slice_get (headers_of classes).folder c.args.class ≡ Some c.in-Some.header.now) c.tree-2.ensures (sym c.in-Some.ensures) in
    of_number c.args.constructors.now c.args.class c.in-Some.header.now c.args.pool.now c.write_method.new.pool c.in-Ok.method there
    (λ constructor described. c.in-Ok.ensures.ok constructor described)
