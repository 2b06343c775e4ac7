use Rattle.std.proofs.Common.{◌≢◌, ◌++◌, ℕ, List, Some, map, sym, ap, ◌∙◌, append-nil}
use Rattle.std.proofs.lemmas.Option.{none-some}
use Rattle.class_model.specs.declared.header.Member.{Member}
use Rattle.class_tree.specs.Headers.{headers_of}
use Rattle.class_tree.specs.Order.{place_of}
use Rattle.class_tree.specs.declared.place.Place.TheVariants.{Folder}
use Rattle.field_constructors.proofs.AnsweredLaws.{on_ok}
use Rattle.field_constructors.proofs.FieldTextLaws.{library_fields}
use Rattle.field_constructors.specs.Laws.OwnFields.{folder_fields}
use Rattle.field_constructors.proofs.object_fields.add_own.Goals as goal

pub returns-in_default : goal.returns-in_default
returns-in_default c =
    let headers = headers_of c.args.tree.now in
    let fields = c.args.fields.now.items in
    let never : (number : ℕ) → place_of headers c.args.class.now ≢ Some (Folder number) =
    λ number is. none-some number (sym c.in_default.is ∙ (c.folder_number.ensures number).1 is) in
    sym (append-nil fields) ∙ ap (λ (list : List Member). fields ++ map (λ field. field.desc) list) (sym (library_fields headers c.args.class.now never))

pub returns-in-Some-header : goal.returns-in-Some-header
returns-in-Some-header c =
    let headers = headers_of c.args.tree.now in
    let fields = c.args.fields.now.items in
    let number = c.in-Some.number in
    let place = (c.folder_number.ensures number).0 c.in-Some.is in
    on_ok c.add_instance_fields.result
    (λ is. is ∙ ap (λ (list : List Member). fields ++ map (λ field. field.desc) list) (sym (folder_fields headers c.args.class.now number c.in-Some-header.header.now place (sym c.in-Some-header.ensures))))
    c.add_instance_fields.ensures

pub returns-in-None : goal.returns-in-None
returns-in-None c =
    let place = (c.folder_number.ensures c.in-Some.number).0 c.in-Some.is in
    let stands = c.a_tree_is_a_hierarchy.ensures.placed c.args.class.now (Folder c.in-Some.number) place in
    absurd (none-some stands.0 (c.in-None.ensures ∙ stands.1.at))
