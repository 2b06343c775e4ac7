use Rattle.std.proofs.Common.{◌≡◌, ◌++◌, ℕ, true, List, [], ◌∷◌, bytes_eq, Some, sym, ap, ◌∙◌, arith}
use Rattle.std.proofs.lemmas.Bool.{not-false}
use Rattle.std.proofs.lemmas.Option.{none-some}
use Rattle.std.proofs.lemmas.Slice.Eq.{bytes_eq-Decides}
use Rattle.class_model.specs.Names.{init}
use Rattle.class_tree.specs.Headers.{headers_of}
use Rattle.class_tree.specs.Order.{place_of}
use Rattle.class_tree.specs.declared.place.Place.TheVariants.{Folder}
use Rattle.member_link.specs.MemberRefs.{reference_meant}
use Rattle.field_constructors.proofs.HandledLists.{in_folder, number_within, outside_folder}
use Rattle.field_constructors.proofs.handles.add_reference.Goals as goal

pub returns-in_default : goal.returns-in_default
returns-in_default c = λ of are.
    let headers = headers_of c.args.tree.now in
    outside_folder headers c.a_tree_is_a_hierarchy.ensures c.args.lists.now.items of are (reference_meant c.args.reference.now)
    (λ number placed. none-some number (sym c.in_default.is ∙ (c.folder_number.ensures number).1 placed))

pub returns-in_ok-push : goal.returns-in_ok-push
returns-in_ok-push c = λ of are.
    let headers = headers_of c.args.tree.now in
    let placed : place_of headers c.args.reference.now.class.now ≡ Some (Folder c.in-Some.number) = (c.folder_number.ensures c.in-Some.number).0 c.in-Some.is in
    let name : bytes_eq init c.args.reference.now.name.now ≡ true = (bytes_eq-Decides init c.args.reference.now.name.now).1
    (sym ((bytes_eq-Decides c.bytes.result.now init).0 (not-false (bytes_eq c.bytes.result.now init) (sym c.ne.ensures ∙ c.if-ne.false))) ∙ c.bytes.ensures.same) in
    in_folder headers c.a_tree_is_a_hierarchy.ensures c.args.lists.now.items of are (reference_meant c.args.reference.now) c.in-Some.number placed name c.index_mut.result.now c.push.new.self c.index_mut.ensures.value
    (c.in_ok-push.ensures.ok ∙ ap (λ (d : List ℕ). c.index_mut.result.now ++ d ∷ []) (c.in_ok-copy.ensures))

pub returns-else-number-len : goal.returns-else-number-len
returns-else-number-len c = λ of are.
    let headers = headers_of c.args.tree.now in
    let placed : place_of headers c.args.reference.now.class.now ≡ Some (Folder c.in-Some.number) = (c.folder_number.ensures c.in-Some.number).0 c.in-Some.is in
    let within = number_within headers c.a_tree_is_a_hierarchy.ensures c.args.lists.now.items of are (reference_meant c.args.reference.now) c.in-Some.number placed in
    absurd (omega (arith, within, c.if-number-len.false, c.len.ensures, c.args.lists.now.ok.0))
