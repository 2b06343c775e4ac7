use Rattle.std.proofs.Common.{◌≡◌, Some, option_map, sym, ap, ◌∙◌}
use Rattle.std.proofs.lemmas.Option.{none-some}
use Rattle.class_model.specs.Pool.{constant_at}
use Rattle.class_tree.specs.Headers.{headers_of}
use Rattle.class_tree.specs.declared.place.Place.TheVariants.{Folder, Library}
use Rattle.member_link.specs.Found.{IsField}
use Rattle.member_link.specs.MemberRefs.{reference_meant}
use Rattle.member_link.specs.References.{Reference}
use Rattle.member_link.specs.Signatures.{reference_of}
use Rattle.inline_expand.proofs.FinalClasses.{one_found}
use Rattle.inline_expand.proofs.final_stores.final_class.Goals as goal
use Rattle.inline_expand.proofs.final_stores.final_class.Goals.{In-Folder, In-Library}

pub returns-in-Folder : goal.returns-in-Folder
returns-in-Folder c = λ number.
    let headers = headers_of c.args.tree.now in
    let found = c.in-Some-find_field.found in
    let names : reference_of c.args.pool.now (constant_at c.args.pool.now c.args.index) ≡ Some (reference_meant c.in-Some.reference) = sym c.member_at.ensures ∙ ap (option_map reference_meant) c.in-Some.is in
    let reference : Reference = reference_meant c.in-Some.reference in
    let answer : IsField headers reference.class reference.name reference.desc (Some found) = c.in-Some-find_field.ensures in
    let same = one_found headers c.a_tree_is_a_hierarchy.ensures (c.a_look_up_finds_one_field.ensures headers) c.args.pool.now c.args.index reference names found number answer in (
      λ is. same.1 (c.in-Folder.is ∙ ap Folder (cc), sym c.has.ensures ∙ c.if-not-has.false),
      λ f. let e : Folder c.in-Folder.number ≡ Folder number = sym c.in-Folder.is ∙ (same.0 f).0 in cc,
    )

pub returns-in-Library : goal.returns-in-Library
returns-in-Library c = λ number.
    let headers = headers_of c.args.tree.now in
    let found = c.in-Some-find_field.found in
    let names : reference_of c.args.pool.now (constant_at c.args.pool.now c.args.index) ≡ Some (reference_meant c.in-Some.reference) = sym c.member_at.ensures ∙ ap (option_map reference_meant) c.in-Some.is in
    let reference : Reference = reference_meant c.in-Some.reference in
    let answer : IsField headers reference.class reference.name reference.desc (Some found) = c.in-Some-find_field.ensures in
    let same = one_found headers c.a_tree_is_a_hierarchy.ensures (c.a_look_up_finds_one_field.ensures headers) c.args.pool.now c.args.index reference names found number answer in (
      λ is. absurd (none-some number is),
      λ f. let e : Library c.in-Library.field-0 ≡ Folder number = sym c.in-Library.is ∙ (same.0 f).0 in absurd cc,
    )
