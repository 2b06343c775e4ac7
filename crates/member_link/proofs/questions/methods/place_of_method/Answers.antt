use Rattle.std.proofs.Common.{Some, None, refl, sym, ap, ◌∙◌}
use Rattle.class_tree.specs.declared.place.Place.TheVariants.{Folder, Library}
use Rattle.member_link.specs.Machine.Programs.{place_of_method}
use Rattle.member_link.specs.References.{Reference}
use Rattle.member_link.specs.Laws.ProgramMembers.{no_method_place, method_place}
use Rattle.member_link.proofs.questions.methods.place_of_method.Goals as goal

pub returns-in_err-class : goal.returns-in_err-class
returns-in_err-class c = λ P is.
    let r : Reference = record { class = c.method.inside.class; name = c.method.inside.name; desc = c.method.inside.desc } in
    c.from_residual.ensures
    ∙ no_method_place c.args.tree.now P is r None (sym c.in_err-class.ensures) refl
    ∙ ap (place_of_method P) c.method.view_is

pub returns-in_err-number-in-Folder : goal.returns-in_err-number-in-Folder
returns-in_err-number-in-Folder c = λ P is.
    let r : Reference = record { class = c.method.inside.class; name = c.method.inside.name; desc = c.method.inside.desc } in
    c.from_residual-in_err-number-in-Folder.ensures
    ∙ method_place c.args.tree.now P is r c.in-Folder.class None (sym c.in_ok-class.ensures ∙ ap Some c.in-Folder.is) c.in_err-number-in-Folder.ensures
    ∙ ap (place_of_method P) c.method.view_is

pub returns-in_ok-number-in-Folder : goal.returns-in_ok-number-in-Folder
returns-in_ok-number-in-Folder c = λ P is.
    let r : Reference = record { class = c.method.inside.class; name = c.method.inside.name; desc = c.method.inside.desc } in
    method_place c.args.tree.now P is r c.in-Folder.class (Some c.in_ok-number-in-Folder.number) (sym c.in_ok-class.ensures ∙ ap Some c.in-Folder.is) c.in_ok-number-in-Folder.ensures
    ∙ ap (place_of_method P) c.method.view_is

pub returns-in-Library : goal.returns-in-Library
returns-in-Library c = λ P is.
    let r : Reference = record { class = c.method.inside.class; name = c.method.inside.name; desc = c.method.inside.desc } in
    no_method_place c.args.tree.now P is r (Some (Library c.in-Library.field-0)) (sym c.in_ok-class.ensures ∙ ap Some c.in-Library.is) refl
    ∙ ap (place_of_method P) c.method.view_is
