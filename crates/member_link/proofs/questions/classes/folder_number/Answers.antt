use Rattle.std.proofs.Common.{Some, None, sym, ap, ◌∙◌}
use Rattle.class_tree.specs.declared.place.Place.TheVariants.{Folder, Library}
use Rattle.member_link.specs.Laws.ProgramHeaders.{number_by_place}
use Rattle.member_link.proofs.questions.classes.folder_number.Goals as goal

pub returns-in_err-class : goal.returns-in_err-class
returns-in_err-class c = λ P is.
    c.from_residual.ensures ∙ number_by_place c.args.tree.now P is c.args.name.now None (sym c.in_err-class.ensures)

pub returns-in-Folder : goal.returns-in-Folder
returns-in-Folder c = λ P is.
    number_by_place c.args.tree.now P is c.args.name.now (Some (Folder c.in-Folder.class)) (sym c.in_ok-class.ensures ∙ ap Some c.in-Folder.is)

pub returns-in-Library : goal.returns-in-Library
returns-in-Library c = λ P is.
    number_by_place c.args.tree.now P is c.args.name.now (Some (Library c.in-Library.field-0)) (sym c.in_ok-class.ensures ∙ ap Some c.in-Library.is)
