use Rattle.std.proofs.Common.{sym, subst}
use Rattle.class_tree.specs.Answers.{Answers}
use Rattle.class_tree.specs.Names.{object}
use Rattle.class_tree.specs.Steps.{folder_checks, library_checks}
use Rattle.std.proofs.lemmas.Option.{slice_get_within}
use Rattle.class_tree.proofs.HierarchyChecks.{targets_at, circle_decides, number_decides, same_in_folder, same_in_library}
use Rattle.class_tree.proofs.Places.{place_in_folder}
use Rattle.class_tree.proofs.hierarchy.check_class.Goals as goal

pub check_folder_class-requires-clause-circle : goal.check_folder_class-requires-clause-circle
check_folder_class-requires-clause-circle c =
    circle_decides c.args.headers.now c.args.graph.now c.args.number c.in-Some.header.now c.args.is_on_circle c.requires.in_order c.requires.graph (sym c.in-Some.ensures) c.requires.circle

pub check_folder_class-requires-clause-object : goal.check_folder_class-requires-clause-object
check_folder_class-requires-clause-object c =
    number_decides c.args.headers.now object c.args.number c.in-Some.header.now c.args.is_object c.requires.in_order (sym c.in-Some.ensures) c.requires.object

pub check_library_class-requires-clause-above : goal.check_library_class-requires-clause-above
check_library_class-requires-clause-above c =
    targets_at c.args.headers.now c.args.graph.now c.args.number c.in-Some.header.now _ c.requires.graph (sym c.in-Some.ensures) c.get-above.ensures

pub check_library_class-requires-clause-circle : goal.check_library_class-requires-clause-circle
check_library_class-requires-clause-circle c =
    circle_decides c.args.headers.now c.args.graph.now c.args.number c.in-Some.header.now c.args.is_on_circle c.requires.in_order c.requires.graph (sym c.in-Some.ensures) c.requires.circle

pub returns-in-Folder-clause-folder : goal.returns-in-Folder-clause-folder
returns-in-Folder-clause-folder c = λ header is.
    subst (λ h. Answers (folder_checks c.args.headers.now h) c.check_folder_class.result)
    (same_in_folder c.args.headers.now c.args.number c.in-Some.header.now header (sym c.in-Some.ensures) is) c.check_folder_class.ensures

pub returns-in-Library-clause-folder : goal.returns-in-Library-clause-folder
returns-in-Library-clause-folder c = λ header is.
    absurd (cc (c.in-Library.ensures, place_in_folder c.args.headers.now c.args.number (slice_get_within c.args.headers.now.folder c.args.number header is)))

pub returns-in-Library-clause-library : goal.returns-in-Library-clause-library
returns-in-Library-clause-library c = λ header behind is.
    subst (λ h. Answers (library_checks c.args.headers.now h) c.check_library_class.result)
    (same_in_library c.args.headers.now c.args.number c.in-Some.header.now header (sym c.in-Some.ensures) behind is) c.check_library_class.ensures
