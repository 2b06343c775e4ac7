use Rattle.std.proofs.Common.{subst}
use Rattle.class_tree.specs.Hierarchy.{IsHierarchy}
use Rattle.same_runs.specs.Laws.Scopes.{program_headers}
use Rattle.typed_flats.proofs.FlatPrograms.{flat_frames, flat_program_typed}
use Rattle.typed_flats.proofs.laws.flat_codes_run_typed.Goals as goal

pub returns-clause-program : goal.returns-clause-program
returns-clause-program c = λ classes links typings flats r tree typed instrs ready replaces.
    flat_program_typed classes links tree instrs (subst IsHierarchy (program_headers classes links) typed.hierarchy) typings typed flats ready r replaces
    (record {
      grown = c.a_replaced_program_has_grown_classes.ensures.cleared;
      alike = c.grown_classes_are_found_alike.ensures.alike;
      hierarchy = c.alike_classes_have_one_hierarchy.ensures.hierarchy;
      links = c.grown_classes_have_the_same_links.ensures;
      fields = c.grown_classes_are_found_alike.ensures.fields;
      methods = c.grown_classes_are_found_alike.ensures.methods;
      frames = c.grown_classes_are_found_alike.ensures.frames;
      rows = c.rows_hold_among_grown_classes.ensures.read;
      left = c.rows_hold_among_grown_classes.ensures.left_read;
    })

pub returns-clause-frames : goal.returns-clause-frames
returns-clause-frames c = flat_frames
