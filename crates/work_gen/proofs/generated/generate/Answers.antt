use Rattle.std.proofs.Common.{◌≤◌, ap, length, sym, subst, ◌∙◌, arith}
use Rattle.std.specs.List.{AllByRecursion}
use Rattle.class_bytes.specs.Counts.{FitsCounts}
use Rattle.class_tree.specs.Headers.{IsClassFile}
use Rattle.work_gen.specs.Generated.{generated_folder}
use Rattle.work_gen.proofs.FitsWork.{fits_folder}
use Rattle.work_gen.proofs.MadeChoices.{choices_length}
use Rattle.work_gen.proofs.generated.generate.Goals as goal

pub folder_of-requires : goal.folder_of-requires
folder_of-requires c = omega (arith, c.requires.size, choices_length c.args.number c.args.size, ap length (c.as_slice.ensures.value ∙ c.in_ok-chosen.ensures))

pub script_of-requires : goal.script_of-requires
script_of-requires c = omega (arith, c.requires.size, choices_length c.args.number c.args.size, ap length (c.as_slice-2.ensures.value ∙ c.in_ok-chosen.ensures))

pub returns-clause-fits : goal.returns-clause-fits
returns-clause-fits c =
    let few : length c.as_slice.result.now ≤ 1000 = omega (arith, c.requires.size, choices_length c.args.number c.args.size, ap length (c.as_slice.ensures.value ∙ c.in_ok-chosen.ensures)) in
    subst (AllByRecursion FitsCounts) (sym c.in_ok-folder_of.ensures) (fits_folder c.as_slice.result.now few)

pub returns-clause-class_files : goal.returns-clause-class_files
returns-clause-class_files c =
    let chosen = c.as_slice.ensures.value ∙ c.in_ok-chosen.ensures in
    subst (AllByRecursion IsClassFile) (sym (c.in_ok-folder_of.ensures ∙ ap generated_folder chosen))
    (c.generated_classes_are_class_files.ensures c.args.number c.args.size c.requires.size)
