-- The classes of generated work are read from their bytes.
use Rattle.std.proofs.Common.{◌≤◌, List, length}
use Rattle.std.specs.List.{AllByRecursion}
use Rattle.class_bytes.specs.Counts.{FitsCounts}
use Rattle.class_bytes.specs.Numbers.{FitsNumbers}
use Rattle.class_model.specs.ClassOf.{ClassOf}
use Rattle.class_model.specs.Spelling.{class_bytes}
use Rattle.class_model.specs.Values.{IsValue}
use Rattle.class_model.specs.declared.class_file.ClassFile.{ClassFile}
use Rattle.class_tree.specs.Headers.{IsClassFile}
use Rattle.work_gen.specs.Generated.{generated_folder, point, work}
use Rattle.work_gen.specs.declared.choices.Choice.{Choice}
use Rattle.work_gen.proofs.FitsWork.{fits_folder}
use Rattle.work_gen.proofs.PointClass.{point_numbers, point_value}
use Rattle.work_gen.proofs.WorkClass.{work_numbers, work_value}

abbrev AreRead : Type 0
AreRead = (class : ClassFile) → FitsCounts class → FitsNumbers class → IsValue class → ClassOf (class_bytes class) class

pub are_class_files : AreRead → (chosen : List Choice) → length chosen ≤ 1000 → AllByRecursion IsClassFile (generated_folder chosen)
are_class_files read chosen few =
    let fits = fits_folder chosen few in
    (read (work chosen) fits.0 (work_numbers chosen few) (work_value chosen few), (read point fits.1.0 point_numbers point_value, tt))
