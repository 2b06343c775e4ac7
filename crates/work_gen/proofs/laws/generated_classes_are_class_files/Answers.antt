use Rattle.std.proofs.Common.{arith}
use Rattle.work_gen.specs.Generated.{choices}
use Rattle.work_gen.proofs.ClassFiles.{are_class_files}
use Rattle.work_gen.proofs.MadeChoices.{choices_length}
use Rattle.work_gen.proofs.laws.generated_classes_are_class_files.Goals as goal

pub returns : goal.returns
returns c = λ number size few. are_class_files c.a_value_is_the_class_file_of_its_bytes.ensures (choices number size) (omega (arith, few, choices_length number size))
