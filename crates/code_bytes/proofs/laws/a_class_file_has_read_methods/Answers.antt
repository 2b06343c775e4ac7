use Rattle.code_bytes.proofs.ReadMethods.{class_is_read}
use Rattle.code_bytes.proofs.laws.a_class_file_has_read_methods.Goals as goal

pub returns-clause-methods : goal.returns-clause-methods
returns-clause-methods c = λ bytes class is. (class_is_read bytes class is).read

pub returns-clause-operands : goal.returns-clause-operands
returns-clause-operands c = λ bytes class is. (class_is_read bytes class is).operands

pub returns-clause-frames : goal.returns-clause-frames
returns-clause-frames c = λ bytes class is. (class_is_read bytes class is).frames
