use Rattle.std.proofs.Common.{sym}
use Rattle.expanded_runs.proofs.AloneProgram.{program-same}
use Rattle.expanded_runs.proofs.laws.flat_codes_alone_run_equally.Goals as goal
use Rattle.member_link.specs.Machine.Classes.{program_of}
use Rattle.same_runs.specs.Flats.{flat_program}

pub returns-clause-program : goal.returns-clause-program
returns-clause-program c = λ classes typed links flats types are.
    program-same c.a_typed_folder_types_each_method.ensures c.a_typed_method_types_each_instruction.ensures.count classes typed links flats types are

pub returns-clause-runs : goal.returns-clause-runs
returns-clause-runs c = λ classes typed links flats types are.
    c.programs_that_are_equal_run_equally.ensures (program_of classes links) (flat_program classes links flats)
    (sym (program-same c.a_typed_folder_types_each_method.ensures c.a_typed_method_types_each_instruction.ensures.count classes typed links flats types are))
