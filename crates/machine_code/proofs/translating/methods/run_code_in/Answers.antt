use Rattle.std.proofs.Common.{ap, ◌∙◌}
use Rattle.class_model.specs.MethodCode.{code_of}
use Rattle.machine_code.proofs.RunCodes.{read_code}
use Rattle.machine_code.proofs.translating.methods.run_code_in.Goals as goal

pub returns-clause-read : goal.returns-clause-read
returns-clause-read c =
    read_code c.args.tree.now c.args.class.now c.args.method.now c.in-Some.part.now _
    c.in_ok-code_in.ensures c.requires.read c.requires.operands
    (c.in-Some.ensures ∙ ap code_of c.as_slice.ensures)
