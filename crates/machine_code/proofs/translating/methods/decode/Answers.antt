use Rattle.machine_code.proofs.PreparedCodes.{few_decoded}
use Rattle.machine_code.proofs.translating.methods.decode.Goals as goal

pub returns-clause-few : goal.returns-clause-few
returns-clause-few c =
    few_decoded c.args.code.now _ c.requires
    (c.instructions_are_consecutive.ensures c.args.code.now) c.instructions_of.ensures
