use Rattle.inline_expand.proofs.HostCodes.{few-decoded}
use Rattle.inline_expand.proofs.host.decode.Goals as goal

pub returns-clause-few : goal.returns-clause-few
returns-clause-few c =
    few-decoded c.args.code.now _ c.requires (c.instructions_are_consecutive.ensures c.args.code.now) c.instructions_of.ensures
