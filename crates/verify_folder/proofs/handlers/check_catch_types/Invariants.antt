use Rattle.verify_folder.proofs.CaughtClasses.{CatchBelow}
use Rattle.verify_folder.proofs.handlers.check_catch_types.Given as goal

abbrev pub invariant-loop-handler : goal.invariant-loop-handler
invariant-loop-handler l = CatchBelow l.rules l.handler-items l.handler-index
