use Rattle.std.proofs.Common.{take}
use Rattle.machine_code.specs.Inner.Preparing.{AreHandlers}
use Rattle.machine_code.proofs.translating.handlers.handlers_of.Given as goal

abbrev pub invariant-loop-handler : goal.invariant-loop-handler
invariant-loop-handler l =
    AreHandlers l.pool l.numbers (take l.handler-index l.handlers) l.made.items
