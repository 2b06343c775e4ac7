use Rattle.std.proofs.Common.{◌≡◌, ◌+◌, ◌*◌, drop}
use Rattle.class_model.specs.Code.{handlers_checks}
use Rattle.class_model.specs.Laws.Checks.{Remain}
use Rattle.class_bytes.proofs.handlers.check_handlers.Given as goal

abbrev pub invariant-loop-handler : goal.invariant-loop-handler
invariant-loop-handler l =
    (l.place ≡ l.at + 8 * l.handler-index)
    × Remain (handlers_checks l.pool l.instrs l.len l.at l.handlers) (handlers_checks l.pool l.instrs l.len l.place (drop l.handler-index l.handlers))
