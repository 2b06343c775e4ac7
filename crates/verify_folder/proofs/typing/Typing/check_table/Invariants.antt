use Rattle.std.proofs.Common.{drop}
use Rattle.class_model.specs.Laws.Checks.{Remain}
use Rattle.type_rules.specs.Checks.{handler_checks}
use Rattle.type_rules.specs.Handlers.{catches_at}
use Rattle.type_rules.specs.MethodBodies.{body_of}
use Rattle.verify_folder.proofs.typing.Typing.check_table.Given as goal

abbrev pub invariant-loop-handler : goal.invariant-loop-handler
invariant-loop-handler l = Remain (handler_checks (body_of l.self) l.before (catches_at l.self l.at l.handler-items)) (handler_checks (body_of l.self) l.before (catches_at l.self l.at (drop l.handler-index l.handler-items)))
