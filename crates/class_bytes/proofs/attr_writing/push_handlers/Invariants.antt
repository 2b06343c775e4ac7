use Rattle.class_model.specs.Spelling.{handler_bytes}
use Rattle.class_bytes.specs.Numbers.{HandlerNumbers}
use Rattle.class_bytes.proofs.Pushing.{Pushed}
use Rattle.class_bytes.proofs.attr_writing.push_handlers.Given as goal

abbrev pub invariant-loop-handler : goal.invariant-loop-handler
invariant-loop-handler l = Pushed handler_bytes HandlerNumbers l.fn.out.items l.out.items l.handlers l.handler-index
