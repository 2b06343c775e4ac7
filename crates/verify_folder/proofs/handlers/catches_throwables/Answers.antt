use Rattle.std.proofs.Common.{refl}
use Rattle.class_tree.specs.Headers.{headers_of}
use Rattle.verify_folder.proofs.CaughtClasses.{catches_all, catches_class}
use Rattle.verify_folder.proofs.handlers.catches_throwables.Goals as goal

pub returns-then-handler-eq0 : goal.returns-then-handler-eq0
returns-then-handler-eq0 c = (λ yes. catches_all c.args.rules.now c.args.handler.now c.if-handler-eq0.true, λ catches. refl)

pub returns-in-Some : goal.returns-in-Some
returns-in-Some c =
    catches_class c.args.rules.now c.args.handler.now (headers_of c.tree.result.now) c.tree.ensures c.class.result.now c.class.ensures c.in-Some.name.now c.bytes.result.now c.is_at_or_below.result
    c.if-handler-eq0.false c.in-Some.ensures c.bytes.ensures.same c.is_at_or_below.ensures
