use Rattle.std.proofs.Common.{◌∙◌}
use Rattle.std.proofs.lemmas.Result.{IfOk-weaker}
use Rattle.member_link.specs.Machine.Programs.{name_of_class}
use Rattle.machine_code.specs.declared.prepared_method.Locks.TheVariants as locks
use Rattle.machine_run.proofs.CalledMethods.{locked_by_traits}
use Rattle.machine_run.proofs.calls.lock.Goals as goal

pub returns-in-None-locks : goal.returns-in-None-locks
returns-in-None-locks c = λ P values is first.
    locked_by_traits P c.args.memory.now c.args.at values c.in-Some.traits locks.None (c.in-Some.ensures P is) c.in-None-locks.is

pub returns-in-Receiver : goal.returns-in-Receiver
returns-in-Receiver c =
    IfOk-weaker c.lock_receiver.result _ _ (λ held entered P values is first.
    locked_by_traits P c.args.memory.now c.args.at values c.in-Some.traits locks.Receiver (c.in-Some.ensures P is) c.in-Receiver.is
    ∙ entered (name_of_class P c.args.at.class) values first) c.lock_receiver.ensures

pub returns-in-Class : goal.returns-in-Class
returns-in-Class c =
    IfOk-weaker c.lock_class.result _ _ (λ held entered P values is first.
    locked_by_traits P c.args.memory.now c.args.at values c.in-Some.traits locks.Class (c.in-Some.ensures P is) c.in-Class.is
    ∙ entered P values is) c.lock_class.ensures
