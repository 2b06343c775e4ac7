use Rattle.std.proofs.Common.{[], refl, sym, ap, ◌∙◌}
use Rattle.machine_values.specs.Heaps.{Heap, object_at}
use Rattle.member_link.specs.Machine.Completions.{gives}
use Rattle.member_link.specs.Machine.Worlds.{Memory}
use Rattle.machine_step.specs.Inner.FieldWords.{slot_at, stored_at}
use Rattle.member_link.specs.RunOps.{home_class}
use Rattle.machine_step.proofs.FieldWork.{class_there, own_put, put_anyway}
use Rattle.machine_step.proofs.fields.objects.put_own.Goals as goal

pub returns-in-Done-clause-completed : goal.returns-in-Done-clause-completed
returns-in-Done-clause-completed c = λ P op operands here some.
    let memory = c.args.memory.now in
    let field = c.args.target.now.field in
    let at = c.args.at in
    let class = class_there (home_class c.args.target.now.home) some in
    record {
      same =
          own_put P memory c.args.named.now field at c.args.value class.0 (here.target.home ∙ class.1) (object_at memory.heap at) refl
          ∙ ap (stored_at memory at c.args.value)
          (ap (λ (heap : Heap). slot_at P heap c.args.named.now field at) (sym c.heap.ensures) ∙ sym (c.slot_at.ensures.slot P op here) ∙ c.in-Some.is)
          ∙ ap (λ (m : Memory). gives m []) (sym (put_anyway memory c.put.new.self at c.in-Some.slot c.args.value c.put.result c.in-Done.is c.put.ensures.answer c.put.ensures.done c.put.ensures.outside));
      keeps = tt;
    }
