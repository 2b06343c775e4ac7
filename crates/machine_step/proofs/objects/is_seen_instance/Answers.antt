use Rattle.std.proofs.Common.{ℕ, List, sym, ap, ◌∙◌}
use Rattle.machine_values.specs.declared.object.Shape.{Shape}
use Rattle.member_link.specs.Machine.Shapes.{is_instance}
use Rattle.machine_step.proofs.objects.is_seen_instance.Goals as goal

pub returns-2-clause-kept : goal.returns-2-clause-kept
returns-2-clause-kept c = λ P is seen. record {
  answer =
      ap (λ (shape : Shape). is_instance P shape c.args.op.now.name) (sym c.in-Folder.is)
      ∙ sym
      (c.is_instance-answer.ensures P is
      ∙ ap (λ (name : List ℕ). is_instance P c.args.shape.now name) c.bytes-2.ensures.same);
}
