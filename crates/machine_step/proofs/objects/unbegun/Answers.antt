use Rattle.std.proofs.Common.{sym, ap, ◌∙◌}
use Rattle.member_link.specs.Machine.Worlds.{Memory, is_begun}
use Rattle.machine_step.proofs.WorkFirst.{first_begins, first_begun, first_none}
use Rattle.machine_step.proofs.objects.unbegun.Goals as goal

pub returns-then-contains : goal.returns-then-contains
returns-then-contains c = λ P class otherwise home.
    first_begun P c.args.memory.now class otherwise c.in-Some.class (home ∙ c.in-Some.is)
    (ap (λ (m : Memory). is_begun m c.in-Some.class) (sym c.memory.view_is) ∙ sym c.contains.ensures ∙ c.if-contains.true)

pub returns-else-contains : goal.returns-else-contains
returns-else-contains c = λ P class otherwise home.
    first_begins P c.args.memory.now class otherwise c.in-Some.class (home ∙ c.in-Some.is)
    (ap (λ (m : Memory). is_begun m c.in-Some.class) (sym c.memory.view_is) ∙ sym c.contains.ensures ∙ c.if-contains.false)

pub returns-in-None : goal.returns-in-None
returns-in-None c = λ P class otherwise home.
    first_none P c.args.memory.now class otherwise (home ∙ c.in-None.is)
