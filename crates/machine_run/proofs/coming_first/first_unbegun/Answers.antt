use Rattle.std.proofs.Common.{Option, ℕ, length, sym, ap, ◌∙◌}
use Rattle.std.specs.Option.{option_or}
use Rattle.class_tree.specs.Headers.{all_headers}
use Rattle.member_link.specs.Machine.Programs.{headers_in}
use Rattle.machine_run.specs.Inner.ComeFirst.{unbegun_above}
use Rattle.machine_run.proofs.ComesFirst.{super_then_interfaces}
use Rattle.machine_run.proofs.coming_first.first_unbegun.Goals as goal

pub returns-in-Some-clause-first : goal.returns-in-Some-clause-first
returns-in-Some-clause-first c = λ P is.
    sym (super_then_interfaces P c.args.memory.now c.args.header.now (sym c.has.ensures ∙ c.if-has.false)
    ∙ ap (λ (first : Option ℕ). option_or first (unbegun_above P c.args.memory.now (length (all_headers (headers_in P))) c.args.header.now.interfaces)) (sym (c.in-Some.ensures.first P is)))
