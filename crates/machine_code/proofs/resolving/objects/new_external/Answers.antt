use Rattle.std.proofs.Common.{ap, ◌∙◌}
use Rattle.member_link.specs.Machine.Programs.{folder_number}
use Rattle.machine_code.proofs.resolving.objects.new_external.Goals as goal

pub returns-clause-resolved : goal.returns-clause-resolved
returns-clause-resolved c = λ P none.
    record { home = ap (folder_number P) c.in_ok-copy.ensures ∙ none; blanks = c.new.ensures.items }
