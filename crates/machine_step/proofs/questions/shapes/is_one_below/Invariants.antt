use Rattle.std.proofs.Common.{◌≡◌, List, ℕ, length}
use Rattle.std.specs.List.{list_any}
use Rattle.member_link.specs.Machine.Programs.{Program}
use Rattle.member_link.specs.TreePrograms.{IsProgram}
use Rattle.machine_step.proofs.questions.shapes.is_one_below.Given as goal

abbrev pub invariant-loop-class : goal.invariant-loop-class
invariant-loop-class l =
    (P : Program)
    → IsProgram l.tree P
    → list_any (λ (class : List ℕ). P.links.below class l.name) l.classes
    ≡ list_any (λ (class : List ℕ). P.links.below class l.name) l.rest

abbrev pub decreases-loop-class : goal.decreases-loop-class
decreases-loop-class l = length l.rest
