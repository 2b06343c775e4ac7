use Rattle.std.proofs.Common.{◌≡◌, false, take}
use Rattle.std.specs.List.{list_any}
use Rattle.plan_flow.specs.Inner.Gaining.{loses}
use Rattle.plan_flow.proofs.saving.is_lost_on.Given as goal

abbrev pub invariant-loop-edge : goal.invariant-loop-edge
invariant-loop-edge l = list_any (loses l.plan l.site) (take l.edge-index l.edges) ≡ false
