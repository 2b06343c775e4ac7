use Rattle.std.proofs.Common.{◌-◌, length}
use Rattle.class_tree.specs.Headers.{headers_of}
use Rattle.code_drafts.proofs.CarriedLaws.{TargetsLeft}
use Rattle.code_drafts.proofs.carried.targets_of.Given as goal
use Rattle.code_drafts.specs.Writable.{IsRouteAt}
use Rattle.member_link.specs.Machine.Links.{AreLinksOf}
use Rattle.member_link.specs.Machine.Programs.{Links}
use Rattle.plan_flow.specs.PlanTable.{targets_at}
use Rattle.plan_flow.specs.Written.Routes.{Route}

abbrev pub decreases-loop-to : goal.decreases-loop-to
decreases-loop-to l = length (targets_at l.instr) - l.number

abbrev pub invariant-loop-to : goal.invariant-loop-to
invariant-loop-to l =
    (links : Links) (route : Route)
    → AreLinksOf (headers_of l.setting.classes) links
    → IsRouteAt l.setting links l.at route
    → TargetsLeft l.at route (targets_at l.instr) l.list l.number
