use Rattle.std.proofs.Common.{◌-◌, drop, length}
use Rattle.class_tree.specs.Headers.{headers_of}
use Rattle.code_drafts.proofs.CarriedLaws.{CatchesLeft}
use Rattle.code_drafts.proofs.carried.catches_of.Given as goal
use Rattle.code_drafts.specs.Writable.{IsRouteAt}
use Rattle.member_link.specs.Machine.Links.{AreLinksOf}
use Rattle.member_link.specs.Machine.Programs.{Links}
use Rattle.plan_flow.specs.Written.Routes.{Route}
use Rattle.plan_flow.specs.Written.Templates.{catches_from}
use Rattle.pool_edit.specs.Edits.{Continues}

abbrev pub decreases-loop-handler : goal.decreases-loop-handler
decreases-loop-handler l = length l.handlers - l.number

abbrev pub invariant-loop-handler : goal.invariant-loop-handler
invariant-loop-handler l =
    ((links : Links) (route : Route)
    → AreLinksOf (headers_of l.setting.classes) links
    → IsRouteAt l.setting links l.at route
    → CatchesLeft l.fn.pool (catches_from l.at route 0 l.handlers) l.pool l.list (catches_from l.at route l.number (drop l.number l.handlers)))
    × Continues l.fn.pool l.pool
