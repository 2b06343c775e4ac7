use Rattle.std.proofs.Common.{◌++◌, ◌+◌, ◌*◌, length}
use Rattle.expanded_code.specs.Expanded.{points_from}
use Rattle.inline_expand.proofs.MethodParts.{HasDone}
use Rattle.inline_expand.proofs.expanded.points.+method.Given as goal
use Rattle.inline_expand.specs.Inner.Settings.{AreCaught, setting_of}
use Rattle.inline_expand.specs.Inner.Steps.{callees_of, expansion_by}

abbrev pub decreases-push_method : goal.decreases-push_method
decreases-push_method l = 2 * length l.bodies.now

abbrev pub decreases-push_callee : goal.decreases-push_callee
decreases-push_callee l = 2 * length l.found.now.bodies.now + 1

abbrev pub invariant-push_method-loop-number : goal.invariant-push_method-loop-number
invariant-push_method-loop-number l = record {
  done : HasDone l.setting (callees_of l.bodies) l.instrs l.frames l.steps
      (l.fn.points.items ++ points_from (setting_of l.setting) l.setting.base (l.setting.unit + l.setting.body.now.host.part.max_locals) l.instrs l.frames (expansion_by (callees_of l.bodies) l.steps))
      l.number l.unit l.points.items;
  around : AreCaught l.setting l.around;
}
