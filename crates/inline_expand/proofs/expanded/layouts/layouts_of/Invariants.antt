use Rattle.std.proofs.Common.{take}
use Rattle.inline_expand.specs.Inner.Layouts.{AreLayouts}
use Rattle.inline_expand.specs.Inner.Steps.{callees_of}
use Rattle.inline_expand.proofs.expanded.layouts.layouts_of.Given as goal

abbrev pub invariant-loop-body : goal.invariant-loop-body
invariant-loop-body l = AreLayouts (callees_of (take l.body-index l.bodies)) l.layouts.items
