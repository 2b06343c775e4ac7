use Rattle.std.proofs.Common.{◌≡◌, ◌+◌, ◌≤◌, List, drop}
use Rattle.expanded_code.specs.Expanded.{units_in}
use Rattle.inline_expand.proofs.expanded.layouts.units_of.Given as goal
use Rattle.inline_expand.specs.Inner.Layouts.{AreLayouts, capped}
use Rattle.inline_expand.specs.Inner.Steps.{Callee, expansion_by}

abbrev pub invariant-loop-step : goal.invariant-loop-step
invariant-loop-step l = record {
  few : l.units ≤ 65535;
  units : (callees : List Callee)
      → AreLayouts callees l.layouts
      → capped (l.units + units_in (expansion_by callees (drop l.step-index l.steps))) ≡ capped (units_in (expansion_by callees l.steps));
}
