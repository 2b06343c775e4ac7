use Rattle.std.proofs.Common.{◌≡◌, ◌++◌, ◌≤◌, List, Option, drop, length, map, option_map}
use Rattle.inline_expand.specs.Inner.Layouts.{AreLayouts, capped, return_width, starts_from}
use Rattle.inline_expand.specs.Inner.Steps.{Callee, expansion_by}
use Rattle.inline_expand.proofs.expanded.layouts.starts_of.Given as goal
use Rattle.member_link.specs.Scope.{Scope, instructions}

abbrev pub invariant-loop-at : goal.invariant-loop-at
invariant-loop-at l = record {
  few : l.number ≤ 65535;
  len : length l.starts.items ≡ l.at;
  numbers : (callees : List Callee) (method : Option Scope)
      → AreLayouts callees l.layouts
      → l.returns ≡ option_map return_width method
      → l.starts.items ++ map capped (starts_from method l.number (drop l.at l.instrs) (expansion_by callees (drop l.at l.steps)))
      ≡ map capped (starts_from method 0 (instructions l.body.host) (expansion_by callees l.body.steps));
}
