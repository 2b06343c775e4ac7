use Rattle.std.proofs.Common.{◌≡◌, ◌+◌, ◌≤◌, drop}
use Rattle.flow_code.specs.WrittenUnits.{field_units}
use Rattle.inline_expand.proofs.expanded.wide.field_units.Given as goal
use Rattle.inline_expand.specs.Inner.WideWords.{counted}

abbrev pub invariant-loop-site : goal.invariant-loop-site
invariant-loop-site l = record {
  few : l.units ≤ 18446744073709551615;
  all : counted (l.units + field_units (drop l.site-index l.sites)) ≡ counted (field_units l.sites);
}
