use Rattle.std.proofs.Common.{◌≡◌}
use Rattle.inline_expand.specs.Inner.SiteTables.{AreCandidates}
use Rattle.inline_expand.proofs.sites.candidates_of.Given as goal

abbrev pub invariant-loop-number : goal.invariant-loop-number
invariant-loop-number l = record {
  found : AreCandidates l.fn.candidates l.method.host l.number l.classes.items;
  classes : l.candidates ≡ l.fn.candidates;
}
