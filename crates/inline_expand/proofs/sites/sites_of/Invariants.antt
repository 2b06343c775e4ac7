use Rattle.inline_expand.specs.Inner.Places.{chain_of, host_of}
use Rattle.inline_expand.specs.Inner.SiteTables.{AreSites}
use Rattle.inline_expand.specs.Inner.Walks.{AreRight}
use Rattle.inline_expand.proofs.sites.sites_of.Given as goal

abbrev pub invariant-loop-number : goal.invariant-loop-number
invariant-loop-number l = record {
  sites : AreSites l.place.class.tree.now l.place.class.typed.now (host_of l.place.line.now) (chain_of l.place.line.now) l.method l.number l.sites.items;
  right : AreRight l.place.class.tree.now l.place.class.typed.now l.place.class.number l.verdicts;
}
