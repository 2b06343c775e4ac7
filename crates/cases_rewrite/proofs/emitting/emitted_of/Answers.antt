use Rattle.std.proofs.Common.{subst}
use Rattle.code_layout.specs.Emitting.{IsEmitted}
use Rattle.cases_rewrite.proofs.emitting.emitted_of.Goals as goal

pub of-requires : goal.of-requires
of-requires c = subst IsEmitted c.as_slice.ensures (record { some = c.are_items.ensures.some c.if-are_items.true; each = c.are_items.ensures.each c.if-are_items.true })
