use Rattle.std.proofs.Common.{◌≡◌, drop, slice_get}
use Rattle.virtual_state.specs.Inner.Tables.{listed}
use Rattle.virtual_state.specs.States.{sites_of}
use Rattle.virtual_state.proofs.table.nth_site.Given as goal

abbrev pub invariant-loop-entry : goal.invariant-loop-entry
invariant-loop-entry l = slice_get (sites_of (listed (drop l.entry-index l.entries))) l.before ≡ slice_get (sites_of (listed l.entries)) l.number
