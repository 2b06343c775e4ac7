use Rattle.std.proofs.Common.{List, subst}
use Rattle.virtual_state.specs.States.{IsIncreasing, sites_of}
use Rattle.virtual_state.specs.declared.slot.VObject.{VObject}
use Rattle.virtual_state.proofs.Tables.{listed_in_order}
use Rattle.virtual_state.proofs.table.ObjectTable.is_in_order.Goals as goal

pub returns : goal.returns
returns c = subst (λ (objects : List VObject). IsIncreasing (sites_of objects)) c.self.view_is (listed_in_order 0 c.self.inside.entries.items c.self.invariant)
