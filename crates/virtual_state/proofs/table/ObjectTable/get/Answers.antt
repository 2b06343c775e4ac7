use Rattle.std.proofs.Common.{◌≡◌, List, sym, subst}
use Rattle.virtual_state.specs.Inner.Tables.{entry_at}
use Rattle.virtual_state.specs.States.{object_of}
use Rattle.virtual_state.specs.declared.slot.VObject.{VObject}
use Rattle.virtual_state.proofs.Tables.{found_at}
use Rattle.virtual_state.proofs.table.ObjectTable.get.Goals as goal

pub returns : goal.returns
returns c =
    let entries = c.self.inside.entries.items in
    let found = subst (λ (objects : List VObject). object_of objects c.args.site ≡ entry_at entries c.args.site) c.self.view_is (found_at entries c.args.site c.self.invariant) in
    rw (c.entry_of.ensures, c.as_slice.ensures.value) (sym found)
