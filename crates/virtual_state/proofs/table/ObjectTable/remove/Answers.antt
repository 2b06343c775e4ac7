use Rattle.std.proofs.Common.{rules, ◌≡◌, None, List, refl, ap, subst, ◌∙◌}
use Rattle.std.specs.Option.{option_flatten}
use Rattle.std.proofs.lemmas.Option.{slice_get_past, none-some}
use Rattle.virtual_state.specs.Inner.Tables.{HasSet, listed}
use Rattle.virtual_state.specs.States.{object_of}
use Rattle.virtual_state.specs.declared.slot.VObject.{VObject}
use Rattle.virtual_state.proofs.Tables.{found_at, set_listed}
use Rattle.virtual_state.proofs.table.ObjectTable.remove.Goals as goal

pub returns-then-site-len : goal.returns-then-site-len
returns-then-site-len c =
    let has = set_listed c.set_entry.ensures (λ object is. absurd (none-some object is)) c.self.invariant in
    subst (λ (objects : List VObject). HasSet objects (listed c.set_entry.new.entries.items) c.args.site None) c.self.view_is has

pub returns-else-site-len : goal.returns-else-site-len
returns-else-site-len c =
    let entries = c.self.inside.entries.items in
    let none = found_at entries c.args.site c.self.invariant ∙ ap option_flatten (slice_get_past entries c.args.site (search rules)) in
    record { here = subst (λ (objects : List VObject). object_of objects c.args.site ≡ None) c.self.view_is none; others = λ other differ. refl }
