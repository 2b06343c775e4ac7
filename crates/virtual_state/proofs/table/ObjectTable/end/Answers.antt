use Rattle.std.proofs.Common.{rules, ◌≡◌, None, List, ap, subst, ◌∙◌}
use Rattle.std.specs.Option.{option_flatten}
use Rattle.std.proofs.lemmas.Option.{slice_get_past}
use Rattle.virtual_state.specs.States.{object_of}
use Rattle.virtual_state.specs.declared.slot.VObject.{VObject}
use Rattle.virtual_state.proofs.Tables.{found_at}
use Rattle.virtual_state.proofs.table.ObjectTable.end.Goals as goal

pub returns : goal.returns
returns c = λ site past.
    let entries = c.self.inside.entries.items in
    let none = ap option_flatten (slice_get_past entries site (search rules)) in
    subst (λ (objects : List VObject). object_of objects site ≡ None) c.self.view_is (found_at entries site c.self.invariant ∙ none)
