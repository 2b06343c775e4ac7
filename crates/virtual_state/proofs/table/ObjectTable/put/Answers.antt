use Rattle.std.proofs.Common.{rules, ◌≡◌, ℕ, Some, List, ap, sym, subst, ◌∙◌}
use Rattle.std.proofs.lemmas.Option.{same_Some}
use Rattle.virtual_state.specs.Inner.Tables.{HasSet, listed}
use Rattle.virtual_state.specs.declared.slot.VObject.{VObject}
use Rattle.virtual_state.proofs.Tables.{set_listed_behind}
use Rattle.virtual_state.proofs.table.ObjectTable.put.Goals as goal

pub returns : goal.returns
returns c =
    let site = ap {B = ℕ} (λ (object : VObject). object.site) c.get.ensures in
    let at : c.args.object.site ≡ c.from-site.result = search rules in
    let has = set_listed_behind c.in_ok-grow.ensures.same c.set_entry.ensures (λ object is. sym (ap {B = ℕ} (λ (one : VObject). one.site) (same_Some _ _ is)) ∙ at) c.self.invariant in
    let told = subst (λ (objects : List VObject). HasSet objects (listed c.set_entry.new.entries.items) c.from-site.result (Some c.args.object)) c.self.view_is has in
    subst (λ (number : ℕ). HasSet c.args.self.now (listed c.set_entry.new.entries.items) number (Some c.args.object)) (sym at) told
