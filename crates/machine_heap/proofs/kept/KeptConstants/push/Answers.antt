use Rattle.std.proofs.Common.{◌≡◌, ℕ, List, [], ◌∷◌, ◌++◌, false, nat_eq, if◌then◌else◌, Bool, sym, ap, subst, ◌∙◌}
use Rattle.std.specs.List.{list_any}
use Rattle.std.proofs.lemmas.List.{map-append}
use Rattle.indexmap.proofs.CallerLemmas.{insert_entry-new}
use Rattle.machine_values.specs.Heaps.{Kept, kept_in}
use Rattle.machine_values.specs.contracts.object.ConstantPartialEq.TheImpl.{ghosts as comparison}
use Rattle.machine_values.specs.declared.object.Constant.{Constant}
use Rattle.machine_heap.specs.Inner.Kept.{AreBelow, kept_of, numbers_of}
use Rattle.machine_heap.proofs.KeptEntries.{found_reference, none_above}
use Rattle.machine_heap.proofs.kept.KeptConstants.push.Goals as goal

-- the entries are those of before and the new one
entries_are : (c : goal.In-Ok) → c.insert.new.self.entries ≡ c.self.inside.references.entries ++ (c.args.constant, c.args.at) ∷ []
entries_are c =
    let law = c.constants_compare_by_value.ensures in
    let entries = c.self.inside.references.entries in
    let none = found_reference comparison.eq law.found law.same entries c.args.constant ∙ ap (λ kept. kept_in kept c.args.constant) c.self.view_is ∙ c.requires.new in
    c.in_ok-insert.ensures.entries ∙ insert_entry-new comparison.eq c.self.inside.references c.args.constant c.args.at none

-- src/kept.rt:68:5
pub invariant_of-self-2 : goal.invariant_of-self-2
invariant_of-self-2 c =
    let entries = c.self.inside.references.entries in
    let number = c.at.inside.number in
    let below : AreBelow number (kept_of entries) = subst (λ (n : ℕ). AreBelow n (kept_of entries)) (sym c.at.view_is) (subst (AreBelow c.args.at) (sym c.self.view_is) c.requires.above) in
    let keys = c.reserve.ensures.keys ∙ c.self.invariant in
    let none : list_any (nat_eq number) c.reserve.new.self.keys ≡ false = ap (list_any (nat_eq number)) keys ∙ none_above number entries below in
    c.in-Ok.ensures.keys
    ∙ ap (λ (b : Bool). if b then c.reserve.new.self.keys else c.reserve.new.self.keys ++ number ∷ []) none
    ∙ ap (λ (numbers : List ℕ). numbers ++ number ∷ []) keys
    ∙ ap (λ (n : ℕ). numbers_of entries ++ n ∷ []) c.at.view_is
    ∙ sym (map-append (λ (e : Constant × ℕ). e.1) entries ((c.args.constant, c.args.at) ∷ []))
    ∙ sym (ap numbers_of (entries_are c))

-- src/kept.rt:68:5
pub returns-clause-ok : goal.returns-clause-ok
returns-clause-ok c =
    let entries = c.self.inside.references.entries in
    ap kept_of (entries_are c)
    ∙ map-append (λ (e : Constant × ℕ). record { constant = e.0; reference = e.1 }) entries ((c.args.constant, c.args.at) ∷ [])
    ∙ ap (λ (kept : List Kept). kept ++ record { constant = c.args.constant; reference = c.args.at } ∷ []) c.self.view_is
