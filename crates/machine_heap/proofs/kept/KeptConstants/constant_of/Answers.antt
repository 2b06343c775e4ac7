use Rattle.std.proofs.Common.{◌≡◌, ℕ, List, Some, false, nat_eq, option_map, position, slice_get, sym, ap, subst, ◌∙◌}
use Rattle.std.specs.List.{list_any, position_or_len}
use Rattle.std.specs.Option.{option_copied}
use Rattle.machine_values.specs.Heaps.{constant_in}
use Rattle.machine_values.specs.declared.object.Constant.{Constant}
use Rattle.machine_heap.specs.Inner.Kept.{kept_of, numbers_of}
use Rattle.machine_heap.proofs.KeptEntries.{constant_at_place, no_constant_at, position_is}
use Rattle.machine_heap.proofs.kept.KeptConstants.constant_of.Goals as goal

-- src/kept.rt:58:21
pub returns-in_err-place : goal.returns-in_err-place
returns-in_err-place c =
    let entries = c.self.inside.references.entries in
    let number = c.at.inside.number in
    let none : list_any (nat_eq number) (numbers_of entries) ≡ false = subst (λ (numbers : List ℕ). list_any (nat_eq number) numbers ≡ false) c.self.invariant (sym c.in_err-place.ensures.found) in
    ap option_copied c.from_residual.ensures ∙ sym (no_constant_at number entries none) ∙ ap (constant_in (kept_of entries)) c.at.view_is ∙ ap (λ kept. constant_in kept c.args.at) c.self.view_is

-- src/kept.rt:55:5
pub returns : goal.returns
returns c =
    let entries = c.self.inside.references.entries in
    let number = c.at.inside.number in
    let at : Some c.in_ok-place.place ≡ position (nat_eq number) (numbers_of entries) = subst (λ (numbers : List ℕ). Some c.in_ok-place.place ≡ position (nat_eq number) numbers) c.self.invariant c.in_ok-place.ensures.index in
    let place : c.in_ok-place.place ≡ position_or_len (nat_eq number) (numbers_of entries) = position_is (nat_eq number) (numbers_of entries) c.in_ok-place.place at in
    ap (option_map (λ (e : Constant × ℕ). e.0)) c.in_ok-constant.ensures.entry
    ∙ ap (λ (n : ℕ). option_map (λ (e : Constant × ℕ). e.0) (slice_get entries n)) place
    ∙ sym (constant_at_place number entries)
    ∙ ap (constant_in (kept_of entries)) c.at.view_is
    ∙ ap (λ kept. constant_in kept c.args.at) c.self.view_is
