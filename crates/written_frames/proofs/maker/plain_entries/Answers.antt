use Rattle.std.proofs.Common.{◌≡◌, ◌+◌, ◌≤◌, ◌<◌, ◌∙◌, ℕ, List, ap, arith, drop, length, min, refl, slice_get, Some, subst, sym}
use Rattle.std.proofs.lemmas.List.{length-drop}
use Rattle.std.proofs.lemmas.Option.{slice_get_read}
use Rattle.class_model.specs.declared.frame.VType.{VType}
use Rattle.written_frames.proofs.PlainEntries.{entries_all, entry_next, slot_behind}
use Rattle.written_frames.proofs.maker.plain_entries.Goals as goal

pub loop-place-preserved : goal.loop-place-preserved
loop-place-preserved c =
    let flat = c.args.flat.now in
    let slots = c.args.state.now.slots in
    let list = c.as_slice-types.result.now in
    let locals = length c.args.typed.now.locals in
    let place = c.loop-place.place in
    let type = c.index-types-place.result in
    let within : place < length list = omega (arith, c.loop-place-test.true, c.min-place-end.ensures) in
    let read : slice_get list place ≡ Some type = slice_get_read list (length list) place type refl within c.index-types-place.is in
    let there : slice_get (drop locals slots) place ≡ Some c.in-Some.slot =
    slot_behind slots locals place ∙ ap (λ (n : ℕ). slice_get slots (n + place)) (sym c.len-in-loop-place.ensures) ∙ sym c.in-Some.ensures in
    entry_next flat c.args.typed.now.stack (drop locals slots) c.loop-place.entries c.push_plain.new.entries place type c.in-Some.slot
    (subst (λ (types : List VType). slice_get types place ≡ Some type) c.as_slice-types.ensures read) there
    c.in_ok-push_plain.ensures c.loop-place.invariant

pub returns : goal.returns
returns c =
    let slots = c.args.state.now.slots in
    let locals = length c.args.typed.now.locals in
    let left = length-drop locals slots in
    let same = ap (λ (list : List VType). length list) c.as_slice-types.ensures in
    let past : min (length c.args.typed.now.stack) (length (drop locals slots)) ≤ c.loop-place.place =
    omega (arith, left, same, c.loop-place-test.false, c.min-place-end.ensures, c.saturating_sub-places.ensures, c.len.ensures, c.len-2.ensures) in
    entries_all c.args.flat.now c.args.typed.now.stack (drop locals slots) c.loop-place.entries c.loop-place.place past c.loop-place.invariant
