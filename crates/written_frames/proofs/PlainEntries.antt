-- The plain entries of a stack, one after the other.
use Rattle.std.proofs.Common.{◌≡◌, ◌+◌, ◌≤◌, ℕ, zero, suc, min, List, [], ◌∷◌, ◌++◌, length, drop, slice_get, Some, inl, inr, refl, sym, ap, ◌∙◌, append-nil, arith}
use Rattle.std.proofs.lemmas.Bool.{cases_lt}
use Rattle.std.proofs.lemmas.List.{drop_all}
use Rattle.class_model.specs.Laws.Lists.{drop_item}
use Rattle.class_model.specs.declared.frame.VType.{VType}
use Rattle.flow_code.specs.FlatCode.{FlatCode}
use Rattle.flow_code.specs.ReadTypes.{read_type}
use Rattle.making_code.specs.StateFrames.{entry_types_by, entry_types_from}
use Rattle.virtual_state.specs.declared.slot.Slot.{Slot}
use Rattle.written_frames.specs.Inner.PlainEntries.{HasEntries}

pub slot_behind : (slots : List Slot) (n place : ℕ) → slice_get (drop n slots) place ≡ slice_get slots (n + place)
slot_behind slots zero place = ap (slice_get slots) (let same : place ≡ 0 + place = omega arith in same)
slot_behind [] (suc n) place = refl
slot_behind (slot ∷ slots) (suc n) place =
    slot_behind slots n place ∙ ap (slice_get (slot ∷ slots)) (let same : suc (n + place) ≡ suc n + place = omega arith in same)

next_entry : (flat : FlatCode) (types : List VType) (slots : List Slot) (place : ℕ) (type : VType) (slot : Slot)
    → slice_get types place ≡ Some type
    → slice_get slots place ≡ Some slot
    → entry_types_from flat (drop place types) (drop place slots) ≡ entry_types_by slot (read_type flat type) (entry_types_from flat (drop (place + 1) types) (drop (place + 1) slots))
next_entry flat types slots place type slot is there =
    ap (λ (list : List VType). entry_types_from flat list (drop place slots)) (drop_item types place type is)
    ∙ ap (λ (list : List Slot). entry_types_from flat (type ∷ drop (place + 1) types) list) (drop_item slots place slot there)

pub entry_next : (flat : FlatCode) (types : List VType) (slots : List Slot) (entries new : List VType) (place : ℕ) (type : VType) (slot : Slot)
    → slice_get types place ≡ Some type
    → slice_get slots place ≡ Some slot
    → ((rest : List VType) → new ++ rest ≡ entries ++ entry_types_by slot (read_type flat type) rest)
    → HasEntries flat types slots entries place → HasEntries flat types slots new (place + 1)
entry_next flat types slots entries new place type slot is there new_is before = record {
  all = new_is (entry_types_from flat (drop (place + 1) types) (drop (place + 1) slots))
      ∙ ap (λ (list : List VType). entries ++ list) (sym (next_entry flat types slots place type slot is there))
      ∙ before.all;
}

no_slots : (flat : FlatCode) (types : List VType) → entry_types_from flat types [] ≡ []
no_slots flat [] = refl
no_slots flat (type ∷ types) = refl

pub entries_all : (flat : FlatCode) (types : List VType) (slots : List Slot) (entries : List VType) (place : ℕ)
    → min (length types) (length slots) ≤ place
    → HasEntries flat types slots entries place → entries ≡ entry_types_from flat types slots
entries_all flat types slots entries place past before =
    sym (append-nil entries) ∙ ap (λ (list : List VType). entries ++ list) (sym none) ∙ before.all
  where
    none : entry_types_from flat (drop place types) (drop place slots) ≡ []
    none = elim (cases_lt (length types) (length slots)) [
      | inl less ↦
          let behind : length types ≤ place = grind (arith, past, less) in
          ap (λ (list : List VType). entry_types_from flat list (drop place slots)) (drop_all place types behind)
      | inr more ↦
          let behind : length slots ≤ place = grind (arith, past, more) in
          ap (entry_types_from flat (drop place types)) (drop_all place slots behind) ∙ no_slots flat (drop place types)
    ]
