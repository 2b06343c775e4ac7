-- The units of the flat code, one after the other.
use Rattle.std.proofs.Common.{◌≡◌, ◌+◌, ◌-◌, ◌<◌, ◌≤◌, ℕ, zero, suc, min, List, [], ◌∷◌, ◌++◌, length, take, drop, replicate, slice_get, slice_set, Some, inl, inr, refl, sym, ap, subst, ◌∙◌, append_assoc, arith}
use Rattle.std.proofs.lemmas.Bool.{cases_lt}
use Rattle.std.proofs.lemmas.List.{length-drop}
use Rattle.class_model.specs.Laws.Lists.{drop_item}
use Rattle.class_model.specs.declared.frame.VType.{VType}
use Rattle.class_model.specs.declared.frame.VType.TheVariants.{Top}
use Rattle.flow_code.specs.FlatCode.{FlatCode}
use Rattle.making_code.specs.StateFrames.{local_types_from, type_of_slot}
use Rattle.virtual_state.specs.declared.slot.Slot.{Slot}
use Rattle.virtual_state.specs.declared.slot.Slot.TheVariants.{Plain, Virt, Unusable}
use Rattle.written_frames.specs.Inner.OwnUnits.{AreChanged, AreListed}

-- ---- lists

take_drop : (types : List VType) (at : ℕ) → take at types ++ drop at types ≡ types
take_drop [] zero = refl
take_drop [] (suc at) = refl
take_drop (type ∷ types) zero = refl
take_drop (type ∷ types) (suc at) = ap (λ (rest : List VType). type ∷ rest) (take_drop types at)

first_left : (types : List VType) (at : ℕ) (type : VType) (rest : List VType) → drop at types ≡ type ∷ rest → slice_get types at ≡ Some type
first_left [] zero type rest is = absurd cc
first_left [] (suc at) type rest is = absurd cc
first_left (first ∷ types) zero type rest is = let same : first ≡ type = cc is in ap Some same
first_left (first ∷ types) (suc at) type rest is = first_left types at type rest is

set_same : (types : List VType) (at : ℕ) (type : VType) → slice_get types at ≡ Some type → slice_set types at type ≡ types
set_same [] zero type is = refl
set_same [] (suc at) type is = refl
set_same (first ∷ types) zero type is = let same : first ≡ type = cc is in ap (λ (one : VType). one ∷ types) (sym same)
set_same (first ∷ types) (suc at) type is = ap (λ (rest : List VType). first ∷ rest) (set_same types at type is)

set_length : (types : List VType) (at : ℕ) (type : VType) → length (slice_set types at type) ≡ length types
set_length [] zero type = refl
set_length [] (suc at) type = refl
set_length (first ∷ types) zero type = refl
set_length (first ∷ types) (suc at) type = ap suc (set_length types at type)

set_taken : (types : List VType) (at : ℕ) (type : VType) → at < length types → take (suc at) (slice_set types at type) ≡ take at types ++ type ∷ []
set_taken [] at type within = absurd (omega (arith, within))
set_taken (first ∷ types) zero type within = refl
set_taken (first ∷ types) (suc at) type within = ap (λ (rest : List VType). first ∷ rest) (set_taken types at type (omega (arith, within)))

set_left : (types : List VType) (at : ℕ) (type : VType) → drop (suc at) (slice_set types at type) ≡ drop (suc at) types
set_left [] zero type = refl
set_left [] (suc at) type = refl
set_left (first ∷ types) zero type = refl
set_left (first ∷ types) (suc at) type = set_left types at type

-- ---- a unit

next_unit : (flat : FlatCode) (types : List VType) (slots : List Slot) (at : ℕ) (type : VType) (slot : Slot)
    → slice_get types at ≡ Some type
    → slice_get slots at ≡ Some slot
    → local_types_from flat (drop at types) (drop at slots) ≡ type_of_slot flat type slot ∷ local_types_from flat (drop (at + 1) types) (drop (at + 1) slots)
next_unit flat types slots at type slot is there =
    ap (λ (list : List VType). local_types_from flat list (drop at slots)) (drop_item types at type is)
    ∙ ap (λ (list : List Slot). local_types_from flat (type ∷ drop (at + 1) types) list) (drop_item slots at slot there)

pub listed_next : (flat : FlatCode) (types : List VType) (slots : List Slot) (at : ℕ) (locals new : List VType) (type unit : VType) (slot : Slot)
    → slice_get types at ≡ Some type
    → slice_get slots at ≡ Some slot
    → unit ≡ type_of_slot flat type slot
    → new ≡ locals ++ unit ∷ []
    → AreListed flat types slots at locals
    → AreListed flat types slots (at + 1) new
listed_next flat types slots at locals new type unit slot is there same new_is before =
    let rest = local_types_from flat (drop (at + 1) types) (drop (at + 1) slots) in
    record {
      many = ap length new_is ∙ longer locals unit ∙ ap (λ (n : ℕ). n + 1) before.many;
      done = ap (λ (list : List VType). list ++ rest) new_is
          ∙ append_assoc locals (unit ∷ []) rest
          ∙ ap (λ (one : VType). locals ++ one ∷ rest) same
          ∙ ap (λ (list : List VType). locals ++ list) (sym (next_unit flat types slots at type slot is there))
          ∙ before.done;
    } where
      longer : (list : List VType) (one : VType) → length (list ++ one ∷ []) ≡ length list + 1
      longer [] one = omega arith
      longer (first ∷ list) one = let rest = longer list one in omega (arith, rest)

-- a unit that gets the type of written code
pub changed_next : (flat : FlatCode) (types : List VType) (slots : List Slot) (at : ℕ) (locals new : List VType) (type unit : VType) (slot : Slot)
    → slice_get types at ≡ Some type
    → slice_get slots at ≡ Some slot
    → at < length types
    → unit ≡ type_of_slot flat type slot
    → new ≡ slice_set locals at unit
    → AreChanged flat types slots at locals
    → AreChanged flat types slots (at + 1) new
changed_next flat types slots at locals new type unit slot is there within same new_is before =
    let next : suc at ≡ at + 1 = omega arith in
    let rest = local_types_from flat (drop (at + 1) types) (drop (at + 1) slots) in
    let inside : at < length locals = omega (arith, within, before.many) in
    let taken : take (at + 1) new ≡ take at locals ++ unit ∷ [] = subst (λ (n : ℕ). take n new ≡ take at locals ++ unit ∷ []) next (ap (take (suc at)) new_is ∙ set_taken locals at unit inside) in
    let first : drop at locals ≡ type ∷ drop (at + 1) types = before.left ∙ drop_item types at type is in
    let left : drop (suc at) locals ≡ drop (at + 1) types = behind locals at type (drop (at + 1) types) first in
    record {
      many = ap length new_is ∙ set_length locals at unit ∙ before.many;
      done = ap (λ (list : List VType). list ++ rest) taken
          ∙ append_assoc (take at locals) (unit ∷ []) rest
          ∙ ap (λ (one : VType). take at locals ++ one ∷ rest) same
          ∙ ap (λ (list : List VType). take at locals ++ list) (sym (next_unit flat types slots at type slot is there))
          ∙ before.done;
      left = subst (λ (n : ℕ). drop n new ≡ drop (at + 1) types) next (ap (drop (suc at)) new_is ∙ set_left locals at unit ∙ left);
    } where
      behind : (list : List VType) (n : ℕ) (one : VType) (others : List VType) → drop n list ≡ one ∷ others → drop (suc n) list ≡ others
      behind [] zero one others is = absurd cc
      behind [] (suc n) one others is = absurd cc
      behind (first ∷ list) zero one others is = cc is
      behind (first ∷ list) (suc n) one others is = behind list n one others is

-- one that has it
pub changed_same : (flat : FlatCode) (types : List VType) (slots : List Slot) (at : ℕ) (locals : List VType) (type : VType) (slot : Slot)
    → slice_get types at ≡ Some type
    → slice_get slots at ≡ Some slot
    → at < length types
    → type ≡ type_of_slot flat type slot
    → AreChanged flat types slots at locals
    → AreChanged flat types slots (at + 1) locals
changed_same flat types slots at locals type slot is there within same before =
    changed_next flat types slots at locals locals type type slot is there within same
    (sym (set_same locals at type (first_left locals at type (drop (at + 1) types) (before.left ∙ drop_item types at type is)))) before

-- ---- units that are Top to the end

top_slot : (flat : FlatCode) (slot : Slot) → type_of_slot flat Top slot ≡ Top
top_slot flat Plain = refl
top_slot flat (Virt site) = refl
top_slot flat Unusable = refl

same_tops : (flat : FlatCode) (types : List VType) (slots : List Slot) (n : ℕ) → types ≡ replicate n Top → length types ≤ length slots → local_types_from flat types slots ≡ types
same_tops flat [] slots n is few = refl
same_tops flat (type ∷ types) [] n is few = absurd (omega (arith, few))
same_tops flat (type ∷ types) (slot ∷ slots) zero is few = absurd cc
same_tops flat (type ∷ types) (slot ∷ slots) (suc n) is few =
    let first : type ≡ Top = cc is in
    let others : types ≡ replicate n Top = cc is in
    let head : type_of_slot flat type slot ≡ type = subst (λ (one : VType). type_of_slot flat one slot ≡ one) (sym first) (top_slot flat slot) in
    let rest : local_types_from flat types slots ≡ types = same_tops flat types slots n others (omega (arith, few)) in
    cc (head, rest)

-- as many as there are types and slots
abbrev shorter : List VType → List Slot → ℕ
shorter [] slots = zero
shorter (type ∷ types) [] = zero
shorter (type ∷ types) (slot ∷ slots) = suc (shorter types slots)

shorter_min : (types : List VType) (slots : List Slot) → shorter types slots ≡ min (length types) (length slots)
shorter_min [] slots = omega arith
shorter_min (type ∷ types) [] = omega arith
shorter_min (type ∷ types) (slot ∷ slots) = let rest = shorter_min types slots in omega (arith, rest)

all_tops : (flat : FlatCode) (types : List VType) (slots : List Slot) (n : ℕ) → types ≡ replicate n Top → local_types_from flat types slots ≡ replicate (shorter types slots) Top
all_tops flat [] slots n is = refl
all_tops flat (type ∷ types) [] n is = refl
all_tops flat (type ∷ types) (slot ∷ slots) zero is = absurd cc
all_tops flat (type ∷ types) (slot ∷ slots) (suc n) is =
    let first : type ≡ Top = cc is in
    let others : types ≡ replicate n Top = cc is in
    let head : type_of_slot flat type slot ≡ Top = ap (λ (one : VType). type_of_slot flat one slot) first ∙ top_slot flat slot in
    let rest : local_types_from flat types slots ≡ replicate (shorter types slots) Top = all_tops flat types slots n others in
    cc (head, rest)

none_left : (flat : FlatCode) (types : List VType) (slots : List Slot) → shorter types slots ≡ 0 → local_types_from flat types slots ≡ []
none_left flat [] slots none = refl
none_left flat (type ∷ types) [] none = refl
none_left flat (type ∷ types) (slot ∷ slots) none = absurd (omega (arith, none))

left_shorter : (types : List VType) (slots : List Slot) (at len : ℕ) → len ≡ min (length types) (length slots) → shorter (drop at types) (drop at slots) ≡ len - at
left_shorter types slots at len is =
    let least = shorter_min (drop at types) (drop at slots) in
    let one = length-drop at types in
    let other = length-drop at slots in
    grind (arith, least, one, other, is)

-- where the first units are listed up to those that are Top to the end, or to the last
pub listed_all : (flat : FlatCode) (types : List VType) (slots : List Slot) (at listed len : ℕ) (locals new : List VType)
    → drop listed types ≡ replicate (length types - listed) Top
    → len ≡ min (length types) (length slots)
    → at ≡ min listed len
    → AreListed flat types slots at locals
    → new ≡ locals ++ replicate (len - length locals) Top
    → new ≡ local_types_from flat types slots
listed_all flat types slots at listed len locals new tops len_is at_is before new_is =
    new_is
    ∙ ap (λ (n : ℕ). locals ++ replicate (len - n) Top) before.many
    ∙ ap (λ (list : List VType). locals ++ list) (sym left)
    ∙ before.done
  where
    count : shorter (drop at types) (drop at slots) ≡ len - at
    count = left_shorter types slots at len len_is

    left : local_types_from flat (drop at types) (drop at slots) ≡ replicate (len - at) Top
    left = elim (cases_lt listed len) [
      | inl less ↦
          let same : at ≡ listed = grind (arith, at_is, less) in
          let there : drop at types ≡ replicate (length types - listed) Top = ap (λ (n : ℕ). drop n types) same ∙ tops in
          all_tops flat (drop at types) (drop at slots) (length types - listed) there ∙ ap (λ (n : ℕ). replicate n Top) count
      | inr more ↦
          let same : at ≡ len = grind (arith, at_is, more) in
          let none : len - at ≡ 0 = omega (arith, same) in
          none_left flat (drop at types) (drop at slots) (count ∙ none) ∙ ap (λ (n : ℕ). replicate n Top) (sym none)
    ]

pub changed_all : (flat : FlatCode) (types : List VType) (slots : List Slot) (at : ℕ) (locals : List VType)
    → drop at types ≡ replicate (length types - at) Top
    → length types ≤ length slots
    → AreChanged flat types slots at locals
    → locals ≡ local_types_from flat types slots
changed_all flat types slots at locals tops many before =
    let one = length-drop at types in
    let other = length-drop at slots in
    let fits : length (drop at types) ≤ length (drop at slots) = omega (arith, one, other, many) in
    sym (take_drop locals at)
    ∙ ap (λ (list : List VType). take at locals ++ list) (before.left ∙ sym (same_tops flat (drop at types) (drop at slots) (length types - at) tops fits))
    ∙ before.done
