-- The types of written code: those of flat code, read, where a place is plain, by the numbers of items.
use Rattle.std.proofs.Common.{◌≡◌, suc, List, [], ◌∷◌, ◌++◌, length, map, refl, ap, ◌∙◌}
use Rattle.std.specs.List.{AllByRecursion}
use Rattle.std.proofs.lemmas.List.{map-append}
use Rattle.class_model.specs.declared.frame.VType.{VType}
use Rattle.class_model.specs.declared.frame.VType.TheVariants as types
use Rattle.class_tree.specs.Headers.{Headers}
use Rattle.member_link.specs.Assignability.{IsAssignable, from_null, of_names, to_same, to_top}
use Rattle.plan_flow.specs.Written.FramedCode.{type_by_item}
use Rattle.virtual_state.specs.declared.slot.Slot.{Slot}
use Rattle.virtual_state.specs.declared.slot.Slot.TheVariants.{Plain, Virt, Unusable}
use Rattle.written_types.proofs.Given.{entries_in, entries_with, locals_in}
use Rattle.written_types.specs.Writing.{Writing}

-- a type by the number of an item
abbrev pub by_item : Writing → VType → VType
by_item w type = type_by_item w.form w.blocks type

-- local units and stack entries as they are written where slots are these
abbrev pub own_types : Writing → List VType → List Slot → List VType
own_types w all slots = map (by_item w) (locals_in all slots)

abbrev pub entry_types : Writing → List VType → List Slot → List VType
entry_types w all slots = map (by_item w) (entries_in all slots)

-- ---- entries

same_tails : {A B : Type 0} (ones : List A) (others : List B) → suc (length ones) ≡ suc (length others) → length ones ≡ length others
same_tails ones others e = cc

entries_joined : (ones others : List VType) (fronts backs : List Slot) → length ones ≡ length fronts
    → entries_in (ones ++ others) (fronts ++ backs) ≡ entries_in ones fronts ++ entries_in others backs
entries_joined [] others [] backs long = refl
entries_joined [] others (slot ∷ fronts) backs long = absurd cc
entries_joined (one ∷ ones) others [] backs long = absurd cc
entries_joined (one ∷ ones) others (Plain ∷ fronts) backs long =
    ap (λ (rest : List VType). one ∷ rest) (entries_joined ones others fronts backs (same_tails _ _ long))
entries_joined (one ∷ ones) others (Virt site ∷ fronts) backs long = entries_joined ones others fronts backs (same_tails _ _ long)
entries_joined (one ∷ ones) others (Unusable ∷ fronts) backs long = entries_joined ones others fronts backs (same_tails _ _ long)

abbrev pub ArePlain : List Slot → Type 0
ArePlain slots = AllByRecursion (λ slot. slot ≡ Plain) slots

entries_plain : (ones : List VType) (slots : List Slot) → length ones ≡ length slots → ArePlain slots → entries_in ones slots ≡ ones
entries_plain [] [] long plain = refl
entries_plain [] (slot ∷ slots) long plain = absurd cc
entries_plain (one ∷ ones) [] long plain = absurd cc
entries_plain (one ∷ ones) (slot ∷ slots) long plain =
    ap (λ (found : Slot). entries_with found one (entries_in ones slots)) plain.0
    ∙ ap (λ (rest : List VType). one ∷ rest) (entries_plain ones slots (same_tails _ _ long) plain.1)

-- the same by items
pub written_joined : (w : Writing) (ones others : List VType) (fronts backs : List Slot) → length ones ≡ length fronts
    → entry_types w (ones ++ others) (fronts ++ backs) ≡ entry_types w ones fronts ++ entry_types w others backs
written_joined w ones others fronts backs long =
    ap (map (by_item w)) (entries_joined ones others fronts backs long)
    ∙ map-append (by_item w) (entries_in ones fronts) (entries_in others backs)

pub written_plain : (w : Writing) (ones : List VType) (slots : List Slot) → length ones ≡ length slots → ArePlain slots
    → entry_types w ones slots ≡ map (by_item w) ones
written_plain w ones slots long plain = ap (map (by_item w)) (entries_plain ones slots long plain)

-- ---- types that are named neither by points nor by items

abbrev pub IsSteady : VType → Type 0
IsSteady (types.Uninit at) = ⊥
IsSteady type = Unit {0}

pub steady_item : (w : Writing) (type : VType) → IsSteady type → by_item w type ≡ type
steady_item w (types.Uninit at) steady = absurd steady
steady_item w types.Top steady = refl
steady_item w types.Int steady = refl
steady_item w types.Float steady = refl
steady_item w types.Long steady = refl
steady_item w types.Double steady = refl
steady_item w types.Null steady = refl
steady_item w types.UninitThis steady = refl
steady_item w (types.Object name) steady = refl

pub all_steady : (w : Writing) (all : List VType) → AllByRecursion IsSteady all → map (by_item w) all ≡ all
all_steady w [] steady = refl
all_steady w (type ∷ all) steady = λ i. steady_item w type steady.0 i ∷ all_steady w all steady.1 i

-- what is Top by its item's number is Top
pub item_top : (w : Writing) (type : VType) → by_item w type ≡ types.Top → type ≡ types.Top
item_top w (types.Uninit at) is = absurd cc
item_top w types.Top is = is
item_top w types.Int is = is
item_top w types.Float is = is
item_top w types.Long is = is
item_top w types.Double is = is
item_top w types.Null is = is
item_top w types.UninitThis is = is
item_top w (types.Object name) is = is

-- assignability stays
pub item_assignable : (w : Writing) {headers : Headers} {low high : VType} → IsAssignable headers low high
    → IsAssignable headers (by_item w low) (by_item w high)
item_assignable w (to_same type) = to_same (by_item w type)
item_assignable w (to_top type) = to_top (by_item w type)
item_assignable w (from_null name) = from_null name
item_assignable w (of_names low high names) = of_names low high names
