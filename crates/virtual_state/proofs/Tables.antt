-- Objects that stand at the indices of their sites: looked up among those that are listed, and in order.
use Rattle.std.proofs.Common.{◌≡◌, ◌≢◌, ◌⊎◌, ◌==◌, ℕ, zero, suc, ◌+◌, ◌<◌, Bool, cond, List, [], ◌∷◌, ◌++◌, length, set, Option, Some, None, refl, sym, ap, ◌∙◌, inl, inr, arith}
use Rattle.std.specs.List.{AllByRecursion}
use Rattle.std.proofs.lemmas.Bool.{cases_Bool, eq-eqb, eqb-true, ne_eqb, eqb-false}
use Rattle.virtual_state.specs.States.{object_of, sites_of, IsIncreasing}
use Rattle.virtual_state.specs.Inner.Tables.{listed, entry_at, ArePlacedFrom, HaveSameEntries, HasSetEntry, HasSet}
use Rattle.virtual_state.specs.declared.slot.VObject.{VObject}

pub same_or_not : (one other : ℕ) → (one ≡ other) ⊎ (one ≢ other)
same_or_not one other = elim (cases_Bool (one == other)) [ inl same ↦ inl (eqb-true one other same) | inr differ ↦ inr (eqb-false one other differ) ]

-- ---- the objects behind the first entry

placed_behind : (first : ℕ) (entry : Option VObject) (entries : List (Option VObject)) → ArePlacedFrom first (entry ∷ entries) → ArePlacedFrom (first + 1) entries
placed_behind first entry entries placed = record { each = λ at object is. let e = placed.each (suc at) object is in omega arith }

-- a look-up where the first object is another one's
pub object_behind : (object : VObject) (objects : List VObject) (site : ℕ) → object.site ≢ site → object_of (object ∷ objects) site ≡ object_of objects site
object_behind object objects site differ = ap (λ (test : Bool). cond test (Some object) (object_of objects site)) (ne_eqb object.site site differ)

-- a look-up where the first object is of this site
pub object_first : (object : VObject) (objects : List VObject) (site : ℕ) → object.site ≡ site → object_of (object ∷ objects) site ≡ Some object
object_first object objects site same = ap (λ (test : Bool). cond test (Some object) (object_of objects site)) (eq-eqb object.site site same)

-- no object before the first site
pub none_before : (first : ℕ) (entries : List (Option VObject)) (site : ℕ) → ArePlacedFrom first entries → site < first → object_of (listed entries) site ≡ None
none_before first [] site placed low = refl
none_before first (None ∷ entries) site placed low = none_before (first + 1) entries site (placed_behind first None entries placed) (omega arith)
none_before first (Some object ∷ entries) site placed low =
    let is : object.site ≡ first + 0 = placed.each 0 object refl in
    object_behind object (listed entries) site (λ same. absurd (omega arith)) ∙ none_before (first + 1) entries site (placed_behind first (Some object) entries placed) (omega arith)

-- an object is found at its index
pub found_at_index : (first : ℕ) (entries : List (Option VObject)) (at : ℕ) → ArePlacedFrom first entries → object_of (listed entries) (first + at) ≡ entry_at entries at
found_at_index first [] at placed = refl
found_at_index first (None ∷ entries) zero placed = none_before (first + 1) entries (first + 0) (placed_behind first None entries placed) (omega arith)
found_at_index first (None ∷ entries) (suc at) placed =
    let shift : first + suc at ≡ first + 1 + at = omega arith in
    ap (object_of (listed entries)) shift ∙ found_at_index (first + 1) entries at (placed_behind first None entries placed)
found_at_index first (Some object ∷ entries) zero placed = object_first object (listed entries) (first + 0) (placed.each 0 object refl)
found_at_index first (Some object ∷ entries) (suc at) placed =
    let is : object.site ≡ first + 0 = placed.each 0 object refl in
    let shift : first + suc at ≡ first + 1 + at = omega arith in
    object_behind object (listed entries) (first + suc at) (λ same. absurd (omega arith)) ∙ ap (object_of (listed entries)) shift ∙ found_at_index (first + 1) entries at (placed_behind first (Some object) entries placed)

-- the same, counted from 0
pub found_at : (entries : List (Option VObject)) (site : ℕ) → ArePlacedFrom 0 entries → object_of (listed entries) site ≡ entry_at entries site
found_at entries site placed =
    let shift : site ≡ 0 + site = omega arith in
    ap (object_of (listed entries)) shift ∙ found_at_index 0 entries site placed

-- ---- order

all_above : (low first : ℕ) (entries : List (Option VObject)) → ArePlacedFrom first entries → low < first → AllByRecursion (λ other. low < other) (sites_of (listed entries))
all_above low first [] placed below = tt
all_above low first (None ∷ entries) placed below = all_above low (first + 1) entries (placed_behind first None entries placed) (omega arith)
all_above low first (Some object ∷ entries) placed below =
    let is : object.site ≡ first + 0 = placed.each 0 object refl in
    (omega arith, all_above low (first + 1) entries (placed_behind first (Some object) entries placed) (omega arith))

pub listed_in_order : (first : ℕ) (entries : List (Option VObject)) → ArePlacedFrom first entries → IsIncreasing (sites_of (listed entries))
listed_in_order first [] placed = tt
listed_in_order first (None ∷ entries) placed = listed_in_order (first + 1) entries (placed_behind first None entries placed)
listed_in_order first (Some object ∷ entries) placed =
    let is : object.site ≡ first + 0 = placed.each 0 object refl in
    (all_above object.site (first + 1) entries (placed_behind first (Some object) entries placed) (omega arith), listed_in_order (first + 1) entries (placed_behind first (Some object) entries placed))

-- ---- entries that change

pub empty_behind : (entries : List (Option VObject)) → HaveSameEntries entries (entries ++ None ∷ [])
empty_behind entries = record { each = same entries } where
  same : (entries : List (Option VObject)) (at : ℕ) → entry_at (entries ++ None ∷ []) at ≡ entry_at entries at
  same [] zero = refl
  same [] (suc at) = refl
  same (entry ∷ entries) zero = refl
  same (entry ∷ entries) (suc at) = same entries at

pub same_entries : {one two three : List (Option VObject)} → HaveSameEntries one two → HaveSameEntries two three → HaveSameEntries one three
same_entries first second = record { each = λ at. second.each at ∙ first.each at }

pub set_entry_at : (entries : List (Option VObject)) (at : ℕ) (entry : Option VObject) → at < length entries → HasSetEntry entries (set entries at entry) at entry
set_entry_at entries at entry within = record { here = here entries at within; others = others entries at } where
  here : (entries : List (Option VObject)) (at : ℕ) → at < length entries → entry_at (set entries at entry) at ≡ entry
  here [] at within = absurd (omega arith)
  here (first ∷ entries) zero within = refl
  here (first ∷ entries) (suc at) within = here entries at (omega arith)

  others : (entries : List (Option VObject)) (at other : ℕ) → other ≢ at → entry_at (set entries at entry) other ≡ entry_at entries other
  others [] at other differ = refl
  others (first ∷ entries) zero zero differ = absurd (differ refl)
  others (first ∷ entries) zero (suc other) differ = refl
  others (first ∷ entries) (suc at) zero differ = refl
  others (first ∷ entries) (suc at) (suc other) differ = others entries at other (λ same. differ (ap suc same))

-- the objects stay in their places
pub placed_same : {before after : List (Option VObject)} → HaveSameEntries before after → ArePlacedFrom 0 before → ArePlacedFrom 0 after
placed_same same placed = record { each = λ at object is. placed.each at object (sym (same.each at) ∙ is) }

pub listed_same : {before after : List (Option VObject)} → HaveSameEntries before after → ArePlacedFrom 0 before → (site : ℕ) → object_of (listed after) site ≡ object_of (listed before) site
listed_same {before} {after} same placed site = found_at after site (placed_same same placed) ∙ same.each site ∙ sym (found_at before site placed)

-- an object is put where objects of its site stand, or taken out
pub placed_set : {before after : List (Option VObject)} {site : ℕ} {entry : Option VObject} → HasSetEntry before after site entry → ((object : VObject) → entry ≡ Some object → object.site ≡ site) → ArePlacedFrom 0 before → ArePlacedFrom 0 after
placed_set {before} {after} {site} {entry} has own placed = record {
  each = λ at object is. elim (same_or_not at site) [
    | inl same ↦ own object (sym has.here ∙ ap (entry_at after) (sym same) ∙ is) ∙ sym same ∙ omega arith
    | inr differ ↦ placed.each at object (sym (has.others at differ) ∙ is)
  ];
}

pub set_listed : {before after : List (Option VObject)} {site : ℕ} {entry : Option VObject} → HasSetEntry before after site entry → ((object : VObject) → entry ≡ Some object → object.site ≡ site) → ArePlacedFrom 0 before → HasSet (listed before) (listed after) site entry
set_listed {before} {after} {site} {entry} has own placed =
    let behind = placed_set has own placed in
    record {
      here = found_at after site behind ∙ has.here;
      others = λ other differ. found_at after other behind ∙ has.others other differ ∙ sym (found_at before other placed);
    }

-- the same behind entries that grew
pub set_listed_behind : {before grown after : List (Option VObject)} {site : ℕ} {entry : Option VObject} → HaveSameEntries before grown → HasSetEntry grown after site entry → ((object : VObject) → entry ≡ Some object → object.site ≡ site) → ArePlacedFrom 0 before → HasSet (listed before) (listed after) site entry
set_listed_behind same has own placed =
    let told = set_listed has own (placed_same same placed) in
    record { here = told.here; others = λ other differ. told.others other differ ∙ listed_same same placed other }
