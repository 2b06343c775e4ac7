-- The objects of a state from a site on.
use Rattle.std.proofs.Common.{◌≡◌, ◌+◌, ◌<◌, ◌≤◌, ℕ, Bool, false, cond, nat_le, List, [], ◌∷◌, Option, Some, None, is_some, IsFalse, refl, sym, ap, subst, ◌∙◌, inl, inr, arith}
use Rattle.std.specs.List.{AllByRecursion, filter}
use Rattle.std.proofs.lemmas.Bool.{cases_Bool, false_from_ne_true, le-leb, leb-true, true≢false}
use Rattle.std.proofs.lemmas.Option.{none-some, same_Some}
use Rattle.virtual_state.specs.Laws.Objects.{found_present, object_behind, object_first, present_found, same_or_not}
use Rattle.virtual_state.specs.Sites.{IsSiteFrom}
use Rattle.virtual_state.specs.States.{IsIncreasing, is_present, object_of, sites_of}
use Rattle.virtual_state.specs.declared.slot.VObject.{VObject}

-- those whose sites are this number or above it
abbrev pub objects_from : ℕ → List VObject → List VObject
objects_from low objects = filter (λ object. nat_le low object.site) objects

kept_first : (low : ℕ) (object : VObject) (objects : List VObject) → low ≤ object.site → objects_from low (object ∷ objects) ≡ object ∷ objects_from low objects
kept_first low object objects above =
    ap (λ (test : Bool). cond test (object ∷ objects_from low objects) (objects_from low objects)) (le-leb low object.site above)

lost_first : (low : ℕ) (object : VObject) (objects : List VObject) → object.site < low → objects_from low (object ∷ objects) ≡ objects_from low objects
lost_first low object objects below =
    ap (λ (test : Bool). cond test (object ∷ objects_from low objects) (objects_from low objects))
    (false_from_ne_true (nat_le low object.site) (λ is. let above = leb-true low object.site is in absurd (omega (arith, above, below))))

pub all_objects : (objects : List VObject) → objects_from 0 objects ≡ objects
all_objects [] = refl
all_objects (object ∷ objects) = kept_first 0 object objects (omega arith) ∙ ap (λ (others : List VObject). object ∷ others) (all_objects objects)

all_above : (low least : ℕ) (objects : List VObject) → low ≤ least + 1 → AllByRecursion (λ site. least < site) (sites_of objects) → objects_from low objects ≡ objects
all_above low least [] few all = refl
all_above low least (object ∷ objects) few all =
    let here = all.0 in
    kept_first low object objects (omega (arith, few, here)) ∙ ap (λ (others : List VObject). object ∷ others) (all_above low least objects few all.1)

found_above : (least : ℕ) (objects : List VObject) (site : ℕ) (object : VObject) → AllByRecursion (λ one. least < one) (sites_of objects) → object_of objects site ≡ Some object → least < site
found_above least [] site object all is = absurd (none-some object is)
found_above least (first ∷ objects) site object all is = elim (same_or_not first.site site) [
  | inl same ↦ subst (λ (n : ℕ). least < n) same all.0
  | inr differ ↦ found_above least objects site object all.1 (sym (object_behind first objects site differ) ∙ is)
]

pub next_object : (objects : List VObject) (low site : ℕ) (object : VObject)
    → IsIncreasing (sites_of objects)
    → object_of objects site ≡ Some object
    → low ≤ site
    → ((other : ℕ) → low ≤ other → other < site → IsFalse (is_present objects other))
    → objects_from low objects ≡ object ∷ objects_from (site + 1) objects
next_object [] low site object order is above none = absurd (none-some object is)
next_object (first ∷ objects) low site object order is above none = elim (same_or_not first.site site) [
  | inl same ↦
      let it : first ≡ object = same_Some first object (sym (object_first first objects site same) ∙ is) in
      kept_first low first objects (omega (arith, above, same))
      ∙ ap (λ (others : List VObject). first ∷ others)
      (all_above low first.site objects (omega (arith, above, same)) order.0
      ∙ sym (all_above (site + 1) first.site objects (omega (arith, same)) order.0)
      ∙ sym (lost_first (site + 1) first objects (omega (arith, same))))
      ∙ ap (λ (one : VObject). one ∷ objects_from (site + 1) (first ∷ objects)) it
  | inr differ ↦
      let behind = sym (object_behind first objects site differ) ∙ is in
      let less = found_above first.site objects site object order.0 behind in
      let passed : first.site < low = elim (cases_Bool (nat_le low first.site)) [
        | inl is_above ↦
            let here = present_found (first ∷ objects) first.site first (object_first first objects first.site refl) in
            absurd (true≢false (sym here ∙ none first.site (leb-true low first.site is_above) less))
        | inr not_above ↦ not_le low first.site not_above
      ] in
      lost_first low first objects passed
      ∙ next_object objects low site object order.1 behind above
      (λ other from to. elim (same_or_not first.site other) [
        | inl same ↦ absurd (omega (arith, same, from, passed))
        | inr apart ↦ sym (ap (λ (found : Option VObject). is_some found) (object_behind first objects other apart)) ∙ none other from to
      ])
      ∙ ap (λ (others : List VObject). object ∷ others) (sym (lost_first (site + 1) first objects (omega (arith, less))))
] where
  not_le : (a b : ℕ) → nat_le a b ≡ false → b < a
  not_le a b is = grind (arith, is)

pub no_object : (objects : List VObject) (low : ℕ)
    → ((other : ℕ) → low ≤ other → IsFalse (is_present objects other))
    → IsIncreasing (sites_of objects)
    → objects_from low objects ≡ []
no_object [] low none order = refl
no_object (first ∷ objects) low none order =
    let here = present_found (first ∷ objects) first.site first (object_first first objects first.site refl) in
    let passed : first.site < low = elim (cases_Bool (nat_le low first.site)) [
      | inl is_above ↦ absurd (true≢false (sym here ∙ none first.site (leb-true low first.site is_above)))
      | inr not_above ↦ not_le low first.site not_above
    ] in
    lost_first low first objects passed
    ∙ no_object objects low
    (λ other from. elim (same_or_not first.site other) [
      | inl same ↦ absurd (omega (arith, same, from, passed))
      | inr apart ↦ sym (ap (λ (found : Option VObject). is_some found) (object_behind first objects other apart)) ∙ none other from
    ]) order.1
  where
    not_le : (a b : ℕ) → nat_le a b ≡ false → b < a
    not_le a b is = grind (arith, is)

-- the object of the lowest site from a number on, and those above it
pub record FirstFrom (objects : List VObject) (low site : ℕ) : Type 0 where
  pub object : VObject
  pub there : object_of objects site ≡ Some object
  pub is : objects_from low objects ≡ object ∷ objects_from (site + 1) objects

pub first_from : (objects : List VObject) (low site : ℕ)
    → IsIncreasing (sites_of objects)
    → IsSiteFrom objects low (Some site)
    → FirstFrom objects low site
first_from objects low site order is =
    let found = found_present objects site is.1 in
    record { object = found.0; there = found.1; is = next_object objects low site found.0 order found.1 is.0 is.2 }

pub none_from : (objects : List VObject) (low : ℕ) → IsIncreasing (sites_of objects) → IsSiteFrom objects low None → objects_from low objects ≡ []
none_from objects low order is = no_object objects low is order
