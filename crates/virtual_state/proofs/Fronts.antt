-- Slots that are unusable to the end.
use Rattle.std.proofs.Common.{◌≡◌, ◌||◌, ◌<◌, ◌≤◌, ◌++◌, ℕ, zero, suc, Bool, true, false, List, [], ◌∷◌, map, replicate, None, refl, sym, ap, ◌∙◌, inl, inr}
use Rattle.std.specs.List.{filter, list_any}
use Rattle.std.proofs.lemmas.Bool.{cases_lt}
use Rattle.std.proofs.lemmas.List.{append-nil, map-append}
use Rattle.std.proofs.lemmas.List.Elements.{filter-append}
use Rattle.std.proofs.lemmas.List.Folds.{list_any-append}
use Rattle.virtual_state.specs.Inner.Filling.{if_among, is_away, of_sites}
use Rattle.virtual_state.specs.Inner.Listed.{holds_object}
use Rattle.virtual_state.specs.Inner.Marks.{HasMarked}
use Rattle.virtual_state.specs.Laws.Objects.{filter_in_order, same_objects}
use Rattle.virtual_state.specs.Sites.{has}
use Rattle.virtual_state.specs.States.{IsIncreasing, is_virtual, names, object_of, sites_of}
use Rattle.virtual_state.specs.Without.{made_plain}
use Rattle.virtual_state.specs.declared.slot.Slot.{Slot}
use Rattle.virtual_state.specs.declared.slot.Slot.TheVariants.{Plain, Virt, Unusable}
use Rattle.virtual_state.specs.declared.slot.VObject.{VObject}
use Rattle.virtual_state.proofs.Filling.{among_found, among_past}

or_none : (b : Bool) → (b || false) ≡ b
or_none true = refl
or_none false = refl

-- a test that no unusable slot passes
none_unusable : (test : Slot → Bool) → test Unusable ≡ false → (count : ℕ) → list_any test (replicate count Unusable) ≡ false
none_unusable test fails zero = refl
none_unusable test fails (suc count) = (λ i. fails i || list_any test (replicate count Unusable)) ∙ none_unusable test fails count

any_listed : (test : Slot → Bool) → test Unusable ≡ false → (listed : List Slot) (count : ℕ) → list_any test (listed ++ replicate count Unusable) ≡ list_any test listed
any_listed test fails listed count =
    list_any-append test listed (replicate count Unusable)
    ∙ ap (λ (b : Bool). list_any test listed || b) (none_unusable test fails count)
    ∙ or_none (list_any test listed)

pub away_listed : (away : ℕ → Bool) (front listed : List Slot) (count : ℕ) → front ≡ listed ++ replicate count Unusable → list_any (is_away away) front ≡ list_any (is_away away) listed
away_listed away front listed count is = ap (list_any (is_away away)) is ∙ any_listed (is_away away) refl listed count

none_held : (count : ℕ) → filter holds_object (replicate count Unusable) ≡ []
none_held zero = refl
none_held (suc count) = none_held count

-- what front slots hold is what the listed ones do
pub held_listed : (front listed : List Slot) (count : ℕ) → front ≡ listed ++ replicate count Unusable → filter holds_object front ≡ filter holds_object listed
held_listed front listed count is =
    ap (filter holds_object) is
    ∙ filter-append holds_object listed (replicate count Unusable)
    ∙ ap (λ (slots : List Slot). filter holds_object listed ++ slots) (none_held count)
    ∙ append-nil (filter holds_object listed)

names_held : (slots : List Slot) (site : ℕ) → names (filter holds_object slots) site ≡ names slots site
names_held [] site = refl
names_held (Plain ∷ slots) site = names_held slots site
names_held (Virt one ∷ slots) site = ap (λ (b : Bool). is_virtual site (Virt one) || b) (names_held slots site)
names_held (Unusable ∷ slots) site = names_held slots site

unusable_made : (away : ℕ → Bool) (count : ℕ) → map (made_plain away) (replicate count Unusable) ≡ replicate count Unusable
unusable_made away zero = refl
unusable_made away (suc count) = ap (λ (slots : List Slot). Unusable ∷ slots) (unusable_made away count)

pub made_front : (away : ℕ → Bool) (front listed : List Slot) (count : ℕ) → front ≡ listed ++ replicate count Unusable → map (made_plain away) front ≡ map (made_plain away) listed ++ replicate count Unusable
made_front away front listed count is =
    ap (map (made_plain away)) is
    ∙ map-append (made_plain away) listed (replicate count Unusable)
    ∙ ap (λ (slots : List Slot). map (made_plain away) listed ++ slots) (unusable_made away count)

-- the sites of both parts of slots were marked
pub both_marked :
    (front back held : List Slot) (none first second : List ℕ)
    → none ≡ []
    → held ≡ filter holds_object front
    → HasMarked none first (names held)
    → HasMarked first second (names back)
    → HasMarked [] second (names (front ++ back))
both_marked front back held none first second empty is one other = record {
  kept = refl;
  marked = λ site.
      other.marked site
      ∙ ap (λ (b : Bool). b || names back site) (one.marked site ∙ ap (λ (sites : List ℕ). has sites site || names held site) empty ∙ ap (λ (slots : List Slot). names slots site) is ∙ names_held front site)
      ∙ sym (list_any-append (is_virtual site) front back);
}

-- ---- objects that are all among some sites

pub all_among :
    (test : ℕ → Bool) (objects : List VObject) (end : ℕ)
    → IsIncreasing (sites_of objects)
    → ((site : ℕ) → end ≤ site → object_of objects site ≡ None)
    → ((site : ℕ) → site < end → if_among test (object_of objects site) ≡ object_of objects site)
    → of_sites test objects ≡ objects
all_among test objects end order past all = same_objects (of_sites test objects) objects (filter_in_order test objects order) order (λ site. elim (cases_lt site end) [
  | inl less ↦ among_found test objects site ∙ all site less
  | inr more ↦ among_past test objects site (past site more) ∙ sym (past site more)
])
