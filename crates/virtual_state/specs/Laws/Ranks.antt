-- Slots and objects of which each field names a greater site make a state: a test that computes at literals.
use Rattle.std.proofs.Common.{◌≡◌, ◌==◌, ◌&&◌, ◌<◌, ℕ, Bool, true, false, List, [], ◌∷◌, Some, nat_lt, IsTrue, refl, sym, subst, ◌∙◌, inl, inr, arith}
use Rattle.std.specs.List.{list_all, list_any}
use Rattle.std.proofs.lemmas.Bool.{and_parts, or_cases, eqb-true, ltb-true, false≢true}
use Rattle.std.proofs.lemmas.Option.{none-some, same_Some}
use Rattle.virtual_state.specs.Making.{CanBeState}
use Rattle.virtual_state.specs.States.{IsEdge, IsPath, one_edge, edge_and_path, object_of, is_present, is_unusable, names}
use Rattle.virtual_state.specs.declared.slot.Slot.{Slot}
use Rattle.virtual_state.specs.declared.slot.Slot.TheVariants.{Plain, Virt, Unusable}
use Rattle.virtual_state.specs.declared.slot.VObject.{VObject}
use Rattle.virtual_state.specs.Laws.Objects.{same_or_not, object_first, object_behind, found_site}

-- a slot holds nothing, or an object that is there
abbrev pub is_held : List VObject → Slot → Bool
is_held objects Plain = true
is_held objects (Virt site) = is_present objects site
is_held objects Unusable = true

-- a field holds nothing, or an object of a greater site that is there
abbrev pub is_ranked_field : List VObject → ℕ → Slot → Bool
is_ranked_field objects low Plain = true
is_ranked_field objects low (Virt site) = nat_lt low site && is_present objects site
is_ranked_field objects low Unusable = false

abbrev pub is_ranked : List Slot → List VObject → Bool
is_ranked slots objects = list_all (is_held objects) slots && list_all (λ object. list_all (is_ranked_field objects object.site) object.fields) objects

-- what holds of all holds of what is found
found_passes :
    (test : VObject → Bool) (objects : List VObject) (site : ℕ) (object : VObject)
    → list_all test objects ≡ true
    → object_of objects site ≡ Some object
    → test object ≡ true
found_passes test [] site object all is = absurd (none-some object is)
found_passes test (first ∷ objects) site object all is =
    let parts = and_parts (test first) (list_all test objects) all in
    elim (same_or_not first.site site) [
      | inl same ↦ subst (λ (one : VObject). test one ≡ true) (same_Some first object (sym (object_first first objects site same) ∙ is)) parts.0
      | inr differ ↦ found_passes test objects site object parts.1 (sym (object_behind first objects site differ) ∙ is)
    ]

held_there :
    (objects : List VObject) (slots : List Slot) (site : ℕ)
    → list_all (is_held objects) slots ≡ true
    → IsTrue (names slots site)
    → IsTrue (is_present objects site)
held_there objects [] site all named = absurd (false≢true named)
held_there objects (Plain ∷ slots) site all named = held_there objects slots site all named
held_there objects (Unusable ∷ slots) site all named = held_there objects slots site all named
held_there objects (Virt one ∷ slots) site all named =
    let parts = and_parts (is_present objects one) (list_all (is_held objects) slots) all in
    elim (or_cases (one == site) (names slots site) named) [
      | inl same ↦ subst (λ (n : ℕ). IsTrue (is_present objects n)) (eqb-true one site same) parts.0
      | inr behind ↦ held_there objects slots site parts.1 behind
    ]

field_greater :
    (objects : List VObject) (low : ℕ) (fields : List Slot) (site : ℕ)
    → list_all (is_ranked_field objects low) fields ≡ true
    → IsTrue (names fields site)
    → (low < site) × IsTrue (is_present objects site)
field_greater objects low [] site all named = absurd (false≢true named)
field_greater objects low (Plain ∷ fields) site all named = field_greater objects low fields site all named
field_greater objects low (Unusable ∷ fields) site all named = absurd (false≢true all)
field_greater objects low (Virt one ∷ fields) site all named =
    let parts = and_parts (nat_lt low one && is_present objects one) (list_all (is_ranked_field objects low) fields) all in
    let here = and_parts (nat_lt low one) (is_present objects one) parts.0 in
    elim (or_cases (one == site) (names fields site) named) [
      | inl same ↦ subst (λ (n : ℕ). (low < n) × IsTrue (is_present objects n)) (eqb-true one site same) (ltb-true low one here.0, here.1)
      | inr behind ↦ field_greater objects low fields site parts.1 behind
    ]

fields_usable :
    (objects : List VObject) (low : ℕ) (fields : List Slot)
    → list_all (is_ranked_field objects low) fields ≡ true
    → list_any is_unusable fields ≡ false
fields_usable objects low [] all = refl
fields_usable objects low (Plain ∷ fields) all = fields_usable objects low fields all
fields_usable objects low (Unusable ∷ fields) all = absurd (false≢true all)
fields_usable objects low (Virt one ∷ fields) all = fields_usable objects low fields (and_parts (nat_lt low one && is_present objects one) (list_all (is_ranked_field objects low) fields) all).1

edge_rises :
    (slots : List Slot) (objects : List VObject)
    → is_ranked slots objects ≡ true
    → (from to : ℕ)
    → IsEdge objects from to
    → (from < to) × IsTrue (is_present objects to)
edge_rises slots objects ranked from to edge =
    let all = (and_parts (list_all (is_held objects) slots) (list_all (λ object. list_all (is_ranked_field objects object.site) object.fields) objects) ranked).1 in
    let fields = found_passes (λ object. list_all (is_ranked_field objects object.site) object.fields) objects from edge.object all edge.there in
    let own = found_site objects from edge.object edge.there in
    subst (λ (n : ℕ). (n < to) × IsTrue (is_present objects to)) own (field_greater objects edge.object.site edge.object.fields to fields edge.named)

path_rises :
    (slots : List Slot) (objects : List VObject)
    → is_ranked slots objects ≡ true
    → {from to : ℕ}
    → IsPath objects from to
    → from < to
path_rises slots objects ranked (one_edge from to edge) = (edge_rises slots objects ranked from to edge).0
path_rises slots objects ranked (edge_and_path from middle to edge path) =
    let first = (edge_rises slots objects ranked from middle edge).0 in
    let rest = path_rises slots objects ranked path in
    omega arith

pub ranked_can_be :
    (slots : List Slot) (objects : List VObject)
    → is_ranked slots objects ≡ true
    → CanBeState slots objects
ranked_can_be slots objects ranked =
    let parts = and_parts (list_all (is_held objects) slots) (list_all (λ object. list_all (is_ranked_field objects object.site) object.fields) objects) ranked in
    record {
      places = λ site named. held_there objects slots site parts.0 named;
      fields = λ from to edge. (edge_rises slots objects ranked from to edge).1;
      acyclic = λ site path. let less = path_rises slots objects ranked path in omega arith;
      usable = λ site object there. fields_usable objects object.site object.fields (found_passes (λ one. list_all (is_ranked_field objects one.site) one.fields) objects site object parts.1 there);
    }
