-- States where the depth of one object is changed.
use Rattle.std.proofs.Common.{◌≡◌, ◌==◌, ℕ, Bool, true, false, cond, List, map, Option, Some, None, is_some, IsTrue, refl, sym, ap, subst, ◌∙◌, inl, inr}
use Rattle.std.specs.List.{list_any}
use Rattle.std.specs.Option.{option_map, IsSomeAnd}
use Rattle.std.proofs.lemmas.Bool.{eq-eqb, ne_eqb}
use Rattle.std.proofs.lemmas.Option.{none-some, same_Some}
use Rattle.virtual_state.specs.Depths.{depth_of, object_with_depth, with_depth}
use Rattle.virtual_state.specs.Inner.Tables.{HasSet}
use Rattle.virtual_state.specs.States.{State, IsState, IsEdge, IsPath, one_edge, edge_and_path, IsReached, from_slot, from_field, object_of, is_present, is_unusable, names, sites_of, IsIncreasing}
use Rattle.virtual_state.specs.declared.slot.Slot.{Slot}
use Rattle.virtual_state.specs.declared.slot.VObject.{VObject}
use Rattle.virtual_state.specs.Laws.Objects.{same_or_not, some_or_none, found_site, same_objects, object_of-map, sites_of-map}

module _ (site : ℕ) (change : ℕ → ℕ) where
  abbrev redepth : VObject → VObject
  redepth = object_with_depth site change

  own_site : (object : VObject) → (redepth object).site ≡ object.site
  own_site object = elim (object.site == site) as (λ (b : Bool). (cond b (record object { depth = change object.depth }) object).site ≡ object.site) [ true ↦ refl | false ↦ refl ]

  own_fields : (object : VObject) → (redepth object).fields ≡ object.fields
  own_fields object = elim (object.site == site) as (λ (b : Bool). (cond b (record object { depth = change object.depth }) object).fields ≡ object.fields) [ true ↦ refl | false ↦ refl ]

  abbrev changed : List VObject → List VObject
  changed objects = map redepth objects

  pub redepth_found : (objects : List VObject) (other : ℕ) → object_of (map (object_with_depth site change) objects) other ≡ option_map (object_with_depth site change) (object_of objects other)
  redepth_found objects other = object_of-map redepth own_site objects other

  pub redepth_sites : (objects : List VObject) → sites_of (map (object_with_depth site change) objects) ≡ sites_of objects
  redepth_sites objects = sites_of-map redepth own_site objects

  record WasThere (objects : List VObject) (other : ℕ) (object : VObject) : Type 0 where
    before : VObject
    there : object_of objects other ≡ Some before
    is : object ≡ redepth before

  was_there : (objects : List VObject) (other : ℕ) (object : VObject) → object_of (changed objects) other ≡ Some object → WasThere objects other object
  was_there objects other object found =
      elim (some_or_none (object_of objects other)) [
        | inl there ↦ record { before = there.0; there = there.1; is = same_Some object (redepth there.0) (sym found ∙ redepth_found objects other ∙ ap (option_map redepth) there.1) }
        | inr none ↦ absurd (none-some object (sym (redepth_found objects other ∙ ap (option_map redepth) none) ∙ found))
      ]

  edge_there : (objects : List VObject) (from to : ℕ) → IsEdge (changed objects) from to → IsEdge objects from to
  edge_there objects from to edge =
      let was = was_there objects from edge.object edge.there in
      record { object = was.before; there = was.there; named = subst (λ (fields : List Slot). IsTrue (names fields to)) (ap (λ (object : VObject). object.fields) was.is ∙ own_fields was.before) edge.named }

  edge_still : (objects : List VObject) (from to : ℕ) → IsEdge objects from to → IsEdge (changed objects) from to
  edge_still objects from to edge = record {
    object = redepth edge.object;
    there = redepth_found objects from ∙ ap (option_map redepth) edge.there;
    named = subst (λ (fields : List Slot). IsTrue (names fields to)) (sym (own_fields edge.object)) edge.named;
  }

  path_there : (objects : List VObject) {from to : ℕ} → IsPath (changed objects) from to → IsPath objects from to
  path_there objects (one_edge from to edge) = one_edge from to (edge_there objects from to edge)
  path_there objects (edge_and_path from middle to edge path) = edge_and_path from middle to (edge_there objects from middle edge) (path_there objects path)

  reached_still : (slots : List Slot) (objects : List VObject) {other : ℕ} → IsReached slots objects other → IsReached slots (changed objects) other
  reached_still slots objects (from_slot other named) = from_slot other named
  reached_still slots objects (from_field from other reached edge) = from_field from other (reached_still slots objects reached) (edge_still objects from other edge)

  present_still : (objects : List VObject) (other : ℕ) → is_present (changed objects) other ≡ is_present objects other
  present_still objects other = ap is_some (redepth_found objects other) ∙ same (object_of objects other) where
    same : (object : Option VObject) → is_some (option_map redepth object) ≡ is_some object
    same None = refl
    same (Some object) = refl

  pub with_depth_is_state : (state : State) → IsState state → IsState (with_depth state site change)
  with_depth_is_state state is = record {
    order = subst IsIncreasing (sym (redepth_sites state.objects)) is.order;
    places = λ other named. present_still state.objects other ∙ is.places other named;
    fields = λ from to edge. present_still state.objects to ∙ is.fields from to (edge_there state.objects from to edge);
    reached = λ other present. reached_still state.slots state.objects (is.reached other (sym (present_still state.objects other) ∙ present));
    acyclic = λ other path. is.acyclic other (path_there state.objects path);
    usable = λ other object found.
        let was = was_there state.objects other object found in
        ap (λ (one : VObject). list_any is_unusable one.fields) was.is ∙ ap (list_any is_unusable) (own_fields was.before) ∙ is.usable other was.before was.there;
  }

-- an object of the site, and another one
pub redepth_here : (site : ℕ) (change : ℕ → ℕ) (object : VObject) → object.site ≡ site → object_with_depth site change object ≡ record object { depth = change object.depth }
redepth_here site change object same = ap (λ (b : Bool). cond b (record object { depth = change object.depth }) object) (eq-eqb object.site site same)

pub redepth_other : (site : ℕ) (change : ℕ → ℕ) (object : VObject) → ¬ (object.site ≡ site) → object_with_depth site change object ≡ object
redepth_other site change object differ = ap (λ (b : Bool). cond b (record object { depth = change object.depth }) object) (ne_eqb object.site site differ)

-- objects where that of a site was put again with another depth
pub put_is_redepth : (before after : List VObject) (object : VObject) (depth : ℕ) → IsIncreasing (sites_of before) → IsIncreasing (sites_of after) → object_of before object.site ≡ Some object → HasSet before after object.site (Some (record object { depth = depth })) → after ≡ map (object_with_depth object.site (λ _. depth)) before
put_is_redepth before after object depth first second there has =
    let site = object.site in
    let change : ℕ → ℕ = λ _. depth in
    same_objects after (map (object_with_depth site change) before) second (subst IsIncreasing (sym (redepth_sites site change before)) first) (λ other. elim (same_or_not other site) [
      | inl same ↦
          ap (object_of after) same
          ∙ has.here
          ∙ ap (λ (one : VObject). Some one) (sym (redepth_here site change object refl))
          ∙ sym (redepth_found site change before other ∙ ap (λ (n : ℕ). option_map (object_with_depth site change) (object_of before n)) same ∙ ap (option_map (object_with_depth site change)) there)
      | inr differ ↦
          has.others other differ
          ∙ elim (some_or_none (object_of before other)) [
            | inl found ↦
                found.1
                ∙ ap (λ (one : VObject). Some one) (sym (redepth_other site change found.0 (λ same. differ (sym (found_site before other found.0 found.1) ∙ same))))
                ∙ sym (redepth_found site change before other ∙ ap (option_map (object_with_depth site change)) found.1)
            | inr none ↦ none ∙ sym (redepth_found site change before other ∙ ap (option_map (object_with_depth site change)) none)
          ]
    ])

-- changes that agree on the depth of the site
pub redepth_agrees : (objects : List VObject) (object : VObject) (one other : ℕ → ℕ) → IsIncreasing (sites_of objects) → object_of objects object.site ≡ Some object → one object.depth ≡ other object.depth → map (object_with_depth object.site one) objects ≡ map (object_with_depth object.site other) objects
redepth_agrees objects object one other order there agree =
    let site = object.site in
    same_objects (map (object_with_depth site one) objects) (map (object_with_depth site other) objects) (subst IsIncreasing (sym (redepth_sites site one objects)) order) (subst IsIncreasing (sym (redepth_sites site other objects)) order) (λ at.
    redepth_found site one objects at
    ∙ elim (some_or_none (object_of objects at)) [
      | inl found ↦
          let own = found_site objects at found.0 found.1 in
          ap (option_map (object_with_depth site one)) found.1
          ∙ ap (λ (o : VObject). Some o) (elim (same_or_not found.0.site site) [
            | inl same ↦
                let is : found.0 ≡ object = same_Some found.0 object (sym (ap (object_of objects) (sym same ∙ own) ∙ found.1) ∙ there) in
                redepth_here site one found.0 same
                ∙ ap (λ (n : ℕ). record found.0 { depth = n }) (ap (λ (o : VObject). one o.depth) is ∙ agree ∙ ap (λ (o : VObject). other o.depth) (sym is))
                ∙ sym (redepth_here site other found.0 same)
            | inr differ ↦ redepth_other site one found.0 differ ∙ sym (redepth_other site other found.0 differ)
          ])
          ∙ sym (ap (option_map (object_with_depth site other)) found.1)
      | inr none ↦ ap (option_map (object_with_depth site one)) none ∙ sym (ap (option_map (object_with_depth site other)) none)
    ]
    ∙ sym (redepth_found site other objects at))

-- the depth of one object, and of its site
pub depth_moves : (state : State) (object : VObject) (site : ℕ) (change : ℕ → ℕ) → IsIncreasing (sites_of state.objects) → object_of state.objects site ≡ Some object → with_depth state object.site (λ _. change object.depth) ≡ with_depth state site change
depth_moves state object site change order found =
    let own = found_site state.objects site object found in
    let there = ap (object_of state.objects) own ∙ found in
    ap (λ (objects : List VObject). record state { objects = objects }) (redepth_agrees state.objects object (λ _. change object.depth) change order there refl)
    ∙ ap (λ (n : ℕ). with_depth state n change) own

-- an object that is there has a depth
pub no_depth : (state : State) (site : ℕ) (P : ℕ → Type 0) → object_of state.objects site ≡ None → ¬ IsSomeAnd (depth_of state site) P
no_depth state site P none some = subst (λ (object : Option VObject). IsSomeAnd (option_map (λ one. one.depth) object) P) none some

pub depth_there : (state : State) (site : ℕ) (P : ℕ → Type 0) (object : VObject) → object_of state.objects site ≡ Some object → IsSomeAnd (depth_of state site) P → P object.depth
depth_there state site P object found some = subst (λ (option : Option VObject). IsSomeAnd (option_map (λ one. one.depth) option) P) found some

-- the parts of a state with another depth
pub with_depth_parts : (state : State) (site depth : ℕ) (slots : List Slot) (objects : List VObject) → slots ≡ state.slots → objects ≡ map (object_with_depth site (λ _. depth)) state.objects
    → ◌≡◌ {A = State} (record { slots = slots; objects = objects }) (with_depth state site (λ _. depth))
with_depth_parts state site depth slots objects same changed = λ i. record { slots = same i; objects = changed i }
