-- States without some of their sites: what is found there, and that they are states.
use Rattle.std.proofs.Common.{◌≡◌, ℕ, ◌<◌, ◌≤◌, Bool, false, cond, not, ◌||◌, List, [], ◌∷◌, map, length, Some, None, is_some, IsTrue, IsFalse, refl, sym, ap, subst, ◌∙◌, inl, inr, arith}
use Rattle.std.specs.List.{list_any}
use Rattle.std.specs.Option.{option_map}
use Rattle.std.proofs.lemmas.Bool.{cases_Bool, not_from_true, not_from_false, false≢true, both_ways, or_left, or_right}
use Rattle.std.proofs.lemmas.Option.{none-some, same_Some}
use Rattle.virtual_state.specs.States.{State, IsState, IsEdge, IsPath, one_edge, edge_and_path, IsReached, from_slot, from_field, object_of, is_present, is_unusable, names, sites_of, IsIncreasing}
use Rattle.virtual_state.specs.Without.{IsClosed, object_without, objects_without, without}
use Rattle.virtual_state.specs.declared.slot.Slot.{Slot}
use Rattle.virtual_state.specs.declared.slot.VObject.{VObject}
use Rattle.virtual_state.specs.Laws.Objects.{some_or_none, found_present, present_found, same_objects, object_behind, object_of-map, object_of-filter, sites_of-map, of_sites, filter_first, filter_behind, filter_in_order}
use Rattle.virtual_state.specs.Laws.Fields.{made, named_before, named_behind, made_same, made_none, made_twice, usable_made}

-- the sites that stay
abbrev pub stay : (ℕ → Bool) → ℕ → Bool
stay away site = not (away site)

-- ---- look-ups

pub object_of-without :
    (away : ℕ → Bool) (objects : List VObject) (site : ℕ)
    → object_of (objects_without away objects) site
    ≡ option_map (object_without away) (cond (not (away site)) (object_of objects site) None)
object_of-without away objects site =
    object_of-map (object_without away) (λ object. refl) (of_sites (stay away) objects) site
    ∙ ap (option_map (object_without away)) (object_of-filter (stay away) objects site)

-- a site that is away has no object
pub gone :
    (away : ℕ → Bool) (objects : List VObject) (site : ℕ)
    → IsTrue (away site)
    → object_of (objects_without away objects) site ≡ None
gone away objects site is_away =
    object_of-without away objects site
    ∙ ap (λ (b : Bool). option_map (object_without away) (cond b (object_of objects site) None)) (not_from_true (away site) is_away)

-- another one has its object, where those that are away are made
pub stays :
    (away : ℕ → Bool) (objects : List VObject) (site : ℕ)
    → IsFalse (away site)
    → object_of (objects_without away objects) site
    ≡ option_map (object_without away) (object_of objects site)
stays away objects site not_away =
    object_of-without away objects site
    ∙ ap (λ (b : Bool). option_map (object_without away) (cond b (object_of objects site) None)) (not_from_false (away site) not_away)

-- what is found was found before, and stays
pub record WasFound (away : ℕ → Bool) (objects : List VObject) (site : ℕ) (object : VObject)
    : Type 0 where
  pub before : VObject
  pub there : object_of objects site ≡ Some before
  pub not_away : away site ≡ false
  pub is : object ≡ object_without away before

pub was_found :
    (away : ℕ → Bool) (objects : List VObject) (site : ℕ) (object : VObject)
    → object_of (objects_without away objects) site ≡ Some object
    → WasFound away objects site object
was_found away objects site object found =
    elim (cases_Bool (away site)) [
      | inl is_away ↦ absurd (none-some object (sym (gone away objects site is_away) ∙ found))
      | inr not_away ↦ elim (some_or_none (object_of objects site)) [
        | inl there ↦ record {
          before = there.0;
          there = there.1;
          not_away = not_away;
          is = same_Some object (object_without away there.0) (sym found ∙ stays away objects site not_away ∙ ap (option_map (object_without away)) there.1);
        }
        | inr none ↦ absurd (none-some object (sym (stays away objects site not_away ∙ ap (option_map (object_without away)) none) ∙ found))
      ]
    ]

pub still_found :
    (away : ℕ → Bool) (objects : List VObject) (site : ℕ) (object : VObject)
    → object_of objects site ≡ Some object
    → IsFalse (away site)
    → object_of (objects_without away objects) site ≡ Some (object_without away object)
still_found away objects site object there not_away = stays away objects site not_away ∙ ap (option_map (object_without away)) there

pub present_before :
    (away : ℕ → Bool) (objects : List VObject) (site : ℕ)
    → IsTrue (is_present (objects_without away objects) site)
    → IsTrue (is_present objects site)
present_before away objects site present =
    let found = found_present (objects_without away objects) site present in
    let was = was_found away objects site found.0 found.1 in
    present_found objects site was.before was.there

pub present_behind :
    (away : ℕ → Bool) (objects : List VObject) (site : ℕ)
    → IsTrue (is_present objects site)
    → IsFalse (away site)
    → IsTrue (is_present (objects_without away objects) site)
present_behind away objects site present not_away =
    let found = found_present objects site present in
    present_found (objects_without away objects) site (object_without away found.0) (still_found away objects site found.0 found.1 not_away)

pub present_not_away :
    (away : ℕ → Bool) (objects : List VObject) (site : ℕ)
    → IsTrue (is_present (objects_without away objects) site)
    → away site ≡ false
present_not_away away objects site present =
    let found = found_present (objects_without away objects) site present in
    (was_found away objects site found.0 found.1).not_away

-- ---- edges and paths

pub record WasEdge (away : ℕ → Bool) (objects : List VObject) (from to : ℕ) : Type 0 where
  pub edge : IsEdge objects from to
  pub from_stays : away from ≡ false
  pub to_stays : away to ≡ false

pub edge_before :
    (away : ℕ → Bool) (objects : List VObject) (from to : ℕ)
    → IsEdge (objects_without away objects) from to
    → WasEdge away objects from to
edge_before away objects from to edge =
    let was = was_found away objects from edge.object edge.there in
    let fields = subst (λ (object : VObject). IsTrue (names object.fields to)) was.is edge.named in
    let named = named_before away was.before.fields to fields in
    record { edge = record { object = was.before; there = was.there; named = named.0 }; from_stays = was.not_away; to_stays = named.1 }

pub edge_behind :
    (away : ℕ → Bool) (objects : List VObject) (from to : ℕ)
    → IsEdge objects from to
    → IsFalse (away from)
    → IsFalse (away to)
    → IsEdge (objects_without away objects) from to
edge_behind away objects from to edge from_stays to_stays = record {
  object = object_without away edge.object;
  there = still_found away objects from edge.object edge.there from_stays;
  named = named_behind away edge.object.fields to edge.named to_stays;
}

pub path_before :
    (away : ℕ → Bool) (objects : List VObject) {from to : ℕ}
    → IsPath (objects_without away objects) from to
    → IsPath objects from to
path_before away objects (one_edge from to edge) = one_edge from to (edge_before away objects from to edge).edge
path_before away objects (edge_and_path from middle to edge path) = edge_and_path from middle to (edge_before away objects from middle edge).edge (path_before away objects path)

-- a site that stays is reached as before, since no closed set stands on the way
pub reached_behind :
    (away : ℕ → Bool) (slots : List Slot) (objects : List VObject)
    → IsClosed away objects
    → {site : ℕ}
    → IsReached slots objects site
    → IsFalse (away site)
    → IsReached (made away slots) (objects_without away objects) site
reached_behind away slots objects closed (from_slot site named) not_away = from_slot site (named_behind away slots site named not_away)
reached_behind away slots objects closed (from_field from site reached edge) not_away =
    elim (cases_Bool (away from)) [
      | inl is_away ↦ absurd (both_ways (away site) not_away (closed from site edge is_away))
      | inr stays ↦ from_field from site (reached_behind away slots objects closed reached stays) (edge_behind away objects from site edge stays not_away)
    ]

-- ---- states

pub without_is_state :
    (state : State) (away : ℕ → Bool)
    → IsState state
    → IsClosed away state.objects
    → IsState (without state away)
without_is_state state away is closed = record {
  order = subst IsIncreasing (sym (sites_of-map (object_without away) (λ object. refl) (of_sites (stay away) state.objects))) (filter_in_order (stay away) state.objects is.order);
  places = λ site named.
      let before = named_before away state.slots site named in
      present_behind away state.objects site (is.places site before.0) before.1;
  fields = λ from to edge.
      let was = edge_before away state.objects from to edge in
      present_behind away state.objects to (is.fields from to was.edge) was.to_stays;
  reached = λ site present.
      reached_behind away state.slots state.objects closed (is.reached site (present_before away state.objects site present)) (present_not_away away state.objects site present);
  acyclic = λ site path. is.acyclic site (path_before away state.objects path);
  usable = λ site object found.
      let was = was_found away state.objects site object found in
      subst (λ (one : VObject). IsFalse (list_any is_unusable one.fields)) (sym was.is) (usable_made away was.before.fields ∙ is.usable site was.before was.there);
}

-- ---- only the sites that are present count

edge_of_field :
    (objects : List VObject) (site : ℕ) (object : VObject)
    → object_of objects site ≡ Some object
    → (to : ℕ)
    → IsTrue (names object.fields to)
    → IsEdge objects site to
edge_of_field objects site object there to named = record { object = object; there = there; named = named }

abbrev pub AgreeOnSites : State → (ℕ → Bool) → (ℕ → Bool) → Type 0
AgreeOnSites state one other = (site : ℕ) → IsTrue (is_present state.objects site) → one site ≡ other site

object_agrees :
    (state : State) (one other : ℕ → Bool)
    → IsState state
    → AgreeOnSites state one other
    → (site : ℕ) (object : VObject)
    → object_of state.objects site ≡ Some object
    → object_without one object ≡ object_without other object
object_agrees state one other is agree site object there =
    ap (λ (fields : List Slot). record object { fields = fields }) (made_same one other object.fields (λ to named. agree to (is.fields site to (edge_of_field state.objects site object there to named))))

look_up_agrees :
    (state : State) (one other : ℕ → Bool)
    → IsState state
    → AgreeOnSites state one other
    → (site : ℕ)
    → object_of (objects_without one state.objects) site
    ≡ object_of (objects_without other state.objects) site
look_up_agrees state one other is agree site =
    elim (some_or_none (object_of state.objects site)) [
      | inl found ↦
          let same = agree site (present_found state.objects site found.0 found.1) in
          elim (cases_Bool (one site)) [
            | inl is_away ↦ gone one state.objects site is_away ∙ sym (gone other state.objects site (sym same ∙ is_away))
            | inr not_away ↦
                still_found one state.objects site found.0 found.1 not_away
                ∙ ap (λ (object : VObject). Some object) (object_agrees state one other is agree site found.0 found.1)
                ∙ sym (still_found other state.objects site found.0 found.1 (sym same ∙ not_away))
          ]
      | inr none ↦ nothing one none ∙ sym (nothing other none)
    ] where
      nothing :
          (away : ℕ → Bool)
          → object_of state.objects site ≡ None
          → object_of (objects_without away state.objects) site ≡ None
      nothing away none = elim (cases_Bool (away site)) [
        | inl is_away ↦ gone away state.objects site is_away
        | inr not_away ↦ stays away state.objects site not_away ∙ ap (option_map (object_without away)) none
      ]

pub without_in_order :
    (away : ℕ → Bool) (objects : List VObject)
    → IsIncreasing (sites_of objects)
    → IsIncreasing (sites_of (objects_without away objects))
without_in_order away objects order = subst IsIncreasing (sym (sites_of-map (object_without away) (λ object. refl) (of_sites (stay away) objects))) (filter_in_order (stay away) objects order)

pub without_agrees :
    (state : State) (one other : ℕ → Bool)
    → IsState state
    → AgreeOnSites state one other
    → without state one ≡ without state other
without_agrees state one other is agree =
    let slots = made_same one other state.slots (λ site named. agree site (is.places site named)) in
    let objects = same_objects (objects_without one state.objects) (objects_without other state.objects) (without_in_order one state.objects is.order) (without_in_order other state.objects is.order) (look_up_agrees state one other is agree) in
    λ i. record { slots = slots i; objects = objects i }

-- ---- no site, and one set after the other

objects_without_none : (objects : List VObject) → objects_without (λ site. false) objects ≡ objects
objects_without_none [] = refl
objects_without_none (object ∷ objects) =
    let fields = made_none (λ site. false) object.fields (λ site named. refl) in
    λ i. record object { fields = fields i } ∷ objects_without_none objects i

pub without_none :
    (state : State) (away : ℕ → Bool)
    → ((site : ℕ) → away site ≡ false)
    → without state away ≡ state
without_none state away none =
    let fewer = ap (without state) (λ i site. none site i) in
    let slots = made_none (λ site. false) state.slots (λ site named. refl) in
    fewer ∙ (λ i. record { slots = slots i; objects = objects_without_none state.objects i })

-- the sites of two sets
abbrev pub either : (ℕ → Bool) → (ℕ → Bool) → ℕ → Bool
either one other site = one site || other site

object_without_twice :
    (one other : ℕ → Bool) (object : VObject)
    → object_without other (object_without one object) ≡ object_without (either one other) object
object_without_twice one other object = ap (λ (fields : List Slot). record object { fields = fields }) (made_twice one other object.fields)

objects_without_twice :
    (one other : ℕ → Bool) (objects : List VObject)
    → objects_without other (objects_without one objects)
    ≡ objects_without (either one other) objects
objects_without_twice one other [] = refl
objects_without_twice one other (object ∷ objects) = elim (cases_Bool (one object.site)) [
  | inl first ↦
      ap (λ (list : List VObject). objects_without other (map (object_without one) list)) (filter_behind (stay one) object objects (not_from_true (one object.site) first))
      ∙ objects_without_twice one other objects
      ∙ sym (ap (map (object_without (either one other))) (filter_behind (stay (either one other)) object objects (not_from_true (either one other object.site) (or_left (one object.site) (other object.site) first))))
  | inr not_first ↦ elim (cases_Bool (other object.site)) [
    | inl second ↦
        ap (λ (list : List VObject). objects_without other (map (object_without one) list)) (filter_first (stay one) object objects (not_from_false (one object.site) not_first))
        ∙ ap (map (object_without other)) (filter_behind (stay other) (object_without one object) (objects_without one objects) (not_from_true (other object.site) second))
        ∙ objects_without_twice one other objects
        ∙ sym (ap (map (object_without (either one other))) (filter_behind (stay (either one other)) object objects (not_from_true (either one other object.site) (or_right (one object.site) (other object.site) second))))
    | inr not_second ↦
        ap (λ (list : List VObject). objects_without other (map (object_without one) list)) (filter_first (stay one) object objects (not_from_false (one object.site) not_first))
        ∙ ap (map (object_without other)) (filter_first (stay other) (object_without one object) (objects_without one objects) (not_from_false (other object.site) not_second))
        ∙ (λ i. object_without_twice one other object i ∷ objects_without_twice one other objects i)
        ∙ sym (ap (map (object_without (either one other))) (filter_first (stay (either one other)) object objects (not_from_false (either one other object.site) (ap (λ (b : Bool). b || other object.site) not_first ∙ not_second))))
  ]
]

pub without_twice :
    (state : State) (one other : ℕ → Bool)
    → without (without state one) other ≡ without state (either one other)
without_twice state one other = λ i. record { slots = made_twice one other state.slots i; objects = objects_without_twice one other state.objects i }

-- ---- how many objects stay

filter_len :
    (test : ℕ → Bool) (objects : List VObject) → length (of_sites test objects) ≤ length objects
filter_len test [] = omega arith
filter_len test (object ∷ objects) =
    let rest = filter_len test objects in
    elim (cases_Bool (test object.site)) [
      | inl passes ↦ omega (arith, ap {B = ℕ} (λ (list : List VObject). length list) (filter_first test object objects passes))
      | inr fails ↦ omega (arith, ap {B = ℕ} (λ (list : List VObject). length list) (filter_behind test object objects fails))
    ]

-- where a site that is present goes, there are fewer
pub fewer_objects :
    (away : ℕ → Bool) (objects : List VObject) (site : ℕ)
    → IsTrue (is_present objects site)
    → IsTrue (away site)
    → length (of_sites (stay away) objects) < length objects
fewer_objects away [] site present is_away = absurd (false≢true present)
fewer_objects away (object ∷ objects) site present is_away =
    elim (cases_Bool (away object.site)) [
      | inl first ↦ omega (arith, filter_len (stay away) objects, ap {B = ℕ} (λ (list : List VObject). length list) (filter_behind (stay away) object objects (not_from_true (away object.site) first)))
      | inr kept ↦
          let differ : ¬ (object.site ≡ site) = λ same. both_ways (away site) (sym (ap away same) ∙ kept) is_away in
          let rest = fewer_objects away objects site (ap is_some (sym (object_behind object objects site differ)) ∙ present) is_away in
          omega (arith, rest, ap {B = ℕ} (λ (list : List VObject). length list) (filter_first (stay away) object objects (not_from_false (away object.site) kept)))
    ]
