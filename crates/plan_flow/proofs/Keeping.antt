-- The state of slots with the objects that they reach is there, for any slots and objects that can be a state.
use Rattle.std.proofs.Common.{◌≡◌, ℕ, ◌<◌, Bool, true, cond, List, [], ◌∷◌, Some, None, is_some, IsTrue, refl, sym, ap, subst, ◌∙◌, inl, inr, arith}
use Rattle.std.specs.List.{AllByRecursion}
use Rattle.std.proofs.lemmas.Bool.{cases_Bool, cases_order}
use Rattle.std.proofs.lemmas.Option.{none-some}
use Rattle.class_model.specs.Laws.Lists.{AllByRecursion-weaker}
use Rattle.virtual_state.specs.Inner.Filling.{of_sites}
use Rattle.virtual_state.specs.Making.{CanBeState, IsStateOf}
use Rattle.virtual_state.specs.States.{State, IsState, IsEdge, IsPath, one_edge, edge_and_path, IsReached, from_slot, from_field, object_of, is_present, sites_of, IsIncreasing}
use Rattle.virtual_state.specs.declared.slot.Slot.{Slot}
use Rattle.virtual_state.specs.declared.slot.VObject.{VObject}
use Rattle.virtual_state.specs.Laws.Objects.{same_or_not, found_present, object_first, object_behind, object_of-filter, filter_in_order}
use Rattle.plan_flow.proofs.Reached.{Reach, reach, reach_all}

-- ---- objects in order

-- objects in order that look-ups can't tell from others
pub record Ordered (objects : List VObject) : Type 0 where
  pub list : List VObject
  pub order : IsIncreasing (sites_of list)
  pub same : (site : ℕ) → object_of list site ≡ object_of objects site

record Inserted (low : ℕ) (object : VObject) (objects : List VObject) : Type 0 where
  list : List VObject
  order : IsIncreasing (sites_of list)
  above : AllByRecursion (λ other. low < other) (object.site ∷ sites_of objects) → AllByRecursion (λ other. low < other) (sites_of list)
  same : (site : ℕ) → object_of list site ≡ object_of (object ∷ objects) site

same_behind : (first : VObject) (one other : List VObject) → ((site : ℕ) → object_of one site ≡ object_of other site) → (site : ℕ) → object_of (first ∷ one) site ≡ object_of (first ∷ other) site
same_behind first one other same site =
    elim (same_or_not first.site site) [
      | inl here ↦ object_first first one site here ∙ sym (object_first first other site here)
      | inr differ ↦ object_behind first one site differ ∙ same site ∙ sym (object_behind first other site differ)
    ]

-- two objects of two sites may stand in any order
swapped : (one other : VObject) (objects : List VObject) → (one.site ≡ other.site → ⊥) → (site : ℕ) → object_of (one ∷ other ∷ objects) site ≡ object_of (other ∷ one ∷ objects) site
swapped one other objects differ site =
    elim (same_or_not one.site site) [
      | inl here ↦
          object_first one (other ∷ objects) site here
          ∙ sym (object_behind other (one ∷ objects) site (λ same. differ (here ∙ sym same)) ∙ object_first one objects site here)
      | inr not_one ↦ elim (same_or_not other.site site) [
        | inl here ↦
            object_behind one (other ∷ objects) site not_one ∙ object_first other objects site here
            ∙ sym (object_first other (one ∷ objects) site here)
        | inr not_other ↦
            object_behind one (other ∷ objects) site not_one ∙ object_behind other objects site not_other
            ∙ sym (object_behind other (one ∷ objects) site not_other ∙ object_behind one objects site not_one)
      ]
    ]

-- the object in front counts
shadowed : (one other : VObject) (objects : List VObject) → one.site ≡ other.site → (site : ℕ) → object_of (one ∷ objects) site ≡ object_of (one ∷ other ∷ objects) site
shadowed one other objects same site =
    elim (same_or_not one.site site) [
      | inl here ↦ object_first one objects site here ∙ sym (object_first one (other ∷ objects) site here)
      | inr differ ↦
          object_behind one objects site differ
          ∙ sym (object_behind one (other ∷ objects) site differ ∙ object_behind other objects site (λ here. differ (same ∙ here)))
    ]

insert : (low : ℕ) (object : VObject) (objects : List VObject) → IsIncreasing (sites_of objects) → Inserted low object objects
insert low object [] order = record { list = object ∷ []; order = (tt, tt); above = λ all. all; same = λ site. refl }
insert low object (first ∷ objects) order =
    elim (cases_order object.site first.site) [
      | inl equal ↦ record {
        list = object ∷ objects;
        order = (subst (λ (at : ℕ). AllByRecursion (λ other. at < other) (sites_of objects)) (sym equal) order.0, order.1);
        above = λ all. (all.0, all.1.1);
        same = shadowed object first objects equal;
      }
      | inr (inl less) ↦ record {
        list = object ∷ first ∷ objects;
        order = ((less, AllByRecursion-weaker (λ number. first.site < number) (λ number. object.site < number) (λ number far. omega (arith, less, far)) (sites_of objects) order.0), order);
        above = λ all. all;
        same = λ site. refl;
      }
      | inr (inr more) ↦
          let rest = insert first.site object objects order.1 in
          let other = insert low object objects order.1 in
          record {
            list = first ∷ rest.list;
            order = (rest.above (more, order.0), rest.order);
            above = λ all. (all.1.0, AllByRecursion-weaker (λ number. first.site < number) (λ number. low < number) (λ number far. omega (arith, all.1.0, far)) (sites_of rest.list) (rest.above (more, order.0)));
            same = λ site. same_behind first rest.list (object ∷ objects) rest.same site ∙ swapped first object objects (λ same. absurd (omega (arith, more, same))) site;
          }
    ]

pub in_front : (object : VObject) (objects : List VObject) → IsIncreasing (sites_of objects) → Ordered (object ∷ objects)
in_front object objects order =
    let inserted = insert 0 object objects order in
    record { list = inserted.list; order = inserted.order; same = inserted.same }

-- ---- objects that are reached

among_yes : (test : ℕ → Bool) (objects : List VObject) (site : ℕ) → test site ≡ true → object_of (of_sites test objects) site ≡ object_of objects site
among_yes test objects site passes = object_of-filter test objects site ∙ ap (λ (b : Bool). cond b (object_of objects site) None) passes

among_found : (test : ℕ → Bool) (objects : List VObject) (site : ℕ) (object : VObject) → object_of (of_sites test objects) site ≡ Some object → (test site ≡ true) × (object_of objects site ≡ Some object)
among_found test objects site object found =
    elim (cases_Bool (test site)) [
      | inl passes ↦ (passes, sym (among_yes test objects site passes) ∙ found)
      | inr fails ↦ absurd (none-some object (sym (object_of-filter test objects site ∙ ap (λ (b : Bool). cond b (object_of objects site) None) fails) ∙ found))
    ]

edge_of_all : (test : ℕ → Bool) (objects : List VObject) (from to : ℕ) → IsEdge (of_sites test objects) from to → (test from ≡ true) × IsEdge objects from to
edge_of_all test objects from to edge =
    let was = among_found test objects from edge.object edge.there in
    (was.0, record { object = edge.object; there = was.1; named = edge.named })

path_of_all : (test : ℕ → Bool) (objects : List VObject) {from to : ℕ} → IsPath (of_sites test objects) from to → IsPath objects from to
path_of_all test objects (one_edge from to edge) = one_edge from to (edge_of_all test objects from to edge).1
path_of_all test objects (edge_and_path from middle to edge path) = edge_and_path from middle to (edge_of_all test objects from middle edge).1 (path_of_all test objects path)

reached_among : (test : ℕ → Bool) (slots : List Slot) (objects : List VObject) → ((site : ℕ) → IsReached slots objects site → test site ≡ true) → {site : ℕ} → IsReached slots objects site → IsReached slots (of_sites test objects) site
reached_among test slots objects all (from_slot site named) = from_slot site named
reached_among test slots objects all (from_field from site reached edge) =
    from_field from site (reached_among test slots objects all reached) (record { object = edge.object; there = among_yes test objects from (all from reached) ∙ edge.there; named = edge.named })

-- ---- objects that look-ups can't tell apart

edge_alike : (one other : List VObject) → ((site : ℕ) → object_of one site ≡ object_of other site) → (from to : ℕ) → IsEdge one from to → IsEdge other from to
edge_alike one other same from to edge = record { object = edge.object; there = sym (same from) ∙ edge.there; named = edge.named }

path_alike : (one other : List VObject) → ((site : ℕ) → object_of one site ≡ object_of other site) → {from to : ℕ} → IsPath one from to → IsPath other from to
path_alike one other same (one_edge from to edge) = one_edge from to (edge_alike one other same from to edge)
path_alike one other same (edge_and_path from middle to edge path) = edge_and_path from middle to (edge_alike one other same from middle edge) (path_alike one other same path)

reached_alike : (slots : List Slot) (one other : List VObject) → ((site : ℕ) → object_of one site ≡ object_of other site) → {site : ℕ} → IsReached slots one site → IsReached slots other site
reached_alike slots one other same (from_slot site named) = from_slot site named
reached_alike slots one other same (from_field from site reached edge) = from_field from site (reached_alike slots one other same reached) (edge_alike one other same from site edge)

-- ---- the state

-- the state of slots and of the objects that they reach
pub record Kept (slots : List Slot) (objects : List VObject) : Type 0 where
  pub state : State
  pub is_state : IsState state
  pub is : IsStateOf slots objects state

pub kept_state : (slots : List Slot) (objects : List VObject) → Ordered objects → CanBeState slots objects → Kept slots objects
kept_state slots objects ordered can = record { state = state; is_state = is_state; is = is } where
  list : List VObject
  list = ordered.list

  reached : Reach slots list
  reached = reach slots list

  test : ℕ → Bool
  test = reached.set

  state : State
  state = record { slots = slots; objects = of_sites test list }

  present_in : (site : ℕ) → IsTrue (is_present objects site) → test site ≡ true → IsTrue (is_present (of_sites test list) site)
  present_in site present passes = ap is_some (among_yes test list site passes ∙ ordered.same site) ∙ present

  is_state : IsState state
  is_state = record {
    order = filter_in_order test list ordered.order;
    places = λ site named. present_in site (can.places site named) (reach_all slots list reached (from_slot site named));
    fields = λ from to edge.
        let was = edge_of_all test list from to edge in
        present_in to (can.fields from to (edge_alike list objects ordered.same from to was.1)) (reached.closed from to was.1 was.0);
    reached = λ site present.
        let found = found_present (of_sites test list) site present in
        reached_among test slots list (λ one way. reach_all slots list reached way) (reached.only site (among_found test list site found.0 found.1).0);
    acyclic = λ site path. can.acyclic site (path_alike list objects ordered.same (path_of_all test list path));
    usable = λ site object found. can.usable site object (sym (ordered.same site) ∙ (among_found test list site object found).1);
  }

  is : IsStateOf slots objects state
  is = record {
    same_slots = refl;
    reached = λ site present.
        let found = found_present (of_sites test list) site present in
        reached_alike slots list objects ordered.same (reached.only site (among_found test list site found.0 found.1).0);
    kept = λ site way. among_yes test list site (reach_all slots list reached (reached_alike slots objects list (λ at. sym (ordered.same at)) way)) ∙ ordered.same site;
  }
