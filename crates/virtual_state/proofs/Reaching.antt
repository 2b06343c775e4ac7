-- The objects that slots reach make a state.
use Rattle.std.proofs.Common.{◌≡◌, ◌==◌, ◌||◌, ◌++◌, ℕ, Bool, true, false, cond, List, [], ◌∷◌, Some, None, is_some, IsTrue, refl, sym, ap, ◌∙◌, inl, inr, append_assoc}
use Rattle.std.specs.Option.{option_or}
use Rattle.std.proofs.lemmas.Bool.{cases_Bool}
use Rattle.std.proofs.lemmas.List.Folds.{find-append}
use Rattle.std.proofs.lemmas.Option.{none-some}
use Rattle.virtual_state.specs.Inner.Filling.{of_sites}
use Rattle.virtual_state.specs.Inner.Marks.{HasMarked, HasSpread}
use Rattle.virtual_state.specs.Inner.Tables.{HasSet}
use Rattle.virtual_state.specs.Making.{CanBeState, IsStateOf}
use Rattle.virtual_state.specs.Sites.{has}
use Rattle.virtual_state.specs.States.{State, IsState, IsEdge, IsPath, one_edge, edge_and_path, IsReached, from_slot, from_field, object_of, is_present, names, sites_of, IsIncreasing}
use Rattle.virtual_state.specs.declared.slot.Slot.{Slot}
use Rattle.virtual_state.specs.declared.slot.VObject.{VObject}
use Rattle.virtual_state.specs.Laws.Objects.{same_or_not, found_present, object_first, object_behind, object_of-filter, filter_in_order}
use Rattle.virtual_state.proofs.Spreading.{spread_is_reached, reached_in_closed}

-- ---- objects among marked sites

among_yes : (test : ℕ → Bool) (objects : List VObject) (site : ℕ) → test site ≡ true → object_of (of_sites test objects) site ≡ object_of objects site
among_yes test objects site passes = object_of-filter test objects site ∙ ap (λ (b : Bool). cond b (object_of objects site) None) passes

among_no : (test : ℕ → Bool) (objects : List VObject) (site : ℕ) → test site ≡ false → object_of (of_sites test objects) site ≡ None
among_no test objects site fails = object_of-filter test objects site ∙ ap (λ (b : Bool). cond b (object_of objects site) None) fails

among_found : (test : ℕ → Bool) (objects : List VObject) (site : ℕ) (object : VObject) → object_of (of_sites test objects) site ≡ Some object → (test site ≡ true) × (object_of objects site ≡ Some object)
among_found test objects site object found =
    elim (cases_Bool (test site)) [
      | inl passes ↦ (passes, sym (among_yes test objects site passes) ∙ found)
      | inr fails ↦ absurd (none-some object (sym (among_no test objects site fails) ∙ found))
    ]

edge_of_all : (test : ℕ → Bool) (objects : List VObject) (from to : ℕ) → IsEdge (of_sites test objects) from to → (test from ≡ true) × IsEdge objects from to
edge_of_all test objects from to edge =
    let was = among_found test objects from edge.object edge.there in
    (was.0, record { object = edge.object; there = was.1; named = edge.named })

edge_among : (test : ℕ → Bool) (objects : List VObject) (from to : ℕ) → test from ≡ true → IsEdge objects from to → IsEdge (of_sites test objects) from to
edge_among test objects from to passes edge = record { object = edge.object; there = among_yes test objects from passes ∙ edge.there; named = edge.named }

path_of_all : (test : ℕ → Bool) (objects : List VObject) {from to : ℕ} → IsPath (of_sites test objects) from to → IsPath objects from to
path_of_all test objects (one_edge from to edge) = one_edge from to (edge_of_all test objects from to edge).1
path_of_all test objects (edge_and_path from middle to edge path) = edge_and_path from middle to (edge_of_all test objects from middle edge).1 (path_of_all test objects path)

reached_among : (test : ℕ → Bool) (slots : List Slot) (objects : List VObject) → ((site : ℕ) → IsReached slots objects site → test site ≡ true) → {site : ℕ} → IsReached slots objects site → IsReached slots (of_sites test objects) site
reached_among test slots objects all (from_slot site named) = from_slot site named
reached_among test slots objects all (from_field from site reached edge) = from_field from site (reached_among test slots objects all reached) (edge_among test objects from site (all from reached) edge)

-- ---- the marks are the sites that the slots reach

-- the marks of a search from the sites of slots
pub record AreReached (slots : List Slot) (objects : List VObject) (sites : List ℕ) : Type 0 where
  pub all : (site : ℕ) → IsReached slots objects site → IsTrue (has sites site)
  pub only : (site : ℕ) → IsTrue (has sites site) → IsReached slots objects site
  pub closed : (from to : ℕ) → IsEdge objects from to → IsTrue (has sites from) → IsTrue (has sites to)

pub search_reaches : (slots : List Slot) (objects : List VObject) (none start sites : List ℕ) → none ≡ [] → HasMarked none start (names slots) → HasSpread start sites objects objects → AreReached slots objects sites
search_reaches slots objects none start sites empty marked spread =
    let begins : (site : ℕ) → has start site ≡ names slots site = λ site. marked.marked site ∙ ap (λ (list : List ℕ). has list site || names slots site) empty in
    record {
      all = λ site reached. reached_in_closed slots objects (has sites) spread.in_one (λ one named. spread.kept one (begins one ∙ named)) reached;
      only = λ site there. spread_is_reached start slots objects (λ one there. sym (begins one) ∙ there) (spread.reached site there);
      closed = spread.in_one;
    }

pub reached_is_state : (slots : List Slot) (objects : List VObject) (sites : List ℕ) → IsIncreasing (sites_of objects) → CanBeState slots objects → AreReached slots objects sites → IsState (record { slots = slots; objects = of_sites (has sites) objects })
reached_is_state slots objects sites order can reached =
    let test = has sites in
    let there : (site : ℕ) → test site ≡ true → IsTrue (is_present objects site) → IsTrue (is_present (of_sites test objects) site) = λ site passes present. ap is_some (among_yes test objects site passes) ∙ present in
    record {
      order = filter_in_order test objects order;
      places = λ site named. there site (reached.all site (from_slot site named)) (can.places site named);
      fields = λ from to edge.
          let was = edge_of_all test objects from to edge in
          there to (reached.closed from to was.1 was.0) (can.fields from to was.1);
      reached = λ site present.
          let found = found_present (of_sites test objects) site present in
          reached_among test slots objects reached.all (reached.only site (among_found test objects site found.0 found.1).0);
      acyclic = λ site path. can.acyclic site (path_of_all test objects path);
      usable = λ site object found. can.usable site object (among_found test objects site object found).1;
    }

pub reached_is_of : (slots : List Slot) (objects : List VObject) (sites : List ℕ) → AreReached slots objects sites → IsStateOf slots objects (record { slots = slots; objects = of_sites (has sites) objects })
reached_is_of slots objects sites reached = record {
  same_slots = refl;
  reached = λ site present.
      let found = found_present (of_sites (has sites) objects) site present in
      reached.only site (among_found (has sites) objects site found.0 found.1).0;
  kept = λ site way. among_yes (has sites) objects site (reached.all site way);
}

-- ---- objects that look-ups can't tell apart

abbrev pub LookAlike : List VObject → List VObject → Type 0
LookAlike one other = (site : ℕ) → object_of one site ≡ object_of other site

edge_alike : (one other : List VObject) → LookAlike one other → (from to : ℕ) → IsEdge one from to → IsEdge other from to
edge_alike one other same from to edge = record { object = edge.object; there = sym (same from) ∙ edge.there; named = edge.named }

path_alike : (one other : List VObject) → LookAlike one other → {from to : ℕ} → IsPath one from to → IsPath other from to
path_alike one other same (one_edge from to edge) = one_edge from to (edge_alike one other same from to edge)
path_alike one other same (edge_and_path from middle to edge path) = edge_and_path from middle to (edge_alike one other same from middle edge) (path_alike one other same path)

reached_alike : (slots : List Slot) (one other : List VObject) → LookAlike one other → {site : ℕ} → IsReached slots one site → IsReached slots other site
reached_alike slots one other same (from_slot site named) = from_slot site named
reached_alike slots one other same (from_field from site reached edge) = from_field from site (reached_alike slots one other same reached) (edge_alike one other same from site edge)

pub can_be_alike : (slots : List Slot) (one other : List VObject) → LookAlike one other → CanBeState slots other → CanBeState slots one
can_be_alike slots one other same can = record {
  places = λ site named. ap is_some (same site) ∙ can.places site named;
  fields = λ from to edge. ap is_some (same to) ∙ can.fields from to (edge_alike one other same from to edge);
  acyclic = λ site path. can.acyclic site (path_alike one other same path);
  usable = λ site object there. can.usable site object (sym (same site) ∙ there);
}

pub state_of_alike : (slots : List Slot) (one other : List VObject) (state : State) → LookAlike one other → IsStateOf slots one state → IsStateOf slots other state
state_of_alike slots one other state same is = record {
  same_slots = is.same_slots;
  reached = λ site present. reached_alike slots one other same (is.reached site present);
  kept = λ site way. is.kept site (reached_alike slots other one (λ at. sym (same at)) way) ∙ same site;
}

-- ---- objects that are put one by one

-- one that was put stands in front
pub put_in_front : (before after : List VObject) (object : VObject) → HasSet before after object.site (Some object) → LookAlike after (object ∷ before)
put_in_front before after object has site =
    elim (same_or_not site object.site) [
      | inl same ↦ ap (object_of after) same ∙ has.here ∙ sym (object_first object before site (sym same))
      | inr differ ↦ has.others site differ ∙ sym (object_behind object before site (λ same. differ (sym same)))
    ]

pub behind_alike : (front one other : List VObject) → LookAlike one other → LookAlike (front ++ one) (front ++ other)
behind_alike front one other same site =
    find-append (λ (object : VObject). object.site == site) front one
    ∙ ap (option_or (object_of front site)) (same site)
    ∙ sym (find-append (λ (object : VObject). object.site == site) front other)

-- the last of the objects that are left is put
pub put_last : (left fewer before after : List VObject) (object : VObject) → left ≡ fewer ++ object ∷ [] → HasSet before after object.site (Some object) → LookAlike (fewer ++ after) (left ++ before)
put_last left fewer before after object is has site =
    behind_alike fewer after (object ∷ before) (put_in_front before after object has) site
    ∙ ap (λ (objects : List VObject). object_of objects site) (sym (append_assoc fewer (object ∷ []) before))
    ∙ ap (λ (objects : List VObject). object_of (objects ++ before) site) (sym is)
