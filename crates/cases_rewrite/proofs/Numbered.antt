-- Objects that are numbered make a state, also in front of those of one.
use Rattle.std.proofs.Common.{◌≡◌, ◌≢◌, ◌⊎◌, ◌||◌, ◌==◌, ◌++◌, ℕ, ◌+◌, ◌<◌, ◌≤◌, Bool, true, false, List, [], ◌∷◌, length, Some, is_some, IsTrue, IsFalse, refl, sym, ap, subst, ◌∙◌, inl, inr, arith}
use Rattle.std.specs.List.{AllByRecursion, list_any}
use Rattle.std.proofs.lemmas.Bool.{eqb-true, false≢true}
use Rattle.std.proofs.lemmas.Option.{none-some, same_Some}
use Rattle.cases_rewrite.specs.Inner.Numbering.{AreNumberedFrom, IsBelowSite, IsThere}
use Rattle.virtual_state.specs.Laws.Objects.{same_or_not, present_found, object_first, object_behind}
use Rattle.virtual_state.specs.Making.{CanBeState}
use Rattle.virtual_state.specs.States.{State, IsState, IsEdge, IsPath, one_edge, edge_and_path, object_of, is_present, is_unusable, names}
use Rattle.virtual_state.specs.declared.slot.Slot.{Slot}
use Rattle.virtual_state.specs.declared.slot.Slot.TheVariants.{Plain, Virt, Unusable}
use Rattle.virtual_state.specs.declared.slot.VObject.{VObject}

-- ---- what is found

-- An object that is found is numbered, or of those behind.
record Splits (number count : ℕ) (rest : List VObject) (site : ℕ) (object : VObject) : Type 0 where
  split : ((number ≤ site) × (site < number + count) × AllByRecursion (IsBelowSite site) object.fields) ⊎ (((site < number) ⊎ (number + count ≤ site)) × (object_of rest site ≡ Some object))

found : (number : ℕ) (objects rest : List VObject) (site : ℕ) (object : VObject) → AreNumberedFrom number objects → object_of (objects ++ rest) site ≡ Some object → Splits number (length objects) rest site object
found number [] rest site object are is = record { split = inr (outside, is) } where
  outside : (site < number) ⊎ (number + 0 ≤ site)
  outside = grind arith
found number (first ∷ objects) rest site object are is =
    elim (same_or_not first.site site) [
      | inl same ↦
          let here : number ≡ site = sym are.0 ∙ same in
          let is_first : first ≡ object = same_Some first object (sym (object_first first (objects ++ rest) site same) ∙ is) in
          let below = subst (λ (one : VObject). AllByRecursion (IsBelowSite site) one.fields) is_first (subst (λ (n : ℕ). AllByRecursion (IsBelowSite n) first.fields) here are.1) in
          record { split = inl (omega arith, omega arith, below) }
      | inr differ ↦
          let there = found (number + 1) objects rest site object are.2 (sym (object_behind first (objects ++ rest) site differ) ∙ is) in
          let other : number ≢ site = λ same. differ (are.0 ∙ same) in
          elim there.split [
            | inl numbered ↦ record { split = inl (omega arith, omega arith, numbered.2) }
            | inr behind ↦ record { split = inr (grind arith, behind.1) }
          ]
    ]

present_in_front : (number : ℕ) (objects rest : List VObject) (site : ℕ) → AreNumberedFrom number objects → number ≤ site → site < number + length objects → IsTrue (is_present (objects ++ rest) site)
present_in_front number [] rest site are least most = absurd (omega arith)
present_in_front number (first ∷ objects) rest site are least most =
    elim (same_or_not first.site site) [
      | inl same ↦ present_found (first ∷ objects ++ rest) site first (object_first first (objects ++ rest) site same)
      | inr differ ↦
          let other : number ≢ site = λ same. differ (are.0 ∙ same) in
          ap is_some (object_behind first (objects ++ rest) site differ)
          ∙ present_in_front (number + 1) objects rest site are.2 (omega arith) (omega arith)
    ]

present_behind : (objects rest : List VObject) (site : ℕ) → IsTrue (is_present rest site) → IsTrue (is_present (objects ++ rest) site)
present_behind [] rest site present = present
present_behind (first ∷ objects) rest site present =
    elim (same_or_not first.site site) [
      | inl same ↦ present_found (first ∷ objects ++ rest) site first (object_first first (objects ++ rest) site same)
      | inr differ ↦ ap is_some (object_behind first (objects ++ rest) site differ) ∙ present_behind objects rest site present
    ]

-- ---- what slots name

first_or_behind : (a b : Bool) → (a || b) ≡ true → (a ≡ true) ⊎ (b ≡ true)
first_or_behind true b is = inl refl
first_or_behind false b is = inr is

named_below : (site to : ℕ) (fields : List Slot) → AllByRecursion (IsBelowSite site) fields → IsTrue (names fields to) → to < site
named_below site to [] below named = absurd (false≢true named)
named_below site to (Plain ∷ fields) below named = named_below site to fields below.1 named
named_below site to (Virt one ∷ fields) below named =
    elim (first_or_behind (one == to) (names fields to) named) [
      | inl here ↦ subst (λ (n : ℕ). n < site) (eqb-true one to here) below.0
      | inr behind ↦ named_below site to fields below.1 behind
    ]
named_below site to (Unusable ∷ fields) below named = absurd below.0

usable_below : (site : ℕ) (fields : List Slot) → AllByRecursion (IsBelowSite site) fields → IsFalse (list_any is_unusable fields)
usable_below site [] below = refl
usable_below site (Plain ∷ fields) below = usable_below site fields below.1
usable_below site (Virt one ∷ fields) below = usable_below site fields below.1
usable_below site (Unusable ∷ fields) below = absurd below.0

named_there : (count : ℕ) (rest : List VObject) (slots : List Slot) (site : ℕ) → AllByRecursion (IsThere count rest) slots → IsTrue (names slots site) → (site < count) ⊎ IsTrue (is_present rest site)
named_there count rest [] site there named = absurd (false≢true named)
named_there count rest (Plain ∷ slots) site there named = named_there count rest slots site there.1 named
named_there count rest (Unusable ∷ slots) site there named = named_there count rest slots site there.1 named
named_there count rest (Virt one ∷ slots) site there named =
    elim (first_or_behind (one == site) (names slots site) named) [
      | inl here ↦ subst (λ (n : ℕ). (n < count) ⊎ IsTrue (is_present rest n)) (eqb-true one site here) there.0
      | inr behind ↦ named_there count rest slots site there.1 behind
    ]

-- ---- states

-- what holds of the objects of a state
pub record AreObjects (rest : List VObject) : Type 0 where
  pub fields : (from to : ℕ) → IsEdge rest from to → IsTrue (is_present rest to)
  pub acyclic : (site : ℕ) → ¬ IsPath rest site site
  pub usable : (site : ℕ) (object : VObject) → object_of rest site ≡ Some object → IsFalse (list_any is_unusable object.fields)

-- an edge from a numbered object goes down, and another one is of those behind
edge_from : (objects rest : List VObject) (from to : ℕ) → AreNumberedFrom 0 objects → IsEdge (objects ++ rest) from to → ((from < length objects) × (to < from)) ⊎ ((length objects ≤ from) × IsEdge rest from to)
edge_from objects rest from to are edge =
    elim (found 0 objects rest from edge.object are edge.there).split [
      | inl numbered ↦ inl (omega (arith, numbered.1), named_below from to edge.object.fields numbered.2 edge.named)
      | inr behind ↦ inr (grind (arith, behind.0), record { object = edge.object; there = behind.1; named = edge.named })
    ]

path_from : (objects rest : List VObject) → AreNumberedFrom 0 objects → {from to : ℕ} → IsPath (objects ++ rest) from to → ((to < length objects) × (from < length objects → to < from)) ⊎ ((length objects ≤ from) × IsPath rest from to)
path_from objects rest are (one_edge from to edge) =
    elim (edge_from objects rest from to are edge) [
      | inl down ↦ inl (omega (arith, down.0, down.1), λ _. down.1)
      | inr behind ↦ inr (behind.0, one_edge from to behind.1)
    ]
path_from objects rest are (edge_and_path from middle to edge path) =
    elim (edge_from objects rest from middle are edge) [
      | inl down ↦ elim (path_from objects rest are path) [
        | inl low ↦ inl (low.0, λ _. omega (arith, down.0, down.1, low.1 (omega (arith, down.0, down.1))))
        | inr high ↦ absurd (omega (arith, down.0, down.1, high.0))
      ]
      | inr behind ↦ elim (path_from objects rest are path) [
        | inl low ↦ inl (low.0, λ less. absurd (omega (arith, less, behind.0)))
        | inr high ↦ inr (behind.0, edge_and_path from middle to behind.1 high.1)
      ]
    ]

pub can_be : (slots : List Slot) (objects rest : List VObject) → AreNumberedFrom 0 objects → AllByRecursion (IsThere (length objects) rest) slots → AreObjects rest → CanBeState slots (objects ++ rest)
can_be slots objects rest are there behind = record {
  places = λ site named. elim (named_there (length objects) rest slots site there named) [
    | inl less ↦ present_in_front 0 objects rest site are (omega arith) (omega (arith, less))
    | inr present ↦ present_behind objects rest site present
  ];
  fields = λ from to edge. elim (edge_from objects rest from to are edge) [
    | inl down ↦ present_in_front 0 objects rest to are (omega arith) (omega (arith, down.0, down.1))
    | inr other ↦ present_behind objects rest to (behind.fields from to other.1)
  ];
  acyclic = λ site path. elim (path_from objects rest are path) [
    | inl low ↦ omega (arith, low.1 low.0)
    | inr high ↦ behind.acyclic site high.1
  ];
  usable = λ site object is. elim (found 0 objects rest site object are is).split [
    | inl numbered ↦ usable_below site object.fields numbered.2
    | inr other ↦ behind.usable site object other.1
  ];
}

no_edge : {from to : ℕ} → ¬ IsEdge [] from to
no_edge edge = none-some edge.object edge.there

no_path : {from to : ℕ} → ¬ IsPath [] from to
no_path (one_edge from to edge) = no_edge edge
no_path (edge_and_path from middle to edge path) = no_edge edge

pub no_objects : AreObjects []
no_objects = record {
  fields = λ from to edge. absurd (no_edge edge);
  acyclic = λ site. no_path;
  usable = λ site object is. absurd (none-some object is);
}

pub of_state : (state : State) → IsState state → AreObjects state.objects
of_state state is = record { fields = is.fields; acyclic = is.acyclic; usable = is.usable }
