-- Sites that are added one by one.
use Rattle.std.proofs.Common.{◌≡◌, ◌↔◌, ◌||◌, ◌==◌, ℕ, suc, Bool, true, false, List, [], ◌∷◌, ◌++◌, IsTrue, refl, sym, ap, subst, ◌∙◌, inl, inr, ◌⊎◌}
use Rattle.std.proofs.lemmas.Bool.{false≢true, or_cases, or_left, or_right, eq-eqb, eqb-true}
use Rattle.class_model.specs.declared.frame.Frame.{Frame}
use Rattle.plan_flow.specs.Inner.Asking.{HasAdded, IsAskedIn, IsTested}
use Rattle.plan_flow.specs.Must.{AsksFor}
use Rattle.plan_flow.specs.PlanRows.{Position, any_object}
use Rattle.plan_flow.specs.PlanScope.{PlanScope}
use Rattle.plan_flow.specs.PlanSlots.{held}
use Rattle.plan_flow.specs.PlanTable.{operand, operands_asked}
use Rattle.plan_flow.proofs.Moving.{same_site}
use Rattle.plan_flow.proofs.Reached.{Reach, reach}
use Rattle.virtual_state.specs.Sites.{has, IsClosure}
use Rattle.virtual_state.specs.States.{State, IsPath, one_edge, edge_and_path, IsReached, from_slot, from_field, names}
use Rattle.virtual_state.specs.Without.{IsClosed}
use Rattle.virtual_state.specs.declared.slot.Slot.{Slot}
use Rattle.virtual_state.specs.declared.slot.Slot.TheVariants.{Virt}
use Rattle.virtual_state.specs.declared.slot.VObject.{VObject}

-- ---- nothing more, one more

pub added_none : (sites : List ℕ) (Asked : ℕ → Type 0) → ((site : ℕ) → Asked site → ⊥) → HasAdded sites sites Asked
added_none sites Asked none = record {
  kept = λ site there. there;
  asked = λ site one. absurd (none site one);
  only = λ site there. inl there;
}

pub added_one :
    (before after : List ℕ) (site : ℕ)
    → ((one : ℕ) → has after one ≡ (has before one || site == one))
    → HasAdded before after (IsTested (Virt site) true)
added_one before after site is = record {
  kept = λ one there. is one ∙ or_left (has before one) (site == one) there;
  asked = λ one tested. is one ∙ or_right (has before one) (site == one) (eq-eqb site one (same_site tested.0));
  only = λ one there. elim (or_cases (has before one) (site == one) (sym (is one) ∙ there)) [
    | inl old ↦ inl old
    | inr new ↦ inr (ap Virt (eqb-true site one new), refl)
  ];
}

-- ---- the same in other words

pub added_as :
    {before after : List ℕ} (One Other : ℕ → Type 0)
    → HasAdded before after One
    → ((site : ℕ) → One site → Other site)
    → ((site : ℕ) → Other site → One site)
    → HasAdded before after Other
added_as One Other added there back = record {
  kept = added.kept;
  asked = λ site asked. added.asked site (back site asked);
  only = λ site now. elim (added.only site now) [
    | inl old ↦ inl old
    | inr new ↦ inr (there site new)
  ];
}

-- by a test of what a slot holds
pub added_tested :
    {before after : List ℕ} (slot : Slot) (test : Bool) (Asked : ℕ → Type 0)
    → HasAdded before after (IsTested slot test)
    → ((site : ℕ) → slot ≡ Virt site → IsTrue test ↔ Asked site)
    → HasAdded before after (λ site. (slot ≡ Virt site) × Asked site)
added_tested slot test Asked added both =
    added_as (IsTested slot test) (λ site. (slot ≡ Virt site) × Asked site) added
    (λ site one. (one.0, (both site one.0).0 one.1))
    (λ site one. (one.0, (both site one.0).1 one.1))

-- ---- one after the other

pub added_both :
    {first middle last : List ℕ} (One Other : ℕ → Type 0)
    → HasAdded first middle One
    → HasAdded middle last Other
    → HasAdded first last (λ site. One site ⊎ Other site)
added_both One Other one other = record {
  kept = λ site there. other.kept site (one.kept site there);
  asked = λ site asked. elim asked [
    | inl now ↦ other.kept site (one.asked site now)
    | inr then ↦ other.asked site then
  ];
  only = λ site there. elim (other.only site there) [
    | inr then ↦ inr (inr then)
    | inl before ↦ elim (one.only site before) [
      | inl old ↦ inl old
      | inr now ↦ inr (inl now)
    ]
  ];
}

pub asked_front : (s : PlanScope) (state : State) (front back : List Position) (site : ℕ) → IsAskedIn s state front site → IsAskedIn s state (front ++ back) site
asked_front s state [] back site asked = absurd asked
asked_front s state (position ∷ front) back site asked = elim asked [
  | inl here ↦ inl here
  | inr later ↦ inr (asked_front s state front back site later)
]

pub asked_back : (s : PlanScope) (state : State) (front back : List Position) (site : ℕ) → IsAskedIn s state back site → IsAskedIn s state (front ++ back) site
asked_back s state [] back site asked = asked
asked_back s state (position ∷ front) back site asked = inr (asked_back s state front back site asked)

pub asked_parts : (s : PlanScope) (state : State) (front back : List Position) (site : ℕ) → IsAskedIn s state (front ++ back) site → IsAskedIn s state front site ⊎ IsAskedIn s state back site
asked_parts s state [] back site asked = inr asked
asked_parts s state (position ∷ front) back site asked = elim asked [
  | inl here ↦ inl (inl here)
  | inr later ↦ elim (asked_parts s state front back site later) [
    | inl in_front ↦ inl (inr in_front)
    | inr behind ↦ inr behind
  ]
]

pub added_lists :
    {first middle last : List ℕ} (s : PlanScope) (state : State) (front back : List Position)
    → HasAdded first middle (IsAskedIn s state front)
    → HasAdded middle last (IsAskedIn s state back)
    → HasAdded first last (IsAskedIn s state (front ++ back))
added_lists s state front back one other =
    added_as (λ site. IsAskedIn s state front site ⊎ IsAskedIn s state back site) (IsAskedIn s state (front ++ back))
    (added_both (IsAskedIn s state front) (IsAskedIn s state back) one other)
    (λ site asked. elim asked [
      | inl in_front ↦ asked_front s state front back site in_front
      | inr behind ↦ asked_back s state front back site behind
    ])
    (λ site asked. asked_parts s state front back site asked)

-- a list of one position
pub added_single :
    {before after : List ℕ} (s : PlanScope) (state : State) (position : Position)
    → HasAdded before after (AsksFor s state position)
    → HasAdded before after (IsAskedIn s state (position ∷ []))
added_single s state position added =
    added_as (AsksFor s state position) (IsAskedIn s state (position ∷ [])) added
    (λ site asked. inl asked)
    (λ site asked. elim asked [
      | inl here ↦ here
      | inr none ↦ absurd none
    ])

-- one position more in front
pub added_first :
    {first middle last : List ℕ} (s : PlanScope) (state : State) (position : Position) (others : List Position)
    → HasAdded first middle (IsAskedIn s state others)
    → HasAdded middle last (AsksFor s state position)
    → HasAdded first last (IsAskedIn s state (position ∷ others))
added_first s state position others one other =
    added_as (λ site. IsAskedIn s state others site ⊎ AsksFor s state position site) (IsAskedIn s state (position ∷ others))
    (added_both (IsAskedIn s state others) (AsksFor s state position) one other)
    (λ site asked. elim asked [
      | inl old ↦ inr old
      | inr new ↦ inl new
    ])
    (λ site asked. elim asked [
      | inl new ↦ inr new
      | inr old ↦ inl old
    ])

-- ---- operands, one by one

pub record HasOperands (before after : List ℕ) (state : State) (f : Frame) (count : ℕ) : Type 0 where
  pub each : (s : PlanScope) → HasAdded before after (IsAskedIn s state (operands_asked f count))

pub operands_none : (sites : List ℕ) (state : State) (f : Frame) → HasOperands sites sites state f 0
operands_none sites state f = record { each = λ s. added_none sites (IsAskedIn s state []) (λ site asked. asked) }

pub operands_next :
    {first middle last : List ℕ} (state : State) (f : Frame) (number next : ℕ) (slot : Slot)
    → next ≡ suc number
    → slot ≡ held state (operand f number)
    → HasOperands first middle state f number
    → HasAdded middle last (IsTested slot true)
    → HasOperands first last state f next
operands_next {first} {middle} {last} state f number next slot is holds has added = record {
  each = λ s.
      subst (λ (count : ℕ). HasAdded first last (IsAskedIn s state (operands_asked f count))) (sym is)
      (added_first s state (any_object (operand f number)) (operands_asked f number) (has.each s)
      (added_as (IsTested slot true) (AsksFor s state (any_object (operand f number))) added
      (λ site tested. sym holds ∙ tested.0)
      (λ site asked. (holds ∙ asked, refl))));
}

-- ---- what is added of the rest is added of all

pub record AddsAll (start now : List ℕ) (All Rest : ℕ → Type 0) : Type 0 where
  pub then : (after : List ℕ) → HasAdded now after Rest → HasAdded start after All

pub adds_start : (start : List ℕ) (All : ℕ → Type 0) → AddsAll start start All All
adds_start start All = record { then = λ after added. added }

pub adds_more :
    {start now next : List ℕ} {All : ℕ → Type 0} (Before One Rest : ℕ → Type 0)
    → AddsAll start now All Before
    → HasAdded now next One
    → ((site : ℕ) → Before site → One site ⊎ Rest site)
    → ((site : ℕ) → One site → Before site)
    → ((site : ℕ) → Rest site → Before site)
    → AddsAll start next All Rest
adds_more Before One Rest adds one parts here later = record {
  then = λ after rest.
      adds.then after
      (added_as (λ site. One site ⊎ Rest site) Before (added_both One Rest one rest)
      (λ site either. elim either [
        | inl now ↦ here site now
        | inr then ↦ later site then
      ])
      parts);
}

pub adds_end : {start now : List ℕ} {All : ℕ → Type 0} (Rest : ℕ → Type 0) → AddsAll start now All Rest → ((site : ℕ) → Rest site → ⊥) → HasAdded start now All
adds_end {start} {now} Rest adds none = adds.then now (added_none now Rest none)

-- ---- what reaches a site

from_itself :
    (objects : List VObject) (from to : ℕ)
    → IsReached (Virt from ∷ []) objects to
    → (from ≡ to) ⊎ IsPath objects from to
from_itself objects from to (from_slot site named) = elim (or_cases (from == to) false named) [
  | inl same ↦ inl (eqb-true from to same)
  | inr none ↦ absurd (false≢true none)
]
from_itself objects from to (from_field middle site reached edge) = elim (from_itself objects from middle reached) [
  | inl same ↦ inr (one_edge from to (subst (λ (one : ℕ). Rattle.virtual_state.specs.States.IsEdge objects one to) (sym same) edge))
  | inr path ↦ inr (longer path edge)
] where
  longer : {one : ℕ} → IsPath objects one middle → Rattle.virtual_state.specs.States.IsEdge objects middle to → IsPath objects one to
  longer (one_edge one middle first) last = edge_and_path one middle to first (one_edge middle to last)
  longer (edge_and_path one next middle first path) last = edge_and_path one next to first (longer path last)

along : (objects : List VObject) (away : ℕ → Bool) → IsClosed away objects → {from to : ℕ} → IsPath objects from to → IsTrue (away from) → IsTrue (away to)
along objects away closed (one_edge from to edge) there = closed from to edge there
along objects away closed (edge_and_path from middle to edge path) there = along objects away closed path (closed from middle edge there)

pub reaches_is :
    (objects : List VObject) (sites closed_set : List ℕ) (from to : ℕ)
    → ((one : ℕ) → has sites one ≡ (has [] one || from == one))
    → IsClosure sites objects closed_set
    → IsTrue (has closed_set to) ↔ ((from ≡ to) ⊎ IsPath objects from to)
reaches_is objects sites closed_set from to one closure = (there, back)
  where
    found : Reach (Virt from ∷ []) objects
    found = reach (Virt from ∷ []) objects

    starts : (site : ℕ) → IsTrue (has sites site) → IsTrue (found.set site)
    starts site is = found.starts site (or_left (from == site) false (elim (or_cases false (from == site) (sym (one site) ∙ is)) [
      | inl none ↦ absurd (false≢true none)
      | inr same ↦ same
    ]))

    there : IsTrue (has closed_set to) → (from ≡ to) ⊎ IsPath objects from to
    there is = from_itself objects from to (found.only to (closure.least found.set starts found.closed to is))

    start : IsTrue (has closed_set from)
    start = closure.starts from (one from ∙ or_right (has [] from) (from == from) (eq-eqb from from refl))

    back : (from ≡ to) ⊎ IsPath objects from to → IsTrue (has closed_set to)
    back (inl same) = subst (λ (site : ℕ). IsTrue (has closed_set site)) same start
    back (inr path) = along objects (has closed_set) closure.closed path start
