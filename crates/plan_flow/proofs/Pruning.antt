-- The states of slots with the objects that they reach, where the objects of a closed set are made.
use Rattle.std.proofs.Common.{◌≡◌, ℕ, Bool, List, IsFalse, sym, ap, subst, ◌∙◌, inl, inr}
use Rattle.std.specs.Option.{option_map}
use Rattle.std.proofs.lemmas.Bool.{cases_Bool, both_ways}
use Rattle.virtual_state.specs.Making.{IsStateOf}
use Rattle.virtual_state.specs.Orders.{IsBelow}
use Rattle.virtual_state.specs.States.{State, IsState, IsReached, from_slot, from_field, object_of}
use Rattle.virtual_state.specs.Without.{IsClosed, object_without, objects_without, without}
use Rattle.virtual_state.specs.declared.slot.Slot.{Slot}
use Rattle.virtual_state.specs.declared.slot.VObject.{VObject}
use Rattle.virtual_state.specs.Laws.Fields.{made, named_before}
use Rattle.virtual_state.specs.Laws.Objects.{some_or_none, present_found, same_objects}
use Rattle.virtual_state.specs.Laws.Orders.{below_without}
use Rattle.virtual_state.specs.Laws.Removals.{gone, stays, edge_before, reached_behind, without_in_order}

-- ---- one state

-- Two states of one list of slots and objects are one.
pub state_of_is_one :
    (slots : List Slot) (objects : List VObject) (one other : State)
    → IsState one
    → IsState other
    → IsStateOf slots objects one
    → IsStateOf slots objects other
    → one ≡ other
state_of_is_one slots objects one other first second of_one of_other =
    let same_slots : one.slots ≡ other.slots = of_one.same_slots ∙ sym of_other.same_slots in
    let found = same_objects one.objects other.objects first.order second.order (λ site. elim (some_or_none (object_of one.objects site)) [
      | inl there ↦
          let reached = of_one.reached site (present_found one.objects site there.0 there.1) in
          of_one.kept site reached ∙ sym (of_other.kept site reached)
      | inr none ↦ elim (some_or_none (object_of other.objects site)) [
        | inl there ↦
            let reached = of_other.reached site (present_found other.objects site there.0 there.1) in
            of_one.kept site reached ∙ sym (of_other.kept site reached)
        | inr also ↦ none ∙ sym also
      ]
    ]) in
    λ i. record { slots = same_slots i; objects = found i }

-- ---- what is reached where objects are made

pub record WasReached (away : ℕ → Bool) (slots : List Slot) (objects : List VObject) (site : ℕ) : Type 0 where
  pub reached : IsReached slots objects site
  pub kept : IsFalse (away site)

pub reached_before :
    (away : ℕ → Bool) (slots : List Slot) (objects : List VObject)
    → {site : ℕ}
    → IsReached (made away slots) (objects_without away objects) site
    → WasReached away slots objects site
reached_before away slots objects (from_slot site named) =
    let before = named_before away slots site named in
    record { reached = from_slot site before.0; kept = before.1 }
reached_before away slots objects (from_field from site reached edge) =
    let was = edge_before away objects from site edge in
    record { reached = from_field from site (reached_before away slots objects reached).reached was.edge; kept = was.to_stays }

-- ---- the order

-- each edge of what is reached is one of the objects
closed_in_state :
    (away : ℕ → Bool) (slots : List Slot) (objects : List VObject) (state : State)
    → IsStateOf slots objects state
    → IsClosed away objects
    → IsClosed away state.objects
closed_in_state away slots objects state of_state closed = λ from to edge.
    let reached = of_state.reached from (present_found state.objects from edge.object edge.there) in
    closed from to (record { object = edge.object; there = sym (of_state.kept from reached) ∙ edge.there; named = edge.named })

pub state_of_below :
    (away : ℕ → Bool) (slots : List Slot) (objects : List VObject) (low high : State)
    → IsState low
    → IsState high
    → IsClosed away objects
    → IsStateOf slots objects low
    → IsStateOf (made away slots) (objects_without away objects) high
    → IsBelow low high
state_of_below away slots objects low high is_low is_high closed of_low of_high =
    let closed_low = closed_in_state away slots objects low of_low closed in
    subst (λ (state : State). IsBelow low state) (sym same) (below_without low away is_low closed_low) where
      found : (site : ℕ) → object_of high.objects site ≡ object_of (objects_without away low.objects) site
      found site = elim (cases_Bool (away site)) [
        | inl is_away ↦ elim (some_or_none (object_of high.objects site)) [
          | inl there ↦ absurd (both_ways (away site) (reached_before away slots objects (of_high.reached site (present_found high.objects site there.0 there.1))).kept is_away)
          | inr none ↦ none ∙ sym (gone away low.objects site is_away)
        ]
        | inr not_away ↦ elim (some_or_none (object_of low.objects site)) [
          | inl there ↦
              let reached = of_low.reached site (present_found low.objects site there.0 there.1) in
              of_high.kept site (reached_behind away slots objects closed reached not_away)
              ∙ stays away objects site not_away
              ∙ ap (option_map (object_without away)) (sym (of_low.kept site reached))
              ∙ sym (stays away low.objects site not_away)
          | inr none ↦ elim (some_or_none (object_of high.objects site)) [
            | inl there ↦
                let reached = of_high.reached site (present_found high.objects site there.0 there.1) in
                let was = reached_before away slots objects reached in
                of_high.kept site reached
                ∙ stays away objects site not_away
                ∙ ap (option_map (object_without away)) (sym (of_low.kept site was.reached))
                ∙ sym (stays away low.objects site not_away)
            | inr also ↦ also ∙ sym (stays away low.objects site not_away ∙ ap (option_map (object_without away)) none)
          ]
        ]
      ]

      same : high ≡ without low away
      same =
          let slots_same : high.slots ≡ made away low.slots = of_high.same_slots ∙ ap (made away) (sym of_low.same_slots) in
          let objects_same = same_objects high.objects (objects_without away low.objects) is_high.order (without_in_order away low.objects is_low.order) found in
          λ i. record { slots = slots_same i; objects = objects_same i }
