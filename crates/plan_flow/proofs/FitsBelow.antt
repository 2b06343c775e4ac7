-- Whether a state is below another one can be told, and where it isn't, some object of the other one must be made in each state above both.
use Rattle.std.proofs.Common.{◌≡◌, ℕ, ◌==◌, Bool, false, List, [], ◌∷◌, map, Some, None, is_some, IsTrue, IsFalse, refl, sym, ap, subst, ◌∙◌, inl, inr, ◌⊎◌}
use Rattle.std.proofs.lemmas.Bool.{cases_Bool, or_cases, or_left, or_right, eq-eqb, eqb-true, false≢true, true≢false, both_ways, not_from_true, not_from_false, not-true}
use Rattle.std.proofs.lemmas.Option.{none-some, same_Some}
use Rattle.virtual_state.specs.Orders.{IsBelow}
use Rattle.virtual_state.specs.Sites.{has}
use Rattle.virtual_state.specs.States.{State, IsState, object_of, is_present, is_virtual, is_unusable, names, sites_of}
use Rattle.virtual_state.specs.Without.{IsClosed, made_plain, object_without, objects_without, without}
use Rattle.virtual_state.specs.declared.slot.Slot.{Slot}
use Rattle.virtual_state.specs.declared.slot.Slot.TheVariants.{Plain, Virt, Unusable}
use Rattle.virtual_state.specs.declared.slot.VObject.{VObject}
use Rattle.virtual_state.specs.Laws.Fields.{made, plain_slot, kept_slot}
use Rattle.virtual_state.specs.Laws.Objects.{same_or_not, some_or_none, found_site, found_present, present_found, same_objects}
use Rattle.virtual_state.specs.Laws.Orders.{absent, below_without, below_is_without, below_is_closed}
use Rattle.virtual_state.specs.Laws.Removals.{gone, still_found, without_in_order}
use Rattle.plan_flow.proofs.LeastAbove.{MustGo}
use Rattle.plan_flow.proofs.Moving.{plain≢virt, same_site}
use Rattle.plan_flow.proofs.PlanLaws.{present_below}
use Rattle.plan_flow.proofs.Reached.{present_among}

-- ---- two slots

-- What a state above both makes of the slots is one slot.
abbrev pub Meet : (ℕ → Bool) → Slot → Slot → Type 0
Meet away low high = made_plain away low ≡ made_plain away high

-- a slot of the greater state, and an object that must be made for them to meet
pub record SlotFault (high : State) (low_slots high_slots : List Slot) : Type 0 where
  pub site : ℕ
  pub present : IsTrue (is_present high.objects site)
  -- it is named on one of both sides
  pub named : IsTrue (names low_slots site) ⊎ IsTrue (names high_slots site)
  pub gone : (away : ℕ → Bool) → made away low_slots ≡ made away high_slots → IsTrue (away site)

meets_plain : (away : ℕ → Bool) (site : ℕ) → Plain ≡ made_plain away (Virt site) → IsTrue (away site)
meets_plain away site same =
    elim (cases_Bool (away site)) [
      | inl there ↦ there
      | inr kept ↦ absurd (plain≢virt (same ∙ kept_slot away site kept))
    ]

meets_other : (away : ℕ → Bool) (one other : ℕ) → made_plain away (Virt one) ≡ made_plain away (Virt other) → (one == other) ≡ false → IsTrue (away other)
meets_other away one other same differ =
    elim (cases_Bool (away other)) [
      | inl there ↦ there
      | inr kept ↦ elim (cases_Bool (away one)) [
        | inl gone_one ↦ absurd (plain≢virt (sym (plain_slot away one gone_one) ∙ same ∙ kept_slot away other kept))
        | inr kept_one ↦ absurd (true≢false (sym (eq-eqb one other (same_site (sym (kept_slot away one kept_one) ∙ same ∙ kept_slot away other kept))) ∙ differ))
      ]
    ]

-- a pair of slots of places that are usable in both or in neither: the greater is the lesser, made, or an object must be made
pair_fits :
    (high : State) (low_slot high_slot : Slot)
    → ((site : ℕ) → IsTrue (is_virtual site high_slot) → IsTrue (is_present high.objects site))
    → is_unusable low_slot ≡ is_unusable high_slot
    → (high_slot ≡ made_plain (absent high) low_slot)
    ⊎ ((site : ℕ) × IsTrue (is_present high.objects site) × (IsTrue (is_virtual site low_slot) ⊎ IsTrue (is_virtual site high_slot)) × ((away : ℕ → Bool) → Meet away low_slot high_slot → IsTrue (away site)))
pair_fits high Plain Plain there same = inl refl
pair_fits high Plain (Virt site) there same = inr (site, there site (eq-eqb site site refl), inr (eq-eqb site site refl), λ away meet. meets_plain away site meet)
pair_fits high Plain Unusable there same = absurd (false≢true same)
pair_fits high Unusable Plain there same = absurd (true≢false same)
pair_fits high Unusable (Virt site) there same = absurd (true≢false same)
pair_fits high Unusable Unusable there same = inl refl
pair_fits high (Virt site) Unusable there same = absurd (false≢true same)
pair_fits high (Virt site) Plain there same =
    elim (cases_Bool (is_present high.objects site)) [
      | inl present ↦ inr (site, present, inl (eq-eqb site site refl), λ away meet. meets_plain away site (sym meet))
      | inr none ↦ inl (sym (plain_slot (absent high) site (not_from_false (is_present high.objects site) none)))
    ]
pair_fits high (Virt one) (Virt other) there same =
    elim (cases_Bool (one == other)) [
      | inl equal ↦
          let sites = eqb-true one other equal in
          let present = there other (eq-eqb other other refl) in
          inl (ap Virt (sym sites) ∙ sym (kept_slot (absent high) one (ap (absent high) sites ∙ not_from_true (is_present high.objects other) present)))
      | inr differ ↦ inr (other, there other (eq-eqb other other refl), inr (eq-eqb other other refl), λ away meet. meets_other away one other meet differ)
    ]

heads_of : {one other : Slot} {ones others : List Slot} → one ∷ ones ≡ other ∷ others → one ≡ other
heads_of same = cc

tails_of : {one other : Slot} {ones others : List Slot} → one ∷ ones ≡ other ∷ others → ones ≡ others
tails_of same = cc

heads_of_tests : {one other : Bool} {ones others : List Bool} → one ∷ ones ≡ other ∷ others → one ≡ other
heads_of_tests same = cc

tails_of_tests : {one other : Bool} {ones others : List Bool} → one ∷ ones ≡ other ∷ others → ones ≡ others
tails_of_tests same = cc

-- the same of slots
pub slots_fit :
    (high : State) (low_slots high_slots : List Slot)
    → ((site : ℕ) → IsTrue (names high_slots site) → IsTrue (is_present high.objects site))
    → map is_unusable low_slots ≡ map is_unusable high_slots
    → (high_slots ≡ made (absent high) low_slots) ⊎ SlotFault high low_slots high_slots
slots_fit high [] [] there same = inl refl
slots_fit high [] (slot ∷ high_slots) there same = absurd cc
slots_fit high (slot ∷ low_slots) [] there same = absurd cc
slots_fit high (low_slot ∷ low_slots) (high_slot ∷ high_slots) there same =
    elim (pair_fits high low_slot high_slot (λ site virtual. there site (or_left (is_virtual site high_slot) (names high_slots site) virtual)) (heads_of_tests same)) [
      | inl fits ↦ elim (slots_fit high low_slots high_slots (λ site named. there site (or_right (is_virtual site high_slot) (names high_slots site) named)) (tails_of_tests same)) [
        | inl rest ↦ inl (λ i. fits i ∷ rest i)
        | inr fault ↦ inr (record {
          site = fault.site;
          present = fault.present;
          named = elim fault.named [
            | inl low ↦ inl (or_right (is_virtual fault.site low_slot) (names low_slots fault.site) low)
            | inr above ↦ inr (or_right (is_virtual fault.site high_slot) (names high_slots fault.site) above)
          ];
          gone = λ away meet. fault.gone away (tails_of meet);
        })
      ]
      | inr fault ↦ inr (record {
        site = fault.0;
        present = fault.1;
        named = elim fault.2 [
          | inl low ↦ inl (or_left (is_virtual fault.0 low_slot) (names low_slots fault.0) low)
          | inr above ↦ inr (or_left (is_virtual fault.0 high_slot) (names high_slots fault.0) above)
        ];
        gone = λ away meet. fault.3 away (heads_of meet);
      })
    ]

-- ---- each of a list, or a fault

each_or :
    (Holds : ℕ → Type 0) (Fault : Type 0) (sites : List ℕ)
    → ((site : ℕ) → Holds site ⊎ Fault)
    → ((site : ℕ) → IsTrue (has sites site) → Holds site) ⊎ Fault
each_or Holds Fault [] check = inl (λ site among. absurd (false≢true among))
each_or Holds Fault (first ∷ sites) check =
    elim (check first) [
      | inl holds ↦ elim (each_or Holds Fault sites check) [
        | inl rest ↦ inl (λ site among. elim (or_cases (first == site) (has sites site) among) [
          | inl same ↦ subst Holds (eqb-true first site same) holds
          | inr there ↦ rest site there
        ])
        | inr fault ↦ inr fault
      ]
      | inr fault ↦ inr fault
    ]

-- ---- what a state above two has

object_above :
    (low above : State) (site : ℕ) (object : VObject)
    → IsState low
    → IsBelow low above
    → object_of low.objects site ≡ Some object
    → IsTrue (is_present above.objects site)
    → object_of above.objects site ≡ Some (object_without (absent above) object)
object_above low above site object is below there present =
    ap (λ (state : State). object_of state.objects site) (below_is_without low above is below)
    ∙ still_found (absent above) low.objects site object there (not_from_true (is_present above.objects site) present)

-- the objects of a site that are there above two
two_above :
    (low high above : State) (site : ℕ) (one other : VObject)
    → IsState low
    → IsState high
    → IsBelow low above
    → IsBelow high above
    → object_of low.objects site ≡ Some one
    → object_of high.objects site ≡ Some other
    → IsTrue (is_present above.objects site)
    → object_without (absent above) one ≡ object_without (absent above) other
two_above low high above site one other is_low is_high up also there there_also present =
    same_Some (object_without (absent above) one) (object_without (absent above) other)
    (sym (object_above low above site one is_low up there present) ∙ object_above high above site other is_high also there_also present)

-- ---- objects

pub record SameFieldCounts (low high : State) : Type 0 where
  pub each :
      (site : ℕ) (one other : VObject)
      → object_of low.objects site ≡ Some one
      → object_of high.objects site ≡ Some other
      → map is_unusable one.fields ≡ map is_unusable other.fields

record HasObject (low high : State) (site : ℕ) : Type 0 where
  pub each :
      (object : VObject)
      → object_of high.objects site ≡ Some object
      → (one : VObject) × (object_of low.objects site ≡ Some one) × (object.depth ≡ one.depth) × (object.fields ≡ made (absent high) one.fields)

abbrev Fault : State → State → Type 0
Fault low high = MustGo (IsBelow low) high

-- an object that differs must go
absent_goes :
    (low high : State) (site : ℕ)
    → IsTrue (is_present high.objects site)
    → ((above : State) → IsBelow high above → IsBelow low above → IsTrue (is_present above.objects site) → ⊥)
    → Fault low high
absent_goes low high site present never = record {
  site = site;
  present = present;
  gone = λ above up also. elim (cases_Bool (is_present above.objects site)) [
    | inl there ↦ absurd (never above up also there)
    | inr none ↦ none
  ];
}

-- a field that differs
field_goes :
    (low high : State) (site : ℕ) (one other : VObject)
    → IsState low
    → IsState high
    → object_of low.objects site ≡ Some one
    → object_of high.objects site ≡ Some other
    → SlotFault high one.fields other.fields
    → Fault low high
field_goes low high site one other is_low is_high there there_also fault = record {
  site = fault.site;
  present = fault.present;
  gone = λ above up also. not-true (is_present above.objects fault.site) (elim (cases_Bool (is_present above.objects site)) [
    | inl present ↦ fault.gone (absent above) (ap (λ (object : VObject). object.fields) (two_above low high above site one other is_low is_high also up there there_also present))
    | inr none ↦ elim fault.named [
      | inl in_low ↦ below_is_closed low above is_low also site fault.site (record { object = one; there = there; named = in_low }) (not_from_false (is_present above.objects site) none)
      | inr in_high ↦ below_is_closed high above is_high up site fault.site (record { object = other; there = there_also; named = in_high }) (not_from_false (is_present above.objects site) none)
    ]
  ]);
}

number_decided : (one other : ℕ) → (one ≡ other) ⊎ (one ≡ other → ⊥)
number_decided one other = same_or_not one other

object_fits :
    (low high : State) (site : ℕ)
    → IsState low
    → IsState high
    → SameFieldCounts low high
    → HasObject low high site ⊎ Fault low high
object_fits low high site is_low is_high counts = go (some_or_none (object_of high.objects site)) (some_or_none (object_of low.objects site)) where
  of_fields :
      (one other : VObject)
      → object_of low.objects site ≡ Some one
      → object_of high.objects site ≡ Some other
      → other.depth ≡ one.depth
      → (other.fields ≡ made (absent high) one.fields) ⊎ SlotFault high one.fields other.fields
      → HasObject low high site ⊎ Fault low high
  of_fields one other there there_also depth (inl fits) = inl (record {
    each = λ object is.
        let same = same_Some other object (sym there_also ∙ is) in
        (one, there, ap (λ (o : VObject). o.depth) (sym same) ∙ depth, ap (λ (o : VObject). o.fields) (sym same) ∙ fits);
  })
  of_fields one other there there_also depth (inr fault) = inr (field_goes low high site one other is_low is_high there there_also fault)

  of_depth :
      (one other : VObject)
      → object_of low.objects site ≡ Some one
      → object_of high.objects site ≡ Some other
      → (other.depth ≡ one.depth) ⊎ (other.depth ≡ one.depth → ⊥)
      → HasObject low high site ⊎ Fault low high
  of_depth one other there there_also (inr differ) = inr (absent_goes low high site (present_found high.objects site other there_also) (λ above up also present. differ (sym (ap (λ (object : VObject). object.depth) (two_above low high above site one other is_low is_high also up there there_also present)))))
  of_depth one other there there_also (inl same) = of_fields one other there there_also same
      (slots_fit high one.fields other.fields (λ to named. is_high.fields site to (record { object = other; there = there_also; named = named })) (counts.each site one other there there_also))

  go :
      ((object : VObject) × (object_of high.objects site ≡ Some object)) ⊎ (object_of high.objects site ≡ None)
      → ((object : VObject) × (object_of low.objects site ≡ Some object)) ⊎ (object_of low.objects site ≡ None)
      → HasObject low high site ⊎ Fault low high
  go (inr none) low_object = inl (record { each = λ object is. absurd (none-some object (sym none ∙ is)) })
  go (inl found) (inr none) = inr (absent_goes low high site (present_found high.objects site found.0 found.1) (λ above up also present.
      let there = found_present low.objects site (present_below low above site also present) in
      none-some there.0 (sym none ∙ there.1)))
  go (inl found) (inl one) = of_depth one.0 found.0 one.1 found.1 (number_decided found.0.depth one.0.depth)

-- ---- objects that are lost

record LosesAll (low high : State) (site : ℕ) : Type 0 where
  pub each :
      (object : VObject) (to : ℕ)
      → object_of low.objects site ≡ Some object
      → IsFalse (is_present high.objects site)
      → IsTrue (names object.fields to)
      → IsFalse (is_present high.objects to)

pub fields_lost :
    (high : State) (slots : List Slot)
    → ((to : ℕ) → IsTrue (names slots to) → IsFalse (is_present high.objects to))
    ⊎ ((to : ℕ) × IsTrue (names slots to) × IsTrue (is_present high.objects to))
fields_lost high [] = inl (λ to named. absurd (false≢true named))
fields_lost high (Plain ∷ slots) = fields_lost high slots
fields_lost high (Unusable ∷ slots) = fields_lost high slots
fields_lost high (Virt site ∷ slots) =
    elim (cases_Bool (is_present high.objects site)) [
      | inl present ↦ inr (site, or_left (site == site) (names slots site) (eq-eqb site site refl), present)
      | inr none ↦ elim (fields_lost high slots) [
        | inl rest ↦ inl (λ to named. elim (or_cases (site == to) (names slots to) named) [
          | inl same ↦ subst (λ (one : ℕ). IsFalse (is_present high.objects one)) (eqb-true site to same) none
          | inr there ↦ rest to there
        ])
        | inr found ↦ inr (found.0, or_right (site == found.0) (names slots found.0) found.1, found.2)
      ]
    ]

lost_fits :
    (low high : State) (site : ℕ)
    → IsState low
    → IsState high
    → LosesAll low high site ⊎ Fault low high
lost_fits low high site is_low is_high = go (some_or_none (object_of low.objects site)) (cases_Bool (is_present high.objects site)) where
  of_fields :
      (one : VObject)
      → object_of low.objects site ≡ Some one
      → IsFalse (is_present high.objects site)
      → ((to : ℕ) → IsTrue (names one.fields to) → IsFalse (is_present high.objects to)) ⊎ ((to : ℕ) × IsTrue (names one.fields to) × IsTrue (is_present high.objects to))
      → LosesAll low high site ⊎ Fault low high
  of_fields one there none (inl all) = inl (record { each = λ object to is lost named. all to (subst (λ (o : VObject). IsTrue (names o.fields to)) (sym (same_Some one object (sym there ∙ is))) named) })
  of_fields one there none (inr found) = inr (absent_goes low high found.0 found.2 (λ above up also present.
      let lost : IsTrue (absent above site) = elim (cases_Bool (is_present above.objects site)) [
        | inl still ↦ absurd (both_ways (is_present high.objects site) none (present_below high above site up still))
        | inr gone_too ↦ not_from_false (is_present above.objects site) gone_too
      ] in
      let follows = below_is_closed low above is_low also site found.0 (record { object = one; there = there; named = found.1 }) lost in
      both_ways (is_present above.objects found.0) (not-true (is_present above.objects found.0) follows) present))

  go :
      ((object : VObject) × (object_of low.objects site ≡ Some object)) ⊎ (object_of low.objects site ≡ None)
      → IsTrue (is_present high.objects site) ⊎ IsFalse (is_present high.objects site)
      → LosesAll low high site ⊎ Fault low high
  go (inr none) present = inl (record { each = λ object to is lost named. absurd (none-some object (sym none ∙ is)) })
  go (inl one) (inl present) = inl (record { each = λ object to is lost named. absurd (both_ways (is_present high.objects site) lost present) })
  go (inl one) (inr none) = of_fields one.0 one.1 none (fields_lost high one.0.fields)

-- ---- the states

fits_is_below :
    (low high : State)
    → IsState low
    → IsState high
    → high.slots ≡ made (absent high) low.slots
    → ((site : ℕ) → IsTrue (has (sites_of high.objects) site) → HasObject low high site)
    → ((site : ℕ) → IsTrue (has (sites_of low.objects) site) → LosesAll low high site)
    → IsBelow low high
fits_is_below low high is_low is_high slots objects lost =
    subst (IsBelow low) (sym same) (below_without low (absent high) is_low closed) where
      closed : IsClosed (absent high) low.objects
      closed = λ from to edge gone_from. not_from_false (is_present high.objects to)
          ((lost from (present_among low.objects from (present_found low.objects from edge.object edge.there))).each edge.object to edge.there (not-true (is_present high.objects from) gone_from) edge.named)

      found : (site : ℕ) → object_of high.objects site ≡ object_of (objects_without (absent high) low.objects) site
      found site = elim (some_or_none (object_of high.objects site)) [
        | inl there ↦
            let present = present_found high.objects site there.0 there.1 in
            let one = (objects site (present_among high.objects site present)).each there.0 there.1 in
            let sites : there.0.site ≡ one.0.site = found_site high.objects site there.0 there.1 ∙ sym (found_site low.objects site one.0 one.1) in
            let same_object : there.0 ≡ object_without (absent high) one.0 = λ i. record { site = sites i; fields = one.3 i; depth = one.2 i } in
            there.1 ∙ ap Some same_object ∙ sym (still_found (absent high) low.objects site one.0 one.1 (not_from_true (is_present high.objects site) present))
        | inr none ↦ none ∙ sym (gone (absent high) low.objects site (not_from_false (is_present high.objects site) (ap is_some none)))
      ]

      same : high ≡ without low (absent high)
      same =
          let same_all = same_objects high.objects (objects_without (absent high) low.objects) is_high.order (without_in_order (absent high) low.objects is_low.order) found in
          λ i. record { slots = slots i; objects = same_all i }

-- A state is below another one of the same places, or some object of the other one must be made in each state above both.
pub below_or_fault :
    (low high : State)
    → IsState low
    → IsState high
    → map is_unusable low.slots ≡ map is_unusable high.slots
    → SameFieldCounts low high
    → IsBelow low high ⊎ MustGo (IsBelow low) high
below_or_fault low high is_low is_high places counts =
    elim (slots_fit high low.slots high.slots is_high.places places) [
      | inl slots ↦ elim (each_or (HasObject low high) (Fault low high) (sites_of high.objects) (λ site. object_fits low high site is_low is_high counts)) [
        | inl objects ↦ elim (each_or (LosesAll low high) (Fault low high) (sites_of low.objects) (λ site. lost_fits low high site is_low is_high)) [
          | inl lost ↦ inl (fits_is_below low high is_low is_high slots objects lost)
          | inr fault ↦ inr fault
        ]
        | inr fault ↦ inr fault
      ]
      | inr fault ↦ inr (record {
        site = fault.site;
        present = fault.present;
        gone = λ above up also.
            let one = ap (λ (state : State). state.slots) (below_is_without low above is_low also) in
            let other = ap (λ (state : State). state.slots) (below_is_without high above is_high up) in
            not-true (is_present above.objects fault.site) (fault.gone (absent above) (sym one ∙ other));
      })
    ]
