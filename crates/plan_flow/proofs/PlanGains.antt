-- What a plan saves, by what it has of its points and edges alone.
use Rattle.std.proofs.Common.{◌≡◌, ◌+◌, ◌-◌, ◌<◌, ◌≤◌, ◌&&◌, ◌||◌, ℕ, zero, suc, Bool, true, false, not, List, [], ◌∷◌, length, map, slice_get, Option, Some, None, is_some, IsTrue, IsFalse, refl, sym, ap, subst, ◌∙◌, inl, inr, ◌⊎◌, arith}
use Rattle.std.specs.List.{list_any}
use Rattle.std.specs.Option.{option_map}
use Rattle.std.proofs.lemmas.Bool.{and_from, and_parts, cases_Bool, cases_lt, false≢true, true≢false}
use Rattle.std.proofs.lemmas.List.{length-append, length-map}
use Rattle.std.proofs.lemmas.Option.{none-some, same_Some}
use Rattle.class_model.specs.Frames.{is_top}
use Rattle.class_model.specs.declared.instr.Instr.TheVariants.{Return, Enter}
use Rattle.flow_code.specs.FlatCode.{FlatCode, point_at}
use Rattle.flow_code.specs.declared.point.FlatInstr.{FlatInstr}
use Rattle.flow_code.specs.declared.point.FlatInstr.TheVariants.{Of, NullTest}
use Rattle.flow_code.specs.declared.point.Point.{Point}
use Rattle.plan_flow.specs.Gain.{IsNormal, Gains, lost_on_edge, lost_at_return, entered}
use Rattle.plan_flow.specs.Inner.Gaining.{GainsAt, GainsBy, HasSite, IsLostOnEdge, is_before, is_behind, is_kept_virtual, is_normal, loses}
use Rattle.plan_flow.specs.PlanScope.{PlanScope, local_types, stack_types}
use Rattle.plan_flow.specs.PlanSlots.{held}
use Rattle.plan_flow.specs.PlanTable.{operand}
use Rattle.plan_flow.specs.Plans.{MadeEdge, PlannedPoint, Plan, planned, state_left, LeadsTo, AllLead, IsStateAt, IsValid}
use Rattle.plan_flow.specs.declared.edge.Edge.{Edge}
use Rattle.plan_flow.specs.declared.edge.EdgeKind.{EdgeKind}
use Rattle.plan_flow.specs.declared.edge.EdgeKind.TheVariants as edges
use Rattle.virtual_state.specs.Laws.Fields.{kept_slot, plain_slot}
use Rattle.virtual_state.specs.Laws.Orders.{absent, has_where}
use Rattle.virtual_state.specs.Laws.Removals.{gone, present_before, present_behind}
use Rattle.virtual_state.specs.Sites.{has, IsSiteFrom}
use Rattle.virtual_state.specs.States.{State, is_present, is_unusable}
use Rattle.virtual_state.specs.Without.{made_plain, objects_without, without}
use Rattle.virtual_state.specs.declared.slot.Slot.{Slot}
use Rattle.virtual_state.specs.declared.slot.Slot.TheVariants.{Plain, Virt, Unusable}
use Rattle.virtual_state.specs.declared.slot.VObject.{VObject}
use Rattle.plan_flow.proofs.EffectGrows.{effect_is_one}
use Rattle.plan_flow.proofs.Moving.{held_made, plain≢virt}
use Rattle.plan_flow.proofs.PlanLaws.{present_below}

pub not_false : (b : Bool) → not b ≡ true → b ≡ false
not_false true is = sym is
not_false false is = refl

unusable≢virt : {site : ℕ} → Unusable ≡ Virt site → ⊥
unusable≢virt same = cc

-- ---- edges

normal_edge : (by : EdgeKind) → IsTrue (is_normal by) → IsNormal by
normal_edge edges.Next is = tt
normal_edge (edges.Jump number) is = tt
normal_edge (edges.Handler number) is = false≢true is

edge_normal : (by : EdgeKind) → IsNormal by → IsTrue (is_normal by)
edge_normal edges.Next is = refl
edge_normal (edges.Jump number) is = refl
edge_normal (edges.Handler number) is = absurd is

-- an object is virtual behind an edge where it is so in the edge's state
behind_as :
    (plan : Plan) (edge : Edge) (made : MadeEdge) (site : ℕ)
    → LeadsTo plan edge made
    → is_behind plan site made ≡ is_present edge.state.objects site
behind_as plan edge made site leads =
    let target = leads.target.state in
    let among : has made.made site ≡ (is_present edge.state.objects site && absent target site) =
    ap (λ (sites : List ℕ). has sites site) leads.same_made
    ∙ has_where (absent target) edge.state.objects site in
    let before : is_before (planned plan made.to) site ≡ is_present target.objects site =
    ap (λ (to : ℕ). is_before (planned plan to) site) leads.same_to
    ∙ ap (λ (o : Option PlannedPoint). is_before o site) leads.reached in
    (λ i. among i || before i)
    ∙ go (is_present edge.state.objects site) (is_present target.objects site) (present_below edge.state target site leads.below) where
      go : (one other : Bool) → (other ≡ true → one ≡ true) → ((one && not other) || other) ≡ one
      go true true grows = refl
      go true false grows = refl
      go false true grows = sym (grows refl)
      go false false grows = refl

loses_as :
    (plan : Plan) (edge : Edge) (made : MadeEdge) (site : ℕ)
    → LeadsTo plan edge made
    → loses plan site made ≡ (is_normal edge.by && not (is_present edge.state.objects site))
loses_as plan edge made site leads =
    let behind = behind_as plan edge made site leads in
    λ i. is_normal (leads.same_by i) && not (behind i)

record LostOver (edges : List Edge) (site : ℕ) : Type 0 where
  number : ℕ
  edge : Edge
  is : slice_get edges number ≡ Some edge
  normal : IsNormal edge.by
  gone : IsFalse (is_present edge.state.objects site)

lost_over :
    (plan : Plan) (site : ℕ) (edges : List Edge) (mades : List MadeEdge)
    → AllLead plan edges mades
    → IsTrue (list_any (loses plan site) mades)
    → LostOver edges site
lost_over plan site [] [] lead lost = absurd (false≢true lost)
lost_over plan site [] (made ∷ mades) lead lost = absurd lead
lost_over plan site (edge ∷ edges) [] lead lost = absurd lead
lost_over plan site (edge ∷ edges) (made ∷ mades) lead lost =
    elim (cases_Bool (loses plan site made)) [
      | inl here ↦
          let parts =
          and_parts (is_normal edge.by) (not (is_present edge.state.objects site)) (sym (loses_as plan edge made site lead.0) ∙ here) in
          record {
            number = 0;
            edge = edge;
            is = refl;
            normal = normal_edge edge.by parts.0;
            gone = not_false (is_present edge.state.objects site) parts.1;
          }
      | inr other ↦
          let rest = lost_over plan site edges mades lead.1 (sym (ap (λ (b : Bool). b || list_any (loses plan site) mades) other) ∙ lost) in
          record { number = suc rest.number; edge = rest.edge; is = rest.is; normal = rest.normal; gone = rest.gone }
    ]

over_lost :
    (plan : Plan) (site : ℕ) (edges : List Edge) (mades : List MadeEdge) (number : ℕ) (edge : Edge)
    → AllLead plan edges mades
    → slice_get edges number ≡ Some edge
    → IsNormal edge.by
    → IsFalse (is_present edge.state.objects site)
    → IsTrue (list_any (loses plan site) mades)
over_lost plan site [] mades number edge lead is normal gone = absurd (none-some edge is)
over_lost plan site (first ∷ edges) [] number edge lead is normal gone = absurd lead
over_lost plan site (first ∷ edges) (made ∷ mades) zero edge lead is normal gone =
    let same : first ≡ edge = same_Some first edge is in
    let leads = subst (λ (one : Edge). LeadsTo plan one made) same lead.0 in
    let here : loses plan site made ≡ true =
    loses_as plan edge made site leads
    ∙ and_from (is_normal edge.by) (not (is_present edge.state.objects site)) (edge_normal edge.by normal) (ap not gone) in
    ap (λ (b : Bool). b || list_any (loses plan site) mades) here
over_lost plan site (first ∷ edges) (made ∷ mades) (suc number) edge lead is normal gone =
    or_behind (loses plan site made) (over_lost plan site edges mades number edge lead.1 is normal gone) where
      or_behind :
          (b : Bool)
          → IsTrue (list_any (loses plan site) mades)
          → IsTrue (b || list_any (loses plan site) mades)
      or_behind true rest = refl
      or_behind false rest = rest

-- ---- the last place

record IsVirtual (state : State) (place : ℕ) : Type 0 where
  site : ℕ
  is : held state place ≡ Virt site

kept_virtual :
    (made : List ℕ) (state : State) (place : ℕ) (left : State)
    → left ≡ without state (has made)
    → IsTrue (is_kept_virtual made (held state place))
    → IsVirtual left place
kept_virtual made state place left same kept = go (held state place) refl kept where
  go :
      (slot : Slot)
      → held state place ≡ slot
      → IsTrue (is_kept_virtual made slot)
      → IsVirtual left place
  go Plain is kept = absurd (false≢true kept)
  go Unusable is kept = absurd (false≢true kept)
  go (Virt site) is kept = record {
    site = site;
    is =
        ap (λ (one : State). held one place) same
        ∙ held_made (has made) state place
        ∙ ap (made_plain (has made)) is
        ∙ kept_slot (has made) site (not_false (has made site) kept);
  }

virtual_kept :
    (made : List ℕ) (state : State) (place site : ℕ)
    → held (without state (has made)) place ≡ Virt site
    → IsTrue (is_kept_virtual made (held state place))
virtual_kept made state place site is = go (held state place) (sym (held_made (has made) state place) ∙ is) where
  go : (slot : Slot) → made_plain (has made) slot ≡ Virt site → IsTrue (is_kept_virtual made slot)
  go Plain is = absurd (plain≢virt is)
  go Unusable is = absurd (unusable≢virt is)
  go (Virt one) is = elim (cases_Bool (has made one)) [
    | inl away ↦ absurd (plain≢virt (sym (plain_slot (has made) one away) ∙ is))
    | inr stays ↦ ap not stays
  ]

operand_last :
    (s : PlanScope) (at : ℕ) (state : State) (code : Point)
    → IsStateAt s at state
    → point_at s.flat at ≡ Some code
    → operand code.typed 0 ≡ length state.slots - 1
operand_last s at state code is is_code =
    let locals : local_types s.flat at ≡ code.typed.locals = rw is_code refl in
    let stack : stack_types s.flat at ≡ code.typed.stack = rw is_code refl in
    let sizes : length state.slots ≡ length (local_types s.flat at) + length (stack_types s.flat at) =
    sym (length-map state.slots is_unusable)
    ∙ ap (λ (list : List Bool). length list) is.places
    ∙ length-append (map is_top (local_types s.flat at)) (map (λ type. false) (stack_types s.flat at))
    ∙ (λ i. length-map (local_types s.flat at) is_top i + length-map (stack_types s.flat at) (λ type. false) i) in
    let all : length state.slots ≡ length code.typed.locals + length code.typed.stack =
    sizes
    ∙ (λ i. length (locals i) + length (stack i)) in
    omega (arith, all)

-- ---- points

pub gains_here :
    (s : PlanScope) (plan : Plan)
    → IsValid s plan
    → (at : ℕ)
    → GainsAt plan (planned plan at) (option_map (λ (point : Point). point.instr) (point_at s.flat at))
    → Gains s plan
gains_here s plan valid at gains = go (planned plan at) (point_at s.flat at) refl refl gains where
  by_instr :
      (point : PlannedPoint) (code : Point)
      → planned plan at ≡ Some point
      → point_at s.flat at ≡ Some code
      → (instr : FlatInstr)
      → code.instr ≡ instr
      → GainsBy instr point
      → Gains s plan
  by_instr point code is is_code (Of class (Return kind)) same by =
      lost_at_return at by.site class kind point code is by.present is_code same
  by_instr point code is is_code (Of class Enter) same by =
      let last = operand_last s at point.state code (valid.each at point is).is_planned.state is_code in
      let kept = kept_virtual point.made point.state (length point.state.slots - 1) (state_left point) refl by in
      entered at kept.site class point code is is_code same (ap (held (state_left point)) last ∙ kept.is)
  by_instr point code is is_code (Of class other) same by = absurd by
  by_instr point code is is_code (NullTest local) same by = absurd by

  go :
      (found : Option PlannedPoint) (code : Option Point)
      → planned plan at ≡ found
      → point_at s.flat at ≡ code
      → GainsAt plan found (option_map (λ (point : Point). point.instr) code)
      → Gains s plan
  go None code is is_code gains = absurd gains
  go (Some point) None is is_code gains = absurd gains
  go (Some point) (Some code) is is_code (inl by) = by_instr point code is is_code code.instr refl by
  go (Some point) (Some code) is is_code (inr lost) =
      let v = valid.each at point is in
      let over = lost_over plan lost.site v.edges point.edges v.lead lost.lost in
      lost_on_edge at lost.site over.number point v.edges over.edge is lost.present v.effect over.is over.normal over.gone

-- ---- each gain is found

pub record FoundAt (plan : Plan) (flat : FlatCode) : Type 0 where
  pub at : ℕ
  pub low : at < length flat.points
  pub gains : GainsAt plan (planned plan at) (option_map (λ (point : Point). point.instr) (point_at flat at))

planned_inside :
    (plan : Plan) (at : ℕ) (point : PlannedPoint)
    → planned plan at ≡ Some point
    → at < length plan
planned_inside [] at point is = absurd (none-some point is)
planned_inside (first ∷ plan) zero point is = omega arith
planned_inside (first ∷ plan) (suc at) point is = let low = planned_inside plan at point is in omega (arith, low)

point_inside :
    (points : List Point) (at : ℕ)
    → at < length points
    → (code : Point) × (slice_get points at ≡ Some code)
point_inside [] at low = absurd (omega (arith, low))
point_inside (first ∷ points) zero low = (first, refl)
point_inside (first ∷ points) (suc at) low = point_inside points at (omega (arith, low))

at_point :
    (plan : Plan) (flat : FlatCode) (at : ℕ) (point : PlannedPoint) (code : Point)
    → planned plan at ≡ Some point
    → point_at flat at ≡ Some code
    → GainsBy code.instr point ⊎ IsLostOnEdge plan point
    → GainsAt plan (planned plan at) (option_map (λ (point : Point). point.instr) (point_at flat at))
at_point plan flat at point code is is_code gains =
    subst (λ (o : Option PlannedPoint). GainsAt plan o (option_map (λ (point : Point). point.instr) (point_at flat at))) (sym is)
    (subst (λ (o : Option Point). GainsAt plan (Some point) (option_map (λ (point : Point). point.instr) o)) (sym is_code) gains)

pub gains_found :
    (s : PlanScope) (plan : Plan)
    → IsValid s plan
    → Gains s plan
    → FoundAt plan s.flat
gains_found s plan valid gains = go gains where
  inside :
      (at : ℕ) (point : PlannedPoint)
      → planned plan at ≡ Some point
      → at < length s.flat.points
  inside at point is = let low = planned_inside plan at point is in let same = valid.points in omega (arith, low, same)

  found :
      (at : ℕ) (point : PlannedPoint) (code : Point)
      → planned plan at ≡ Some point
      → point_at s.flat at ≡ Some code
      → GainsBy code.instr point ⊎ IsLostOnEdge plan point
      → FoundAt plan s.flat
  found at point code is is_code gains =
      record { at = at; low = inside at point is; gains = at_point plan s.flat at point code is is_code gains }

  go : Gains s plan → FoundAt plan s.flat
  go (lost_on_edge at site number point edges edge is present effect is_edge normal gone) =
      let v = valid.each at point is in
      let same = effect_is_one s at (state_left point) edges v.edges effect v.effect in
      let there = subst (λ (list : List Edge). slice_get list number ≡ Some edge) same is_edge in
      let code = point_inside s.flat.points at (inside at point is) in
      let lost = over_lost plan site v.edges point.edges number edge v.lead there normal gone in
      found at point code.0 is code.1 (inr (record { site = site; present = present; lost = lost }))
  go (lost_at_return at site class kind point code is present is_code same) =
      let left : HasSite (state_left point) = record { site = site; present = present } in
      found at point code is is_code (inl (subst (λ (instr : FlatInstr). GainsBy instr point) (sym same) left))
  go (entered at site class point code is is_code same is_held) =
      let last = operand_last s at point.state code (valid.each at point is).is_planned.state is_code in
      let there = sym (ap (held (state_left point)) last) ∙ is_held in
      let kept = virtual_kept point.made point.state (length point.state.slots - 1) site there in
      found at point code is is_code (inl (subst (λ (instr : FlatInstr). GainsBy instr point) (sym same) kept))

-- ---- sites one by one

-- no site from one number to another has an object
pub record AbsentUpTo (objects : List VObject) (first from : ℕ) : Type 0 where
  pub low : first ≤ from
  pub none : (site : ℕ) → first ≤ site → site < from → IsFalse (is_present objects site)

pub absent_at_first : (objects : List VObject) (first : ℕ) → AbsentUpTo objects first first
absent_at_first objects first = record { low = omega arith; none = λ site above below. absurd (omega arith) }

absent_left :
    (away : ℕ → Bool) (objects : List VObject) (site : ℕ)
    → IsFalse (is_present objects site)
    → IsFalse (is_present (objects_without away objects) site)
absent_left away objects site absent =
    elim (cases_Bool (is_present (objects_without away objects) site)) [
      | inl present ↦ absurd (true≢false (sym (present_before away objects site present) ∙ absent))
      | inr not_there ↦ not_there
    ]

-- those that a look-up of the state passes over
passed_over :
    (away : ℕ → Bool) (objects : List VObject) (first from to : ℕ)
    → AbsentUpTo (objects_without away objects) first from
    → from ≤ to
    → ((site : ℕ) → from ≤ site → site < to → IsFalse (is_present objects site))
    → AbsentUpTo (objects_without away objects) first to
passed_over away objects first from to absent up passed = record {
  low = let low = absent.low in omega (arith, low, up);
  none = λ site above below. elim (cases_lt site from) [
    | inl less ↦ absent.none site above less
    | inr more ↦ absent_left away objects site (passed site (omega (arith, more)) below)
  ];
}

pub left_next :
    (away : ℕ → Bool) (objects : List VObject) (first from site : ℕ)
    → AbsentUpTo (objects_without away objects) first from
    → IsSiteFrom objects from (Some site)
    → away site ≡ true
    → AbsentUpTo (objects_without away objects) first (site + 1)
left_next away objects first from site absent found is_away =
    let before = passed_over away objects first from site absent found.0 found.2 in
    record {
      low = let low = before.low in omega (arith, low);
      none = λ one above below. elim (cases_lt one site) [
        | inl less ↦ before.none one above less
        | inr more ↦
            let same : site ≡ one = omega (arith, more, below) in
            let none = ap is_some (gone away objects site is_away) in
            subst (λ (number : ℕ). IsFalse (is_present (objects_without away objects) number)) same none
      ];
    }

pub left_found :
    (away : ℕ → Bool) (objects : List VObject) (first from site : ℕ)
    → AbsentUpTo (objects_without away objects) first from
    → IsSiteFrom objects from (Some site)
    → away site ≡ false
    → IsSiteFrom (objects_without away objects) first (Some site)
left_found away objects first from site absent found stays =
    let before = passed_over away objects first from site absent found.0 found.2 in
    (before.low, present_behind away objects site found.1 stays, before.none)

pub left_none :
    (away : ℕ → Bool) (objects : List VObject) (first from : ℕ)
    → AbsentUpTo (objects_without away objects) first from
    → IsSiteFrom objects from None
    → IsSiteFrom (objects_without away objects) first None
left_none away objects first from absent none = λ site above. elim (cases_lt site from) [
  | inl less ↦ absent.none site above less
  | inr more ↦ absent_left away objects site (none site (omega (arith, more)))
]

-- no object of a site below a number is lost
pub record NoneLostBelow (plan : Plan) (point : PlannedPoint) (from : ℕ) : Type 0 where
  pub kept :
      (site : ℕ)
      → site < from
      → IsTrue (is_present (state_left point).objects site)
      → list_any (loses plan site) point.edges ≡ false

pub none_lost_below : (plan : Plan) (point : PlannedPoint) → NoneLostBelow plan point 0
none_lost_below plan point = record { kept = λ site below present. absurd (omega (arith, below)) }

pub kept_next :
    (plan : Plan) (point : PlannedPoint) (from site : ℕ)
    → NoneLostBelow plan point from
    → IsSiteFrom (state_left point).objects from (Some site)
    → list_any (loses plan site) point.edges ≡ false
    → NoneLostBelow plan point (site + 1)
kept_next plan point from site before found kept = record {
  kept = λ one below present. elim (cases_lt one from) [
    | inl less ↦ before.kept one less present
    | inr more ↦ elim (cases_lt one site) [
      | inl less ↦ absurd (true≢false (sym present ∙ found.2 one (omega (arith, more)) less))
      | inr above ↦
          let same : site ≡ one = omega (arith, above, below) in
          subst (λ (number : ℕ). list_any (loses plan number) point.edges ≡ false) same kept
    ]
  ];
}

pub none_is_lost :
    (plan : Plan) (point : PlannedPoint) (from : ℕ)
    → NoneLostBelow plan point from
    → IsSiteFrom (state_left point).objects from None
    → ¬ IsLostOnEdge plan point
none_is_lost plan point from before none lost = elim (cases_lt lost.site from) [
  | inl less ↦ true≢false (sym lost.lost ∙ before.kept lost.site less lost.present)
  | inr more ↦ true≢false (sym lost.present ∙ none lost.site (omega (arith, more)))
]
