-- The virtual objects of a valid plan are those of sites of the flat code.
use Rattle.std.proofs.Common.{◌≡◌, ◌⊎◌, ◌<◌, ◌+◌, ◌++◌, ◌==◌, ℕ, zero, suc, Bool, true, false, List, [], ◌∷◌, length, slice_get, Option, Some, None, is_some, IsTrue, refl, sym, ap, subst, ◌∙◌, arith, inl, inr}
use Rattle.std.specs.List.{AllByRecursion}
use Rattle.std.proofs.lemmas.Bool.{eqb-true, false≢true}
use Rattle.std.proofs.lemmas.Option.{none-some, same_Some}
use Rattle.class_model.specs.declared.frame.Frame.{Frame}
use Rattle.class_model.specs.declared.instr.Instr.{Instr}
use Rattle.class_model.specs.declared.instr.Instr.TheVariants.{Nop, Const, Ldc, Ldc2, Load, Store, Iinc, ArrayLoad, ArrayStore, Shuffle, Pure, Divide, FloatAsk, If, If2, IfSame, IfNull, Goto, Table, Lookup, Return, GetStatic, PutStatic, GetField, PutField, Invoke, Dynamic, New, NewArray, NewRefArray, NewMulti, Length, Throw, Cast, InstanceOf, Enter, Leave}
use Rattle.class_model.specs.PoolChecks.{class_at, descriptor_at}
use Rattle.class_model.specs.Pool.{Constants, constant_at}
use Rattle.class_model.specs.declared.descriptor.Kind.{Kind}
use Rattle.class_model.specs.declared.opcodes.TheConstants.{IF_ACMPEQ, IFNULL}
use Rattle.class_model.specs.declared.pool.Const.{Const as PoolConst}
use Rattle.class_model.specs.declared.pool.Const.TheVariants as consts
use Rattle.class_tree.specs.Headers.{Name}
use Rattle.flow_code.specs.FlatCode.{point_at}
use Rattle.flow_code.specs.declared.point.FlatInstr.{FlatInstr}
use Rattle.flow_code.specs.declared.point.FlatInstr.TheVariants.{Of, NullTest}
use Rattle.flow_code.specs.declared.point.Point.{Point}
use Rattle.flow_code.specs.declared.point.Site.{Site}
use Rattle.member_link.specs.Machine.CallSteps.{is_object_init}
use Rattle.member_link.specs.Machine.Programs.{number_of_first}
use Rattle.member_link.specs.References.{Reference}
use Rattle.member_link.specs.Rows.ShuffleRows.{Form, form_in, forms_of}
use Rattle.plan_flow.specs.Effect.{AreEdges, IsEffect, IsEffectIn}
use Rattle.plan_flow.specs.Must.{open_edges, row_of_point}
use Rattle.plan_flow.specs.PlanRows.{Change, PlanRow, RowEdge, enter_monitor, leave_monitor, new_object, no_change, put_field}
use Rattle.plan_flow.specs.PlanScope.{PlanScope, field_of, field_number, member_of, pool_of, site_at}
use Rattle.plan_flow.specs.PlanSlots.{at_depth, changed, edge_objects, held, put_in, with_depth_of, with_field}
use Rattle.plan_flow.specs.PlanTable.{call_row, cast_row, dynamic_row, get_field_row, instr_row, new_row, null_row, put_field_row, return_row, row_at, same_row, shuffle_row}
use Rattle.plan_flow.specs.Plans.{AllLead, IsLedTo, IsValid, LeadsTo, MadeEdge, Plan, PlannedPoint, at_start, over_edge, planned, state_left}
use Rattle.plan_flow.specs.declared.edge.Edge.{Edge}
use Rattle.plan_flow.specs.declared.edge.EdgeKind.{EdgeKind}
use Rattle.plan_flow.specs.declared.edge.EdgeKind.TheVariants as edges
use Rattle.virtual_state.specs.Laws.Objects.{found_site, present_found}
use Rattle.virtual_state.specs.Laws.Removals.{present_before}
use Rattle.virtual_state.specs.Sites.{has}
use Rattle.virtual_state.specs.States.{State, is_present, object_of}
use Rattle.virtual_state.specs.Without.{without}
use Rattle.virtual_state.specs.declared.slot.Slot.{Slot}
use Rattle.virtual_state.specs.declared.slot.Slot.TheVariants.{Plain, Virt, Unusable}
use Rattle.virtual_state.specs.declared.slot.VObject.{VObject}

-- each object that is present is of one of so many sites
pub record AreInside (count : ℕ) (objects : List VObject) : Type 0 where
  pub each : (site : ℕ) → IsTrue (is_present objects site) → site < count

-- ---- the site of a new

first_within : {A : Type 0} (passes : A → Bool) (items : List A) (number : ℕ) → number_of_first passes items ≡ Some number → number < length items
first_within passes [] number is = absurd (none-some number is)
first_within passes (item ∷ items) number is =
    by (passes item) refl (number_of_first passes items) refl (λ behind. first_within passes items behind) where
      by : (test : Bool) → passes item ≡ test → (found : Option ℕ) → number_of_first passes items ≡ found
          → ((behind : ℕ) → number_of_first passes items ≡ Some behind → behind < length items)
          → number < length (item ∷ items)
      by true told found rest low =
          let here : Some zero ≡ Some number = sym (rw told refl) ∙ is in
          let same = same_Some zero number here in
          omega (arith, same)
      by false told None rest low =
          let none : None ≡ Some number = sym (rw (told, rest) refl) ∙ is in
          absurd (none-some number none)
      by false told (Some behind) rest low =
          let here : Some (suc behind) ≡ Some number = sym (rw (told, rest) refl) ∙ is in
          let same = same_Some (suc behind) number here in
          let less = low behind rest in
          omega (arith, same, less)

-- ---- which object an instruction makes

abbrev MakesSite : Option ℕ → Change → Type 0
MakesSite found (new_object site) = found ≡ Some site
MakesSite found other = Unit {0}

module _ (s : PlanScope) (at : ℕ) (f : Frame) where
  abbrev Fine : PlanRow → Type 0
  Fine row = MakesSite (site_at s.flat at) row.change

  shuffle_fine : (form : Option Form) → Fine (shuffle_row f form)
  shuffle_fine None = tt
  shuffle_fine (Some form) = tt

  same_fine : (opcode : ℕ) → Fine (same_row f opcode)
  same_fine opcode = by (opcode == IF_ACMPEQ) refl where
    by : (test : Bool) → (opcode == IF_ACMPEQ) ≡ test → Fine (same_row f opcode)
    by true is = rw is tt
    by false is = rw is tt

  null_fine : (opcode : ℕ) → Fine (null_row f opcode)
  null_fine opcode = by (opcode == IFNULL) refl where
    by : (test : Bool) → (opcode == IFNULL) ≡ test → Fine (null_row f opcode)
    by true is = rw is tt
    by false is = rw is tt

  return_fine : (kind : Option Kind) → Fine (return_row f kind)
  return_fine None = tt
  return_fine (Some kind) = tt

  get_fine : (field : Option Reference) → Fine (get_field_row s f field)
  get_fine None = tt
  get_fine (Some field) = tt

  put_fine : (field : Option Reference) → Fine (put_field_row s f field)
  put_fine None = tt
  put_fine (Some field) = tt

  call_fine : (opcode : ℕ) (method : Option Reference) → Fine (call_row f opcode method)
  call_fine opcode None = tt
  call_fine opcode (Some method) = by (is_object_init method) refl where
    by : (test : Bool) → is_object_init method ≡ test → Fine (call_row f opcode (Some method))
    by true is = rw is tt
    by false is = rw is tt

  dynamic_fine : (pool : Constants) (found : Option PoolConst) → Fine (dynamic_row pool f found)
  dynamic_fine pool (Some (consts.InvokeDynamic bootstrap member)) = by (descriptor_at pool member) refl where
    by : (desc : Option (List ℕ)) → descriptor_at pool member ≡ desc → Fine (dynamic_row pool f (Some (consts.InvokeDynamic bootstrap member)))
    by None is = rw is tt
    by (Some desc) is = rw is tt
  dynamic_fine pool found = tt

  cast_fine : (name : Option Name) → Fine (cast_row f name)
  cast_fine None = tt
  cast_fine (Some name) = tt

  new_fine : (found : Option ℕ) → site_at s.flat at ≡ found → Fine (new_row f found)
  new_fine None is = tt
  new_fine (Some site) is = is

  instr_fine : (class : ℕ) (instr : Instr) → Fine (instr_row s at f class instr)
  instr_fine class Nop = tt
  instr_fine class (Const imm) = tt
  instr_fine class (Ldc index) = tt
  instr_fine class (Ldc2 index) = tt
  instr_fine class (Load kind local) = tt
  instr_fine class (Store kind local) = tt
  instr_fine class (Iinc local by) = tt
  instr_fine class (ArrayLoad opcode) = tt
  instr_fine class (ArrayStore opcode) = tt
  instr_fine class (Shuffle opcode) = shuffle_fine (form_in (forms_of opcode) f.stack)
  instr_fine class (Pure opcode) = tt
  instr_fine class (Divide opcode) = tt
  instr_fine class (FloatAsk opcode) = tt
  instr_fine class (If opcode target) = tt
  instr_fine class (If2 opcode target) = tt
  instr_fine class (IfSame opcode target) = same_fine opcode
  instr_fine class (IfNull opcode target) = null_fine opcode
  instr_fine class (Goto target) = tt
  instr_fine class (Table low other targets) = tt
  instr_fine class (Lookup other pairs) = tt
  instr_fine class (Return kind) = return_fine kind
  instr_fine class (GetStatic index) = tt
  instr_fine class (PutStatic index) = tt
  instr_fine class (GetField index) = get_fine (field_of s class index)
  instr_fine class (PutField index) = put_fine (field_of s class index)
  instr_fine class (Invoke opcode index count) = call_fine opcode (member_of s class index)
  instr_fine class (Dynamic index) = dynamic_fine (pool_of s class) (constant_at (pool_of s class) index)
  instr_fine class (New index) = new_fine (site_at s.flat at) refl
  instr_fine class (NewArray code) = tt
  instr_fine class (NewRefArray index) = tt
  instr_fine class (NewMulti index dimensions) = tt
  instr_fine class Length = tt
  instr_fine class Throw = tt
  instr_fine class (Cast index) = cast_fine (class_at (pool_of s class) index)
  instr_fine class (InstanceOf index) = tt
  instr_fine class Enter = tt
  instr_fine class Leave = tt

  row_fine : (instr : FlatInstr) → Fine (row_at s at f instr)
  row_fine (Of class instr) = instr_fine class instr
  row_fine (NullTest local) = tt

-- ---- objects that an instruction changes

either_present : (front back : List VObject) (site : ℕ) → IsTrue (is_present (front ++ back) site)
    → IsTrue (is_present front site) ⊎ IsTrue (is_present back site)
either_present [] back site there = inr there
either_present (object ∷ front) back site there = by (object.site == site) refl there (either_present front back site) where
  by : (test : Bool) → (object.site == site) ≡ test
      → IsTrue (is_present ((object ∷ front) ++ back) site)
      → (IsTrue (is_present (front ++ back) site) → IsTrue (is_present front site) ⊎ IsTrue (is_present back site))
      → IsTrue (is_present (object ∷ front) site) ⊎ IsTrue (is_present back site)
  by true is there rest = inl (rw is refl)
  by false is there rest =
      let same : is_present ((object ∷ front) ++ back) site ≡ is_present (front ++ back) site = rw is refl in
      elim (rest (sym same ∙ there)) [
        | inl before ↦ inl (let front_same : is_present (object ∷ front) site ≡ is_present front site = rw is refl in front_same ∙ before)
        | inr behind ↦ inr behind
      ]

one_site : (object : VObject) (site : ℕ) → IsTrue (is_present (object ∷ []) site) → object.site ≡ site
one_site object site there = by (object.site == site) refl where
  by : (test : Bool) → (object.site == site) ≡ test → object.site ≡ site
  by true is = eqb-true object.site site is
  by false is = let none : false ≡ true = sym (rw is refl) ∙ there in absurd (false≢true none)

found_there : (objects : List VObject) (site : ℕ) (object : VObject) → object_of objects site ≡ Some object
    → (object.site ≡ site) × IsTrue (is_present objects site)
found_there objects site object is = (found_site objects site object is, present_found objects site object is)

module _ (s : PlanScope) (state : State) (inside : AreInside (length s.flat.sites) state.objects) where
  put_inside : (found : Option VObject) (number : Option ℕ) (slot : Slot) (of site : ℕ) → object_of state.objects of ≡ found
      → IsTrue (is_present (with_field found number slot) site)
      → site < length s.flat.sites
  put_inside (Some object) (Some number) slot of site is there =
      let at_site = one_site (record object { fields = _ }) site there in
      let found = found_there state.objects of object is in
      let same : of ≡ site = sym found.0 ∙ at_site in
      subst (λ (n : ℕ). n < length s.flat.sites) same (inside.each of found.1)
  put_inside (Some object) None slot of site is there = absurd (false≢true there)
  put_inside None number slot of site is there = absurd (false≢true there)

  depth_inside : (found : Option VObject) (change : ℕ → ℕ) (of site : ℕ) → object_of state.objects of ≡ found
      → IsTrue (is_present (with_depth_of found change) site)
      → site < length s.flat.sites
  depth_inside (Some object) change of site is there =
      let at_site = one_site (record object { depth = change object.depth }) site there in
      let found = found_there state.objects of object is in
      let same : of ≡ site = sym found.0 ∙ at_site in
      subst (λ (n : ℕ). n < length s.flat.sites) same (inside.each of found.1)
  depth_inside None change of site is there = absurd (false≢true there)

  put_slot : (slot : Slot) (field : Reference) (value : Slot) (site : ℕ) → IsTrue (is_present (put_in s state slot field value) site) → site < length s.flat.sites
  put_slot (Virt of) field value site there = put_inside (object_of state.objects of) (field_number s of field) value of site refl there
  put_slot Plain field value site there = absurd (false≢true there)
  put_slot Unusable field value site there = absurd (false≢true there)

  depth_slot : (slot : Slot) (change : ℕ → ℕ) (site : ℕ) → IsTrue (is_present (at_depth state slot change) site) → site < length s.flat.sites
  depth_slot (Virt of) change site there = depth_inside (object_of state.objects of) change of site refl there
  depth_slot Plain change site there = absurd (false≢true there)
  depth_slot Unusable change site there = absurd (false≢true there)

  changed_inside : (at : ℕ) (change : Change) → MakesSite (site_at s.flat at) change → AreInside (length s.flat.sites) (changed s state change)
  changed_inside at no_change makes = record { each = λ site there. absurd (false≢true there) }
  changed_inside at (new_object one) makes = record {
    each = λ site there.
        let same = one_site _ site there in
        subst (λ (n : ℕ). n < length s.flat.sites) same (first_within (λ (of : Site). of.at == at) s.flat.sites one makes);
  }
  changed_inside at (put_field object field value) makes = record {
    each = λ site there. put_slot (held state object) field (held state value) site there;
  }
  changed_inside at (enter_monitor place) makes = record { each = λ site there. depth_slot (held state place) (λ depth. depth + 1) site there }
  changed_inside at (leave_monitor place) makes = record { each = λ site there. depth_slot (held state place) _ site there }

  moved : (at : ℕ) (point : Point) → AreInside (length s.flat.sites) (changed s state (row_of_point s at point).change ++ state.objects)
  moved at point = record {
    each = λ site there.
        elim (either_present (changed s state (row_of_point s at point).change) state.objects site there) [
          | inl front ↦ (changed_inside at (row_of_point s at point).change (row_fine s at point.typed point.instr)).each site front
          | inr back ↦ inside.each site back
        ];
  }

  edge_inside : (at : ℕ) (point : Point) (by : EdgeKind) → AreInside (length s.flat.sites) (edge_objects s state (row_of_point s at point) by)
  edge_inside at point (edges.Handler number) = inside
  edge_inside at point edges.Next = moved at point
  edge_inside at point (edges.Jump number) = moved at point

  -- the states behind edges
  behind_inside : (at : ℕ) (point : Point) (rows : List RowEdge) (effect : List Edge)
      → AreEdges s point at state rows effect
      → AllByRecursion (λ (edge : Edge). AreInside (length s.flat.sites) edge.state.objects) effect
  behind_inside at point [] [] are = tt
  behind_inside at point [] (edge ∷ effect) are = absurd are
  behind_inside at point (row ∷ rows) [] are = absurd are
  behind_inside at point (row ∷ rows) (edge ∷ effect) are = (
    record {
      each = λ site there.
          let reached = are.2.is.reached site there in
          (edge_inside at point row.by).each site (sym (ap is_some (are.2.is.kept site reached)) ∙ there);
    },
    behind_inside at point rows effect are.3,
  )

-- ---- reached points

pub fewer_inside : (count : ℕ) (state : State) (away : ℕ → Bool) → AreInside count state.objects → AreInside count (without state away).objects
fewer_inside count state away inside = record { each = λ site there. inside.each site (present_before away state.objects site there) }

pub effect_inside : (s : PlanScope) (at : ℕ) (state : State) (effect : List Edge)
    → AreInside (length s.flat.sites) state.objects
    → IsEffect s at state effect
    → AllByRecursion (λ (edge : Edge). AreInside (length s.flat.sites) edge.state.objects) effect
effect_inside s at state effect inside is = by (point_at s.flat at) is where
  by : (found : Option Point) → IsEffectIn s at found state effect → AllByRecursion (λ (edge : Edge). AreInside (length s.flat.sites) edge.state.objects) effect
  by None none = subst (AllByRecursion (λ (edge : Edge). AreInside (length s.flat.sites) edge.state.objects)) (sym none) tt
  by (Some point) are = behind_inside s state inside at point (open_edges s at point state) effect are

record HasEdge (plan : Plan) (effect : List Edge) (number : ℕ) (made : MadeEdge) : Type 0 where
  edge : Edge
  is_edge : slice_get effect number ≡ Some edge
  leads : LeadsTo plan edge made

edge_led : (plan : Plan) (effect : List Edge) (plans : List MadeEdge) (number : ℕ) (made : MadeEdge) → AllLead plan effect plans
    → slice_get plans number ≡ Some made
    → HasEdge plan effect number made
edge_led plan [] [] number made lead is = absurd (none-some made is)
edge_led plan [] (first ∷ plans) number made lead is = absurd lead
edge_led plan (edge ∷ effect) [] number made lead is = absurd lead
edge_led plan (edge ∷ effect) (first ∷ plans) zero made lead is =
    record { edge = edge; is_edge = refl; leads = subst (LeadsTo plan edge) (same_Some first made is) lead.0 }
edge_led plan (edge ∷ effect) (first ∷ plans) (suc number) made lead is =
    let rest = edge_led plan effect plans number made lead.1 is in
    record { edge = rest.edge; is_edge = rest.is_edge; leads = rest.leads }

one_of : (P : Edge → Type 0) (effect : List Edge) (number : ℕ) (edge : Edge) → AllByRecursion P effect → slice_get effect number ≡ Some edge → P edge
one_of P [] number edge all is = absurd (none-some edge is)
one_of P (first ∷ effect) zero edge all is = subst P (same_Some first edge is) all.0
one_of P (first ∷ effect) (suc number) edge all is = one_of P effect number edge all.1 is

-- the objects of a reached point are those of sites
pub reached_inside : (s : PlanScope) (plan : Plan) (at : ℕ) (point : PlannedPoint)
    → IsValid s plan
    → IsLedTo plan at
    → planned plan at ≡ Some point
    → AreInside (length s.flat.sites) point.state.objects
reached_inside s plan at point valid at_start is =
    let same : valid.start ≡ point = same_Some valid.start point (sym valid.is_start ∙ is) in
    subst (λ (p : PlannedPoint). AreInside (length s.flat.sites) p.state.objects) same
    (subst (λ (state : State). AreInside (length s.flat.sites) state.objects) (sym valid.no_site)
    (record { each = λ site there. absurd (false≢true there) }))
reached_inside s plan at point valid (over_edge from number before made led is_before is_made) is =
    let here = valid.each from before is_before in
    let inside = reached_inside s plan from before valid led is_before in
    let left = fewer_inside (length s.flat.sites) before.state (has before.made) inside in
    let all = effect_inside s from (state_left before) here.edges left here.effect in
    let found = edge_led plan here.edges before.edges number made here.lead is_made in
    let behind = one_of (λ (edge : Edge). AreInside (length s.flat.sites) edge.state.objects) here.edges number found.edge all found.is_edge in
    let same : found.leads.target ≡ point =
    same_Some found.leads.target point (sym found.leads.reached ∙ ap (planned plan) (sym found.leads.same_to) ∙ is) in
    subst (λ (p : PlannedPoint). AreInside (length s.flat.sites) p.state.objects) same
    (subst (λ (state : State). AreInside (length s.flat.sites) state.objects) (sym found.leads.below.is)
    (fewer_inside (length s.flat.sites) found.edge.state (has found.leads.below.sites) behind))
