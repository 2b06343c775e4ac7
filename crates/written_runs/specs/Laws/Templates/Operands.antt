-- Operands that are virtual: what they refer to, and that the second stack has no entry of them.
use Rattle.std.proofs.Common.{◌≡◌, ◌++◌, ℕ, zero, suc, List, [], ◌∷◌, drop, length, reverse, slice_get, take, Some, None, Option, refl, sym, ap, subst, ◌∙◌}
use Rattle.std.specs.List.{AllByRecursion}
use Rattle.std.proofs.lemmas.Bool.{false≢true}
use Rattle.std.proofs.lemmas.List.{append-nil}
use Rattle.std.proofs.lemmas.Option.{none-some, same_Some}
use Rattle.class_model.specs.declared.class_file.ClassFile.{ClassFile}
use Rattle.flow_code.specs.declared.point.Point.{Point}
use Rattle.flow_code.specs.declared.point.Site.{Site}
use Rattle.machine_values.specs.Heaps.{Heap, object_at}
use Rattle.machine_values.specs.declared.object.Shape.TheVariants.{Folder}
use Rattle.machine_values.specs.declared.value.Value.{Value}
use Rattle.machine_values.specs.declared.value.Value.TheVariants.{Ref}
use Rattle.member_link.specs.Machine.Programs.{folder_number, name_of_class}
use Rattle.member_link.specs.Machine.Runs.{Run}
use Rattle.plan_flow.specs.Must.{AsksFor, IsMustIn, IsMustOf, by_position, row_of_point}
use Rattle.plan_flow.specs.PlanRows.{Position}
use Rattle.plan_flow.specs.PlanScope.{PlanScope}
use Rattle.plan_flow.specs.PlanScope as plan
use Rattle.plan_flow.specs.PlanSlots.{held}
use Rattle.plan_flow.specs.PlanTable.{operand, positions}
use Rattle.plan_flow.specs.Plans.{state_left}
use Rattle.plan_flow.specs.Written.Blocks.{state_written}
use Rattle.same_runs.specs.Flats.{pool_of}
use Rattle.same_runs.specs.Laws.FirstBeginnings.{folder_name}
use Rattle.same_runs.specs.Renamings.{Names, SameValues, no_values}
use Rattle.same_runs.specs.SameMemories.{StaysApart}
use Rattle.virtual_state.specs.Laws.Objects.{found_present, found_site}
use Rattle.virtual_state.specs.Sites.{has}
use Rattle.virtual_state.specs.States.{State, object_of}
use Rattle.virtual_state.specs.Without.{without}
use Rattle.virtual_state.specs.declared.slot.Slot.{Slot}
use Rattle.virtual_state.specs.declared.slot.Slot.TheVariants.{Plain, Virt, Unusable}
use Rattle.virtual_state.specs.declared.slot.VObject.{VObject}
use Rattle.written_runs.specs.Inner.PlannedFrames.{KeepStack, scope_in}
use Rattle.written_runs.specs.Inner.Setup.{Setup, first}
use Rattle.written_runs.specs.Inner.Standing.{apart}
use Rattle.written_runs.specs.Laws.LessVirtual.{one_owner}
use Rattle.written_runs.specs.Laws.PlannedTurns.{AtPlanned}
use Rattle.written_runs.specs.Laws.Templates.Dropped.{names_there}
use Rattle.written_runs.specs.Laws.Templates.Known.{TemplateLaws, entries, held_virtual, is_state, of_plan, one_slot, planned_here, reached, split_stack, tells}
use Rattle.written_runs.specs.Laws.Templates.Stacks.{KeptParts, as_read}
use Rattle.written_runs.specs.Laws.Templates.Turns.{memories_here}
use Rattle.written_runs.specs.VirtualObjects.{HasVirtual, RefersTo, TellFields, TellsObject, Virtual}

-- the constants of a class of the folder
pub pools_same : (s : PlanScope) (class : ℕ) → plan.pool_of s class ≡ pool_of s.classes class
pools_same s class = by (slice_get s.classes.folder class) refl where
  by : (found : Option ClassFile) → slice_get s.classes.folder class ≡ found → plan.pool_of s class ≡ pool_of s.classes class
  by None is = rw (is) refl
  by (Some file) is = rw (is) refl

pub none_same : {names : Names} {values : List Value} → SameValues names [] values → values ≡ []
none_same no_values = refl

-- a slot that is read as a virtual object holds one
pub read_as : (slot : Slot) (site : ℕ) → as_read slot ≡ Virt site → slot ≡ Virt site
read_as (Virt one) site is = is
read_as Plain site is = absurd cc
read_as Unusable site is = absurd cc

-- a virtual object, as it is in the first heap
pub record IsObjectOf (u : Setup) (s : PlanScope) (heap : Heap) (state : State) (site : ℕ) (value : Value) (virtual : Virtual) : Type 0 where
  pub told : VObject
  pub is_told : object_of state.objects site ≡ Some told
  pub one : Site
  pub is_site : slice_get s.flat.sites site ≡ Some one
  pub refers : value ≡ Ref virtual.reference
  pub there : object_at heap virtual.reference ≡ Some virtual.object
  pub class : ℕ
  pub of_folder : folder_number (first u) one.class ≡ Some class
  pub shape : virtual.object.shape ≡ Folder class
  pub name : name_of_class (first u) class ≡ one.class

module _ (u : Setup) (laws : TemplateLaws u) {measure : ℕ} {one other : Run} (a : AtPlanned u measure one other) where
  -- of a virtual operand on top the second stack has no entry
  pub virtual_gone : (value : Value) (below : List Value) (site : ℕ)
      → a.f.stack ≡ value ∷ below
      → held (state_written a.settled.route) (operand a.settled.point.typed 0) ≡ Virt site
      → KeepStack a.t.along.names (take (length below) (entries u laws a)) (reverse below) (reverse a.g.stack)
  virtual_gone value below site is virtual =
      subst (KeepStack a.t.along.names (take (length below) (entries u laws a)) (reverse below))
      (sym (parts.are ∙ ap (λ (vs : List Value). parts.first ++ vs) none ∙ append-nil parts.first)) parts.keep where
        parts : KeptParts a.t.along.names (take (length below) (entries u laws a)) (drop (length below) (entries u laws a)) (reverse below)
            (value ∷ []) (reverse a.g.stack)
        parts = split_stack u laws a (value ∷ []) below is

        slot : (found : Slot)
            × (drop (length below) (entries u laws a) ≡ found ∷ [])
            × (held (state_written a.settled.route) (operand a.settled.point.typed 0) ≡ as_read found)
        slot = one_slot u laws a value below is

        is_virtual : drop (length below) (entries u laws a) ≡ Virt site ∷ []
        is_virtual = slot.1 ∙ ap (λ (found : Slot). found ∷ []) (read_as slot.0 site (sym slot.2 ∙ virtual))

        none : parts.second ≡ []
        none = none_same (subst (λ (slots : List Slot). KeepStack a.t.along.names slots (value ∷ []) parts.second) is_virtual parts.keep_more)

  -- the instruction asks for no object that is virtual
  pub asks_none : (number : ℕ) (position : Position) (site : ℕ)
      → slice_get (positions (row_of_point (scope_in u a.in_planned.one) a.f.place a.settled.point)) number ≡ Some position
      → AsksFor (scope_in u a.in_planned.one) (state_written a.settled.route) position site
      → ⊥
  asks_none number position site is asks = false≢true (must.asked site (by_position number position site is asks)) where
    same_left : state_left (of_plan u laws a).point ≡ state_written a.settled.route
    same_left =
        ap (λ (state : State). without state (has (of_plan u laws a).point.made)) (sym (of_plan u laws a).is.state)
        ∙ ap (λ (made : List ℕ). without a.settled.route.state (has made)) (sym (of_plan u laws a).is.made)

    must : IsMustOf (scope_in u a.in_planned.one) a.f.place a.settled.point (state_written a.settled.route) []
    must =
        subst (λ (state : State). IsMustOf (scope_in u a.in_planned.one) a.f.place a.settled.point state []) same_left
        (subst (λ (found : Option Point). IsMustIn (scope_in u a.in_planned.one) a.f.place found (state_left (of_plan u laws a).point) [])
        (reached u laws a).is_point (planned_here u laws a).asks_none)

  -- ---- virtual objects in the heap

  -- what a slot holds is there
  pub slot_is_there : (place site : ℕ)
      → held (state_written a.settled.route) place ≡ Virt site
      → (told : VObject) × (object_of (state_written a.settled.route).objects site ≡ Some told)
  slot_is_there place site virtual =
      found_present (state_written a.settled.route).objects site
      ((is_state u laws a).places site
      (names_there (state_written a.settled.route).slots place site
      (held_virtual (slice_get (state_written a.settled.route).slots place) site virtual)))

  pub stays_there : (number : ℕ) (virtual : Virtual)
      → slice_get a.t.along.virtuals number ≡ Some virtual
      → StaysApart a.t.along.names one.world.memory.heap (virtual.reference, virtual.object)
  stays_there number virtual is = by a.t.along.virtuals number (memories_here u laws a).heaps.stays is where
    by : (virtuals : List Virtual) (place : ℕ)
        → AllByRecursion (StaysApart a.t.along.names one.world.memory.heap) (apart virtuals)
        → slice_get virtuals place ≡ Some virtual
        → StaysApart a.t.along.names one.world.memory.heap (virtual.reference, virtual.object)
    by [] place all there = absurd (none-some virtual there)
    by (found ∷ virtuals) zero all there =
        subst (λ (v : Virtual). StaysApart a.t.along.names one.world.memory.heap (v.reference, v.object)) (same_Some found virtual there) all.0
    by (found ∷ virtuals) (suc place) all there = by virtuals place all.1 there

  pub object_is : (place site : ℕ) (value : Value)
      → held (state_written a.settled.route) place ≡ Virt site
      → (refers : RefersTo a.t.along.virtuals (length a.ones) site value)
      → IsObjectOf u (scope_in u a.in_planned.one) one.world.memory.heap (state_written a.settled.route) site value refers.virtual
  object_is place site value virtual refers = record {
    told = told.0;
    is_told = told.1;
    one = tells_it.site;
    is_site =
        ap (slice_get a.in_planned.one.flat.sites) (sym (found_site (state_written a.settled.route).objects site told.0 told.1)) ∙ tells_it.is_site;
    refers = refers.is;
    there = (stays_there refers.has.number refers.virtual refers.has.is_there).there;
    class = tells_it.class;
    of_folder = tells_it.of_folder;
    shape = ap (λ (v : Virtual). v.object.shape) (sym same) ∙ tells_it.shape;
    name = folder_name (first u) tells_it.site.class tells_it.class tells_it.of_folder;
  } where
    told : (found : VObject) × (object_of (state_written a.settled.route).objects site ≡ Some found)
    told = slot_is_there place site virtual

    tells_it : TellsObject (first u) (scope_in u a.in_planned.one) a.t.along.virtuals (length a.ones) told.0
    tells_it = (tells u laws a).objects site told.0 told.1

    same : tells_it.virtual ≡ refers.virtual
    same =
        one_owner a.t.along.virtuals (length a.ones) site tells_it.virtual refers.virtual a.t.along.are_apart
        (subst (λ (n : ℕ). HasVirtual a.t.along.virtuals (length a.ones) n tells_it.virtual)
        (found_site (state_written a.settled.route).objects site told.0 told.1) tells_it.has) refers.has

  -- the fields of a virtual object
  pub fields_of : (site : ℕ) (told : VObject) (value : Value)
      → object_of (state_written a.settled.route).objects site ≡ Some told
      → (refers : RefersTo a.t.along.virtuals (length a.ones) site value)
      → (one_site : Site)
      × (slice_get a.in_planned.one.flat.sites site ≡ Some one_site)
      × TellFields a.t.along.virtuals (length a.ones) one_site.fields refers.virtual.object.values told.fields
  fields_of site told value is_told refers = (
    tells_it.site,
    ap (slice_get a.in_planned.one.flat.sites) (sym site_is) ∙ tells_it.is_site,
    subst (λ (v : Virtual). TellFields a.t.along.virtuals (length a.ones) tells_it.site.fields v.object.values told.fields) same tells_it.fields,
  ) where
    site_is : told.site ≡ site
    site_is = found_site (state_written a.settled.route).objects site told is_told

    tells_it : TellsObject (first u) (scope_in u a.in_planned.one) a.t.along.virtuals (length a.ones) told
    tells_it = (tells u laws a).objects site told is_told

    same : tells_it.virtual ≡ refers.virtual
    same =
        one_owner a.t.along.virtuals (length a.ones) site tells_it.virtual refers.virtual a.t.along.are_apart
        (subst (λ (n : ℕ). HasVirtual a.t.along.virtuals (length a.ones) n tells_it.virtual) site_is tells_it.has) refers.has
