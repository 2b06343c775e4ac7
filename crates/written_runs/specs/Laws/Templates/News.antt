-- A new of a site: the object is virtual, and its field units are cleared. Where its class is not begun, the first run begins it alone.
use Rattle.std.proofs.Common.{◌≡◌, ◌≢◌, ◌⊎◌, ◌≤◌, ◌<◌, ◌==◌, ◌+◌, ◌++◌, ℕ, zero, suc, Bool, true, false, List, [], ◌∷◌, length, map, replicate, reverse, slice_get, Some, None, Option, option_map, IsTrue, refl, sym, ap, subst, ◌∙◌, arith, inl, inr}
use Rattle.std.specs.List.{AllByRecursion}
use Rattle.std.proofs.lemmas.Bool.{eqb-true, false≢true, le-leb}
use Rattle.std.proofs.lemmas.List.{length-reverse}
use Rattle.std.proofs.lemmas.Option.{none-some, same_Some, slice_get-map, slice_get_within}
use Rattle.class_model.specs.Descriptors.{kind_of}
use Rattle.class_model.specs.Laws.Lists.{at_index}
use Rattle.class_model.specs.PoolChecks.{class_at}
use Rattle.class_model.specs.declared.descriptor.FieldType.{FieldType}
use Rattle.class_model.specs.declared.descriptor.FieldType.TheVariants.{Byte, Char, Short, Bool as Boolean, Int as Integer, Long as LongType, Float as FloatType, Double as DoubleType, Named}
use Rattle.class_model.specs.declared.descriptor.Kind.{Kind}
use Rattle.class_model.specs.declared.descriptor.Kind.TheVariants as kinds
use Rattle.class_model.specs.declared.frame.VType.{VType}
use Rattle.class_model.specs.declared.instr.Instr.TheVariants.{New}
use Rattle.class_tree.specs.Headers.{Name}
use Rattle.class_tree.specs.Layouts.{instance_fields}
use Rattle.expanded_code.specs.CandidateSites.{IsSite}
use Rattle.flow_code.specs.FlatCode.{FlatCode}
use Rattle.flow_code.specs.ReadTypes.{is_site_object}
use Rattle.flow_code.specs.declared.point.FlatInstr.TheVariants.{Of}
use Rattle.flow_code.specs.declared.point.Point.{Point}
use Rattle.flow_code.specs.declared.point.Site.{Site}
use Rattle.machine_values.specs.Frames.{MethodState}
use Rattle.machine_values.specs.Heaps.{allocated}
use Rattle.machine_values.specs.Values.{blank_of_kind, blank_values, narrowed}
use Rattle.machine_values.specs.declared.frame.RunFrame.{RunFrame}
use Rattle.machine_values.specs.declared.frame.RunFrame.TheVariants.{Beginning, Method}
use Rattle.machine_values.specs.declared.object.Object.{Object}
use Rattle.machine_values.specs.declared.object.Shape.TheVariants.{Folder}
use Rattle.machine_values.specs.declared.value.Value.{Value}
use Rattle.machine_values.specs.declared.value.Value.TheVariants.{Ref}
use Rattle.making_code.specs.Items.{WInstr, plain}
use Rattle.making_code.specs.Units.{WUnit, field_unit, fields_at, own, unit_number}
use Rattle.member_link.specs.Machine.Beginnings.{begun_memory, begun_on}
use Rattle.member_link.specs.Machine.Codes.{naming}
use Rattle.member_link.specs.Machine.Completions.{begins, gives}
use Rattle.member_link.specs.Machine.Ops.{Op, new_object, push_value, store_local}
use Rattle.member_link.specs.Machine.Performing.{perform}
use Rattle.member_link.specs.Machine.Programs.{RunClass, folder_number, headers_in, name_of_class, number_of_first}
use Rattle.member_link.specs.Machine.Runs.{Run, turn}
use Rattle.member_link.specs.Machine.Stepping.{is_library_turn, next_with, op_step}
use Rattle.member_link.specs.Machine.Work.{work}
use Rattle.member_link.specs.Machine.Worlds.{Memory, World, is_begun}
use Rattle.member_link.specs.Scope.{Scope}
use Rattle.plan_flow.specs.PlanRows.{PlanRow, Source, from_new, object_of_site}
use Rattle.plan_flow.specs.PlanScope.{PlanScope, site_at}
use Rattle.plan_flow.specs.PlanSlots.{changed, slot_of_new, slots_from}
use Rattle.plan_flow.specs.PlanTable.{positions}
use Rattle.plan_flow.specs.ReadyForPlans.{KeepsType, place_types}
use Rattle.plan_flow.specs.Written.Blocks.{state_written}
use Rattle.plan_flow.specs.Written.Templates.{cleared_fields, new_template, zero_of}
use Rattle.plan_flow.specs.Written.WrittenCode.{written_op}
use Rattle.plan_flow.specs.Written.WrittenPrograms.{WrittenMethod}
use Rattle.typed_runs.specs.TypedWorlds.{TypedWorld}
use Rattle.same_runs.specs.Flats.{pool_of}
use Rattle.same_runs.specs.Laws.AloneTurn.{begins_fewer, unbegun_in}
use Rattle.same_runs.specs.Laws.Apart.{apart_more}
use Rattle.same_runs.specs.Laws.BegunAlone.{first_begins}
use Rattle.same_runs.specs.Laws.BegunClasses.{folder_class}
use Rattle.same_runs.specs.Laws.BothBegin.{counted}
use Rattle.same_runs.specs.Laws.Compared.{memories_as}
use Rattle.same_runs.specs.Laws.FirstBeginnings.{folder_name}
use Rattle.same_runs.specs.Laws.Names.{names_themselves}
use Rattle.same_runs.specs.Laws.Objects.{get_new, get_old}
use Rattle.same_runs.specs.Laws.Statics.{keeps_all}
use Rattle.same_runs.specs.Renamings.{no_values}
use Rattle.same_runs.specs.SameMemories.{IsInert, SameHeaps}
use Rattle.same_runs.specs.Simulations.{at_once}
use Rattle.virtual_state.specs.Laws.Objects.{object_behind, object_first, same_or_not}
use Rattle.virtual_state.specs.States.{is_present, object_of}
use Rattle.virtual_state.specs.declared.slot.Slot.{Slot}
use Rattle.virtual_state.specs.declared.slot.Slot.TheVariants.{Plain, Virt, Unusable}
use Rattle.virtual_state.specs.declared.slot.VObject.{VObject}
use Rattle.written_runs.specs.Inner.PlannedFrames.{KeepStack, KeptIn, scope_in}
use Rattle.written_runs.specs.Inner.Setup.{Setup, first}
use Rattle.written_runs.specs.Inner.Standing.{apart}
use Rattle.written_runs.specs.Inner.Together.{AreOwned, Related, Together, points_left, weight}
use Rattle.written_runs.specs.Laws.LessVirtual.{one_owner}
use Rattle.written_runs.specs.Laws.MadeItems.{AreOwn}
use Rattle.written_runs.specs.Laws.Making.Held.{HeldIn}
use Rattle.written_runs.specs.Laws.Making.Places.{IsFieldAt}
use Rattle.written_runs.specs.Laws.PlannedTurns.{AtPlanned, written_at}
use Rattle.written_runs.specs.Laws.Simulation.{KeepsTurn}
use Rattle.written_runs.specs.Laws.StandingMore.{SameBelow}
use Rattle.written_runs.specs.Laws.StillThere.{MemoryStays, begun_stays, known_still, owned_still, settled_still}
use Rattle.written_runs.specs.Laws.Templates.Changed.{unbegun_alike}
use Rattle.written_runs.specs.Laws.Templates.Holding.{Cleared, blank_kind, cleared_all, clearing_ops, field_held, own_held}
use Rattle.written_runs.specs.Laws.Templates.Instrs.{first_is, instr_goes_next, op_here, row_here, row_is}
use Rattle.written_runs.specs.Laws.Templates.Items.{IsStraight, all_moved, push_is_straight, store_is_straight}
use Rattle.written_runs.specs.Laws.Templates.Known.{TemplateLaws, keeps, keeps_whole, first_op, reached, ready, stands, step_is, tells, turn_is, typed_then, written}
use Rattle.written_runs.specs.Laws.Templates.Known as known_here
use Rattle.written_runs.specs.Laws.Templates.Operands.{asks_none, stays_there}
use Rattle.written_runs.specs.Laws.Templates.Turns.{FirstTurn, memories_here, on_top, owned_going_on}
use Rattle.written_runs.specs.VirtualObjects.{AreApart, HasVirtual, IsOther, RefersTo, TellFields, TellsField, TellsObject, Virtual, Virtuals, tells_plain, tells_virtual}

-- ---- the clearing of fields

own_clearing : (site number : ℕ) (types : List FieldType) → AreOwn (cleared_fields site number types)
own_clearing site number [] = tt
own_clearing site number (type ∷ types) = (tt, (tt, own_clearing site (suc number) types))

clearing_is : (s : PlanScope) (host : Scope) (constructor : Name → List ℕ) (site number : ℕ) (types : List FieldType)
    → map (written_op s host constructor []) (cleared_fields site number types) ≡ clearing_ops s.flat site number types
clearing_is s host constructor site number [] = refl
clearing_is s host constructor site number (type ∷ types) =
    ap (λ (ops : List Op). written_op s host constructor [] (plain (zero_of (kind_of type)))
    ∷ store_local (kind_of type) (unit_number s.flat (field_unit site number)) ∷ ops) (clearing_is s host constructor site (suc number) types)
    ∙ ap (λ (op : Op). op ∷ store_local (kind_of type) (unit_number s.flat (field_unit site number)) ∷ clearing_ops s.flat site (suc number) types)
    (by (kind_of type)) where
      by : (kind : Kind) → written_op s host constructor [] (plain (zero_of kind)) ≡ push_value (blank_of_kind kind)
      by kinds.Int = refl
      by kinds.Long = refl
      by kinds.Float = refl
      by kinds.Double = refl
      by kinds.Ref = refl

clearing_straight : (flat : FlatCode) (site number : ℕ) (types : List FieldType) → AllByRecursion IsStraight (clearing_ops flat site number types)
clearing_straight flat site number [] = tt
clearing_straight flat site number (type ∷ types) = (
  push_is_straight (blank_of_kind (kind_of type)),
  (store_is_straight (kind_of type) (unit_number flat (field_unit site number)), clearing_straight flat site (suc number) types),
)

-- ---- what a new object has

blank_narrowed : (type : FieldType) → narrowed type (blank_of_kind (kind_of type)) ≡ blank_of_kind (kind_of type)
blank_narrowed Byte = refl
blank_narrowed Char = refl
blank_narrowed Short = refl
blank_narrowed Boolean = refl
blank_narrowed Integer = refl
blank_narrowed LongType = refl
blank_narrowed FloatType = refl
blank_narrowed DoubleType = refl
blank_narrowed (Named name) = refl

abbrev blanks_of : List FieldType → List Value
blanks_of types = map (λ (type : FieldType). blank_of_kind (kind_of type)) types

blank_fields : (virtuals : Virtuals) (frame : ℕ) (types : List FieldType)
    → TellFields virtuals frame types (blanks_of types) (replicate (length types) Plain)
blank_fields virtuals frame [] = tt
blank_fields virtuals frame (type ∷ types) = (tells_plain (blank_kind (kind_of type)) (blank_narrowed type), blank_fields virtuals frame types)

-- the site of a point is one of those of the code, and stands there
pub site_found : (sites : List Site) (at number : ℕ) → number_of_first (λ (site : Site). site.at == at) sites ≡ Some number
    → (site : Site) × (slice_get sites number ≡ Some site) × (site.at ≡ at)
site_found [] at number is = absurd (none-some number is)
site_found (first_site ∷ sites) at number is = by (first_site.at == at) refl number is (λ place found. site_found sites at place found) where
  by : (here : Bool)
      → (first_site.at == at) ≡ here
      → (found : ℕ)
      → number_of_first (λ (site : Site). site.at == at) (first_site ∷ sites) ≡ Some found
      → ((place : ℕ) → number_of_first (λ (site : Site). site.at == at) sites ≡ Some place
      → (site : Site) × (slice_get sites place ≡ Some site) × (site.at ≡ at))
      → (site : Site) × (slice_get (first_site ∷ sites) found ≡ Some site) × (site.at ≡ at)
  by true told found found_is rest =
      let zeroth : 0 ≡ found = same_Some 0 found (sym (rw (told) refl) ∙ found_is) in
      (first_site, ap (slice_get (first_site ∷ sites)) (sym zeroth), eqb-true first_site.at at told)
  by false told found found_is rest = behind (number_of_first (λ (site : Site). site.at == at) sites) refl where
    behind : (other : Option ℕ)
        → number_of_first (λ (site : Site). site.at == at) sites ≡ other
        → (site : Site) × (slice_get (first_site ∷ sites) found ≡ Some site) × (site.at ≡ at)
    behind None none = absurd (none-some found (sym (rw (told, none) refl) ∙ found_is))
    behind (Some place) some =
        let next : suc place ≡ found = same_Some (suc place) found (sym (rw (told, some) refl) ∙ found_is) in
        let there = rest place some in
        (there.0, ap (slice_get (first_site ∷ sites)) (sym next) ∙ there.1, there.2)

module _ (u : Setup) (laws : TemplateLaws u) {measure : ℕ} {one other : Run} (a : AtPlanned u measure one other) (class index : ℕ)
    (is : a.settled.point.instr ≡ Of class (New index)) (site : ℕ) (at_site : site_at a.in_planned.one.flat a.f.place ≡ Some site) where
  found : (one_site : Site) × (slice_get a.in_planned.one.flat.sites site ≡ Some one_site) × (one_site.at ≡ a.f.place)
  found = site_found a.in_planned.one.flat.sites a.f.place site at_site

  abbrev one_site : Site
  one_site = found.0

  is_site : IsSite u.classes a.in_planned.one.flat one_site
  is_site =
      at_index (IsSite u.classes a.in_planned.one.flat) a.in_planned.one.flat.sites site found.0 (ready u laws a).sites.sites found.1

  named : class_at (pool_of u.classes class) index ≡ Some one_site.class
  named =
      ap (λ (c : ℕ). class_at (pool_of u.classes c) index) same_class
      ∙ ap (class_at (pool_of u.classes is_site.class)) same_index
      ∙ rw (is_site.of_class) is_site.named where
        same_point : is_site.point ≡ a.settled.point
        same_point =
            same_Some is_site.point a.settled.point
            (sym is_site.there ∙ ap (slice_get a.in_planned.one.flat.points) found.2 ∙ (reached u laws a).is_point)

        same : Of class (New index) ≡ Of is_site.class (New is_site.index)
        same = sym is ∙ ap (λ (p : Point). p.instr) (sym same_point) ∙ is_site.is_new

        same_class : class ≡ is_site.class
        same_class = cc same

        same_index : index ≡ is_site.index
        same_index = cc same

  folder_it : (number : ℕ) × (folder_number (first u) one_site.class ≡ Some number) × IsInert (first u) number
  folder_it = laws.site_class a.f.at a.in_planned.one site found.0 (written u laws a) found.1

  abbrev number : ℕ
  number = folder_it.0

  abbrev make_op : Option Name → Op
  make_op name = naming name new_object

  -- the step of the first
  step_on : op_step (first u) (counted one) a.f a.ones (op_here u laws a class (New index))
      ≡ perform (first u) (counted one) a.f a.f a.ones (work (first u) one.world.memory (new_object one_site.class) [])
  step_on =
      ap (λ (name : Option Name). op_step (first u) (counted one) a.f a.ones (make_op name)) named
      ∙ rw (le-leb 0 (length a.f.stack) (omega arith)) refl

  -- ---- the class begins first

  begins_first : is_begun one.world.memory number ≡ false → KeepsTurn u measure one other
  begins_first none = record {
    waits = other;
    quietly = at_once;
    measure_then = weight (first u) (begun_memory (first u) number one.world.memory) (number ∷ []) (points_left a.t.along.frames);
    goes_on = inl (
      falls,
      subst (λ (r : Run). Related u (weight (first u) (begun_memory (first u) number one.world.memory) (number ∷ []) (points_left a.t.along.frames)) r
          other) (sym turned)
          (record { later = other; quietly = at_once; state = inl together }),
    );
  } where
    begins_it : work (first u) one.world.memory (new_object one_site.class) [] ≡ begins number
    begins_it = rw (folder_it.1, none) refl

    stepped : op_step (first u) (counted one) a.f a.ones (first_op u laws a) ≡ begun_on (first u) number (counted one) (Method a.f ∷ a.ones)
    stepped =
        ap (op_step (first u) (counted one) a.f a.ones) (first_is u laws a class (New index) is) ∙ step_on
        ∙ ap (perform (first u) (counted one) a.f a.f a.ones) begins_it

    turned : turn (first u) one ≡ record one { world = begun_on (first u) number (counted one) (Method a.f ∷ a.ones) }
    turned = turn_is u laws a ∙ ap (λ (world : World). record one { world = world }) stepped

    there : (found_class : RunClass) × (slice_get (first u).classes number ≡ Some found_class)
    there = folder_class (first u) one_site.class number folder_it.1

    fewer : unbegun_in (first u) (begun_memory (first u) number one.world.memory) < unbegun_in (first u) one.world.memory
    fewer = begins_fewer (first u) (first u) number there.0 one.world.memory there.1 none

    low : weight (first u) one.world.memory [] (points_left a.t.along.frames) ≤ measure
    low = subst (λ (now : List ℕ). weight (first u) one.world.memory now (points_left a.t.along.frames) ≤ measure) a.none_now a.t.low

    falls : weight (first u) (begun_memory (first u) number one.world.memory) (number ∷ []) (points_left a.t.along.frames) < measure
    falls = let few = fewer in let l = low in omega (arith, few, l)

    stays : MemoryStays one.world.memory (begun_memory (first u) number one.world.memory)
    stays = begun_stays (first u) number one.world.memory

    together : Together u (weight (first u) (begun_memory (first u) number one.world.memory) (number ∷ []) (points_left a.t.along.frames))
        (record one { world = begun_on (first u) number (counted one) (Method a.f ∷ a.ones) }) other
    together = record {
      along = record {
        virtuals = a.t.along.virtuals;
        are_apart = a.t.along.are_apart;
        known = a.t.along.known;
        are_known = known_still stays.shapes a.t.along.are_known;
        names = a.t.along.names;
        now = number ∷ [];
        ones = a.t.along.ones;
        stands = ap (λ (frames : List RunFrame). Beginning number ∷ frames) (sym a.stands);
        others = a.t.along.others;
        stands_also = a.t.along.stands_also;
        frames = a.t.along.frames;
        owned = owned_still stays a.t.along.owned;
        alone = (record { found = there.0; is = there.1; inert = folder_it.2 }, tt);
        no_turn = ap is_library_turn a.stands;
        memories = first_begins number none folder_it.2 (memories_here u laws a);
        seen = record { known = a.t.along.seen.known; events = a.t.along.seen.events };
        goes = a.t.along.goes;
        goes_also = a.t.along.goes_also;
        actions = a.t.along.actions;
        used = a.t.along.used;
        typed = subst (TypedWorld (first u) u.typings) stepped (typed_then u laws a);
      };
      settled = settled_still one.world.memory (begun_memory (first u) number one.world.memory) a.t.along.frames stays.shapes a.t.settled;
      low = omega arith;
    }

  -- ---- the object is made

  abbrev types : List FieldType
  types = one_site.fields

  abbrev values : List Value
  values = blank_values (instance_fields (headers_in (first u)) (name_of_class (first u) number))

  abbrev object : Object
  object = record { shape = Folder number; values = values; monitor = 0 }

  abbrev reference : ℕ
  reference = length one.world.memory.heap.objects

  abbrev new_one : Virtual
  new_one = record { frame = length a.ones; site = site; reference = reference; object = object }

  abbrev virtuals : Virtuals
  virtuals = new_one ∷ a.t.along.virtuals

  abbrev memory_now : Memory
  memory_now = record one.world.memory {
    heap = (allocated one.world.memory.heap (Folder number) values).heap;
    allocations = one.world.memory.allocations + 1;
  }

  values_are : values ≡ blanks_of types
  values_are =
      ap (λ (name : Name). blank_values (instance_fields (headers_in (first u)) name)) (folder_name (first u) one_site.class number folder_it.1)
      ∙ laws.blanks one_site.class ∙ ap blanks_of (sym is_site.fields)

  not_present : is_present (state_written a.settled.route).objects site ≡ false
  not_present = by (is_present (state_written a.settled.route).objects site) refl where
    by : (present : Bool)
        → is_present (state_written a.settled.route).objects site ≡ present
        → is_present (state_written a.settled.route).objects site ≡ false
    by false told = told
    by true told =
        absurd (asks_none u laws a 0 (object_of_site site) site
        (ap (λ (r : PlanRow). slice_get (positions r) 0) (row_is u laws a class (New index) is) ∙ rw (at_site) refl) (refl, told))

  none_yet : (place : ℕ) (virtual : Virtual) → slice_get a.t.along.virtuals place ≡ Some virtual → virtual.frame ≡ length a.ones
      → virtual.site ≡ site
      → ⊥
  none_yet place virtual there of_frame of_site =
      absurd (false≢true (sym not_present ∙ ap (is_present (state_written a.settled.route).objects) (sym of_site)
      ∙ known_here.own u laws a place virtual there of_frame))

  is_old : (place : ℕ) (virtual : Virtual) → slice_get a.t.along.virtuals place ≡ Some virtual → virtual.reference < reference
  is_old place virtual there =
      slice_get_within one.world.memory.heap.objects virtual.reference virtual.object (stays_there u laws a place virtual there).there

  others_differ : (list : Virtuals)
      → ((place : ℕ) (virtual : Virtual) → slice_get list place ≡ Some virtual → IsOther new_one virtual)
      → AllByRecursion (IsOther new_one) list
  others_differ [] each = tt
  others_differ (one_there ∷ list) each = (each 0 one_there refl, others_differ list (λ place virtual there. each (suc place) virtual there))

  are_apart : AreApart virtuals
  are_apart = (
    others_differ a.t.along.virtuals (λ place virtual there. record {
      owner = λ same_frame same_site. none_yet place virtual there (sym same_frame) (sym same_site);
      reference = λ same. absurd (let low = is_old place virtual there in omega (arith, low, same));
    }),
    a.t.along.are_apart,
  )

  has_still : {frame other_site : ℕ} {virtual : Virtual} → HasVirtual a.t.along.virtuals frame other_site virtual
      → HasVirtual virtuals frame other_site virtual
  has_still there = record { number = suc there.number; is_there = there.is_there; of_frame = there.of_frame; of_site = there.of_site }

  has_new : HasVirtual virtuals (length a.ones) site new_one
  has_new = record { number = 0; is_there = refl; of_frame = refl; of_site = refl }

  -- one of another frame or site was there
  had_before : {frame other_site : ℕ} {virtual : Virtual} → HasVirtual virtuals frame other_site virtual
      → (length a.ones ≡ frame → site ≡ other_site → ⊥)
      → HasVirtual a.t.along.virtuals frame other_site virtual
  had_before {frame = frame} {other_site = other_site} {virtual = virtual} there differs = by there.number there.is_there where
    by : (place : ℕ) → slice_get virtuals place ≡ Some virtual → HasVirtual a.t.along.virtuals frame other_site virtual
    by zero here =
        let same = same_Some new_one virtual here in
        absurd (differs (ap (λ (v : Virtual). v.frame) same ∙ there.of_frame) (ap (λ (v : Virtual). v.site) same ∙ there.of_site))
    by (suc place) here = record { number = place; is_there = here; of_frame = there.of_frame; of_site = there.of_site }

  below : SameBelow a.t.along.virtuals virtuals (length a.ones)
  below = λ frame low. record {
    forth = λ other_site virtual there. has_still there;
    back = λ other_site virtual there. had_before there (λ same. absurd (omega (arith, low, same)));
  }

  refers_still : (other_site : ℕ) (value : Value) → RefersTo a.t.along.virtuals (length a.ones) other_site value
      → RefersTo virtuals (length a.ones) other_site value
  refers_still other_site value refers = record { virtual = refers.virtual; has = has_still refers.has; is = refers.is }

  fields_still : (some_types : List FieldType) (some_values : List Value) (slots : List Slot)
      → TellFields a.t.along.virtuals (length a.ones) some_types some_values slots
      → TellFields virtuals (length a.ones) some_types some_values slots
  fields_still [] [] [] told = tt
  fields_still [] [] (slot ∷ slots) told = absurd told
  fields_still [] (value ∷ some_values) slots told = absurd told
  fields_still (type ∷ some_types) [] slots told = absurd told
  fields_still (type ∷ some_types) (value ∷ some_values) [] told = absurd told
  fields_still (type ∷ some_types) (value ∷ some_values) (slot ∷ slots) told =
      (by slot told.0, fields_still some_types some_values slots told.1) where
        by : (some_slot : Slot) → TellsField a.t.along.virtuals (length a.ones) type value some_slot
            → TellsField virtuals (length a.ones) type value some_slot
        by (Virt other_site) (tells_virtual refers) = tells_virtual (refers_still other_site value refers)
        by Plain (tells_plain fits kept) = tells_plain fits kept
        by Unusable told_it = elim told_it [ ]

  -- ---- the state behind it

  abbrev told_now : VObject
  told_now = record { site = site; fields = replicate (length types) Plain; depth = 0 }

  changed_is : changed (scope_in u a.in_planned.one) (state_written a.settled.route) (row_here u laws a class (New index)).change ≡ told_now ∷ []
  changed_is = rw (at_site, found.1) refl

  tells_new : TellsObject (first u) (scope_in u a.in_planned.one) virtuals (length a.ones) told_now
  tells_new = record {
    site = one_site;
    is_site = found.1;
    virtual = new_one;
    has = has_new;
    class = number;
    of_folder = folder_it.1;
    shape = refl;
    monitor = refl;
    fields =
        subst (λ (vs : List Value). TellFields virtuals (length a.ones) types vs (replicate (length types) Plain)) (sym values_are)
        (blank_fields virtuals (length a.ones) types);
  }

  tells_old : (other_site : ℕ) (told : VObject) → object_of (state_written a.settled.route).objects other_site ≡ Some told
      → TellsObject (first u) (scope_in u a.in_planned.one) virtuals (length a.ones) told
  tells_old other_site told is_told = record {
    site = tells_it.site;
    is_site = tells_it.is_site;
    virtual = tells_it.virtual;
    has = has_still tells_it.has;
    class = tells_it.class;
    of_folder = tells_it.of_folder;
    shape = tells_it.shape;
    monitor = tells_it.monitor;
    fields = fields_still tells_it.site.fields tells_it.virtual.object.values told.fields tells_it.fields;
  } where
    tells_it : TellsObject (first u) (scope_in u a.in_planned.one) a.t.along.virtuals (length a.ones) told
    tells_it = (tells u laws a).objects other_site told is_told

  found_now : (other_site : ℕ) (told : VObject)
      → object_of (changed (scope_in u a.in_planned.one) (state_written a.settled.route) (row_here u laws a class (New index)).change
      ++ (state_written a.settled.route).objects) other_site ≡ Some told
      → ((site ≡ other_site) × (told_now ≡ told))
      ⊎ ((site ≢ other_site) × (object_of (state_written a.settled.route).objects other_site ≡ Some told))
  found_now other_site told is_told = by (same_or_not site other_site) where
    there : object_of (told_now ∷ (state_written a.settled.route).objects) other_site ≡ Some told
    there =
        ap (λ (objects : List VObject). object_of (objects ++ (state_written a.settled.route).objects) other_site) (sym changed_is) ∙ is_told

    by : (site ≡ other_site) ⊎ (site ≢ other_site)
        → ((site ≡ other_site) × (told_now ≡ told))
        ⊎ ((site ≢ other_site) × (object_of (state_written a.settled.route).objects other_site ≡ Some told))
    by (inl same) =
        inl (same, same_Some told_now told (sym (object_first told_now (state_written a.settled.route).objects other_site same) ∙ there))
    by (inr differ) = inr (differ, sym (object_behind told_now (state_written a.settled.route).objects other_site differ) ∙ there)

  -- ---- both turns

  is_field : (place : ℕ) (type : FieldType) → slice_get types place ≡ Some type → IsFieldAt a.in_planned.one.flat site (0 + place) type
  is_field place type is_type =
      let zeroth : place ≡ 0 + place = omega arith in
      record { one = one_site; is_site = found.1; is_type = ap (slice_get types) (sym zeroth) ∙ is_type }

  cleared : (middle : MethodState) × Cleared a.in_planned.one.flat a.t.along.names site 0 types a.g middle
  cleared = cleared_all a.in_planned.one.flat a.t.along.names site 0 types a.g is_field (keeps u laws a).room

  fields_are : fields_at a.in_planned.one.flat site ≡ types
  fields_are = rw (found.1) refl

  makes : is_begun one.world.memory number ≡ true → KeepsTurn u measure one other
  makes begun =
      instr_goes_next u laws a class (New index) (record {
        is = is;
        instrs = cleared_fields site 0 types;
        told =
            ap (new_template (scope_in u a.in_planned.one)) at_site
            ∙ ap (λ (some_types : List FieldType). Some (cleared_fields site 0 some_types)) fields_are;
        own = own_clearing site 0 types;
        gives = from_new ∷ [];
        row_locals = rw (at_site) refl;
        takes = 0;
        row_stack = rw (at_site) refl;
        opens = rw (at_site) refl;
        falls = refl;
        leaves = rw (is) refl;
        t = new_turn;
        top = [];
        below = a.f.stack;
        is_stack = refl;
        many_top = refl;
        given = Ref reference ∷ [];
        many_given = refl;
        later_is = refl;
        refers = refers_still;
        given_refers = given_refers;
        given_uninit = given_uninit;
        objects = objects_now;
        middle = cleared.0;
        straight = λ there.
            subst (AllByRecursion IsStraight) (sym (clearing_is (scope_in u a.in_planned.one) there.host u.constructor site 0 types))
            (clearing_straight a.in_planned.one.flat site 0 types);
        moved = λ there.
            ap (λ (ops : List Op). all_moved ops a.g) (clearing_is (scope_in u a.in_planned.one) there.host u.constructor site 0 types)
            ∙ cleared.1.moved;
        below_also = a.g.stack;
        given_also = [];
        then_also = cleared.1.stack;
        keep_below = keeps_whole u laws a;
        keep_given = subst (λ (slot : Slot). KeepStack a.t.along.names (slot ∷ []) (Ref reference ∷ []) []) (sym new_slot) no_values;
        own_units = λ unit value plain there.
            kept_of (cleared.1.still (own unit) value (λ also stored_value another low. tt) (own_held u laws a unit value plain there));
        fields = fields_now;
        room = let many = cleared.1.room in let before_it = (keeps u laws a).room in omega (arith, many, before_it);
      }) where
        new_slot : slot_of_new (row_here u laws a class (New index)).change ≡ Virt site
        new_slot = rw (at_site) refl

        kept_of : {unit : WUnit} {value : Value} → HeldIn a.in_planned.one.flat a.t.along.names cleared.0.locals unit value
            → KeptIn a.t.along.names cleared.0 (unit_number a.in_planned.one.flat unit) value
        kept_of held = record { also = held.also; is = held.is; same = held.same }

        gives_it : work (first u) one.world.memory (new_object one_site.class) [] ≡ gives memory_now (Ref reference ∷ [])
        gives_it = rw (folder_it.1, begun) refl

        heaps : SameHeaps (apart virtuals) a.t.along.names memory_now.heap other.world.memory.heap
        heaps = apart_more (memories_here u laws a).heaps (Folder number) values

        abbrev_turned : op_step (first u) (counted one) a.f a.ones (first_op u laws a)
            ≡ record (counted one) { memory = memory_now; frames = Method (next_with a.f (Ref reference ∷ a.f.stack)) ∷ a.ones }
        abbrev_turned =
            ap (op_step (first u) (counted one) a.f a.ones) (first_is u laws a class (New index) is) ∙ step_on
            ∙ ap (perform (first u) (counted one) a.f a.f a.ones) gives_it

        owned_before : AreOwned u a.t.along.virtuals one.world.memory (Method (next_with a.f (Ref reference ∷ a.f.stack)) ∷ a.ones)
        owned_before =
            owned_going_on u a.t.along.virtuals one.world.memory a.f (next_with a.f (Ref reference ∷ a.f.stack)) a.ones refl
            (subst (AreOwned u a.t.along.virtuals one.world.memory) a.stands a.t.along.owned)

        owned_now : AreOwned u virtuals memory_now (Method (next_with a.f (Ref reference ∷ a.f.stack)) ∷ a.ones)
        owned_now = record {
          owner = λ place virtual there. owner_of place virtual there;
          begun = λ place some_class virtual there of_class. begun_of place some_class virtual there of_class;
        } where
          owner_of : (place : ℕ) (virtual : Virtual) → slice_get virtuals place ≡ Some virtual
              → (f : MethodState) × (w : WrittenMethod)
              × (slice_get (reverse (Method (next_with a.f (Ref reference ∷ a.f.stack)) ∷ a.ones)) virtual.frame ≡ Some (Method f))
              × (u.written f.at ≡ Some w)
          owner_of zero virtual there = (
            next_with a.f (Ref reference ∷ a.f.stack),
            a.in_planned.one,
            ap (λ (frames : List RunFrame). slice_get frames virtual.frame) (on_top (Method (next_with a.f (Ref reference ∷ a.f.stack))) a.ones)
                ∙ ap (slice_get (reverse a.ones ++ Method (next_with a.f (Ref reference ∷ a.f.stack)) ∷ []))
                (sym (ap (λ (v : Virtual). v.frame) (same_Some new_one virtual there)) ∙ sym (length-reverse a.ones))
                ∙ get_new (reverse a.ones) (Method (next_with a.f (Ref reference ∷ a.f.stack))),
            written u laws a,
          )
          owner_of (suc place) virtual there = owned_before.owner place virtual there

          begun_of : (place some_class : ℕ) (virtual : Virtual) → slice_get virtuals place ≡ Some virtual
              → virtual.object.shape ≡ Folder some_class
              → IsTrue (is_begun one.world.memory some_class)
          begun_of zero some_class virtual there of_class =
              let same : number ≡ some_class = cc (ap (λ (v : Virtual). v.object.shape) (same_Some new_one virtual there) ∙ of_class) in
              ap (is_begun one.world.memory) (sym same) ∙ begun
          begun_of (suc place) some_class virtual there of_class = owned_before.begun place some_class virtual there of_class

        new_turn : FirstTurn u laws a
        new_turn = record {
          later = next_with a.f (Ref reference ∷ a.f.stack);
          memory = memory_now;
          turned = abbrev_turned;
          at = refl;
          held = refl;
          virtuals = virtuals;
          are_apart = are_apart;
          below = below;
          owned = owned_now;
          shapes = record { stays = λ at some_object there. (some_object, get_old one.world.memory.heap.objects object at some_object there, refl) };
          unbegun = unbegun_alike _ one.world.memory memory_now refl;
          memories =
              memories_as memory_now.heap other.world.memory.heap memory_now.allocations other.world.memory.allocations one.world.memory.entries
              other.world.memory.entries (names_themselves a.t.along.names) (keeps_all one.world.memory.heap memory_now.heap refl) heaps
              (let before_it = (memories_here u laws a).allocations in omega (arith, before_it))
              (let before_it = (memories_here u laws a).entries in omega (arith, before_it)) (memories_here u laws a);
        }

        given_refers : (place other_site : ℕ) (value : Value)
            → slice_get (slots_from (scope_in u a.in_planned.one) (state_written a.settled.route) (row_here u laws a class (New index)).change
            (from_new ∷ [])) place ≡ Some (Virt other_site)
            → slice_get (Ref reference ∷ []) place ≡ Some value
            → RefersTo virtuals (length a.ones) other_site value
        given_refers (suc place) other_site value slot there = absurd (none-some value there)
        given_refers zero other_site value slot there =
            let both : Virt site ≡ Virt other_site = sym new_slot ∙ same_Some _ (Virt other_site) slot in
            let same : site ≡ other_site = cc both in
            record {
              virtual = new_one;
              has = subst (λ (n : ℕ). HasVirtual virtuals (length a.ones) n new_one) same has_new;
              is = sym (same_Some (Ref reference) value there);
            }

        given_uninit : (place : ℕ) (source : Source) (type : VType) (value : Value)
            → slice_get (from_new ∷ []) place ≡ Some source
            → slice_get (Ref reference ∷ []) place ≡ Some value
            → KeepsType a.f.place (place_types a.settled.point.typed) type source
            → IsTrue (is_site_object a.in_planned.one.flat type)
            → (some_reference : ℕ) × (value ≡ Ref some_reference)
        given_uninit zero source type value from there kept site_object = (reference, sym (same_Some (Ref reference) value there))
        given_uninit (suc place) source type value from there kept site_object = absurd (none-some value there)

        objects_now : (other_site : ℕ) (told : VObject)
            → object_of (changed (scope_in u a.in_planned.one) (state_written a.settled.route) (row_here u laws a class (New index)).change
            ++ (state_written a.settled.route).objects) other_site ≡ Some told
            → TellsObject (first u) (scope_in u a.in_planned.one) virtuals (length a.ones) told
        objects_now other_site told is_told = by (found_now other_site told is_told) where
          by : ((site ≡ other_site) × (told_now ≡ told))
              ⊎ ((site ≢ other_site) × (object_of (state_written a.settled.route).objects other_site ≡ Some told))
              → TellsObject (first u) (scope_in u a.in_planned.one) virtuals (length a.ones) told
          by (inl (same, is_it)) = subst (TellsObject (first u) (scope_in u a.in_planned.one) virtuals (length a.ones)) is_it tells_new
          by (inr (differ, there)) = tells_old other_site told there

        fields_now : (other_site place : ℕ) (told : VObject) (virtual : Virtual) (value : Value)
            → object_of (changed (scope_in u a.in_planned.one) (state_written a.settled.route) (row_here u laws a class (New index)).change
            ++ (state_written a.settled.route).objects) other_site ≡ Some told
            → HasVirtual virtuals (length a.ones) other_site virtual
            → slice_get told.fields place ≡ Some Plain
            → slice_get virtual.object.values place ≡ Some value
            → KeptIn a.t.along.names cleared.0 (unit_number a.in_planned.one.flat (field_unit other_site place)) value
        fields_now other_site place told virtual value is_told has_it plain_slot is_value = by (found_now other_site told is_told) where
          new_value : site ≡ other_site → (some_type : Option FieldType) → slice_get types place ≡ some_type
              → KeptIn a.t.along.names cleared.0 (unit_number a.in_planned.one.flat (field_unit other_site place)) value
          new_value same some_type is_type =
              of_type some_type is_type where
                same_one : new_one ≡ virtual
                same_one =
                    one_owner virtuals (length a.ones) other_site new_one virtual are_apart
                    (subst (λ (n : ℕ). HasVirtual virtuals (length a.ones) n new_one) same has_new) has_it

                blank_there : option_map (λ (type : FieldType). blank_of_kind (kind_of type)) (slice_get types place) ≡ Some value
                blank_there =
                    sym (slice_get-map (λ (type : FieldType). blank_of_kind (kind_of type)) types place)
                    ∙ ap (λ (vs : List Value). slice_get vs place) (sym values_are)
                    ∙ ap (λ (v : Virtual). slice_get v.object.values place) same_one ∙ is_value

                of_type : (some : Option FieldType) → slice_get types place ≡ some
                    → KeptIn a.t.along.names cleared.0 (unit_number a.in_planned.one.flat (field_unit other_site place)) value
                of_type None none =
                    absurd (none-some value (sym (ap (option_map (λ (type : FieldType). blank_of_kind (kind_of type))) none) ∙ blank_there))
                of_type (Some type) some =
                    let zeroth : 0 + place ≡ place = omega arith in
                    let blank_is : blank_of_kind (kind_of type) ≡ value =
                    same_Some (blank_of_kind (kind_of type)) value
                    (sym (ap (option_map (λ (t : FieldType). blank_of_kind (kind_of t))) some) ∙ blank_there) in
                    subst (KeptIn a.t.along.names cleared.0 (unit_number a.in_planned.one.flat (field_unit other_site place))) blank_is
                    (subst (λ (n : ℕ). KeptIn a.t.along.names cleared.0 (unit_number a.in_planned.one.flat (field_unit n place))
                    (blank_of_kind (kind_of type))) same
                    (subst (λ (n : ℕ). KeptIn a.t.along.names cleared.0 (unit_number a.in_planned.one.flat (field_unit site n))
                    (blank_of_kind (kind_of type))) zeroth (kept_of (cleared.1.blank place type some))))

          by : ((site ≡ other_site) × (told_now ≡ told))
              ⊎ ((site ≢ other_site) × (object_of (state_written a.settled.route).objects other_site ≡ Some told))
              → KeptIn a.t.along.names cleared.0 (unit_number a.in_planned.one.flat (field_unit other_site place)) value
          by (inl (same, is_it)) = new_value same (slice_get types place) refl
          by (inr (differ, there)) =
              kept_of (cleared.1.still (field_unit other_site place) value
              (λ also stored_value another low same_site same_number. absurd (differ (sym same_site)))
              (field_held u laws a other_site place told virtual value there
              (had_before has_it (λ same_frame same_site. absurd (differ same_site))) plain_slot is_value))

  new_virtual : KeepsTurn u measure one other
  new_virtual = by (is_begun one.world.memory number) refl where
    by : (begun : Bool) → is_begun one.world.memory number ≡ begun → KeepsTurn u measure one other
    by false none = begins_first none
    by true begun = makes begun

module _ (u : Setup) (laws : TemplateLaws u) {measure : ℕ} {one other : Run} (a : AtPlanned u measure one other) (class index : ℕ)
    (is : a.settled.point.instr ≡ Of class (New index)) where
  pub new_turns : (instrs : List WInstr) → written_at a class (New index) ≡ Some instrs → KeepsTurn u measure one other
  new_turns instrs told = by (site_at a.in_planned.one.flat a.f.place) refl told where
    by : (site : Option ℕ)
        → site_at a.in_planned.one.flat a.f.place ≡ site
        → new_template (scope_in u a.in_planned.one) site ≡ Some instrs
        → KeepsTurn u measure one other
    by None none written_it = absurd (none-some instrs written_it)
    by (Some site) some written_it = new_virtual u laws a class index is site some
