-- Behind an instruction that takes stack entries and gives others, and leaves the local units as they are.
use Rattle.std.proofs.Common.{◌≡◌, ◌⊎◌, ◌≤◌, ◌<◌, ◌+◌, ◌++◌, ℕ, suc, false, List, [], ◌∷◌, length, map, reverse, slice_get, take, Some, Option, IsTrue, refl, sym, ap, subst, ◌∙◌, arith, inl, inr}
use Rattle.std.proofs.lemmas.Bool.{false≢true}
use Rattle.std.proofs.lemmas.List.{length-reverse, reverse-append, reverse-reverse}
use Rattle.std.proofs.lemmas.Option.{same_Some, slice_get_within}
use Rattle.class_model.specs.Frames.{is_top}
use Rattle.class_model.specs.Laws.Lists.{at_index}
use Rattle.class_model.specs.declared.frame.VType.{VType}
use Rattle.flow_code.specs.FlatCode.{point_at}
use Rattle.flow_code.specs.ReadTypes.{is_site_object}
use Rattle.flow_code.specs.WrittenUnits.{written_units}
use Rattle.flow_code.specs.declared.point.Point.{Point}
use Rattle.machine_values.specs.Frames.{MethodState}
use Rattle.machine_values.specs.declared.value.Value.{Value}
use Rattle.machine_values.specs.declared.value.Value.TheVariants.{Ref}
use Rattle.making_code.specs.Units.{field_unit, unit_number}
use Rattle.member_link.specs.Machine.Runs.{Run}
use Rattle.plan_flow.specs.Must.{row_of_point}
use Rattle.plan_flow.specs.PlanRows.{PlanRow, RowEdge, Source, from_place}
use Rattle.plan_flow.specs.PlanScope.{PlanScope, local_types, stack_types}
use Rattle.plan_flow.specs.PlanSlots.{edge_locals, edge_objects, edge_stack, slot_from, slots_from}
use Rattle.plan_flow.specs.PlanTable.{edges_of, held_from, held_locals}
use Rattle.plan_flow.specs.ReadyForPlans.{KeepsAlong, KeepsType, from_its_new, from_its_type, place_types}
use Rattle.plan_flow.specs.Written.WrittenPrograms.{WrittenMethod}
use Rattle.virtual_state.specs.States.{State, object_of}
use Rattle.virtual_state.specs.declared.slot.Slot.{Slot}
use Rattle.virtual_state.specs.declared.slot.Slot.TheVariants.{Plain, Virt}
use Rattle.virtual_state.specs.declared.slot.VObject.{VObject}
use Rattle.written_runs.specs.Inner.PlannedFrames.{KeepStack, KeptIn, scope_in}
use Rattle.written_runs.specs.Inner.Setup.{Setup, first}
use Rattle.written_runs.specs.Laws.PlannedTurns.{AtPlanned}
use Rattle.written_runs.specs.Laws.Templates.Edges.{GoesOver, locals_from, stack_from}
use Rattle.written_runs.specs.Laws.Templates.Known.{TemplateLaws, before, entries, many_entries, many_slots, many_stack, point, reached, ready, s, tells, top_unit, w, written}
use Rattle.written_runs.specs.Laws.Templates.Stacks.{IsReadPlain, as_read, get_left, get_right, held_at, held_length, held_slots, is_plain_there, is_unusable_there, keep_join, keep_read, length_taken, read_plain, read_virtual, split_place, get_taken}
use Rattle.written_runs.specs.VirtualObjects.{HasVirtual, RefersTo, TellsObject, Virtual, Virtuals, local_slots}

module _ (u : Setup) (laws : TemplateLaws u) {measure : ℕ} {one other : Run} (a : AtPlanned u measure one other) where
  -- what the frames have in local units behind an edge
  pub record LocalsOver (edge : RowEdge) (next : Point) (virtuals : Virtuals) (later after : MethodState) : Type 0 where
    pub many_locals : length (locals_from (s u laws a) (point u laws a) a.f.place (before u laws a) edge) ≡ length next.typed.locals
    pub locals_refer : (unit site : ℕ)
        → slice_get (locals_from (s u laws a) (point u laws a) a.f.place (before u laws a) edge) unit ≡ Some (Virt site)
        → (value : Value)
        × (slice_get later.locals unit ≡ Some (Some value))
        × RefersTo virtuals (length a.ones) site value
    pub locals_keep : (unit : ℕ) (type : VType) (value : Value)
        → slice_get next.typed.locals unit ≡ Some type
        → is_top type ≡ false
        → slice_get (locals_from (s u laws a) (point u laws a) a.f.place (before u laws a) edge) unit ≡ Some Plain
        → slice_get later.locals unit ≡ Some (Some value)
        → KeptIn a.t.along.names after unit value
    pub locals_uninit : (unit : ℕ) (type : VType)
        → slice_get next.typed.locals unit ≡ Some type
        → IsTrue (is_site_object (w u laws a).flat type)
        → (reference : ℕ) × (slice_get later.locals unit ≡ Some (Some (Ref reference)))

  -- local units of both that stay as they are
  pub record LocalsStay (edge : RowEdge) (next : Point) (virtuals : Virtuals) (later after : MethodState) : Type 0 where
    pub number : ℕ
    pub is_edge : slice_get (edges_of a.f.place (point u laws a) (row_of_point (s u laws a) a.f.place (point u laws a))) number ≡ Some edge
    pub is_next : point_at (w u laws a).flat edge.to ≡ Some next
    pub row_locals : edge_locals (row_of_point (s u laws a) a.f.place (point u laws a)) (length (point u laws a).typed.locals) edge.by
        ≡ held_locals (point u laws a).typed
    pub row_stays : (row_of_point (s u laws a) a.f.place (point u laws a)).locals ≡ held_locals (point u laws a).typed
    pub refers : (site : ℕ) (value : Value)
        → RefersTo a.t.along.virtuals (length a.ones) site value
        → RefersTo virtuals (length a.ones) site value
    pub locals : later.locals ≡ a.f.locals
    pub own_units : (unit : ℕ) (value : Value)
        → slice_get (local_slots (point u laws a) (before u laws a)) unit ≡ Some Plain
        → slice_get a.f.locals unit ≡ Some (Some value)
        → KeptIn a.t.along.names after unit value

  -- The instruction takes the topmost entries and gives others.
  pub record MovesOver (edge : RowEdge) (next : Point) (virtuals : Virtuals) (gives : List Source) (later after : MethodState) : Type 0 where
    pub number : ℕ
    pub is_edge : slice_get (edges_of a.f.place (point u laws a) (row_of_point (s u laws a) a.f.place (point u laws a))) number ≡ Some edge
    pub is_next : point_at (w u laws a).flat edge.to ≡ Some next
    -- the stack of the first
    pub top : List Value
    pub below : List Value
    pub is_stack : a.f.stack ≡ top ++ below
    pub given : List Value
    pub many_given : length given ≡ length gives
    pub then_stack : later.stack ≡ reverse given ++ below
    pub many_then : length later.stack ≡ length next.typed.stack
    -- that of the second
    pub below_also : List Value
    pub given_also : List Value
    pub then_also : after.stack ≡ reverse given_also ++ below_also
    pub keep_below : KeepStack a.t.along.names (take (length below) (entries u laws a)) (reverse below) (reverse below_also)
    pub keep_given : KeepStack a.t.along.names
        (slots_from (s u laws a) (before u laws a) (row_of_point (s u laws a) a.f.place (point u laws a)).change gives) given given_also
    -- the row
    pub row_stack : edge_stack (row_of_point (s u laws a) a.f.place (point u laws a)) edge.by
        ≡ held_from (length (point u laws a).typed.locals) (length below) ++ gives
    -- virtual objects
    pub refers : (site : ℕ) (value : Value)
        → RefersTo a.t.along.virtuals (length a.ones) site value
        → RefersTo virtuals (length a.ones) site value
    pub given_refers : (place site : ℕ) (value : Value)
        → slice_get (slots_from (s u laws a) (before u laws a) (row_of_point (s u laws a) a.f.place (point u laws a)).change gives) place
        ≡ Some (Virt site)
        → slice_get given place ≡ Some value
        → RefersTo virtuals (length a.ones) site value
    pub given_uninit : (place : ℕ) (source : Source) (type : VType) (value : Value)
        → slice_get gives place ≡ Some source
        → slice_get given place ≡ Some value
        → KeepsType a.f.place (place_types (point u laws a).typed) type source
        → IsTrue (is_site_object (w u laws a).flat type)
        → (reference : ℕ) × (value ≡ Ref reference)
    pub objects : (site : ℕ) (told : VObject)
        → object_of (edge_objects (s u laws a) (before u laws a) (row_of_point (s u laws a) a.f.place (point u laws a)) edge.by) site ≡ Some told
        → TellsObject (first u) (s u laws a) virtuals (length a.ones) told
    pub fields : (site number : ℕ) (told : VObject) (virtual : Virtual) (value : Value)
        → object_of (edge_objects (s u laws a) (before u laws a) (row_of_point (s u laws a) a.f.place (point u laws a)) edge.by) site ≡ Some told
        → HasVirtual virtuals (length a.ones) site virtual
        → slice_get told.fields number ≡ Some Plain
        → slice_get virtual.object.values number ≡ Some value
        → KeptIn a.t.along.names after (unit_number (w u laws a).flat (field_unit site number)) value
    -- local units
    pub locals : LocalsOver edge next virtuals later after
    pub room : written_units (w u laws a).flat ≤ length after.locals

  abbrev wm : WrittenMethod
  wm = a.in_planned.one

  abbrev sm : PlanScope
  sm = scope_in u a.in_planned.one

  abbrev here : Point
  here = a.settled.point

  abbrev now : State
  now = before u laws a

  abbrev row : PlanRow
  row = row_of_point sm a.f.place here

  -- ---- an edge of the row

  module _ {edge : RowEdge} {next : Point} (number : ℕ)
      (is_edge : slice_get (edges_of a.f.place (point u laws a) (row_of_point (s u laws a) a.f.place (point u laws a))) number ≡ Some edge)
      (is_next : point_at (w u laws a).flat edge.to ≡ Some next) where
    pub next_locals : local_types wm.flat edge.to ≡ next.typed.locals
    next_locals = rw (is_next) refl

    pub next_stack : stack_types wm.flat edge.to ≡ next.typed.stack
    next_stack = rw (is_next) refl

    pub along : KeepsAlong sm a.f.place here edge
    along =
        at_index (KeepsAlong sm a.f.place here) (edges_of a.f.place here row) number edge
        ((ready u laws a).for_plans.uninit.along a.f.place here (reached u laws a).is_point) is_edge

    widths : (at : ℕ) (p : Point) → slice_get wm.flat.points at ≡ Some p → length p.typed.locals ≡ wm.flat.locals
    widths at p is = at_index (λ (q : Point). length q.typed.locals ≡ wm.flat.locals) wm.flat.points at p (ready u laws a).for_plans.widths is

    pub many_next : length here.typed.locals ≡ length next.typed.locals
    many_next = widths a.f.place here (reached u laws a).is_point ∙ sym (widths edge.to next is_next)

  -- ---- local units that stay

  module _ {edge : RowEdge} {next : Point} {virtuals : Virtuals} {later after : MethodState} (m : LocalsStay edge next virtuals later after) where
    locals_are : locals_from sm here a.f.place now edge ≡ map as_read (take (length here.typed.locals) now.slots)
    locals_are =
        ap (slots_from sm now row.change) m.row_locals
        ∙ held_slots sm now row.change 0 (length here.typed.locals) (let all = many_slots u laws a in omega (arith, all))

    -- a unit of the first frame, as it was
    unit_was : (unit : ℕ) (value : Option Value) → slice_get later.locals unit ≡ Some value → slice_get a.f.locals unit ≡ Some value
    unit_was unit value is = ap (λ (units : List (Option Value)). slice_get units unit) (sym m.locals) ∙ is

    locals_keep : (unit : ℕ) (type : VType) (value : Value)
        → slice_get next.typed.locals unit ≡ Some type
        → is_top type ≡ false
        → slice_get (locals_from sm here a.f.place now edge) unit ≡ Some Plain
        → slice_get later.locals unit ≡ Some (Some value)
        → KeptIn a.t.along.names after unit value
    locals_keep unit type value is_type not_top is there =
        by (read_plain (take (length here.typed.locals) now.slots) unit
        (ap (λ (slots : List Slot). slice_get slots unit) (sym locals_are) ∙ is)) where
          low : unit < length here.typed.locals
          low = let within = slice_get_within next.typed.locals unit type is_type in let many = many_next m.number m.is_edge m.is_next in omega (arith, within, many)

          by : IsReadPlain (take (length here.typed.locals) now.slots) unit → KeptIn a.t.along.names after unit value
          by (is_plain_there plain) = m.own_units unit value plain (unit_was unit (Some value) there)
          by (is_unusable_there unusable) =
              absurd (false≢true (sym not_top ∙ ap is_top
              (laws.stays_top a.f.at wm a.f.place here m.number edge unit type (written u laws a) (reached u laws a).is_point m.is_edge
              (top_unit u laws a unit unusable) (ap (λ (sources : List Source). slice_get sources unit) m.row_stays ∙ held)
              (ap (λ (types : List VType). slice_get types unit) (next_locals m.number m.is_edge m.is_next) ∙ is_type)))) where
                held : slice_get (held_locals here.typed) unit ≡ Some (from_place unit)
                held =
                    let number : 0 + unit ≡ unit = omega arith in
                    held_at 0 (length here.typed.locals) unit low ∙ ap (λ (n : ℕ). Some (from_place n)) number

    -- an uninitialised object comes from a place of its type
    place_left : (unit : ℕ) (type : VType) → unit < length here.typed.locals → slice_get (place_types here.typed) unit ≡ Some type
        → slice_get here.typed.locals unit ≡ Some type
    place_left unit type low is = sym (get_left here.typed.locals here.typed.stack unit low) ∙ is

    locals_uninit : (unit : ℕ) (type : VType)
        → slice_get next.typed.locals unit ≡ Some type
        → IsTrue (is_site_object wm.flat type)
        → (reference : ℕ) × (slice_get later.locals unit ≡ Some (Some (Ref reference)))
    locals_uninit unit type is uninit = by kept.0 kept.2 (sym kept.1 ∙ source) where
      low : unit < length here.typed.locals
      low = let within = slice_get_within next.typed.locals unit type is in let many = many_next m.number m.is_edge m.is_next in omega (arith, within, many)

      kept : (source : Source)
          × (slice_get (edge_locals row (length here.typed.locals) edge.by) unit ≡ Some source)
          × KeepsType a.f.place (place_types here.typed) type source
      kept = (along m.number m.is_edge m.is_next).locals unit type (ap (λ (types : List VType). slice_get types unit) (next_locals m.number m.is_edge m.is_next) ∙ is) uninit

      source : slice_get (edge_locals row (length here.typed.locals) edge.by) unit ≡ Some (from_place unit)
      source =
          let number : 0 + unit ≡ unit = omega arith in
          ap (λ (sources : List Source). slice_get sources unit) m.row_locals
          ∙ held_at 0 (length here.typed.locals) unit low ∙ ap (λ (n : ℕ). Some (from_place n)) number

      by : (found : Source)
          → KeepsType a.f.place (place_types here.typed) type found
          → Some found ≡ Some (from_place unit)
          → (reference : ℕ) × (slice_get later.locals unit ≡ Some (Some (Ref reference)))
      by (from_place place) (from_its_type other is_type) same =
          let at_unit : place ≡ unit = cc (same_Some (from_place place) (from_place unit) same) in
          let was = (tells u laws a).uninit_locals unit type
          (place_left unit type low (ap (slice_get (place_types here.typed)) (sym at_unit) ∙ is_type)) uninit in
          (was.0, ap (λ (units : List (Option Value)). slice_get units unit) m.locals ∙ was.1)
      by found (from_its_new of_new) same = absurd (cc (same_Some found (from_place unit) same))

    many_read : (slots : List Slot) → length (map as_read slots) ≡ length slots
    many_read [] = refl
    many_read (slot ∷ slots) = ap suc (many_read slots)

    pub locals_stay : LocalsOver edge next virtuals later after
    locals_stay = record {
      many_locals =
          ap length locals_are ∙ many_read (take (length here.typed.locals) now.slots)
          ∙ length_taken (length here.typed.locals) now.slots (let all = many_slots u laws a in omega (arith, all))
          ∙ many_next m.number m.is_edge m.is_next;
      locals_refer = λ unit site is.
          let found = (tells u laws a).locals unit site
          (read_virtual (take (length here.typed.locals) now.slots) unit site
          (ap (λ (slots : List Slot). slice_get slots unit) (sym locals_are) ∙ is)) in
          (found.0, ap (λ (units : List (Option Value)). slice_get units unit) m.locals ∙ found.1, m.refers site found.0 found.2);
      locals_keep = locals_keep;
      locals_uninit = locals_uninit;
    }

  -- ---- the stack

  module _ {edge : RowEdge} {next : Point} {virtuals : Virtuals} {gives : List Source} {later after : MethodState}
      (m : MovesOver edge next virtuals gives later after) where
    turned : reverse later.stack ≡ reverse m.below ++ m.given
    turned =
        ap reverse m.then_stack ∙ reverse-append (reverse m.given) m.below
        ∙ ap (λ (vs : List Value). reverse m.below ++ vs) (reverse-reverse m.given)

    turned_also : reverse after.stack ≡ reverse m.below_also ++ m.given_also
    turned_also =
        ap reverse m.then_also ∙ reverse-append (reverse m.given_also) m.below_also
        ∙ ap (λ (vs : List Value). reverse m.below_also ++ vs) (reverse-reverse m.given_also)

    turned_before : reverse a.f.stack ≡ reverse m.below ++ reverse m.top
    turned_before = ap reverse m.is_stack ∙ reverse-append m.top m.below

    few : length m.below ≤ length here.typed.stack
    few =
        let all = sym (many_stack u laws a) ∙ ap length m.is_stack in
        let both = many_of m.top m.below in
        omega (arith, all, both) where
          many_of : (left right : List Value) → length (left ++ right) ≡ length left + length right
          many_of [] right = omega arith
          many_of (value ∷ left) right = let rest = many_of left right in omega (arith, rest)

    low_entries : length m.below ≤ length (entries u laws a)
    low_entries = let all = many_entries u laws a in let f = few in omega (arith, all, f)

    stack_is : stack_from sm here a.f.place now edge
        ≡ map as_read (take (length m.below) (entries u laws a)) ++ slots_from sm now row.change gives
    stack_is =
        ap (slots_from sm now row.change) m.row_stack
        ∙ mapped (held_from (length here.typed.locals) (length m.below)) gives
        ∙ ap (λ (slots : List Slot). slots ++ slots_from sm now row.change gives)
        (held_slots sm now row.change (length here.typed.locals) (length m.below)
        (let all = many_slots u laws a in let f = few in omega (arith, all, f))) where
          mapped : (left right : List Source) → slots_from sm now row.change (left ++ right)
              ≡ slots_from sm now row.change left ++ slots_from sm now row.change right
          mapped [] right = refl
          mapped (source ∷ left) right = ap (λ (slots : List Slot). slot_from sm now row.change source ∷ slots) (mapped left right)

    many_below : length (map as_read (take (length m.below) (entries u laws a))) ≡ length (reverse m.below)
    many_below =
        many_read (take (length m.below) (entries u laws a)) ∙ length_taken (length m.below) (entries u laws a) low_entries
        ∙ sym (length-reverse m.below) where
          many_read : (slots : List Slot) → length (map as_read slots) ≡ length slots
          many_read [] = refl
          many_read (slot ∷ slots) = ap suc (many_read slots)

    stack_keep : KeepStack a.t.along.names (stack_from sm here a.f.place now edge) (reverse later.stack) (reverse after.stack)
    stack_keep =
        subst (λ (slots : List Slot). KeepStack a.t.along.names slots (reverse later.stack) (reverse after.stack)) (sym stack_is)
        (subst (λ (vs : List Value). KeepStack a.t.along.names
        (map as_read (take (length m.below) (entries u laws a)) ++ slots_from sm now row.change gives) vs (reverse after.stack)) (sym turned)
        (subst (KeepStack a.t.along.names (map as_read (take (length m.below) (entries u laws a)) ++ slots_from sm now row.change gives)
        (reverse m.below ++ m.given)) (sym turned_also)
        (keep_join a.t.along.names (map as_read (take (length m.below) (entries u laws a))) (slots_from sm now row.change gives) (reverse m.below)
        m.given (reverse m.below_also) m.given_also many_below
        (keep_read a.t.along.names (take (length m.below) (entries u laws a)) (reverse m.below) (reverse m.below_also) m.keep_below) m.keep_given)))

    stack_refer : (place site : ℕ) (value : Value)
        → slice_get (stack_from sm here a.f.place now edge) place ≡ Some (Virt site)
        → slice_get (reverse later.stack) place ≡ Some value
        → RefersTo virtuals (length a.ones) site value
    stack_refer place site value is there = by (split_place place (length m.below)) where
      slot : slice_get (map as_read (take (length m.below) (entries u laws a)) ++ slots_from sm now row.change gives) place ≡ Some (Virt site)
      slot = ap (λ (slots : List Slot). slice_get slots place) (sym stack_is) ∙ is

      entry : slice_get (reverse m.below ++ m.given) place ≡ Some value
      entry = ap (λ (vs : List Value). slice_get vs place) (sym turned) ∙ there

      by : (place < length m.below) ⊎ ((more : ℕ) × (place ≡ length m.below + more)) → RefersTo virtuals (length a.ones) site value
      by (inl low) =
          let many = many_below in
          let many_values = length-reverse m.below in
          m.refers site value ((tells u laws a).stack place site value
          (get_taken (length m.below) (entries u laws a) place (Virt site)
          (read_virtual (take (length m.below) (entries u laws a)) place site
          (sym (get_left (map as_read (take (length m.below) (entries u laws a))) (slots_from sm now row.change gives) place
          (omega (arith, low, many, many_values))) ∙ slot)))
          (ap (λ (vs : List Value). slice_get vs place) turned_before
          ∙ get_left (reverse m.below) (reverse m.top) place (omega (arith, low, many_values))
          ∙ sym (get_left (reverse m.below) m.given place (omega (arith, low, many_values)))
          ∙ entry))
      by (inr (more, is_more)) =
          let many = many_below in
          let many_values = length-reverse m.below in
          let place_slot : place ≡ length (map as_read (take (length m.below) (entries u laws a))) + more = omega (arith, is_more, many, many_values) in
          let place_entry : place ≡ length (reverse m.below) + more = omega (arith, is_more, many_values) in
          m.given_refers more site value
          (sym (get_right (map as_read (take (length m.below) (entries u laws a))) (slots_from sm now row.change gives) more)
          ∙ ap (slice_get (map as_read (take (length m.below) (entries u laws a)) ++ slots_from sm now row.change gives)) (sym place_slot) ∙ slot)
          (sym (get_right (reverse m.below) m.given more) ∙ ap (slice_get (reverse m.below ++ m.given)) (sym place_entry) ∙ entry)

    stack_uninit : (place : ℕ) (type : VType) (value : Value)
        → slice_get next.typed.stack place ≡ Some type
        → slice_get (reverse later.stack) place ≡ Some value
        → IsTrue (is_site_object wm.flat type)
        → (reference : ℕ) × (value ≡ Ref reference)
    stack_uninit place type value is there uninit = by (split_place place (length m.below)) where
      kept : (source : Source)
          × (slice_get (edge_stack row edge.by) place ≡ Some source)
          × KeepsType a.f.place (place_types here.typed) type source
      kept = (along m.number m.is_edge m.is_next).stack place type (ap (λ (types : List VType). slice_get types place) (next_stack m.number m.is_edge m.is_next) ∙ is) uninit

      source : slice_get (held_from (length here.typed.locals) (length m.below) ++ gives) place ≡ Some kept.0
      source = ap (λ (sources : List Source). slice_get sources place) (sym m.row_stack) ∙ kept.1

      entry : slice_get (reverse m.below ++ m.given) place ≡ Some value
      entry = ap (λ (vs : List Value). slice_get vs place) (sym turned) ∙ there

      many_held : length (held_from (length here.typed.locals) (length m.below)) ≡ length m.below
      many_held = held_length (length here.typed.locals) (length m.below)

      was : (low : place < length m.below) (found : Source)
          → KeepsType a.f.place (place_types here.typed) type found
          → Some found ≡ Some (from_place (length here.typed.locals + place))
          → (reference : ℕ) × (value ≡ Ref reference)
      was low (from_place other) (from_its_type same_place is_type) same =
          let at_place : other ≡ length here.typed.locals + place =
          cc (same_Some (from_place other) (from_place (length here.typed.locals + place)) same) in
          let many_values = length-reverse m.below in
          (tells u laws a).uninit_stack place type value
          (sym (get_right here.typed.locals here.typed.stack place) ∙ ap (slice_get (place_types here.typed)) (sym at_place) ∙ is_type)
          (ap (λ (vs : List Value). slice_get vs place) turned_before
          ∙ get_left (reverse m.below) (reverse m.top) place (omega (arith, low, many_values))
          ∙ sym (get_left (reverse m.below) m.given place (omega (arith, low, many_values)))
          ∙ entry) uninit
      was low found (from_its_new of_new) same = absurd (cc (same_Some found (from_place (length here.typed.locals + place)) same))

      by : (place < length m.below) ⊎ ((more : ℕ) × (place ≡ length m.below + more)) → (reference : ℕ) × (value ≡ Ref reference)
      by (inl low) =
          let many = many_held in
          was low kept.0 kept.2
          (sym source
          ∙ get_left (held_from (length here.typed.locals) (length m.below)) gives place (omega (arith, low, many))
          ∙ held_at (length here.typed.locals) (length m.below) place low)
      by (inr (more, is_more)) =
          let many = many_held in
          let many_values = length-reverse m.below in
          let place_source : place ≡ length (held_from (length here.typed.locals) (length m.below)) + more = omega (arith, is_more, many) in
          let place_entry : place ≡ length (reverse m.below) + more = omega (arith, is_more, many_values) in
          m.given_uninit more kept.0 type value
          (sym (get_right (held_from (length here.typed.locals) (length m.below)) gives more)
          ∙ ap (slice_get (held_from (length here.typed.locals) (length m.below) ++ gives)) (sym place_source) ∙ source)
          (sym (get_right (reverse m.below) m.given more) ∙ ap (slice_get (reverse m.below ++ m.given)) (sym place_entry) ∙ entry)
          kept.2 uninit

    many_given_slots : length (slots_from sm now row.change gives) ≡ length gives
    many_given_slots = many_from gives where
      many_from : (sources : List Source) → length (slots_from sm now row.change sources) ≡ length sources
      many_from [] = refl
      many_from (source ∷ sources) = ap suc (many_from sources)

    many_stack_from : length (stack_from sm here a.f.place now edge) ≡ length next.typed.stack
    many_stack_from =
        let slots = ap length stack_is in
        let both = many_slot_lists (map as_read (take (length m.below) (entries u laws a))) (slots_from sm now row.change gives) in
        let left = many_below in
        let right = many_given_slots in
        let values = length-reverse m.below in
        let later_values = sym (length-reverse later.stack) ∙ ap length turned in
        let both_values = many_value_lists (reverse m.below) m.given in
        let given = m.many_given in
        let last = m.many_then in
        omega (arith, slots, both, left, right, values, later_values, both_values, given, last) where
          many_slot_lists : (left right : List Slot) → length (left ++ right) ≡ length left + length right
          many_slot_lists [] right = omega arith
          many_slot_lists (slot ∷ left) right = let rest = many_slot_lists left right in omega (arith, rest)

          many_value_lists : (left right : List Value) → length (left ++ right) ≡ length left + length right
          many_value_lists [] right = omega arith
          many_value_lists (value ∷ left) right = let rest = many_value_lists left right in omega (arith, rest)

    -- ---- both

    pub goes_over : GoesOver (first u) sm virtuals a.t.along.names (length a.ones) here a.f.place now edge next later after
    goes_over = record {
      many_locals = m.locals.many_locals;
      locals_refer = m.locals.locals_refer;
      locals_keep = m.locals.locals_keep;
      locals_uninit = m.locals.locals_uninit;
      many_stack = many_stack_from;
      stack_refer = stack_refer;
      stack_keep = stack_keep;
      stack_uninit = stack_uninit;
      objects = m.objects;
      fields = m.fields;
      room = m.room;
    }
