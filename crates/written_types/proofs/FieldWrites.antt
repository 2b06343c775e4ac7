-- A putfield into a virtual object: its field's unit is set, or nothing is written where a virtual object is put.
use Rattle.std.proofs.Common.{◌≡◌, ◌⊎◌, ◌+◌, ◌-◌, ◌≤◌, ℕ, suc, Bool, true, false, List, [], ◌∷◌, ◌++◌, drop, length, map, slice_get, take, Option, Some, if◌then◌else◌, refl, sym, ap, subst, ◌∙◌, inl, inr, arith}
use Rattle.std.specs.List.{AllByRecursion}
use Rattle.std.proofs.lemmas.List.{append-nil, length-map, map-append}
use Rattle.std.proofs.lemmas.Option.{same_Some}
use Rattle.class_model.specs.Descriptors.{kind_of, parameter_units, type_of}
use Rattle.class_model.specs.declared.descriptor.FieldType.{FieldType}
use Rattle.class_model.specs.declared.descriptor.FieldType.TheVariants as field_types
use Rattle.class_model.specs.declared.frame.Frame.{Frame}
use Rattle.class_model.specs.declared.frame.VType.{VType}
use Rattle.class_model.specs.declared.frame.VType.TheVariants as types
use Rattle.class_model.specs.declared.instr.Instr.TheVariants.{PutField}
use Rattle.class_tree.specs.Headers.{Headers}
use Rattle.flow_code.specs.ReadTypes.{read_type}
use Rattle.flow_code.specs.WrittenUnits.{field_units}
use Rattle.flow_code.specs.declared.point.FlatInstr.{FlatInstr}
use Rattle.flow_code.specs.declared.point.FlatInstr.TheVariants.{Of}
use Rattle.flow_code.specs.declared.point.Point.{Point}
use Rattle.making_code.specs.Items.{WInstr, WItem, item, store}
use Rattle.making_code.specs.Units.{field_unit, fields_at, unit_number}
use Rattle.member_link.specs.Assignability.{IsAssignable}
use Rattle.member_link.specs.References.{Reference}
use Rattle.member_link.specs.Rows.FrameAssignability.{AreAssignable}
use Rattle.member_link.specs.Rows.LocalRows.{stored}
use Rattle.member_link.specs.Rows.MemberRows.{put_field_row}
use Rattle.member_link.specs.Rows.Operands.{assignable_or_this, assignable_to, topmost, under}
use Rattle.member_link.specs.Rows.Row.{stack_behind}
use Rattle.member_link.specs.Signatures.{field_type}
use Rattle.plan_flow.specs.PlanRows.{any_object}
use Rattle.plan_flow.specs.PlanScope.{PlanScope, field_number, field_of, is_of_library}
use Rattle.plan_flow.specs.PlanSlots.{changed, held, is_open, put_in}
use Rattle.plan_flow.specs.PlanTable.{falls_on, held_from, held_locals, operand, operands_asked, positions, put_field_row as plan_put, value_put}
use Rattle.plan_flow.specs.Written.Routes.{Route, RouteEdge, edge_by}
use Rattle.plan_flow.specs.Written.Templates.{field_type_at, items_at, narrowing}
use Rattle.plan_flow.specs.declared.edge.EdgeKind.TheVariants as edges
use Rattle.virtual_state.specs.States.{State, is_present}
use Rattle.virtual_state.specs.declared.slot.Slot.{Slot}
use Rattle.virtual_state.specs.declared.slot.Slot.TheVariants.{Plain, Virt}
use Rattle.written_types.proofs.FieldFits.{NotThis, fits_by_units}
use Rattle.written_types.proofs.FieldPlaces.{FieldPlace, IsValue, field_place, field_unit_is, own_long, present_held, value_of}
use Rattle.written_types.proofs.FieldReads.{FieldsNumbered, field_is, host_headers, named_in, none_asked}
use Rattle.written_types.proofs.FieldStores.{BothParts, UnitParts, both_parts, narrows, parts_room, stored_parts, unit_parts}
use Rattle.written_types.proofs.FieldUnits.{EndsNarrow, UnitsAt, field_units_at, narrow_both, narrow_mapped, narrow_pairs, units_for}
use Rattle.written_types.proofs.Given.{EdgesFit, EndsCarry, FitsState, Given, entries_in, locals_in}
use Rattle.written_types.proofs.ItemSteps.{frame_of, store_carries}
use Rattle.written_types.proofs.OperandRows.{Fit}
use Rattle.written_types.proofs.Placing.{IsMade}
use Rattle.written_types.proofs.ShuffleOperands.{agree_same}
use Rattle.written_types.proofs.SiteFields.{SitesKnown, linked_desc}
use Rattle.written_types.proofs.SlotFrames.{by_top, by_wide, locals_are, units_behind}
use Rattle.written_types.proofs.SlotTypes.{IsOpen, assigned_slot, is_open_type, open_object, open_top}
use Rattle.written_types.proofs.StillTemplates.{operands_have}
use Rattle.written_types.proofs.StoredUnits.{stored_all}
use Rattle.written_types.proofs.TemplateEnds.{fitting_template}
use Rattle.written_types.proofs.TemplateRows.{TwoTypes, as_many, field_present, holds_for, nothing_template, operand_slots, operands_are, plan_for, row_for, scope_for, two_types}
use Rattle.written_types.proofs.Templates.{Before, By, Taken, entries, locals_agree, locals_stay, number, objects_behind, own_stays, plan_row, read, row, stack_along, state, taken, units_alike}
use Rattle.written_types.proofs.UnitTemplates.{by_units}
use Rattle.written_types.specs.FitsTypes.{HavePairs, HaveTypes, IsOfType}
use Rattle.written_types.specs.Inner.CarriedFrames.{AgreeIn, BlockCarries, Carries, carries_none}
use Rattle.written_types.specs.Writing.{Writing, scope_in}

-- ---- the units before a store

module _ (w : Writing) (given : Given w) (b : Before w given) where
  abbrev pub own_types : List VType
  own_types = locals_in (read w given b).locals (state w given b).slots

  pub own_narrow : EndsNarrow (map (By w given b) own_types)
  own_narrow =
      let found = given.fits.written b.at b.route b.here.is_route in
      narrow_mapped (By w given b) (by_wide w.form w.blocks) own_types
      (narrow_pairs own_types (subst HavePairs
      (ap (λ (p : Point). locals_in (map (read_type w.s.flat) p.typed.locals) (state w given b).slots)
      (same_Some found.point b.point (sym found.there ∙ b.here.there)))
      (subst HavePairs (locals_are w.s.flat found.point.typed.locals (state w given b).slots) found.written_pairs)))

  pub both_agree : AgreeIn b.frame.locals (map (By w given b) own_types ++ units_behind w.s.flat (state w given b).objects)
  both_agree =
      subst (AgreeIn b.frame.locals)
      (map-append (By w given b) own_types (units_behind w.s.flat (state w given b).objects)
      ∙ ap (λ (rest : List VType). map (By w given b) own_types ++ rest) (by_units w.form w.blocks w.s.flat (state w given b).objects))
      (locals_agree w given b)

  pub own_types_long : length (map (By w given b) own_types) ≡ w.s.flat.locals
  own_types_long = length-map own_types (By w given b) ∙ own_long w given b

made_store : (type : FieldType) (instr : WInstr) → IsMade instr → AllByRecursion IsMade (narrowing type ++ instr ∷ [])
made_store field_types.Byte instr made = (tt, (made, tt))
made_store field_types.Short instr made = (tt, (made, tt))
made_store field_types.Char instr made = (tt, (made, tt))
made_store field_types.Bool instr made = (tt, (tt, (made, tt)))
made_store other instr made = (made, tt)

-- what is written where a value is put
put_items : (s : PlanScope) (at : ℕ) (point : Point) (state : State) (route : Route) (class index site place : ℕ) (field : Reference) (type : FieldType)
    → point.instr ≡ Of class (PutField index)
    → held state (operand point.typed 1) ≡ Virt site
    → held state (operand point.typed 0) ≡ Plain
    → field_of s class index ≡ Some field
    → field_number s site field ≡ Some place
    → field_type_at s site place ≡ Some type
    → items_at s at point state route ≡ map item (narrowing type ++ store (kind_of type) (field_unit site place) ∷ [])
put_items s at point state route class index site place field type is virtual is_plain found number there =
    rw (is, virtual, is_plain, found, number, there) refl

module _ (w : Writing) (given : Given w) (b : Before w given) (fit : EdgesFit w given) (ends : EndsCarry w given) (known : SitesKnown w.s)
    (numbers : FieldsNumbered w) (class index site : ℕ) (is : b.point.instr ≡ Of class (PutField index))
    (virtual : held (state w given b) (operand b.point.typed 1) ≡ Virt site) (r field : Reference) (named : named_in w class index ≡ Some r)
    (linked : w.s.links.field r ≡ Some field) where
  abbrev i : FlatInstr
  i = Of class (PutField index)

  abbrev now : State
  now = state w given b

  abbrev read_stack : List VType
  read_stack = (read w given b).stack

  plan_field : field_of w.s class index ≡ Some field
  plan_field = field_is w class index r named ∙ linked

  -- a field of the library would ask for its object
  folder : is_of_library w.s field ≡ false
  folder = by (is_of_library w.s field) refl where
    by : (from_library : Bool) → is_of_library w.s field ≡ from_library → is_of_library w.s field ≡ false
    by false is_library = is_library
    by true is_library =
        absurd (none_asked w given b 0 (any_object (operand b.point.typed 1)) site
        (ap (λ (found : FlatInstr). slice_get (positions (plan_for w given b found)) 0) is
        ∙ ap (λ (found : Option Reference). slice_get (positions (plan_put w.s b.point.typed found)) 0) plan_field
        ∙ ap (λ (from_library : Bool). slice_get ((if from_library then operands_asked b.point.typed 2 else [])
        ++ value_put (operand b.point.typed 1) (operand b.point.typed 0)) 0) is_library) virtual)

  two : TwoTypes (scope_for w given b i) (assignable_or_this (types.Object r.class)) (assignable_to (field_type r.desc)) (topmost 2 read_stack)
  two =
      two_types (scope_for w given b i) (assignable_or_this (types.Object r.class)) (assignable_to (field_type r.desc)) (topmost 2 read_stack)
      (subst (λ (found : Option Reference). Fit (scope_for w given b i) (read w given b) (put_field_row (scope_for w given b i) (read w given b) found)) named
      (holds_for w given b i is).operands)

  few : 2 ≤ length read_stack
  few = as_many w given b 2 (ap length two.is)

  slots_are : (slot : Slot) → held now (operand b.point.typed 0) ≡ slot
      → entries_in (topmost 2 read_stack) (drop (length read_stack - 2) (entries w given b)) ≡ entries_in (two.type ∷ two.other ∷ []) (Virt site ∷ slot ∷ [])
  slots_are slot is_slot = λ j. entries_in (two.is j) ((operands_are w given b 2 few ∙ (λ k. virtual k ∷ is_slot k ∷ [])) j)

  -- ---- rows

  sources_are : (plan_row w given b).stack ≡ held_from (length b.point.typed.locals) (length b.point.typed.stack - 2) ++ []
  sources_are =
      ap (λ (found : FlatInstr). (plan_for w given b found).stack) is
      ∙ ap (λ (found : Option Reference). (plan_put w.s b.point.typed found).stack) plan_field

  gives_are : stack_behind (read w given b) (row w given b) ≡ under 2 read_stack ++ []
  gives_are =
      ap (λ (found : FlatInstr). stack_behind (read w given b) (row_for w given b found)) is
      ∙ ap (λ (found : Option Reference). stack_behind (read w given b) (put_field_row (scope_for w given b i) (read w given b) found)) named

  types_stay : (row w given b).locals ≡ (read w given b).locals
  types_stay =
      ap (λ (found : FlatInstr). (row_for w given b found).locals) is
      ∙ ap (λ (found : Option Reference). (put_field_row (scope_for w given b i) (read w given b) found).locals) named

  units_stay : (plan_row w given b).locals ≡ held_locals b.point.typed
  units_stay =
      ap (λ (found : FlatInstr). (plan_for w given b found).locals) is
      ∙ ap (λ (found : Option Reference). (plan_put w.s b.point.typed found).locals) plan_field

  objects_stay : (one : ℕ) → is_present (objects_behind w given b) one ≡ is_present now.objects one
  objects_stay one =
      ap (λ (found : FlatInstr). is_present (changed w.s now (plan_for w given b found).change ++ now.objects) one) is
      ∙ ap (λ (found : Option Reference). is_present (changed w.s now (plan_put w.s b.point.typed found).change ++ now.objects) one) plan_field
      ∙ ap (λ (slot : Slot). is_present (put_in w.s now slot field (held now (operand b.point.typed 0)) ++ now.objects) one) virtual
      ∙ field_present now.objects site (field_number w.s site field) (held now (operand b.point.typed 0)) one

  opens : is_open now (plan_row w given b).next ≡ true
  opens =
      ap (λ (found : FlatInstr). is_open now (plan_for w given b found).next) is
      ∙ ap (λ (found : Option Reference). is_open now (plan_put w.s b.point.typed found).next) plan_field

  -- ---- a virtual object is put

  pub put_virtual : (other : ℕ) → held now (operand b.point.typed 0) ≡ Virt other → BlockCarries w (number w given b) b.one b.behind b.frame
  put_virtual other is_slot =
      nothing_template w given b fit ends 2 [] [] sources_are gives_are (slots_are (Virt other) is_slot)
      (locals_stay w given b types_stay units_stay objects_stay) (rw (is, virtual, is_slot) refl) (rw (is) refl) (ap falls_on is) opens

  -- ---- a value is put

  module _ (is_plain : held now (operand b.point.typed 0) ≡ Plain) where
    abbrev type : FieldType
    type = type_of field.desc

    abbrev headers : Headers
    headers = (scope_in w).headers

    of_two : IsOfType w.s site two.type
    of_two =
        (subst (λ (slot : Slot). HaveTypes w.s (two.type ∷ two.other ∷ []) (slot ∷ held now (operand b.point.typed 0) ∷ [])) virtual
        (subst (λ (all : List VType). HaveTypes w.s all (operand_slots w given b 2)) two.is (operands_have w given b 2 few))).0

    of_receiver : IsOfType w.s site (types.Object r.class)
    of_receiver = by two.fits where
      no_this : {type : VType} → IsOpen w.s type → type ≡ types.UninitThis → ⊥
      no_this open_top same = absurd cc
      no_this (open_object name) same = absurd cc

      by : IsAssignable headers two.type (types.Object r.class) ⊎ (two.type ≡ types.UninitThis) → IsOfType w.s site (types.Object r.class)
      by (inl is) =
          assigned_slot w.s known.hierarchy known.there two.type (types.Object r.class) (Virt site) of_two
          (subst (λ (found : Headers). IsAssignable found two.type (types.Object r.class)) (host_headers w given) is)
      by (inr this) = absurd (no_this (is_open_type w.s of_two) this)

    numbered : (place : ℕ) × (field_number w.s site field ≡ Some place)
    numbered = numbers.number b.at class index site b.point r field b.here.there (inr is) named linked of_receiver folder

    abbrev place : ℕ
    place = numbered.0

    p : FieldPlace w.s site place type
    p = field_place w.s known site of_two.site field place of_two.there numbered.1

    type_there : field_type_at w.s site place ≡ Some type
    type_there = ap (λ (all : List FieldType). slice_get all place) fields_there ∙ p.is_type where
      fields_there : fields_at w.s.flat site ≡ p.one.fields
      fields_there = rw (p.there) refl

    value : IsValue headers (By w given b) type two.other
    value =
        value_of headers w.form w.blocks type two.other
        (subst (IsAssignable headers two.other) (sym (ap field_type (linked_desc w.s known r field linked))) two.other_fits)

    parts : Taken w b.frame read_stack (entries w given b) 2
    parts = taken w given b 2

    top_is : parts.top ≡ two.other ∷ []
    top_is =
        agree_same parts.top (By w given b two.other ∷ [])
        (subst (λ (all : List VType). AgreeIn parts.top (map (By w given b) all)) (slots_are Plain is_plain) parts.top_agree)
        (by_top w.form w.blocks two.other ∙ value.not_top, tt)
        ∙ ap (λ (one : VType). one ∷ []) value.by_is

    stack_is : b.frame.stack ≡ parts.low ++ two.other ∷ []
    stack_is = parts.is ∙ ap (λ (top : List VType). parts.low ++ top) top_is

    -- ---- units

    abbrev unit : ℕ
    unit = unit_number w.s.flat (field_unit site place)

    abbrev own : List VType
    own = map (By w given b) (own_types w given b)

    at : UnitsAt (units_behind w.s.flat now.objects) (units_for type)
        (field_units (take site w.s.flat.sites) + parameter_units (take place p.one.fields))
    at = field_units_at w.s.flat now.objects site p.one place type p.there (present_held w given b (operand b.point.typed 1) site virtual) p.is_type

    unit_is : length own + length at.left ≡ unit
    unit_is =
        let one = own_types_long w given b in
        let other = at.long in
        let whole = field_unit_is w.s site place type p in
        omega (arith, one, other, whole)

    units : UnitParts headers b.frame.locals own at.left at.right (length (units_for type))
    units =
        unit_parts headers b.frame.locals own (units_behind w.s.flat now.objects) at.left (units_for type) at.right (both_agree w given b) at.is

    behind : BothParts headers (stored unit two.other b.frame.locals) own (at.left ++ (units_for type ++ at.right))
    behind =
        both_parts headers (By w given b) _ own at.left at.right type two.other
        (stored_parts headers (By w given b) b.frame.locals own at.left at.right unit type two.other units value
        (narrow_both own at.left (own_narrow w given b) at.narrow) unit_is) value

    abbrev last : Frame
    last = frame_of (stored unit two.other b.frame.locals) parts.low

    so : Carries w (number w given b) (map item (narrowing type) ++ (item (store (kind_of type) (field_unit site place)) ∷ [])) b.frame (Some last)
    so =
        subst (λ (stack : List VType). Carries w (number w given b) (map item (narrowing type) ++ (item (store (kind_of type) (field_unit site place)) ∷ []))
        (frame_of b.frame.locals stack) (Some last)) (sym stack_is)
        (narrows w (number w given b) b.frame.locals parts.low two.other (item (store (kind_of type) (field_unit site place)) ∷ []) (Some last) type
        value.same_number
        (λ next. store_carries w next (frame_of b.frame.locals (parts.low ++ two.other ∷ [])) [] (Some last) (kind_of type) (field_unit site place)
        parts.low two.other refl value.of_kind (parts_room headers b.frame.locals own at.left at.right unit type units unit_is)
        (carries_none (suc next) last)))

    fits_edge : (edge : RouteEdge) → edge_by b.route edges.Next ≡ Some edge → FitsState w last edge.to edge.state
    fits_edge edge found =
        subst (λ (locals : List VType). FitsState w (frame_of locals parts.low) edge.to edge.state) (sym behind.is)
        (fits_by_units w given b fit ends behind.locals behind.units_of parts.low edge found
        (subst (AgreeIn behind.locals) (ap (map (By w given b)) (sym (own_stays w given b types_stay units_stay))) behind.agree)
        (subst (λ (fields : List VType). AreAssignable headers behind.units_of fields)
        (sym at.is ∙ sym (units_alike w.s.flat (objects_behind w given b) now.objects objects_stay)) behind.assigned)
        (subst (λ (all : List VType). AgreeIn parts.low (map (By w given b) all))
        (sym (stack_along w given b 2 [] [] sources_are gives_are ∙ append-nil _)) parts.low_agree)
        (subst (AllByRecursion NotThis) behind.is
        (stored_all NotThis (λ same. absurd cc) unit two.other b.frame.locals value.not_this b.agrees.no_this)))

    pub put_plain : BlockCarries w (number w given b) b.one b.behind b.frame
    put_plain =
        fitting_template w given b fit ends (narrowing type ++ store (kind_of type) (field_unit site place) ∷ []) last
        (put_items w.s b.at b.point now b.route class index site place field type is virtual is_plain plan_field numbered.1 type_there) (made_store type _ tt) (rw (is) refl) (ap falls_on is) opens
        (subst (λ (items : List WItem). Carries w (number w given b) items b.frame (Some last))
        (sym (map-append item (narrowing type) (store (kind_of type) (field_unit site place) ∷ []))) so) fits_edge
