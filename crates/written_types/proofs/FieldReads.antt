-- A getfield of a virtual object: its field's unit is loaded, or nothing is written where the field holds a virtual object.
use Rattle.std.proofs.Common.{◌≡◌, ◌⊎◌, ◌-◌, ℕ, suc, Bool, true, false, List, [], ◌∷◌, ◌++◌, length, map, slice_get, Option, Some, option_and_then, if◌then◌else◌, refl, sym, ap, subst, ◌∙◌, inl}
use Rattle.std.proofs.lemmas.Bool.{false≢true}
use Rattle.std.proofs.lemmas.List.{append-nil}
use Rattle.class_model.specs.Code.{verification_type}
use Rattle.class_model.specs.Descriptors.{kind_of, type_of}
use Rattle.class_model.specs.Pool.{Constants, constant_at}
use Rattle.class_model.specs.declared.descriptor.FieldType.{FieldType}
use Rattle.class_model.specs.declared.frame.Frame.{Frame}
use Rattle.class_model.specs.declared.frame.VType.{VType}
use Rattle.class_model.specs.declared.frame.VType.TheVariants as types
use Rattle.class_model.specs.declared.instr.Instr.TheVariants.{GetField, PutField}
use Rattle.class_tree.specs.Headers.{Headers, headers_of}
use Rattle.flow_code.specs.declared.point.FlatInstr.{FlatInstr}
use Rattle.flow_code.specs.declared.point.FlatInstr.TheVariants.{Of}
use Rattle.making_code.specs.Items.{item, load}
use Rattle.making_code.specs.Units.{field_unit, fields_at}
use Rattle.flow_code.specs.FlatCode.{point_at}
use Rattle.flow_code.specs.declared.point.Point.{Point}
use Rattle.member_link.specs.Assignability.{IsAssignable}
use Rattle.member_link.specs.References.{Reference}
use Rattle.member_link.specs.Rows.MemberRows.{get_field_row}
use Rattle.member_link.specs.Rows.Operands.{assignable_to, topmost, under}
use Rattle.member_link.specs.Rows.Row.{stack_behind}
use Rattle.member_link.specs.Signatures.{field_type, reference_of}
use Rattle.plan_flow.specs.Must.{AsksFor}
use Rattle.plan_flow.specs.PlanRows.{Position, any_object, from_field, no_change}
use Rattle.plan_flow.specs.PlanScope.{field_number, field_of, is_of_library}
use Rattle.plan_flow.specs.PlanSlots.{changed, field_held, field_of_slot, held, is_open}
use Rattle.plan_flow.specs.PlanTable.{falls_on, get_field_row as plan_get, held_from, operand, operands_asked, positions}
use Rattle.plan_flow.specs.Written.Templates.{field_type_at}
use Rattle.same_runs.specs.Flats.{pool_of as flat_pool}
use Rattle.virtual_state.specs.States.{State, is_present, is_unusable}
use Rattle.virtual_state.specs.declared.slot.Slot.{Slot}
use Rattle.virtual_state.specs.declared.slot.Slot.TheVariants.{Plain, Virt, Unusable}
use Rattle.written_types.proofs.AgreeingFrames.{agrees_with_itself}
use Rattle.written_types.proofs.CarriedHolds.{known_at}
use Rattle.written_types.proofs.FieldPlaces.{FieldPlace, IsValue, declared_value, field_local, field_place, present_held}
use Rattle.written_types.proofs.Given.{EdgesFit, EndsCarry, Given, entries_in}
use Rattle.written_types.proofs.ItemSteps.{frame_of, load_carries}
use Rattle.written_types.proofs.OperandRows.{Fit}
use Rattle.written_types.proofs.RowTable.{same_pool}
use Rattle.written_types.proofs.SiteFields.{SitesKnown, linked_desc}
use Rattle.written_types.proofs.SlotTypes.{assigned_slot, sources_usable}
use Rattle.written_types.proofs.Starts.{scope_headers}
use Rattle.written_types.proofs.StillTemplates.{OneVirtual, one_virtual, operands_have}
use Rattle.written_types.proofs.TemplateEnds.{template_carries}
use Rattle.written_types.proofs.TemplateRows.{OneType, as_many, holds_for, nothing_template, one_type, operand_slots, plan_for, row_for, scope_for}
use Rattle.written_types.proofs.Templates.{Before, By, Taken, agrees_behind, along, entries, locals_stay, moved_slots, number, plan_row, read, row, state, taken}
use Rattle.written_types.specs.FitsTypes.{HaveTypes, IsOfType}
use Rattle.written_types.specs.Inner.CarriedFrames.{AgreeIn, BlockCarries, Carries, carries_none}
use Rattle.written_types.specs.Writing.{Writing}

-- the member that a constant of a class refers to, as the typing of code reads it
abbrev pub named_in : Writing → ℕ → ℕ → Option Reference
named_in w class index = reference_of (flat_pool w.s.classes class) (constant_at (flat_pool w.s.classes class) index)

pub field_is : (w : Writing) (class index : ℕ) (r : Reference) → named_in w class index ≡ Some r → field_of w.s class index ≡ w.s.links.field r
field_is w class index r named =
    ap (λ (pool : Constants). option_and_then w.s.links.field (reference_of pool (constant_at pool index))) (same_pool w.s class)
    ∙ ap (option_and_then w.s.links.field) named

pub host_headers : (w : Writing) → Given w → w.host.headers ≡ headers_of w.s.classes
host_headers w given = scope_headers w.s.classes w.s.flat.host w.host given.setting.ready.host

-- nothing is asked where what must be made is made
pub none_asked : (w : Writing) (given : Given w) (b : Before w given) (number : ℕ) (position : Position) (site : ℕ)
    → slice_get (positions (plan_row w given b)) number ≡ Some position
    → AsksFor w.s (state w given b) position site
    → ⊥
none_asked w given b number position site there asks =
    (known_at w given b.at b.point b.route b.here.there b.here.is_route).asks number position site there asks

-- Of a virtual object that a getfield or putfield takes, each field that is linked and that no class of the library declares has a number.
pub record FieldsNumbered (w : Writing) : Type 0 where
  pub number : (at class index site : ℕ) (point : Point) (r field : Reference)
      → point_at w.s.flat at ≡ Some point
      → (point.instr ≡ Of class (GetField index)) ⊎ (point.instr ≡ Of class (PutField index))
      → named_in w class index ≡ Some r
      → w.s.links.field r ≡ Some field
      → IsOfType w.s site (types.Object r.class)
      → is_of_library w.s field ≡ false
      → (place : ℕ) × (field_number w.s site field ≡ Some place)

module _ (w : Writing) (given : Given w) (b : Before w given) (fit : EdgesFit w given) (ends : EndsCarry w given) (known : SitesKnown w.s)
    (numbers : FieldsNumbered w) (class index site : ℕ) (is : b.point.instr ≡ Of class (GetField index))
    (virtual : held (state w given b) (operand b.point.typed 0) ≡ Virt site) (r field : Reference) (named : named_in w class index ≡ Some r)
    (linked : w.s.links.field r ≡ Some field) where
  abbrev i : FlatInstr
  i = Of class (GetField index)

  abbrev now : State
  now = state w given b

  abbrev read_stack : List VType
  read_stack = (read w given b).stack

  plan_field : field_of w.s class index ≡ Some field
  plan_field = field_is w class index r named ∙ linked

  -- a field of the library would ask for its object
  folder : is_of_library w.s field ≡ false
  folder = by (is_of_library w.s field) refl where
    by : (from_library : Bool) → is_of_library w.s field ≡ from_library → is_of_library w.s field ≡ false
    by false is_library = is_library
    by true is_library =
        absurd (none_asked w given b 0 (any_object (operand b.point.typed 0)) site
        (ap (λ (found : FlatInstr). slice_get (positions (plan_for w given b found)) 0) is
        ∙ ap (λ (found : Option Reference). slice_get (positions (plan_get w.s b.point.typed found)) 0) plan_field
        ∙ ap (λ (from_library : Bool). slice_get ((if from_library then operands_asked b.point.typed 1 else []) ++ []) 0) is_library) virtual)

  object : OneType (scope_for w given b i) (assignable_to (types.Object r.class)) (topmost 1 read_stack)
  object =
      one_type (scope_for w given b i) (assignable_to (types.Object r.class)) (topmost 1 read_stack)
      (subst (λ (found : Option Reference). Fit (scope_for w given b i) (read w given b) (get_field_row (scope_for w given b i) (read w given b) found)) named
      (holds_for w given b i is).operands)

  one : OneVirtual w given b (assignable_to (types.Object r.class)) (scope_for w given b i) site
  one = one_virtual w given b (assignable_to (types.Object r.class)) (scope_for w given b i) site object virtual

  of_object : IsOfType w.s site object.type
  of_object =
      (subst (λ (slot : Slot). HaveTypes w.s (object.type ∷ []) (slot ∷ [])) virtual
      (subst (λ (all : List VType). HaveTypes w.s all (operand_slots w given b 1)) object.is
      (operands_have w given b 1 (as_many w given b 1 (ap length object.is))))).0

  of_receiver : IsOfType w.s site (types.Object r.class)
  of_receiver =
      assigned_slot w.s known.hierarchy known.there object.type (types.Object r.class) (Virt site) of_object
      (subst (λ (headers : Headers). IsAssignable headers object.type (types.Object r.class)) (host_headers w given) object.fits)

  sources_are : (plan_row w given b).stack
      ≡ held_from (length b.point.typed.locals) (length b.point.typed.stack - 1) ++ (from_field (operand b.point.typed 0) field ∷ [])
  sources_are =
      ap (λ (found : FlatInstr). (plan_for w given b found).stack) is
      ∙ ap (λ (found : Option Reference). (plan_get w.s b.point.typed found).stack) plan_field

  gives_are : stack_behind (read w given b) (row w given b) ≡ under 1 read_stack ++ (field_type r.desc ∷ [])
  gives_are =
      ap (λ (found : FlatInstr). stack_behind (read w given b) (row_for w given b found)) is
      ∙ ap (λ (found : Option Reference). stack_behind (read w given b) (get_field_row (scope_for w given b i) (read w given b) found)) named

  moved_is : (slot : Slot) → field_held w.s now site field ≡ slot → moved_slots w given b (from_field (operand b.point.typed 0) field ∷ []) ≡ slot ∷ []
  moved_is slot is_slot = ap (λ (found : Slot). found ∷ []) (ap (λ (object : Slot). field_of_slot w.s now object field) virtual ∙ is_slot)

  locals_are : AgreeIn b.frame.locals (map (By w given b) (along w given b).locals)
  locals_are =
      locals_stay w given b
      (ap (λ (found : FlatInstr). (row_for w given b found).locals) is
      ∙ ap (λ (found : Option Reference). (get_field_row (scope_for w given b i) (read w given b) found).locals) named)
      (ap (λ (found : FlatInstr). (plan_for w given b found).locals) is
      ∙ ap (λ (found : Option Reference). (plan_get w.s b.point.typed found).locals) plan_field)
      (λ one. ap (λ (found : FlatInstr). is_present (changed w.s now (plan_for w given b found).change ++ now.objects) one) is
      ∙ ap (λ (found : Option Reference). is_present (changed w.s now (plan_get w.s b.point.typed found).change ++ now.objects) one) plan_field)

  opens : is_open now (plan_row w given b).next ≡ true
  opens =
      ap (λ (found : FlatInstr). is_open now (plan_for w given b found).next) is
      ∙ ap (λ (found : Option Reference). is_open now (plan_get w.s b.point.typed found).next) plan_field

  held_virtual : (other : ℕ) → field_held w.s now site field ≡ Virt other → BlockCarries w (number w given b) b.one b.behind b.frame
  held_virtual other is_slot =
      nothing_template w given b fit ends 1 (from_field (operand b.point.typed 0) field ∷ []) (field_type r.desc ∷ []) sources_are gives_are
      (one.entry ∙ sym (ap (entries_in (field_type r.desc ∷ [])) (moved_is (Virt other) is_slot))) locals_are
      (rw (is, virtual, plan_field, is_slot) refl) (rw (is) refl) (ap falls_on is) opens

  module _ (is_plain : field_held w.s now site field ≡ Plain) (place : ℕ) (is_number : field_number w.s site field ≡ Some place) where
    abbrev type : FieldType
    type = type_of field.desc

    p : FieldPlace w.s site place type
    p = field_place w.s known site of_object.site field place of_object.there is_number

    type_is : verification_type type ≡ field_type r.desc
    type_is = ap field_type (linked_desc w.s known r field linked)

    type_there : field_type_at w.s site place ≡ Some type
    type_there = ap (λ (all : List FieldType). slice_get all place) fields_there ∙ p.is_type where
      fields_there : fields_at w.s.flat site ≡ p.one.fields
      fields_there = rw (p.there) refl

    parts : Taken w b.frame read_stack (entries w given b) 1
    parts = taken w given b 1

    none_left : parts.top ≡ []
    none_left = nothing parts.top (subst (λ (all : List VType). AgreeIn parts.top (map (By w given b) all)) one.entry parts.top_agree) where
      nothing : (top : List VType) → AgreeIn top [] → top ≡ []
      nothing [] agree = refl
      nothing (first ∷ top) agree = absurd agree

    stack_is : b.frame.stack ≡ parts.low
    stack_is = parts.is ∙ ap (λ (top : List VType). parts.low ++ top) none_left ∙ append-nil parts.low

    abbrev last : Frame
    last = frame_of b.frame.locals (parts.low ++ verification_type type ∷ [])

    value : IsValue (headers_of w.s.classes) (By w given b) type (verification_type type)
    value = declared_value (headers_of w.s.classes) w.form w.blocks type

    so : Carries w (number w given b) (item (load (kind_of type) (field_unit site place)) ∷ []) b.frame (Some last)
    so =
        load_carries w (number w given b) b.frame [] (Some last) (kind_of type) (field_unit site place) (verification_type type)
        (field_local w given b site place type p (present_held w given b (operand b.point.typed 0) site virtual)) value.of_kind
        (subst (λ (stack : List VType). Carries w (suc (number w given b)) [] (frame_of b.frame.locals (stack ++ verification_type type ∷ [])) (Some last))
        (sym stack_is) (carries_none (suc (number w given b)) last))

    given_is : verification_type type ∷ []
        ≡ map (By w given b) (entries_in (field_type r.desc ∷ []) (moved_slots w given b (from_field (operand b.point.typed 0) field ∷ [])))
    given_is =
        (λ j. (sym value.by_is ∙ ap (By w given b) type_is) j ∷ [])
        ∙ sym (ap (λ (slots : List Slot). map (By w given b) (entries_in (field_type r.desc ∷ []) slots)) (moved_is Plain is_plain))

    held_plain : BlockCarries w (number w given b) b.one b.behind b.frame
    held_plain =
        template_carries w given b fit ends (load (kind_of type) (field_unit site place) ∷ []) last
        (rw (is, virtual, plan_field, is_plain, is_number, type_there) refl) (tt, tt) (rw (is) refl) (ap falls_on is) opens so
        (agrees_behind w given b 1 (from_field (operand b.point.typed 0) field ∷ []) (field_type r.desc ∷ []) b.frame.locals (verification_type type ∷ []) parts
        sources_are gives_are
        (subst (AgreeIn (verification_type type ∷ [])) given_is (agrees_with_itself (verification_type type ∷ [])))
        locals_are b.agrees.no_this)

  -- The template of a getfield of a virtual object.
  pub get_template_carries : BlockCarries w (number w given b) b.one b.behind b.frame
  get_template_carries = by (field_held w.s now site field) refl where
    by : (slot : Slot) → field_held w.s now site field ≡ slot → BlockCarries w (number w given b) b.one b.behind b.frame
    by (Virt other) is_slot = held_virtual other is_slot
    by Plain is_slot =
        let found = numbers.number b.at class index site b.point r field b.here.there (inl is) named linked
        of_receiver folder in
        held_plain is_slot found.0 found.1
    by Unusable is_slot =
        absurd (false≢true (sym (sources_usable w.s now no_change (from_field (operand b.point.typed 0) field ∷ [])).0
        ∙ ap is_unusable (ap (λ (held_one : Slot). field_of_slot w.s now held_one field) virtual ∙ is_slot)))
