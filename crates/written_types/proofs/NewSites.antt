-- A new of a candidate site carries each frame to the next point.
use Rattle.std.proofs.Common.{◌≡◌, ◌≢◌, ◌+◌, ◌-◌, ◌==◌, ℕ, suc, Bool, true, false, List, [], ◌∷◌, ◌++◌, drop, length, map, replicate, take, Option, Some, refl, sym, ap, subst, ◌∙◌, arith}
use Rattle.std.specs.List.{AllByRecursion, flat_map}
use Rattle.std.proofs.lemmas.Bool.{eq-eqb, eqb-true}
use Rattle.std.proofs.lemmas.List.{append-nil, append_assoc}
use Rattle.class_model.specs.Descriptors.{kind_of, parameter_units}
use Rattle.class_model.specs.declared.descriptor.FieldType.{FieldType}
use Rattle.class_model.specs.declared.descriptor.FieldType.TheVariants as field_types
use Rattle.class_model.specs.declared.frame.VType.{VType}
use Rattle.class_model.specs.declared.frame.VType.TheVariants as types
use Rattle.class_model.specs.declared.instr.Instr.TheVariants.{New}
use Rattle.class_tree.specs.Headers.{Headers}
use Rattle.flow_code.specs.WrittenUnits.{field_units}
use Rattle.flow_code.specs.declared.point.FlatInstr.{FlatInstr}
use Rattle.flow_code.specs.declared.point.FlatInstr.TheVariants.{Of}
use Rattle.flow_code.specs.declared.point.Point.{Point}
use Rattle.flow_code.specs.declared.point.Site.{Site}
use Rattle.making_code.specs.Items.{item}
use Rattle.making_code.specs.StateFrames.{field_types as types_of_fields}
use Rattle.making_code.specs.Units.{fields_at}
use Rattle.member_link.specs.Assignability.{from_null}
use Rattle.member_link.specs.Bodies.{item_row}
use Rattle.member_link.specs.Rows.FrameAssignability.{AreAssignable}
use Rattle.member_link.specs.Rows.LocalRows.{type_of_imm}
use Rattle.member_link.specs.Rows.Operands.{under}
use Rattle.member_link.specs.Rows.Readings.{row_by}
use Rattle.member_link.specs.Rows.Row.{Row, stack_behind}
use Rattle.plan_flow.specs.PlanRows.{PlanRow, from_new}
use Rattle.plan_flow.specs.PlanScope.{PlanScope, site_at}
use Rattle.plan_flow.specs.PlanSlots.{changed, is_open, slots_from}
use Rattle.plan_flow.specs.PlanTable.{falls_on, held_from, new_row}
use Rattle.plan_flow.specs.Written.Routes.{Route, RouteEdge, edge_by}
use Rattle.plan_flow.specs.Written.Templates.{cleared_fields, items_at}
use Rattle.plan_flow.specs.declared.edge.EdgeKind.TheVariants as edges
use Rattle.same_runs.specs.Flats.{flat_item, instr_scope}
use Rattle.same_runs.specs.TypedFlats.{reading_of_new}
use Rattle.virtual_state.specs.States.{State, is_present}
use Rattle.virtual_state.specs.declared.slot.Slot.{Slot}
use Rattle.virtual_state.specs.declared.slot.Slot.TheVariants.{Virt}
use Rattle.virtual_state.specs.declared.slot.VObject.{VObject}
use Rattle.written_types.proofs.BlockEnds.{topmost_none}
use Rattle.written_types.proofs.EdgeFrames.{tops_assignable}
use Rattle.written_types.proofs.FieldFits.{NotThis, fits_by_units}
use Rattle.written_types.proofs.FieldPlaces.{IsValue, declared_value, value_of}
use Rattle.written_types.proofs.FieldStores.{UnitParts, unit_parts}
use Rattle.written_types.proofs.FieldUnits.{narrow_both, units_for}
use Rattle.written_types.proofs.FieldWrites.{both_agree, own_narrow, own_types, own_types_long}
use Rattle.written_types.proofs.Given.{EdgesFit, EndsCarry, FitsState, Given, entries_in}
use Rattle.written_types.proofs.ItemSteps.{frame_of}
use Rattle.written_types.proofs.MadeTemplates.{agree_none}
use Rattle.written_types.proofs.MemberRows.{IsSiteAt, site_of_point}
use Rattle.written_types.proofs.NewTemplates.{Cleared, ClearedAll, UnitsBeside, all_cleared, units_beside, zero_imm}
use Rattle.written_types.proofs.Placing.{IsMade}
use Rattle.written_types.proofs.SlotFrames.{units_behind}
use Rattle.written_types.proofs.TemplateEnds.{fitting_template}
use Rattle.written_types.proofs.TemplateRows.{plan_for, row_for}
use Rattle.written_types.proofs.Templates.{Before, By, Taken, entries, moved_slots, number, objects_behind, own_stays, plan_row, read, row, stack_along, state, taken}
use Rattle.written_types.proofs.UnitTemplates.{assigned_both, site_units_long}
use Rattle.written_types.specs.Inner.CarriedFrames.{AgreeIn, BlockCarries}
use Rattle.written_types.specs.Writing.{Writing, scope_in}

made_cleared : (site place : ℕ) (fields : List FieldType) → AllByRecursion IsMade (cleared_fields site place fields)
made_cleared site place [] = tt
made_cleared site place (type ∷ fields) = (tt, (tt, made_cleared site (suc place) fields))

new_items_are : (s : PlanScope) (at : ℕ) (point : Point) (state : State) (route : Route) (class index site : ℕ) (fields : List FieldType)
    → point.instr ≡ Of class (New index)
    → site_at s.flat at ≡ Some site
    → fields_at s.flat site ≡ fields
    → items_at s at point state route ≡ map item (cleared_fields site 0 fields)
new_items_are s at point state route class index site fields is here fields_are = rw (is, here, fields_are) refl

module _ (w : Writing) (given : Given w) (b : Before w given) (fit : EdgesFit w given) (ends : EndsCarry w given) (class index site : ℕ)
    (is : b.point.instr ≡ Of class (New index)) (here : site_at w.s.flat b.at ≡ Some site) where
  abbrev now : State
  now = state w given b

  abbrev headers : Headers
  headers = (scope_in w).headers

  abbrev read_stack : List VType
  read_stack = (read w given b).stack

  abbrev own : List VType
  own = map (By w given b) (own_types w given b)

  at_site : IsSiteAt w.s.flat.sites b.at site
  at_site = site_of_point w.s.flat.sites b.at site here

  abbrev one : Site
  one = at_site.site

  -- ---- rows

  plan_is : plan_row w given b ≡ new_row b.point.typed (Some site)
  plan_is = ap (plan_for w given b) is ∙ ap (new_row b.point.typed) here

  abbrev row_found : Option (List ℕ) → Row
  row_found found =
      row_by (reading_of_new found) (read w given b)
      (item_row (instr_scope w.s.classes w.host w.s.flat (Of class (New index))) (read w given b) b.at (flat_item (Of class (New index))))

  gives_are : stack_behind (read w given b) (row w given b) ≡ under 0 read_stack ++ (types.Object one.class ∷ [])
  gives_are =
      ap (λ (i : FlatInstr). stack_behind (read w given b) (row_for w given b i)) is
      ∙ ap (λ (found : Option (List ℕ)). stack_behind (read w given b) (row_found found)) at_site.class

  types_stay : (row w given b).locals ≡ (read w given b).locals
  types_stay =
      ap (λ (i : FlatInstr). (row_for w given b i).locals) is ∙ ap (λ (found : Option (List ℕ)). (row_found found).locals) at_site.class

  sources_are : (plan_row w given b).stack ≡ held_from (length b.point.typed.locals) (length b.point.typed.stack - 0) ++ (from_new ∷ [])
  sources_are = ap (λ (p : PlanRow). p.stack) plan_is

  moved_is : moved_slots w given b (from_new ∷ []) ≡ Virt site ∷ []
  moved_is = ap (λ (p : PlanRow). slots_from w.s now p.change (from_new ∷ [])) plan_is

  -- ---- objects

  abbrev behind_objects : List VObject
  behind_objects = changed w.s now (new_row b.point.typed (Some site)).change ++ now.objects

  other_present : (n : ℕ) → n ≢ site → is_present now.objects n ≡ is_present (objects_behind w given b) n
  other_present n other =
      sym (ap (λ (p : PlanRow). is_present (changed w.s now p.change ++ now.objects) n) plan_is ∙ by (site == n) refl) where
        by : (k : Bool) → (site == n) ≡ k → is_present behind_objects n ≡ is_present now.objects n
        by true same = absurd (other (sym (eqb-true site n same)))
        by false apart = rw (apart) refl

  new_present : is_present (objects_behind w given b) site ≡ true
  new_present =
      ap (λ (p : PlanRow). is_present (changed w.s now p.change ++ now.objects) site) plan_is ∙ rw (eq-eqb site site refl) refl

  beside : UnitsBeside (units_behind w.s.flat now.objects) (units_behind w.s.flat (objects_behind w given b))
      (types_of_fields (is_present now.objects site) one.fields) (types_of_fields (is_present (objects_behind w given b) site) one.fields)
      (field_units (take site w.s.flat.sites))
  beside = units_beside w.s.flat now.objects (objects_behind w given b) site one at_site.there other_present

  parts : UnitParts headers b.frame.locals own beside.left beside.right (length (types_of_fields (is_present now.objects site) one.fields))
  parts =
      unit_parts headers b.frame.locals own (units_behind w.s.flat now.objects) beside.left (types_of_fields (is_present now.objects site) one.fields)
      beside.right (both_agree w given b) beside.is

  zero_value : (type : FieldType) → IsValue headers (By w given b) type (type_of_imm (zero_imm (kind_of type)))
  zero_value field_types.Byte = declared_value headers w.form w.blocks field_types.Byte
  zero_value field_types.Char = declared_value headers w.form w.blocks field_types.Char
  zero_value field_types.Short = declared_value headers w.form w.blocks field_types.Short
  zero_value field_types.Bool = declared_value headers w.form w.blocks field_types.Bool
  zero_value field_types.Int = declared_value headers w.form w.blocks field_types.Int
  zero_value field_types.Long = declared_value headers w.form w.blocks field_types.Long
  zero_value field_types.Float = declared_value headers w.form w.blocks field_types.Float
  zero_value field_types.Double = declared_value headers w.form w.blocks field_types.Double
  zero_value (field_types.Named name) = value_of headers w.form w.blocks (field_types.Named name) types.Null (from_null name)

  starts : length own + length beside.left ≡ w.s.flat.locals + field_units (take site w.s.flat.sites)
  starts = let first = own_types_long w given b in let second = beside.long in omega (arith, first, second)

  abbrev ClearedBy : List FieldType → List FieldType → List VType → Type 0
  ClearedBy done todo locals =
      Cleared w (By w given b) site one at_site.there own beside.left beside.right starts
      (narrow_both own beside.left (own_narrow w given b) beside.narrow) zero_value done todo locals

  none_cleared : ClearedBy [] one.fields b.frame.locals
  none_cleared = record {
    before = parts.before;
    behind = parts.middle ++ parts.behind;
    is = parts.is;
    suits = record {
      locals = parts.suits.locals;
      units_of = parts.suits.units_of;
      is = parts.suits.is;
      agree = parts.suits.agree;
      assigned = subst (AreAssignable headers parts.suits.units_of) (sym (append-nil beside.left)) parts.suits.assigned;
    };
    assigned =
        assigned_both headers parts.middle (replicate (parameter_units one.fields) types.Top) parts.behind beside.right
        (tops_assignable headers parts.middle (parameter_units one.fields)
        (parts.middle_long ∙ site_units_long (is_present now.objects site) one.fields)) parts.behind_assigned;
    not_this = b.agrees.no_this;
  }

  all : ClearedAll w (By w given b) site one at_site.there own beside.left beside.right starts
      (narrow_both own beside.left (own_narrow w given b) beside.narrow) zero_value (number w given b)
      (map item (cleared_fields site 0 one.fields)) b.frame.locals b.frame.stack
  all =
      all_cleared w (By w given b) site one at_site.there own beside.left beside.right starts
      (narrow_both own beside.left (own_narrow w given b) beside.narrow) zero_value one.fields [] refl (number w given b) b.frame.locals b.frame.stack
      none_cleared

  -- ---- behind

  operands : Taken w b.frame read_stack (entries w given b) 0
  operands = taken w given b 0

  stack_is : b.frame.stack ≡ operands.low
  stack_is =
      operands.is
      ∙ ap (λ (top : List VType). operands.low ++ top)
      (agree_none operands.top
      (subst (λ (found : List VType). AgreeIn operands.top (map (By w given b) (entries_in found (drop (length read_stack - 0) (entries w given b)))))
      (topmost_none read_stack) operands.top_agree))
      ∙ append-nil operands.low

  abbrev fields_behind : List VType
  fields_behind = all.cleared.suits.units_of ++ all.cleared.behind

  locals_are : all.behind ≡ all.cleared.suits.locals ++ fields_behind
  locals_are =
      all.cleared.is
      ∙ ap (λ (before : List VType). before ++ all.cleared.behind) all.cleared.suits.is
      ∙ append_assoc all.cleared.suits.locals all.cleared.suits.units_of all.cleared.behind

  fields_assigned : AreAssignable headers fields_behind (units_behind w.s.flat (objects_behind w given b))
  fields_assigned =
      subst (AreAssignable headers fields_behind)
      (append_assoc beside.left (flat_map units_for one.fields) beside.right
      ∙ ap (λ (k : Bool). beside.left ++ (types_of_fields k one.fields ++ beside.right)) (sym new_present)
      ∙ sym beside.also_is)
      (assigned_both headers all.cleared.suits.units_of (beside.left ++ flat_map units_for one.fields) all.cleared.behind beside.right
      all.cleared.suits.assigned all.cleared.assigned)

  fits_edge : (edge : RouteEdge) → edge_by b.route edges.Next ≡ Some edge → FitsState w (frame_of all.behind b.frame.stack) edge.to edge.state
  fits_edge edge found =
      subst (λ (stack : List VType). FitsState w (frame_of all.behind stack) edge.to edge.state) (sym stack_is)
      (subst (λ (locals : List VType). FitsState w (frame_of locals operands.low) edge.to edge.state) (sym locals_are)
      (fits_by_units w given b fit ends all.cleared.suits.locals fields_behind operands.low edge found
      (subst (AgreeIn all.cleared.suits.locals)
      (ap (map (By w given b)) (sym (own_stays w given b types_stay (ap (λ (p : PlanRow). p.locals) plan_is)))) all.cleared.suits.agree)
      fields_assigned
      (subst (λ (found_all : List VType). AgreeIn operands.low (map (By w given b) found_all))
      (sym (stack_along w given b 0 (from_new ∷ []) (types.Object one.class ∷ []) sources_are gives_are
      ∙ ap (λ (slots : List Slot). low_types ++ entries_in (types.Object one.class ∷ []) slots) moved_is
      ∙ append-nil low_types)) operands.low_agree)
      (subst (AllByRecursion NotThis) locals_are all.cleared.not_this))) where
        low_types : List VType
        low_types = entries_in (under 0 read_stack) (take (length read_stack - 0) (entries w given b))

  new_items : items_at w.s b.at b.point now b.route ≡ map item (cleared_fields site 0 one.fields)
  new_items = new_items_are w.s b.at b.point now b.route class index site one.fields is here fields_are where
    fields_are : fields_at w.s.flat site ≡ one.fields
    fields_are = rw (at_site.there) refl

  -- The template of a new of a candidate site.
  pub new_template_carries : BlockCarries w (number w given b) b.one b.behind b.frame
  new_template_carries =
      fitting_template w given b fit ends (cleared_fields site 0 one.fields) (frame_of all.behind b.frame.stack) new_items
      (made_cleared site 0 one.fields) (rw (is) refl) (ap falls_on is) (ap (λ (p : PlanRow). is_open now p.next) plan_is) all.carries fits_edge
