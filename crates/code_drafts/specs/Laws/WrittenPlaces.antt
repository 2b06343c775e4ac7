-- The objects that written code makes and the monitors that it enters are those of its routes.
use Rattle.std.proofs.Common.{if◌then◌else◌, ◌≡◌, ◌||◌, ℕ, zero, suc, Bool, true, false, List, [], ◌∷◌, ◌++◌, map, replicate, slice_get, flat_map, Option, Some, None, refl, sym, ap, subst, ◌∙◌}
use Rattle.std.specs.List.{AllByRecursion}
use Rattle.std.proofs.lemmas.Bool.{false≢true}
use Rattle.std.proofs.lemmas.Grind.{flat_map-append}
use Rattle.std.proofs.lemmas.List.{append-nil}
use Rattle.std.proofs.lemmas.Option.{none-some, same_Some}
use Rattle.class_model.specs.PoolChecks.{class_at}
use Rattle.class_model.specs.declared.descriptor.Kind.TheVariants as kinds
use Rattle.class_model.specs.declared.instr.Imm.TheVariants as imms
use Rattle.class_model.specs.declared.instr.Instr.{Instr}
use Rattle.class_model.specs.declared.instr.Instr.TheVariants.{Nop, Const, Ldc, Ldc2, Load, Store, Iinc, ArrayLoad, ArrayStore, Shuffle, Pure, Divide, FloatAsk, If, If2, IfSame, IfNull, Goto, Table, Lookup, Return, GetStatic, PutStatic, GetField, PutField, Invoke, Dynamic, New, NewArray, NewRefArray, NewMulti, Length, Throw, Cast, InstanceOf, Enter, Leave}
use Rattle.class_tree.specs.Headers.{Name}
use Rattle.code_drafts.specs.ItemPlaces.{Naming, new_of, own_places}
use Rattle.code_drafts.specs.Laws.GoingOn.{decided, decided_is}
use Rattle.code_drafts.specs.Laws.SimpleParts.{HoldsOfSimple, OptionHolds, copied_locals_hold, copied_object_holds, each_holds, loaded_entry_holds, loaded_fields_hold, popped_holds, saves_hold, template_holds}
use Rattle.flow_code.specs.FlatCode.{point_at}
use Rattle.flow_code.specs.declared.point.FlatInstr.{FlatInstr}
use Rattle.flow_code.specs.declared.point.FlatInstr.TheVariants.{Of, NullTest}
use Rattle.flow_code.specs.declared.point.Point.{Point}
use Rattle.flow_code.specs.declared.point.Site.{Site}
use Rattle.making_code.specs.Items.{WInstr, WItem, carried, constructs, item, load, makes, plain, store}
use Rattle.making_code.specs.MakeCode.{copy_locals_from, copy_object, enters, entries_at, from_lowest, load_entry, load_fields_from, local_slots_in, make_code, make_one, save, saved}
use Rattle.making_code.specs.Units.{object_unit}
use Rattle.plan_flow.specs.PlanScope.{PlanScope, pool_of, site_at}
use Rattle.plan_flow.specs.PlanSlots.{held}
use Rattle.plan_flow.specs.PlanTable.{operand}
use Rattle.plan_flow.specs.Written.Blocks.{is_decided, making, state_written}
use Rattle.plan_flow.specs.Written.Places.{Place, edge_places, enters_monitor, instr_places, made_places, makes_object, site_places}
use Rattle.plan_flow.specs.Written.Routes.{Route, RouteEdge, edge_by}
use Rattle.plan_flow.specs.Written.Templates.{as_it_is, is_virtual, items_at, made_on_jump, new_template, nothing_of, null_template, pop_if_plain, same_template, template}
use Rattle.plan_flow.specs.declared.edge.EdgeKind.TheVariants as edges
use Rattle.virtual_state.specs.States.{State, object_of}
use Rattle.virtual_state.specs.declared.slot.Slot.{Slot}
use Rattle.virtual_state.specs.declared.slot.Slot.TheVariants.{Plain, Virt, Unusable}
use Rattle.virtual_state.specs.declared.slot.VObject.{VObject}

-- ---- an instruction

-- what an instruction makes or enters, by what a new names
abbrev pub carried_places : Naming → ℕ → Instr → List Place
carried_places news class (New index) = new_of (news class index)
carried_places news class Enter = enters_monitor ∷ []
carried_places news class instr = []

abbrev pub plain_places : Instr → List Place
plain_places Enter = enters_monitor ∷ []
plain_places instr = []

abbrev pub winstr_places : Naming → WInstr → List Place
winstr_places news (carried class instr) = carried_places news class instr
winstr_places news (plain instr) = plain_places instr
winstr_places news (makes class) = makes_object class ∷ []
winstr_places news (constructs class) = []
winstr_places news (load kind unit) = []
winstr_places news (store kind unit) = []

abbrev pub witem_places : Naming → List WItem → List Place
witem_places news items = flat_map (λ one. winstr_places news one.instr) items

-- ---- lists

abbrev of_instrs : Naming → List WInstr → List Place
of_instrs news instrs = flat_map (winstr_places news) instrs

of_items : (news : Naming) (instrs : List WInstr) → witem_places news (map item instrs) ≡ of_instrs news instrs
of_items news [] = refl
of_items news (instr ∷ instrs) = ap (λ (rest : List Place). winstr_places news instr ++ rest) (of_items news instrs)

items_both : (news : Naming) (left right : List WItem) → witem_places news (left ++ right) ≡ witem_places news left ++ witem_places news right
items_both news left right = flat_map-append (λ one. winstr_places news one.instr) left right

instrs_both : (news : Naming) (left right : List WInstr) → of_instrs news (left ++ right) ≡ of_instrs news left ++ of_instrs news right
instrs_both news left right = flat_map-append (winstr_places news) left right

-- an instruction that makes and enters nothing
abbrev Silent : Naming → WInstr → Type 0
Silent news instr = winstr_places news instr ≡ []

none_of : (news : Naming) (instrs : List WInstr) → AllByRecursion (Silent news) instrs → of_instrs news instrs ≡ []
none_of news [] all = refl
none_of news (instr ∷ instrs) all = ap (λ (first : List Place). first ++ of_instrs news instrs) all.0 ∙ none_of news instrs all.1

simple_silent : (news : Naming) → HoldsOfSimple (Silent news)
simple_silent news = record {
  loads = λ kind unit. refl;
  stores = λ kind unit. refl;
  consts = λ value form. refl;
  pures = λ opcode form. refl;
  shuffles = λ opcode form. refl;
}

-- ---- make code

entered : (news : Naming) (site depth : ℕ) → of_instrs news (enters site depth) ≡ replicate depth enters_monitor
entered news site zero = refl
entered news site (suc depth) = ap (λ (rest : List Place). enters_monitor ∷ rest) (entered news site depth)

object_made : (news : Naming) (s : PlanScope) (state : State) (site : ℕ) → of_instrs news (make_one s.flat state site) ≡ site_places s state site
object_made news s state site = by (object_of state.objects site) refl (slice_get s.flat.sites site) refl where
  by : (object : Option VObject) → object_of state.objects site ≡ object → (one : Option Site) → slice_get s.flat.sites site ≡ one
      → of_instrs news (make_one s.flat state site) ≡ site_places s state site
  by None none None is = rw (none, is) refl
  by None none (Some one) is = rw (none, is) refl
  by (Some object) some None none = rw (some, none) refl
  by (Some object) some (Some one) is =
      rw (some, is) (ap (λ (rest : List Place). makes_object one.class ∷ rest)
      (instrs_both news (load_fields_from object.site 0 one.fields object.fields)
      (plain (Const imms.Null) ∷ constructs one.class ∷ store kinds.Ref (object_unit object.site) ∷ enters object.site object.depth)
      ∙ ap (λ (first : List Place). first ++ of_instrs news (enters object.site object.depth))
      (none_of news (load_fields_from object.site 0 one.fields object.fields)
      (loaded_fields_hold (Silent news) (simple_silent news) object.site 0 one.fields object.fields))
      ∙ entered news object.site object.depth))

objects_made : (news : Naming) (s : PlanScope) (state : State) (order : List ℕ)
    → of_instrs news (flat_map (make_one s.flat state) order) ≡ made_places s state order
objects_made news s state [] = refl
objects_made news s state (site ∷ order) =
    instrs_both news (make_one s.flat state site) (flat_map (make_one s.flat state) order)
    ∙ ap (λ (first : List Place). first ++ of_instrs news (flat_map (make_one s.flat state) order)) (object_made news s state site)
    ∙ ap (λ (rest : List Place). site_places s state site ++ rest) (objects_made news s state order)

behind_none : (news : Naming) (left right : List WInstr) → AllByRecursion (Silent news) right → of_instrs news (left ++ right) ≡ of_instrs news left
behind_none news left right none =
    instrs_both news left right ∙ ap (λ (rest : List Place). of_instrs news left ++ rest) (none_of news right none) ∙ append-nil (of_instrs news left)

pub code_made : (news : Naming) (s : PlanScope) (at : ℕ) (state : State) (sites order : List ℕ)
    → of_instrs news (make_code s.flat at state sites order) ≡ made_places s state order
code_made news s at state sites order =
    behind_none news (((map save (saved sites (entries_at s.flat at state)) ++ flat_map (make_one s.flat state) order)
    ++ copy_locals_from sites 0 (local_slots_in (point_at s.flat at) state)) ++ flat_map (copy_object sites) state.objects)
    (flat_map (load_entry sites) (from_lowest sites (entries_at s.flat at state)))
    (each_holds (Silent news) (simple_silent news) (load_entry sites) (from_lowest sites (entries_at s.flat at state))
    (loaded_entry_holds (Silent news) (simple_silent news) sites))
    ∙ behind_none news ((map save (saved sites (entries_at s.flat at state)) ++ flat_map (make_one s.flat state) order)
    ++ copy_locals_from sites 0 (local_slots_in (point_at s.flat at) state)) (flat_map (copy_object sites) state.objects)
    (each_holds (Silent news) (simple_silent news) (copy_object sites) state.objects (copied_object_holds (Silent news) (simple_silent news) sites))
    ∙ behind_none news (map save (saved sites (entries_at s.flat at state)) ++ flat_map (make_one s.flat state) order)
    (copy_locals_from sites 0 (local_slots_in (point_at s.flat at) state))
    (copied_locals_hold (Silent news) (simple_silent news) sites 0 (local_slots_in (point_at s.flat at) state))
    ∙ instrs_both news (map save (saved sites (entries_at s.flat at state))) (flat_map (make_one s.flat state) order)
    ∙ ap (λ (first : List Place). first ++ of_instrs news (flat_map (make_one s.flat state) order))
    (none_of news (map save (saved sites (entries_at s.flat at state)))
    (saves_hold (Silent news) (simple_silent news) (saved sites (entries_at s.flat at state))))
    ∙ objects_made news s state order

pub making_places : (news : Naming) (s : PlanScope) (at : ℕ) (state : State) (made order : List ℕ)
    → witem_places news (making s at state made order) ≡ made_places s state order
making_places news s at state made order = of_items news (make_code s.flat at state made order) ∙ code_made news s at state made order

-- ---- templates

module _ (news : Naming) (s : PlanScope) (at : ℕ) (point : Point) (route : Route) where
  abbrev before : State
  before = state_written route

  jump_made : of_instrs news (made_on_jump s route) ≡ edge_places s (edge_by route (edges.Jump 0))
  jump_made = by (edge_by route (edges.Jump 0)) refl where
    by : (edge : Option RouteEdge) → edge_by route (edges.Jump 0) ≡ edge
        → of_instrs news (made_on_jump s route) ≡ edge_places s (edge_by route (edges.Jump 0))
    by None none = rw (none) refl
    by (Some edge) some = rw (some) (code_made news s edge.to edge.state edge.made edge.order)

  -- what is made where a jump is decided
  abbrev pub decided_places : Bool → List Place
  decided_places told = if told then edge_places s (edge_by route (edges.Jump 0)) else []

  abbrev Written : FlatInstr → Bool → List WItem → Type 0
  Written instr told items = witem_places news items ≡ own_places news s at point before instr ++ decided_places told

  -- as it is
  carried_written : (class : ℕ) (instr : Instr)
      → template s at point.typed before route class instr ≡ None
      → witem_places news (as_it_is at point route class instr) ≡ own_places news s at point before (Of class instr)
  carried_written class Nop none = refl
  carried_written class (Const imm) none = refl
  carried_written class (Ldc index) none = refl
  carried_written class (Ldc2 index) none = refl
  carried_written class (Load kind local) none = refl
  carried_written class (Store kind local) none = refl
  carried_written class (Iinc local by) none = refl
  carried_written class (ArrayLoad opcode) none = refl
  carried_written class (ArrayStore opcode) none = refl
  carried_written class (Shuffle opcode) none = refl
  carried_written class (Pure opcode) none = refl
  carried_written class (Divide opcode) none = refl
  carried_written class (FloatAsk opcode) none = refl
  carried_written class (If opcode to) none = refl
  carried_written class (If2 opcode to) none = refl
  carried_written class (IfSame opcode to) none = refl
  carried_written class (IfNull opcode to) none = refl
  carried_written class (Goto to) none = refl
  carried_written class (Table low other to) none = refl
  carried_written class (Lookup other pairs) none = refl
  carried_written class (Return kind) none = refl
  carried_written class (GetStatic index) none = refl
  carried_written class (PutStatic index) none = refl
  carried_written class (GetField index) none = refl
  carried_written class (PutField index) none = refl
  carried_written class (Invoke opcode index count) none = refl
  carried_written class (Dynamic index) none = refl
  carried_written class (New index) none = by (site_at s.flat at) refl (news class index) refl where
    by : (site : Option ℕ) → site_at s.flat at ≡ site → (name : Option Name) → news class index ≡ name
        → witem_places news (as_it_is at point route class (New index)) ≡ own_places news s at point before (Of class (New index))
    by (Some site) is name named = absurd (none-some _ (sym (subst (λ (found : Option ℕ). new_template s found ≡ None) is none)))
    by None is None named = rw (is, named) refl
    by None is (Some name) named = rw (is, named) refl
  carried_written class (NewArray code) none = refl
  carried_written class (NewRefArray index) none = refl
  carried_written class (NewMulti index dimensions) none = refl
  carried_written class Length none = refl
  carried_written class Throw none = refl
  carried_written class (Cast index) none = refl
  carried_written class (InstanceOf index) none = refl
  carried_written class Enter none = by (held before (operand point.typed 0)) refl where
    by : (slot : Slot) → held before (operand point.typed 0) ≡ slot
        → witem_places news (as_it_is at point route class Enter) ≡ own_places news s at point before (Of class Enter)
    by Plain is = rw (is) refl
    by Unusable is = rw (is) refl
    by (Virt site) is = absurd (none-some _ (sym (subst (λ (slot : Slot). nothing_of slot ≡ None) is none)))
  carried_written class Leave none = refl

  -- by a template that decides no jump
  undecided_written : (class : ℕ) (instr : Instr) (instrs : List WInstr)
      → template s at point.typed before route class instr ≡ Some instrs
      → own_places news s at point before (Of class instr) ≡ []
  undecided_written class Nop instrs some = refl
  undecided_written class (Const imm) instrs some = refl
  undecided_written class (Ldc index) instrs some = refl
  undecided_written class (Ldc2 index) instrs some = refl
  undecided_written class (Load kind local) instrs some = refl
  undecided_written class (Store kind local) instrs some = refl
  undecided_written class (Iinc local by) instrs some = refl
  undecided_written class (ArrayLoad opcode) instrs some = refl
  undecided_written class (ArrayStore opcode) instrs some = refl
  undecided_written class (Shuffle opcode) instrs some = refl
  undecided_written class (Pure opcode) instrs some = refl
  undecided_written class (Divide opcode) instrs some = refl
  undecided_written class (FloatAsk opcode) instrs some = refl
  undecided_written class (If opcode to) instrs some = refl
  undecided_written class (If2 opcode to) instrs some = refl
  undecided_written class (IfSame opcode to) instrs some = refl
  undecided_written class (IfNull opcode to) instrs some = refl
  undecided_written class (Goto to) instrs some = refl
  undecided_written class (Table low other to) instrs some = refl
  undecided_written class (Lookup other pairs) instrs some = refl
  undecided_written class (Return kind) instrs some = refl
  undecided_written class (GetStatic index) instrs some = refl
  undecided_written class (PutStatic index) instrs some = refl
  undecided_written class (GetField index) instrs some = refl
  undecided_written class (PutField index) instrs some = refl
  undecided_written class (Invoke opcode index count) instrs some = refl
  undecided_written class (Dynamic index) instrs some = refl
  undecided_written class (New index) instrs some = by (site_at s.flat at) refl where
    by : (site : Option ℕ) → site_at s.flat at ≡ site → own_places news s at point before (Of class (New index)) ≡ []
    by None is = absurd (none-some instrs (subst (λ (found : Option ℕ). new_template s found ≡ Some instrs) is some))
    by (Some site) is = rw (is) refl
  undecided_written class (NewArray code) instrs some = refl
  undecided_written class (NewRefArray index) instrs some = refl
  undecided_written class (NewMulti index dimensions) instrs some = refl
  undecided_written class Length instrs some = refl
  undecided_written class Throw instrs some = refl
  undecided_written class (Cast index) instrs some = refl
  undecided_written class (InstanceOf index) instrs some = refl
  undecided_written class Enter instrs some = by (held before (operand point.typed 0)) refl where
    by : (slot : Slot) → held before (operand point.typed 0) ≡ slot → own_places news s at point before (Of class Enter) ≡ []
    by Plain is = absurd (none-some instrs (subst (λ (slot : Slot). nothing_of slot ≡ Some instrs) is some))
    by Unusable is = absurd (none-some instrs (subst (λ (slot : Slot). nothing_of slot ≡ Some instrs) is some))
    by (Virt site) is = rw (is) refl
  undecided_written class Leave instrs some = refl

  null_decided : (class opcode to : ℕ) (slot : Slot) (instrs : List WInstr)
      → null_template s route slot ≡ Some instrs
      → of_instrs news instrs ≡ edge_places s (edge_by route (edges.Jump 0))
  null_decided class opcode to Plain instrs is = absurd (none-some instrs is)
  null_decided class opcode to Unusable instrs is = absurd (none-some instrs is)
  null_decided class opcode to (Virt site) instrs is = ap (of_instrs news) (sym (same_Some _ instrs is)) ∙ jump_made

  same_decided : (one other : Slot) (instrs : List WInstr)
      → same_template s route one other ≡ Some instrs
      → of_instrs news instrs ≡ edge_places s (edge_by route (edges.Jump 0))
  same_decided one other instrs = by (is_virtual one || is_virtual other) where
    by : (b : Bool)
        → (if b then Some (pop_if_plain other ++ pop_if_plain one ++ made_on_jump s route) else None) ≡ Some instrs
        → of_instrs news instrs ≡ edge_places s (edge_by route (edges.Jump 0))
    by false is = absurd (none-some instrs is)
    by true is =
        ap (of_instrs news) (sym (same_Some _ instrs is))
        ∙ instrs_both news (pop_if_plain other ++ pop_if_plain one) (made_on_jump s route)
        ∙ ap (λ (first : List Place). first ++ of_instrs news (made_on_jump s route))
        (instrs_both news (pop_if_plain other) (pop_if_plain one)
        ∙ ap (λ (first : List Place). first ++ of_instrs news (pop_if_plain one))
        (none_of news (pop_if_plain other) (popped_holds (Silent news) (simple_silent news) other))
        ∙ none_of news (pop_if_plain one) (popped_holds (Silent news) (simple_silent news) one))
        ∙ jump_made

  -- what is written of an instruction
  of_written : (class : ℕ) (instr : Instr) → point.instr ≡ Of class instr
      → (found : Option (List WInstr)) → template s at point.typed before route class instr ≡ found
      → Written (Of class instr) (decided point.typed before instr) (items_at s at point before route)
  of_written class instr is None none = by (decided point.typed before instr) refl where
    written : items_at s at point before route ≡ as_it_is at point route class instr
    written = rw (is, none) refl

    by : (told : Bool) → decided point.typed before instr ≡ told → Written (Of class instr) told (items_at s at point before route)
    by false told =
        ap (witem_places news) written ∙ carried_written class instr none ∙ sym (append-nil (own_places news s at point before (Of class instr)))
    by true told = absurd (undecided_here instr told none) where
      undecided_here : (one : Instr) → decided point.typed before one ≡ true → template s at point.typed before route class one ≡ None → ⊥
      undecided_here Nop told none_also = false≢true told
      undecided_here (Const imm) told none_also = false≢true told
      undecided_here (Ldc index) told none_also = false≢true told
      undecided_here (Ldc2 index) told none_also = false≢true told
      undecided_here (Load kind local) told none_also = false≢true told
      undecided_here (Store kind local) told none_also = false≢true told
      undecided_here (Iinc local by) told none_also = false≢true told
      undecided_here (ArrayLoad opcode) told none_also = false≢true told
      undecided_here (ArrayStore opcode) told none_also = false≢true told
      undecided_here (Shuffle opcode) told none_also = false≢true told
      undecided_here (Pure opcode) told none_also = false≢true told
      undecided_here (Divide opcode) told none_also = false≢true told
      undecided_here (FloatAsk opcode) told none_also = false≢true told
      undecided_here (If opcode to) told none_also = false≢true told
      undecided_here (If2 opcode to) told none_also = false≢true told
      undecided_here (IfSame opcode to) told none_also =
          by_test (is_virtual (held before (operand point.typed 1))) (is_virtual (held before (operand point.typed 0))) told none_also where
            by_test : (one other : Bool) → (other || one) ≡ true
                → (if one || other
                then Some (pop_if_plain (held before (operand point.typed 0)) ++ pop_if_plain
                (held before (operand point.typed 1)) ++ made_on_jump s route)
                else None) ≡ None
                → ⊥
            by_test true other virtual absent = none-some _ (sym absent)
            by_test false true virtual absent = none-some _ (sym absent)
            by_test false false virtual absent = false≢true virtual
      undecided_here (IfNull opcode to) told none_also = by_slot (held before (operand point.typed 0)) told none_also where
        by_slot : (slot : Slot) → is_virtual slot ≡ true → null_template s route slot ≡ None → ⊥
        by_slot Plain virtual absent = false≢true virtual
        by_slot Unusable virtual absent = false≢true virtual
        by_slot (Virt site) virtual absent = none-some _ (sym absent)
      undecided_here (Goto to) told none_also = none-some _ (sym none_also)
      undecided_here (Table low other to) told none_also = false≢true told
      undecided_here (Lookup other pairs) told none_also = false≢true told
      undecided_here (Return kind) told none_also = false≢true told
      undecided_here (GetStatic index) told none_also = false≢true told
      undecided_here (PutStatic index) told none_also = false≢true told
      undecided_here (GetField index) told none_also = false≢true told
      undecided_here (PutField index) told none_also = false≢true told
      undecided_here (Invoke opcode index count) told none_also = false≢true told
      undecided_here (Dynamic index) told none_also = false≢true told
      undecided_here (New index) told none_also = false≢true told
      undecided_here (NewArray code) told none_also = false≢true told
      undecided_here (NewRefArray index) told none_also = false≢true told
      undecided_here (NewMulti index dimensions) told none_also = false≢true told
      undecided_here Length told none_also = false≢true told
      undecided_here Throw told none_also = false≢true told
      undecided_here (Cast index) told none_also = false≢true told
      undecided_here (InstanceOf index) told none_also = false≢true told
      undecided_here Enter told none_also = false≢true told
      undecided_here Leave told none_also = false≢true told
  of_written class instr is (Some instrs) some = ap (witem_places news) written ∙ of_items news instrs
      ∙ by (decided point.typed before instr) refl where
        written : items_at s at point before route ≡ map item instrs
        written = rw (is, some) refl

        silent : decided point.typed before instr ≡ false → of_instrs news instrs ≡ []
        silent told =
            none_of news instrs (subst (OptionHolds (Silent news) (simple_silent news)) some
            (template_holds (Silent news) (simple_silent news) s at point.typed before route class instr (λ also. absurd (false≢true (sym told ∙ also)))))

        by : (told : Bool) → decided point.typed before instr ≡ told
            → of_instrs news instrs ≡ own_places news s at point before (Of class instr) ++ decided_places told
        by false told = silent told ∙ sym (ap (λ (first : List Place). first ++ []) (undecided_written class instr instrs some))
        by true told =
            decided_here instr told some
            ∙ sym (ap (λ (first : List Place). first ++ edge_places s (edge_by route (edges.Jump 0))) (undecided_written class instr instrs some)) where
              decided_here : (one : Instr) → decided point.typed before one ≡ true → template s at point.typed before route class one ≡ Some instrs
                  → of_instrs news instrs ≡ edge_places s (edge_by route (edges.Jump 0))
              decided_here Nop told found = absurd (false≢true told)
              decided_here (Const imm) told found = absurd (false≢true told)
              decided_here (Ldc index) told found = absurd (false≢true told)
              decided_here (Ldc2 index) told found = absurd (false≢true told)
              decided_here (Load kind local) told found = absurd (false≢true told)
              decided_here (Store kind local) told found = absurd (false≢true told)
              decided_here (Iinc local by) told found = absurd (false≢true told)
              decided_here (ArrayLoad opcode) told found = absurd (false≢true told)
              decided_here (ArrayStore opcode) told found = absurd (false≢true told)
              decided_here (Shuffle opcode) told found = absurd (false≢true told)
              decided_here (Pure opcode) told found = absurd (false≢true told)
              decided_here (Divide opcode) told found = absurd (false≢true told)
              decided_here (FloatAsk opcode) told found = absurd (false≢true told)
              decided_here (If opcode to) told found = absurd (false≢true told)
              decided_here (If2 opcode to) told found = absurd (false≢true told)
              decided_here (IfSame opcode to) told found =
                  same_decided (held before (operand point.typed 1)) (held before (operand point.typed 0)) instrs found
              decided_here (IfNull opcode to) told found = null_decided class opcode to (held before (operand point.typed 0)) instrs found
              decided_here (Goto to) told found = ap (of_instrs news) (sym (same_Some _ instrs found)) ∙ jump_made
              decided_here (Table low other to) told found = absurd (false≢true told)
              decided_here (Lookup other pairs) told found = absurd (false≢true told)
              decided_here (Return kind) told found = absurd (false≢true told)
              decided_here (GetStatic index) told found = absurd (false≢true told)
              decided_here (PutStatic index) told found = absurd (false≢true told)
              decided_here (GetField index) told found = absurd (false≢true told)
              decided_here (PutField index) told found = absurd (false≢true told)
              decided_here (Invoke opcode index count) told found = absurd (false≢true told)
              decided_here (Dynamic index) told found = absurd (false≢true told)
              decided_here (New index) told found = absurd (false≢true told)
              decided_here (NewArray code) told found = absurd (false≢true told)
              decided_here (NewRefArray index) told found = absurd (false≢true told)
              decided_here (NewMulti index dimensions) told found = absurd (false≢true told)
              decided_here Length told found = absurd (false≢true told)
              decided_here Throw told found = absurd (false≢true told)
              decided_here (Cast index) told found = absurd (false≢true told)
              decided_here (InstanceOf index) told found = absurd (false≢true told)
              decided_here Enter told found = absurd (false≢true told)
              decided_here Leave told found = absurd (false≢true told)

  null_written : (local : ℕ) → point.instr ≡ NullTest local → witem_places news (items_at s at point before route) ≡ []
  null_written local is = by (held before local) refl where
    by : (slot : Slot) → held before local ≡ slot → witem_places news (items_at s at point before route) ≡ []
    by Plain told = rw (is, told) refl
    by Unusable told = rw (is, told) refl
    by (Virt site) told = rw (is, told) refl

  pub instruction_places : witem_places news (items_at s at point before route)
      ≡ own_places news s at point before point.instr ++ decided_places (is_decided point route)
  instruction_places = by point.instr refl where
    by : (instr : FlatInstr) → point.instr ≡ instr
        → witem_places news (items_at s at point before route)
        ≡ own_places news s at point before point.instr ++ decided_places (is_decided point route)
    by (NullTest local) is = null_written local is ∙ rw (is) refl
    by (Of class instr) is =
        of_written class instr is (template s at point.typed before route class instr) refl
        ∙ ap (λ (told : Bool). own_places news s at point before (Of class instr) ++ decided_places told)
        (sym (decided_is point route class instr is))
        ∙ ap (λ (one : FlatInstr). own_places news s at point before one ++ decided_places (is_decided point route)) (sym is)

-- by what the constants of classes mean, it is what places say
abbrev pub named_by : PlanScope → Naming
named_by s class index = class_at (pool_of s class) index

pub own_said : (s : PlanScope) (at : ℕ) (point : Point) (state : State) (instr : FlatInstr)
    → own_places (named_by s) s at point state instr ≡ instr_places s at point state instr
own_said s at point state (NullTest local) = refl
own_said s at point state (Of class Nop) = refl
own_said s at point state (Of class (Const imm)) = refl
own_said s at point state (Of class (Ldc index)) = refl
own_said s at point state (Of class (Ldc2 index)) = refl
own_said s at point state (Of class (Load kind local)) = refl
own_said s at point state (Of class (Store kind local)) = refl
own_said s at point state (Of class (Iinc local by)) = refl
own_said s at point state (Of class (ArrayLoad opcode)) = refl
own_said s at point state (Of class (ArrayStore opcode)) = refl
own_said s at point state (Of class (Shuffle opcode)) = refl
own_said s at point state (Of class (Pure opcode)) = refl
own_said s at point state (Of class (Divide opcode)) = refl
own_said s at point state (Of class (FloatAsk opcode)) = refl
own_said s at point state (Of class (If opcode to)) = refl
own_said s at point state (Of class (If2 opcode to)) = refl
own_said s at point state (Of class (IfSame opcode to)) = refl
own_said s at point state (Of class (IfNull opcode to)) = refl
own_said s at point state (Of class (Goto to)) = refl
own_said s at point state (Of class (Table low other to)) = refl
own_said s at point state (Of class (Lookup other pairs)) = refl
own_said s at point state (Of class (Return kind)) = refl
own_said s at point state (Of class (GetStatic index)) = refl
own_said s at point state (Of class (PutStatic index)) = refl
own_said s at point state (Of class (GetField index)) = refl
own_said s at point state (Of class (PutField index)) = refl
own_said s at point state (Of class (Invoke opcode index count)) = refl
own_said s at point state (Of class (Dynamic index)) = refl
own_said s at point state (Of class (New index)) = refl
own_said s at point state (Of class (NewArray code)) = refl
own_said s at point state (Of class (NewRefArray index)) = refl
own_said s at point state (Of class (NewMulti index dimensions)) = refl
own_said s at point state (Of class Length) = refl
own_said s at point state (Of class Throw) = refl
own_said s at point state (Of class (Cast index)) = refl
own_said s at point state (Of class (InstanceOf index)) = refl
own_said s at point state (Of class Enter) = refl
own_said s at point state (Of class Leave) = refl
