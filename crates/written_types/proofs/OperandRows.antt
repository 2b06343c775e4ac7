-- What instructions on constants, locals, arrays, numbers and the stack leave, with types.
use Rattle.std.proofs.Common.{◌≡◌, ◌+◌, ◌-◌, ℕ, zero, suc, Bool, true, false, List, [], ◌∷◌, ◌++◌, length, map, slice_get, Option, Some, None, if◌then◌else◌, refl, sym, ap, subst}
use Rattle.std.specs.Prelude.{◌==◌, slice_set}
use Rattle.std.specs.List.{AllByRecursion}
use Rattle.std.proofs.lemmas.List.{length-map, length-replicate}
use Rattle.class_model.specs.Code.{verification_type}
use Rattle.class_model.specs.Frames.{is_wide}
use Rattle.class_model.specs.declared.descriptor.FieldType.{FieldType}
use Rattle.class_model.specs.declared.descriptor.FieldType.TheVariants as field_types
use Rattle.class_model.specs.declared.descriptor.Kind.{Kind}
use Rattle.class_model.specs.declared.descriptor.Kind.TheVariants as kinds
use Rattle.class_model.specs.declared.frame.Frame.{Frame}
use Rattle.class_model.specs.declared.frame.VType.{VType}
use Rattle.class_model.specs.declared.frame.VType.TheVariants as types
use Rattle.class_model.specs.declared.instr.Imm.{Imm}
use Rattle.class_model.specs.declared.instr.Imm.TheVariants as imms
use Rattle.class_model.specs.declared.opcodes.TheConstants.{IFNULL, IF_ACMPEQ}
use Rattle.class_model.specs.declared.pool.Const.{Const as Constant}
use Rattle.class_model.specs.declared.pool.Const.TheVariants as consts
use Rattle.class_tree.specs.Headers.{Name}
use Rattle.flow_code.specs.ReadTypes.{read_frame}
use Rattle.member_link.specs.RowScope.{RowScope}
use Rattle.member_link.specs.Rows.ArithmeticRows.{Operation, operation_row, type_of_kind}
use Rattle.member_link.specs.Rows.ArrayRows.{Elements, component_type, elements_from, elements_load_row, elements_of, elements_store_row, made_row}
use Rattle.member_link.specs.Rows.LocalRows.{HasRoom, HoldsKind, const_row, cut_before, load_row, local_entry, store_row, stored, type_of_imm, with_units}
use Rattle.member_link.specs.Rows.Operands.{AllFit, Need, array_of_references, initialised, lowest_of, nothing, of_kind, topmost, under}
use Rattle.member_link.specs.Rows.Row.{Row, either, no_row, plain, stack_behind}
use Rattle.member_link.specs.Rows.Table.{jump_row}
use Rattle.plan_flow.specs.PlanRows.{Change, PlanRow, from_place, no_change, plain_value}
use Rattle.plan_flow.specs.PlanScope.{PlanScope}
use Rattle.plan_flow.specs.PlanSlots.{changed, held, slot_from, slots_from}
use Rattle.plan_flow.specs.PlanTable.{held_locals, moving, null_row, operand, operands_of, same_row, throwing}
use Rattle.plan_flow.specs.PlanTable.{store_row as plan_store}
use Rattle.virtual_state.specs.States.{State}
use Rattle.virtual_state.specs.declared.slot.Slot.{Slot}
use Rattle.written_types.proofs.SlotTypes.{put_both, put_top}
use Rattle.written_types.proofs.Standing.{HaveFieldTypes, Left, Standing, all_at, all_dropped, kept_locals, left_by, local_has, moved, new_under, operand_has}
use Rattle.written_types.proofs.TwoUnits.{UnitsOf, one_unit, room_of_wide, stored_pairs, two_units, units_of}
use Rattle.written_types.specs.FitsTypes.{HasItsNew, HasType, HaveTypes}

-- what is asked of the operands of a row holds
abbrev pub Fit : RowScope → Frame → Row → Type 0
Fit sc g row = AllFit sc row.takes (topmost (length row.takes) g.stack)

no_value : (sc : RowScope) (stack : List VType) → AllFit sc (nothing ∷ []) stack → ⊥
no_value sc [] fit = fit
no_value sc (type ∷ stack) fit = fit.0

-- there is no instruction
pub no_operand : (sc : RowScope) (g : Frame) → Fit sc g (no_row g) → ⊥
no_operand sc g fit = no_value sc (topmost 1 g.stack) fit

-- ---- types that are given

module _ (s : PlanScope) (reached : ℕ → Bool) where
  pub new_of_type : (type : FieldType) → HasItsNew s reached (verification_type type)
  new_of_type field_types.Byte = tt
  new_of_type field_types.Char = tt
  new_of_type field_types.Short = tt
  new_of_type field_types.Bool = tt
  new_of_type field_types.Int = tt
  new_of_type field_types.Long = tt
  new_of_type field_types.Float = tt
  new_of_type field_types.Double = tt
  new_of_type (field_types.Named name) = tt

  new_of_imm : (imm : Imm) → HasItsNew s reached (type_of_imm imm)
  new_of_imm imms.Null = tt
  new_of_imm (imms.Int number) = tt
  new_of_imm (imms.Long number) = tt
  new_of_imm (imms.Float bits) = tt
  new_of_imm (imms.Double bits) = tt

  new_of_kind : (kind : Kind) → HasItsNew s reached (type_of_kind kind)
  new_of_kind kinds.Int = tt
  new_of_kind kinds.Long = tt
  new_of_kind kinds.Float = tt
  new_of_kind kinds.Double = tt
  new_of_kind kinds.Ref = tt

  new_of_component : (type : VType) → HasItsNew s reached (component_type type)
  new_of_component (types.Object name) = tt
  new_of_component other = tt

  abbrev NewOfElements : Option Elements → Type 0
  NewOfElements None = Unit {0}
  NewOfElements (Some e) = HasItsNew s reached e.type

  elements_if : (b : Bool) (one other : Option Elements) → NewOfElements one → NewOfElements other → NewOfElements (if b then one else other)
  elements_if true one other first second = first
  elements_if false one other first second = second

  new_of_elements : (number : ℕ) → NewOfElements (elements_of number)
  new_of_elements number =
      elements_if (number == 0) _ _ tt (elements_if (number == 1) _ _ tt (elements_if (number == 2) _ _ tt (elements_if (number == 3) _ _ tt
      (elements_if (number == 5) _ _ tt (elements_if (number == 6) _ _ tt (elements_if (number == 7) _ _ tt tt))))))

  pub new_of_loaded : (first opcode : ℕ) → NewOfElements (elements_from first opcode)
  new_of_loaded first opcode = elements_if _ None _ tt (new_of_elements (opcode - first))

  -- a unit of a list that is stored, or the type that is stored
  set_new : (all : List VType) (n : ℕ) (type : VType) → AllByRecursion (HasItsNew s reached) all → HasItsNew s reached type
      → AllByRecursion (HasItsNew s reached) (slice_set all n type)
  set_new [] n type all new = tt
  set_new (first ∷ rest) zero type all new = (new, all.1)
  set_new (first ∷ rest) (suc n) type all new = (all.0, set_new rest n type all.1 new)

-- ---- a store

pub map_set : {A B : Type 0} (f : A → B) (items : List A) (n : ℕ) (item : A) → map f (slice_set items n item) ≡ slice_set (map f items) n (f item)
map_set f [] n item = refl
map_set f (first ∷ items) zero item = refl
map_set f (first ∷ items) (suc n) item = λ i. f first ∷ map_set f items n item i

-- the units that a store cuts: none, or one that becomes Top
pub data Cut (locals : List VType) : List VType → Type 0 where
  no_cut : Cut locals locals
  one_cut : (at : ℕ) → Cut locals (slice_set locals at types.Top)

pub cut_of : (at : ℕ) (locals : List VType) → Cut locals (cut_before at locals)
cut_of zero locals = no_cut
cut_of (suc at) locals = by (slice_get locals at) refl where
  by_width : (wide : Bool) → Cut locals (if wide then slice_set locals at types.Top else locals)
  by_width true = one_cut at
  by_width false = no_cut

  by : (found : Option VType) → slice_get locals at ≡ found → Cut locals (cut_before (suc at) locals)
  by None none = rw none no_cut
  by (Some type) some = rw some (by_width (is_wide type))

module _ (s : PlanScope) (reached : ℕ → Bool) where
  cut_have : {all cut : List VType} (slots : List Slot) → Cut all cut → HaveTypes s all slots → HaveTypes s cut slots
  cut_have slots no_cut have = have
  cut_have {all} slots (one_cut at) have = put_top s all slots at have

  cut_new : {all cut : List VType} → Cut all cut → AllByRecursion (HasItsNew s reached) all → AllByRecursion (HasItsNew s reached) cut
  cut_new no_cut new = new
  cut_new {all} (one_cut at) new = set_new s reached all at types.Top new tt

  units_have : {type : VType} {own : List VType} → UnitsOf type own → (at : ℕ) (all : List VType) (slots : List Slot) (slot : Slot)
      → HaveTypes s all slots
      → HasType s type slot
      → HaveTypes s (with_units at own all) (slice_set slots at slot)
  units_have {type} (one_unit narrow) at all slots slot have has = put_both s all slots at type slot have has
  units_have {type} (two_units wide) at all slots slot have has =
      put_top s (slice_set all at type) (slice_set slots at slot) (at + 1) (put_both s all slots at type slot have has)

  units_new : {type : VType} {own : List VType} → UnitsOf type own → (at : ℕ) (all : List VType) → AllByRecursion (HasItsNew s reached) all
      → HasItsNew s reached type
      → AllByRecursion (HasItsNew s reached) (with_units at own all)
  units_new {type} (one_unit narrow) at all new own = set_new s reached all at type new own
  units_new {type} (two_units wide) at all new own =
      set_new s reached (slice_set all at type) (at + 1) types.Top (set_new s reached all at type new own) tt

-- ---- rows

module _ (s : PlanScope) (reached : ℕ → Bool) (f : Frame) (before : State) (st : Standing s reached f before) (sc : RowScope) where
  abbrev rf : Frame
  rf = read_frame s.flat f

  abbrev pub Leaves : PlanRow → Row → Type 0
  Leaves p row = Left s reached before p row.locals (stack_behind rf row) row.goes_on

  -- so many operands are taken, and a plain value is given, or none
  pub gives_none : (p : PlanRow) (count : ℕ) → p.change ≡ no_change → p.locals ≡ held_locals f → p.stack ≡ (moving f count []).stack
      → Left s reached before p rf.locals (under count rf.stack ++ []) true
  gives_none p count still locals_are is =
      moved s reached f before st p count [] [] locals_are is tt
      (subst (λ (c : Change). HaveFieldTypes s (changed s before c ++ before.objects)) (sym still) st.objects) tt

  pub gives_plain : (p : PlanRow) (count : ℕ) (type : VType) → p.change ≡ no_change → p.locals ≡ held_locals f
      → p.stack ≡ (moving f count (plain_value ∷ [])).stack
      → HasItsNew s reached type
      → Left s reached before p rf.locals (under count rf.stack ++ type ∷ []) true
  gives_plain p count type still locals_are is new =
      moved s reached f before st p count (plain_value ∷ []) (type ∷ []) locals_are is (tt, tt)
      (subst (λ (c : Change). HaveFieldTypes s (changed s before c ++ before.objects)) (sym still) st.objects) (new, tt)

  pub imm_leaves : (imm : Imm) → Leaves (moving f 0 (plain_value ∷ [])) (plain rf [] (type_of_imm imm ∷ []))
  imm_leaves imm = gives_plain _ 0 (type_of_imm imm) refl refl refl (new_of_imm s reached imm)

  pub const_leaves : (constant : Option Constant) → Fit sc rf (const_row rf constant)
      → Leaves (moving f 0 (plain_value ∷ [])) (const_row rf constant)
  const_leaves None fit = absurd (no_operand sc rf fit)
  const_leaves (Some (consts.Integer n)) fit = gives_plain _ 0 _ refl refl refl tt
  const_leaves (Some (consts.Float bits)) fit = gives_plain _ 0 _ refl refl refl tt
  const_leaves (Some (consts.Long n)) fit = gives_plain _ 0 _ refl refl refl tt
  const_leaves (Some (consts.Double bits)) fit = gives_plain _ 0 _ refl refl refl tt
  const_leaves (Some (consts.String text)) fit = gives_plain _ 0 _ refl refl refl tt
  const_leaves (Some (consts.Class name)) fit = gives_plain _ 0 _ refl refl refl tt
  const_leaves (Some (consts.MethodHandle kind reference)) fit = gives_plain _ 0 _ refl refl refl tt
  const_leaves (Some (consts.MethodType descriptor)) fit = gives_plain _ 0 _ refl refl refl tt
  const_leaves (Some other) fit = absurd (no_operand sc rf fit)

  -- ---- locals

  pub load_leaves : (kind : Kind) (at : ℕ) → HoldsKind kind rf.locals at → Leaves (moving f 0 (from_place at ∷ [])) (load_row rf kind at)
  load_leaves kind at holds =
      let entry : local_entry rf.locals at ≡ holds.0 ∷ [] = rw (holds.1) refl in
      subst (λ (gives : List VType). Left s reached before (moving f 0 (from_place at ∷ [])) rf.locals (under 0 rf.stack ++ gives) true) (sym entry)
      (moved s reached f before st _ 0 (from_place at ∷ []) (holds.0 ∷ []) refl refl
      (local_has s reached f before st at holds.0 holds.1, tt) st.objects
      (all_at (HasItsNew s reached) rf.locals at holds.0 st.locals holds.1, tt))

  store_of : (kind : Kind) (at : ℕ) (entries : List VType) → topmost 1 rf.stack ≡ entries → HasRoom kind rf.locals at
      → AllFit sc (of_kind kind ∷ []) entries
      → Leaves (plan_store f at) (store_row rf kind at)
  store_of kind at [] are room fit = absurd fit
  store_of kind at (value ∷ []) are room fit =
      let lowest : lowest_of 1 rf.stack ≡ value = rw are refl in
      let first : slice_get (topmost 1 rf.stack) 0 ≡ Some value = ap (λ (l : List VType). slice_get l 0) are in
      let has : HasType s value (held before (operand f 0)) =
      operand_has s reached f before st 1 0 0 value (ap length are) refl first in
      let new : HasItsNew s reached value =
      all_at (HasItsNew s reached) (topmost 1 rf.stack) 0 value (all_dropped (HasItsNew s reached) (length rf.stack - 1) rf.stack st.stack) first in
      let slots_are : slots_from s before no_change (slice_set (held_locals f) at (from_place (operand f 0)))
      ≡ slice_set (slots_from s before no_change (held_locals f)) at (held before (operand f 0)) =
      map_set (slot_from s before no_change) (held_locals f) at (from_place (operand f 0)) in
      subst (λ (type : VType). Left s reached before (plan_store f at) (stored at type rf.locals) (under 1 rf.stack ++ []) true) (sym lowest)
      (left_by s reached f before st (plan_store f at) 1 [] (stored at value rf.locals) (under 1 rf.stack) [] refl
      (subst (HaveTypes s (stored at value rf.locals)) (sym slots_are)
      (units_have s reached (units_of value) at (cut_before at rf.locals) _ (held before (operand f 0))
      (cut_have s reached _ (cut_of at rf.locals) (kept_locals s reached f before st no_change)) has))
      (λ have. have) tt st.objects
      (units_new s reached (units_of value) at (cut_before at rf.locals) (cut_new s reached (cut_of at rf.locals) st.locals) new)
      (new_under s reached f before st 1) tt
      (stored_pairs at value rf.locals st.pairs (λ wide. room_of_wide kind value rf.locals at fit.0 room wide)))
  store_of kind at (value ∷ other ∷ entries) are room fit = absurd fit.1

  pub store_leaves : (kind : Kind) (at : ℕ) → HasRoom kind rf.locals at → Fit sc rf (store_row rf kind at)
      → Leaves (plan_store f at) (store_row rf kind at)
  store_leaves kind at room fit = store_of kind at (topmost 1 rf.stack) refl room fit

  -- ---- arrays

  pub array_load_leaves : (references : Bool) (found : Option Elements) → NewOfElements s reached found
      → Fit sc rf (either references (plain rf (array_of_references ∷ of_kind kinds.Int ∷ []) (component_type (lowest_of 2 rf.stack) ∷ []))
      (elements_load_row rf found))
      → Leaves (throwing f 2 (plain_value ∷ []))
      (either references (plain rf (array_of_references ∷ of_kind kinds.Int ∷ []) (component_type (lowest_of 2 rf.stack) ∷ []))
      (elements_load_row rf found))
  array_load_leaves true found new fit = gives_plain _ 2 _ refl refl refl (new_of_component s reached (lowest_of 2 rf.stack))
  array_load_leaves false None new fit = absurd (no_operand sc rf fit)
  array_load_leaves false (Some e) new fit = gives_plain _ 2 _ refl refl refl new

  pub array_store_leaves : (p : PlanRow) → p.change ≡ no_change → p.locals ≡ held_locals f → p.stack ≡ (moving f 3 []).stack
      → (references : Bool) (found : Option Elements)
      → Fit sc rf (either references (plain rf (array_of_references ∷ of_kind kinds.Int ∷ initialised ∷ []) []) (elements_store_row rf found))
      → Leaves p (either references (plain rf (array_of_references ∷ of_kind kinds.Int ∷ initialised ∷ []) []) (elements_store_row rf found))
  array_store_leaves p still locals_are is true found fit = gives_none p 3 still locals_are is
  array_store_leaves p still locals_are is false None fit = absurd (no_operand sc rf fit)
  array_store_leaves p still locals_are is false (Some e) fit = gives_none p 3 still locals_are is

  pub made_leaves : (counts : ℕ) (name : Option Name) → Fit sc rf (made_row rf counts name)
      → Leaves (throwing f counts (plain_value ∷ [])) (made_row rf counts name)
  made_leaves counts None fit = absurd (no_operand sc rf fit)
  made_leaves counts (Some name) fit =
      subst (λ (n : ℕ). Left s reached before (throwing f counts (plain_value ∷ [])) rf.locals (under n rf.stack ++ types.Object name ∷ []) true)
      (sym (length-replicate counts (of_kind kinds.Int))) (gives_plain _ counts _ refl refl refl tt)

  -- ---- numbers and jumps

  pub operation_leaves : (p : ℕ → PlanRow) → ((count : ℕ) → (p count).change ≡ no_change) → ((count : ℕ) → (p count).locals ≡ held_locals f)
      → ((count : ℕ) → (p count).stack ≡ (moving f count (plain_value ∷ [])).stack)
      → (found : Option Operation)
      → Fit sc rf (operation_row rf found)
      → Leaves (p (operands_of found)) (operation_row rf found)
  operation_leaves p still locals_are is None fit = absurd (no_operand sc rf fit)
  operation_leaves p still locals_are is (Some o) fit =
      subst (λ (n : ℕ). Left s reached before (p (length o.takes)) rf.locals (under n rf.stack ++ type_of_kind o.gives ∷ []) true)
      (sym (length-map o.takes of_kind))
      (gives_plain (p (length o.takes)) (length o.takes) _ (still (length o.takes)) (locals_are (length o.takes)) (is (length o.takes))
      (new_of_kind s reached o.gives))

  pub jump_leaves : (p : PlanRow) (takes : List Need) → p.change ≡ no_change → p.locals ≡ held_locals f
      → p.stack ≡ (moving f (length takes) []).stack
      → (known : Bool)
      → Fit sc rf (jump_row rf known takes)
      → Leaves p (jump_row rf known takes)
  jump_leaves p takes still locals_are is true fit = gives_none p (length takes) still locals_are is
  jump_leaves p takes still locals_are is false fit = absurd (no_operand sc rf fit)

  pub same_leaves : (opcode : ℕ) (takes : List Need) → length takes ≡ 2 → (known : Bool)
      → Fit sc rf (jump_row rf known takes)
      → Leaves (same_row f opcode) (jump_row rf known takes)
  same_leaves opcode takes long known fit = by (opcode == IF_ACMPEQ) refl where
    is : (moving f 2 []).stack ≡ (moving f (length takes) []).stack
    is = ap (λ (n : ℕ). (moving f n []).stack) (sym long)

    by : (b : Bool) → (opcode == IF_ACMPEQ) ≡ b → Leaves (same_row f opcode) (jump_row rf known takes)
    by true test = rw test (jump_leaves _ takes refl refl is known fit)
    by false test = rw test (jump_leaves _ takes refl refl is known fit)

  pub null_leaves : (opcode : ℕ) (takes : List Need) → length takes ≡ 1 → (known : Bool)
      → Fit sc rf (jump_row rf known takes)
      → Leaves (null_row f opcode) (jump_row rf known takes)
  null_leaves opcode takes long known fit = by (opcode == IFNULL) refl where
    is : (moving f 1 []).stack ≡ (moving f (length takes) []).stack
    is = ap (λ (n : ℕ). (moving f n []).stack) (sym long)

    by : (b : Bool) → (opcode == IFNULL) ≡ b → Leaves (null_row f opcode) (jump_row rf known takes)
    by true test = rw test (jump_leaves _ takes refl refl is known fit)
    by false test = rw test (jump_leaves _ takes refl refl is known fit)
