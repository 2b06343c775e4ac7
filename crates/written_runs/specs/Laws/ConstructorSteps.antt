-- The instructions of a field constructor: it loads what it passes on, and stores the fields of its own class.
use Rattle.std.proofs.Common.{◌≡◌, ◌+◌, nat_le, ℕ, true, List, [], ◌∷◌, ◌++◌, drop, length, map, reverse, slice_get, slice_set, take, Option, Some, None, option_and_then, option_map, IsTrue, refl, sym, ap, subst, ◌∙◌, arith}
use Rattle.std.proofs.lemmas.List.{append_assoc, drop-drop, length-append}
use Rattle.class_model.specs.Descriptors.{kind_of, type_of, types_before, units_of}
use Rattle.class_model.specs.Header.{header_of}
use Rattle.class_model.specs.declared.class_file.ClassFile.{ClassFile}
use Rattle.class_model.specs.declared.class_file.MethodAt.{MethodAt}
use Rattle.class_model.specs.declared.descriptor.Kind.{Kind}
use Rattle.class_model.specs.declared.descriptor.Kind.TheVariants as kinds
use Rattle.class_model.specs.declared.header.Member.{Member}
use Rattle.class_model.specs.declared.instr.Imm.TheVariants as imms
use Rattle.class_model.specs.declared.instr.Instr.TheVariants.{Const, Load}
use Rattle.class_tree.specs.Headers.{Name, Classes}
use Rattle.class_tree.specs.Names.{object}
use Rattle.machine_values.specs.Frames.{MethodState}
use Rattle.machine_values.specs.Heaps.{object_at}
use Rattle.machine_values.specs.Values.{has_kind, narrowed, units_of_values}
use Rattle.machine_values.specs.declared.frame.RunFrame.{RunFrame}
use Rattle.machine_values.specs.declared.frame.RunFrame.TheVariants.{Method}
use Rattle.machine_values.specs.declared.object.Object.{Object}
use Rattle.machine_values.specs.declared.object.Shape.TheVariants.{Folder}
use Rattle.machine_values.specs.declared.value.Value.{Value}
use Rattle.machine_values.specs.declared.value.Value.TheVariants.{Null, Ref}
use Rattle.making_code.specs.FieldConstructor.{CInstr, calls_object, loads_from, puts_field, puts_from, simple}
use Rattle.member_link.specs.Machine.Codes.{special_start}
use Rattle.member_link.specs.Machine.Completions.{gives}
use Rattle.member_link.specs.Machine.Locals.{local_value}
use Rattle.member_link.specs.Machine.Programs.{Code, Links, Point, Program, code_at, folder_number, name_of_class, point_at}
use Rattle.member_link.specs.Machine.Runs.{Run}
use Rattle.member_link.specs.Machine.Work.{arity, work}
use Rattle.member_link.specs.Machine.Worlds.{Memory, going}
use Rattle.plan_flow.specs.Written.WrittenPrograms.{constructor_point, constructor_scope}
use Rattle.same_runs.specs.Laws.CaughtUp.{less}
use Rattle.member_link.specs.Machine.Performing.{resumed}
use Rattle.same_runs.specs.Laws.Operations.{WorksOnOperands}
use Rattle.same_runs.specs.Laws.QuietBeginnings.{quietly_then, standing}
use Rattle.same_runs.specs.Laws.QuietCalls.{quiet_gives}
use Rattle.same_runs.specs.Laws.QuietMoves.{moves_quietly}
use Rattle.same_runs.specs.QuietMoves.{moved_at, moved_by, moves, pushed}
use Rattle.same_runs.specs.Simulations.{Quietly, at_once}
use Rattle.written_runs.specs.Laws.FieldConstructors.{HasSlot, HasSlots, IsBelowObject, calls_highest, filled, filled_there, filled_twice, puts_value}
use Rattle.written_runs.specs.Laws.GivenValues.{FitTypes, HasUnits, get_behind, get_here, has_units, local_is, push_one, set_middle, types_of}

-- ---- where a constructor stands

abbrev pub Units : Type 0
Units = List (Option Value)

-- a frame of a constructor, with a stack, before instructions
pub record InConstructor (point_of : CInstr → Point) (code : Code) (at : MethodAt) (locals : Units) (f : MethodState) (stack : List Value)
    (items : List CInstr)
    : Type 0 where
  pub is_at : f.at ≡ at
  pub has_locals : f.locals ≡ locals
  pub has_stack : f.stack ≡ stack
  pub holds : f.held ≡ None
  pub has_items : drop f.place code.points ≡ map point_of items

-- it comes quietly to where it stands before others
pub record Comes (Q : Program) (r : Run) (others : List RunFrame) (point_of : CInstr → Point) (code : Code) (at : MethodAt) (locals : Units)
    (f : MethodState) (steps : ℕ) (memory later : Memory) (stack : List Value) (items : List CInstr)
    : Type 0 where
  pub after : MethodState
  pub then_steps : ℕ
  pub quietly : Quietly Q (standing r (Method f ∷ others) memory steps) (standing r (Method after ∷ others) later then_steps)
  pub stands : InConstructor point_of code at locals after stack items

-- the program, the run, and the constructor
module _ (Q : Program) (classes : Classes) (links : Links) (constructor : Name → List ℕ) (file : ClassFile)
    (r : Run) (goes : r.world.halt ≡ going) (others : List RunFrame) (code : Code) (at : MethodAt) (is_code : code_at Q at ≡ Some code)
    (locals : Units) where
  abbrev pub point_of : CInstr → Point
  point_of item = constructor_point links (constructor_scope classes file) constructor item

  abbrev pub Stands : MethodState → List Value → List CInstr → Type 0
  Stands f stack items = InConstructor point_of code at locals f stack items

  abbrev pub Reaches : MethodState → ℕ → Memory → Memory → List Value → List CInstr → Type 0
  Reaches f steps memory later stack items = Comes Q r others point_of code at locals f steps memory later stack items

  pub reached : {stack : List Value} {items : List CInstr} (f : MethodState) (steps : ℕ) (memory : Memory) → Stands f stack items
      → Reaches f steps memory memory stack items
  reached f steps memory stands = record { after = f; then_steps = steps; quietly = at_once; stands = stands }

  pub then_reaches : {stack more : List Value} {items rest : List CInstr} {middle later : Memory} (f : MethodState) (steps : ℕ) (memory : Memory)
      → Reaches f steps memory middle stack items
      → ((g : MethodState) (count : ℕ) → Stands g stack items → Reaches g count middle later more rest)
      → Reaches f steps memory later more rest
  then_reaches f steps memory first next =
      let rest = next first.after first.then_steps first.stands in
      record {
        after = rest.after;
        then_steps = rest.then_steps;
        quietly = quietly_then first.quietly rest.quietly;
        stands = rest.stands;
      }

  got : {stack : List Value} (item : CInstr) (items : List CInstr) (f : MethodState) → Stands f stack (item ∷ items)
      → slice_get code.points f.place ≡ Some (point_of item)
  got item items f stands = get_here f.place code.points (point_of item) (map point_of items) stands.has_items

  pub point_there : {stack : List Value} (item : CInstr) (items : List CInstr) (f : MethodState) → Stands f stack (item ∷ items)
      → point_at Q f.at f.place ≡ Some (point_of item)
  point_there item items f stands =
      ap (λ (a : MethodAt). point_at Q a f.place) stands.is_at
      ∙ ap (option_and_then (λ (c : Code). slice_get c.points f.place)) is_code
      ∙ got item items f stands

  -- it stands behind an instruction with another stack
  pub behind_it : {stack more : List Value} (item : CInstr) (items : List CInstr) (f g : MethodState) → Stands f stack (item ∷ items)
      → g.at ≡ f.at → g.locals ≡ f.locals → g.held ≡ f.held → g.place ≡ f.place + 1 → g.stack ≡ more
      → Stands g more items
  behind_it item items f g stands same_at same_locals same_held next is_stack = record {
    is_at = same_at ∙ stands.is_at;
    has_locals = same_locals ∙ stands.has_locals;
    has_stack = is_stack;
    holds = same_held ∙ stands.holds;
    has_items = ap (λ (place : ℕ). drop place code.points) next
        ∙ get_behind f.place code.points (point_of item) (map point_of items) stands.has_items;
  }

  -- a value is pushed
  pushes : {stack : List Value} (item : CInstr) (items : List CInstr) (value : Value) (f : MethodState) (steps : ℕ) (memory : Memory)
      → Stands f stack (item ∷ items)
      → moved_by f (point_of item).op ≡ Some (pushed f value)
      → Reaches f steps memory memory (value ∷ stack) items
  pushes item items value f steps memory stands moved =
      let goes_by = moves_quietly {Q = Q} {others = others} r code 1 f (pushed f value) memory steps goes (ap (code_at Q) stands.is_at ∙ is_code)
      (ap (λ (point : Option Point). option_and_then (moves code 0) (moved_at f point)) (got item items f stands)
      ∙ ap (option_and_then (moves code 0)) moved) in
      record {
        after = pushed f value;
        then_steps = goes_by.0;
        quietly = goes_by.1;
        stands = behind_it item items f (pushed f value) stands refl refl refl refl (ap (λ (s : List Value). value ∷ s) stands.has_stack);
      }

  pub loads_one : {stack : List Value} (kind : Kind) (unit : ℕ) (items : List CInstr) (value : Value) (f : MethodState) (steps : ℕ) (memory : Memory)
      → Stands f stack (simple (Load kind unit) ∷ items)
      → slice_get locals unit ≡ Some (Some value)
      → IsTrue (has_kind kind value)
      → Reaches f steps memory memory (value ∷ stack) items
  loads_one kind unit items value f steps memory stands is fits =
      pushes (simple (Load kind unit)) items value f steps memory stands
      (ap (option_map (pushed f)) (ap (λ (us : Units). local_value kind us unit) stands.has_locals ∙ local_is kind locals unit value is fits))

  pub pushes_null : {stack : List Value} (items : List CInstr) (f : MethodState) (steps : ℕ) (memory : Memory)
      → Stands f stack (simple (Const imms.Null) ∷ items)
      → Reaches f steps memory memory (Null ∷ stack) items
  pushes_null items f steps memory stands = pushes (simple (Const imms.Null)) items Null f steps memory stands refl

  -- values of fields are loaded
  pub loads : (fields : List Member) (values : List Value) (unit : ℕ) (tail : Units) (stack : List Value) (items : List CInstr)
      (f : MethodState) (steps : ℕ) (memory : Memory)
      → FitTypes (types_of fields) values
      → drop unit locals ≡ units_of_values values ++ tail
      → Stands f stack (loads_from unit fields ++ items)
      → Reaches f steps memory memory (reverse values ++ stack) items
  loads [] [] unit tail stack items f steps memory fit is stands = reached f steps memory stands
  loads [] (value ∷ values) unit tail stack items f steps memory fit is stands = absurd fit
  loads (field ∷ fields) [] unit tail stack items f steps memory fit is stands = absurd fit
  loads (field ∷ fields) (value ∷ values) unit tail stack items f steps memory fit is stands =
      then_reaches f steps memory
      (loads_one kind unit (loads_from (unit + units_of kind) fields ++ items) value f steps memory stands
      (get_here unit locals (Some value) units.more (is ∙ units.here)) fit.0)
      (λ g count stands. subst (λ (s : List Value). Reaches g count memory memory s items) (push_one value values stack)
      (loads fields values (unit + units_of kind) tail (value ∷ stack) items g count memory fit.2
      (sym (drop-drop (units_of kind) unit locals) ∙ ap (drop (units_of kind)) is ∙ units.behind) stands)) where
        kind : Kind
        kind = kind_of (type_of field.desc)

        units : HasUnits kind value values tail
        units = has_units kind value values tail fit.0

  -- ---- what is done to the object

  -- an operation that gives nothing is done on all that is on the stack
  works : {stack : List Value} (item : CInstr) (items : List CInstr) (f : MethodState) (steps : ℕ) (memory later : Memory)
      → Stands f stack (item ∷ items)
      → WorksOnOperands (point_of item).op
      → nat_le (arity (point_of item).op) (length stack) ≡ true
      → work Q memory (point_of item).op (reverse (take (arity (point_of item).op) stack)) ≡ gives later []
      → Reaches f steps memory later (drop (arity (point_of item).op) stack) items
  works item items f steps memory later stands works_it enough given =
      let taken = arity (point_of item).op in
      record {
        after = resumed (less taken f) [];
        then_steps = steps + 1;
        quietly = quiet_gives {Q = Q} {others = others} r f memory later steps (point_of item) [] goes (point_there item items f stands) works_it
            (ap (λ (s : List Value). nat_le taken (length s)) stands.has_stack ∙ enough)
            (ap (λ (s : List Value). work Q memory (point_of item).op (reverse (take taken s))) stands.has_stack ∙ given);
        stands = behind_it item items f (resumed (less taken f) []) stands refl refl refl refl (ap (drop taken) stands.has_stack);
      }

  module _ {shape : ℕ} (memory : Memory) (reference : ℕ) (one : Object) (is : object_at memory.heap reference ≡ Some one)
      (is_shape : one.shape ≡ Folder shape) (this : slice_get locals 0 ≡ Some (Some (Ref reference))) where
    -- java/lang/Object's initialiser is called
    pub calls_top : {above : Name} (below : IsBelowObject Q classes shape above) (items : List CInstr) (f : MethodState) (steps : ℕ)
        → Stands f [] (simple (Load kinds.Ref 0) ∷ calls_object ∷ items)
        → Reaches f steps memory memory [] items
    unfolding types_before
    calls_top below items f steps stands =
        then_reaches f steps memory (loads_one kinds.Ref 0 (calls_object ∷ items) (Ref reference) f steps memory stands this refl)
        (λ g count stands. works calls_object items g count memory memory stands tt refl
        (calls_highest below (special_start links (constructor_scope classes file) object) memory reference one is is_shape))

    -- a field is stored
    stores_one : (field : Member) (number class_number : ℕ) (items : List CInstr) (done left : List Value) (old value : Value) (f : MethodState) (steps : ℕ)
        → HasSlot Q shape (header_of file).name number field
        → folder_number Q (header_of file).name ≡ Some class_number
        → Q.links.below (name_of_class Q shape) (header_of file).name ≡ true
        → IsTrue (has_kind (kind_of (type_of field.desc)) value)
        → narrowed (type_of field.desc) value ≡ value
        → length done ≡ number
        → Stands f (value ∷ Ref reference ∷ []) (puts_field (header_of file).name field.name field.desc ∷ items)
        → Reaches f steps (filled memory reference one (done ++ (old ∷ left))) (filled memory reference one (done ++ (value ∷ left))) [] items
    stores_one field number class_number items done left old value f steps has of_folder below fits kept counted stands =
        works (puts_field (header_of file).name field.name field.desc) items f steps now
        (filled memory reference one (done ++ (value ∷ left))) stands tt refl
        (puts_value (header_of file).name field number now reference (record one { values = done ++ (old ∷ left) }) value class_number has of_folder below
        (filled_there memory reference one (done ++ (old ∷ left)) is) is_shape fits kept
        ∙ ap (λ (m : Memory). gives m []) same) where
          now : Memory
          now = filled memory reference one (done ++ (old ∷ left))

          same : filled now reference (record one { values = done ++ (old ∷ left) }) (slice_set (done ++ (old ∷ left)) number value)
              ≡ filled memory reference one (done ++ (value ∷ left))
          same =
              filled_twice memory reference one (done ++ (old ∷ left)) (slice_set (done ++ (old ∷ left)) number value)
              ∙ ap (λ (n : ℕ). filled memory reference one (slice_set (done ++ (old ∷ left)) n value)) (sym counted)
              ∙ ap (filled memory reference one) (set_middle done old value left)

    -- the fields of its own class are stored
    pub stores : (fields : List Member) (values left : List Value) (unit : ℕ) (tail : Units) (items : List CInstr) (done behind : List Value)
        (number class_number : ℕ) (f : MethodState) (steps : ℕ)
        → HasSlots Q shape (header_of file).name number fields
        → folder_number Q (header_of file).name ≡ Some class_number
        → Q.links.below (name_of_class Q shape) (header_of file).name ≡ true
        → FitTypes (types_of fields) values
        → length done ≡ number
        → length left ≡ length values
        → drop unit locals ≡ units_of_values values ++ tail
        → Stands f [] (puts_from (header_of file).name unit fields ++ items)
        → Reaches f steps (filled memory reference one (done ++ (left ++ behind))) (filled memory reference one (done ++ (values ++ behind))) [] items
    stores [] [] [] unit tail items done behind number class_number f steps has of_folder below fit counted many units stands =
        reached f steps (filled memory reference one (done ++ behind)) stands
    stores [] [] (old ∷ left) unit tail items done behind number class_number f steps has of_folder below fit counted many units stands =
        absurd (omega (arith, many))
    stores [] (value ∷ values) left unit tail items done behind number class_number f steps has of_folder below fit counted many units stands =
        absurd fit
    stores (field ∷ fields) [] left unit tail items done behind number class_number f steps has of_folder below fit counted many units stands =
        absurd fit
    stores (field ∷ fields) (value ∷ values) [] unit tail items done behind number class_number f steps has of_folder below fit counted many units stands =
        absurd (omega (arith, many))
    stores (field ∷ fields) (value ∷ values) (old ∷ left) unit tail items done behind number class_number f steps has of_folder below fit counted many units stands =
        then_reaches f steps now
        (loads_one kinds.Ref 0 (simple (Load kind unit) ∷ puts_field (header_of file).name field.name field.desc ∷ further) (Ref reference) f steps now stands
        this refl)
        (λ g count stands. then_reaches g count now
        (loads_one kind unit (puts_field (header_of file).name field.name field.desc ∷ further) value g count now stands
        (get_here unit locals (Some value) has_them.more (units ∙ has_them.here)) fit.0)
        (λ h counts stands. then_reaches h counts now
        (stores_one field number class_number further done (left ++ behind) old value h counts has.0 of_folder below fit.0 fit.1 counted stands)
        (λ i steps stands. as_one i steps
        (stores fields values left (unit + units_of kind) tail items (done ++ value ∷ []) behind (number + 1) class_number i steps has.1 of_folder below
        fit.2 (length-append done (value ∷ []) ∙ ap (λ (n : ℕ). n + 1) counted) (omega (arith, many))
        (sym (drop-drop (units_of kind) unit locals) ∙ ap (drop (units_of kind)) units ∙ has_them.behind) stands)))) where
          kind : Kind
          kind = kind_of (type_of field.desc)

          has_them : HasUnits kind value values tail
          has_them = has_units kind value values tail fit.0

          further : List CInstr
          further = puts_from (header_of file).name (unit + units_of kind) fields ++ items

          now : Memory
          now = filled memory reference one (done ++ (old ∷ (left ++ behind)))

          as_one : (g : MethodState) (count : ℕ)
              → Reaches g count (filled memory reference one ((done ++ value ∷ []) ++ (left ++ behind)))
              (filled memory reference one ((done ++ value ∷ []) ++ (values ++ behind))) [] items
              → Reaches g count (filled memory reference one (done ++ (value ∷ (left ++ behind))))
              (filled memory reference one (done ++ (value ∷ (values ++ behind)))) [] items
          as_one g count reaches =
              subst (λ (vs : List Value). Reaches g count (filled memory reference one vs)
              (filled memory reference one (done ++ (value ∷ (values ++ behind)))) [] items) (append_assoc done (value ∷ []) (left ++ behind))
              (subst (λ (vs : List Value). Reaches g count (filled memory reference one ((done ++ value ∷ []) ++ (left ++ behind)))
              (filled memory reference one vs) [] items) (append_assoc done (value ∷ []) (values ++ behind)) reaches)
