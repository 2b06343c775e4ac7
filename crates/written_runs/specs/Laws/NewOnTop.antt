-- The object that an instruction of flat code makes comes to lie on top of the stack: by the rows of plans, and by the types of points.
use Rattle.std.proofs.Common.{◌≡◌, ◌≤◌, ◌+◌, ◌-◌, ◌++◌, ◌==◌, ℕ, zero, suc, Bool, true, false, List, [], ◌∷◌, length, map, slice_get, take, Option, Some, None, IfSome, if◌then◌else◌, refl, sym, ap, subst, ◌∙◌, arith}
use Rattle.std.specs.List.{AllByRecursion}
use Rattle.std.proofs.lemmas.Bool.{false≢true}
use Rattle.std.proofs.lemmas.List.{length-append, length-map, length-take-le}
use Rattle.std.proofs.lemmas.Option.{none-some, same_Some}
use Rattle.class_model.specs.Laws.Lists.{at_index}
use Rattle.class_model.specs.Pool.{Constants, constant_at}
use Rattle.class_model.specs.PoolChecks.{class_at, descriptor_at}
use Rattle.class_model.specs.declared.frame.Frame.{Frame}
use Rattle.class_model.specs.declared.frame.VType.{VType}
use Rattle.class_model.specs.declared.frame.VType.TheVariants.{Object, Uninit}
use Rattle.class_model.specs.declared.descriptor.FieldType.{FieldType}
use Rattle.class_model.specs.declared.descriptor.Kind.{Kind}
use Rattle.class_model.specs.declared.instr.Instr.{Instr}
use Rattle.class_model.specs.declared.instr.Instr.TheVariants.{Nop, Const, Ldc, Ldc2, Load, Store, Iinc, ArrayLoad, ArrayStore, Shuffle, Pure, Divide, FloatAsk, If, If2, IfSame, IfNull, Goto, Table, Lookup, Return, GetStatic, PutStatic, GetField, PutField, Invoke, Dynamic, New, NewArray, NewRefArray, NewMulti, Length, Throw, Cast, InstanceOf, Enter, Leave}
use Rattle.class_model.specs.declared.opcodes.TheConstants.{IFNULL, IF_ACMPEQ}
use Rattle.class_model.specs.declared.pool.Const.{Const as PoolConst}
use Rattle.class_model.specs.declared.pool.Const.TheVariants as consts
use Rattle.class_tree.specs.Headers.{Classes, Headers, Name}
use Rattle.flow_code.specs.FlatCode.{point_at}
use Rattle.flow_code.specs.ReadTypes.{class_of_site, read_frame, read_type}
use Rattle.flow_code.specs.declared.point.FlatInstr.{FlatInstr}
use Rattle.flow_code.specs.declared.point.FlatInstr.TheVariants.{NullTest, Of}
use Rattle.flow_code.specs.declared.point.Point.{Point}
use Rattle.member_link.specs.Bodies.{item_falls_through, item_instr, item_row}
use Rattle.member_link.specs.BodyTyping.{MayGoTo}
use Rattle.member_link.specs.Machine.CallSteps.{is_object_init}
use Rattle.member_link.specs.References.{Reference}
use Rattle.member_link.specs.Rows.FrameAssignability.{AreAssignable}
use Rattle.member_link.specs.Rows.Readings.{row_by}
use Rattle.member_link.specs.Rows.Row.{Row, access_aside, plain, row_frame, stack_behind}
use Rattle.member_link.specs.Rows.ShuffleRows.{Form, form_in, forms_of}
use Rattle.member_link.specs.Scope.{Scope}
use Rattle.member_link.specs.Signatures.{result_of}
use Rattle.plan_flow.specs.Must.{row_of_point}
use Rattle.plan_flow.specs.PlanRows.{RowEdge, Source, from_field, from_new, from_place, in_each_state, plain_value}
use Rattle.plan_flow.specs.PlanScope.{PlanScope, field_of, member_of, pool_of, site_at, stack_types}
use Rattle.plan_flow.specs.PlanSlots.{edge_stack}
use Rattle.plan_flow.specs.PlanTable.{call_row, cast_row, dynamic_row, edges_of, falls_on, get_field_row, held_from, jump_edges, moving, new_row, next_edges, null_row, picked_operands, put_field_row, result_given, return_row, row_at, same_row, shuffle_row, targets_at, thrown_edges}
use Rattle.plan_flow.specs.declared.edge.EdgeKind.{EdgeKind}
use Rattle.plan_flow.specs.declared.edge.EdgeKind.TheVariants as edges
use Rattle.same_runs.specs.Flats.{flat_item, host_scope, instr_scope}
use Rattle.same_runs.specs.TypedFlats.{MayGoToPoint, TypesFlat, read_at, reading_of, reading_of_new}
use Rattle.written_runs.specs.Laws.UncoveredPlans.{GivesOnTop}

-- ---- sources that are no new object

abbrev is_new : Source → Bool
is_new plain_value = false
is_new (from_place place) = false
is_new (from_field place field) = false
is_new from_new = true

abbrev AreOld : List Source → Type 0
AreOld sources = AllByRecursion (λ (source : Source). is_new source ≡ false) sources

old_held : (first count : ℕ) → AreOld (held_from first count)
old_held first zero = tt
old_held first (suc count) = (refl, old_held (first + 1) count)

old_both : (front back : List Source) → AreOld front → AreOld back → AreOld (front ++ back)
old_both [] back old also = also
old_both (source ∷ front) back old also = (old.0, old_both front back old.1 also)

none_new : (sources : List Source) (place : ℕ) → AreOld sources → slice_get sources place ≡ Some from_new → ⊥
none_new sources place old is =
    false≢true (sym (at_index (λ (source : Source). is_new source ≡ false) sources place from_new old is))

old_moving : (f : Frame) (takes : ℕ) (gives : List Source) → AreOld gives → AreOld (moving f takes gives).stack
old_moving f takes gives old = old_both (held_from (length f.locals) (length f.stack - takes)) gives (old_held (length f.locals) (length f.stack - takes)) old

-- ---- rows

-- a row that makes no object, or that of a new
data MakesNone (s : PlanScope) (at : ℕ) (f : Frame) (instr : FlatInstr) : Type 0 where
  makes_none : AreOld (row_at s at f instr).stack → MakesNone s at f instr
  makes_one : (class index site : ℕ) → instr ≡ Of class (New index) → site_at s.flat at ≡ Some site → MakesNone s at f instr

abbrev plain_one : List Source
plain_one = plain_value ∷ []

old_plain : AreOld (plain_value ∷ [])
old_plain = (refl, tt)

old_picked : (f : Frame) (takes : ℕ) (numbers : List ℕ) → AreOld (picked_operands f takes numbers)
old_picked f takes [] = tt
old_picked f takes (number ∷ numbers) = (refl, old_picked f takes numbers)

old_shuffle : (f : Frame) (form : Option Form) → AreOld (shuffle_row f form).stack
old_shuffle f None = old_moving f 0 [] tt
old_shuffle f (Some form) =
    old_moving f (length form.takes) (picked_operands f (length form.takes) form.gives) (old_picked f (length form.takes) form.gives)

old_null : (f : Frame) (opcode : ℕ) → AreOld (null_row f opcode).stack
old_null f opcode = by (opcode == IFNULL) refl where
  by : (b : Bool) → (opcode == IFNULL) ≡ b → AreOld (null_row f opcode).stack
  by true e = rw (e) (old_moving f 1 [] tt)
  by false e = rw (e) (old_moving f 1 [] tt)

old_same : (f : Frame) (opcode : ℕ) → AreOld (same_row f opcode).stack
old_same f opcode = by (opcode == IF_ACMPEQ) refl where
  by : (b : Bool) → (opcode == IF_ACMPEQ) ≡ b → AreOld (same_row f opcode).stack
  by true e = rw (e) (old_moving f 2 [] tt)
  by false e = rw (e) (old_moving f 2 [] tt)

old_return : (f : Frame) (kind : Option Kind) → AreOld (return_row f kind).stack
old_return f None = old_moving f 0 [] tt
old_return f (Some kind) = old_moving f 1 [] tt

old_result : (result : Option FieldType) → AreOld (result_given result)
old_result None = tt
old_result (Some type) = (refl, tt)

old_get : (s : PlanScope) (f : Frame) (field : Option Reference) → AreOld (get_field_row s f field).stack
old_get s f None = old_moving f 1 plain_one old_plain
old_get s f (Some field) = old_both (held_from (length f.locals) (length f.stack - 1)) _ (old_held (length f.locals) (length f.stack - 1)) (refl, tt)

old_put : (s : PlanScope) (f : Frame) (field : Option Reference) → AreOld (put_field_row s f field).stack
old_put s f None = old_moving f 2 [] tt
old_put s f (Some field) = old_moving f 2 [] tt

old_cast : (f : Frame) (name : Option Name) → AreOld (cast_row f name).stack
old_cast f None = old_moving f 1 plain_one old_plain
old_cast f (Some name) = old_both (held_from (length f.locals) (length f.stack - 1)) _ (old_held (length f.locals) (length f.stack - 1)) (refl, tt)

old_call : (f : Frame) (opcode : ℕ) (method : Option Reference) → AreOld (call_row f opcode method).stack
old_call f opcode None = old_moving f 0 [] tt
old_call f opcode (Some method) = by (is_object_init method) refl where
  by : (b : Bool) → is_object_init method ≡ b → AreOld (call_row f opcode (Some method)).stack
  by true e = rw (e) (old_moving f 1 [] tt)
  by false e = rw (e) (old_moving f _ (result_given (result_of method.desc)) (old_result (result_of method.desc)))

old_dynamic : (pool : Constants) (f : Frame) (constant : Option PoolConst) → AreOld (dynamic_row pool f constant).stack
old_dynamic pool f None = old_moving f 0 [] tt
old_dynamic pool f (Some (consts.InvokeDynamic bootstrap member)) = by (descriptor_at pool member) refl where
  by : (desc : Option (List ℕ)) → descriptor_at pool member ≡ desc
      → AreOld (dynamic_row pool f (Some (consts.InvokeDynamic bootstrap member))).stack
  by None is = rw (is) (old_moving f 0 [] tt)
  by (Some desc) is = rw (is) (old_moving f _ (result_given (result_of desc)) (old_result (result_of desc)))
old_dynamic pool f (Some (consts.Utf8 text)) = old_moving f 0 [] tt
old_dynamic pool f (Some (consts.Integer number)) = old_moving f 0 [] tt
old_dynamic pool f (Some (consts.Float bits)) = old_moving f 0 [] tt
old_dynamic pool f (Some (consts.Long number)) = old_moving f 0 [] tt
old_dynamic pool f (Some (consts.Double bits)) = old_moving f 0 [] tt
old_dynamic pool f (Some (consts.Class name)) = old_moving f 0 [] tt
old_dynamic pool f (Some (consts.String text)) = old_moving f 0 [] tt
old_dynamic pool f (Some (consts.Fieldref class member)) = old_moving f 0 [] tt
old_dynamic pool f (Some (consts.Methodref class member)) = old_moving f 0 [] tt
old_dynamic pool f (Some (consts.InterfaceMethodref class member)) = old_moving f 0 [] tt
old_dynamic pool f (Some (consts.NameAndType name desc)) = old_moving f 0 [] tt
old_dynamic pool f (Some (consts.MethodHandle kind index)) = old_moving f 0 [] tt
old_dynamic pool f (Some (consts.MethodType desc)) = old_moving f 0 [] tt

old_new : (s : PlanScope) (at : ℕ) (f : Frame) (class index : ℕ) → MakesNone s at f (Of class (New index))
old_new s at f class index = by (site_at s.flat at) refl where
  by : (site : Option ℕ) → site_at s.flat at ≡ site → MakesNone s at f (Of class (New index))
  by None none = makes_none (rw (none) (old_moving f 0 plain_one old_plain))
  by (Some site) some = makes_one class index site refl some

old_instr : (s : PlanScope) (at : ℕ) (f : Frame) (class : ℕ) (instr : Instr) → MakesNone s at f (Of class instr)
old_instr s at f class Nop = makes_none (old_moving f 0 [] tt)
old_instr s at f class (Const imm) = makes_none (old_moving f 0 plain_one old_plain)
old_instr s at f class (Ldc index) = makes_none (old_moving f 0 plain_one old_plain)
old_instr s at f class (Ldc2 index) = makes_none (old_moving f 0 plain_one old_plain)
old_instr s at f class (Load kind local) = makes_none (old_moving f 0 (from_place local ∷ []) (refl, tt))
old_instr s at f class (Store kind local) = makes_none (old_moving f 1 [] tt)
old_instr s at f class (Iinc local by) = makes_none (old_moving f 0 [] tt)
old_instr s at f class (ArrayLoad opcode) = makes_none (old_moving f 2 plain_one old_plain)
old_instr s at f class (ArrayStore opcode) = makes_none (old_moving f 3 [] tt)
old_instr s at f class (Pure opcode) = makes_none (old_moving f _ plain_one old_plain)
old_instr s at f class (Divide opcode) = makes_none (old_moving f _ plain_one old_plain)
old_instr s at f class (FloatAsk opcode) = makes_none (old_moving f _ plain_one old_plain)
old_instr s at f class (If opcode target) = makes_none (old_moving f 1 [] tt)
old_instr s at f class (If2 opcode target) = makes_none (old_moving f 2 [] tt)
old_instr s at f class (Goto target) = makes_none (old_moving f 0 [] tt)
old_instr s at f class (Table low other targets) = makes_none (old_moving f 1 [] tt)
old_instr s at f class (Lookup other pairs) = makes_none (old_moving f 1 [] tt)
old_instr s at f class (GetStatic index) = makes_none (old_moving f 0 plain_one old_plain)
old_instr s at f class (PutStatic index) = makes_none (old_moving f 1 [] tt)
old_instr s at f class (NewArray code) = makes_none (old_moving f 1 plain_one old_plain)
old_instr s at f class (NewRefArray index) = makes_none (old_moving f 1 plain_one old_plain)
old_instr s at f class (NewMulti index dimensions) = makes_none (old_moving f dimensions plain_one old_plain)
old_instr s at f class Length = makes_none (old_moving f 1 plain_one old_plain)
old_instr s at f class Throw = makes_none (old_moving f 1 [] tt)
old_instr s at f class (InstanceOf index) = makes_none (old_moving f 1 plain_one old_plain)
old_instr s at f class Enter = makes_none (old_moving f 1 [] tt)
old_instr s at f class Leave = makes_none (old_moving f 1 [] tt)
old_instr s at f class (Shuffle opcode) = makes_none (old_shuffle f (form_in (forms_of opcode) f.stack))
old_instr s at f class (IfSame opcode target) = makes_none (old_same f opcode)
old_instr s at f class (IfNull opcode target) = makes_none (old_null f opcode)
old_instr s at f class (Return kind) = makes_none (old_return f kind)
old_instr s at f class (GetField index) = makes_none (old_get s f (field_of s class index))
old_instr s at f class (PutField index) = makes_none (old_put s f (field_of s class index))
old_instr s at f class (Invoke opcode index count) = makes_none (old_call f opcode (member_of s class index))
old_instr s at f class (Dynamic index) =
    makes_none (old_dynamic (pool_of s class) f (constant_at (pool_of s class) index))
old_instr s at f class (New index) = old_new s at f class index
old_instr s at f class (Cast index) = makes_none (old_cast f (class_at (pool_of s class) index))

old_row : (s : PlanScope) (at : ℕ) (f : Frame) (instr : FlatInstr) → MakesNone s at f instr
old_row s at f (Of class instr) = old_instr s at f class instr
old_row s at f (NullTest local) = makes_none (old_moving f 0 [] tt)

-- ---- a new

held_count : (first count : ℕ) → length (held_from first count) ≡ count
held_count first zero = refl
held_count first (suc count) = ap suc (held_count (first + 1) count)

-- what a new gives is last
last_new : (front : List Source) (place : ℕ) → AreOld front → slice_get (front ++ from_new ∷ []) place ≡ Some from_new → place ≡ length front
last_new [] zero old is = refl
last_new [] (suc place) old is = absurd (none-some from_new is)
last_new (source ∷ front) zero old is =
    absurd (false≢true (sym old.0 ∙ ap is_new (same_Some source from_new is)))
last_new (source ∷ front) (suc place) old is = ap suc (last_new front place old.1 is)

-- its edges: only the one to the next point
next_edge : (s : PlanScope) (at number : ℕ) (point : Point) (class index site : ℕ) (edge : RowEdge)
    → point.instr ≡ Of class (New index)
    → site_at s.flat at ≡ Some site
    → slice_get (edges_of at point (row_of_point s at point)) number ≡ Some edge
    → (edge.by ≡ edges.Next) × (edge.to ≡ at + 1)
next_edge s at number point class index site edge is_new_instr is_site is = by number (sym same ∙ is) where
  one : RowEdge
  one = record { by = edges.Next; to = at + 1; guard = in_each_state }

  same : slice_get (edges_of at point (row_of_point s at point)) number ≡ slice_get (one ∷ []) number
  same =
      ap (λ (instr : FlatInstr). slice_get
      (next_edges at (row_at s at point.typed instr) (falls_on instr)
      ++ jump_edges (row_at s at point.typed instr) 0 (targets_at instr)
      ++ thrown_edges (row_at s at point.typed instr).throws point.handlers) number) is_new_instr
      ∙ ap (λ (of : Option ℕ). slice_get
      (next_edges at (new_row point.typed of) true
      ++ jump_edges (new_row point.typed of) 0 []
      ++ thrown_edges (new_row point.typed of).throws point.handlers) number) is_site

  by : (n : ℕ) → slice_get (one ∷ []) n ≡ Some edge → (edge.by ≡ edges.Next) × (edge.to ≡ at + 1)
  by zero found = let e = same_Some one edge found in (ap (λ (x : RowEdge). x.by) (sym e), ap (λ (x : RowEdge). x.to) (sym e))
  by (suc n) found = absurd (none-some edge found)

-- types that are assignable are as many
assignable_many : (headers : Headers) (lows highs : List VType) → AreAssignable headers lows highs → length highs ≡ length lows
assignable_many headers [] [] are = refl
assignable_many headers [] (high ∷ highs) are = absurd are
assignable_many headers (low ∷ lows) [] are = absurd are
assignable_many headers (low ∷ lows) (high ∷ highs) are = ap suc (assignable_many headers lows highs are.1)

-- ---- the whole

pub gives_on_top : (s : PlanScope) (classes : Classes) (scope : Scope) → TypesFlat classes scope s.flat → GivesOnTop s
gives_on_top s classes scope typed = record { each = each } where
  each : (at number place : ℕ) (point : Point) (edge : RowEdge)
      → point_at s.flat at ≡ Some point
      → slice_get (edges_of at point (row_of_point s at point)) number ≡ Some edge
      → slice_get (edge_stack (row_of_point s at point) edge.by) place ≡ Some from_new
      → length (stack_types s.flat edge.to) ≤ suc place
  each at number place point edge is_point is_edge is = by (old_row s at point.typed point.instr) where
    f : Frame
    f = point.typed

    read : Frame
    read = read_frame s.flat point.typed

    -- types that flow on to the next point
    next_many : (row : Row) → row.goes_on ≡ true → length (stack_behind read row) ≤ suc (length f.stack)
        → IfSome (row_frame read row) (λ frame. MayGoToPoint classes scope s.flat (Some frame) (at + 1))
        → length (stack_types s.flat (at + 1)) ≤ suc (length f.stack)
    next_many row on short flows = of_next (point_at s.flat (at + 1)) refl where
      behind : Frame
      behind = record { locals = row.locals; stack = stack_behind read row }

      goes : MayGoToPoint classes scope s.flat (Some behind) (at + 1)
      goes =
          subst (λ (found : Option Frame). IfSome found (λ frame. MayGoToPoint classes scope s.flat (Some frame) (at + 1)))
          (ap (λ (b : Bool). if b then Some behind else None) on) flows

      of_next : (next : Option Point) → point_at s.flat (at + 1) ≡ next → length (stack_types s.flat (at + 1)) ≤ suc (length f.stack)
      of_next None none = let empty : length (stack_types s.flat (at + 1)) ≡ 0 = rw (none) refl in omega (arith, empty)
      of_next (Some next) some =
          let types : length (stack_types s.flat (at + 1)) ≡ length next.typed.stack = rw (some) refl in
          let mapped = length-map next.typed.stack (read_type s.flat) in
          omega (arith, short, types, mapped, many) where
            there : read_at s.flat (at + 1) ≡ Some (read_frame s.flat next.typed)
            there = rw (some) refl

            assignable : MayGoTo (host_scope classes scope s.flat) (Some behind) (Some (read_frame s.flat next.typed))
            assignable = subst (MayGoTo (host_scope classes scope s.flat) (Some behind)) there goes

            many : length (map (read_type s.flat) next.typed.stack) ≡ length (stack_behind read row)
            many =
                assignable_many (host_scope classes scope s.flat).headers (stack_behind read row) (map (read_type s.flat) next.typed.stack)
                assignable.stack

    -- a row that takes nothing and gives one
    one_more : (type : VType) → length (take (length read.stack - 0) read.stack ++ type ∷ []) ≤ suc (length f.stack)
    one_more type =
        let all = length-append (take (length read.stack - 0) read.stack) (type ∷ []) in
        let taken = length-take-le (length read.stack - 0) read.stack (omega arith) in
        let mapped = length-map f.stack (read_type s.flat) in
        omega (arith, all, taken, mapped)

    of_new : (class index : ℕ) → point.instr ≡ Of class (New index) → length (stack_types s.flat (at + 1)) ≤ suc (length f.stack)
    of_new class index is_instr = of_reading (class_of_site s.flat.sites at) refl where
      item : Row
      item = item_row (instr_scope classes scope s.flat (Of class (New index))) read at (item_instr (New index))

      flows : IfSome (row_frame read (row_by (reading_of_new (class_of_site s.flat.sites at)) read item))
          (λ frame. MayGoToPoint classes scope s.flat (Some frame) (at + 1))
      flows =
          subst (λ (instr : FlatInstr). IfSome
          (if item_falls_through (flat_item instr)
          then row_frame read
          (row_by (reading_of classes s.flat at point.typed instr) read
          (item_row (instr_scope classes scope s.flat instr) read at (flat_item instr)))
          else None)
          (λ frame. MayGoToPoint classes scope s.flat (Some frame) (at + 1))) is_instr (typed.points at point is_point).next

      of_reading : (name : Option Name) → class_of_site s.flat.sites at ≡ name
          → length (stack_types s.flat (at + 1)) ≤ suc (length f.stack)
      of_reading None none =
          next_many (access_aside item) refl (one_more (Uninit at))
          (subst (λ (name : Option Name). IfSome (row_frame read (row_by (reading_of_new name) read item))
          (λ frame. MayGoToPoint classes scope s.flat (Some frame) (at + 1))) none flows)
      of_reading (Some name) some =
          next_many (plain read [] (Object name ∷ [])) refl (one_more (Object name))
          (subst (λ (name : Option Name). IfSome (row_frame read (row_by (reading_of_new name) read item))
          (λ frame. MayGoToPoint classes scope s.flat (Some frame) (at + 1))) some flows)

    old_along : (by : EdgeKind) → AreOld (row_of_point s at point).stack → AreOld (edge_stack (row_of_point s at point) by)
    old_along edges.Next old = old
    old_along (edges.Jump jump) old = old
    old_along (edges.Handler handler) old = old_plain

    by : MakesNone s at point.typed point.instr → length (stack_types s.flat edge.to) ≤ suc place
    by (makes_none old) = absurd (none_new (edge_stack (row_of_point s at point) edge.by) place (old_along edge.by old) is)
    by (makes_one class index site is_instr is_site) =
        let next = next_edge s at number point class index site edge is_instr is_site is_edge in
        let held = held_from (length f.locals) (length f.stack - 0) in
        let stack_is : (row_of_point s at point).stack ≡ held ++ from_new ∷ [] = rw (is_instr) (rw (is_site) refl) in
        let last =
        last_new held place (old_held (length f.locals) (length f.stack - 0))
        (sym (ap (λ (sources : List Source). slice_get sources place) stack_is)
        ∙ sym (ap (λ (kind : EdgeKind). slice_get (edge_stack (row_of_point s at point) kind) place) next.0) ∙ is) in
        let count = held_count (length f.locals) (length f.stack - 0) in
        let short = of_new class index is_instr in
        let to : length (stack_types s.flat edge.to) ≡ length (stack_types s.flat (at + 1)) =
        ap (λ (n : ℕ). length (stack_types s.flat n)) next.1 in
        omega (arith, last, count, short, to)
