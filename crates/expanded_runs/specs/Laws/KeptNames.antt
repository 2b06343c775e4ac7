-- A row keeps what is known of the names of classes and arrays in a frame, where it is known of the names of its constants, of components of arrays
-- and of arrays of primitive types.
use Rattle.std.proofs.Common.{◌≡◌, ◌+◌, ◌-◌, ℕ, zero, suc, Bool, true, false, List, [], ◌∷◌, ◌++◌, length, map, take, drop, replicate, slice_get, Option, Some, None, if◌then◌else◌, refl, subst}
use Rattle.std.proofs.lemmas.Option.{same_Some}
use Rattle.std.specs.Prelude.{◌==◌, ◌&&◌, bytes_eq, nat_le, nat_lt, slice_set}
use Rattle.class_model.specs.Frames.{is_wide, units}
use Rattle.class_model.specs.Names.{init}
use Rattle.class_model.specs.Pool.{constant_at}
use Rattle.class_model.specs.PoolChecks.{class_at, descriptor_at}
use Rattle.class_model.specs.declared.descriptor.Kind.{Kind}
use Rattle.class_model.specs.declared.descriptor.Kind.TheVariants as kinds
use Rattle.class_model.specs.declared.frame.Frame.{Frame}
use Rattle.class_model.specs.declared.frame.VType.{VType}
use Rattle.class_model.specs.declared.frame.VType.TheVariants as types
use Rattle.class_model.specs.declared.instr.Imm.{Imm}
use Rattle.class_model.specs.declared.instr.Imm.TheVariants as imms
use Rattle.class_model.specs.declared.instr.Instr.{Instr}
use Rattle.class_model.specs.declared.instr.Instr.TheVariants.{Nop, Const, Ldc, Ldc2, Load, Store, Iinc, ArrayLoad, ArrayStore, Shuffle, Pure, Divide, FloatAsk, If, If2, IfSame, IfNull, Goto, Table, Lookup, Return, GetStatic, PutStatic, GetField, PutField, Invoke, Dynamic, New, NewArray, NewRefArray, NewMulti, Length, Throw, Cast, InstanceOf, Enter, Leave}
use Rattle.class_model.specs.declared.opcodes.TheConstants.{AALOAD, IALOAD, AASTORE, IASTORE, IFEQ, IFLE, IF_ICMPEQ, IF_ICMPLE, IF_ACMPEQ, IF_ACMPNE, IFNULL, IFNONNULL, INVOKESPECIAL, INVOKESTATIC}
use Rattle.class_model.specs.declared.pool.Const.{Const as Constant}
use Rattle.class_model.specs.declared.pool.Const.TheVariants as consts
use Rattle.class_tree.specs.Headers.{Name}
use Rattle.class_tree.specs.Names.{throwable}
use Rattle.expanded_runs.specs.NamedFrames.{FrameHas, IsKeptName, PoolHas, TypeHas, TypesHave}
use Rattle.member_link.specs.References.{Reference}
use Rattle.member_link.specs.RowScope.{RowScope}
use Rattle.member_link.specs.Rows.ArithmeticRows.{Operation, divide_operations, float_operations, operation_in, operation_row, pure_operations, type_of_kind}
use Rattle.member_link.specs.Rows.ArrayRows.{Elements, array_load_row, array_of, component_type, elements_from, elements_load_row, elements_of, elements_store_row, made_row, need_of_value, primitive_array}
use Rattle.member_link.specs.Rows.LocalRows.{const_row, cut_before, load_row, local_entry, store_row, stored, type_of_imm, with_units}
use Rattle.member_link.specs.Rows.MemberRows.{PassesMethod, argument_needs, call_row, dynamic_row, get_field_row, get_static_row, init_row, initialised_type, instance_row, put_field_row, put_static_row, receiver, result_types, return_row, special_row, static_row}
use Rattle.member_link.specs.Rows.Operands.{AllFit, Need, array_among, array_of_references, assignable_or_this, assignable_to, initialised, lowest_of, nothing, of_kind, some_array, topmost, under}
use Rattle.member_link.specs.Rows.Row.{Row, either, no_row, plain, stack_behind}
use Rattle.member_link.specs.Rows.ShuffleRows.{Form, form_in, form_row, forms_of, need_of, picked}
use Rattle.member_link.specs.Rows.Table.{cast_row, jump_row, row_of, without_older}
use Rattle.member_link.specs.Signatures.{field_type, reference_of, result_of}

-- ---- lists of types

-- a property of one thing or the other, by a test
pub either_has : {A : Type 0} (Holds : A → Type 0) (test : Bool) (one other : A) → Holds one → Holds other → Holds (if test then one else other)
either_has Holds true one other h k = h
either_has Holds false one other h k = k

module _ (Has : Name → Type 0) where
  pub named_append : (entries others : List VType) → TypesHave Has entries → TypesHave Has others → TypesHave Has (entries ++ others)
  named_append [] others one two = two
  named_append (type ∷ entries) others one two = (one.0, named_append entries others one.1 two)

  pub named_take : (count : ℕ) (entries : List VType) → TypesHave Has entries → TypesHave Has (take count entries)
  named_take zero entries named = tt
  named_take (suc count) [] named = tt
  named_take (suc count) (type ∷ entries) named = (named.0, named_take count entries named.1)

  pub named_drop : (count : ℕ) (entries : List VType) → TypesHave Has entries → TypesHave Has (drop count entries)
  named_drop zero entries named = named
  named_drop (suc count) [] named = tt
  named_drop (suc count) (type ∷ entries) named = named_drop count entries named.1

  pub named_set : (entries : List VType) (at : ℕ) (type : VType) → TypesHave Has entries → TypeHas Has type → TypesHave Has (slice_set entries at type)
  named_set [] at type named is = tt
  named_set (first ∷ entries) zero type named is = (is, named.1)
  named_set (first ∷ entries) (suc at) type named is = (named.0, named_set entries at type named.1 is)

  pub named_get : (entries : List VType) (at : ℕ) (type : VType) → TypesHave Has entries → slice_get entries at ≡ Some type → TypeHas Has type
  named_get [] at type named is = absurd cc
  named_get (first ∷ entries) zero type named is = subst (TypeHas Has) (same_Some first type is) named.0
  named_get (first ∷ entries) (suc at) type named is = named_get entries at type named.1 is

  pub named_map : (change : VType → VType) → ((type : VType) → TypeHas Has type → TypeHas Has (change type))
      → (entries : List VType) → TypesHave Has entries
      → TypesHave Has (map change entries)
  named_map change keeps [] named = tt
  named_map change keeps (type ∷ entries) named = (keeps type named.0, named_map change keeps entries named.1)

  -- ---- operands

  pub lowest_named : (count : ℕ) (stack : List VType) → TypesHave Has stack → TypeHas Has (lowest_of count stack)
  lowest_named count stack named = by (topmost count stack) refl (named_drop (length stack - count) stack named) where
    by : (entries : List VType) → topmost count stack ≡ entries → TypesHave Has entries → TypeHas Has (lowest_of count stack)
    by [] are all = rw are tt
    by (first ∷ rest) are all = rw are (all.0)

  -- ---- stores

  cut_named : (at : ℕ) (locals : List VType) → TypesHave Has locals → TypesHave Has (cut_before at locals)
  cut_named zero locals named = named
  cut_named (suc at) locals named = by (slice_get locals at) refl where
    by : (found : Option VType) → slice_get locals at ≡ found → TypesHave Has (cut_before (suc at) locals)
    by None is = rw is named
    by (Some type) is =
        rw is (either_has (TypesHave Has) (is_wide type) (slice_set locals at types.Top) locals (named_set locals at types.Top named tt) named)

  with_named : (at : ℕ) (written locals : List VType) → TypesHave Has written → TypesHave Has locals → TypesHave Has (with_units at written locals)
  with_named at [] locals are all = all
  with_named at (type ∷ written) locals are all = with_named (at + 1) written (slice_set locals at type) are.1 (named_set locals at type all are.0)

  pub units_named : (type : VType) → TypeHas Has type → TypesHave Has (units type)
  units_named types.Long is = (tt, (tt, tt))
  units_named types.Double is = (tt, (tt, tt))
  units_named types.Top is = (tt, tt)
  units_named types.Int is = (tt, tt)
  units_named types.Float is = (tt, tt)
  units_named types.Null is = (tt, tt)
  units_named types.UninitThis is = (tt, tt)
  units_named (types.Object name) is = (is, tt)
  units_named (types.Uninit at) is = (tt, tt)

  pub stored_named : (at : ℕ) (type : VType) (locals : List VType) → TypeHas Has type → TypesHave Has locals → TypesHave Has (stored at type locals)
  stored_named at type locals is named = with_named at (units type) (cut_before at locals) (units_named type is) (cut_named at locals named)

-- ---- rows

-- What is asked of an array whose component is loaded, by what another scope reads.
abbrev pub LoadFits : RowScope → Frame → Instr → Type 0
LoadFits t f (ArrayLoad opcode) = AllFit t (array_load_row f opcode).takes (topmost (length (array_load_row f opcode).takes) f.stack)
LoadFits t f other = Unit {0}

pub load_fits : (s : RowScope) (f : Frame) (at : ℕ) (instr : Instr)
    → AllFit s (row_of s f at instr).takes (topmost (length (row_of s f at instr).takes) f.stack)
    → LoadFits s f instr
load_fits s f at (ArrayLoad opcode) fit = fit
load_fits s f at other fit = tt

module _ (Has : Name → Type 0) (closed : IsKeptName Has) (s t : RowScope) (f : Frame) (own_has : Has s.own.name) (named : FrameHas Has f) where
  -- the frame behind a row
  abbrev pub Keeps : Row → Type 0
  Keeps row = TypesHave Has row.locals × TypesHave Has (stack_behind f row)

  kept : (takes : List Need) (gives : List VType) → TypesHave Has gives → Keeps (plain f takes gives)
  kept takes gives are =
      (named.locals, named_append Has (under (length takes) f.stack) gives (named_take Has (length f.stack - length takes) f.stack named.stack) are)

  nothing_kept : (takes : List Need) → Keeps (plain f takes [])
  nothing_kept takes = kept takes [] tt

  none_kept : Keeps (no_row f)
  none_kept = nothing_kept (nothing ∷ [])

  keeps_either : (test : Bool) (row other : Row) → Keeps row → Keeps other → Keeps (either test row other)
  keeps_either true row other one two = one
  keeps_either false row other one two = two

  top_named : (count : ℕ) → TypesHave Has (topmost count f.stack)
  top_named count = named_drop Has (length f.stack - count) f.stack named.stack

  -- ---- locals

  imm_named : (imm : Imm) → TypeHas Has (type_of_imm imm)
  imm_named imms.Null = tt
  imm_named (imms.Int number) = tt
  imm_named (imms.Long number) = tt
  imm_named (imms.Float bits) = tt
  imm_named (imms.Double bits) = tt

  load_keeps : (kind : Kind) (at : ℕ) → Keeps (load_row f kind at)
  load_keeps kind at = kept [] (local_entry f.locals at) (by (slice_get f.locals at) refl) where
    by : (entry : Option VType) → slice_get f.locals at ≡ entry → TypesHave Has (local_entry f.locals at)
    by None is = rw is tt
    by (Some type) is = rw is ((named_get Has f.locals at type named.locals is, tt))

  store_keeps : (kind : Kind) (at : ℕ) → Keeps (store_row f kind at)
  store_keeps kind at =
      (stored_named Has at (lowest_of 1 f.stack) f.locals (lowest_named Has 1 f.stack named.stack) named.locals, (nothing_kept (of_kind kind ∷ [])).1)

  -- ---- arrays

  abbrev HasNamedElements : Option Elements → Type 0
  HasNamedElements None = Unit {0}
  HasNamedElements (Some e) = TypeHas Has e.type

  elements_of_named : (number : ℕ) → HasNamedElements (elements_of number)
  elements_of_named number =
      either_has HasNamedElements (number == 0) _ _ tt
      (either_has HasNamedElements (number == 1) _ _ tt
      (either_has HasNamedElements (number == 2) _ _ tt
      (either_has HasNamedElements (number == 3) _ _ tt
      (either_has HasNamedElements (number == 5) _ _ tt
      (either_has HasNamedElements (number == 6) _ _ tt
      (either_has HasNamedElements (number == 7) _ _ tt tt))))))

  elements_named : (first opcode : ℕ) → HasNamedElements (elements_from first opcode)
  elements_named first opcode =
      either_has HasNamedElements (nat_lt opcode first) None (elements_of (opcode - first)) tt (elements_of_named (opcode - first))

  elements_load_keeps : (found : Option Elements) → HasNamedElements found → Keeps (elements_load_row f found)
  elements_load_keeps None is = none_kept
  elements_load_keeps (Some e) is = kept (array_among e.arrays ∷ of_kind kinds.Int ∷ []) (e.type ∷ []) (is, tt)

  elements_store_keeps : (found : Option Elements) → Keeps (elements_store_row f found)
  elements_store_keeps None = none_kept
  elements_store_keeps (Some e) = nothing_kept (array_among e.arrays ∷ of_kind kinds.Int ∷ need_of_value e.type ∷ [])

  -- the component of an array of references
  component_named : AllFit t (array_of_references ∷ of_kind kinds.Int ∷ []) (topmost 2 f.stack) → TypeHas Has (component_type (lowest_of 2 f.stack))
  component_named fit = by (topmost 2 f.stack) refl fit (top_named 2) where
    of_type : (type : VType) → AllFit t (array_of_references ∷ []) (type ∷ []) → TypeHas Has type → TypeHas Has (component_type type)
    of_type types.Null fits is = tt
    of_type (types.Object name) fits is = closed.component name fits.0.0 fits.0.1 is
    of_type other fits is = absurd fits.0

    by : (entries : List VType) → topmost 2 f.stack ≡ entries → AllFit t (array_of_references ∷ of_kind kinds.Int ∷ []) entries
        → TypesHave Has entries
        → TypeHas Has (component_type (lowest_of 2 f.stack))
    by [] are fits all = absurd fits
    by (first ∷ rest) are fits all = rw are (of_type first (fits.0, tt) all.0)

  load_element_keeps : (opcode : ℕ) → AllFit t (array_load_row f opcode).takes (topmost (length (array_load_row f opcode).takes) f.stack)
      → Keeps (array_load_row f opcode)
  load_element_keeps opcode fit = by (opcode == AALOAD) fit where
    by : (test : Bool)
        → AllFit t (either test (plain f (array_of_references ∷ of_kind kinds.Int ∷ []) (component_type (lowest_of 2 f.stack) ∷ []))
        (elements_load_row f (elements_from IALOAD opcode))).takes
        (topmost (length (either test (plain f (array_of_references ∷ of_kind kinds.Int ∷ []) (component_type (lowest_of 2 f.stack) ∷ []))
        (elements_load_row f (elements_from IALOAD opcode))).takes) f.stack)
        → Keeps (either test (plain f (array_of_references ∷ of_kind kinds.Int ∷ []) (component_type (lowest_of 2 f.stack) ∷ []))
        (elements_load_row f (elements_from IALOAD opcode)))
    by true fit = kept (array_of_references ∷ of_kind kinds.Int ∷ []) (component_type (lowest_of 2 f.stack) ∷ []) (component_named fit, tt)
    by false fit = elements_load_keeps (elements_from IALOAD opcode) (elements_named IALOAD opcode)

  made_keeps : (counts : ℕ) (name : Option Name) → ((n : Name) → name ≡ Some n → Has n) → Keeps (made_row f counts name)
  made_keeps counts None there = none_kept
  made_keeps counts (Some name) there = kept (replicate counts (of_kind kinds.Int)) (types.Object name ∷ []) (there name refl, tt)

  -- ---- moves of entries

  picked_named : (operands : List VType) → TypesHave Has operands → (numbers : List ℕ) → TypesHave Has (picked operands numbers)
  picked_named operands all [] = tt
  picked_named operands all (number ∷ numbers) = by (slice_get operands number) refl (picked_named operands all numbers) where
    by : (entry : Option VType) → slice_get operands number ≡ entry → TypesHave Has (picked operands numbers)
        → TypesHave Has (picked operands (number ∷ numbers))
    by None is rest = rw is rest
    by (Some type) is rest = rw is ((named_get Has operands number type all is, rest))

  form_keeps : (form : Option Form) → Keeps (form_row f form)
  form_keeps None = none_kept
  form_keeps (Some form) =
      kept (map need_of form.takes) (picked (topmost (length form.takes) f.stack) form.gives)
      (picked_named (topmost (length form.takes) f.stack) (top_named (length form.takes)) form.gives)

  -- ---- arithmetic and jumps

  kind_named : (kind : Kind) → TypeHas Has (type_of_kind kind)
  kind_named kinds.Int = tt
  kind_named kinds.Long = tt
  kind_named kinds.Float = tt
  kind_named kinds.Double = tt
  kind_named kinds.Ref = tt

  operation_keeps : (operation : Option Operation) → Keeps (operation_row f operation)
  operation_keeps None = none_kept
  operation_keeps (Some o) = kept (map of_kind o.takes) (type_of_kind o.gives ∷ []) (kind_named o.gives, tt)

  jump_keeps : (is_known : Bool) (takes : List Need) → Keeps (jump_row f is_known takes)
  jump_keeps is_known takes = keeps_either is_known (plain f takes []) (no_row f) (nothing_kept takes) none_kept

  return_keeps : (kind : Option Kind) → Keeps (return_row s f kind)
  return_keeps None = nothing_kept []
  return_keeps (Some kind) = nothing_kept (of_kind kind ∷ [])

  -- ---- members

  get_static_keeps : (r : Option Reference)
      → ((one : Reference) → r ≡ Some one → TypesHave Has (field_type one.desc ∷ []))
      → Keeps (get_static_row f r)
  get_static_keeps None there = none_kept
  get_static_keeps (Some r) there = kept [] (field_type r.desc ∷ []) (there r refl)

  put_static_keeps : (r : Option Reference) → Keeps (put_static_row f r)
  put_static_keeps None = none_kept
  put_static_keeps (Some r) = nothing_kept (assignable_to (field_type r.desc) ∷ [])

  get_field_keeps : (r : Option Reference)
      → ((one : Reference) → r ≡ Some one → TypesHave Has (field_type one.desc ∷ []))
      → Keeps (get_field_row s f r)
  get_field_keeps None there = none_kept
  get_field_keeps (Some r) there = kept (assignable_to (types.Object r.class) ∷ []) (field_type r.desc ∷ []) (there r refl)

  put_field_keeps : (r : Option Reference) → Keeps (put_field_row s f r)
  put_field_keeps None = none_kept
  put_field_keeps (Some r) =
      nothing_kept (assignable_or_this (types.Object r.class) ∷ assignable_to (field_type r.desc) ∷ [])

  -- an object that is initialised is one of its class
  new_named : (r : Reference) (at : ℕ) → Has r.class → (type : VType) → TypeHas Has type
      → TypeHas Has (initialised_type s r (types.Uninit at) type)
  new_named r at there (types.Uninit other) is = either_has (TypeHas Has) (other == at) (types.Object r.class) (types.Uninit other) there tt
  new_named r at there types.Top is = is
  new_named r at there types.Int is = is
  new_named r at there types.Float is = is
  new_named r at there types.Long is = is
  new_named r at there types.Double is = is
  new_named r at there types.Null is = is
  new_named r at there types.UninitThis is = is
  new_named r at there (types.Object name) is = is

  this_named : (r : Reference) (type : VType) → TypeHas Has type → TypeHas Has (initialised_type s r types.UninitThis type)
  this_named r types.UninitThis is = own_has
  this_named r types.Top is = is
  this_named r types.Int is = is
  this_named r types.Float is = is
  this_named r types.Long is = is
  this_named r types.Double is = is
  this_named r types.Null is = is
  this_named r (types.Uninit other) is = is
  this_named r (types.Object name) is = is

  initialised_named : (r : Reference) → Has r.class → (object : VType) (type : VType) → TypeHas Has type
      → TypeHas Has (initialised_type s r object type)
  initialised_named r there (types.Uninit at) type is = new_named r at there type is
  initialised_named r there types.UninitThis type is = this_named r type is
  initialised_named r there other type is = is

  init_keeps : (r : Reference) → Has r.class → TypesHave Has (result_types (result_of r.desc)) → Keeps (init_row s f r)
  init_keeps r there result =
      let object = receiver f r.desc in
      let change = initialised_named r there object in
      let row = init_row s f r in (
        named_map Has (initialised_type s r object) change f.locals named.locals,
        named_append Has (map (initialised_type s r object) (under (length row.takes) f.stack)) (result_types (result_of r.desc))
            (named_map Has (initialised_type s r object) change (under (length row.takes) f.stack)
            (named_take Has (length f.stack - length row.takes) f.stack named.stack)) result,
      )

  call_keeps : (opcode : ℕ) (r : Option Reference)
      → ((one : Reference) → r ≡ Some one → Has one.class × TypesHave Has (result_types (result_of one.desc)))
      → Keeps (call_row s f opcode r)
  call_keeps opcode None there = none_kept
  call_keeps opcode (Some r) there =
      let both = there r refl in
      let results = result_types (result_of r.desc) in
      let instance : Keeps (special_row s f r) = kept (assignable_to (types.Object r.class) ∷ argument_needs r.desc) results both.1 in
      let chosen : Keeps (instance_row f r (Unit {0}) (PassesMethod s r (receiver f r.desc))) =
      kept (assignable_to (types.Object r.class) ∷ argument_needs r.desc) results both.1 in
      keeps_either (opcode == INVOKESTATIC) (static_row f r)
      (either (opcode == INVOKESPECIAL) (either (bytes_eq r.name init) (init_row s f r) (special_row s f r))
      (instance_row f r (Unit {0}) (PassesMethod s r (receiver f r.desc)))) (kept (argument_needs r.desc) results both.1)
      (keeps_either (opcode == INVOKESPECIAL) (either (bytes_eq r.name init) (init_row s f r) (special_row s f r))
      (instance_row f r (Unit {0}) (PassesMethod s r (receiver f r.desc)))
      (keeps_either (bytes_eq r.name init) (init_row s f r) (special_row s f r) (init_keeps r both.0 both.1) instance) chosen)

  -- ---- objects

  older_named : (at : ℕ) (type : VType) → TypeHas Has type → TypeHas Has (without_older at type)
  older_named at (types.Uninit other) is = either_has (TypeHas Has) (other == at) types.Top (types.Uninit other) tt tt
  older_named at types.Top is = is
  older_named at types.Int is = is
  older_named at types.Float is = is
  older_named at types.Long is = is
  older_named at types.Double is = is
  older_named at types.Null is = is
  older_named at types.UninitThis is = is
  older_named at (types.Object name) is = is

  cast_keeps : (name : Option Name) → ((n : Name) → name ≡ Some n → Has n) → Keeps (cast_row f name)
  cast_keeps None there = none_kept
  cast_keeps (Some name) there = kept (initialised ∷ []) (types.Object name ∷ []) (there name refl, tt)

  dynamic_keeps : (constant : Option Constant) → ((g : Frame) → TypesHave Has (dynamic_row s g constant).gives) → Keeps (dynamic_row s f constant)
  dynamic_keeps None there = none_kept
  dynamic_keeps (Some (consts.InvokeDynamic bootstrap member)) there = by (descriptor_at s.pool member) refl (there f) where
    by : (desc : Option (List ℕ)) → descriptor_at s.pool member ≡ desc
        → TypesHave Has (dynamic_row s f (Some (consts.InvokeDynamic bootstrap member))).gives
        → Keeps (dynamic_row s f (Some (consts.InvokeDynamic bootstrap member)))
    by None is gives = rw is none_kept
    by (Some desc) is gives = rw is (kept (argument_needs desc) (result_types (result_of desc)) (rw is at gives))
  dynamic_keeps (Some other) there = none_kept

  const_keeps : (constant : Option Constant) → ((g : Frame) → TypesHave Has (const_row g constant).gives) → Keeps (const_row f constant)
  const_keeps None there = none_kept
  const_keeps (Some (consts.Integer n)) there = kept [] _ (there f)
  const_keeps (Some (consts.Float bits)) there = kept [] _ (there f)
  const_keeps (Some (consts.Long n)) there = kept [] _ (there f)
  const_keeps (Some (consts.Double bits)) there = kept [] _ (there f)
  const_keeps (Some (consts.String text)) there = kept [] _ (there f)
  const_keeps (Some (consts.Class name)) there = kept [] _ (there f)
  const_keeps (Some (consts.MethodHandle kind reference)) there = kept [] _ (there f)
  const_keeps (Some (consts.MethodType descriptor)) there = kept [] _ (there f)
  const_keeps (Some other) there = none_kept

  -- The row of each instruction.
  pub row_keeps : (at : ℕ) (instr : Instr) → PoolHas Has s instr
      → LoadFits t f instr
      → Keeps (row_of s f at instr)
  row_keeps at Nop there fit = nothing_kept []
  row_keeps at (Const imm) there fit = kept [] (type_of_imm imm ∷ []) (imm_named imm, tt)
  row_keeps at (Ldc index) there fit = const_keeps (constant_at s.pool index) there
  row_keeps at (Ldc2 index) there fit = const_keeps (constant_at s.pool index) there
  row_keeps at (Load kind unit) there fit = load_keeps kind unit
  row_keeps at (Store kind unit) there fit = store_keeps kind unit
  row_keeps at (Iinc unit by) there fit = nothing_kept []
  row_keeps at (ArrayLoad opcode) there fit = load_element_keeps opcode fit
  row_keeps at (ArrayStore opcode) there fit =
      keeps_either (opcode == AASTORE) (plain f (array_of_references ∷ of_kind kinds.Int ∷ initialised ∷ []) [])
      (elements_store_row f (elements_from IASTORE opcode)) (nothing_kept (array_of_references ∷ of_kind kinds.Int ∷ initialised ∷ []))
      (elements_store_keeps (elements_from IASTORE opcode))
  row_keeps at (Shuffle opcode) there fit = form_keeps (form_in (forms_of opcode) f.stack)
  row_keeps at (Pure opcode) there fit = operation_keeps (operation_in pure_operations opcode)
  row_keeps at (Divide opcode) there fit = operation_keeps (operation_in divide_operations opcode)
  row_keeps at (FloatAsk opcode) there fit = operation_keeps (operation_in float_operations opcode)
  row_keeps at (If opcode target) there fit = jump_keeps (nat_le IFEQ opcode && nat_le opcode IFLE) (of_kind kinds.Int ∷ [])
  row_keeps at (If2 opcode target) there fit =
      jump_keeps (nat_le IF_ICMPEQ opcode && nat_le opcode IF_ICMPLE) (of_kind kinds.Int ∷ of_kind kinds.Int ∷ [])
  row_keeps at (IfSame opcode target) there fit =
      jump_keeps (nat_le IF_ACMPEQ opcode && nat_le opcode IF_ACMPNE) (of_kind kinds.Ref ∷ of_kind kinds.Ref ∷ [])
  row_keeps at (IfNull opcode target) there fit = jump_keeps (nat_le IFNULL opcode && nat_le opcode IFNONNULL) (of_kind kinds.Ref ∷ [])
  row_keeps at (Goto target) there fit = nothing_kept []
  row_keeps at (Table low other targets) there fit = nothing_kept (of_kind kinds.Int ∷ [])
  row_keeps at (Lookup other pairs) there fit = nothing_kept (of_kind kinds.Int ∷ [])
  row_keeps at (Return kind) there fit = return_keeps kind
  row_keeps at (GetStatic index) there fit = get_static_keeps (reference_of s.pool (constant_at s.pool index)) there
  row_keeps at (PutStatic index) there fit = put_static_keeps (reference_of s.pool (constant_at s.pool index))
  row_keeps at (GetField index) there fit = get_field_keeps (reference_of s.pool (constant_at s.pool index)) there
  row_keeps at (PutField index) there fit = put_field_keeps (reference_of s.pool (constant_at s.pool index))
  row_keeps at (Invoke opcode index count) there fit = call_keeps opcode (reference_of s.pool (constant_at s.pool index)) there
  row_keeps at (Dynamic index) there fit = dynamic_keeps (constant_at s.pool index) there
  row_keeps at (New index) there fit =
      (named_map Has (without_older at) (older_named at) f.locals named.locals, (kept [] (types.Uninit at ∷ []) (tt, tt)).1)
  row_keeps at (NewArray code) there fit = made_keeps 1 (primitive_array code) (closed.primitive code)
  row_keeps at (NewRefArray index) there fit = made_keeps 1 (array_of (class_at s.pool index)) there
  row_keeps at (NewMulti index dimensions) there fit = made_keeps dimensions (class_at s.pool index) there
  row_keeps at Length there fit = kept (some_array ∷ []) (types.Int ∷ []) (tt, tt)
  row_keeps at Throw there fit = nothing_kept (assignable_to (types.Object throwable) ∷ [])
  row_keeps at (Cast index) there fit = cast_keeps (class_at s.pool index) there
  row_keeps at (InstanceOf index) there fit = kept (initialised ∷ []) (types.Int ∷ []) (tt, tt)
  row_keeps at Enter there fit = nothing_kept (of_kind kinds.Ref ∷ [])
  row_keeps at Leave there fit = nothing_kept (of_kind kinds.Ref ∷ [])
