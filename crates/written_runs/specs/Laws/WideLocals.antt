-- Where no long or double is typed in the last local unit, none is behind an instruction whose row holds.
use Rattle.std.proofs.Common.{◌≡◌, ◌≤◌, ◌<◌, ◌⊎◌, inl, inr, ◌+◌, ◌-◌, ◌++◌, ◌==◌, ℕ, zero, suc, Bool, true, false, List, [], ◌∷◌, bytes_eq, length, map, replicate, slice_get, slice_set, Option, Some, None, option_map, refl, sym, ap, subst, ◌∙◌, arith}
use Rattle.std.proofs.lemmas.Bool.{false≢true}
use Rattle.std.proofs.lemmas.List.{length-map}
use Rattle.std.proofs.lemmas.Option.{none-some, same_Some, slice_get-map}
use Rattle.class_model.specs.Frames.{filled, is_wide, units_of_entries}
use Rattle.class_model.specs.Names.{init}
use Rattle.class_model.specs.Pool.{constant_at}
use Rattle.class_model.specs.PoolChecks.{class_at, descriptor_at}
use Rattle.class_model.specs.declared.descriptor.Kind.{Kind}
use Rattle.class_model.specs.declared.descriptor.Kind.TheVariants as kinds
use Rattle.class_model.specs.declared.frame.Frame.{Frame}
use Rattle.class_model.specs.declared.frame.VType.{VType}
use Rattle.class_model.specs.declared.frame.VType.TheVariants.{Top, Int, Float, Long, Double, Null, UninitThis, Object, Uninit}
use Rattle.class_model.specs.declared.instr.Instr.{Instr}
use Rattle.class_model.specs.declared.instr.Instr.TheVariants.{Nop, Const, Ldc, Ldc2, Load, Store, Iinc, ArrayLoad, ArrayStore, Shuffle, Pure, Divide, FloatAsk, If, If2, IfSame, IfNull, Goto, Table, Lookup, Return, GetStatic, PutStatic, GetField, PutField, Invoke, Dynamic, New, NewArray, NewRefArray, NewMulti, Length, Throw, Cast, InstanceOf, Enter, Leave}
use Rattle.class_model.specs.declared.opcodes.TheConstants.{AALOAD, AASTORE, IALOAD, IASTORE, INVOKESPECIAL, INVOKESTATIC}
use Rattle.class_model.specs.declared.pool.Const.{Const as PoolConst}
use Rattle.class_model.specs.declared.pool.Const.TheVariants as consts
use Rattle.class_tree.specs.Headers.{Headers, Name}
use Rattle.member_link.specs.Assignability.{IsAssignable, from_null, of_names, to_same, to_top}
use Rattle.member_link.specs.Bodies.{CodeItem, item_instr, item_null_test, item_row}
use Rattle.member_link.specs.References.{Reference}
use Rattle.member_link.specs.RowScope.{RowScope}
use Rattle.member_link.specs.Rows.ArithmeticRows.{Operation, divide_operations, float_operations, operation_in, operation_row, pure_operations}
use Rattle.member_link.specs.Rows.ArrayRows.{Elements, array_load_row, array_of, array_store_row, elements_from, elements_load_row, elements_store_row, made_row, primitive_array}
use Rattle.member_link.specs.Rows.FrameAssignability.{AreAssignable}
use Rattle.member_link.specs.Rows.LocalRows.{HasRoom, const_row, cut_before, stored, type_of_const}
use Rattle.member_link.specs.Rows.MemberRows.{call_row, dynamic_row, get_field_row, get_static_row, init_row, initialised_type, put_field_row, put_static_row, receiver, return_row, special_row}
use Rattle.member_link.specs.Rows.Operands.{AllFit, IsOfKind, Need, lowest_of, of_kind, topmost}
use Rattle.member_link.specs.Rows.Row.{Row, either}
use Rattle.member_link.specs.Rows.ShuffleRows.{Form, form_in, form_row, forms_of}
use Rattle.member_link.specs.Rows.Table.{cast_row, jump_row, row_of, without_older}
use Rattle.member_link.specs.Signatures.{reference_of}
use Rattle.same_runs.specs.Laws.Stored.{set_count}

-- no long or double is the last of these local units
pub record HasWideRoom (types : List VType) : Type 0 where
  pub each : (unit : ℕ) (type : VType)
      → slice_get types unit ≡ Some type
      → is_wide type ≡ true
      → suc unit < length types

-- ---- units

room_none : HasWideRoom []
room_none = record { each = λ unit type is wide. absurd (none-some type is) }

room_first : (type : VType) (types : List VType) → (is_wide type ≡ true → 0 < length types) → HasWideRoom types → HasWideRoom (type ∷ types)
room_first type types first rest = record { each = each } where
  each : (unit : ℕ) (one : VType) → slice_get (type ∷ types) unit ≡ Some one → is_wide one ≡ true → suc unit < suc (length types)
  each zero one is wide = let some = first (ap is_wide (same_Some type one is) ∙ wide) in omega (arith, some)
  each (suc unit) one is wide = let low = rest.each unit one is wide in omega (arith, low)

room_map : (change : VType → VType) (types : List VType) → ((type : VType) → is_wide (change type) ≡ true → is_wide type ≡ true)
    → HasWideRoom types → HasWideRoom (map change types)
room_map change types narrow room = record { each = each } where
  each : (unit : ℕ) (one : VType) → slice_get (map change types) unit ≡ Some one → is_wide one ≡ true → suc unit < length (map change types)
  each unit one is wide = by (slice_get types unit) refl where
    by : (found : Option VType) → slice_get types unit ≡ found → suc unit < length (map change types)
    by None none = absurd (none-some one (sym (slice_get-map change types unit ∙ ap (option_map change) none) ∙ is))
    by (Some type) some =
        let same = same_Some (change type) one (sym (slice_get-map change types unit ∙ ap (option_map change) some) ∙ is) in
        let low = room.each unit type some (narrow type (ap is_wide same ∙ wide)) in
        let many = length-map types change in
        omega (arith, low, many)

-- what a written unit holds
set_cases : (types : List VType) (at unit : ℕ) (type one : VType) → slice_get (slice_set types at type) unit ≡ Some one
    → ((unit ≡ at) × (one ≡ type)) ⊎ (slice_get types unit ≡ Some one)
set_cases [] at unit type one is = absurd (none-some one is)
set_cases (first ∷ types) zero zero type one is = inl (refl, sym (same_Some type one is))
set_cases (first ∷ types) zero (suc unit) type one is = inr is
set_cases (first ∷ types) (suc at) zero type one is = inr is
set_cases (first ∷ types) (suc at) (suc unit) type one is = elim (set_cases types at unit type one is) [
  | inl here ↦ inl (ap suc here.0, here.1)
  | inr there ↦ inr there
]

room_set : (types : List VType) (at : ℕ) (type : VType) → (is_wide type ≡ true → suc at < length types) → HasWideRoom types
    → HasWideRoom (slice_set types at type)
room_set types at type low room = record { each = each } where
  each : (unit : ℕ) (one : VType) → slice_get (slice_set types at type) unit ≡ Some one → is_wide one ≡ true
      → suc unit < length (slice_set types at type)
  each unit one is wide =
      let many = set_count types at type in
      elim (set_cases types at unit type one is) [
        | inl here ↦ let within = low (ap is_wide (sym here.1) ∙ wide) in let unit_is = here.0 in omega (arith, within, unit_is, many)
        | inr there ↦ let within = room.each unit one there wide in omega (arith, within, many)
      ]

room_cut : (types : List VType) (at : ℕ) → HasWideRoom types → HasWideRoom (cut_before at types)
room_cut types zero room = room
room_cut types (suc at) room = by (slice_get types at) refl where
  by : (found : Option VType) → slice_get types at ≡ found → HasWideRoom (cut_before (suc at) types)
  by None none = rw (none) room
  by (Some type) some = wide (is_wide type) refl where
    wide : (b : Bool) → is_wide type ≡ b → HasWideRoom (cut_before (suc at) types)
    wide true e = rw (some, e) (room_set types at Top (λ impossible. absurd (false≢true impossible)) room)
    wide false e = rw (some, e) room

cut_count : (types : List VType) (at : ℕ) → length (cut_before at types) ≡ length types
cut_count types zero = refl
cut_count types (suc at) = by (slice_get types at) refl where
  by : (found : Option VType) → slice_get types at ≡ found → length (cut_before (suc at) types) ≡ length types
  by None none = rw (none) refl
  by (Some type) some = wide (is_wide type) refl where
    wide : (b : Bool) → is_wide type ≡ b → length (cut_before (suc at) types) ≡ length types
    wide true e = rw (some, e) (set_count types at Top)
    wide false e = rw (some, e) refl

room_narrow : (types : List VType) (at : ℕ) (type : VType) → is_wide type ≡ false → HasWideRoom types → HasWideRoom (slice_set (cut_before at types) at type)
room_narrow types at type narrow room =
    room_set (cut_before at types) at type (λ wide. absurd (false≢true (sym narrow ∙ wide))) (room_cut types at room)

room_wide : (types : List VType) (at : ℕ) (type : VType) → at + 2 ≤ length types → HasWideRoom types
    → HasWideRoom (slice_set (slice_set (cut_before at types) at type) (at + 1) Top)
room_wide types at type room_there room =
    room_set (slice_set (cut_before at types) at type) (at + 1) Top (λ impossible. absurd (false≢true impossible))
    (room_set (cut_before at types) at type (λ wide. let many = cut_count types at in omega (arith, many, room_there)) (room_cut types at room))

room_stored : (kind : Kind) (types : List VType) (at : ℕ) (type : VType) → HasRoom kind types at → (is_wide type ≡ true → IsOfKind kind type)
    → HasWideRoom types → HasWideRoom (stored at type types)
room_stored kind types at Long there is room = room_wide types at Long (room_of kind there (is refl)) room where
  room_of : (kind : Kind) → HasRoom kind types at → IsOfKind kind Long → at + 2 ≤ length types
  room_of kinds.Int low is_kind = absurd cc
  room_of kinds.Long low is_kind = low
  room_of kinds.Float low is_kind = absurd cc
  room_of kinds.Double low is_kind = low
  room_of kinds.Ref low is_kind = absurd is_kind
room_stored kind types at Double there is room = room_wide types at Double (room_of kind there (is refl)) room where
  room_of : (kind : Kind) → HasRoom kind types at → IsOfKind kind Double → at + 2 ≤ length types
  room_of kinds.Int low is_kind = absurd cc
  room_of kinds.Long low is_kind = low
  room_of kinds.Float low is_kind = absurd cc
  room_of kinds.Double low is_kind = low
  room_of kinds.Ref low is_kind = absurd is_kind
room_stored kind types at Top there is room = room_narrow types at Top refl room
room_stored kind types at Int there is room = room_narrow types at Int refl room
room_stored kind types at Float there is room = room_narrow types at Float refl room
room_stored kind types at Null there is room = room_narrow types at Null refl room
room_stored kind types at UninitThis there is room = room_narrow types at UninitThis refl room
room_stored kind types at (Object name) there is room = room_narrow types at (Object name) refl room
room_stored kind types at (Uninit new) there is room = room_narrow types at (Uninit new) refl room

-- ---- the first frame

room_blank : (count : ℕ) → HasWideRoom (replicate count Top)
room_blank zero = room_none
room_blank (suc count) = room_first Top (replicate count Top) (λ impossible. absurd (false≢true impossible)) (room_blank count)

room_units : (types rest : List VType) → HasWideRoom rest → HasWideRoom (units_of_entries types ++ rest)
room_units [] rest room = room
room_units (type ∷ types) rest room = by type (room_units types rest room) where
  by : (one : VType) → HasWideRoom (units_of_entries types ++ rest) → HasWideRoom (units_of_entries (one ∷ types) ++ rest)
  by Long others =
      room_first Long (Top ∷ units_of_entries types ++ rest) (λ wide. omega arith)
      (room_first Top (units_of_entries types ++ rest) (λ impossible. absurd (false≢true impossible)) others)
  by Double others =
      room_first Double (Top ∷ units_of_entries types ++ rest) (λ wide. omega arith)
      (room_first Top (units_of_entries types ++ rest) (λ impossible. absurd (false≢true impossible)) others)
  by Top others = room_first Top (units_of_entries types ++ rest) (λ impossible. absurd (false≢true impossible)) others
  by Int others = room_first Int (units_of_entries types ++ rest) (λ impossible. absurd (false≢true impossible)) others
  by Float others = room_first Float (units_of_entries types ++ rest) (λ impossible. absurd (false≢true impossible)) others
  by Null others = room_first Null (units_of_entries types ++ rest) (λ impossible. absurd (false≢true impossible)) others
  by UninitThis others = room_first UninitThis (units_of_entries types ++ rest) (λ impossible. absurd (false≢true impossible)) others
  by (Object name) others = room_first (Object name) (units_of_entries types ++ rest) (λ impossible. absurd (false≢true impossible)) others
  by (Uninit at) others = room_first (Uninit at) (units_of_entries types ++ rest) (λ impossible. absurd (false≢true impossible)) others

pub room_filled : (most : ℕ) (types : List VType) → HasWideRoom (filled most types)
room_filled most types = room_units types (replicate (most - length (units_of_entries types)) Top) (room_blank (most - length (units_of_entries types)))

-- ---- what flows on

wide_assignable : (headers : Headers) (low high : VType) → IsAssignable headers low high → is_wide high ≡ true → low ≡ high
wide_assignable headers low high (to_same type) wide = refl
wide_assignable headers low high (to_top type) wide = absurd (false≢true wide)
wide_assignable headers low high (from_null name) wide = absurd (false≢true wide)
wide_assignable headers low high (of_names one other names) wide = absurd (false≢true wide)

pub room_assignable : (headers : Headers) (lows highs : List VType) → AreAssignable headers lows highs → HasWideRoom lows → HasWideRoom highs
room_assignable headers lows highs are room = record { each = λ unit type is wide. by lows highs are unit type is wide room.each } where
  by : (lows highs : List VType) → AreAssignable headers lows highs → (unit : ℕ) (type : VType)
      → slice_get highs unit ≡ Some type
      → is_wide type ≡ true
      → ((n : ℕ) (one : VType) → slice_get lows n ≡ Some one → is_wide one ≡ true → suc n < length lows)
      → suc unit < length highs
  by [] [] are unit type is wide each = absurd (none-some type is)
  by [] (high ∷ highs) are unit type is wide each = absurd are
  by (low ∷ lows) [] are unit type is wide each = absurd are
  by (low ∷ lows) (high ∷ highs) are zero type is wide each =
      let same : high ≡ type = same_Some high type is in
      let low_is = wide_assignable headers low high are.0 (ap is_wide same ∙ wide) in
      let within = each 0 low refl (ap is_wide low_is ∙ ap is_wide same ∙ wide) in
      let many = as_many lows highs are.1 in
      omega (arith, within, many) where
        as_many : (lows highs : List VType) → AreAssignable headers lows highs → length highs ≡ length lows
        as_many [] [] are = refl
        as_many [] (high ∷ highs) are = absurd are
        as_many (low ∷ lows) [] are = absurd are
        as_many (low ∷ lows) (high ∷ highs) are = ap suc (as_many lows highs are.1)
  by (low ∷ lows) (high ∷ highs) are (suc unit) type is wide each =
      let rest = by lows highs are.1 unit type is wide (λ n one there wide_one.
      let within = each (suc n) one there wide_one in omega (arith, within)) in
      omega (arith, rest)

-- ---- rows

either_locals : (b : Bool) (row other : Row) (locals : List VType) → row.locals ≡ locals → other.locals ≡ locals → (either b row other).locals ≡ locals
either_locals true row other locals is also = is
either_locals false row other locals is also = also

module _ (s : RowScope) (f : Frame) where
  const_locals : (constant : Option PoolConst) → (const_row f constant).locals ≡ f.locals
  const_locals None = refl
  const_locals (Some constant) = by (type_of_const constant) refl where
    by : (type : Option VType) → type_of_const constant ≡ type → (const_row f (Some constant)).locals ≡ f.locals
    by None is = rw (is) refl
    by (Some type) is = rw (is) refl

  form_locals : (form : Option Form) → (form_row f form).locals ≡ f.locals
  form_locals None = refl
  form_locals (Some form) = refl

  operation_locals : (operation : Option Operation) → (operation_row f operation).locals ≡ f.locals
  operation_locals None = refl
  operation_locals (Some operation) = refl

  jump_locals : (known : Bool) (takes : List Need) → (jump_row f known takes).locals ≡ f.locals
  jump_locals true takes = refl
  jump_locals false takes = refl

  return_locals : (kind : Option Kind) → (return_row s f kind).locals ≡ f.locals
  return_locals None = refl
  return_locals (Some kind) = refl

  field_locals : (field : Option Reference)
      → ((get_static_row f field).locals ≡ f.locals)
      × ((put_static_row f field).locals ≡ f.locals)
      × ((get_field_row s f field).locals ≡ f.locals)
      × ((put_field_row s f field).locals ≡ f.locals)
  field_locals None = (refl, refl, refl, refl)
  field_locals (Some field) = (refl, refl, refl, refl)

  made_locals : (counts : ℕ) (name : Option Name) → (made_row f counts name).locals ≡ f.locals
  made_locals counts None = refl
  made_locals counts (Some name) = refl

  cast_locals : (name : Option Name) → (cast_row f name).locals ≡ f.locals
  cast_locals None = refl
  cast_locals (Some name) = refl

  load_elements_locals : (e : Option Elements) → (elements_load_row f e).locals ≡ f.locals
  load_elements_locals None = refl
  load_elements_locals (Some e) = refl

  store_elements_locals : (e : Option Elements) → (elements_store_row f e).locals ≡ f.locals
  store_elements_locals None = refl
  store_elements_locals (Some e) = refl

  array_load_locals : (opcode : ℕ) → (array_load_row f opcode).locals ≡ f.locals
  array_load_locals opcode = either_locals (opcode == AALOAD) _ _ f.locals refl (load_elements_locals (elements_from IALOAD opcode))

  array_store_locals : (opcode : ℕ) → (array_store_row f opcode).locals ≡ f.locals
  array_store_locals opcode = either_locals (opcode == AASTORE) _ _ f.locals refl (store_elements_locals (elements_from IASTORE opcode))

  dynamic_locals : (constant : Option PoolConst) → (dynamic_row s f constant).locals ≡ f.locals
  dynamic_locals None = refl
  dynamic_locals (Some (consts.InvokeDynamic bootstrap member)) = by (descriptor_at s.pool member) refl where
    by : (desc : Option (List ℕ)) → descriptor_at s.pool member ≡ desc
        → (dynamic_row s f (Some (consts.InvokeDynamic bootstrap member))).locals ≡ f.locals
    by None is = rw (is) refl
    by (Some desc) is = rw (is) refl
  dynamic_locals (Some (consts.Utf8 text)) = refl
  dynamic_locals (Some (consts.Integer number)) = refl
  dynamic_locals (Some (consts.Float bits)) = refl
  dynamic_locals (Some (consts.Long number)) = refl
  dynamic_locals (Some (consts.Double bits)) = refl
  dynamic_locals (Some (consts.Class name)) = refl
  dynamic_locals (Some (consts.String text)) = refl
  dynamic_locals (Some (consts.Fieldref class member)) = refl
  dynamic_locals (Some (consts.Methodref class member)) = refl
  dynamic_locals (Some (consts.InterfaceMethodref class member)) = refl
  dynamic_locals (Some (consts.NameAndType name desc)) = refl
  dynamic_locals (Some (consts.MethodHandle kind index)) = refl
  dynamic_locals (Some (consts.MethodType desc)) = refl

  without_narrow : (at : ℕ) (type : VType) → is_wide (without_older at type) ≡ true → is_wide type ≡ true
  without_narrow at Top wide = wide
  without_narrow at Int wide = wide
  without_narrow at Float wide = wide
  without_narrow at Long wide = wide
  without_narrow at Double wide = wide
  without_narrow at Null wide = wide
  without_narrow at UninitThis wide = wide
  without_narrow at (Object name) wide = wide
  without_narrow at (Uninit other) wide = by (other == at) refl where
    by : (b : Bool) → (other == at) ≡ b → is_wide (Uninit other) ≡ true
    by true e = let none : false ≡ true = sym (rw (e) refl) ∙ wide in absurd (false≢true none)
    by false e = let none : false ≡ true = sym (rw (e) refl) ∙ wide in absurd (false≢true none)

  initialised_narrow : (reference : Reference) (object type : VType) → is_wide (initialised_type s reference object type) ≡ true → is_wide type ≡ true
  initialised_narrow reference Top type wide = wide
  initialised_narrow reference Int type wide = wide
  initialised_narrow reference Float type wide = wide
  initialised_narrow reference Long type wide = wide
  initialised_narrow reference Double type wide = wide
  initialised_narrow reference Null type wide = wide
  initialised_narrow reference (Object class) type wide = wide
  initialised_narrow reference (Uninit at) Top wide = wide
  initialised_narrow reference (Uninit at) Int wide = wide
  initialised_narrow reference (Uninit at) Float wide = wide
  initialised_narrow reference (Uninit at) Long wide = wide
  initialised_narrow reference (Uninit at) Double wide = wide
  initialised_narrow reference (Uninit at) Null wide = wide
  initialised_narrow reference (Uninit at) UninitThis wide = wide
  initialised_narrow reference (Uninit at) (Object name) wide = wide
  initialised_narrow reference UninitThis Top wide = wide
  initialised_narrow reference UninitThis Int wide = wide
  initialised_narrow reference UninitThis Float wide = wide
  initialised_narrow reference UninitThis Long wide = wide
  initialised_narrow reference UninitThis Double wide = wide
  initialised_narrow reference UninitThis Null wide = wide
  initialised_narrow reference UninitThis UninitThis wide = absurd (false≢true wide)
  initialised_narrow reference UninitThis (Object name) wide = wide
  initialised_narrow reference UninitThis (Uninit other) wide = wide
  initialised_narrow reference (Uninit at) (Uninit other) wide = by (other == at) refl where
    by : (b : Bool) → (other == at) ≡ b → is_wide (Uninit other) ≡ true
    by true e = let none : false ≡ true = sym (rw (e) refl) ∙ wide in absurd (false≢true none)
    by false e = let none : false ≡ true = sym (rw (e) refl) ∙ wide in absurd (false≢true none)

  call_room : (opcode : ℕ) (method : Option Reference) → HasWideRoom f.locals → HasWideRoom (call_row s f opcode method).locals
  call_room opcode None room = room
  call_room opcode (Some reference) room = static (opcode == INVOKESTATIC) refl where
    start : HasWideRoom (init_row s f reference).locals
    start =
        room_map (initialised_type s reference (receiver f reference.desc)) f.locals
        (initialised_narrow reference (receiver f reference.desc)) room

    initial : (b : Bool) → HasWideRoom (either b (init_row s f reference) (special_row s f reference)).locals
    initial true = start
    initial false = room

    special : (b : Bool) (other : Row) → HasWideRoom other.locals
        → HasWideRoom (either b (either (bytes_eq reference.name init) (init_row s f reference) (special_row s f reference)) other).locals
    special true other is = initial (bytes_eq reference.name init)
    special false other is = is

    static : (b : Bool) → (opcode == INVOKESTATIC) ≡ b → HasWideRoom (call_row s f opcode (Some reference)).locals
    static true e = rw (e) room
    static false e = rw (e) (special (opcode == INVOKESPECIAL) _ room)

  instr_room : (at : ℕ) (instr : Instr)
      → (row_of s f at instr).local
      → AllFit s (row_of s f at instr).takes (topmost (length (row_of s f at instr).takes) f.stack)
      → HasWideRoom f.locals
      → HasWideRoom (row_of s f at instr).locals
  instr_room at Nop has operands room = room
  instr_room at (Const imm) has operands room = room
  instr_room at (Ldc index) has operands room = subst HasWideRoom (sym (const_locals (constant_at s.pool index))) room
  instr_room at (Ldc2 index) has operands room = subst HasWideRoom (sym (const_locals (constant_at s.pool index))) room
  instr_room at (Load kind local) has operands room = room
  instr_room at (Iinc local by) has operands room = room
  instr_room at (ArrayLoad opcode) has operands room = subst HasWideRoom (sym (array_load_locals opcode)) room
  instr_room at (ArrayStore opcode) has operands room = subst HasWideRoom (sym (array_store_locals opcode)) room
  instr_room at (Shuffle opcode) has operands room = subst HasWideRoom (sym (form_locals (form_in (forms_of opcode) f.stack))) room
  instr_room at (Pure opcode) has operands room = subst HasWideRoom (sym (operation_locals (operation_in pure_operations opcode))) room
  instr_room at (Divide opcode) has operands room = subst HasWideRoom (sym (operation_locals (operation_in divide_operations opcode))) room
  instr_room at (FloatAsk opcode) has operands room = subst HasWideRoom (sym (operation_locals (operation_in float_operations opcode))) room
  instr_room at (If opcode target) has operands room = subst HasWideRoom (sym (jump_locals _ _)) room
  instr_room at (If2 opcode target) has operands room = subst HasWideRoom (sym (jump_locals _ _)) room
  instr_room at (IfSame opcode target) has operands room = subst HasWideRoom (sym (jump_locals _ _)) room
  instr_room at (IfNull opcode target) has operands room = subst HasWideRoom (sym (jump_locals _ _)) room
  instr_room at (Goto target) has operands room = room
  instr_room at (Table low other targets) has operands room = room
  instr_room at (Lookup other pairs) has operands room = room
  instr_room at (Return kind) has operands room = subst HasWideRoom (sym (return_locals kind)) room
  instr_room at (GetStatic index) has operands room = subst HasWideRoom (sym ((field_locals (reference_of s.pool (constant_at s.pool index))).0)) room
  instr_room at (PutStatic index) has operands room = subst HasWideRoom (sym ((field_locals (reference_of s.pool (constant_at s.pool index))).1)) room
  instr_room at (GetField index) has operands room = subst HasWideRoom (sym ((field_locals (reference_of s.pool (constant_at s.pool index))).2)) room
  instr_room at (PutField index) has operands room = subst HasWideRoom (sym ((field_locals (reference_of s.pool (constant_at s.pool index))).3)) room
  instr_room at (Dynamic index) has operands room = subst HasWideRoom (sym (dynamic_locals (constant_at s.pool index))) room
  instr_room at (NewArray code) has operands room = subst HasWideRoom (sym (made_locals 1 (primitive_array code))) room
  instr_room at (NewRefArray index) has operands room = subst HasWideRoom (sym (made_locals 1 (array_of (class_at s.pool index)))) room
  instr_room at (NewMulti index dimensions) has operands room = subst HasWideRoom (sym (made_locals dimensions (class_at s.pool index))) room
  instr_room at Length has operands room = room
  instr_room at Throw has operands room = room
  instr_room at (Cast index) has operands room = subst HasWideRoom (sym (cast_locals (class_at s.pool index))) room
  instr_room at (InstanceOf index) has operands room = room
  instr_room at Enter has operands room = room
  instr_room at Leave has operands room = room
  instr_room at (Invoke opcode index count) has operands room = call_room opcode (reference_of s.pool (constant_at s.pool index)) room
  instr_room at (New index) has operands room = room_map (without_older at) f.locals (without_narrow at) room
  instr_room at (Store kind local) has operands room =
      room_stored kind f.locals local (lowest_of 1 f.stack) has (λ wide. of_top (topmost 1 f.stack) refl operands) room where
        of_top : (top : List VType) → topmost 1 f.stack ≡ top → AllFit s (of_kind kind ∷ []) top → IsOfKind kind (lowest_of 1 f.stack)
        of_top [] e fit = absurd fit
        of_top (type ∷ rest) e fit = rw (e) fit.0

  pub item_room : (at : ℕ) (item : CodeItem)
      → (item_row s f at item).local
      → AllFit s (item_row s f at item).takes (topmost (length (item_row s f at item).takes) f.stack)
      → HasWideRoom f.locals
      → HasWideRoom (item_row s f at item).locals
  item_room at (item_instr instr) has operands room = instr_room at instr has operands room
  item_room at (item_null_test local) has operands room = room
