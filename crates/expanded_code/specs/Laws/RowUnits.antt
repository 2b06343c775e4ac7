-- A row keeps how many local units there are, and each long and double among them with its second unit behind it.
use Rattle.std.proofs.Common.{◌≡◌, ◌+◌, ◌-◌, ◌≤◌, ◌<◌, ℕ, zero, suc, Bool, true, false, List, [], ◌∷◌, ◌++◌, length, map, slice_get, replicate, Option, Some, None, if◌then◌else◌, refl, sym, ap, subst, ◌∙◌, arith}
use Rattle.std.specs.Prelude.{◌==◌, ◌&&◌, bytes_eq, nat_le, slice_set}
use Rattle.std.proofs.lemmas.List.{length-append, length-map, length-replicate, length-set}
use Rattle.class_model.specs.Frames.{depth, filled, is_wide, units, units_of_entries}
use Rattle.class_model.specs.Names.{init}
use Rattle.class_model.specs.Pool.{constant_at}
use Rattle.class_model.specs.PoolChecks.{class_at, descriptor_at}
use Rattle.class_model.specs.declared.descriptor.Kind.{Kind}
use Rattle.class_model.specs.declared.descriptor.Kind.TheVariants as kinds
use Rattle.class_model.specs.declared.frame.Frame.{Frame}
use Rattle.class_model.specs.declared.frame.VType.{VType}
use Rattle.class_model.specs.declared.frame.VType.TheVariants as types
use Rattle.class_model.specs.declared.instr.Instr.{Instr}
use Rattle.class_model.specs.declared.instr.Instr.TheVariants.{Nop, Const, Ldc, Ldc2, Load, Store, Iinc, ArrayLoad, ArrayStore, Shuffle, Pure, Divide, FloatAsk, If, If2, IfSame, IfNull, Goto, Table, Lookup, Return, GetStatic, PutStatic, GetField, PutField, Invoke, Dynamic, New, NewArray, NewRefArray, NewMulti, Length, Throw, Cast, InstanceOf, Enter, Leave}
use Rattle.class_model.specs.declared.opcodes.TheConstants.{AALOAD, IALOAD, AASTORE, IASTORE, IFEQ, IFLE, IF_ICMPEQ, IF_ICMPLE, IF_ACMPEQ, IF_ACMPNE, IFNULL, IFNONNULL, INVOKESPECIAL, INVOKESTATIC}
use Rattle.class_model.specs.declared.pool.Const.{Const as Constant}
use Rattle.class_model.specs.declared.pool.Const.TheVariants as consts
use Rattle.class_tree.specs.Headers.{Name}
use Rattle.member_link.specs.References.{Reference}
use Rattle.member_link.specs.RowScope.{RowScope}
use Rattle.member_link.specs.Rows.ArithmeticRows.{Operation, divide_operations, float_operations, operation_in, operation_row, pure_operations}
use Rattle.member_link.specs.Rows.ArrayRows.{Elements, array_of, elements_from, elements_load_row, elements_store_row, made_row, primitive_array}
use Rattle.member_link.specs.Rows.LocalRows.{HasRoom, const_row, cut_before, store_row, stored, with_units}
use Rattle.member_link.specs.Rows.MemberRows.{call_row, dynamic_row, get_field_row, get_static_row, initialised_type, put_field_row, put_static_row, receiver, return_row}
use Rattle.member_link.specs.Rows.Operands.{AllFit, IsOfKind, Need, lowest_of, of_kind, topmost}
use Rattle.member_link.specs.Rows.Row.{Row, either}
use Rattle.member_link.specs.Rows.ShuffleRows.{Form, form_in, form_row, forms_of}
use Rattle.member_link.specs.Rows.Table.{cast_row, jump_row, row_of, without_older}
use Rattle.member_link.specs.Signatures.{reference_of}

-- ---- units in pairs

abbrev pub BeginsTop : List VType → Type 0
BeginsTop [] = ⊥
BeginsTop (type ∷ entries) = type ≡ types.Top

-- a long or double is followed by Top
abbrev pub ArePaired : List VType → Type 0
ArePaired [] = Unit {0}
ArePaired (type ∷ entries) = (is_wide type ≡ true → BeginsTop entries) × ArePaired entries

-- no value of two units stands just before a place
abbrev pub NarrowBefore : ℕ → List VType → Type 0
NarrowBefore at entries = (k : ℕ) (type : VType) → at ≡ suc k → slice_get entries k ≡ Some type → is_wide type ≡ false

-- so none stands at the end
pub narrow_end : (entries : List VType) → ArePaired entries → NarrowBefore (length entries) entries
narrow_end [] paired k type is found = absurd cc
narrow_end (first ∷ []) paired zero type is found = by (is_wide first) refl where
  by : (b : Bool) → is_wide first ≡ b → is_wide type ≡ false
  by true wide = absurd (paired.0 wide)
  by false narrow = let same : first ≡ type = cc in subst (λ (t : VType). is_wide t ≡ false) same narrow
narrow_end (first ∷ []) paired (suc k) type is found = absurd cc
narrow_end (first ∷ second ∷ entries) paired zero type is found = absurd (omega (arith, is))
narrow_end (first ∷ second ∷ entries) paired (suc k) type is found =
    narrow_end (second ∷ entries) paired.1 k type (omega (arith, is)) found

-- ---- a unit that is written

begins_set : (entries : List VType) (at : ℕ) (type : VType) → BeginsTop entries → BeginsTop (slice_set entries (suc at) type)
begins_set [] at type begins = absurd begins
begins_set (first ∷ entries) at type begins = begins

begins_top : (entries : List VType) → 0 < length entries → BeginsTop (slice_set entries zero types.Top)
begins_top [] some = absurd (omega (arith, some))
begins_top (first ∷ entries) some = refl

-- what begins with Top does so with Top written there
top_begins : (entries : List VType) → BeginsTop entries → BeginsTop (slice_set entries zero types.Top)
top_begins [] begins = absurd begins
top_begins (first ∷ entries) begins = refl

top_paired : (entries : List VType) (at : ℕ) → ArePaired entries → ArePaired (slice_set entries at types.Top)
top_paired [] at paired = tt
top_paired (first ∷ entries) zero paired = (λ wide. absurd cc, paired.1)
top_paired (first ∷ entries) (suc zero) paired = (λ wide. top_begins entries (paired.0 wide), top_paired entries zero paired.1)
top_paired (first ∷ entries) (suc (suc at)) paired =
    (λ wide. begins_set entries at types.Top (paired.0 wide), top_paired entries (suc at) paired.1)

narrow_below : (at : ℕ) (first : VType) (entries : List VType) → NarrowBefore (suc at) (first ∷ entries) → NarrowBefore at entries
narrow_below at first entries before k type is found = before (suc k) type (ap suc is) found

put_paired : (entries : List VType) (at : ℕ) (type : VType) → ArePaired entries → NarrowBefore at entries → is_wide type ≡ false
    → ArePaired (slice_set entries at type)
put_paired [] at type paired before narrow = tt
put_paired (first ∷ entries) zero type paired before narrow = (λ wide. absurd cc, paired.1)
put_paired (first ∷ entries) (suc zero) type paired before narrow = (
  λ wide. let no : is_wide first ≡ false = before zero first refl refl in absurd cc,
  put_paired entries zero type paired.1 (narrow_below _ first entries before) narrow,
)
put_paired (first ∷ entries) (suc (suc at)) type paired before narrow = (
  λ wide. begins_set entries at type (paired.0 wide),
  put_paired entries (suc at) type paired.1 (narrow_below _ first entries before) narrow,
)

-- a value of two units
pair_paired : (entries : List VType) (at : ℕ) (type : VType) → ArePaired entries → NarrowBefore at entries → at + 2 ≤ length entries
    → ArePaired (slice_set (slice_set entries at type) (suc at) types.Top)
pair_paired [] at type paired before room = tt
pair_paired (first ∷ entries) zero type paired before room =
    (λ wide. begins_top entries (omega (arith, room)), top_paired entries zero paired.1)
pair_paired (first ∷ entries) (suc zero) type paired before room = (
  λ wide. let no : is_wide first ≡ false = before zero first refl refl in absurd cc,
  pair_paired entries zero type paired.1 (narrow_below _ first entries before) (omega (arith, room)),
)
pair_paired (first ∷ entries) (suc (suc at)) type paired before room = (
  λ wide. begins_set (slice_set entries (suc at) type) (suc at) types.Top (begins_set entries at type (paired.0 wide)),
  pair_paired entries (suc at) type paired.1 (narrow_below _ first entries before) (omega (arith, room)),
)

-- ---- behind a cut

pub record IsCut (at : ℕ) (entries cut : List VType) : Type 0 where
  pub long : length cut ≡ length entries
  pub paired : ArePaired entries → ArePaired cut
  pub narrow : NarrowBefore at cut

set_narrow : (entries : List VType) (at : ℕ) (type : VType) → slice_get (slice_set entries at types.Top) at ≡ Some type
    → is_wide type ≡ false
set_narrow [] at type is = absurd cc
set_narrow (first ∷ entries) zero type is = let same : types.Top ≡ type = cc in subst (λ (t : VType). is_wide t ≡ false) same refl
set_narrow (first ∷ entries) (suc at) type is = set_narrow entries at type is

pub is_cut : (at : ℕ) (entries : List VType) → IsCut at entries (cut_before at entries)
is_cut zero entries = record { long = refl; paired = λ paired. paired; narrow = λ k type is found. absurd cc }
is_cut (suc at) entries = by (slice_get entries at) refl where
  at_place : (cut : List VType) → ((type : VType) → slice_get cut at ≡ Some type → is_wide type ≡ false) → NarrowBefore (suc at) cut
  at_place cut narrow k type is found =
      let same : k ≡ at = omega (arith, is) in
      narrow type (subst (λ (n : ℕ). slice_get cut n ≡ Some type) same found)

  by_width : (type : VType) (b : Bool) → is_wide type ≡ b → slice_get entries at ≡ Some type
      → IsCut (suc at) entries (if b then slice_set entries at types.Top else entries)
  by_width type true wide there = record {
    long = length-set entries at types.Top;
    paired = top_paired entries at;
    narrow = at_place (slice_set entries at types.Top) (set_narrow entries at);
  }
  by_width type false narrow there = record {
    long = refl;
    paired = λ paired. paired;
    narrow = at_place entries (λ other same. let e : other ≡ type = cc in subst (λ (t : VType). is_wide t ≡ false) (sym e) narrow);
  }

  by : (found : Option VType) → slice_get entries at ≡ found → IsCut (suc at) entries (cut_before (suc at) entries)
  by None none = rw none (record {
    long = refl;
    paired = λ paired. paired;
    narrow = at_place entries (λ type same. absurd cc);
  })
  by (Some type) there = rw there (by_width type (is_wide type) refl there)

-- ---- rows

pub record KeepsUnits (own locals : List VType) : Type 0 where
  pub long : length locals ≡ length own
  pub paired : ArePaired own → ArePaired locals

keeps_same : (own : List VType) → KeepsUnits own own
keeps_same own = record { long = refl; paired = λ paired. paired }

-- a change of types that keeps their widths, and Top
keeps_mapped : (own : List VType) (change : VType → VType) → ((type : VType) → is_wide (change type) ≡ is_wide type)
    → change types.Top ≡ types.Top → KeepsUnits own (map change own)
keeps_mapped own change wide top = record { long = length-map own change; paired = each own } where
  begins : (entries : List VType) → BeginsTop entries → BeginsTop (map change entries)
  begins [] is = is
  begins (type ∷ entries) is = ap change is ∙ top

  each : (entries : List VType) → ArePaired entries → ArePaired (map change entries)
  each [] paired = tt
  each (type ∷ entries) paired = (λ is. begins entries (paired.0 (sym (wide type) ∙ is)), each entries paired.1)

keeps_either : (own : List VType) (test : Bool) (row other : Row) → KeepsUnits own row.locals → KeepsUnits own other.locals
    → KeepsUnits own (either test row other).locals
keeps_either own true row other one two = one
keeps_either own false row other one two = two

module _ (s : RowScope) (f : Frame) where
  abbrev own : List VType
  own = f.locals

  same : KeepsUnits own own
  same = keeps_same own

  -- ---- stores

  stored_narrow : (at : ℕ) (type : VType) → units type ≡ type ∷ [] → is_wide type ≡ false → at + 1 ≤ length own
      → KeepsUnits own (stored at type own)
  stored_narrow at type alone narrow room =
      let cut = is_cut at own in
      subst (λ (written : List VType). KeepsUnits own (with_units at written (cut_before at own))) (sym alone) (record {
        long = length-set (cut_before at own) at type ∙ cut.long;
        paired = λ paired. put_paired (cut_before at own) at type (cut.paired paired) cut.narrow narrow;
      })

  stored_pair : (at : ℕ) (type : VType) → units type ≡ type ∷ types.Top ∷ [] → at + 2 ≤ length own → KeepsUnits own (stored at type own)
  stored_pair at type both room =
      let cut = is_cut at own in
      let next : at + 1 ≡ suc at = omega arith in
      subst (λ (written : List VType). KeepsUnits own (with_units at written (cut_before at own))) (sym both) (record {
        long = length-set (slice_set (cut_before at own) at type) (at + 1) types.Top ∙ length-set (cut_before at own) at type ∙ cut.long;
        paired = λ paired. subst (λ (n : ℕ). ArePaired (slice_set (slice_set (cut_before at own) at type) n types.Top)) (sym next)
            (pair_paired (cut_before at own) at type (cut.paired paired) cut.narrow (omega (arith, room, cut.long)));
      })

  stored_kind : (kind : Kind) (at : ℕ) (type : VType) → HasRoom kind own at → IsOfKind kind type → KeepsUnits own (stored at type own)
  stored_kind kinds.Int at type room is = subst (λ (t : VType). KeepsUnits own (stored at t own)) (sym is) (stored_narrow at types.Int refl refl room)
  stored_kind kinds.Float at type room is =
      subst (λ (t : VType). KeepsUnits own (stored at t own)) (sym is) (stored_narrow at types.Float refl refl room)
  stored_kind kinds.Long at type room is = subst (λ (t : VType). KeepsUnits own (stored at t own)) (sym is) (stored_pair at types.Long refl room)
  stored_kind kinds.Double at type room is =
      subst (λ (t : VType). KeepsUnits own (stored at t own)) (sym is) (stored_pair at types.Double refl room)
  stored_kind kinds.Ref at types.Null room is = stored_narrow at types.Null refl refl room
  stored_kind kinds.Ref at (types.Object name) room is = stored_narrow at (types.Object name) refl refl room
  stored_kind kinds.Ref at types.UninitThis room is = stored_narrow at types.UninitThis refl refl room
  stored_kind kinds.Ref at (types.Uninit new) room is = stored_narrow at (types.Uninit new) refl refl room
  stored_kind kinds.Ref at other room is = absurd is

  store_keeps : (kind : Kind) (at : ℕ) → HasRoom kind own at → AllFit s (of_kind kind ∷ []) (topmost 1 f.stack)
      → KeepsUnits own (store_row f kind at).locals
  store_keeps kind at room fit = by (topmost 1 f.stack) refl fit where
    by : (entries : List VType) → topmost 1 f.stack ≡ entries → AllFit s (of_kind kind ∷ []) entries
        → KeepsUnits own (stored at (lowest_of 1 f.stack) own)
    by [] are held = absurd held
    by (value ∷ entries) are held = rw are (stored_kind kind at value room held.0)

  -- ---- objects

  older_wide : (at : ℕ) (type : VType) → is_wide (without_older at type) ≡ is_wide type
  older_wide at (types.Uninit other) = by (other == at) where
    by : (b : Bool) → is_wide (if b then types.Top else types.Uninit other) ≡ false
    by true = refl
    by false = refl
  older_wide at other = refl

  new_wide : (r : Reference) (at : ℕ) (type : VType) → is_wide (initialised_type s r (types.Uninit at) type) ≡ is_wide type
  new_wide r at (types.Uninit other) = by (other == at) where
    by : (b : Bool) → is_wide (if b then types.Object r.class else types.Uninit other) ≡ false
    by true = refl
    by false = refl
  new_wide r at other = refl

  this_wide : (r : Reference) (type : VType) → is_wide (initialised_type s r types.UninitThis type) ≡ is_wide type
  this_wide r types.UninitThis = refl
  this_wide r other = refl

  init_keeps : (r : Reference) (object : VType) → KeepsUnits own (map (initialised_type s r object) own)
  init_keeps r (types.Uninit at) = keeps_mapped own _ (new_wide r at) refl
  init_keeps r types.UninitThis = keeps_mapped own _ (this_wide r) refl
  init_keeps r other = keeps_mapped own _ (λ type. refl) refl

  -- ---- families

  const_keeps : (constant : Option Constant) → KeepsUnits own (const_row f constant).locals
  const_keeps None = same
  const_keeps (Some (consts.Integer n)) = same
  const_keeps (Some (consts.Float bits)) = same
  const_keeps (Some (consts.Long n)) = same
  const_keeps (Some (consts.Double bits)) = same
  const_keeps (Some (consts.String text)) = same
  const_keeps (Some (consts.Class name)) = same
  const_keeps (Some (consts.MethodHandle kind reference)) = same
  const_keeps (Some (consts.MethodType descriptor)) = same
  const_keeps (Some other) = same

  elements_load_keeps : (found : Option Elements) → KeepsUnits own (elements_load_row f found).locals
  elements_load_keeps None = same
  elements_load_keeps (Some e) = same

  elements_store_keeps : (found : Option Elements) → KeepsUnits own (elements_store_row f found).locals
  elements_store_keeps None = same
  elements_store_keeps (Some e) = same

  form_keeps : (form : Option Form) → KeepsUnits own (form_row f form).locals
  form_keeps None = same
  form_keeps (Some form) = same

  operation_keeps : (operation : Option Operation) → KeepsUnits own (operation_row f operation).locals
  operation_keeps None = same
  operation_keeps (Some o) = same

  jump_keeps : (is_known : Bool) (takes : List Need) → KeepsUnits own (jump_row f is_known takes).locals
  jump_keeps is_known takes = keeps_either own is_known _ _ same same

  return_keeps : (kind : Option Kind) → KeepsUnits own (return_row s f kind).locals
  return_keeps None = same
  return_keeps (Some kind) = same

  get_static_keeps : (r : Option Reference) → KeepsUnits own (get_static_row f r).locals
  get_static_keeps None = same
  get_static_keeps (Some r) = same

  put_static_keeps : (r : Option Reference) → KeepsUnits own (put_static_row f r).locals
  put_static_keeps None = same
  put_static_keeps (Some r) = same

  get_field_keeps : (r : Option Reference) → KeepsUnits own (get_field_row s f r).locals
  get_field_keeps None = same
  get_field_keeps (Some r) = same

  put_field_keeps : (r : Option Reference) → KeepsUnits own (put_field_row s f r).locals
  put_field_keeps None = same
  put_field_keeps (Some r) = same

  call_keeps : (opcode : ℕ) (r : Option Reference) → KeepsUnits own (call_row s f opcode r).locals
  call_keeps opcode None = same
  call_keeps opcode (Some r) =
      keeps_either own (opcode == INVOKESTATIC) _ _ same
      (keeps_either own (opcode == INVOKESPECIAL) _ _
      (keeps_either own (bytes_eq r.name init) _ _ (init_keeps r (receiver f r.desc)) same) same)

  dynamic_keeps : (constant : Option Constant) → KeepsUnits own (dynamic_row s f constant).locals
  dynamic_keeps None = same
  dynamic_keeps (Some (consts.InvokeDynamic bootstrap member)) = by (descriptor_at s.pool member) refl where
    by : (desc : Option (List ℕ)) → descriptor_at s.pool member ≡ desc
        → KeepsUnits own (dynamic_row s f (Some (consts.InvokeDynamic bootstrap member))).locals
    by None is = rw is same
    by (Some desc) is = rw is same
  dynamic_keeps (Some other) = same

  made_keeps : (counts : ℕ) (name : Option Name) → KeepsUnits own (made_row f counts name).locals
  made_keeps counts None = same
  made_keeps counts (Some name) = same

  cast_keeps : (name : Option Name) → KeepsUnits own (cast_row f name).locals
  cast_keeps None = same
  cast_keeps (Some name) = same

  -- The row of each instruction.
  pub row_keeps_units : (at : ℕ) (instr : Instr)
      → (row_of s f at instr).local
      → AllFit s (row_of s f at instr).takes (topmost (length (row_of s f at instr).takes) f.stack)
      → KeepsUnits own (row_of s f at instr).locals
  row_keeps_units at Nop local fit = same
  row_keeps_units at (Const imm) local fit = same
  row_keeps_units at (Ldc index) local fit = const_keeps (constant_at s.pool index)
  row_keeps_units at (Ldc2 index) local fit = const_keeps (constant_at s.pool index)
  row_keeps_units at (Load kind unit) local fit = same
  row_keeps_units at (Store kind unit) local fit = store_keeps kind unit local fit
  row_keeps_units at (Iinc unit by) local fit = same
  row_keeps_units at (ArrayLoad opcode) local fit =
      keeps_either own (opcode == AALOAD) _ _ same (elements_load_keeps (elements_from IALOAD opcode))
  row_keeps_units at (ArrayStore opcode) local fit =
      keeps_either own (opcode == AASTORE) _ _ same (elements_store_keeps (elements_from IASTORE opcode))
  row_keeps_units at (Shuffle opcode) local fit = form_keeps (form_in (forms_of opcode) f.stack)
  row_keeps_units at (Pure opcode) local fit = operation_keeps (operation_in pure_operations opcode)
  row_keeps_units at (Divide opcode) local fit = operation_keeps (operation_in divide_operations opcode)
  row_keeps_units at (FloatAsk opcode) local fit = operation_keeps (operation_in float_operations opcode)
  row_keeps_units at (If opcode target) local fit = jump_keeps (nat_le IFEQ opcode && nat_le opcode IFLE) _
  row_keeps_units at (If2 opcode target) local fit = jump_keeps (nat_le IF_ICMPEQ opcode && nat_le opcode IF_ICMPLE) _
  row_keeps_units at (IfSame opcode target) local fit = jump_keeps (nat_le IF_ACMPEQ opcode && nat_le opcode IF_ACMPNE) _
  row_keeps_units at (IfNull opcode target) local fit = jump_keeps (nat_le IFNULL opcode && nat_le opcode IFNONNULL) _
  row_keeps_units at (Goto target) local fit = same
  row_keeps_units at (Table low other targets) local fit = same
  row_keeps_units at (Lookup other pairs) local fit = same
  row_keeps_units at (Return kind) local fit = return_keeps kind
  row_keeps_units at (GetStatic index) local fit = get_static_keeps (reference_of s.pool (constant_at s.pool index))
  row_keeps_units at (PutStatic index) local fit = put_static_keeps (reference_of s.pool (constant_at s.pool index))
  row_keeps_units at (GetField index) local fit = get_field_keeps (reference_of s.pool (constant_at s.pool index))
  row_keeps_units at (PutField index) local fit = put_field_keeps (reference_of s.pool (constant_at s.pool index))
  row_keeps_units at (Invoke opcode index count) local fit = call_keeps opcode (reference_of s.pool (constant_at s.pool index))
  row_keeps_units at (Dynamic index) local fit = dynamic_keeps (constant_at s.pool index)
  row_keeps_units at (New index) local fit = keeps_mapped own _ (older_wide at) refl
  row_keeps_units at (NewArray code) local fit = made_keeps 1 (primitive_array code)
  row_keeps_units at (NewRefArray index) local fit = made_keeps 1 (array_of (class_at s.pool index))
  row_keeps_units at (NewMulti index dimensions) local fit = made_keeps dimensions (class_at s.pool index)
  row_keeps_units at Length local fit = same
  row_keeps_units at Throw local fit = same
  row_keeps_units at (Cast index) local fit = cast_keeps (class_at s.pool index)
  row_keeps_units at (InstanceOf index) local fit = same
  row_keeps_units at Enter local fit = same
  row_keeps_units at Leave local fit = same

-- ---- frames that are stated

tops_paired : (count : ℕ) → ArePaired (replicate count types.Top)
tops_paired zero = tt
tops_paired (suc count) = (λ wide. absurd cc, tops_paired count)

units_paired : (entries behind : List VType) → ArePaired behind → ArePaired (units_of_entries entries ++ behind)
units_paired [] behind paired = paired
units_paired (types.Long ∷ entries) behind paired = (λ wide. refl, (λ wide. absurd cc, units_paired entries behind paired))
units_paired (types.Double ∷ entries) behind paired = (λ wide. refl, (λ wide. absurd cc, units_paired entries behind paired))
units_paired (types.Top ∷ entries) behind paired = (λ wide. absurd cc, units_paired entries behind paired)
units_paired (types.Int ∷ entries) behind paired = (λ wide. absurd cc, units_paired entries behind paired)
units_paired (types.Float ∷ entries) behind paired = (λ wide. absurd cc, units_paired entries behind paired)
units_paired (types.Null ∷ entries) behind paired = (λ wide. absurd cc, units_paired entries behind paired)
units_paired (types.UninitThis ∷ entries) behind paired = (λ wide. absurd cc, units_paired entries behind paired)
units_paired (types.Object name ∷ entries) behind paired = (λ wide. absurd cc, units_paired entries behind paired)
units_paired (types.Uninit at ∷ entries) behind paired = (λ wide. absurd cc, units_paired entries behind paired)

pub filled_paired : (max_locals : ℕ) (entries : List VType) → ArePaired (filled max_locals entries)
filled_paired max_locals entries =
    units_paired entries (replicate (max_locals - length (units_of_entries entries)) types.Top)
    (tops_paired (max_locals - length (units_of_entries entries)))

pub filled_long : (max_locals : ℕ) (entries : List VType) → depth entries ≤ max_locals → length (filled max_locals entries) ≡ max_locals
filled_long max_locals entries few =
    let more : ℕ = max_locals - length (units_of_entries entries) in
    omega (arith, few, length-append (units_of_entries entries) (replicate more types.Top), length-replicate more types.Top)
