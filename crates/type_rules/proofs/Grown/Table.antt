-- The row of each instruction in classes that have grown, by a pool in which its constants mean the same.
use Rattle.std.proofs.Common.{◌≡◌, ℕ, Option, Some, refl, sym, subst}
use Rattle.class_model.specs.Pool.{Constants, constant_at}
use Rattle.class_model.specs.PoolChecks.{class_at, descriptor_at}
use Rattle.class_model.specs.declared.frame.Frame.{Frame}
use Rattle.class_model.specs.declared.header.Header.{Header}
use Rattle.class_model.specs.declared.instr.Instr.{Instr}
use Rattle.class_model.specs.declared.instr.Instr.TheVariants.{Ldc, Ldc2, Return, GetStatic, PutStatic, GetField, PutField, Invoke, Dynamic, NewRefArray, NewMulti, Cast}
use Rattle.class_model.specs.declared.pool.Const.{Const as PoolConst}
use Rattle.class_model.specs.declared.pool.Const.TheVariants as consts
use Rattle.class_tree.specs.Headers.{Name, Headers}
use Rattle.member_link.specs.Bodies.{CodeItem, item_instr, item_null_test, item_row}
use Rattle.member_link.specs.RowScope.{RowScope}
use Rattle.member_link.specs.Rows.ArrayRows.{array_of, made_row}
use Rattle.member_link.specs.Rows.LocalRows.{const_row}
use Rattle.member_link.specs.Rows.MemberRows.{call_row, dynamic_row, get_field_row, get_static_row, put_field_row, put_static_row}
use Rattle.member_link.specs.Rows.Row.{Row}
use Rattle.member_link.specs.Rows.Table.{cast_row, row_of}
use Rattle.member_link.specs.Signatures.{reference_of}
use Rattle.type_rules.proofs.Grown.Members.{among, call_kept, dynamic_kept, get_field_kept, put_field_kept, return_kept}
use Rattle.type_rules.proofs.Grown.Methods.{LooksUpAlike}
use Rattle.type_rules.proofs.Grown.Rows.{KeepsRow, same_row}
use Rattle.type_rules.specs.Grown.{AreGrownHeaders, IsGrownHeader}

-- a dynamic call's constant, and its descriptor, are the same in two pools
pub record IsSameDynamic (old new : Constants) (index : ℕ) : Type 0 where
  pub constant : constant_at new index ≡ constant_at old index
  pub desc : (bootstrap member : ℕ) → constant_at old index ≡ Some (consts.InvokeDynamic bootstrap member)
      → descriptor_at new member ≡ descriptor_at old member

abbrev pub IsSameReference : Constants → Constants → ℕ → Type 0
IsSameReference old new index = reference_of new (constant_at new index) ≡ reference_of old (constant_at old index)

-- what the row of an instruction reads of a pool is the same in another
abbrev pub ReadsSame : Constants → Constants → Instr → Type 0
ReadsSame old new (Ldc index) = constant_at new index ≡ constant_at old index
ReadsSame old new (Ldc2 index) = constant_at new index ≡ constant_at old index
ReadsSame old new (GetStatic index) = IsSameReference old new index
ReadsSame old new (PutStatic index) = IsSameReference old new index
ReadsSame old new (GetField index) = IsSameReference old new index
ReadsSame old new (PutField index) = IsSameReference old new index
ReadsSame old new (Invoke opcode index count) = IsSameReference old new index
ReadsSame old new (Dynamic index) = IsSameDynamic old new index
ReadsSame old new (NewRefArray index) = class_at new index ≡ class_at old index
ReadsSame old new (NewMulti index dimensions) = class_at new index ≡ class_at old index
ReadsSame old new (Cast index) = class_at new index ≡ class_at old index
ReadsSame old new instr = Unit {0}

pub reads_itself : (pool : Constants) (instr : Instr) → ReadsSame pool pool instr
reads_itself pool (Ldc index) = refl
reads_itself pool (Ldc2 index) = refl
reads_itself pool (GetStatic index) = refl
reads_itself pool (PutStatic index) = refl
reads_itself pool (GetField index) = refl
reads_itself pool (PutField index) = refl
reads_itself pool (Invoke opcode index count) = refl
reads_itself pool (Dynamic index) = record { constant = refl; desc = λ bootstrap member e. refl }
reads_itself pool (NewRefArray index) = refl
reads_itself pool (NewMulti index dimensions) = refl
reads_itself pool (Cast index) = refl
reads_itself pool instr = tt

-- a test of a local for null reads no constant
abbrev pub ItemReadsSame : Constants → Constants → CodeItem → Type 0
ItemReadsSame old new (item_instr instr) = ReadsSame old new instr
ItemReadsSame old new (item_null_test local) = Unit {0}

-- a row that reads one thing
by_same : {A : Type 0} (row : A → Row) (old new : A) → new ≡ old → KeepsRow (row old) (row new)
by_same row old new e = subst (λ a. KeepsRow (row old) (row a)) (sym e) (same_row (row old))

-- two such rows, by the scope
then_same : {A : Type 0} (row new_row : A → Row) (old new : A) → ((a : A) → KeepsRow (row a) (new_row a)) → new ≡ old → KeepsRow (row old) (new_row new)
then_same row new_row old new keeps e = subst (λ a. KeepsRow (row old) (new_row a)) (sym e) (keeps old)

module _ (s : RowScope) (headers : Headers) (own : Header) (pool : Constants) (grown : AreGrownHeaders s.headers headers)
    (grows : IsGrownHeader s.own own) (methods : LooksUpAlike s.headers headers) (f : Frame) (at : ℕ) where
  abbrev now : RowScope
  now = among s headers own pool grown grows methods

  pub row_kept : (instr : Instr) → ReadsSame s.pool pool instr → KeepsRow (row_of s f at instr) (row_of now f at instr)
  row_kept (Ldc index) e = by_same (const_row f) _ _ e
  row_kept (Ldc2 index) e = by_same (const_row f) _ _ e
  row_kept (GetStatic index) e = by_same (get_static_row f) _ _ e
  row_kept (PutStatic index) e = by_same (put_static_row f) _ _ e
  row_kept (GetField index) e = then_same (get_field_row s f) (get_field_row now f) _ _ (get_field_kept s headers own pool grown grows methods f) e
  row_kept (PutField index) e = then_same (put_field_row s f) (put_field_row now f) _ _ (put_field_kept s headers own pool grown grows methods f) e
  row_kept (Invoke opcode index count) e = then_same (call_row s f opcode) (call_row now f opcode) _ _ (call_kept s headers own pool grown grows methods f opcode) e
  row_kept (Dynamic index) e =
      subst (λ (c : Option PoolConst). KeepsRow (dynamic_row s f (constant_at s.pool index)) (dynamic_row now f c)) (sym e.constant)
      (dynamic_kept s headers own pool grown grows methods f (constant_at s.pool index) e.desc)
  row_kept (NewRefArray index) e = by_same (λ (o : Option Name). made_row f 1 (array_of o)) _ _ e
  row_kept (NewMulti index dimensions) e = by_same (made_row f dimensions) _ _ e
  row_kept (Cast index) e = by_same (cast_row f) _ _ e
  row_kept (Return kind) e = return_kept s headers own pool grown grows methods f kind
  row_kept instr e = same_row _

  pub item_kept : (item : CodeItem) → ItemReadsSame s.pool pool item → KeepsRow (item_row s f at item) (item_row now f at item)
  item_kept (item_instr instr) e = row_kept instr e
  item_kept (item_null_test local) e = same_row _
