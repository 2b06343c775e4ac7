use Rattle.std.specs.Prelude.{◌≡◌, ◌==◌, ◌++◌, refl, ℕ, Bool, true, false, List, [], ◌∷◌, slice_get, Some, codes, if◌then◌else◌}
use Rattle.std.specs.List.{AllByRecursion}
use Rattle.std.proofs.Common.{sym, ◌∙◌, subst}
use Rattle.class_model.specs.Descriptors.{kind_of, type_of}
use Rattle.class_model.specs.declared.descriptor.FieldType.{FieldType}
use Rattle.class_model.specs.declared.descriptor.FieldType.TheVariants as types
use Rattle.class_model.specs.declared.descriptor.Kind.TheVariants as kinds
use Rattle.class_tree.specs.Subtype.{itself}
use Rattle.machine_values.specs.Heaps.{Heap, constant_made}
use Rattle.machine_values.specs.Values.{has_kind, narrowed}
use Rattle.machine_values.specs.declared.object.Constant.TheVariants.{Str}
use Rattle.machine_values.specs.declared.value.Value.{Value}
use Rattle.machine_values.specs.declared.value.Value.TheVariants as values
use Rattle.member_link.specs.Machine.Beginnings.{with_start, with_starts, starts_of, begun_memory}
use Rattle.member_link.specs.Machine.Programs.{Program, RunClass, StartValue, start_value, start_string, StaticStart}
use Rattle.member_link.specs.Machine.Worlds.{Memory, StaticValue, with_heap, with_static, put_static_in, is_static_of, field_desc}
use Rattle.typed_runs.proofs.Basics.{and_first, and_second, same_number}
use Rattle.typed_runs.proofs.ConstantObjects.{constant_typed}
use Rattle.typed_runs.proofs.Kept.{Keeps, keeps_same, keeps_through}
use Rattle.typed_runs.specs.Conforming.{to_below, by_class, to_one, FieldConforms, FitsDescriptor, IsTypedStatic, IsTypedMemory}
use Rattle.typed_runs.specs.TypedPrograms.{Typings, IsTypedProgram, FitsStart, IsTypedStart}

-- ---- static fields

pub put_statics : (P : Program) (h : Heap) (ss : List StaticValue) (class field : ℕ) (v : Value) → AllByRecursion (IsTypedStatic P h) ss → FitsDescriptor P h (field_desc P class field) v
    → AllByRecursion (IsTypedStatic P h) (put_static_in ss class field v)
put_statics P h [] class field v all fits = (fits, tt)
put_statics P h (s ∷ ss) class field v all fits = by (is_static_of class field s) refl (put_statics P h ss class field v all.1 fits) where
  by : (b : Bool) → is_static_of class field s ≡ b → AllByRecursion (IsTypedStatic P h) (put_static_in ss class field v)
      → AllByRecursion (IsTypedStatic P h) (if b then record s { value = v } ∷ ss else s ∷ put_static_in ss class field v)
  by true e next =
      let c : s.class ≡ class = same_number s.class class (and_first (s.class == class) (s.field == field) e) in
      let d : s.field ≡ field = same_number s.field field (and_second (s.class == class) (s.field == field) e) in
      (subst (λ n. FitsDescriptor P h (field_desc P n s.field) v) (sym c) (subst (λ n. FitsDescriptor P h (field_desc P class n) v) (sym d) fits), all.1)
  by false e next = (all.0, next)

pub static_typed : (P : Program) (m : Memory) (class field : ℕ) (v : Value) → IsTypedMemory P m → FitsDescriptor P m.heap (field_desc P class field) v → IsTypedMemory P (with_static m class field v)
static_typed P m class field v typed fits = record { objects = typed.objects; constants = typed.constants; statics = put_statics P m.heap m.statics class field v typed.statics fits }

-- ---- narrowing

-- a number of the kind of a field type is narrowed to one of that type
pub number_narrowed : (P : Program) (h : Heap) (t : FieldType) (v : Value) → has_kind (kind_of t) v ≡ true → has_kind kinds.Ref v ≡ false → FieldConforms P h t (narrowed t v)
number_narrowed P h types.Byte (values.Int n) is flat = refl
number_narrowed P h types.Short (values.Int n) is flat = refl
number_narrowed P h types.Char (values.Int n) is flat = refl
number_narrowed P h types.Bool (values.Int n) is flat = refl
number_narrowed P h types.Int (values.Int n) is flat = refl
number_narrowed P h types.Long (values.Long n) is flat = refl
number_narrowed P h types.Float (values.Float n) is flat = refl
number_narrowed P h types.Double (values.Double n) is flat = refl
number_narrowed P h (types.Named name) v is flat = absurd (by (is_both is flat)) where
  is_both : has_kind kinds.Ref v ≡ true → has_kind kinds.Ref v ≡ false → true ≡ false
  is_both a b = sym a ∙ b

  by : true ≡ false → ⊥
  by e = cc
number_narrowed P h t v is flat = cc

-- ---- a class that is begun

pub record Starts (P : Program) (before after : Memory) : Type 0 where
  pub keep : Keeps before.heap after.heap
  pub typed : IsTypedMemory P after

module _ (P : Program) (T : Typings) (program : IsTypedProgram P T) (class : ℕ) where
  pub start_typed : (m : Memory) (field : ℕ) (v : StartValue) → IsTypedMemory P m → FitsStart (type_of (field_desc P class field)) v → Starts P m (with_start P class m (record { field = field; value = v }))
  start_typed m field (start_value v) typed fits =
      record { keep = keeps_same m.heap; typed = static_typed P m class field (narrowed (type_of (field_desc P class field)) v) typed (number_narrowed P m.heap (type_of (field_desc P class field)) v fits.0 fits.1) }
  start_typed m field (start_string text) typed fits =
      let made = constant_typed P m (Str text) typed program.base.of_strings in
      let k : Memory = with_heap m (constant_made m.heap (Str text)).heap in
      let name : List ℕ = codes "java/lang/String" in
      let conforms : FieldConforms P k.heap (types.Named (codes "java/lang/String")) (narrowed (types.Named (codes "java/lang/String")) (values.Ref (constant_made m.heap (Str text)).reference)) =
      to_one made.shape (by_class (to_below ((program.links.below (codes "java/lang/String") (codes "java/lang/String")).1 (itself (codes "java/lang/String"))))) in
      record {
        keep = made.keep;
        typed = static_typed P k class field (narrowed (type_of (field_desc P class field)) (values.Ref (constant_made m.heap (Str text)).reference)) made.typed
            (subst (λ t. FieldConforms P k.heap t (narrowed t (values.Ref (constant_made m.heap (Str text)).reference))) (sym fits) conforms);
      }

  pub starts_typed : (m : Memory) (ss : List StaticStart) → IsTypedMemory P m → AllByRecursion (IsTypedStart P class) ss → Starts P m (with_starts P class m ss)
  starts_typed m [] typed all = record { keep = keeps_same m.heap; typed = typed }
  starts_typed m (s ∷ ss) typed all =
      let one = start_typed m s.field s.value typed all.0 in
      let others = starts_typed (with_start P class m s) ss one.typed all.1 in
      record { keep = keeps_through one.keep others.keep; typed = others.typed }

  pub begun_typed : (m : Memory) (found : RunClass) → slice_get P.classes class ≡ Some found → IsTypedMemory P m → Starts P m (begun_memory P class m)
  begun_typed m found is typed =
      let k : Memory = record m { begun = m.begun ++ class ∷ [] } in
      let same : starts_of P class ≡ found.starts = rw is refl in
      subst (λ ss. Starts P m (with_starts P class k ss)) (sym same)
      (let s = starts_typed k found.starts (record { objects = typed.objects; constants = typed.constants; statics = typed.statics }) (program.classes class found is).starts in
      record { keep = s.keep; typed = s.typed })
