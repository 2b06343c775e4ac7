use Rattle.std.specs.Prelude.{◌≡◌, refl, true}
use Rattle.class_model.specs.Code.{verification_type}
use Rattle.class_model.specs.Descriptors.{kind_of}
use Rattle.class_model.specs.declared.descriptor.FieldType.{FieldType}
use Rattle.class_model.specs.declared.descriptor.FieldType.TheVariants as types
use Rattle.machine_values.specs.Heaps.{Heap}
use Rattle.machine_values.specs.Values.{has_kind, narrowed, blank_of_kind}
use Rattle.machine_values.specs.declared.value.Value.{Value}
use Rattle.machine_values.specs.declared.value.Value.TheVariants as values
use Rattle.member_link.specs.Machine.Programs.{Program}
use Rattle.member_link.specs.RowScope.{RowScope}
use Rattle.typed_runs.proofs.Kept.{there}
use Rattle.typed_runs.specs.Conforming.{IsValueInHeap, Conforms, an_int, a_long, a_float, a_double, null_object, an_object, to_none, to_one, FieldConforms}

-- ---- a value of a field type is one of its verification type

pub of_field : {P : Program} {s : RowScope} {h : Heap} (t : FieldType) (v : Value) → FieldConforms P h t v → Conforms P s h (verification_type t) v
of_field (types.Named name) _ to_none = null_object
of_field (types.Named name) _ (to_one shape is) = an_object shape is
of_field types.Byte (values.Int n) is = an_int
of_field types.Char (values.Int n) is = an_int
of_field types.Short (values.Int n) is = an_int
of_field types.Bool (values.Int n) is = an_int
of_field types.Int (values.Int n) is = an_int
of_field types.Long (values.Long n) is = a_long
of_field types.Float (values.Float n) is = a_float
of_field types.Double (values.Double n) is = a_double
of_field t v is = cc

pub to_field : {P : Program} {s : RowScope} {h : Heap} (t : FieldType) {v : Value} → Conforms P s h (verification_type t) v → FieldConforms P h t v
to_field (types.Named name) null_object = to_none
to_field (types.Named name) (an_object shape is) = to_one shape is
to_field types.Byte an_int = refl
to_field types.Char an_int = refl
to_field types.Short an_int = refl
to_field types.Bool an_int = refl
to_field types.Int an_int = refl
to_field types.Long a_long = refl
to_field types.Float a_float = refl
to_field types.Double a_double = refl

-- ---- its kind, and what is narrowed

pub field_kind : (P : Program) (h : Heap) (t : FieldType) (v : Value) → FieldConforms P h t v → has_kind (kind_of t) v ≡ true
field_kind P h (types.Named name) _ to_none = refl
field_kind P h (types.Named name) _ (to_one shape is) = refl
field_kind P h types.Byte v is = is
field_kind P h types.Char v is = is
field_kind P h types.Short v is = is
field_kind P h types.Bool v is = is
field_kind P h types.Int v is = is
field_kind P h types.Long v is = is
field_kind P h types.Float v is = is
field_kind P h types.Double v is = is

pub field_narrowed : (P : Program) (h : Heap) (t : FieldType) (v : Value) → FieldConforms P h t v → FieldConforms P h t (narrowed t v)
field_narrowed P h (types.Named name) v is = is
field_narrowed P h types.Byte (values.Int n) is = refl
field_narrowed P h types.Short (values.Int n) is = refl
field_narrowed P h types.Char (values.Int n) is = refl
field_narrowed P h types.Bool (values.Int n) is = refl
field_narrowed P h types.Int v is = is
field_narrowed P h types.Long v is = is
field_narrowed P h types.Float v is = is
field_narrowed P h types.Double v is = is
field_narrowed P h t v is = cc

pub field_in_heap : (P : Program) (h : Heap) (t : FieldType) (v : Value) → FieldConforms P h t v → IsValueInHeap h v
field_in_heap P h (types.Named name) _ to_none = tt
field_in_heap P h (types.Named name) _ (to_one shape is) = there shape
field_in_heap P h t (values.Int n) is = tt
field_in_heap P h t (values.Long n) is = tt
field_in_heap P h t (values.Float n) is = tt
field_in_heap P h t (values.Double n) is = tt
field_in_heap P h t values.Null is = tt
field_in_heap P h t (values.Ref r) is = cc

-- a field that was not written
pub blank_conforms : (P : Program) (h : Heap) (t : FieldType) → FieldConforms P h t (blank_of_kind (kind_of t))
blank_conforms P h (types.Named name) = to_none
blank_conforms P h types.Byte = refl
blank_conforms P h types.Char = refl
blank_conforms P h types.Short = refl
blank_conforms P h types.Bool = refl
blank_conforms P h types.Int = refl
blank_conforms P h types.Long = refl
blank_conforms P h types.Float = refl
blank_conforms P h types.Double = refl
