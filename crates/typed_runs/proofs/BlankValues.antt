use Rattle.std.specs.Prelude.{refl, ℕ, zero, suc, List, replicate}
use Rattle.std.specs.List.{AllByRecursion}
use Rattle.class_model.specs.Descriptors.{kind_of, type_of}
use Rattle.class_model.specs.declared.descriptor.FieldType.{FieldType}
use Rattle.class_model.specs.declared.descriptor.FieldType.TheVariants as field_types
use Rattle.machine_values.specs.Heaps.{Heap}
use Rattle.machine_values.specs.Values.{blank_of_kind, blank_value}
use Rattle.member_link.specs.Machine.Programs.{Program}
use Rattle.typed_runs.specs.Conforming.{to_none, FieldConforms, FitsDescriptor}

-- what a field or an element holds before it is written conforms to its type
pub blank_conforms : (P : Program) (h : Heap) (t : FieldType) → FieldConforms P h t (blank_of_kind (kind_of t))
blank_conforms P h (field_types.Named name) = to_none
blank_conforms P h field_types.Byte = refl
blank_conforms P h field_types.Char = refl
blank_conforms P h field_types.Short = refl
blank_conforms P h field_types.Bool = refl
blank_conforms P h field_types.Int = refl
blank_conforms P h field_types.Long = refl
blank_conforms P h field_types.Float = refl
blank_conforms P h field_types.Double = refl

pub blank_fits : (P : Program) (h : Heap) (desc : List ℕ) → FitsDescriptor P h desc (blank_value desc)
blank_fits P h desc = blank_conforms P h (type_of desc)

pub each_same : {A : Type 0} (Q : A → Type 0) (n : ℕ) (x : A) → Q x → AllByRecursion Q (replicate n x)
each_same Q zero x is = tt
each_same Q (suc n) x is = (is, each_same Q n x is)
