-- The names and descriptors of generated work.
use Rattle.std.proofs.Common.{[], ◌∷◌, Some, None, refl, arith, codes}
use Rattle.class_model.specs.Names.{IsFieldName}
use Rattle.class_model.specs.PoolChecks.{BytesSpell, IsFieldDescriptor, ReturnsVoid}
use Rattle.class_model.specs.declared.descriptor.Descriptor.{Descriptor}
use Rattle.class_model.specs.declared.descriptor.FieldType.TheVariants.{Int, Named}
use Rattle.class_tree.specs.Names.{object, throwable}
use Rattle.work_gen.specs.BaseLibrary.{takes_object}
use Rattle.work_gen.proofs.HeldChecks.{object_name}
use Rattle.work_gen.proofs.PlainNames.{IsPlainClassName, reference_name, unqualified}

abbrev pub takes_two : Descriptor
takes_two = record { params = Int ∷ Int ∷ []; result = None }

abbrev pub gives_int : Descriptor
gives_int = record { params = []; result = Some Int }

abbrev pub takes : Descriptor
takes = record { params = Named object ∷ []; result = None }

pub two_spelled : BytesSpell (codes "(II)V") takes_two
two_spelled = record { params = (tt, (tt, tt)); units = omega arith; result = tt; spelled = refl }

pub two_is_void : ReturnsVoid (codes "(II)V")
two_is_void = record { descriptor = takes_two; spelled = two_spelled; no_result = refl }

pub int_spelled : BytesSpell (codes "()I") gives_int
int_spelled = record { params = tt; units = omega arith; result = tt; spelled = refl }

pub takes_spelled : BytesSpell takes_object takes
takes_spelled = record { params = (reference_name object object_name, tt); units = omega arith; result = tt; spelled = refl }

pub is_int : IsFieldDescriptor (codes "I")
is_int = record { type = Int; named = tt; spelled = refl }

pub x_name : IsFieldName (codes "x")
x_name = record { unqualified = unqualified (codes "x") refl; otherwise = λ e. absurd cc }

pub y_name : IsFieldName (codes "y")
y_name = record { unqualified = unqualified (codes "y") refl; otherwise = λ e. absurd cc }

pub work_name : IsPlainClassName (codes "G")
work_name = record { plain = refl; parts = refl; joined = refl }

pub point_name : IsPlainClassName (codes "P")
point_name = record { plain = refl; parts = refl; joined = refl }

pub keeper_name : IsPlainClassName (codes "L")
keeper_name = record { plain = refl; parts = refl; joined = refl }

pub throwable_name : IsPlainClassName throwable
throwable_name = record { plain = refl; parts = refl; joined = refl }
