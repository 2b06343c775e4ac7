-- The class of the objects of generated work is a class file.
use Rattle.std.proofs.Common.{[], ◌∷◌, inl, inr, refl, arith, codes}
use Rattle.class_bytes.specs.Numbers.{FitsNumbers, PartNumbers}
use Rattle.class_model.specs.Descriptors as descriptors
use Rattle.class_model.specs.Instructions as instructions
use Rattle.class_model.specs.Laws.Checks.{◌▸◌}
use Rattle.class_model.specs.Methods.{IsDescriptorOf, code}
use Rattle.class_model.specs.Names.{clinit, init}
use Rattle.class_model.specs.Pool.{IsPool}
use Rattle.class_model.specs.Values.{IsValue}
use Rattle.class_model.specs.declared.pool.Const.TheVariants.{Utf8, Class, NameAndType, Fieldref, Methodref}
use Rattle.class_tree.specs.Names.{object}
use Rattle.work_gen.specs.BaseLibrary.{no_parameters}
use Rattle.work_gen.specs.Generated.{point, point_init, point_y}
use Rattle.work_gen.proofs.HeldChecks.{is_void, object_name, other_text, text, void, void_spelled}
use Rattle.work_gen.proofs.PlainNames as plain_names
use Rattle.work_gen.proofs.PlainNames.{class_name, reference_name, unqualified}
use Rattle.work_gen.proofs.WorkDescriptors.{gives_int, is_int, point_name, takes_two, two_is_void, x_name, y_name}
use Rattle.work_gen.proofs.WorkParts.{PartsHold, all_hold}

two_of : IsDescriptorOf 0 (codes "(II)V")
two_of = record {
  descriptor = takes_two;
  spelled = record { is_descriptor = record { params = (tt, (tt, tt)); units = omega arith; result = tt }; spelled = refl };
  units = omega arith;
}

int_of : IsDescriptorOf 0 (codes "()I")
int_of = record {
  descriptor = gives_int;
  spelled = record { is_descriptor = record { params = tt; units = omega arith; result = tt }; spelled = refl };
  units = omega arith;
}

point_holds : PartsHold point
unfolding descriptors.types_before instructions.instrs_at instructions.instr_at
point_holds = record {
  pool =
      text (codes "P") refl ▸ refl ▸ reference_name (codes "P") point_name
      ▸ text object refl ▸ refl ▸ reference_name object object_name
      ▸ text init refl ▸ text (codes "(II)V") refl ▸ text code refl ▸ text no_parameters refl
      -- the constructor of the superclass
      ▸ (refl, refl) ▸ (unqualified init refl, λ _. inl refl, λ _ _. is_void) ▸ inr (void, void_spelled)
      ▸ (refl, refl) ▸ (inl refl, other_text init clinit refl, λ _ _. is_void) ▸ (void, void_spelled)
      -- the fields
      ▸ text (codes "x") refl ▸ text (codes "I") refl
      ▸ (refl, refl) ▸ (unqualified (codes "x") refl, λ _. plain_names.method_name (codes "x") refl refl, λ is_init. absurd (other_text (codes "x") init refl is_init)) ▸ inl is_int
      ▸ (refl, refl) ▸ x_name ▸ is_int
      ▸ text (codes "y") refl
      ▸ (refl, refl) ▸ (unqualified (codes "y") refl, λ _. plain_names.method_name (codes "y") refl refl, λ is_init. absurd (other_text (codes "y") init refl is_init)) ▸ inl is_int
      ▸ (refl, refl) ▸ y_name ▸ is_int
      ▸ text (codes "()I") refl ▸ tt;
  flags = refl;
  this_class = refl ▸ class_name (codes "P") point_name ▸ tt;
  super_class = refl ▸ class_name object object_name ▸ tt;
  interfaces = tt;
  fields =
      refl ▸ refl ▸ refl ▸ x_name ▸ refl ▸ is_int
      ▸ refl ▸ refl ▸ refl ▸ y_name ▸ refl ▸ is_int ▸ tt;
  methods =
      refl ▸ refl ▸ refl ▸ refl ▸ refl ▸ (inl refl, λ _ _. two_is_void) ▸ refl ▸ two_of
      ▸ refl ▸ refl ▸ refl ▸ omega arith
      ▸ refl ▸ refl ▸ refl ▸ refl ▸ refl ▸ refl ▸ refl ▸ refl ▸ refl
      ▸ omega arith ▸ inr (inr (inl refl, inl tt)) ▸ omega arith ▸ omega arith ▸ tt ▸ omega arith ▸ omega arith ▸ tt ▸ tt
      ▸ refl ▸ refl ▸ refl ▸ refl ▸ refl
      ▸ (plain_names.method_name (codes "y") refl refl, λ is_init. absurd (other_text (codes "y") init refl is_init)) ▸ refl ▸ int_of
      ▸ refl ▸ refl ▸ refl ▸ omega arith ▸ refl ▸ refl ▸ refl ▸ omega arith ▸ tt ▸ tt ▸ tt;
  attrs = tt;
  dynamics = tt;
}

pub point_value : IsValue point
point_value = record {
  version = inr (inr (refl, refl));
  tags = tt ▸ tt ▸ tt ▸ tt ▸ tt ▸ tt ▸ tt ▸ tt ▸ tt ▸ tt ▸ tt ▸ tt ▸ tt ▸ tt ▸ tt ▸ tt ▸ tt ▸ tt ▸ tt ▸ tt;
  fields = (tt, (tt, tt));
  methods = ((refl, tt), ((refl, tt), tt));
  attrs = tt;
  checks = all_hold point point_holds;
}

-- ---- its numbers

init_numbers : PartNumbers point_init
init_numbers = record { max_stack = omega arith; max_locals = omega arith; handlers = tt; attrs = tt }

y_numbers : PartNumbers point_y
y_numbers = record { max_stack = omega arith; max_locals = omega arith; handlers = tt; attrs = tt }

point_pool : IsPool point.pool
point_pool = record {
  constants =
      Utf8 (codes "P") ∷ Class 1 ∷ Utf8 object ∷ Class 3
      ∷ Utf8 init ∷ Utf8 (codes "(II)V") ∷ Utf8 code ∷ Utf8 no_parameters ∷ NameAndType 5 8 ∷ Methodref 4 9
      ∷ Utf8 (codes "x") ∷ Utf8 (codes "I") ∷ NameAndType 11 12 ∷ Fieldref 2 13
      ∷ Utf8 (codes "y") ∷ NameAndType 15 12 ∷ Fieldref 2 16 ∷ Utf8 (codes "()I") ∷ [];
  all = refl;
  count = omega arith;
}

pub point_numbers : FitsNumbers point
point_numbers = record {
  major = omega arith;
  minor = omega arith;
  pool = point_pool;
  constants =
      tt ▸ omega arith ▸ omega arith ▸ omega arith ▸ omega arith ▸ omega arith ▸ omega arith ▸ omega arith ▸ omega arith
      ▸ (omega arith, omega arith) ▸ (omega arith, omega arith) ▸ omega arith ▸ omega arith
      ▸ (omega arith, omega arith) ▸ (omega arith, omega arith) ▸ omega arith
      ▸ (omega arith, omega arith) ▸ (omega arith, omega arith) ▸ omega arith ▸ tt;
  body = record {
    flags = omega arith;
    this_class = omega arith;
    super_class = omega arith;
    interfaces = tt;
    fields =
        record { flags = omega arith; name = omega arith; desc = omega arith; attrs = tt }
        ▸ record { flags = omega arith; name = omega arith; desc = omega arith; attrs = tt }
        ▸ tt;
    methods =
        record { flags = omega arith; name = omega arith; desc = omega arith; attrs = ((omega arith, init_numbers), tt) }
        ▸ record { flags = omega arith; name = omega arith; desc = omega arith; attrs = ((omega arith, y_numbers), tt) }
        ▸ tt;
    attrs = tt;
  };
}
