-- The kinds of classes of the library: that what is asked of a class file holds.
use Rattle.std.proofs.Common.{◌≡◌, ◌≢◌, ◌≤◌, ℕ, true, false, List, [], ◌∷◌, Some, None, inl, inr, refl, sym, ◌∙◌, arith, codes, bytes_eq, true≢false}
use Rattle.std.proofs.lemmas.Slice.Eq.{bytes_eq-Decides}
use Rattle.std.specs.Prelude.{IsTrue}
use Rattle.class_model.specs.Checks.{AllHold}
use Rattle.class_model.specs.ClassOf.{class_file_checks}
use Rattle.class_model.specs.Cutting as cutting
use Rattle.class_model.specs.Descriptors as descriptors
use Rattle.class_model.specs.Instructions as instructions
use Rattle.class_model.specs.Laws.Checks.{◌▸◌}
use Rattle.class_model.specs.Laws.Texts.{plain_text}
use Rattle.class_model.specs.Members.{fits_class}
use Rattle.class_model.specs.Methods.{code, this_units, IsDescriptorOf}
use Rattle.class_model.specs.ModifiedUtf8.{IsModifiedUtf8, is_plain_text}
use Rattle.class_model.specs.Names.{init, clinit}
use Rattle.class_model.specs.PoolChecks.{BytesSpell, ReturnsVoid}
use Rattle.class_model.specs.declared.descriptor.Descriptor.{Descriptor}
use Rattle.class_model.specs.declared.descriptor.FieldType.TheVariants.{Named}
use Rattle.class_tree.specs.Headers.{Name}
use Rattle.class_tree.specs.Names.{object}
use Rattle.work_gen.specs.BaseLibrary.{no_parameters, takes_object, gives_object}
use Rattle.work_gen.proofs.PlainNames.{IsPlainClassName, class_name, reference_name, utf8, unqualified, method_name}
use Rattle.work_gen.proofs.ReadClasses.{raw}
use Rattle.work_gen.specs.Values.{memberless, thrown, root, keeper}

pub text : (bytes : List ℕ) → is_plain_text bytes ≡ true → IsModifiedUtf8 bytes
text bytes plain = (plain_text bytes plain).spelling

pub other_text : (one other : List ℕ) → bytes_eq one other ≡ false → one ≢ other
other_text one other test equal = true≢false (sym ((bytes_eq-Decides one other).1 equal) ∙ test)

-- ---- the descriptors

abbrev pub void : Descriptor
void = record { params = []; result = None }

abbrev takes : Descriptor
takes = record { params = Named object ∷ []; result = None }

abbrev gives : Descriptor
gives = record { params = []; result = Some (Named object) }

pub object_name : IsPlainClassName object
object_name = record { plain = refl; parts = refl; joined = refl }

pub void_spelled : BytesSpell no_parameters void
void_spelled = record { params = tt; units = omega arith; result = tt; spelled = refl }

pub is_void : ReturnsVoid no_parameters
is_void = record { descriptor = void; spelled = void_spelled; no_result = refl }

void_of : (flags : ℕ) → this_units flags ≤ 1 → IsDescriptorOf flags no_parameters
void_of flags few = record {
  descriptor = void;
  spelled = record { is_descriptor = record { params = tt; units = omega arith; result = tt }; spelled = refl };
  units = omega (arith, few);
}

takes_of : (flags : ℕ) → this_units flags ≤ 1 → IsDescriptorOf flags takes_object
takes_of flags few = record {
  descriptor = takes;
  spelled = record { is_descriptor = record { params = ((plain_text object refl, reference_name object object_name), tt); units = omega arith; result = tt }; spelled = refl };
  units = omega (arith, few);
}

gives_of : (flags : ℕ) → this_units flags ≤ 1 → IsDescriptorOf flags gives_object
gives_of flags few = record {
  descriptor = gives;
  spelled = record { is_descriptor = record { params = tt; units = omega arith; result = (plain_text object refl, reference_name object object_name) }; spelled = refl };
  units = omega (arith, few);
}

-- ---- classes

abbrev clone : List ℕ
clone = codes "clone"

abbrev finalize : List ℕ
finalize = codes "finalize"

abbrev keeper_name : List ℕ
keeper_name = codes "L"

abbrev use_name : List ℕ
use_name = codes "use"

abbrev keep : List ℕ
keep = codes "keep"

keeper_plain : IsPlainClassName keeper_name
keeper_plain = record { plain = refl; parts = refl; joined = refl }

pub memberless_holds : (flags : ℕ) (name : Name) → IsPlainClassName name → IsTrue (fits_class flags) → AllHold (class_file_checks (raw (memberless flags name)))
memberless_holds flags name plain fits =
    utf8 name plain ▸ refl ▸ reference_name name plain
    ▸ utf8 object object_name ▸ refl ▸ reference_name object object_name
    ▸ fits ▸ refl ▸ class_name name plain ▸ refl ▸ class_name object object_name ▸ tt

pub thrown_holds : (super_name name : Name) → IsPlainClassName super_name → IsPlainClassName name → AllHold (class_file_checks (raw (thrown super_name name)))
unfolding cutting.many_at descriptors.types_before instructions.instrs_at instructions.instr_at
thrown_holds super_name name super_plain plain =
    utf8 name plain ▸ refl ▸ reference_name name plain
    ▸ utf8 super_name super_plain ▸ refl ▸ reference_name super_name super_plain
    ▸ text init refl ▸ text no_parameters refl ▸ text code refl
    -- the constructor of the superclass
    ▸ (refl, refl) ▸ (unqualified init refl, λ _. inl refl, λ _ _. is_void) ▸ inr (void, void_spelled)
    ▸ (refl, refl) ▸ (inl refl, other_text init clinit refl, λ _ _. is_void) ▸ (void, void_spelled)
    -- the head
    ▸ refl ▸ refl ▸ class_name name plain ▸ refl ▸ class_name super_name super_plain
    -- the constructor
    ▸ refl ▸ refl ▸ refl ▸ refl ▸ refl ▸ (inl refl, λ _ _. is_void) ▸ refl ▸ void_of 1 (omega arith)
    ▸ refl ▸ refl ▸ refl ▸ omega arith
    -- its instructions: jumps, and then operands
    ▸ refl ▸ refl ▸ refl ▸ omega arith ▸ inr (inr (inl refl, inl tt)) ▸ tt ▸ tt

pub root_holds : AllHold (class_file_checks (raw root))
unfolding cutting.many_at descriptors.types_before instructions.instrs_at instructions.instr_at
root_holds =
    text object refl ▸ refl ▸ reference_name object object_name
    ▸ text init refl ▸ text no_parameters refl ▸ text code refl ▸ text clone refl ▸ text gives_object refl ▸ text finalize refl
    ▸ refl ▸ refl ▸ class_name object object_name
    -- the constructor, its locals and its one instruction
    ▸ refl ▸ refl ▸ refl ▸ refl ▸ refl ▸ (inl refl, λ _ _. is_void) ▸ refl ▸ void_of 0x0001 (omega arith)
    ▸ refl ▸ refl ▸ refl ▸ omega arith ▸ refl ▸ tt
    -- clone
    ▸ refl ▸ refl ▸ refl ▸ refl ▸ refl
    ▸ (method_name clone refl refl, λ is_init. absurd (other_text clone init refl is_init)) ▸ refl ▸ gives_of 0x0104 (omega arith)
    -- finalize
    ▸ refl ▸ refl ▸ refl ▸ refl ▸ refl ▸ (method_name finalize refl refl, λ _ _. is_void) ▸ refl ▸ void_of 0x0104 (omega arith) ▸ tt

pub keeper_holds : AllHold (class_file_checks (raw keeper))
unfolding cutting.many_at descriptors.types_before instructions.instrs_at instructions.instr_at
keeper_holds =
    text keeper_name refl ▸ refl ▸ reference_name keeper_name keeper_plain
    ▸ text object refl ▸ refl ▸ reference_name object object_name
    ▸ text use_name refl ▸ text keep refl ▸ text takes_object refl
    ▸ refl ▸ refl ▸ class_name keeper_name keeper_plain ▸ refl ▸ class_name object object_name
    ▸ refl ▸ refl ▸ refl ▸ refl ▸ refl
    ▸ (method_name use_name refl refl, λ is_init. absurd (other_text use_name init refl is_init)) ▸ refl ▸ takes_of 0x0109 (omega arith)
    ▸ refl ▸ refl ▸ refl ▸ refl ▸ refl
    ▸ (method_name keep refl refl, λ is_init. absurd (other_text keep init refl is_init)) ▸ refl ▸ takes_of 0x0109 (omega arith) ▸ tt
