-- The checks of generated methods hold, in any pool that begins with the constants of generated work.
use Rattle.std.proofs.Common.{◌≡◌, ◌+◌, ◌<◌, ◌≤◌, ℕ, suc, List, [], ◌∷◌, ◌++◌, length, Some, inl, inr, refl, arith, codes}
use Rattle.std.specs.Prelude.{IsFalse}
use Rattle.class_model.specs.Checks.{AllHold}
use Rattle.class_model.specs.ClassOf.{methods_checks}
use Rattle.class_model.specs.Descriptors as descriptors
use Rattle.class_model.specs.Frames as frames
use Rattle.class_model.specs.Instructions as instructions
use Rattle.class_model.specs.Laws.Checks.{◌▸◌, both_hold}
use Rattle.class_model.specs.Members.{Signature, stands_before}
use Rattle.class_model.specs.Methods.{Home, IsDescriptorOf, method_checks, part_checks}
use Rattle.class_model.specs.Names.{init}
use Rattle.class_model.specs.Pool.{Constants}
use Rattle.class_model.specs.PoolChecks.{InitIsVoid, utf8_at}
use Rattle.class_model.specs.declared.descriptor.FieldType.TheVariants.{Int}
use Rattle.work_gen.specs.Generated.{indexed, kind_code, method_name, work_constants, work_method}
use Rattle.work_gen.specs.declared.choices.Choice.{Choice}
use Rattle.work_gen.specs.declared.choices.Kind.{Kind}
use Rattle.work_gen.specs.declared.choices.Kind.TheVariants.{Adds, Loops, Branches, Locks}
use Rattle.work_gen.proofs.HeldChecks.{other_text}
use Rattle.work_gen.proofs.WorkNames.{is_method_name, none_before, signature_of, signatures}

-- the class of the methods, with these constants behind those that it always has
abbrev pub home : Constants → Home
home more = record { pool = work_constants ++ more; major = 52; flags = 0x0021; name = Some (codes "G") }

-- ---- the code of each kind

abbrev PartHolds : Kind → Type 0
PartHolds kind = (more : Constants) (number at : ℕ) (choice : Choice) → AllHold (part_checks (home more) (work_method number choice) at (kind_code kind))

adds_holds : PartHolds Adds
unfolding descriptors.types_before instructions.instrs_at instructions.instr_at
adds_holds more number at choice =
    refl ▸ omega arith
    -- targets
    ▸ refl ▸ refl ▸ refl ▸ refl ▸ refl ▸ refl ▸ refl ▸ refl ▸ refl ▸ refl ▸ refl ▸ refl
    -- operands: the object is made and kept
    ▸ refl ▸ tt ▸ omega arith ▸ tt ▸ inr (inr (inl refl, inl tt)) ▸ omega arith
    -- its fields are added
    ▸ omega arith ▸ tt ▸ omega arith ▸ inl (refl, tt) ▸ tt ▸ tt
    ▸ tt

loops_holds : PartHolds Loops
unfolding descriptors.types_before instructions.instrs_at instructions.instr_at frames.frames_at frames.verification_types_at frames.entries_of_units
loops_holds more number at choice =
    refl ▸ omega arith
    ▸ refl ▸ refl ▸ refl ▸ refl ▸ refl ▸ refl ▸ refl ▸ refl ▸ refl ▸ refl ▸ refl
    ▸ refl ▸ refl ▸ refl ▸ refl ▸ refl ▸ refl ▸ refl ▸ refl ▸ refl ▸ refl ▸ refl
    -- the sum, the counter and the test
    ▸ tt ▸ omega arith ▸ tt ▸ omega arith ▸ omega arith ▸ omega arith ▸ tt
    -- the object
    ▸ refl ▸ tt ▸ omega arith ▸ omega arith ▸ inr (inr (inl refl, inl tt)) ▸ omega arith
    -- its field is added
    ▸ omega arith ▸ omega arith ▸ tt ▸ tt ▸ omega arith ▸ omega arith ▸ tt ▸ omega arith ▸ tt
    -- the frames
    ▸ refl ▸ refl ▸ tt

branches_holds : PartHolds Branches
unfolding descriptors.types_before instructions.instrs_at instructions.instr_at frames.frames_at frames.verification_types_at frames.entries_of_units
branches_holds more number at choice =
    refl ▸ omega arith
    ▸ refl ▸ refl ▸ refl ▸ refl ▸ refl ▸ refl ▸ refl ▸ refl ▸ refl ▸ refl
    ▸ refl ▸ refl ▸ refl ▸ refl ▸ refl ▸ refl ▸ refl ▸ refl ▸ refl
    -- the object
    ▸ refl ▸ tt ▸ tt ▸ tt ▸ inr (inr (inl refl, inl tt)) ▸ omega arith
    -- the branches
    ▸ omega arith ▸ tt ▸ tt ▸ tt ▸ tt ▸ omega arith ▸ tt ▸ tt ▸ omega arith ▸ inr (inr (inr refl, inl tt))
    ▸ omega arith ▸ tt ▸ tt
    ▸ refl ▸ refl ▸ tt

locks_holds : PartHolds Locks
unfolding descriptors.types_before instructions.instrs_at instructions.instr_at frames.frames_at frames.verification_types_at frames.entries_of_units
locks_holds more number at choice =
    refl ▸ omega arith
    ▸ refl ▸ refl ▸ refl ▸ refl ▸ refl ▸ refl ▸ refl ▸ refl ▸ refl ▸ refl
    ▸ refl ▸ refl ▸ refl ▸ refl ▸ refl ▸ refl ▸ refl ▸ refl ▸ refl ▸ refl
    -- the object, and its monitor
    ▸ refl ▸ tt ▸ omega arith ▸ tt ▸ inr (inr (inl refl, inl tt)) ▸ omega arith ▸ omega arith ▸ tt ▸ omega arith ▸ tt
    -- the field, and the monitor again
    ▸ omega arith ▸ tt ▸ omega arith ▸ tt ▸ tt ▸ omega arith ▸ omega arith ▸ tt ▸ omega arith ▸ tt
    -- the exception table
    ▸ record { some = omega arith; start = refl; end = refl; at = refl } ▸ inl refl
    ▸ record { some = omega arith; start = refl; end = refl; at = refl } ▸ inl refl
    ▸ refl ▸ refl ▸ tt

part_holds : (kind : Kind) → PartHolds kind
part_holds Adds = adds_holds
part_holds Loops = loops_holds
part_holds Branches = branches_holds
part_holds Locks = locks_holds

-- ---- methods

int_to_int : IsDescriptorOf 0x0009 (codes "(I)I")
int_to_int = record {
  descriptor = record { params = Int ∷ []; result = Some Int };
  spelled = record { is_descriptor = record { params = (tt, tt); units = omega arith; result = tt }; spelled = refl };
  units = omega arith;
}

is_no_init : (number : ℕ) → InitIsVoid (method_name number) (Some (codes "(I)I"))
is_no_init number is_init = absurd (other_text (method_name number) init refl is_init)

method_holds : (more : Constants) (number at : ℕ) (choice : Choice) (before : List Signature)
    → number ≤ 1000
    → utf8_at (work_constants ++ more) (30 + number) ≡ Some (method_name number)
    → IsFalse (stands_before (work_constants ++ more) before (signature_of number))
    → AllHold (method_checks (home more) before at (work_method number choice))
method_holds more number at choice before few named apart =
    rw named refl ▸ apart ▸ refl ▸ refl
    ▸ rw named refl ▸ rw named (is_method_name number few, is_no_init number)
    ▸ refl ▸ int_to_int
    ▸ refl ▸ refl ▸ both_hold (part_checks (home more) (work_method number choice) (at + 8) (kind_code choice.kind)) [] (part_holds choice.kind more number (at + 8) choice) tt

pub methods_hold : (more : Constants) (number at : ℕ) (left : List Choice)
    → number + length left ≤ 1000
    → ((n : ℕ) → n < number + length left → utf8_at (work_constants ++ more) (30 + n) ≡ Some (method_name n))
    → AllHold (methods_checks (home more) (signatures number) at (indexed (λ n choice. work_method n choice ∷ []) number left))
methods_hold more number at [] few named = tt
methods_hold more number at (choice ∷ left) few named =
    let here : utf8_at (work_constants ++ more) (30 + number) ≡ Some (method_name number) = named number (omega arith) in
    let apart = none_before (work_constants ++ more) number (omega (arith, few)) (λ n within. named n (omega (arith, within))) number (omega arith) in
    both_hold (method_checks (home more) (signatures number) at (work_method number choice)) _
    (method_holds more number at choice (signatures number) (omega (arith, few)) here apart)
    (methods_hold more (suc number) _ left (omega (arith, few)) (λ n within. named n (omega (arith, within))))
