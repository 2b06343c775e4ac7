-- What a call takes and gives, by the descriptor of the method.
use Rattle.std.specs.Prelude.{◌≡◌, ◌+◌, ℕ, List, [], ◌∷◌, ◌++◌, length, map, Option, Some, None, Result, Ok, Err}
use Rattle.class_model.specs.Code.{verification_type}
use Rattle.class_model.specs.declared.descriptor.Descriptor.{Descriptor}
use Rattle.class_model.specs.declared.descriptor.FieldType.{FieldType}
use Rattle.class_model.specs.declared.frame.Frame.{Frame}
use Rattle.class_model.specs.declared.frame.VType.{VType}
use Rattle.class_model.specs.declared.frame.VType.TheVariants as types
use Rattle.class_tree.specs.Headers.{Name}
use Rattle.member_link.specs.References.{Reference}
use Rattle.member_link.specs.RowScope.{RowScope}
use Rattle.member_link.specs.Rows.MemberRows.{MayInitialise, PassesInitialiser, initialised_type, result_types}
use Rattle.member_link.specs.Rows.Operands.{Need, AllFit, assignable_to, lowest_of, topmost, uninitialised}
use Rattle.member_link.specs.Rows.Row.{Row, conditional}
use Rattle.type_rules.specs.Inner.Meanings.{need_meant}
use Rattle.type_rules.specs.declared.fault.RuleFault.{RuleFault}
use Rattle.type_rules.specs.declared.fault.RuleFault.TheVariants as faults
use Rattle.type_rules.specs.declared.fault.TypeRule.TheVariants as rules
use Rattle.type_rules.specs.declared.need.Need as code

-- what is asked of a receiver, if there is one
abbrev pub receiver_needs : Option code.Need → List Need
receiver_needs None = []
receiver_needs (Some need) = need_meant need ∷ []

abbrev pub operand_needs : Option code.Need → List FieldType → List Need
operand_needs receiver params =
    receiver_needs receiver ++ map (λ param. assignable_to (verification_type param)) params

abbrev pub signature_row : Frame → Option code.Need → Descriptor → Type 0 → Type 0 → Row
signature_row f receiver d Further Access =
    conditional f (operand_needs receiver d.params) (result_types d.result) Further Access

-- the operands fit, and are so many
abbrev pub TakesSo : RowScope → Frame → List Need → Result ℕ RuleFault → Type 0
TakesSo s f needs (Ok count) =
    AllFit s needs (topmost (length needs) f.stack) × (count ≡ length needs)
TakesSo s f needs (Err (faults.Fails rules.Stack)) =
    ¬ AllFit s needs (topmost (length needs) f.stack)
TakesSo s f needs (Err other) = ⊥

-- a call of an instance initialiser with these parameters and this result
abbrev pub init_signature : RowScope → Frame → Reference → List FieldType → Option FieldType → Row
init_signature s f reference params result =
    let receiver = lowest_of (length params + 1) f.stack in
    record (conditional f (uninitialised ∷ map (λ param. assignable_to (verification_type param)) params) (result_types result) (MayInitialise s reference receiver) (PassesInitialiser s reference receiver)) {
      locals = map (initialised_type s reference receiver) f.locals;
      becomes = λ entries. map (initialised_type s reference receiver) entries;
    }

-- the name of the class that a type becomes one of, or the type stays
abbrev pub Becomes : RowScope → Reference → VType → VType → Option Name → Type 0
Becomes s reference receiver type (Some name) =
    initialised_type s reference receiver type ≡ types.Object name
Becomes s reference receiver type None = initialised_type s reference receiver type ≡ type
