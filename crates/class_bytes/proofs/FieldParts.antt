-- A field is what stands in front of its attributes, and its attributes.
use Rattle.std.proofs.Common.{◌≡◌, ◌⊎◌, ◌&&◌, inl, inr, Bool, true, false, ℕ, ◌+◌, List, [], ◌∷◌, length, Result, Ok, Err, ◌∙◌, arith}
use Rattle.std.specs.Prelude.{IfSome, IsSome, IsTrue, IsFalse}
use Rattle.class_model.specs.Answers.{Tells}
use Rattle.class_model.specs.Checks.{Check, check, AllHold, Fault, asked_if}
use Rattle.class_model.specs.Laws.Answers.{goes_on}
use Rattle.class_model.specs.Members.{Signature, fits_field, stands_before, attrs_checks, field_attr_checks, field_checks, field_signature}
use Rattle.class_model.specs.Names.{IsFieldName}
use Rattle.class_model.specs.Pool.{Constants}
use Rattle.class_model.specs.PoolChecks.{utf8_at, IsFieldDescriptor}
use Rattle.class_model.specs.Spelling.{field_bytes}
use Rattle.class_model.specs.declared.class_file.Field.{Field}
use Rattle.class_model.specs.declared.fault.ClassFault.{ClassFault}
use Rattle.class_model.specs.declared.fault.ClassFault.TheVariants.{Malformed, Version, NoMemory}
use Rattle.class_model.specs.declared.fault.FileRule.TheVariants as rules
use Rattle.class_bytes.specs.Inner.Parts.{attrs_len}

-- the same answer, of which something else is said
pub tells_too : {X : Type 0} (checks : List (Check Fault)) (Is Other : X → Type 0) → ((x : X) → Is x → Other x) → (result : Result X ClassFault) → Tells checks Is result → Tells checks Other result
tells_too checks Is Other then (Ok x) told = (told.0, then x told.1)
tells_too checks Is Other then (Err (Malformed at rule)) told = told
tells_too checks Is Other then (Err NoMemory) told = told
tells_too checks Is Other then (Err (Version major minor)) told = told

abbrev pub field_front : Constants → ℕ → List Signature → ℕ → Field → List (Check Fault)
field_front pool class_flags before at field =
    check at rules.Flags (IsTrue (fits_field class_flags field.flags))
    ∷ check at rules.Twice (IsFalse (stands_before pool before (field_signature field)))
    ∷ check (at + 2) rules.Index (IsSome (utf8_at pool field.name))
    ∷ check (at + 2) rules.Name (IfSome (utf8_at pool field.name) IsFieldName)
    ∷ check (at + 4) rules.Index (IsSome (utf8_at pool field.desc))
    ∷ check (at + 4) rules.Descriptor (IfSome (utf8_at pool field.desc) IsFieldDescriptor)
    ∷ []

field_len : (at : ℕ) (field : Field) → (at + 8) + attrs_len field.attrs ≡ at + length (field_bytes field)
field_len at field = omega arith

pub field_behind : (pool : Constants) (class_flags : ℕ) (before : List Signature) (at : ℕ) (field : Field) (result : Result ℕ ClassFault) → AllHold (field_front pool class_flags before at field)
    → Tells (attrs_checks (field_attr_checks pool field) [] (at + 8) field.attrs) (λ end. end ≡ (at + 8) + attrs_len field.attrs) result
    → Tells (field_checks pool class_flags before at field) (λ end. end ≡ at + length (field_bytes field)) result
field_behind pool class_flags before at field result hold told =
    goes_on (field_front pool class_flags before at field) _ _ result hold
    (tells_too _ _ _ (λ end is. is ∙ field_len at field) result told)

-- an attribute that is no ConstantValue of a static field is asked nothing more
pub not_asked : {F : Type 0} (static named : Bool) (checks : List (Check F)) → (static ≡ false) ⊎ (named ≡ false) → AllHold (asked_if (static && named) checks)
not_asked true true checks (inl e) = absurd cc
not_asked true true checks (inr e) = absurd cc
not_asked true false checks other = tt
not_asked false named checks other = tt
