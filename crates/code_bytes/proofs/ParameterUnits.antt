-- The local units of this and of parameters leave room for more.
use Rattle.std.proofs.Common.{◌≡◌, ◌^◌, ◌-◌, ◌*◌, ◌<◌, ◌≤◌, inl, inr, ℕ, List, [], ◌∷◌, ◌++◌, length, map, take, Option, ap, arith, length-append}
use Rattle.std.proofs.lemmas.Bool.{cases_Bool}
use Rattle.std.proofs.lemmas.List.{length-take}
use Rattle.class_model.specs.Code.{verification_type}
use Rattle.class_model.specs.Frames.{units, units_of_entries}
use Rattle.class_model.specs.Members.{has, STATIC}
use Rattle.class_model.specs.declared.descriptor.FieldType.{FieldType}
use Rattle.class_model.specs.declared.descriptor.FieldType.TheVariants.{Byte, Char, Short, Bool, Int, Long, Float, Double, Named}
use Rattle.class_model.specs.declared.frame.VType.{VType}
use Rattle.code_bytes.specs.Entry.{this_entries}

few_units : (type : FieldType) → length (units (verification_type type)) ≤ 2
few_units Byte = omega arith
few_units Char = omega arith
few_units Short = omega arith
few_units Bool = omega arith
few_units Int = omega arith
few_units Long = omega arith
few_units Float = omega arith
few_units Double = omega arith
few_units (Named name) = omega arith

-- at most two a parameter
few_in_all : (params : List FieldType) → length (units_of_entries (map verification_type params)) ≤ 2 * length params
few_in_all [] = omega arith
few_in_all (type ∷ types) =
    omega (arith, few_units type, few_in_all types, length-append (units (verification_type type)) (units_of_entries (map verification_type types)))

-- one for this, if there is one
one_this : (flags : ℕ) (name class : Option (List ℕ)) → length (this_entries flags name class) ≤ 1
one_this flags name class = elim (cases_Bool (has flags STATIC)) [ inl e ↦ rw e (omega arith) | inr e ↦ rw e (omega arith) ]

-- the units before a parameter leave room for its own
pub room_before :
    (flags : ℕ) (name class : Option (List ℕ)) (params : List FieldType) (at : ℕ) (locals : List VType)
    → length params < 2 ^ 62
    → at < length params
    → locals ≡ this_entries flags name class ++ units_of_entries (map verification_type (take at params))
    → length locals < 2 ^ 64 - 2
room_before flags name class params at locals small within are =
    let before = take at params in
    omega (
      arith,
      ap length are,
      length-append (this_entries flags name class) (units_of_entries (map verification_type before)),
      one_this flags name class,
      few_in_all before,
      length-take at params,
    )
