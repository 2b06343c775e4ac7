-- What the library gives is the same in both runs: values, known references by their numbers, and whether they conform.
use Rattle.std.proofs.Common.{◌≡◌, ℕ, zero, suc, List, [], ◌∷◌, slice_get, Option, Some, None, refl, sym, ap, subst, ◌∙◌}
use Rattle.class_model.specs.Descriptors.{kind_of}
use Rattle.class_model.specs.declared.descriptor.FieldType.{FieldType}
use Rattle.class_model.specs.declared.descriptor.FieldType.TheVariants as types
use Rattle.machine_values.specs.Heaps.{object_at}
use Rattle.machine_values.specs.declared.action.Given.{Given}
use Rattle.machine_values.specs.declared.action.Given.TheVariants as given
use Rattle.machine_values.specs.declared.object.Object.{Object}
use Rattle.machine_values.specs.declared.value.Value.{Value}
use Rattle.member_link.specs.Machine.Acting.{all_conform, given_value, given_values, known_object}
use Rattle.member_link.specs.Machine.Programs.{Program}
use Rattle.member_link.specs.Machine.Shapes.{value_conforms}
use Rattle.member_link.specs.Machine.Worlds.{Memory, World}
use Rattle.same_runs.specs.Renamings.{Names, SameReferences, no_references, and_reference, SameUnit, no_value, has_value, SameObject, SameValue, same_int, same_long, same_float, same_double, same_null, same_reference, SameValues, no_values, and_value}
use Rattle.same_runs.specs.SameMemories.{Apart, SameMemories}
use Rattle.same_runs.specs.SamePrograms.{SamePrograms}
use Rattle.same_runs.specs.Laws.FieldWork.{conforms_same}
use Rattle.same_runs.specs.Laws.OperandWork.{kind_same}

-- a known reference of both, or of none
pub data SameKnown (names : Names) : Option ℕ → Option ℕ → Type 0 where
  not_known : SameKnown names None None
  is_known : {reference named : ℕ} → names reference ≡ Some named → SameKnown names (Some reference) (Some named)

pub known_at : {names : Names} {ones others : List ℕ} (number : ℕ) → SameReferences names ones others
    → SameKnown names (slice_get ones number) (slice_get others number)
known_at number no_references = not_known
known_at zero (and_reference is rest) = is_known is
known_at (suc number) (and_reference is rest) = known_at number rest

pub value_given : {names : Names} {ones others : List ℕ} (value : Given) → SameReferences names ones others
    → SameUnit names (given_value ones value) (given_value others value)
value_given (given.Int number) known = has_value same_int
value_given (given.Long number) known = has_value same_long
value_given (given.Float bits) known = has_value same_float
value_given (given.Double bits) known = has_value same_double
value_given given.Null known = has_value same_null
value_given {names = names} {ones = ones} {others = others} (given.Known number) known = by (slice_get ones number)
    (slice_get others number) refl refl (known_at number known) where
      by : (one other : Option ℕ) → slice_get ones number ≡ one → slice_get others number ≡ other → SameKnown names one other
          → SameUnit names (given_value ones (given.Known number)) (given_value others (given.Known number))
      by None None is is_also not_known = rw (is, is_also) no_value
      by None (Some named) is is_also impossible = elim impossible [ ]
      by (Some reference) None is is_also impossible = elim impossible [ ]
      by (Some reference) (Some named) is is_also (is_known there) = rw (is, is_also) (has_value (same_reference there))

-- values of both, or of none
pub data SameGiven (names : Names) : Option (List Value) → Option (List Value) → Type 0 where
  not_given : SameGiven names None None
  are_given : {ones others : List Value} → SameValues names ones others → SameGiven names (Some ones) (Some others)

pub values_given : {names : Names} {ones others : List ℕ} (given_all : List Given) → SameReferences names ones others
    → SameGiven names (given_values ones given_all) (given_values others given_all)
values_given [] known = are_given no_values
values_given {names = names} {ones = ones} {others = others} (value ∷ rest) known =
    by (given_value ones value) (given_value others value) refl refl (value_given value known) (given_values ones rest)
    (given_values others rest) refl refl (values_given rest known) where
      by : (one other : Option Value) → given_value ones value ≡ one → given_value others value ≡ other → SameUnit names one other
          → (more also : Option (List Value)) → given_values ones rest ≡ more → given_values others rest ≡ also → SameGiven names more also
          → SameGiven names (given_values ones (value ∷ rest)) (given_values others (value ∷ rest))
      by None None is is_also no_value more also e e_also same = rw (is, is_also) not_given
      by None (Some v) is is_also impossible more also e e_also same = elim impossible [ ]
      by (Some v) None is is_also impossible more also e e_also same = elim impossible [ ]
      by (Some v) (Some w) is is_also (has_value here) None None e e_also not_given = rw (is, is_also, e, e_also) not_given
      by (Some v) (Some w) is is_also (has_value here) None (Some also) e e_also impossible = elim impossible [ ]
      by (Some v) (Some w) is is_also (has_value here) (Some more) None e e_also impossible = elim impossible [ ]
      by (Some v) (Some w) is is_also (has_value here) (Some more) (Some also) e e_also (are_given same) = rw (is, is_also, e, e_also)
          (are_given (and_value here same))

module _ {P Q : Program} {Allocated Entered : ℕ → ℕ → Type 0} {apart : Apart} {names : Names} {one other : Memory}
    (same : SamePrograms P Q) (memories : SameMemories P Allocated Entered apart names [] one other) where
  pub conforms_both : (type : FieldType) {value also : Value} → SameValue names value also
      → value_conforms Q other.heap type also ≡ value_conforms P one.heap type value
  conforms_both (types.Named name) same_int = refl
  conforms_both (types.Named name) same_long = refl
  conforms_both (types.Named name) same_float = refl
  conforms_both (types.Named name) same_double = refl
  conforms_both (types.Named name) same_null = refl
  conforms_both (types.Named name)
      (same_reference {reference = reference} {named = named} is) = conforms_same same memories reference named name is
  conforms_both types.Byte is = kind_same same memories (kind_of types.Byte) is
  conforms_both types.Char is = kind_same same memories (kind_of types.Char) is
  conforms_both types.Short is = kind_same same memories (kind_of types.Short) is
  conforms_both types.Bool is = kind_same same memories (kind_of types.Bool) is
  conforms_both types.Int is = kind_same same memories (kind_of types.Int) is
  conforms_both types.Long is = kind_same same memories (kind_of types.Long) is
  conforms_both types.Float is = kind_same same memories (kind_of types.Float) is
  conforms_both types.Double is = kind_same same memories (kind_of types.Double) is

  pub all_conform_both : (first second : World) → first.memory ≡ one → second.memory ≡ other
      → (all : List FieldType) {ones others : List Value} → SameValues names ones others
      → all_conform Q second all others ≡ all_conform P first all ones
  all_conform_both first second is is_also [] no_values = refl
  all_conform_both first second is is_also [] (and_value here rest) = refl
  all_conform_both first second is is_also (type ∷ all) no_values = refl
  all_conform_both first second is is_also (type ∷ all) (and_value {one = value} {other = also} here rest) =
      rw (
        ap (λ (m : Memory). value_conforms Q m.heap type also) is_also ∙ conforms_both type here
            ∙ sym (ap (λ (m : Memory). value_conforms P m.heap type value) is),
        all_conform_both first second is is_also all rest,
      ) refl

-- the object of a known reference
pub data SameObjects (names : Names) : Option Object → Option Object → Type 0 where
  no_object : SameObjects names None None
  one_object : {object also : Object} → SameObject names object also → SameObjects names (Some object) (Some also)

pub objects_known : {P : Program} {Allocated Entered : ℕ → ℕ → Type 0} {apart : Apart} {names : Names} (first second : World) {reference named : Option ℕ}
    → SameMemories P Allocated Entered apart names [] first.memory second.memory
    → SameKnown names reference named
    → SameObjects names (known_object first reference) (known_object second named)
objects_known first second memories not_known = no_object
objects_known {names = names} first second memories (is_known {reference = reference} {named = named} is) =
    let old = memories.heaps.objects reference named is in
    subst (λ (found : Option Object). SameObjects names (object_at first.memory.heap reference) found) (sym old.3)
    (subst (λ (found : Option Object). SameObjects names found (Some old.1)) (sym old.2) (one_object old.4))
