-- Names of references: what holds under some names holds under more.
use Rattle.std.proofs.Common.{◌≡◌, ◌==◌, ℕ, List, Option, Some, None, if◌then◌else◌, refl, sym, ap, ◌∙◌}
use Rattle.std.proofs.lemmas.Bool.{eq-eqb, ne_eqb}
use Rattle.std.proofs.lemmas.Option.{none-some}
use Rattle.machine_values.specs.declared.value.Value.{Value}
use Rattle.machine_values.specs.declared.object.Object.{Object}
use Rattle.same_runs.specs.Renamings.{Names, NamesMore, SameValue, same_int, same_long, same_float, same_double, same_null, same_reference, SameValues, no_values, and_value, SameUnit, no_value, has_value, SameUnits, no_units, and_unit, SameHeld, none_held, one_held, SameReferences, no_references, and_reference, SameObject}

-- ---- more names

pub names_themselves : (names : Names) → NamesMore names names
names_themselves names = record { keeps = λ reference named is. is }

pub more_and_more : {names more most : Names} → NamesMore names more → NamesMore more most → NamesMore names most
more_and_more one other = record { keeps = λ reference named is. other.keeps reference named (one.keeps reference named is) }

-- a reference that has no name gets one
pub named_too : Names → ℕ → ℕ → Names
named_too names reference named other = if reference == other then Some named else names other

pub named_here : (names : Names) (reference named : ℕ) → named_too names reference named reference ≡ Some named
unfolding named_too
named_here names reference named = rw (eq-eqb reference reference refl) refl

pub named_other : (names : Names) (reference named other : ℕ) → (reference ≡ other → ⊥)
    → named_too names reference named other ≡ names other
unfolding named_too
named_other names reference named other differ = rw (ne_eqb reference other differ) refl

pub named_too_more : (names : Names) (reference named : ℕ) → names reference ≡ None → NamesMore names (named_too names reference named)
named_too_more names reference named none = record {
  keeps = λ other also is.
      named_other names reference named other (λ same. none-some also (sym none ∙ ap names same ∙ is)) ∙ is;
}

-- ---- under more names

pub value_more : {names more : Names} {one other : Value} → NamesMore names more → SameValue names one other → SameValue more one other
value_more grows same_int = same_int
value_more grows same_long = same_long
value_more grows same_float = same_float
value_more grows same_double = same_double
value_more grows same_null = same_null
value_more grows (same_reference {reference = reference} {named = named} is) = same_reference (grows.keeps reference named is)

pub values_more : {names more : Names} {ones others : List Value} → NamesMore names more → SameValues names ones others
    → SameValues more ones others
values_more grows no_values = no_values
values_more grows (and_value one rest) = and_value (value_more grows one) (values_more grows rest)

pub unit_more : {names more : Names} {one other : Option Value} → NamesMore names more → SameUnit names one other → SameUnit more one other
unit_more grows no_value = no_value
unit_more grows (has_value same) = has_value (value_more grows same)

pub units_more : {names more : Names} {ones others : List (Option Value)} → NamesMore names more → SameUnits names ones others
    → SameUnits more ones others
units_more grows no_units = no_units
units_more grows (and_unit one rest) = and_unit (unit_more grows one) (units_more grows rest)

pub held_more : {names more : Names} {one other : Option ℕ} → NamesMore names more → SameHeld names one other → SameHeld more one other
held_more grows none_held = none_held
held_more grows (one_held {reference = reference} {named = named} is) = one_held (grows.keeps reference named is)

pub references_more : {names more : Names} {ones others : List ℕ} → NamesMore names more → SameReferences names ones others
    → SameReferences more ones others
references_more grows no_references = no_references
references_more grows (and_reference {reference = reference} {named = named} is rest) =
    and_reference (grows.keeps reference named is) (references_more grows rest)

pub object_more : {names more : Names} {one other : Object} → NamesMore names more → SameObject names one other → SameObject more one other
object_more grows same = record { shape = same.shape; values = values_more grows same.values; monitor = same.monitor }
