-- The parameters of a method, one after the other.
use Rattle.std.proofs.Common.{◌≡◌, ◌+◌, ◌≤◌, ◌++◌, ℕ, Bool, true, false, not, List, [], ◌∷◌, map, refl, sym, ap, ◌∙◌, arith, append_assoc, if◌then◌else◌}
use Rattle.std.proofs.lemmas.List.{map-append}
use Rattle.std.proofs.lemmas.List.Sums.{sum_by-cons}
use Rattle.std.specs.List.{AllByRecursion}
use Rattle.class_model.specs.Descriptors.{kind_of, parameter_units, parameters_of, units_of}
use Rattle.class_model.specs.Laws.Lists.{AllByRecursion-weaker}
use Rattle.class_model.specs.Members.{STATIC, has}
use Rattle.class_model.specs.Methods.{units_at_call}
use Rattle.class_model.specs.declared.descriptor.FieldType.{FieldType}
use Rattle.expanded_code.specs.Expanded.{Argument, arguments, arguments_from}
use Rattle.inline_expand.specs.Inner.Layouts.{AreParameters, EndsBy, argument_from}
use Rattle.inline_expand.specs.declared.expanded.shapes.Parameter.{Parameter}
use Rattle.member_link.specs.Scope.{Scope, own_descriptor}

pub units-cons : (type : FieldType) (types : List FieldType) → parameter_units (type ∷ types) ≡ units_of (kind_of type) + parameter_units types
units-cons type types = sum_by-cons (λ (t : FieldType). units_of (kind_of t)) type types

-- one more
pub one-parameter : (from unit : ℕ) (parameters : List Parameter) (type : FieldType) (types : List FieldType)
    → map (argument_from from) (parameters ++ record { kind = kind_of type; unit = unit } ∷ []) ++ arguments_from (from + (unit + units_of (kind_of type))) types
    ≡ map (argument_from from) parameters ++ arguments_from (from + unit) (type ∷ types)
one-parameter from unit parameters type types =
    let one : Parameter = record { kind = kind_of type; unit = unit } in
    let same : from + (unit + units_of (kind_of type)) ≡ from + unit + units_of (kind_of type) = omega arith in
    ap (λ (all : List Argument). all ++ arguments_from (from + (unit + units_of (kind_of type))) types) (map-append (argument_from from) parameters (one ∷ []))
    ∙ append_assoc (map (argument_from from) parameters) (argument_from from one ∷ []) (arguments_from (from + (unit + units_of (kind_of type))) types)
    ∙ ap (λ (n : ℕ). map (argument_from from) parameters ++ argument_from from one ∷ arguments_from n types) same

pub one-inside : (P : Parameter → Type 0) (parameters : List Parameter) (parameter : Parameter) → AllByRecursion P parameters → P parameter → AllByRecursion P (parameters ++ parameter ∷ [])
one-inside P [] parameter all holds = (holds, tt)
one-inside P (first ∷ parameters) parameter all holds = (all.0, one-inside P parameters parameter all.1 holds)

-- from one parameter to the next
pub next-units : (unit : ℕ) (type : FieldType) (types rest : List FieldType) (whole : ℕ) → types ≡ type ∷ rest → unit + parameter_units types ≡ whole → unit + units_of (kind_of type) + parameter_units rest ≡ whole
next-units unit type types rest whole cut units =
    let own : parameter_units types ≡ units_of (kind_of type) + parameter_units rest = ap parameter_units cut ∙ units-cons type rest in
    omega (arith, own, units)

-- ---- the shape of a method

-- the arguments of a method
pub its-arguments : (s : Scope) (static : Bool) (types : List FieldType) (parameters : List Parameter)
    → has s.method.flags STATIC ≡ static
    → parameters_of (own_descriptor s) ≡ types
    → AreParameters (not static) types parameters
    → (unit : ℕ) → arguments s unit ≡ map (argument_from unit) parameters
its-arguments s true types parameters is spelled are unit = rw (is, spelled) (sym (are.each unit))
its-arguments s false types parameters is spelled are unit = rw (is, spelled) (sym (are.each unit))

pub its-units : (s : Scope) (static : Bool) (types : List FieldType) (parameters : List Parameter)
    → has s.method.flags STATIC ≡ static
    → parameters_of (own_descriptor s) ≡ types
    → units_at_call s.method.flags (own_descriptor s) ≤ s.part.max_locals
    → AreParameters (not static) types parameters
    → AllByRecursion (EndsBy s.part.max_locals) parameters
its-units s static types parameters is spelled fits are =
    AllByRecursion-weaker (EndsBy (parameter_units types + (if not static then 1 else 0))) (EndsBy s.part.max_locals)
    (λ parameter ends. omega (arith, ends, whole static is, fits)) parameters are.inside where
      whole : (static : Bool) → has s.method.flags STATIC ≡ static → parameter_units types + (if not static then 1 else 0) ≡ units_at_call s.method.flags (own_descriptor s)
      whole true is = rw (is, spelled) refl
      whole false is = rw (is, spelled) refl
