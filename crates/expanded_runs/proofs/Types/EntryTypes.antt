-- What is passed to a callee may stand for what its first frame says.
use Rattle.flow_code.specs.ReadTypes.{read_type}
use Rattle.std.proofs.Common.{◌≡◌, ◌≢◌, ◌+◌, ℕ, zero, suc, List, [], ◌∷◌, ◌++◌, length, map, replicate, refl, sym, ap, subst}
use Rattle.std.specs.List.{AllByRecursion}
use Rattle.class_model.specs.Code.{verification_type}
use Rattle.class_model.specs.Descriptors.{kind_of, units_of}
use Rattle.class_model.specs.Frames.{units, units_of_entries}
use Rattle.class_model.specs.declared.descriptor.FieldType.{FieldType}
use Rattle.class_model.specs.declared.descriptor.FieldType.TheVariants as field_types
use Rattle.class_model.specs.declared.descriptor.Kind.TheVariants as kinds
use Rattle.class_model.specs.declared.frame.VType.{VType}
use Rattle.class_model.specs.declared.frame.VType.TheVariants as types
use Rattle.class_tree.specs.Headers.{Headers, Name}
use Rattle.class_tree.specs.Hierarchy.{IsHierarchy}
use Rattle.expanded_code.specs.Callees.{SayAtMost, SaysAtMost}
use Rattle.expanded_code.specs.Expanded.{Setting, arguments_from, set_type}
use Rattle.expanded_runs.proofs.Types.CallFacts.{passes}
use Rattle.expanded_runs.proofs.Types.FrameFacts.{top_only}
use Rattle.expanded_runs.proofs.Types.StoredUnits.{ArgumentsLaid, none_laid, one_more_laid}
use Rattle.expanded_runs.proofs.Types.ThroughClass.{ArrayInterfaces, IsKnown}
use Rattle.flow_code.specs.FlatCode.{FlatCode}
use Rattle.member_link.specs.Assignability.{IsAssignable, from_null, of_names, to_same, to_top}
use Rattle.member_link.specs.Rows.FrameAssignability.{AreAssignable}
use Rattle.member_link.specs.Rows.Operands.{IsOfKind}

-- ---- arguments

-- values of the declared types of parameters, each of a class that is there
abbrev pub AreArguments : Headers → List FieldType → List VType → Type 0
AreArguments headers [] [] = Unit {0}
AreArguments headers (type ∷ params) (value ∷ values) =
    (IsAssignable headers value (verification_type type) × IsKnown headers value) × AreArguments headers params values
AreArguments headers params values = ⊥

-- what is below a type that is neither Top nor a class is that type
same_below : {headers : Headers} {from to : VType} → IsAssignable headers from to → to ≢ types.Top → ((name : Name) → to ≢ types.Object name)
    → from ≡ to
same_below (to_same type) top named = refl
same_below (to_top type) top named = absurd (top refl)
same_below (from_null name) top named = absurd (named name refl)
same_below (of_names low high is) top named = absurd (named high refl)

-- what is below a class is a reference of one unit
pub record IsNamedBelow (t : Setting) (type : VType) : Type 0 where
  pub unit : units (set_type t type) ≡ set_type t type ∷ []
  pub reference : IsOfKind kinds.Ref (set_type t type)
  pub other : set_type t type ≢ types.UninitThis

pub named_below : (t : Setting) {headers : Headers} {from to : VType} (name : Name) → IsAssignable headers from to → to ≡ types.Object name
    → IsNamedBelow t from
named_below t name (to_same type) is =
    subst (IsNamedBelow t) (sym is) (record { unit = refl; reference = tt; other = λ e. cc })
named_below t name (to_top type) is = absurd cc
named_below t name (from_null other) is = record { unit = refl; reference = tt; other = λ e. cc }
named_below t name (of_names low high names) is = record { unit = refl; reference = tt; other = λ e. cc }

module _ (flat : FlatCode) (headers : Headers) (hierarchy : IsHierarchy headers) (arrays : ArrayInterfaces headers) (t q : Setting) where
  -- ---- one argument

  -- its units, its kind, and what may stand for it
  record IsPassed (type : FieldType) (value : VType) : Type 0 where
    many : length (units (set_type t value)) ≡ units_of (kind_of type)
    kind : IsOfKind (kind_of type) (set_type t value)
    other : set_type t value ≢ types.UninitThis

  passed : (type : FieldType) (value : VType) → IsAssignable headers value (verification_type type) → IsPassed type value
  passed (field_types.Named name) value is =
      let below = named_below t name is refl in
      record { many = ap length below.unit; kind = below.reference; other = below.other }
  passed field_types.Byte value is = let same = same_below is (λ e. cc) (λ name e. cc) in subst (IsPassed field_types.Byte) (sym same) (record { many = refl; kind = refl; other = λ e. cc })
  passed field_types.Char value is = let same = same_below is (λ e. cc) (λ name e. cc) in subst (IsPassed field_types.Char) (sym same) (record { many = refl; kind = refl; other = λ e. cc })
  passed field_types.Short value is = let same = same_below is (λ e. cc) (λ name e. cc) in subst (IsPassed field_types.Short) (sym same) (record { many = refl; kind = refl; other = λ e. cc })
  passed field_types.Bool value is = let same = same_below is (λ e. cc) (λ name e. cc) in subst (IsPassed field_types.Bool) (sym same) (record { many = refl; kind = refl; other = λ e. cc })
  passed field_types.Int value is = let same = same_below is (λ e. cc) (λ name e. cc) in subst (IsPassed field_types.Int) (sym same) (record { many = refl; kind = refl; other = λ e. cc })
  passed field_types.Long value is = let same = same_below is (λ e. cc) (λ name e. cc) in subst (IsPassed field_types.Long) (sym same) (record { many = refl; kind = refl; other = λ e. cc })
  passed field_types.Float value is = let same = same_below is (λ e. cc) (λ name e. cc) in subst (IsPassed field_types.Float) (sym same) (record { many = refl; kind = refl; other = λ e. cc })
  passed field_types.Double value is = let same = same_below is (λ e. cc) (λ name e. cc) in subst (IsPassed field_types.Double) (sym same) (record { many = refl; kind = refl; other = λ e. cc })

  -- ---- all

  pub params_laid : (unit : ℕ) (params : List FieldType) (values : List VType) → AreArguments headers params values
      → ArgumentsLaid unit (arguments_from unit params) (map (set_type t) values)
  params_laid unit [] [] are = none_laid
  params_laid unit [] (value ∷ values) are = absurd are
  params_laid unit (type ∷ params) [] are = absurd are
  params_laid unit (type ∷ params) (value ∷ values) are =
      let one = passed type value are.0.0 in
      one_more_laid refl one.kind
      (subst (λ (n : ℕ). ArgumentsLaid (unit + n) (arguments_from (unit + units_of (kind_of type)) params) (map (set_type t) values)) (sym one.many)
      (params_laid (unit + units_of (kind_of type)) params values are.1))

  pub params_free : (params : List FieldType) (values : List VType) → AreArguments headers params values
      → AllByRecursion (λ (type : VType). type ≢ types.UninitThis) (map (set_type t) values)
  params_free [] [] are = tt
  params_free [] (value ∷ values) are = absurd are
  params_free (type ∷ params) [] are = absurd are
  params_free (type ∷ params) (value ∷ values) are = ((passed type value are.0.0).other, params_free params values are.1)

  -- units as they are read
  abbrev read : List VType → List VType
  read entries = map (read_type flat) entries

  pub tops_pass : (count : ℕ) (said : List VType) → AreAssignable headers (replicate count types.Top) said
      → AreAssignable headers (map (read_type flat) (replicate count types.Top)) (map (read_type flat) (map (set_type q) said))
  tops_pass zero [] are = tt
  tops_pass zero (type ∷ said) are = absurd are
  tops_pass (suc count) [] are = absurd are
  tops_pass (suc count) (type ∷ said) are =
      let same : type ≡ types.Top = top_only are.0 refl in (
        subst (λ (u : VType). IsAssignable headers types.Top (read_type flat (set_type q u))) (sym same) (to_top types.Top),
        tops_pass count said are.1,
      )

  -- a value of one unit
  one_step : (type : FieldType) (value said : VType) (own behind more : List VType) (rest : List VType)
      → units (set_type t value) ≡ set_type t value ∷ []
      → IsAssignable headers value (verification_type type)
      → IsKnown headers value
      → IsAssignable headers (verification_type type) said
      → SaysAtMost headers type said
      → AreAssignable headers (map (read_type flat) (own ++ more)) (map (read_type flat) (map (set_type q) rest))
      → AreAssignable headers (map (read_type flat) ((units (set_type t value) ++ own) ++ more)) (map (read_type flat) (map (set_type q) (said ∷ rest)))
  one_step type value said own behind more rest unit one known other says later =
      subst (λ (u : List VType). AreAssignable headers (map (read_type flat) ((u ++ own) ++ more)) (map (read_type flat) (map (set_type q) (said ∷ rest))))
      (sym unit) (passes flat headers hierarchy arrays t q type value said one other says known, later)

  -- one of two
  two_step : (type : FieldType) (value said other_said : VType) (own more rest : List VType)
      → units (set_type t value) ≡ set_type t value ∷ types.Top ∷ []
      → IsAssignable headers value (verification_type type)
      → IsKnown headers value
      → IsAssignable headers (verification_type type) said
      → IsAssignable headers types.Top other_said
      → SaysAtMost headers type said
      → AreAssignable headers (map (read_type flat) (own ++ more)) (map (read_type flat) (map (set_type q) rest))
      → AreAssignable headers (map (read_type flat) ((units (set_type t value) ++ own) ++ more))
      (map (read_type flat) (map (set_type q) (said ∷ other_said ∷ rest)))
  two_step type value said other_said own more rest unit one known other top says later =
      let same : other_said ≡ types.Top = top_only top refl in
      subst (λ (u : List VType). AreAssignable headers (map (read_type flat) ((u ++ own) ++ more))
      (map (read_type flat) (map (set_type q) (said ∷ other_said ∷ rest)))) (sym unit) (
        passes flat headers hierarchy arrays t q type value said one other says known,
        (
          subst (λ (u : VType). IsAssignable headers types.Top (read_type flat (set_type q u))) (sym same) (to_top types.Top),
          later,
        ),
      )

  -- What is passed, and Tops behind, may stand for what is said.
  pub params_pass : (params : List FieldType) (values : List VType) (count : ℕ) (said : List VType) → AreArguments headers params values
      → AreAssignable headers (units_of_entries (map verification_type params) ++ replicate count types.Top) said
      → SayAtMost headers params said
      → AreAssignable headers (map (read_type flat) (units_of_entries (map (set_type t) values) ++ replicate count types.Top))
      (map (read_type flat) (map (set_type q) said))
  params_pass [] [] count said args are say = tops_pass count said are
  params_pass [] (value ∷ values) count said args are say = absurd args
  params_pass (type ∷ params) [] count said args are say = absurd args
  params_pass (type ∷ params) (value ∷ values) count [] args are say = absurd say
  params_pass (field_types.Byte ∷ params) (value ∷ values) count (f ∷ rest) args are say =
      one_step field_types.Byte value f (units_of_entries (map (set_type t) values)) [] (replicate count types.Top) rest
      (subst (λ (v : VType). units (set_type t v) ≡ set_type t v ∷ []) (sym (same_below args.0.0 (λ e. cc) (λ name e. cc))) refl)
      args.0.0 args.0.1 are.0 say.0 (params_pass params values count rest args.1 are.1 say.1)
  params_pass (field_types.Char ∷ params) (value ∷ values) count (f ∷ rest) args are say =
      one_step field_types.Char value f (units_of_entries (map (set_type t) values)) [] (replicate count types.Top) rest
      (subst (λ (v : VType). units (set_type t v) ≡ set_type t v ∷ []) (sym (same_below args.0.0 (λ e. cc) (λ name e. cc))) refl)
      args.0.0 args.0.1 are.0 say.0 (params_pass params values count rest args.1 are.1 say.1)
  params_pass (field_types.Short ∷ params) (value ∷ values) count (f ∷ rest) args are say =
      one_step field_types.Short value f (units_of_entries (map (set_type t) values)) [] (replicate count types.Top) rest
      (subst (λ (v : VType). units (set_type t v) ≡ set_type t v ∷ []) (sym (same_below args.0.0 (λ e. cc) (λ name e. cc))) refl)
      args.0.0 args.0.1 are.0 say.0 (params_pass params values count rest args.1 are.1 say.1)
  params_pass (field_types.Bool ∷ params) (value ∷ values) count (f ∷ rest) args are say =
      one_step field_types.Bool value f (units_of_entries (map (set_type t) values)) [] (replicate count types.Top) rest
      (subst (λ (v : VType). units (set_type t v) ≡ set_type t v ∷ []) (sym (same_below args.0.0 (λ e. cc) (λ name e. cc))) refl)
      args.0.0 args.0.1 are.0 say.0 (params_pass params values count rest args.1 are.1 say.1)
  params_pass (field_types.Int ∷ params) (value ∷ values) count (f ∷ rest) args are say =
      one_step field_types.Int value f (units_of_entries (map (set_type t) values)) [] (replicate count types.Top) rest
      (subst (λ (v : VType). units (set_type t v) ≡ set_type t v ∷ []) (sym (same_below args.0.0 (λ e. cc) (λ name e. cc))) refl)
      args.0.0 args.0.1 are.0 say.0 (params_pass params values count rest args.1 are.1 say.1)
  params_pass (field_types.Float ∷ params) (value ∷ values) count (f ∷ rest) args are say =
      one_step field_types.Float value f (units_of_entries (map (set_type t) values)) [] (replicate count types.Top) rest
      (subst (λ (v : VType). units (set_type t v) ≡ set_type t v ∷ []) (sym (same_below args.0.0 (λ e. cc) (λ name e. cc))) refl)
      args.0.0 args.0.1 are.0 say.0 (params_pass params values count rest args.1 are.1 say.1)
  params_pass ((field_types.Named name) ∷ params) (value ∷ values) count (f ∷ rest) args are say =
      one_step (field_types.Named name) value f (units_of_entries (map (set_type t) values)) [] (replicate count types.Top) rest
      (named_below t name args.0.0 refl).unit
      args.0.0 args.0.1 are.0 say.0 (params_pass params values count rest args.1 are.1 say.1)
  params_pass (field_types.Long ∷ params) (value ∷ values) count (f ∷ []) args are say = absurd are.1
  params_pass (field_types.Long ∷ params) (value ∷ values) count (f ∷ second ∷ rest) args are say =
      two_step field_types.Long value f second (units_of_entries (map (set_type t) values)) (replicate count types.Top) rest
      (subst (λ (v : VType). units (set_type t v) ≡ set_type t v ∷ types.Top ∷ []) (sym (same_below args.0.0 (λ e. cc) (λ name e. cc))) refl)
      args.0.0 args.0.1 are.0 are.1.0 say.0 (params_pass params values count rest args.1 are.1.1 say.1)
  params_pass (field_types.Double ∷ params) (value ∷ values) count (f ∷ []) args are say = absurd are.1
  params_pass (field_types.Double ∷ params) (value ∷ values) count (f ∷ second ∷ rest) args are say =
      two_step field_types.Double value f second (units_of_entries (map (set_type t) values)) (replicate count types.Top) rest
      (subst (λ (v : VType). units (set_type t v) ≡ set_type t v ∷ types.Top ∷ []) (sym (same_below args.0.0 (λ e. cc) (λ name e. cc))) refl)
      args.0.0 args.0.1 are.0 are.1.0 say.0 (params_pass params values count rest args.1 are.1.1 say.1)
