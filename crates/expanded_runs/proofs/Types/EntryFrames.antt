-- The frame behind the stores of a callee's arguments may stand for the callee's first frame, in its place.
use Rattle.flow_code.specs.ReadTypes.{read_type}
use Rattle.std.proofs.Common.{◌≡◌, ◌≢◌, ◌+◌, ◌-◌, ◌≤◌, ◌<◌, ◌⊎◌, ℕ, Bool, true, false, List, [], ◌∷◌, ◌++◌, length, map, take, drop, replicate, slice_get, Option, Some, None, IsTrue, if◌then◌else◌, refl, sym, ap, subst, ◌∙◌, arith, inl, inr}
use Rattle.std.specs.List.{AllByRecursion, list_any}
use Rattle.std.proofs.lemmas.List.{length-append, length-replicate, map-append}
use Rattle.class_model.specs.Code.{verification_type}
use Rattle.class_model.specs.Descriptors.{parameters_of}
use Rattle.class_model.specs.Frames.{units, units_of_entries}
use Rattle.class_model.specs.Members.{STATIC, has, is_text}
use Rattle.class_model.specs.Methods.{home_of, this_units}
use Rattle.class_model.specs.Names.{init}
use Rattle.class_model.specs.PoolChecks.{text_or_empty, utf8_at}
use Rattle.class_model.specs.declared.descriptor.Kind.TheVariants as kinds
use Rattle.class_model.specs.declared.frame.VType.{VType}
use Rattle.class_model.specs.declared.frame.VType.TheVariants as types
use Rattle.class_tree.specs.Headers.{Headers, Name}
use Rattle.class_tree.specs.Hierarchy.{IsHierarchy}
use Rattle.expanded_code.specs.Callees.{SayAtMost}
use Rattle.expanded_code.specs.Expanded.{Argument, Setting, arguments, arguments_from, overlaid, set_type}
use Rattle.expanded_runs.proofs.Types.Edges.{placed_type, read_this, read_unit, unit_read}
use Rattle.expanded_runs.proofs.Types.EntryTypes.{AreArguments, params_free, params_laid, params_pass}
use Rattle.expanded_runs.proofs.Types.StoredUnits.{ArgumentsLaid, one_more_laid}
use Rattle.expanded_runs.proofs.Types.ThroughClass.{ArrayInterfaces}
use Rattle.expanded_runs.proofs.Types.Units.{TopsFrom, Where, append_assignable, get_back, get_front, get_inside, get_outside, get_replicate, has_this, inside, le_cases, outside, same_lists, this_at, to_themselves, where_is}
use Rattle.flow_code.specs.FlatCode.{FlatCode}
use Rattle.member_link.specs.Assignability.{IsAssignable}
use Rattle.member_link.specs.Rows.FrameAssignability.{AreAssignable, is_uninit_this}
use Rattle.member_link.specs.Rows.Operands.{IsOfKind}
use Rattle.member_link.specs.Scope.{Scope, own_descriptor}
use Rattle.type_rules.specs.Stated.{entry}

-- ---- blocks over the same units

module _ (flat : FlatCode) (headers : Headers) (unit : ℕ) (ones others locals : List VType) (long : length ones ≡ length others)
    (fits : unit + length ones ≤ length locals) where
  pub over_assignable : AreAssignable headers (map (read_type flat) ones) (map (read_type flat) others)
      → AreAssignable headers (map (read_type flat) (overlaid unit ones locals)) (map (read_type flat) (overlaid unit others locals))
  over_assignable are =
      let front = take unit locals in
      let rest : List VType = drop (unit + length others) locals in
      let one : map (read_type flat) (overlaid unit ones locals)
      ≡ (map (read_type flat) front ++ map (read_type flat) ones) ++ map (read_type flat) rest =
      ap (λ (n : ℕ). map (read_type flat) (front ++ ones ++ drop (unit + n) locals)) long
      ∙ map-append (read_type flat) (front ++ ones) rest
      ∙ ap (λ (l : List VType). l ++ map (read_type flat) rest) (map-append (read_type flat) front ones) in
      let other : map (read_type flat) (overlaid unit others locals)
      ≡ (map (read_type flat) front ++ map (read_type flat) others) ++ map (read_type flat) rest =
      map-append (read_type flat) (front ++ others) rest
      ∙ ap (λ (l : List VType). l ++ map (read_type flat) rest) (map-append (read_type flat) front others) in
      subst (λ (l : List VType). AreAssignable headers l (map (read_type flat) (overlaid unit others locals))) (sym one)
      (subst (AreAssignable headers ((map (read_type flat) front ++ map (read_type flat) ones) ++ map (read_type flat) rest)) (sym other)
      (append_assignable headers _ _ _ _
      (append_assignable headers _ _ _ _ (to_themselves headers (map (read_type flat) front)) are)
      (to_themselves headers (map (read_type flat) rest))))

  pub over_keeps : ((n : ℕ) → slice_get ones n ≢ Some types.UninitThis)
      → IsTrue (list_any is_uninit_this (map (read_type flat) (overlaid unit ones locals)))
      → IsTrue (list_any is_uninit_this (map (read_type flat) (overlaid unit others locals)))
  over_keeps free any =
      let found = this_at (map (read_type flat) (overlaid unit ones locals)) any in
      let own = read_unit flat (overlaid unit ones locals) found.n types.UninitThis found.is in
      let is : slice_get (overlaid unit ones locals) found.n ≡ Some types.UninitThis = own.1 ∙ ap Some (read_this flat own.0 (sym own.2)) in
      elim (where_is unit (length ones) found.n) [
        | inside m place within ↦
            absurd (free m
            (sym (get_inside unit ones locals fits m within) ∙ ap (slice_get (overlaid unit ones locals)) (sym place) ∙ is))
        | outside out ↦
            has_this (map (read_type flat) (overlaid unit others locals)) found.n
            (unit_read flat (overlaid unit others locals) found.n types.UninitThis
            (get_outside unit others locals (omega (arith, fits, long)) found.n
            (subst (λ (size : ℕ). (found.n < unit) ⊎ (unit + size ≤ found.n)) long out)
            ∙ sym (get_outside unit ones locals fits found.n out)
            ∙ is))
      ]

-- Tops behind a block, where Tops are
pub tops_more : (unit count : ℕ) (own locals : List VType) → unit + length own + count ≤ length locals → TopsFrom unit locals
    → overlaid unit (own ++ replicate count types.Top) locals ≡ overlaid unit own locals
tops_more unit count own locals fits tops =
    same_lists (overlaid unit (own ++ replicate count types.Top) locals) (overlaid unit own locals)
    (λ n. by n (where_is unit (length (own ++ replicate count types.Top)) n)) where
      long : length (own ++ replicate count types.Top) ≡ length own + count
      long = omega (arith, length-append own (replicate count types.Top), length-replicate count types.Top)

      room : unit + length (own ++ replicate count types.Top) ≤ length locals
      room = omega (arith, fits, long)

      less : unit + length own ≤ length locals
      less = omega (arith, fits)

      by : (n : ℕ) → Where unit (length (own ++ replicate count types.Top)) n
          → slice_get (overlaid unit (own ++ replicate count types.Top) locals) n ≡ slice_get (overlaid unit own locals) n
      by n (outside out) =
          get_outside unit (own ++ replicate count types.Top) locals room n out ∙ sym (get_outside unit own locals less n (narrow out)) where
            narrow : (n < unit) ⊎ (unit + length (own ++ replicate count types.Top) ≤ n) → (n < unit) ⊎ (unit + length own ≤ n)
            narrow (inl before) = inl before
            narrow (inr behind) = inr (omega (arith, behind, long))
      by n (inside m place within) =
          ap (slice_get (overlaid unit (own ++ replicate count types.Top) locals)) place
          ∙ get_inside unit (own ++ replicate count types.Top) locals room m within
          ∙ elim (le_cases (length own) m) [
            | inr before ↦
                get_front own (replicate count types.Top) m before
                ∙ sym (get_inside unit own locals less m before)
                ∙ ap (slice_get (overlaid unit own locals)) (sym place)
            | inl behind ↦
                let there : length own + (m - length own) ≡ m = omega (arith, behind) in
                ap (slice_get (own ++ replicate count types.Top)) (sym there)
                ∙ get_back own (replicate count types.Top) (m - length own)
                ∙ get_replicate count types.Top (m - length own) (omega (arith, within, long, behind))
                ∙ sym (tops.each n (omega (arith, place)) (omega (arith, place, within, room)))
                ∙ sym (get_outside unit own locals less n (inr (omega (arith, place, behind))))
          ]

-- ---- the frame that a callee begins with

-- what the first local says of an object, where there is one
abbrev pub this_of : Scope → VType
this_of s =
    if is_text init (Some (text_or_empty (utf8_at s.class.pool s.method.name))) then types.UninitThis
    else class_or_top (home_of s.class).name where
      class_or_top : Option Name → VType
      class_or_top None = types.Top
      class_or_top (Some class) = types.Object class

pub entry_static : (s : Scope) → has s.method.flags STATIC ≡ true
    → (count : ℕ) × ((entry s).locals ≡ units_of_entries (map verification_type (parameters_of (own_descriptor s))) ++ replicate count types.Top)
entry_static s static = (
  s.part.max_locals - length (units_of_entries (map verification_type (parameters_of (own_descriptor s)))),
  rw (static) refl,
)

pub entry_object : (s : Scope) → has s.method.flags STATIC ≡ false
    → (count : ℕ)
    × ((entry s).locals ≡ this_of s ∷ (units_of_entries (map verification_type (parameters_of (own_descriptor s))) ++ replicate count types.Top))
entry_object s static = by (is_text init (Some (text_or_empty (utf8_at s.class.pool s.method.name)))) refl (home_of s.class).name refl where
  by : (constructs : Bool) → is_text init (Some (text_or_empty (utf8_at s.class.pool s.method.name))) ≡ constructs
      → (name : Option Name) → (home_of s.class).name ≡ name
      → (count : ℕ)
      × ((entry s).locals ≡ this_of s ∷ (units_of_entries (map verification_type (parameters_of (own_descriptor s))) ++ replicate count types.Top))
  by true is name named = (
    s.part.max_locals - length (units_of_entries (types.UninitThis ∷ map verification_type (parameters_of (own_descriptor s)))),
    rw (static, is) refl,
  )
  by false is None named = (
    s.part.max_locals - length (units_of_entries (types.Top ∷ map verification_type (parameters_of (own_descriptor s)))),
    rw (static, is, named) refl,
  )
  by false is (Some class) named = (
    s.part.max_locals - length (units_of_entries (types.Object class ∷ map verification_type (parameters_of (own_descriptor s)))),
    rw (static, is, named) refl,
  )

-- ---- what is passed

-- What a call passes: arguments, and of a method of an object the object, for which, in its place, what is said of it may stand.
pub data PassedValues (flat : FlatCode) (headers : Headers) (t q : Setting) (callee : Scope) : List VType → Type 0 where
  passed_static : {values : List VType} → has callee.method.flags STATIC ≡ true
      → AreArguments headers (parameters_of (own_descriptor callee)) values
      → PassedValues flat headers t q callee values
  passed_object : {object : VType} {values : List VType} → has callee.method.flags STATIC ≡ false
      → IsOfKind kinds.Ref (set_type t object)
      → set_type t object ≢ types.UninitThis
      → ((said : VType) → IsAssignable headers (this_of callee) said → IsAssignable headers (placed_type flat t object) (placed_type flat q said))
      → AreArguments headers (parameters_of (own_descriptor callee)) values
      → PassedValues flat headers t q callee (object ∷ values)

pub ref_unit : (type : VType) → IsOfKind kinds.Ref type → units type ≡ type ∷ []
ref_unit types.Null is = refl
ref_unit (types.Object name) is = refl
ref_unit types.UninitThis is = refl
ref_unit (types.Uninit at) is = refl
ref_unit other is = absurd is

-- what follows of a callee's first locals
pub record IsEntered (flat : FlatCode) (headers : Headers) (t q : Setting) (callee : Scope) (unit : ℕ) (values said : List VType) : Type 0 where
  pub laid : ArgumentsLaid unit (arguments callee unit) (map (set_type t) values)
  pub free : AllByRecursion (λ (type : VType). type ≢ types.UninitThis) (map (set_type t) values)
  pub count : ℕ
  pub pass : AreAssignable headers (map (read_type flat) (units_of_entries (map (set_type t) values) ++ replicate count types.Top))
      (map (read_type flat) (map (set_type q) said))

module _ (flat : FlatCode) (headers : Headers) (hierarchy : IsHierarchy headers) (arrays : ArrayInterfaces headers) (t q : Setting)
    (callee : Scope) (unit : ℕ) (said : List VType) (entered : AreAssignable headers (entry callee).locals said)
    (says : SayAtMost headers (parameters_of (own_descriptor callee)) (drop (this_units callee.method.flags) said)) where
  pub is_entered : (values : List VType) → PassedValues flat headers t q callee values → IsEntered flat headers t q callee unit values said
  is_entered values (passed_static static args) =
      let begins = entry_static callee static in
      let params = parameters_of (own_descriptor callee) in
      let says_all : SayAtMost headers params said = subst (λ (b : Bool). SayAtMost headers params (drop (if b then 0 else 1) said)) static says in
      record {
        laid =
            subst (λ (args : List Argument). ArgumentsLaid unit args (map (set_type t) values)) (sym (static_is static))
            (params_laid flat headers hierarchy arrays t q unit params values args);
        free = params_free flat headers hierarchy arrays t q params values args;
        count = begins.0;
        pass = params_pass flat headers hierarchy arrays t q params values begins.0 said args
            (subst (λ (l : List VType). AreAssignable headers l said) begins.1 entered) says_all;
      }
    where
      static_is : has callee.method.flags STATIC ≡ true → arguments callee unit ≡ arguments_from unit (parameters_of (own_descriptor callee))
      static_is is = rw (is) refl
  is_entered _ (passed_object {object = object} {values = values} static kind other passes args) =
      by said (subst (λ (l : List VType). AreAssignable headers l said) begins.1 entered) says where
        begins : (count : ℕ)
            × ((entry callee).locals
            ≡ this_of callee ∷ (units_of_entries (map verification_type (parameters_of (own_descriptor callee))) ++ replicate count types.Top))
        begins = entry_object callee static

        object_is : arguments callee unit ≡ record { kind = kinds.Ref; unit = unit } ∷ arguments_from (unit + 1) (parameters_of (own_descriptor callee))
        object_is = rw (static) refl

        by : (all : List VType)
            → AreAssignable headers
            (this_of callee ∷ (units_of_entries (map verification_type (parameters_of (own_descriptor callee))) ++ replicate begins.0 types.Top)) all
            → SayAtMost headers (parameters_of (own_descriptor callee)) (drop (this_units callee.method.flags) all)
            → IsEntered flat headers t q callee unit (object ∷ values) all
        by [] are says = absurd are
        by (first ∷ rest) are says =
            let one = ref_unit (set_type t object) kind in
            let says_rest : SayAtMost headers (parameters_of (own_descriptor callee)) rest =
            subst (λ (b : Bool). SayAtMost headers (parameters_of (own_descriptor callee)) (drop (if b then 0 else 1) (first ∷ rest))) static says in
            let later = params_pass flat headers hierarchy arrays t q (parameters_of (own_descriptor callee)) values begins.0 rest args are.1 says_rest in
            record {
              laid =
                  subst (λ (args : List Argument). ArgumentsLaid unit args (map (set_type t) (object ∷ values))) (sym object_is)
                  (one_more_laid refl kind
                  (subst (λ (n : ℕ). ArgumentsLaid (unit + n) (arguments_from (unit + 1) (parameters_of (own_descriptor callee))) (map (set_type t) values))
                  (sym (ap length one))
                  (params_laid flat headers hierarchy arrays t q (unit + 1) (parameters_of (own_descriptor callee)) values args)));
              free = (other, params_free flat headers hierarchy arrays t q (parameters_of (own_descriptor callee)) values args);
              count = begins.0;
              pass =
                  subst (λ (u : List VType). AreAssignable headers
                  (map (read_type flat) ((u ++ units_of_entries (map (set_type t) values)) ++ replicate begins.0 types.Top))
                  (map (read_type flat) (map (set_type q) (first ∷ rest)))) (sym one) (passes first are.0, later);
            }
