-- The frame that a method of a folder begins with has as many local units as its code.
use Rattle.std.proofs.Common.{◌≡◌, ◌≤◌, ◌+◌, ◌-◌, ℕ, Bool, true, false, List, [], ◌∷◌, ◌++◌, length, length-append, map, replicate, slice_get, Option, Some, None, option_map, refl, sym, ap, subst, ◌∙◌, arith}
use Rattle.std.specs.Prelude.{if◌then◌else◌}
use Rattle.std.specs.List.{AllByRecursion}
use Rattle.std.proofs.lemmas.List.{length-replicate}
use Rattle.std.proofs.lemmas.List.Concat.{flat_map-cons}
use Rattle.std.proofs.lemmas.List.Sums.{sum_by-cons}
use Rattle.std.proofs.lemmas.Option.{none-some, same_Some, slice_get-map}
use Rattle.class_model.specs.Code.{entry_frame, verification_type}
use Rattle.class_model.specs.Descriptors.{kind_of, parameter_units, parameters_of, units_of}
use Rattle.class_model.specs.Frames.{depth, filled, units, units_of_entries}
use Rattle.class_model.specs.Laws.Frames.{depth-append}
use Rattle.class_model.specs.Laws.Lists.{at_index}
use Rattle.class_model.specs.Members.{NATIVE, STATIC, has, is_text}
use Rattle.class_model.specs.MethodCode.{code_of}
use Rattle.class_model.specs.Methods.{this_units}
use Rattle.class_model.specs.Names.{init}
use Rattle.class_model.specs.PoolChecks.{text_or_empty, utf8_at}
use Rattle.class_model.specs.declared.class_file.ClassFile.{ClassFile}
use Rattle.class_model.specs.declared.class_file.CodePart.{CodePart}
use Rattle.class_model.specs.declared.class_file.Method.{Method}
use Rattle.class_model.specs.declared.class_file.MethodAt.{MethodAt}
use Rattle.class_model.specs.declared.descriptor.FieldType.{FieldType}
use Rattle.class_model.specs.declared.descriptor.FieldType.TheVariants as field_types
use Rattle.class_model.specs.declared.frame.VType.{VType}
use Rattle.class_model.specs.declared.frame.VType.TheVariants as types
use Rattle.class_tree.specs.Headers.{Classes, IsClassFile, headers_of}
use Rattle.expanded_runs.proofs.Runs.ArgumentRoom.{arguments_fit}
use Rattle.member_link.specs.Machine.Classes.{program_of, run_class_of, run_method_of}
use Rattle.member_link.specs.Machine.Codes.{method_code}
use Rattle.member_link.specs.Machine.Programs.{Code, Links, RunMethod, code_run, run_method}
use Rattle.typed_runs.specs.TypedPrograms.{entry}

-- ---- units of arguments

-- a parameter takes as many units as its kind
type_units : (type : FieldType) → length (units (verification_type type)) ≡ units_of (kind_of type)
type_units field_types.Byte = refl
type_units field_types.Char = refl
type_units field_types.Short = refl
type_units field_types.Bool = refl
type_units field_types.Int = refl
type_units field_types.Long = refl
type_units field_types.Float = refl
type_units field_types.Double = refl
type_units (field_types.Named name) = refl

parameters_long : (params : List FieldType) → depth (map verification_type params) ≡ parameter_units params
parameters_long [] = refl
parameters_long (type ∷ params) =
    ap length (flat_map-cons units (verification_type type) (map verification_type params))
    ∙ length-append (units (verification_type type)) (units_of_entries (map verification_type params))
    ∙ ap (λ (n : ℕ). n + depth (map verification_type params)) (type_units type)
    ∙ ap (λ (n : ℕ). units_of (kind_of type) + n) (parameters_long params)
    ∙ sym (sum_by-cons (λ (t : FieldType). units_of (kind_of t)) type params)

filled_long : (most : ℕ) (entries : List VType) → depth entries ≤ most → length (filled most entries) ≡ most
filled_long most entries fits =
    let sum = length-append (units_of_entries entries) (replicate (most - depth entries) types.Top) in
    let count = length-replicate (most - depth entries) types.Top in
    omega (arith, sum, count, fits)

-- what is before the parameters takes a unit or none
with_parameters : (most : ℕ) (front : List VType) (params : List FieldType) → depth front + parameter_units params ≤ most
    → length (filled most (front ++ map verification_type params)) ≡ most
with_parameters most front params fits =
    let all = depth-append front (map verification_type params) in
    let long = parameters_long params in
    filled_long most (front ++ map verification_type params) (omega (arith, all, long, fits))

entry_long : (flags : ℕ) (name class : List ℕ) (params : List FieldType) (most : ℕ) → parameter_units params + this_units flags ≤ most
    → length (entry_frame flags name (Some class) params most).locals ≡ most
entry_long flags name class params most fits = by (has flags STATIC) refl (is_text init (Some name)) refl where
  by : (static : Bool) → has flags STATIC ≡ static → (constructs : Bool) → is_text init (Some name) ≡ constructs
      → length (entry_frame flags name (Some class) params most).locals ≡ most
  by true is constructs named =
      let room : parameter_units params + 0 ≤ most = subst (λ (b : Bool). parameter_units params + (if b then 0 else 1) ≤ most) is fits in
      rw (is) (with_parameters most [] params (omega (arith, room)))
  by false is true named =
      let room : parameter_units params + 1 ≤ most = subst (λ (b : Bool). parameter_units params + (if b then 0 else 1) ≤ most) is fits in
      rw (is, named) (with_parameters most (types.UninitThis ∷ []) params (omega (arith, room)))
  by false is false named =
      let room : parameter_units params + 1 ≤ most = subst (λ (b : Bool). parameter_units params + (if b then 0 else 1) ≤ most) is fits in
      rw (is, named) (with_parameters most (types.Object class ∷ []) params (omega (arith, room)))

-- ---- methods of a folder

module _ (classes : Classes) (links : Links) (files : AllByRecursion IsClassFile classes.folder) where
  -- a method that runs a code
  coded : (class : ClassFile) (number : ℕ) (method : Method) (code : Code) (name : List ℕ) → IsClassFile class
      → slice_get class.methods number ≡ Some method
      → code_run (run_method_of links (headers_of classes) class method) ≡ Some code
      → length (entry_frame method.flags (run_method_of links (headers_of classes) class method).member.name (Some name)
      (parameters_of (run_method_of links (headers_of classes) class method).member.desc) code.locals).locals
      ≡ code.locals
  coded class number method code name file there runs = by (has method.flags NATIVE) refl (code_of method.attrs) refl where
    by : (native : Bool) → has method.flags NATIVE ≡ native → (part : Option CodePart) → code_of method.attrs ≡ part
        → length (entry_frame method.flags (run_method_of links (headers_of classes) class method).member.name (Some name)
        (parameters_of (run_method_of links (headers_of classes) class method).member.desc) code.locals).locals
        ≡ code.locals
    by true is part has_code = absurd (none-some code (sym (rw (is) refl) ∙ runs))
    by false is None has_code = absurd (none-some code (sym (rw (is, has_code) refl) ∙ runs))
    by false is (Some part) has_code =
        let ran : Some (method_code links (record { headers = headers_of classes; class = class; method = method; part = part })) ≡ Some code =
        sym (rw (is, has_code) refl) ∙ runs in
        let most : part.max_locals ≡ code.locals = ap (λ (c : Code). c.locals) (same_Some _ code ran) in
        let room = arguments_fit class number method part file there has_code in
        let fits : parameter_units (parameters_of (text_or_empty (utf8_at class.pool method.desc))) + this_units method.flags ≤ code.locals =
        omega (arith, room, most) in
        entry_long method.flags (text_or_empty (utf8_at class.pool method.name)) name
        (parameters_of (text_or_empty (utf8_at class.pool method.desc))) code.locals fits

  pub entry_fits : (at : MethodAt) (method : RunMethod) (code : Code)
      → run_method (program_of classes links) at ≡ Some method
      → code_run method ≡ Some code
      → length (entry (program_of classes links) at method.member code).locals ≡ code.locals
  entry_fits at method code is runs = by (slice_get classes.folder at.class) refl
      (sym (slice_get-map (run_class_of links (headers_of classes)) classes.folder at.class)) where
        in_class : (class : ClassFile) → slice_get classes.folder at.class ≡ Some class → (found : Option Method)
            → slice_get class.methods at.method ≡ found
            → option_map (run_method_of links (headers_of classes) class) found ≡ Some method
            → length (entry (program_of classes links) at method.member code).locals ≡ code.locals
        in_class class here None there none = absurd (none-some method none)
        in_class class here (Some one) there some =
            let same = same_Some (run_method_of links (headers_of classes) class one) method some in
            subst (λ (m : RunMethod). length (entry (program_of classes links) at m.member code).locals ≡ code.locals) same
            (coded class at.method one code _ (at_index IsClassFile classes.folder at.class class files here) there
            (subst (λ (m : RunMethod). code_run m ≡ Some code) (sym same) runs))

        by : (class : Option ClassFile) → slice_get classes.folder at.class ≡ class
            → option_map (run_class_of links (headers_of classes)) (slice_get classes.folder at.class)
            ≡ slice_get (program_of classes links).classes at.class
            → length (entry (program_of classes links) at method.member code).locals ≡ code.locals
        by None here there =
            let none : slice_get (program_of classes links).classes at.class ≡ None = sym there ∙ rw (here) refl in
            absurd (none-some method (sym (rw (none) refl) ∙ is))
        by (Some class) here there =
            let run : slice_get (program_of classes links).classes at.class ≡ Some (run_class_of links (headers_of classes) class) =
            sym there ∙ rw (here) refl in
            let listed : slice_get (map (run_method_of links (headers_of classes) class) class.methods) at.method ≡ Some method =
            sym (rw (run) refl) ∙ is in
            in_class class here (slice_get class.methods at.method) refl
            (sym (slice_get-map (run_method_of links (headers_of classes) class) class.methods at.method) ∙ listed)
