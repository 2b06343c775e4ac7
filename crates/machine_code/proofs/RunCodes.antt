-- Which code the methods of a tree's program run.
use Rattle.std.proofs.Common.{◌≡◌, Bool, true, false, cond, slice_get, Option, Some, None, option_map, option_and_then, refl, sym, ap, subst, ◌∙◌}
use Rattle.std.proofs.lemmas.Option.{slice_get-map, same_Some, none-some}
use Rattle.std.specs.List.{AllByRecursion}
use Rattle.class_model.specs.Checks.{AllHold}
use Rattle.class_model.specs.Instructions.{decoded}
use Rattle.class_model.specs.Laws.Codes.{code_has}
use Rattle.class_model.specs.Members.{has, NATIVE}
use Rattle.class_model.specs.MethodCode.{code_of}
use Rattle.class_model.specs.declared.class_file.ClassFile.{ClassFile}
use Rattle.class_model.specs.declared.class_file.CodePart.{CodePart}
use Rattle.class_model.specs.declared.class_file.Method.{Method}
use Rattle.class_model.specs.declared.class_file.MethodAt.{MethodAt}
use Rattle.class_tree.specs.Headers.{Classes, headers_of}
use Rattle.code_bytes.specs.Codes.{HasInstrs, HasOperands, HaveOperands, IsReadMethod}
use Rattle.code_bytes.specs.Decoding.{decoding_checks}
use Rattle.member_link.specs.Machine.Classes.{run_class_of, run_method_of}
use Rattle.member_link.specs.Machine.Codes.{method_code}
use Rattle.member_link.specs.Machine.Programs.{Program, Code, Links, code_at, code_run, run_method}
use Rattle.member_link.specs.Scope.{Scope}
use Rattle.machine_code.specs.Inner.Preparing.{IsPreparedIn, IsReadCode, code_in, run_code_at, run_code_in}
use Rattle.machine_code.specs.Inner.Translating.{CodeIn, scope_in}
use Rattle.machine_code.specs.Prepared.{IsPrepared}
use Rattle.member_link.specs.TreePrograms.{IsProgram}
use Rattle.machine_code.specs.declared.prepared_method.PreparedMethod.{PreparedMethod}
use Rattle.member_link.specs.Laws.ProgramMembers.{run_class_at}

module _ (classes : Classes) (P : Program) (is : IsProgram classes P) where
  same_links : is.links ≡ P.links
  same_links = sym (ap (λ (p : Program). p.links) is.same)

  -- ---- the method

  method_in :
      (at : MethodAt) (found : Option ClassFile)
      → slice_get P.classes at.class ≡ option_map (run_class_of is.links (headers_of classes)) found
      → run_method P at
      ≡ option_and_then (λ (class : ClassFile). option_map (run_method_of is.links (headers_of classes) class) (slice_get class.methods at.method)) found
  method_in at None class = rw class refl
  method_in at (Some file) class = rw class (slice_get-map (run_method_of is.links (headers_of classes) file) file.methods at.method)

  method_is :
      (at : MethodAt)
      → run_method P at
      ≡ option_and_then (λ (class : ClassFile). option_map (run_method_of is.links (headers_of classes) class) (slice_get class.methods at.method)) (slice_get classes.folder at.class)
  method_is at = method_in at (slice_get classes.folder at.class) (run_class_at classes P is at.class)

  -- ---- its code

  abbrev code_for : Links → CodeIn → Code
  code_for links code = method_code links (scope_in code)

  code_in_file :
      (class : ClassFile) (method : Method)
      → code_run (run_method_of is.links (headers_of classes) class method)
      ≡ option_map (code_for is.links) (run_code_in classes class method)
  code_in_file class method = by (has method.flags NATIVE) (code_of method.attrs)
    where
      scope_with : CodePart → Scope
      scope_with part = record { headers = headers_of classes; class = class; method = method; part = part }

      by :
          (native : Bool) (part : Option CodePart)
          → cond native None (option_map (method_code is.links) (option_map scope_with part))
          ≡ option_map (code_for is.links) (cond native None (option_map (code_in classes class method) part))
      by true part = refl
      by false None = refl
      by false (Some part) = refl

  -- ---- a method without code

  none_in_file :
      (class : ClassFile) (found : Option Method)
      → option_and_then (run_code_in classes class) found ≡ None
      → option_and_then code_run (option_map (run_method_of is.links (headers_of classes) class) found) ≡ None
  none_in_file class None none = refl
  none_in_file class (Some method) none = code_in_file class method ∙ ap (option_map (code_for is.links)) none

  none_in :
      (at : MethodAt) (found : Option ClassFile)
      → option_and_then (λ (class : ClassFile). option_and_then (run_code_in classes class) (slice_get class.methods at.method)) found ≡ None
      → option_and_then code_run (option_and_then (λ (class : ClassFile). option_map (run_method_of is.links (headers_of classes) class) (slice_get class.methods at.method)) found) ≡ None
  none_in at None none = refl
  none_in at (Some class) none = none_in_file class (slice_get class.methods at.method) none

  pub no_code : (at : MethodAt) → run_code_at classes at ≡ None → code_at P at ≡ None
  no_code at none = ap (option_and_then code_run) (method_is at) ∙ none_in at (slice_get classes.folder at.class) none

  -- ---- a method with code

  classes_are :
      (class : ClassFile) (method : Method) (code : CodeIn)
      → run_code_in classes class method ≡ Some code
      → code.classes ≡ classes
  classes_are class method code runs = by (has method.flags NATIVE) (code_of method.attrs) runs
    where
      by :
          (native : Bool) (part : Option CodePart)
          → cond native None (option_map (code_in classes class method) part) ≡ Some code
          → code.classes ≡ classes
      by true part runs = absurd (none-some code runs)
      by false None runs = absurd (none-some code runs)
      by false (Some part) runs = sym (ap (λ (c : CodeIn). c.classes) (same_Some (code_in classes class method part) code runs))

  module _ (at : MethodAt) (code : CodeIn) (prepared : PreparedMethod) (are : IsPreparedIn code prepared) where
    prepared_with :
        (class : ClassFile) (method : Method)
        → run_method P at ≡ Some (run_method_of is.links (headers_of classes) class method)
        → run_code_in classes class method ≡ Some code
        → IsPrepared P at prepared
    prepared_with class method there runs =
        let is_program = subst (λ (c : Classes). IsProgram c P) (sym (classes_are class method code runs)) is in
        let told = are P is_program in
        record {
          method = run_method_of is.links (headers_of classes) class method;
          code = code_for P.links code;
          there = there;
          has_code = code_in_file class method ∙ ap (option_map (code_for is.links)) runs ∙ ap (λ (links : Links). Some (code_for links code)) same_links;
          locals = told.locals;
          few = told.few;
          ops = told.ops;
          resolved = told.resolved;
          catches = told.catches;
        }

    prepared_in_file :
        (class : ClassFile) (found : Option Method)
        → run_method P at ≡ option_map (run_method_of is.links (headers_of classes) class) found
        → option_and_then (run_code_in classes class) found ≡ Some code
        → IsPrepared P at prepared
    prepared_in_file class None there runs = absurd (none-some code runs)
    prepared_in_file class (Some method) there runs = prepared_with class method there runs

    prepared_in :
        (found : Option ClassFile)
        → run_method P at ≡ option_and_then (λ (class : ClassFile). option_map (run_method_of is.links (headers_of classes) class) (slice_get class.methods at.method)) found
        → option_and_then (λ (class : ClassFile). option_and_then (run_code_in classes class) (slice_get class.methods at.method)) found ≡ Some code
        → IsPrepared P at prepared
    prepared_in None there runs = absurd (none-some code runs)
    prepared_in (Some class) there runs = prepared_in_file class (slice_get class.methods at.method) there runs

    pub is_prepared : run_code_at classes at ≡ Some code → IsPrepared P at prepared
    is_prepared runs = prepared_in (slice_get classes.folder at.class) (method_is at) runs

-- ---- what reading asked of it

pub read_code :
    (classes : Classes) (class : ClassFile) (method : Method) (part : CodePart) (code : CodeIn)
    → code ≡ code_in classes class method part
    → IsReadMethod class.pool method
    → AllByRecursion (HasOperands class.pool class.major) method.attrs
    → Some part ≡ code_of method.attrs
    → IsReadCode code
read_code classes class method part code same read operands found =
    subst IsReadCode (sym same) (record {
      instrs = code_has HasInstrs (λ (p : CodePart). AllHold (decoding_checks p.code)) (λ name p h. h) method.attrs part read.codes (sym found);
      operands = code_has (HasOperands class.pool class.major) (λ (p : CodePart). HaveOperands class.pool class.major p.max_locals (decoded p.code)) (λ name p h. h) method.attrs part operands (sym found);
    })
