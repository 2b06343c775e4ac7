-- The methods of a folder that have code: how they run in the folder's program, and that those with points are such.
use Rattle.std.proofs.Common.{◌≡◌, Bool, true, false, List, slice_get, Option, Some, None, option_map, refl, sym, ap, subst, ◌∙◌}
use Rattle.std.specs.Prelude.{option_and_then}
use Rattle.std.proofs.lemmas.Option.{none-some, same_Some, slice_get-map}
use Rattle.class_model.specs.Members.{NATIVE, has}
use Rattle.class_model.specs.MethodCode.{code_of}
use Rattle.class_model.specs.declared.class_file.ClassFile.{ClassFile}
use Rattle.class_model.specs.declared.class_file.CodePart.{CodePart}
use Rattle.class_model.specs.declared.class_file.Method.{Method}
use Rattle.class_model.specs.declared.class_file.MethodAt.{MethodAt}
use Rattle.class_model.specs.declared.header.Header.{Header}
use Rattle.class_tree.specs.Headers.{Classes, Headers, headers_of}
use Rattle.member_link.specs.Laws.ProgramHeaders.{folder_headers}
use Rattle.member_link.specs.Machine.Classes.{program_of, run_class_of, run_method_of}
use Rattle.member_link.specs.Machine.Codes.{method_code}
use Rattle.member_link.specs.Machine.Programs.{Code, Links, RunClass, RunMethod, code_at, code_run, headers_in, run_method}
use Rattle.member_link.specs.Machine.Replaced.{Replacement, replaced, with_body}
use Rattle.member_link.specs.Laws.Scopes.{IsScopeAt, scope_is_at}
use Rattle.member_link.specs.Scope.{Scope, scope_at, scope_of}
use Rattle.same_runs.specs.Laws.Numbered.{still_runs}

pub program_headers : (classes : Classes) (links : Links) → headers_in (program_of classes links) ≡ headers_of classes
program_headers classes links =
    ap (λ (folder : List Header). let headers : Headers = record { folder = folder; library = classes.library } in headers)
    (folder_headers links (headers_of classes) classes.folder)

-- ---- the method in the program

module _ (classes : Classes) (links : Links) (at : MethodAt) (s : Scope) (is : IsScopeAt classes at s) where
  pub class_there : slice_get (program_of classes links).classes at.class ≡ Some (run_class_of links (headers_of classes) s.class)
  class_there =
      slice_get-map (run_class_of links (headers_of classes)) classes.folder at.class
      ∙ ap (option_map (run_class_of links (headers_of classes))) is.of_folder

  pub own_run : run_method (program_of classes links) at ≡ Some (run_method_of links (headers_of classes) s.class s.method)
  own_run =
      ap (option_and_then (λ (class : RunClass). slice_get class.methods at.method)) class_there
      ∙ slice_get-map (run_method_of links (headers_of classes) s.class) s.class.methods at.method
      ∙ ap (option_map (run_method_of links (headers_of classes) s.class)) is.of_class

  own_scope : scope_of (headers_of classes) s.class s.method ≡ Some s
  own_scope = rw (is.has_code) (λ i. Some (record s { headers = sym is.headers i }))

  pub own_method_code : (run_method_of links (headers_of classes) s.class s.method).code ≡ Some (method_code links s)
  own_method_code = ap (option_map (method_code links)) own_scope

  pub own_code_run : has s.method.flags NATIVE ≡ false
      → code_run (run_method_of links (headers_of classes) s.class s.method) ≡ Some (method_code links s)
  own_code_run native = rw (native) own_method_code

  -- where it runs a code, that is its own
  pub own_code_at : has s.method.flags NATIVE ≡ false → code_at (program_of classes links) at ≡ Some (method_code links s)
  own_code_at native = ap (option_and_then code_run) own_run ∙ own_code_run native

  pub code_is_own : (code : Code) → code_at (program_of classes links) at ≡ Some code → code ≡ method_code links s
  code_is_own code runs = by (has s.method.flags NATIVE) refl where
    run : RunMethod
    run = run_method_of links (headers_of classes) s.class s.method

    there : code_run run ≡ Some code
    there = ap (option_and_then code_run) (sym own_run) ∙ runs

    by : (native : Bool) → has s.method.flags NATIVE ≡ native → code ≡ method_code links s
    by true native = absurd (none-some code (sym (rw (native) refl) ∙ there))
    by false native = same_Some code (method_code links s) (sym there ∙ own_code_run native)

-- ---- with another code in place of its own

-- a method that is not native and has code runs the code that takes its place
body_runs : (method : RunMethod) (old code : Code) → has method.member.flags NATIVE ≡ false → method.code ≡ Some old
    → code_run (with_body method (Some code)) ≡ Some code
body_runs method old code own is = rw (own, is) refl

pub runs_in_place : (classes : Classes) (links : Links) (r : Replacement) (at : MethodAt) (s : Scope) (code : Code)
    → IsScopeAt classes at s
    → has s.method.flags NATIVE ≡ false
    → r.body at ≡ Some code
    → code_at (replaced (program_of classes links) r) at ≡ Some code
runs_in_place classes links r at s code is native body =
    ap (option_and_then code_run) (still_runs (program_of classes links) r at own (own_run classes links at s is))
    ∙ ap (λ (other : Option Code). code_run (with_body own other)) body
    ∙ body_runs own (method_code links s) code native (own_method_code classes links at s is) where
      own : RunMethod
      own = run_method_of links (headers_of classes) s.class s.method

-- ---- a method that has points has a scope

module _ (classes : Classes) (links : Links) (at : MethodAt) (code : Code) (is : code_at (program_of classes links) at ≡ Some code) where
  abbrev run_of : ClassFile → Method → RunMethod
  run_of file method = run_method_of links (headers_of classes) file method

  abbrev of_run : Option RunMethod → Option Code
  of_run run = option_and_then code_run run

  abbrev runs_in : Option RunClass → Option RunMethod
  runs_in class = option_and_then (λ (class : RunClass). slice_get class.methods at.method) class

  class_here : (file : Option ClassFile) → slice_get classes.folder at.class ≡ file
      → run_method (program_of classes links) at ≡ runs_in (option_map (run_class_of links (headers_of classes)) file)
  class_here file e =
      ap runs_in (slice_get-map (run_class_of links (headers_of classes)) classes.folder at.class
      ∙ ap (option_map (run_class_of links (headers_of classes))) e)

  no_code : (run : Option RunMethod) → run_method (program_of classes links) at ≡ run → of_run run ≡ None → ⊥
  no_code run e none = none-some code (sym none ∙ ap of_run (sym e) ∙ is)

  by_scope : (file : ClassFile) → slice_get classes.folder at.class ≡ Some file
      → (method : Method) → slice_get file.methods at.method ≡ Some method
      → (s : Option Scope) → scope_of (headers_of classes) file method ≡ s
      → (s : Scope) × (scope_at classes at ≡ Some s)
  by_scope file e method m (Some s) found = (s, rw (e) (rw (m) found))
  by_scope file e method m None found =
      absurd (no_code (Some (run_of file method))
      (class_here (Some file) e ∙ slice_get-map (run_method_of links (headers_of classes) file) file.methods at.method
      ∙ ap (option_map (run_method_of links (headers_of classes) file)) m)
      (by (has method.flags NATIVE) refl)) where
        by : (native : Bool) → has method.flags NATIVE ≡ native → of_run (Some (run_of file method)) ≡ None
        by true n = rw (n) refl
        by false n = rw (n) (rw (found) refl)

  by_method : (file : ClassFile) → slice_get classes.folder at.class ≡ Some file
      → (method : Option Method) → slice_get file.methods at.method ≡ method
      → (s : Scope) × (scope_at classes at ≡ Some s)
  by_method file e (Some method) m = by_scope file e method m (scope_of (headers_of classes) file method) refl
  by_method file e None m =
      absurd (no_code None
      (class_here (Some file) e ∙ slice_get-map (run_method_of links (headers_of classes) file) file.methods at.method
      ∙ ap (option_map (run_method_of links (headers_of classes) file)) m) refl)

  by_file : (file : Option ClassFile) → slice_get classes.folder at.class ≡ file → (s : Scope) × (scope_at classes at ≡ Some s)
  by_file (Some file) e = by_method file e (slice_get file.methods at.method) refl
  by_file None e = absurd (no_code None (class_here None e) refl)

  pub scope_there : (s : Scope) × (scope_at classes at ≡ Some s)
  scope_there = by_file (slice_get classes.folder at.class) refl
