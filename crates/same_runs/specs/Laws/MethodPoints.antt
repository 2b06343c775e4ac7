-- Methods by their points: a method with a point has a code, and is there; its handlers are those of the point; and methods at the same numbers are class
-- initialisers in both programs, or in none.
use Rattle.std.proofs.Common.{◌≡◌, not, ℕ, Bool, true, slice_get, Option, Some, None, refl, ap, ◌∙◌}
use Rattle.std.specs.Prelude.{bytes_eq, option_and_then}
use Rattle.std.proofs.lemmas.Option.{none-some}
use Rattle.class_model.specs.Names.{clinit}
use Rattle.class_model.specs.declared.class_file.MethodAt.{MethodAt}
use Rattle.class_model.specs.declared.header.Member.{Member}
use Rattle.machine_values.specs.Frames.{MethodState}
use Rattle.member_link.specs.Machine.Acting.{pending_of}
use Rattle.member_link.specs.Machine.Ops.{Op}
use Rattle.member_link.specs.Machine.Performing.{is_initialiser}
use Rattle.member_link.specs.Machine.Programs.{Code, Point, Program, RunMethod, code_at, code_run, point_at, run_method}
use Rattle.same_runs.specs.SameFrames.{EndSame, catches_at}
use Rattle.same_runs.specs.SamePrograms.{SameOp, SamePrograms, same_initialiser, same_op, same_store}
use Rattle.same_runs.specs.Laws.Methods.{same_run_method}

-- ---- codes and points

pub method_of_code : (P : Program) (at : MethodAt) (code : Code) → code_at P at ≡ Some code
    → (method : RunMethod) × (run_method P at ≡ Some method) × (code_run method ≡ Some code)
method_of_code P at code is = by (run_method P at) refl is where
  by : (found : Option RunMethod) → run_method P at ≡ found → option_and_then code_run found ≡ Some code
      → (method : RunMethod) × (run_method P at ≡ Some method) × (code_run method ≡ Some code)
  by None e none = absurd (none-some code none)
  by (Some method) e some = (method, e, some)

pub code_of_point : (P : Program) (at : MethodAt) (place : ℕ) (point : Point) → point_at P at place ≡ Some point
    → (code : Code) × (code_at P at ≡ Some code) × (slice_get code.points place ≡ Some point)
code_of_point P at place point is = by (code_at P at) refl is where
  by : (found : Option Code) → code_at P at ≡ found → option_and_then (λ (code : Code). slice_get code.points place) found ≡ Some point
      → (code : Code) × (code_at P at ≡ Some code) × (slice_get code.points place ≡ Some point)
  by None e none = absurd (none-some point none)
  by (Some code) e some = (code, e, some)

pub point_in_code : (P : Program) (at : MethodAt) (place : ℕ) (code : Code) → code_at P at ≡ Some code
    → point_at P at place ≡ slice_get code.points place
point_in_code P at place code is = rw (is) refl

-- a method that has a point is there
pub method_there : (P : Program) (at : MethodAt) (place : ℕ) (point : Point)
    → point_at P at place ≡ Some point
    → (method : RunMethod) × (run_method P at ≡ Some method)
method_there P at place point is =
    let code = code_of_point P at place point is in
    let method = method_of_code P at code.0 code.1 in
    (method.0, method.1)

-- the handlers around a frame are those of its point
pub catches_are : (P : Program) (f : MethodState) (point : Point) → point_at P f.at f.place ≡ Some point → catches_at P f ≡ point.catches
catches_are P f point is = rw (is) refl

-- ---- methods in both programs

-- methods at the same numbers are class initialisers in both programs, or in none
pub ends_same : {P Q : Program} → SamePrograms P Q → (f g : MethodState) (method : RunMethod)
    → run_method P f.at ≡ Some method
    → g.at ≡ f.at
    → EndSame P Q f g
ends_same {Q = Q} same f g method is at =
    let found = same_run_method same f.at method is in
    record {
      method = method;
      also = found.0;
      is = is;
      is_also = ap (run_method Q) at ∙ found.1;
      same = ap (λ (member : Member). bytes_eq member.name clinit) found.2.member;
    }

pub ends_there : {P Q : Program} → SamePrograms P Q → (f g : MethodState) (point : Point)
    → point_at P f.at f.place ≡ Some point
    → g.at ≡ f.at
    → EndSame P Q f g
ends_there {P = P} same f g point is at = let method = method_there P f.at f.place point is in ends_same same f g method.0 method.1 at

-- The same operation asks the library for the same.
pub pending_same : {P Q : Program} {op also : Op} → SameOp P Q op also → pending_of also ≡ pending_of op
pending_same (same_op both) = refl
pending_same (same_store bar) = refl
pending_same (same_initialiser name there) = refl

-- ---- frames that wait

-- the frame below a method's waits for it, where the method is no class initialiser
abbrev pub is_awaited_in : Program → MethodAt → Bool
is_awaited_in P at = of_method (run_method P at) where
  of_method : Option RunMethod → Bool
  of_method None = true
  of_method (Some method) = not (is_initialiser method)

pub awaited_is : (P : Program) (at : MethodAt) (method : RunMethod) (b : Bool) → run_method P at ≡ Some method → is_initialiser method ≡ b
    → is_awaited_in P at ≡ not b
awaited_is P at method b is named = rw (is, named) refl
