use Rattle.std.specs.Prelude.{◌≡◌, ◌<◌, refl, ℕ, List, [], ◌∷◌, length, reverse, slice_get, Option, Some, None, IfSome, option_and_then}
use Rattle.std.proofs.Common.{arith, ap, sym, ◌∙◌, subst}
use Rattle.std.proofs.lemmas.Option.{slice_get_within, slice_get-get_or}
use Rattle.class_model.specs.declared.class_file.MethodAt.{MethodAt}
use Rattle.class_model.specs.declared.frame.Frame.{Frame}
use Rattle.machine_values.specs.Frames.{MethodState}
use Rattle.machine_values.specs.declared.value.Value.{Value}
use Rattle.member_link.specs.Machine.Programs.{Program, Code, Point, run_method, code_run, code_at, point_at}
use Rattle.member_link.specs.Machine.Worlds.{Memory}
use Rattle.member_link.specs.Rows.FrameAssignability.{AreAssignable}
use Rattle.typed_runs.proofs.Assigned.{all_assigned, units_assigned}
use Rattle.typed_runs.specs.Conforming.{IsInHeap, AllConform, UnitsConform, IsTypedMemory}
use Rattle.typed_runs.specs.TypedFrames.{ArePaired, StandsAt, Does}
use Rattle.typed_runs.specs.TypedPoints.{LeadsTo, TypedPoint}
use Rattle.typed_runs.specs.TypedPrograms.{Typings, IsTypedMethod, IsTypedProgram}

-- ---- the point at a number

-- the parts of an option that a chain gave
pub of_chain : {A B : Type 0} (f : A → Option B) (o : Option A) (b : B) → option_and_then f o ≡ Some b → (a : A) × (o ≡ Some a) × (f a ≡ Some b)
of_chain f None b is = cc
of_chain f (Some a) b is = (a, refl, is)

pub point_of : (P : Program) (at : MethodAt) (n : ℕ) (code : Code) (p : Point) → code_at P at ≡ Some code → slice_get code.points n ≡ Some p → point_at P at n ≡ Some p
point_of P at n code p is there = ap (λ o. option_and_then (λ (c : Code). slice_get c.points n) o) is ∙ there

pub at_same_number : {A B : Type 0} (xs : List A) (ys : List B) → length xs ≡ length ys → (n : ℕ) (x : A) → slice_get xs n ≡ Some x → (y : B) × (slice_get ys n ≡ Some y)
at_same_number xs [] same n x is = let w : n < length xs = slice_get_within xs n x is in absurd (omega (arith, w, same))
at_same_number xs (y ∷ ys) same n x is =
    let w : n < length xs = slice_get_within xs n x is in
    (_, slice_get-get_or (y ∷ ys) n y (omega (arith, w, same)))

-- what a frame leads to: a point, which its own frame fits
pub record PointThere (P : Program) (T : Typings) (at : MethodAt) (n : ℕ) (from : Frame) : Type 0 where
  pub point : Point
  pub is_point : point_at P at n ≡ Some point
  pub fits : TypedPoint P (T at) n point
  pub leads : (l : LeadsTo (T at) n from) → l.to ≡ fits.frame

some_is : {A : Type 0} {a b : A} → Some a ≡ Some b → a ≡ b
some_is e = cc

pub point_there : (P : Program) (T : Typings) → IsTypedProgram P T → (at : MethodAt) (code : Code) → code_at P at ≡ Some code
    → (n : ℕ) (from : Frame) → LeadsTo (T at) n from → PointThere P T at n from
point_there P T program at code is n from leads =
    let m = of_chain code_run (run_method P at) code is in
    let typed : IsTypedMethod P at m.0.member code (T at) = program.methods at m.0 code m.1 m.2 in
    let q = at_same_number (T at).frames code.points typed.one_each n leads.to leads.is_frame in
    let fits : TypedPoint P (T at) n q.0 = typed.points n q.0 q.1 in
    record {
      point = q.0;
      is_point = point_of P at n code q.0 is q.1;
      fits = fits;
      leads = λ l. some_is (sym l.is_frame ∙ fits.is_frame);
    }

-- ---- a frame that goes on there

pub does_there : (P : Program) (T : Typings) (m : Memory) → IsTypedProgram P T → IsTypedMemory P m
    → (f : MethodState) → StandsAt P T m.heap f → (n : ℕ) (from : Frame) → LeadsTo (T f.at) n from
    → (locals : List (Option Value)) (stack : List Value)
    → ArePaired locals → UnitsConform P (T f.at).scope m.heap from.locals locals → AllConform P (T f.at).scope m.heap from.stack (reverse stack)
    → Does P T m.heap (record f { place = n; locals = locals; stack = stack })
does_there P T m program memory f stands n from leads locals stack paired units values =
    let c = of_chain (λ (code : Code). slice_get code.points f.place) (code_at P f.at) stands.point stands.is_point in
    let e = of_chain code_run (run_method P f.at) c.0 c.1 in
    let typed : IsTypedMethod P f.at e.0.member c.0 (T f.at) = program.methods f.at e.0 c.0 e.1 e.2 in
    let p = point_there P T program f.at c.0 c.1 n from leads in
    let a = leads.assignable in
    record {
      stands = record { point = p.point; is_point = p.is_point; fits = p.fits; paired = paired; held = stands.held };
      locals = subst (λ (g : Frame). UnitsConform P (T f.at).scope m.heap g.locals locals) (p.leads leads)
          (units_assigned P T program from.locals leads.to.locals (subst (λ hs. AreAssignable hs from.locals leads.to.locals) typed.headers a.locals) units);
      stack = subst (λ (g : Frame). AllConform P (T f.at).scope m.heap g.stack (reverse stack)) (p.leads leads)
          (all_assigned P T program from.stack leads.to.stack (subst (λ hs. AreAssignable hs from.stack leads.to.stack) typed.headers a.stack) values);
    }

-- a new frame that begins there
pub does_first : (P : Program) (T : Typings) (m : Memory) → IsTypedProgram P T → (f : MethodState) (code : Code) → code_at P f.at ≡ Some code → IfSome f.held (IsInHeap m.heap)
    → (from : Frame) → LeadsTo (T f.at) f.place from → ArePaired f.locals
    → UnitsConform P (T f.at).scope m.heap from.locals f.locals → AllConform P (T f.at).scope m.heap from.stack (reverse f.stack)
    → Does P T m.heap f
does_first P T m program f code is_code held from leads paired units values =
    let e = of_chain code_run (run_method P f.at) code is_code in
    let typed : IsTypedMethod P f.at e.0.member code (T f.at) = program.methods f.at e.0 code e.1 e.2 in
    let p = point_there P T program f.at code is_code f.place from leads in
    let a = leads.assignable in
    record {
      stands = record { point = p.point; is_point = p.is_point; fits = p.fits; paired = paired; held = held };
      locals = subst (λ (g : Frame). UnitsConform P (T f.at).scope m.heap g.locals f.locals) (p.leads leads)
          (units_assigned P T program from.locals leads.to.locals (subst (λ hs. AreAssignable hs from.locals leads.to.locals) typed.headers a.locals) units);
      stack = subst (λ (g : Frame). AllConform P (T f.at).scope m.heap g.stack (reverse f.stack)) (p.leads leads)
          (all_assigned P T program from.stack leads.to.stack (subst (λ hs. AreAssignable hs from.stack leads.to.stack) typed.headers a.stack) values);
    }
