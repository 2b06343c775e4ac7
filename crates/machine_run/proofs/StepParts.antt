-- Parts of a step: what is on top, and how the parts make the step.
use Rattle.std.proofs.Common.{◌≡◌, ◌∷◌, ◌+◌, ◌<◌, ◌-◌, ◌^◌, ℕ, Bool, true, false, cond, List, [], Result, Ok, Err, IfOk, OnOk, IfSome, Option, Some, None, option_and_then, slice_get, refl, sym, ap, subst, ◌∙◌}
use Rattle.class_model.specs.declared.class_file.MethodAt.{MethodAt}
use Rattle.machine_values.specs.Frames.{MethodState}
use Rattle.machine_values.specs.declared.frame.RunFrame.{RunFrame}
use Rattle.machine_values.specs.declared.frame.RunFrame.TheVariants.{Library, Beginning, Method}
use Rattle.member_link.specs.Machine.Bounds.{HasFewDimensions, NextHasFewDimensions}
use Rattle.member_link.specs.Machine.Programs.{Program, Code, Point, code_at, point_at}
use Rattle.member_link.specs.Machine.Stepping.{ends_stuck, frames_step, is_library_turn, point_step, step}
use Rattle.member_link.specs.Machine.Worlds.{World}
use Rattle.machine_run.specs.Inner.Performed.{HasNoPoint, IsFrameOf, IsNextBounded, TopHasNext, top_of}
use Rattle.machine_run.specs.declared.stepping.Top.TheVariants as tops

pub always_ok : {T E X : Type 0} (r : Result T E) → X → OnOk r X
always_ok (Ok y) x = x
always_ok (Err e) x = tt

pub ok_with : {T E : Type 0} (r : Result T E) (A : T → Type 0) (B C : Type 0) → ((y : T) → A y → B → C) → IfOk r A → OnOk r B → OnOk r C
ok_with (Ok y) A B C f a b = f y a b
ok_with (Err e) A B C f a b = tt

pub ok_gives : {T E X : Type 0} (r : Result T E) (A : T → Type 0) → ((y : T) → A y → X) → IfOk r A → OnOk r X
ok_gives (Ok y) A f a = f y a
ok_gives (Err e) A f a = tt

pub same_top : (frames : List RunFrame) (f g : MethodState) (rest others : List RunFrame) → frames ≡ Method f ∷ rest → frames ≡ Method g ∷ others → f ≡ g
same_top frames f g rest others is also = let both : Method f ∷ rest ≡ Method g ∷ others = sym is ∙ also in cc

-- a method without code has no point
pub no_code : (P : Program) (at : MethodAt) (place : ℕ) → code_at P at ≡ None → point_at P at place ≡ None
no_code P at place none = ap (option_and_then (λ (code : Code). slice_get code.points place)) none

-- ---- what is on top

pub method_top : (frames : List RunFrame) (at : MethodAt) → tops.Method at ≡ top_of frames → IsFrameOf at frames
method_top [] at is = absurd cc
method_top (Library made ∷ rest) at is = absurd cc
method_top (Beginning class ∷ rest) at is = absurd cc
method_top (Method f ∷ rest) at is = (f, rest, refl, cc)

pub beginning_top : (frames : List RunFrame) → tops.Beginning ≡ top_of frames → (class : ℕ) × (rest : List RunFrame) × (frames ≡ Beginning class ∷ rest)
beginning_top [] is = absurd cc
beginning_top (Library made ∷ rest) is = absurd cc
beginning_top (Beginning class ∷ rest) is = (class, rest, refl)
beginning_top (Method f ∷ rest) is = absurd cc

pub nothing_top : (frames : List RunFrame) → tops.Nothing ≡ top_of frames → frames ≡ []
nothing_top [] is = refl
nothing_top (Library made ∷ rest) is = absurd cc
nothing_top (Beginning class ∷ rest) is = absurd cc
nothing_top (Method f ∷ rest) is = absurd cc

pub library_top : (frames : List RunFrame) → tops.Library ≡ top_of frames → is_library_turn frames ≡ true
library_top [] is = absurd cc
library_top (Library made ∷ rest) is = refl
library_top (Beginning class ∷ rest) is = absurd cc
library_top (Method f ∷ rest) is = absurd cc

-- ---- a method without code

pub no_point_stuck :
    (P : Program) (w : World) (frames : List RunFrame) (at : MethodAt)
    → tops.Method at ≡ top_of frames
    → HasNoPoint P frames
    → frames_step P w frames ≡ ends_stuck w
no_point_stuck P w [] at is none = absurd cc
no_point_stuck P w (Library made ∷ rest) at is none = absurd cc
no_point_stuck P w (Beginning class ∷ rest) at is none = absurd cc
no_point_stuck P w (Method f ∷ rest) at is none = ap (point_step P w f rest) none

pub no_point_bounded : (P : Program) (frames : List RunFrame) → HasNoPoint P frames → IsNextBounded P frames
no_point_bounded P [] none = tt
no_point_bounded P (Library made ∷ rest) none = tt
no_point_bounded P (Beginning class ∷ rest) none = tt
no_point_bounded P (Method f ∷ rest) none =
    subst (λ (p : Option Point). IfSome p (λ point. HasFewDimensions point.op × (f.place < 2 ^ 32 - 1))) (sym none) tt

-- ---- bounds of the next operation

of_point : (P : Program) (f : MethodState) (p : Option Point) → IfSome p (λ point. HasFewDimensions point.op × (f.place < 2 ^ 32 - 1)) → IfSome p (λ point. HasFewDimensions point.op) × IfSome p (λ point. f.place < 2 ^ 32 - 1)
of_point P f None is = (tt, tt)
of_point P f (Some point) is = (is.0, is.1)

pub few_next : (P : Program) (frames : List RunFrame) → IsNextBounded P frames → NextHasFewDimensions P frames
few_next P [] is = tt
few_next P (Library made ∷ rest) is = tt
few_next P (Beginning class ∷ rest) is = tt
few_next P (Method f ∷ rest) is = (of_point P f (point_at P f.at f.place) is).0

pub has_next : (P : Program) (frames : List RunFrame) → IsNextBounded P frames → TopHasNext P frames
has_next P [] is = tt
has_next P (Library made ∷ rest) is = tt
has_next P (Beginning class ∷ rest) is = tt
has_next P (Method f ∷ rest) is = (of_point P f (point_at P f.at f.place) is).1

-- ---- a step that is not the library's

pub step_is : (P : Program) (w : World) → is_library_turn w.frames ≡ false → step P w ≡ frames_step P (record w { steps = w.steps + 1 }) w.frames
step_is P w turn = ap (λ (b : Bool). cond b w (frames_step P (record w { steps = w.steps + 1 }) w.frames)) turn
