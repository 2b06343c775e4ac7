-- The frames of a case, item by item.
use Rattle.std.proofs.Common.{◌≡◌, ◌∙◌, ℕ, zero, suc, List, [], ◌∷◌, map, slice_get, Option, Some, refl}
use Rattle.class_model.specs.declared.frame.Frame.{Frame}
use Rattle.plan_flow.specs.Written.FramedCode.{flow_into, frame_had, frame_of_item, is_led_to, stated_by}
use Rattle.written_cases.specs.CaseFrames.{Framed, framed_body}
use Rattle.written_cases.specs.CaseWords.{blocks_in, flat_in}

-- what a function of numbers gives at the places of a list
abbrev pub values : {X : Type 0} → (ℕ → Option X) → List X → List (Option X)
values at [] = []
values at (x ∷ xs) = at zero ∷ values (λ number. at (suc number)) xs

values_each : {X : Type 0} (at : ℕ → Option X) (xs : List X) → values at xs ≡ map Some xs → (number : ℕ) (x : X) → slice_get xs number ≡ Some x → at number ≡ Some x
values_each at [] e number x there = absurd cc
values_each at (y ∷ ys) e zero x there =
    let whole : at zero ∷ values (λ number. at (suc number)) ys ≡ Some y ∷ map Some ys = e in
    let first : at zero ≡ Some y = cc whole in
    first ∙ there
values_each at (y ∷ ys) e (suc number) x there =
    let whole : at zero ∷ values (λ number. at (suc number)) ys ≡ Some y ∷ map Some ys = e in
    let rest : values (λ number. at (suc number)) ys ≡ map Some ys = cc whole in
    values_each (λ number. at (suc number)) ys rest number x there

-- the frame that an item has
abbrev pub had_at : Framed → ℕ → Option Frame
had_at one number = frame_had ((framed_body one).stated number) (flow_into (framed_body one) one.frames number)

pub each_had : (one : Framed) → values (had_at one) one.frames ≡ map Some one.frames → (number : ℕ) (frame : Frame) → slice_get one.frames number ≡ Some frame → had_at one number ≡ Some frame
each_had one e number frame there = values_each (had_at one) one.frames e number frame there

pub each_stated :
    (one : Framed) (number : ℕ)
    → (framed_body one).stated number
    ≡ stated_by (is_led_to one.wanted.items number) (flow_into (framed_body one) one.frames number)
    (frame_of_item (flat_in one.case) one.case.form (blocks_in one.case) number)
each_stated one zero = refl
each_stated one (suc number) = refl
