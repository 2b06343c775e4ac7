use Rattle.std.specs.Prelude.{◌≡◌, ◌<◌, ◌==◌, refl, ℕ, zero, suc, Bool, true, false, List, [], ◌∷◌, map, slice_get, Some, option_map}
use Rattle.std.proofs.Common.{arith, ap, subst}
use Rattle.class_model.specs.Laws.Lists.{at_index}
use Rattle.class_model.specs.declared.frame.Frame.{Frame}
use Rattle.class_model.specs.declared.instr.Placed.{Placed}
use Rattle.member_link.specs.BodyTyping.{frame_among}
use Rattle.member_link.specs.Machine.Codes.{CodePoint, code_point}
use Rattle.member_link.specs.Machine.Programs.{number_of_first}
use Rattle.member_link.specs.Scope.{Scope}
use Rattle.typed_programs.proofs.Folders.{some_of}
use Rattle.type_rules.specs.Laws.InstructionOrder.{Ascend}
use Rattle.type_rules.specs.MethodBodies.{point_of}

-- ---- the order of instructions

pub same_place : (n : ℕ) → (n == n) ≡ true
same_place n = search arith

pub other_place : (a b : ℕ) → a < b → (a == b) ≡ false
other_place a b is = search arith

pub is_place : (a b : ℕ) → (a == b) ≡ true → a ≡ b
is_place a b is = search arith

-- ---- points by their places

pub number_found : (s : Scope) (ps : List Placed) → Ascend ps → (n : ℕ) (p : Placed) → slice_get ps n ≡ Some p
    → number_of_first (λ (c : CodePoint). c.place == p.at) (map (code_point s) ps) ≡ Some n
number_found s [] order n p is = cc
number_found s (q ∷ ps) order zero p is =
    let same : q ≡ p = some_of is in
    subst (λ (x : Placed). number_of_first (λ (c : CodePoint). c.place == x.at) (map (code_point s) (q ∷ ps)) ≡ Some zero) same
    (rw (same_place q.at) refl)
number_found s (q ∷ ps) order (suc n) p is =
    let before : q.at < p.at = at_index (λ (x : Placed). q.at < x.at) ps n p order.0 is in
    rw (other_place q.at p.at before) (ap (option_map suc) (number_found s ps order.1 n p is))

-- what stands at a place
pub record FrameThere (ps : List Placed) (fs : List Frame) (place : ℕ) (f : Frame) : Type 0 where
  pub number : ℕ
  pub placed : Placed
  pub is_placed : slice_get ps number ≡ Some placed
  pub is_place : placed.at ≡ place
  pub is_frame : slice_get fs number ≡ Some f

pub frame_there : (s : Scope) (ps : List Placed) (fs : List Frame) (place : ℕ) (f : Frame)
    → frame_among (map (point_of s) ps) fs place ≡ Some f → FrameThere ps fs place f
frame_there s [] fs place f is = cc
frame_there s (p ∷ ps) [] place f is = cc
frame_there s (p ∷ ps) (g ∷ fs) place f is = by (p.at == place) refl (frame_there s ps fs place f) where
  by : (b : Bool) → (p.at == place) ≡ b → (frame_among (map (point_of s) ps) fs place ≡ Some f → FrameThere ps fs place f)
      → FrameThere (p ∷ ps) (g ∷ fs) place f
  by true e next = record { number = zero; placed = p; is_placed = refl; is_place = is_place p.at place e; is_frame = rw e at is }
  by false e next = let t = next (rw e at is) in record {
    number = suc t.number;
    placed = t.placed;
    is_placed = t.is_placed;
    is_place =
        t.is_place;
    is_frame = t.is_frame;
  }

pub frame_placed : (s : Scope) (ps : List Placed) (fs : List Frame) → Ascend ps → (n : ℕ) (p : Placed) (f : Frame)
    → slice_get ps n ≡ Some p → slice_get fs n ≡ Some f → frame_among (map (point_of s) ps) fs p.at ≡ Some f
frame_placed s [] fs order n p f is frame = cc
frame_placed s (q ∷ ps) [] order n p f is frame = cc
frame_placed s (q ∷ ps) (g ∷ fs) order zero p f is frame =
    let same : q ≡ p = some_of is in
    subst (λ (x : Placed). frame_among (map (point_of s) (q ∷ ps)) (g ∷ fs) x.at ≡ Some f) same (rw (same_place q.at) frame)
frame_placed s (q ∷ ps) (g ∷ fs) order (suc n) p f is frame =
    let before : q.at < p.at = at_index (λ (x : Placed). q.at < x.at) ps n p order.0 is in
    rw (other_place q.at p.at before) (frame_placed s ps fs order.1 n p f is frame)
