-- The points of a method, one after the other, and the handlers around them.
use Rattle.std.proofs.Common.{◌≡◌, ◌+◌, ◌<◌, ◌≤◌, ℕ, zero, suc, List, [], ◌∷◌, ◌++◌, take, slice_get, Some, refl, sym, ap, subst, ◌∙◌, arith, if◌then◌else◌}
use Rattle.std.proofs.lemmas.Option.{same_Some}
use Rattle.std.specs.List.{AllByRecursion, flat_map}
use Rattle.class_model.specs.Laws.Lists.{AllByRecursion-weaker}
use Rattle.class_model.specs.declared.class_file.Handler.{Handler}
use Rattle.class_model.specs.declared.frame.Frame.{Frame}
use Rattle.class_model.specs.declared.instr.Placed.{Placed}
use Rattle.expanded_code.specs.Alone.{alone_point, alone_points, handler_by}
use Rattle.flow_code.specs.declared.handlers.FlatHandler.{FlatHandler}
use Rattle.flow_code.specs.declared.point.Point.{Point}
use Rattle.inline_expand.specs.Inner.Hosts.{CoversAlike}
use Rattle.inline_expand.specs.Inner.Numbers.{handlers_for, number_by}
use Rattle.inline_expand.specs.declared.numbers.Numbers.{Numbers}
use Rattle.member_link.specs.Machine.Codes.{covers}
use Rattle.member_link.specs.Scope.{Scope}

-- ---- points

module _ (s : Scope) (class : ℕ) where
  more-points : (instrs : List Placed) (frames : List Frame) (at : ℕ) (placed : Placed) (frame : Frame) → slice_get instrs at ≡ Some placed → slice_get frames at ≡ Some frame
      → alone_points s class (take (suc at) instrs) (take (suc at) frames) ≡ alone_points s class (take at instrs) (take at frames) ++ alone_point s class placed frame ∷ []
  more-points [] frames at placed frame is frame_is = absurd cc
  more-points (first ∷ instrs) [] at placed frame is frame_is = absurd cc
  more-points (first ∷ instrs) (own ∷ frames) zero placed frame is frame_is =
      let one = same_Some first placed is in
      let other = same_Some own frame frame_is in
      λ i. alone_point s class (one i) (other i) ∷ []
  more-points (first ∷ instrs) (own ∷ frames) (suc at) placed frame is frame_is =
      ap (λ (rest : List Point). alone_point s class first own ∷ rest) (more-points instrs frames at placed frame is frame_is)

  pub points-more : (instrs : List Placed) (frames : List Frame) (at : ℕ) (placed : Placed) (frame : Frame) → slice_get instrs at ≡ Some placed → slice_get frames at ≡ Some frame
      → alone_points s class (take (at + 1) instrs) (take (at + 1) frames) ≡ alone_points s class (take at instrs) (take at frames) ++ alone_point s class placed frame ∷ []
  points-more instrs frames at placed frame is frame_is =
      let next : suc at ≡ at + 1 = omega arith in
      subst (λ (n : ℕ). alone_points s class (take n instrs) (take n frames) ≡ alone_points s class (take at instrs) (take at frames) ++ alone_point s class placed frame ∷ []) next
      (more-points instrs frames at placed frame is frame_is)

-- ---- handlers

-- up to the next bound the handlers are the same
alike : (s : Scope) (number : ℕ → ℕ) (at until : ℕ) (handlers : List Handler) → AllByRecursion (CoversAlike at until) handlers → (later : ℕ) → at ≤ later → later < until
    → flat_map (λ (handler : Handler). if covers handler later then handler_by s number handler else []) handlers ≡ flat_map (λ (handler : Handler). if covers handler at then handler_by s number handler else []) handlers
alike s number at until [] all later least below = refl
alike s number at until (handler ∷ handlers) all later least below = rw (all.0 later least below, alike s number at until handlers all.1 later least below) refl

pub handlers-alike : (numbers : Numbers) (at until : ℕ) (handlers : List FlatHandler) → AllByRecursion (CoversAlike at until) numbers.host.now.part.handlers → handlers ≡ handlers_for numbers at → (later : ℕ) → at ≤ later → later < until → handlers_for numbers later ≡ handlers
handlers-alike numbers at until handlers all is later least below = alike numbers.host.now (number_by numbers) at until numbers.host.now.part.handlers all later least below ∙ sym is

-- and up to a bound before it
pub before-bound : (at until : ℕ) (handlers : List Handler) → AllByRecursion (CoversAlike at until) handlers → (less : ℕ) → less ≤ until → AllByRecursion (CoversAlike at less) handlers
before-bound at until handlers all less fewer = AllByRecursion-weaker (CoversAlike at until) (CoversAlike at less) (λ handler covers later least below. covers later least (omega arith)) handlers all

one-more : (P : Handler → Type 0) (handlers : List Handler) (handler : Handler) → AllByRecursion P handlers → P handler → AllByRecursion P (handlers ++ handler ∷ [])
one-more P [] handler all holds = (holds, tt)
one-more P (first ∷ handlers) handler all holds = (all.0, one-more P handlers handler all.1 holds)

pub next-bound : (at until bound next : ℕ) (handlers : List Handler) (number : ℕ) (handler : Handler) → take (number + 1) handlers ≡ take number handlers ++ handler ∷ [] → AllByRecursion (CoversAlike at until) (take number handlers) → CoversAlike at bound handler → next ≤ until → next ≤ bound
    → AllByRecursion (CoversAlike at next) (take (number + 1) handlers)
next-bound at until bound next handlers number handler is all own fewer less =
    subst (AllByRecursion (CoversAlike at next)) (sym is)
    (one-more (CoversAlike at next) (take number handlers) handler (before-bound at until (take number handlers) all next fewer) (λ later least below. own later least (omega arith)))
