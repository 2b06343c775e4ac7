-- Going over items, one after the other, places what is stated and finds how deep the stack gets.
use Rattle.std.proofs.Common.{◌≡◌, ◌≤◌, ℕ, suc, max, min, List, [], ◌∷◌, ◌++◌, length, drop, Option, Some, None, refl, sym, ap, subst, ◌∙◌, arith, append-nil, append_assoc, if◌then◌else◌}
use Rattle.std.proofs.lemmas.List.{drop_all}
use Rattle.class_model.specs.Frames.{depth}
use Rattle.class_model.specs.declared.frame.Frame.{Frame}
use Rattle.class_model.specs.declared.frame.PlacedFrame.{PlacedFrame}
use Rattle.class_model.specs.declared.instr.Instr.{Instr}
use Rattle.code_layout.specs.Layout.{start_in}
use Rattle.code_layout.specs.declared.emitted.EmitItem.{EmitItem}
use Rattle.member_link.specs.Bodies.{falls_through}
use Rattle.member_link.specs.RowScope.{RowScope}
use Rattle.plan_flow.specs.Written.FramedCode.{depth_in}
use Rattle.row_frames.specs.Behind.{NamesTexts}
use Rattle.stackmap_emit.specs.Inner.Walking.{AreWalkedTo, IsWalk, NamesAlong, NamesAt, Reads, Stating, Steps, WalkedTo, behind_instr, depth_along, depth_at, goes_on, had_at, next_flow, placed_if, stated_along, stated_at, stating_of}
use Rattle.stackmap_emit.specs.PlacedFrames.{placed_frames}
use Rattle.stackmap_emit.specs.declared.walk.WrittenFrames.{WrittenFrames}

-- ---- one item

module _ (walk : Reads) (s : RowScope) (number : ℕ) (instr : Instr) (flow : Option Frame) (old new : WrittenFrames) where
  abbrev w : Stating
  w = stating_of walk

  abbrev placed_here : List PlacedFrame
  placed_here = placed_if (start_in walk.offsets) number (stated_at w number flow)

  no_more : (n : ℕ) → n ≡ max n (min 0 65535)
  no_more n = omega arith

  -- one that has no frame
  pub steps_none : had_at w number flow ≡ None
      → new.placed ≡ old.placed ++ placed_here
      → new.max_stack ≡ old.max_stack
      → Steps walk s number instr flow old None new
  steps_none none placed deep = record {
    placed = placed;
    goes = λ names. sym (ap (goes_on s number instr) none);
    deepest = λ names.
        deep ∙ no_more old.max_stack
        ∙ sym (ap (λ (had : Option Frame). max old.max_stack (min (depth_at s number instr had) 65535)) none);
  }

  -- one that has a frame
  pub steps_some : (had : Frame) (behind next : Option Frame)
      → had_at w number flow ≡ Some had
      → (NamesTexts s had number instr → behind ≡ behind_instr s number instr had)
      → new.placed ≡ old.placed ++ placed_here
      → new.max_stack ≡ max old.max_stack (min (max (depth had.stack) (depth_in behind)) 65535)
      → next ≡ (if falls_through instr then behind else None)
      → Steps walk s number instr flow old next new
  steps_some had behind next is is_behind placed deep on = record {
    placed = placed;
    goes = λ names.
        on
        ∙ ap (λ (frame : Option Frame). if falls_through instr then frame else None) (is_behind (subst (NamesAt s number instr) is names))
        ∙ sym (ap (goes_on s number instr) is);
    deepest = λ names.
        deep
        ∙ ap (λ (frame : Option Frame). max old.max_stack (min (max (depth had.stack) (depth_in frame)) 65535))
        (is_behind (subst (NamesAt s number instr) is names))
        ∙ sym (ap (λ (frame : Option Frame). max old.max_stack (min (depth_at s number instr frame) 65535)) is);
  }

-- ---- items

placed_first : (place : ℕ → ℕ) (number : ℕ) (stated : Option Frame) (more : List (Option Frame))
    → placed_frames place number (stated ∷ more) ≡ placed_if place number stated ++ placed_frames place (suc number) more
placed_first place number None more = refl
placed_first place number (Some frame) more = refl

deeper : (old new here more all : ℕ) → new ≡ max old (min here 65535) → max old (min (max here more) 65535) ≡ all → max new (min more 65535) ≡ all
deeper old new here more all is before = omega (arith, is, before)

module _ (walk : Reads) (entry : Frame) (items : List EmitItem) where
  abbrev stating : Stating
  stating = stating_of walk

  abbrev place : ℕ → ℕ
  place = start_in walk.offsets

  pub walked_none : (made : WrittenFrames) → made.placed ≡ [] → made.max_stack ≡ 0 → AreWalkedTo walk entry items 0 (Some entry) items made
  walked_none made empty flat = λ s scope. record {
    names = scope.names;
    placed = ap (λ (found : List PlacedFrame). found ++ placed_frames place 0 (stated_along s stating 0 (Some entry) items)) empty;
    deepest = none made.max_stack (min (depth_along s stating 0 (Some entry) items) 65535) flat;
  } where
    none : (a b : ℕ) → a ≡ 0 → max a b ≡ b
    none a b is = omega (arith, is)

  next_walked : (s : RowScope) (number : ℕ) (flow next : Option Frame) (item : EmitItem) (rest : List EmitItem) (old new : WrittenFrames)
      → WalkedTo walk entry items s number flow (item ∷ rest) old
      → Steps walk s number item.instr flow old next new
      → WalkedTo walk entry items s (suc number) next rest new
  next_walked s number flow next item rest old new before step =
      let on : next ≡ next_flow s stating number flow item = step.goes before.names.0 in
      let stated = stated_at stating number flow in
      let behind = stated_along s stating (suc number) next rest in
      record {
        names = subst (λ (from : Option Frame). NamesAlong s stating (suc number) from rest) (sym on) before.names.1;
        placed =
            ap (λ (found : List PlacedFrame). found ++ placed_frames place (suc number) behind) step.placed
            ∙ append_assoc old.placed (placed_if place number stated) (placed_frames place (suc number) behind)
            ∙ ap (λ (found : List PlacedFrame). old.placed ++ found) (sym (placed_first place number stated behind))
            ∙ ap (λ (from : Option Frame). old.placed ++ placed_frames place number (stated ∷ stated_along s stating (suc number) from rest)) on
            ∙ before.placed;
        deepest =
            ap (λ (from : Option Frame). max new.max_stack (min (depth_along s stating (suc number) from rest) 65535)) on
            ∙ deeper old.max_stack new.max_stack (depth_at s number item.instr (had_at stating number flow))
            (depth_along s stating (suc number) (next_flow s stating number flow item) rest)
            (min (depth_along s stating 0 (Some entry) items) 65535) (step.deepest before.names.0) before.deepest;
      }

  pub walked_next : (number : ℕ) (flow next : Option Frame) (item : EmitItem) (rest : List EmitItem) (old new : WrittenFrames)
      → drop number items ≡ item ∷ rest
      → AreWalkedTo walk entry items number flow (drop number items) old
      → ((s : RowScope) → s.pool ≡ walk.pool → s.own.name ≡ walk.own → Steps walk s number item.instr flow old next new)
      → AreWalkedTo walk entry items (suc number) next rest new
  walked_next number flow next item rest old new is before steps = λ s scope.
      next_walked s number flow next item rest old new
      (subst (λ (left : List EmitItem). WalkedTo walk entry items s number flow left old) is (before s scope)) (steps s scope.pool scope.own)

  pub walked_all : (number : ℕ) (flow : Option Frame) (made : WrittenFrames) → length items ≤ number
      → AreWalkedTo walk entry items number flow (drop number items) made
      → IsWalk walk entry items made
  walked_all number flow made past before = λ s scope.
      let done : WalkedTo walk entry items s number flow [] made =
      subst (λ (left : List EmitItem). WalkedTo walk entry items s number flow left made) (drop_all number items past) (before s scope) in
      record {
        placed = sym (append-nil made.placed) ∙ done.placed;
        deepest = none made.max_stack ∙ done.deepest;
      } where
        none : (a : ℕ) → a ≡ max a (min 0 65535)
        none a = omega arith
