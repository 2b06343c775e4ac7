-- Frames are found one after the other, and not kept.
use Rattle.std.proofs.Common.{◌≡◌, ◌⊎◌, ◌+◌, ◌<◌, ◌≤◌, ℕ, List, [], ◌∷◌, ◌++◌, length, drop, get_or, Option, Some, None, Ok, refl, sym, ap, subst, ◌∙◌}
use Rattle.std.specs.Prelude.{if◌then◌else◌}
use Rattle.class_model.specs.Checks.{AllHold}
use Rattle.class_model.specs.Instructions.{targets}
use Rattle.class_model.specs.declared.frame.Frame.{Frame}
use Rattle.class_model.specs.declared.instr.Instr.{Instr}
use Rattle.class_model.specs.declared.instr.Instr.TheVariants.{Nop}
use Rattle.class_model.specs.declared.instr.Placed.{Placed}
use Rattle.member_link.specs.Bodies.{falls_through}
use Rattle.member_link.specs.Scope.{Scope, row_scope}
use Rattle.type_rules.specs.Checks.{MayFlowIn, frame_before, target_checks}
use Rattle.type_rules.specs.MethodBodies.{body_of}
use Rattle.type_rules.specs.Rule.{Rules}
use Rattle.type_rules.specs.Stated.{stated_at}
use Rattle.type_rules.specs.declared.ruled.Ruled.{Ruled}
use Rattle.verify_folder.proofs.InForce.{idle_holds}
use Rattle.verify_folder.proofs.Stepping.{is_typed}
use Rattle.verify_folder.proofs.Walking.{IsOnWalk, all_typed, one_typed}
use Rattle.verify_folder.specs.Inner.Active.{AreInForce, AreKnown, NoneBegins}
use Rattle.verify_folder.specs.Inner.Passing.{ArePassed, IsPassed}
use Rattle.verify_folder.specs.Inner.Steps.{BeforeAnswers}
use Rattle.verify_folder.specs.declared.active.ActiveHandlers.{ActiveHandlers}
use Rattle.type_rules.specs.declared.keeping.LocalChanges.TheVariants.{Nowhere}

-- ---- an instruction that hands on what flows into it

module _ (s : Scope) (frame : Frame) (placed : Placed) (nop : placed.instr ≡ Nop) (none : stated_at s placed.at ≡ None) where
  found : BeforeAnswers s (Some frame) placed.at (Ok frame)
  found = subst (λ (stated : Option Frame). (frame_before (Some frame) stated ≡ Some frame) × MayFlowIn (row_scope s) (Some frame) stated) (sym none) (refl, tt)

  no_targets : AllHold (target_checks (body_of s) (Some frame) (targets placed.instr))
  no_targets = subst (λ (instr : Instr). AllHold (target_checks (body_of s) (Some frame) (targets instr))) (sym nop) tt

  goes_on : Some frame ≡ (if falls_through placed.instr then Some frame else None)
  goes_on = subst (λ (instr : Instr). Some frame ≡ (if falls_through instr then Some frame else None)) (sym nop) refl

  pub handed_on : (a : ActiveHandlers) → AreInForce s a → a.at ≤ placed.at → NoneBegins a placed.at → AreKnown a (Some frame) → (a.active.items ≡ []) ⊎ (a.changes ≡ Nowhere) → Rules s placed frame (Ok (record { next = Some frame; thrown = record { locals = frame.locals; stack = [] } })) → IsPassed s (Some frame) placed (Some frame)
  handed_on a in_force later begins known checked rule =
      let next = ap (λ (ruled : Ruled). ruled.next) rule.1 in
      record {
        before = frame;
        told = (
          is_typed s (Some frame) placed frame found (Some frame) next (idle_holds s frame placed.at a in_force later begins known checked) rule.0 no_targets,
          goes_on ∙ ap (λ (behind : Option Frame). if falls_through placed.instr then behind else None) next,
        );
      }

-- ---- one instruction after the other

-- Frames type the first instructions; this frame flows into those that are left.
pub record IsPassing (s : Scope) (flows : Option Frame) (left : List Placed) : Type 0 where
  pub frames : List Frame
  pub on : IsOnWalk s frames flows left

module _ (s : Scope) (flows : Option Frame) (instrs : List Placed) (i : ℕ) (passing : IsPassing s flows (drop i instrs)) where
  pub one_passed : (placed : Placed) → i < length instrs → placed ≡ get_or instrs i placed → (next : Option Frame) → IsPassed s flows placed next → IsPassing s next (drop (i + 1) instrs)
  one_passed placed within is next passed = record {
    frames = passing.frames ++ passed.before ∷ [];
    on = one_typed s passing.frames flows instrs i passing.on placed within is passed.before next passed.told;
  }

  pub all_passed : length instrs ≤ i → flows ≡ None → ArePassed s
  all_passed end none = record { frames = passing.frames; typed = all_typed s passing.frames flows instrs i passing.on end none }
