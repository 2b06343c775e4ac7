-- The instructions are typed one after the other.
use Rattle.std.proofs.Common.{◌≡◌, ◌+◌, ◌<◌, ◌≤◌, ℕ, List, [], ◌∷◌, ◌++◌, length, drop, map, get_or, Option, Some, None, Ok, Err, sym, subst, inl, inr}
use Rattle.std.proofs.Math.Seq.{append_snoc}
use Rattle.std.proofs.lemmas.List.{append-nil, drop_more, drop_all}
use Rattle.class_model.specs.declared.frame.Frame.{Frame}
use Rattle.class_model.specs.declared.instr.Placed.{Placed}
use Rattle.type_rules.specs.MethodBodies.{body_of, point_of}
use Rattle.member_link.specs.Scope.{Scope}
use Rattle.type_rules.specs.Stated.{entry}
use Rattle.verify_folder.specs.declared.stop.Stop.{Stop}
use Rattle.verify_folder.specs.declared.stop.Stop.TheVariants.{Fails, NoMemory}
use Rattle.type_rules.specs.Typed.{AreTyped, FailsIn}
use Rattle.type_rules.specs.declared.fault.TypeRule.{TypeRule}
use Rattle.verify_folder.specs.Inner.Steps.{StepAnswers, WalkAnswers}

-- These frames type the first instructions; this frame flows into those that are left.
pub record IsOnWalk (s : Scope) (frames : List Frame) (flows : Option Frame) (left : List Placed) : Type 0 where
  pub types : (rest : List Frame) → AreTyped (body_of s) flows (map (point_of s) left) rest → AreTyped (body_of s) (Some (entry s)) (body_of s).points (frames ++ rest)
  pub fails : (at : ℕ) (rule : TypeRule) → FailsIn (body_of s) flows (map (point_of s) left) at rule → FailsIn (body_of s) (Some (entry s)) (body_of s).points at rule

module _ (s : Scope) (frames : List Frame) (flows : Option Frame) (instrs : List Placed) (i : ℕ) (on : IsOnWalk s frames flows (drop i instrs)) where
  module _ (placed : Placed) (within : i < length instrs) (is : placed ≡ get_or instrs i placed) where
    here : placed ∷ drop (i + 1) instrs ≡ drop i instrs
    here = subst (λ (first : Placed). first ∷ drop (i + 1) instrs ≡ drop i instrs) (sym is) (sym (drop_more instrs i placed within))

    pub one_typed : (before : Frame) (next : Option Frame) → StepAnswers s flows placed (Ok (before, next)) → IsOnWalk s (frames ++ before ∷ []) next (drop (i + 1) instrs)
    one_typed before next told = record {
      types = λ rest h.
          subst (AreTyped (body_of s) (Some (entry s)) (body_of s).points) (sym (append_snoc frames before rest))
          (on.types (before ∷ rest) (subst (λ left. AreTyped (body_of s) flows (map (point_of s) left) (before ∷ rest)) here (told.0, subst (λ frame. AreTyped (body_of s) frame (map (point_of s) (drop (i + 1) instrs)) rest) told.1 h)));
      fails = λ at rule h.
          on.fails at rule (subst (λ left. FailsIn (body_of s) flows (map (point_of s) left) at rule) here (inr (before, told.0, subst (λ frame. FailsIn (body_of s) frame (map (point_of s) (drop (i + 1) instrs)) at rule) told.1 h)));
    }

    pub step_stops : (stop : Stop) → StepAnswers s flows placed (Err stop) → WalkAnswers s (Err stop)
    step_stops (Fails offset rule) told = on.fails offset rule (subst (λ left. FailsIn (body_of s) flows (map (point_of s) left) offset rule) here (inl (told.1, told.0)))
    step_stops NoMemory told = tt

  pub all_typed : length instrs ≤ i → flows ≡ None → AreTyped (body_of s) (Some (entry s)) (body_of s).points frames
  all_typed end none = subst (AreTyped (body_of s) (Some (entry s)) (body_of s).points) (append-nil frames) (on.types [] (subst (λ left. AreTyped (body_of s) flows (map (point_of s) left) []) (sym (drop_all i instrs end)) none))
