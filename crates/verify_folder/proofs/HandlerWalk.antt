-- The handlers of an instruction are asked one after the other.
use Rattle.std.proofs.Common.{◌≡◌, ◌+◌, ◌<◌, ℕ, Bool, true, false, List, [], ◌∷◌, ◌++◌, length, drop, get_or, Err, refl, subst}
use Rattle.std.proofs.lemmas.List.{drop_more}
use Rattle.std.specs.Prelude.{if◌then◌else◌}
use Rattle.class_model.specs.Checks.{AllHold, Check}
use Rattle.class_model.specs.Laws.Checks.{Remain, remain}
use Rattle.class_model.specs.declared.class_file.Handler.{Handler}
use Rattle.class_model.specs.declared.frame.Frame.{Frame}
use Rattle.member_link.specs.Bodies.{BodyCatch}
use Rattle.type_rules.specs.Checks.{handler_checks}
use Rattle.type_rules.specs.Handlers.{catch_of, catches_at, covers}
use Rattle.type_rules.specs.MethodBodies.{body_of}
use Rattle.member_link.specs.Scope.{Scope}
use Rattle.type_rules.specs.declared.fault.TypeRule.{TypeRule}
use Rattle.verify_folder.proofs.Stepping.{refused}
use Rattle.verify_folder.specs.Inner.Steps.{ChecksAnswer}
use Rattle.verify_folder.specs.declared.stop.Stop.{Stop}

-- what the first of some handlers is asked, and then the others
pub first_asked : (s : Scope) (at : ℕ) (before : Frame) (handler : Handler) (others : List Handler)
    → handler_checks (body_of s) before (catches_at s at (handler ∷ others)) ≡ handler_checks (body_of s) before (catches_at s at (handler ∷ [])) ++ handler_checks (body_of s) before (catches_at s at others)
first_asked s at before handler others = by (covers handler at) (catches_at s at others) where
  by : (here : Bool) (rest : List BodyCatch) → handler_checks (body_of s) before (if here then catch_of s handler ∷ rest else rest) ≡ handler_checks (body_of s) before (if here then catch_of s handler ∷ [] else []) ++ handler_checks (body_of s) before rest
  by true rest = refl
  by false rest = refl

-- a loop over handlers is at one
module _ (s : Scope) (at : ℕ) (before : Frame) (handlers : List Handler) (i : ℕ) (none : Handler) (within : i < length handlers) where
  abbrev of_one : List (Check TypeRule)
  of_one = handler_checks (body_of s) before (catches_at s at (get_or handlers i none ∷ []))

  abbrev of_others : List (Check TypeRule)
  of_others = handler_checks (body_of s) before (catches_at s at (drop (i + 1) handlers))

  at_one : {whole : List (Check TypeRule)} → Remain whole (handler_checks (body_of s) before (catches_at s at (drop i handlers))) → Remain whole (of_one ++ of_others)
  at_one {whole} left =
      subst (λ (checks : List (Check TypeRule)). Remain whole checks) (first_asked s at before (get_or handlers i none) (drop (i + 1) handlers))
      (subst (λ (rest : List Handler). Remain whole (handler_checks (body_of s) before (catches_at s at rest))) (drop_more handlers i none within) left)

  pub one_holds : {whole : List (Check TypeRule)} → Remain whole (handler_checks (body_of s) before (catches_at s at (drop i handlers))) → AllHold of_one → Remain whole of_others
  one_holds {whole} left holds = remain of_one of_others (at_one left) holds

  pub one_fails : {whole : List (Check TypeRule)} → Remain whole (handler_checks (body_of s) before (catches_at s at (drop i handlers))) → (stop : Stop) → ChecksAnswer at of_one (Err stop) → ChecksAnswer at whole (Err stop)
  one_fails {whole} left stop told = refused of_one of_others at stop (at_one left) told
