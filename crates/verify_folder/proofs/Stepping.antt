-- An instruction is asked part by part.
use Rattle.std.proofs.Common.{◌≡◌, ℕ, List, ◌++◌, Option, Some, Ok, Err, sym, subst, append_assoc, inr}
use Rattle.class_model.specs.Checks.{AllHold, Check}
use Rattle.class_model.specs.Instructions.{targets}
use Rattle.class_model.specs.Laws.Checks.{Remain, remain, fails_first}
use Rattle.class_model.specs.declared.frame.Frame.{Frame}
use Rattle.class_model.specs.declared.instr.Placed.{Placed}
use Rattle.member_link.specs.Bodies.{frame_behind}
use Rattle.member_link.specs.Rows.Table.{row_of}
use Rattle.type_rules.specs.Checks.{FailsBehind, IsTypedAt, MayFlowIn, frame_before, handler_checks, instr_checks, target_checks}
use Rattle.type_rules.specs.Handlers.{catches_at}
use Rattle.type_rules.specs.MethodBodies.{body_of, point_of}
use Rattle.type_rules.specs.Rule.{row_checks}
use Rattle.member_link.specs.Scope.{Scope, row_scope}
use Rattle.type_rules.specs.Stated.{stated_at}
use Rattle.type_rules.specs.declared.fault.TypeRule.{TypeRule}
use Rattle.verify_folder.specs.Inner.Steps.{BeforeAnswers, ChecksAnswer, RowAnswers, StepAnswers}
use Rattle.verify_folder.specs.declared.stop.Stop.{Stop}
use Rattle.verify_folder.specs.declared.stop.Stop.TheVariants.{Fails, NoMemory}

-- one of the first checks that are left fails
pub refused : {whole : List (Check TypeRule)} (a b : List (Check TypeRule)) (at : ℕ) (stop : Stop) → Remain whole (a ++ b) → ChecksAnswer at a (Err stop) → ChecksAnswer at whole (Err stop)
refused a b at (Fails offset rule) left told = (told.0, fails_first a b rule left told.1)
refused a b at NoMemory left told = tt

module _ (s : Scope) (flows : Option Frame) (placed : Placed) (before : Frame) where
  abbrev of_handlers : List (Check TypeRule)
  of_handlers = handler_checks (body_of s) before (catches_at s placed.at s.part.handlers)

  abbrev of_row : List (Check TypeRule)
  of_row = row_checks (row_scope s) before (row_of (row_scope s) before placed.at placed.instr)

  abbrev of_targets : List (Check TypeRule)
  of_targets = target_checks (body_of s) (frame_behind (point_of s placed) before) (targets placed.instr)

  failed : frame_before flows (stated_at s placed.at) ≡ Some before → (stop : Stop) → ChecksAnswer placed.at (instr_checks (body_of s) flows (point_of s placed) before) (Err stop) → StepAnswers s flows placed (Err stop)
  failed is (Fails offset rule) told = (told.0, subst (FailsBehind (body_of s) flows (point_of s placed) rule) (sym is) told.1)
  failed is NoMemory told = tt

  begun : MayFlowIn (row_scope s) flows (stated_at s placed.at) → Remain (instr_checks (body_of s) flows (point_of s placed) before) (of_handlers ++ (of_row ++ of_targets))
  begun may =
      subst (Remain (instr_checks (body_of s) flows (point_of s placed) before)) (append_assoc of_handlers of_row of_targets)
      (record { hold = λ h. (may, h); fail = λ rule first. inr (may, first) })

  behind_handlers : MayFlowIn (row_scope s) flows (stated_at s placed.at) → AllHold of_handlers → Remain (instr_checks (body_of s) flows (point_of s placed) before) (of_row ++ of_targets)
  behind_handlers may handlers = remain of_handlers (of_row ++ of_targets) (begun may) handlers

  row_answer : (stop : Stop) → RowAnswers s placed before (Err stop) → ChecksAnswer placed.at of_row (Err stop)
  row_answer (Fails offset rule) told = told
  row_answer NoMemory told = tt

  module _ (found : BeforeAnswers s flows placed.at (Ok before)) where
    pub handlers_fail : (stop : Stop) → ChecksAnswer placed.at of_handlers (Err stop) → StepAnswers s flows placed (Err stop)
    handlers_fail stop told = failed found.0 stop (refused of_handlers (of_row ++ of_targets) placed.at stop (begun found.1) told)

    pub row_fails : (stop : Stop) → AllHold of_handlers → RowAnswers s placed before (Err stop) → StepAnswers s flows placed (Err stop)
    row_fails stop handlers told = failed found.0 stop (refused of_row of_targets placed.at stop (behind_handlers found.1 handlers) (row_answer stop told))

    module _ (behind : Option Frame) (is : behind ≡ frame_behind (point_of s placed) before) (handlers : AllHold of_handlers) (row : AllHold of_row) where
      behind_row : Remain (instr_checks (body_of s) flows (point_of s placed) before) (target_checks (body_of s) behind (targets placed.instr))
      behind_row =
          subst (λ frame. Remain (instr_checks (body_of s) flows (point_of s placed) before) (target_checks (body_of s) frame (targets placed.instr))) (sym is)
          (remain of_row of_targets (behind_handlers found.1 handlers) row)

      pub targets_fail : (stop : Stop) → ChecksAnswer placed.at (target_checks (body_of s) behind (targets placed.instr)) (Err stop) → StepAnswers s flows placed (Err stop)
      targets_fail stop told = failed found.0 stop (answer stop told)
        where
          answer : (stop : Stop) → ChecksAnswer placed.at (target_checks (body_of s) behind (targets placed.instr)) (Err stop) → ChecksAnswer placed.at (instr_checks (body_of s) flows (point_of s placed) before) (Err stop)
          answer (Fails offset rule) told = (told.0, behind_row.fail rule told.1)
          answer NoMemory told = tt

      pub is_typed : AllHold (target_checks (body_of s) behind (targets placed.instr)) → IsTypedAt (body_of s) flows (point_of s placed) before
      is_typed holds = record { before_is = found.0; holds = behind_row.hold holds }
