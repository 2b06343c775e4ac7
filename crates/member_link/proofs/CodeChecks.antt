-- What the parts of a code are asked, as they are asked one after the other.
use Rattle.std.proofs.Common.{◌≡◌, ℕ, List, Result, Ok, Err, sym, subst, ◌∙◌}
use Rattle.class_model.specs.Checks.{asked_each, AllHold}
use Rattle.class_model.specs.Instructions.{decoded}
use Rattle.class_model.specs.Methods.{Home}
use Rattle.class_model.specs.declared.class_file.CodePart.{CodePart}
use Rattle.class_model.specs.declared.class_file.Handler.{Handler}
use Rattle.class_model.specs.declared.class_file.Method.{Method}
use Rattle.class_model.specs.declared.header.Member.{Member}
use Rattle.class_model.specs.Stated.{stated_in}
use Rattle.class_model.specs.declared.frame.PlacedFrame.{PlacedFrame}
use Rattle.class_model.specs.declared.instr.Placed.{Placed}
use Rattle.class_tree.specs.Answers.{Answers}
use Rattle.class_tree.specs.declared.fault.LinkFault.{LinkFault}
use Rattle.member_link.specs.Inner.Resolving.{Resolved, resolved_scope}
use Rattle.member_link.specs.Uses.{UseScope, code_use_checks, instr_use_checks, instrs_checks, handler_use_checks, frame_checks}
use Rattle.member_link.proofs.EachUse.{first_refused, second_refused, third_answers}

-- the instructions of a code, as they were decoded
pub record AreInstrs (code : List ℕ) (instrs : List Placed) : Type 0 where
  pub read : decoded code ≡ Ok instrs

instrs_told : (s : UseScope) (code : List ℕ) (instrs : List Placed) (result : Result (Unit {0}) LinkFault) → AreInstrs code instrs → Answers (asked_each (λ placed. instr_use_checks s placed.instr) instrs) result → Answers (instrs_checks s (decoded code)) result
instrs_told s code instrs result are told = subst (λ read. Answers (instrs_checks s read) result) (sym are.read) told

module _ (home : Home) (method : Method) (part : CodePart) (member : Member) (was : Resolved) (instrs : List Placed) (are : AreInstrs part.code instrs) where
  instrs_hold : AllHold (asked_each (λ placed. instr_use_checks (resolved_scope was member) placed.instr) instrs) → AllHold (instrs_checks (resolved_scope was member) (decoded part.code))
  instrs_hold hold = instrs_told (resolved_scope was member) part.code instrs (Ok tt) are hold

  pub instrs_refused : (e : LinkFault) → Answers {X = Unit {0}} (asked_each (λ placed. instr_use_checks (resolved_scope was member) placed.instr) instrs) (Err e) → Answers {X = Unit {0}} (code_use_checks (resolved_scope was member) home method part) (Err e)
  instrs_refused e told =
      first_refused (instrs_checks (resolved_scope was member) (decoded part.code)) (asked_each (handler_use_checks (resolved_scope was member)) part.handlers) (asked_each (frame_checks (resolved_scope was member)) (stated_in home method part part.attrs)) e
      (instrs_told (resolved_scope was member) part.code instrs (Err e) are told)

  pub handlers_refused : (next : Resolved) (handlers : List Handler) (e : LinkFault) → AllHold (asked_each (λ placed. instr_use_checks (resolved_scope was member) placed.instr) instrs) → next ≡ was → handlers ≡ part.handlers
      → Answers {X = Unit {0}} (asked_each (handler_use_checks (resolved_scope next member)) handlers) (Err e) → Answers {X = Unit {0}} (code_use_checks (resolved_scope was member) home method part) (Err e)
  handlers_refused next handlers e hold same all told =
      second_refused (instrs_checks (resolved_scope was member) (decoded part.code)) (asked_each (handler_use_checks (resolved_scope was member)) part.handlers) (asked_each (frame_checks (resolved_scope was member)) (stated_in home method part part.attrs)) e
      (instrs_hold hold)
      (subst (λ resolver. Answers {X = Unit {0}} (asked_each (handler_use_checks (resolved_scope resolver member)) part.handlers) (Err e)) same
      (subst (λ items. Answers {X = Unit {0}} (asked_each (handler_use_checks (resolved_scope next member)) items) (Err e)) all told))

  pub code_answers : (next last : Resolved) (handlers : List Handler) (frames : List PlacedFrame) (result : Result (Unit {0}) LinkFault) → AllHold (asked_each (λ placed. instr_use_checks (resolved_scope was member) placed.instr) instrs) → next ≡ was → handlers ≡ part.handlers
      → AllHold (asked_each (handler_use_checks (resolved_scope next member)) handlers) → last ≡ next → frames ≡ stated_in home method part part.attrs → Answers (asked_each (frame_checks (resolved_scope last member)) frames) result → Answers (code_use_checks (resolved_scope was member) home method part) result
  code_answers next last handlers frames result hold same all also kept are_frames told =
      third_answers (instrs_checks (resolved_scope was member) (decoded part.code)) (asked_each (handler_use_checks (resolved_scope was member)) part.handlers) (asked_each (frame_checks (resolved_scope was member)) (stated_in home method part part.attrs)) result
      (instrs_hold hold)
      (subst (λ resolver. AllHold (asked_each (handler_use_checks (resolved_scope resolver member)) part.handlers)) same
      (subst (λ items. AllHold (asked_each (handler_use_checks (resolved_scope next member)) items)) all also))
      (subst (λ items. Answers (asked_each (frame_checks (resolved_scope was member)) items) result) are_frames
      (subst (λ resolver. Answers (asked_each (frame_checks (resolved_scope resolver member)) frames) result) (kept ∙ same) told))
