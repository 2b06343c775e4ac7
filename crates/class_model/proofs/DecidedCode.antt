-- The checks of a Code attribute are decided.
use Rattle.std.proofs.Common.{inr, ℕ, ◌+◌, ◌==◌, ◌||◌, Bool, List, [], ◌∷◌, length, Option, Some, None}
use Rattle.std.proofs.lemmas.Bool.{cases_eq}
use Rattle.class_model.specs.Code.{IsRange, jump_checks, operand_checks, handlers_checks, stack_map_table, inner_is_named, inners_checks}
use Rattle.class_model.specs.Frames.{Setting}
use Rattle.class_model.specs.Instructions.{is_start}
use Rattle.class_model.specs.Methods.{Home, entry_of, units_at_call, instructions_checks, part_checks, content_checks}
use Rattle.class_model.specs.Pool.{Constants}
use Rattle.class_model.specs.PoolChecks.{utf8_at}
use Rattle.class_model.specs.Spelling.{inner_bytes}
use Rattle.class_model.specs.declared.class_file.CodePart.{CodePart}
use Rattle.class_model.specs.declared.class_file.Handler.{Handler}
use Rattle.class_model.specs.declared.class_file.InnerAttr.{InnerAttr}
use Rattle.class_model.specs.declared.class_file.Method.{Method}
use Rattle.class_model.specs.declared.frame.Frame.{Frame}
use Rattle.class_model.specs.declared.instr.Placed.{Placed}
use Rattle.class_model.specs.Laws.Decisions.{Decision, mapped, either, is_true, is_false}
use Rattle.class_model.proofs.Decisions.{four, less, at_most, if_some, is_some, AllDecided, decided-append, decided_if, decided_of}
use Rattle.class_model.proofs.DecidedOperands.{operand_fits}
use Rattle.class_model.proofs.DecidedPool.{class_named}

jumps : (start : ℕ) (code instrs : List Placed) → AllDecided (jump_checks start code instrs)
jumps start code [] = tt
jumps start code (p ∷ others) = (is_true _, jumps start code others)

operands : (start : ℕ) (pool : Constants) (major max_locals : ℕ) (instrs : List Placed) → AllDecided (operand_checks start pool major max_locals instrs)
operands start pool major max_locals [] = tt
operands start pool major max_locals (p ∷ others) = (operand_fits pool major max_locals p.instr, operands start pool major max_locals others)

range : (code : List Placed) (len : ℕ) (handler : Handler) → Decision (IsRange code len handler)
range code len handler = mapped
    (λ h. record { some = h.0; start = h.1; end = h.2; at = h.3 })
    (λ r. (r.some, r.start, r.end, r.at))
    (four (less handler.start handler.end) (is_true (is_start code handler.start)) (is_true (is_start code handler.end || (handler.end == len))) (is_true (is_start code handler.at)))

handlers : (pool : Constants) (code : List Placed) (len at : ℕ) (others : List Handler) → AllDecided (handlers_checks pool code len at others)
handlers pool code len at [] = tt
handlers pool code len at (handler ∷ others) =
    (range code len handler, (either (cases_eq handler.catch_type 0) (class_named pool handler.catch_type), handlers pool code len (at + 8) others))

inners : (s : Setting) (entry : Frame) (had : Bool) (at : ℕ) (attrs : List InnerAttr) → AllDecided (inners_checks s entry had at attrs)
inners s entry had at [] = tt
inners s entry had at (attr ∷ attrs) = (
  is_some (utf8_at s.pool attr.name),
  decided-append _ _
      (decided_if (inner_is_named s.pool stack_map_table attr) _ (is_false had, decided_of _ (λ frames. []) (λ frames. tt)))
      (inners s entry (had || inner_is_named s.pool stack_map_table attr) (at + length (inner_bytes attr)) attrs),
)

instructions : (home : Home) (method : Method) (at : ℕ) (part : CodePart) (instrs : List Placed) → AllDecided (instructions_checks home method at part instrs)
instructions home method at part instrs =
    decided-append _ _ (decided-append _ _ (decided-append _ _
    (jumps (at + 14) instrs instrs)
    (operands (at + 14) home.pool home.major part.max_locals instrs))
    (handlers home.pool instrs (length part.code) _ part.handlers))
    (inners _ (entry_of home method part) _ _ part.attrs)

parts : (home : Home) (method : Method) (at : ℕ) (part : CodePart) → AllDecided (part_checks home method at part)
parts home method at part = (
  is_true _,
  (
    if_some (λ text. at_most (units_at_call method.flags text) part.max_locals) (utf8_at home.pool method.desc),
    decided_of _ (instructions_checks home method at part) (instructions home method at part),
  ),
)

pub content : (home : Home) (method : Method) (at : ℕ) (found : Option CodePart) → AllDecided (content_checks home method at found)
content home method at None = (inr (λ h. h), tt)
content home method at (Some found) = parts home method at found
