-- The parts of a Code attribute, and what each is asked from its place on (JVM Specification SE 8, 4.7.3).
use Rattle.std.specs.Prelude.{◌≡◌, ◌⊎◌, ◌+◌, ◌*◌, ℕ, Bool, false, List, [], ◌∷◌, ◌++◌, length, Result, Ok, Err, IsSome, IsFalse}
use Rattle.std.specs.List.{flat_map}
use Rattle.class_model.specs.Checks.{Check, check, Fault, fault, asked_of, asked_if}
use Rattle.class_model.specs.Code.{IsRange, jump_checks, operand_checks, handlers_checks, inners_checks, inner_is_named, stack_map_table, in_table}
use Rattle.class_model.specs.Frames.{Setting, stack_map_table_at}
use Rattle.class_model.specs.Instructions.{decoded}
use Rattle.class_model.specs.Methods.{entry_of}
use Rattle.class_model.specs.Pool.{Constants}
use Rattle.class_model.specs.PoolChecks.{utf8_at, IsClassAt}
use Rattle.class_model.specs.Spelling.{inner_bytes}
use Rattle.class_model.specs.declared.class_file.CodePart.{CodePart}
use Rattle.class_model.specs.declared.class_file.Handler.{Handler}
use Rattle.class_model.specs.declared.class_file.InnerAttr.{InnerAttr}
use Rattle.class_model.specs.declared.fault.FileRule.TheVariants as rules
use Rattle.class_model.specs.declared.frame.Frame.{Frame}
use Rattle.class_model.specs.declared.instr.Placed.{Placed}
use Rattle.class_bytes.specs.Inner.Cut.{home_seen, method_of, part_of}
use Rattle.class_bytes.specs.declared.method_code.MethodCode.{MethodCode}

-- how many bytes the attributes of a code take without their count
abbrev pub inners_len : List InnerAttr → ℕ
inners_len attrs = length (flat_map inner_bytes attrs)

-- how many bytes the code, the exception table and the attributes take, these with their counts
abbrev pub parts_len : CodePart → ℕ
parts_len part = length part.code + (2 + 8 * length part.handlers) + (2 + inners_len part.attrs)

-- the instructions of a code at a place
abbrev pub at_place : ℕ → Result (List Placed) Fault → Result (List Placed) Fault
at_place start (Ok instrs) = Ok instrs
at_place start (Err f) = Err (fault (start + f.at) f.rule)

abbrev pub decoded_checks : ℕ → List ℕ → List (Check Fault)
decoded_checks start code =
    asked_of (at_place start (decoded code)) (λ instrs. jump_checks start instrs instrs)

-- an entry of an exception table
abbrev pub handler_checks : Constants → List Placed → ℕ → ℕ → Handler → List (Check Fault)
handler_checks pool code len at handler =
    check at rules.Range (IsRange code len handler)
    ∷ check (at + 6) rules.Index ((handler.catch_type ≡ 0) ⊎ IsClassAt pool handler.catch_type)
    ∷ []

-- the content of a StackMapTable, whose attribute stands at the place
abbrev pub table_checks : Setting → Frame → ℕ → List ℕ → List (Check Fault)
table_checks s entry at content =
    asked_of (in_table at (stack_map_table_at s entry content)) (λ frames. [])

-- an attribute of a code, behind a StackMapTable or not
abbrev pub inner_checks : Setting → Frame → Bool → ℕ → InnerAttr → List (Check Fault)
inner_checks s entry had at attr =
    check at rules.Index (IsSome (utf8_at s.pool attr.name))
    ∷ asked_if (inner_is_named s.pool stack_map_table attr)
    (check at rules.Twice (IsFalse had) ∷ table_checks s entry at attr.bytes)

-- ---- a code whose instructions are read

abbrev pub setting_of_code : MethodCode → Setting
setting_of_code code = record {
  pool = code.home.now.pool.now;
  max_locals = code.part.now.max_locals;
  max_stack = code.part.now.max_stack;
  code = code.instrs.now;
}

abbrev pub entry_frame_of : MethodCode → Frame
entry_frame_of code =
    entry_of (home_seen code.home.now) (method_of code.method.now) (part_of code.part.now)

-- its operands, its exception table and its attributes; the code begins at the place
abbrev pub parts_checks : MethodCode → ℕ → List (Check Fault)
parts_checks code start =
    let part = part_of code.part.now in
    let table = start + length part.code + 2 in
    operand_checks start code.home.now.pool.now code.home.now.major part.max_locals code.instrs.now
    ++ (handlers_checks code.home.now.pool.now code.instrs.now
    (length part.code) table part.handlers
    ++ inners_checks (setting_of_code code) (entry_frame_of code) false
    (table + 8 * length part.handlers + 2) part.attrs)
