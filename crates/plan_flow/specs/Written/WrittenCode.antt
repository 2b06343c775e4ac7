-- Written code as the machine runs it: the items of its blocks, with numbers of items for targets. It is this project's profile.
--
-- In the wide form each conditional jump is the opposite one over a goto, so that all jumps but those over a single goto may be far. Only the
-- jump inside a test for null keeps its form.
use Rattle.std.specs.Prelude.{◌==◌, ◌&&◌, ℕ, zero, suc, ◌+◌, Bool, true, false, List, [], ◌∷◌, ◌++◌, length, map, Option, Some, None, if◌then◌else◌}
use Rattle.std.specs.List.{flat_map}
use Rattle.class_model.specs.Names.{init}
use Rattle.class_model.specs.declared.instr.Instr.{Instr}
use Rattle.class_model.specs.declared.instr.Instr.TheVariants.{Goto, If, If2, IfNull, IfSame, Lookup, Table}
use Rattle.class_model.specs.declared.instr.Pair.{Pair}
use Rattle.class_model.specs.declared.opcodes.TheConstants.{INVOKESPECIAL}
use Rattle.class_tree.specs.Headers.{Name}
use Rattle.flow_code.specs.WrittenUnits.{written_units}
use Rattle.making_code.specs.Items.{WCatch, WInstr, WItem, WTarget, ahead, carried, constructs, load, makes, plain, store, to_handler_pad, to_jump_pad, to_point}
use Rattle.making_code.specs.Opposites.{opposite_instr}
use Rattle.making_code.specs.Units.{unit_number}
use Rattle.member_link.specs.Machine.Codes.{call_op, instr_op}
use Rattle.member_link.specs.Machine.Ops.{Op, load_local, new_object, store_local}
use Rattle.member_link.specs.Machine.Programs.{Catch, Code, Point}
use Rattle.member_link.specs.Machine.Replaced.{map_numbered}
use Rattle.member_link.specs.RowScope.{RowScope}
use Rattle.member_link.specs.Scope.{Scope, row_scope}
use Rattle.plan_flow.specs.PlanScope.{PlanScope, pool_of}
use Rattle.plan_flow.specs.Written.Blocks.{BlockOf, before_point, handler_pad, jump_pad, of_point, on_next_edge}
use Rattle.plan_flow.specs.Written.Finish.{Finished, begins_point, finished_items}

-- ---- the two forms

pub data Form : Type 0 where
  short : Form
  wide : Form

abbrev pub over_goto : WItem → ℕ → Option Instr → List WItem
over_goto one class None = one ∷ []
over_goto one class (Some instr) =
    record { instr = carried class instr; targets = ahead 2 ∷ []; catches = [] }
    ∷ record { instr = plain (Goto 0); targets = one.targets; catches = [] }
    ∷ []

abbrev pub widened : WItem → List WItem
widened one = of_instr one.instr where
  of_instr : WInstr → List WItem
  of_instr (carried class instr) = over_goto one class (opposite_instr instr)
  of_instr other = one ∷ []

abbrev pub in_form : Form → List WItem → List WItem
in_form short items = items
in_form wide items = flat_map widened items

-- the items of a block, and of all
abbrev pub block_items : Form → Finished → List WItem
block_items form one = in_form form (finished_items one)

abbrev pub written_items : Form → List Finished → List WItem
written_items form blocks = flat_map (block_items form) blocks

-- ---- where items stand

-- the number of the first item of a block; where there is no such block, the number behind the last item
abbrev pub start_from : Form → (BlockOf → Bool) → ℕ → List Finished → ℕ
start_from form is_it number [] = number
start_from form is_it number (one ∷ others) =
    if is_it one.block.of then number
    else start_from form is_it (number + length (block_items form one)) others

abbrev pub start_of : Form → List Finished → (BlockOf → Bool) → ℕ
start_of form blocks is_it = start_from form is_it 0 blocks

abbrev pub is_jump_pad : ℕ → ℕ → BlockOf → Bool
is_jump_pad at number (jump_pad one other) = one == at && other == number
is_jump_pad at number other = false

abbrev pub is_handler_pad : ℕ → ℕ → BlockOf → Bool
is_handler_pad at number (handler_pad one other) = one == at && other == number
is_handler_pad at number other = false

-- the number of the item that a target of the item of a number is
abbrev pub target_number : Form → List Finished → ℕ → WTarget → ℕ
target_number form blocks number (to_point to) = start_of form blocks (begins_point to)
target_number form blocks number (to_jump_pad at edge) =
    start_of form blocks (is_jump_pad at edge)
target_number form blocks number (to_handler_pad at handler) =
    start_of form blocks (is_handler_pad at handler)
target_number form blocks number (ahead count) = number + count

-- ---- instructions

-- each pair with its target in order
abbrev pub pairs_to : List Pair → List ℕ → List Pair
pairs_to [] numbers = []
pairs_to (pair ∷ pairs) [] = []
pairs_to (pair ∷ pairs) (number ∷ numbers) =
    record { key = pair.key; to = number } ∷ pairs_to pairs numbers

-- the instruction with these targets, a switch's default first
abbrev pub jumping_to : List ℕ → Instr → Instr
jumping_to (number ∷ numbers) (If opcode to) = If opcode number
jumping_to (number ∷ numbers) (If2 opcode to) = If2 opcode number
jumping_to (number ∷ numbers) (IfSame opcode to) = IfSame opcode number
jumping_to (number ∷ numbers) (IfNull opcode to) = IfNull opcode number
jumping_to (number ∷ numbers) (Goto to) = Goto number
jumping_to (number ∷ numbers) (Table low other to) = Table low number numbers
jumping_to (number ∷ numbers) (Lookup other pairs) = Lookup number (pairs_to pairs numbers)
jumping_to numbers instr = instr

-- what an instruction of a class reads in the host
abbrev pub carried_scope : PlanScope → Scope → ℕ → RowScope
carried_scope s host class = record (row_scope host) { pool = pool_of s class }

-- the call of a class's field constructor, whose descriptor is given
abbrev pub constructor_call : PlanScope → Scope → (Name → List ℕ) → Name → Op
constructor_call s host constructor class =
    call_op s.links (row_scope host) INVOKESPECIAL
    (record { class = class; name = init; desc = constructor class })

-- what an instruction does, jumping to items of these numbers
abbrev pub written_op : PlanScope → Scope → (Name → List ℕ) → List ℕ → WInstr → Op
written_op s host constructor numbers (carried class instr) =
    instr_op s.links (λ number. number) (carried_scope s host class) (jumping_to numbers instr)
written_op s host constructor numbers (plain instr) =
    instr_op s.links (λ number. number) (row_scope host) (jumping_to numbers instr)
written_op s host constructor numbers (load kind unit) =
    load_local kind (unit_number s.flat unit)
written_op s host constructor numbers (store kind unit) =
    store_local kind (unit_number s.flat unit)
written_op s host constructor numbers (makes class) = new_object class
written_op s host constructor numbers (constructs class) =
    constructor_call s host constructor class

-- ---- the code

abbrev pub written_catch : Form → List Finished → ℕ → WCatch → Catch
written_catch form blocks number catch =
    record { to = target_number form blocks number catch.to; class = catch.class }

abbrev pub written_point :
    PlanScope → Scope → (Name → List ℕ) → Form → List Finished → ℕ → WItem → Point
written_point s host constructor form blocks number one = record {
  op = written_op s host constructor (map (target_number form blocks number) one.targets)
      one.instr;
  catches = map (written_catch form blocks number) one.catches;
}

-- The code that the host runs in place of its own, by its finished blocks, in a form.
abbrev pub written_code :
    PlanScope → Scope → (Name → List ℕ) → Form → List Finished → Code
written_code s host constructor form blocks = record {
  locals = written_units s.flat;
  points = map_numbered (written_point s host constructor form blocks) zero
      (written_items form blocks);
}
