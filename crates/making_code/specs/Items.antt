-- Items of written code: instructions that name local units, points and pads, classes and members. It is this project's profile.
use Rattle.std.specs.Prelude.{ℕ, List, [], Option}
use Rattle.class_model.specs.declared.descriptor.Kind.{Kind}
use Rattle.class_model.specs.declared.instr.Instr.{Instr}
use Rattle.class_tree.specs.Headers.{Name}
use Rattle.making_code.specs.Units.{WUnit}

-- where a jump or a handler leads
pub data WTarget : Type 0 where
  -- what is written first of a point
  to_point : ℕ → WTarget
  -- the pad of a jump edge of a point, and that of a handler edge, by the target's number among those of the instruction, or the handler's
  -- among those of the point
  to_jump_pad : ℕ → ℕ → WTarget
  to_handler_pad : ℕ → ℕ → WTarget
  -- the item so many behind the one that jumps
  ahead : ℕ → WTarget

pub data WInstr : Type 0 where
  -- an instruction of a class of the folder, by the class's number: its index, if it has one, means a constant of that class
  carried : ℕ → Instr → WInstr
  -- one that names neither a constant nor a local unit
  plain : Instr → WInstr
  load : Kind → WUnit → WInstr
  store : Kind → WUnit → WInstr
  -- new, of a class
  makes : Name → WInstr
  -- invokespecial of a class's field constructor
  constructs : Name → WInstr

-- An instruction; where it jumps, in the order of its targets, a switch's default first; and the handlers of what it throws, in their
-- order, each with the class that it catches, if it does not catch everything.
pub record WCatch : Type 0 where
  pub to : WTarget
  pub class : Option Name

pub record WItem : Type 0 where
  pub instr : WInstr
  pub targets : List WTarget
  pub catches : List WCatch

-- an instruction that does not jump and that no handler catches
abbrev pub item : WInstr → WItem
item instr = record { instr = instr; targets = []; catches = [] }
