-- Entries of the operand stack as the code reads them, from the topmost on.
use Rattle.std.specs.Prelude.{ℕ, List, [], ◌∷◌, Option, Some, None}
use Rattle.class_model.specs.declared.instr.Instr.TheVariants.{Shuffle}
use Rattle.code_drafts.specs.declared.stack_cells.StackCell.{StackCell}
use Rattle.making_code.specs.Items.{WInstr, plain}
use Rattle.plan_flow.specs.Written.Templates.{Cell}

abbrev pub cell_meant : StackCell → Cell
cell_meant cell = record { units = cell.units; slot = cell.slot }

-- the instruction that moves entries, if one is written
abbrev pub shuffle_of : Option ℕ → List WInstr
shuffle_of None = []
shuffle_of (Some opcode) = plain (Shuffle opcode) ∷ []
