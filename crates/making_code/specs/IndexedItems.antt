-- Items of written code as code of a class file has them, but with numbers of items for places. It is this project's profile.
use Rattle.std.specs.Prelude.{ℕ, Bool, List}
use Rattle.class_model.specs.declared.instr.Instr.{Instr}

-- An item: its instruction, with numbers of items for targets; whether it is the jump inside a test for null; and its handlers, each with the
-- number of its item and the index of the class that it catches, or 0.
pub record IndexedItem : Type 0 where
  pub instr : Instr
  pub near : Bool
  pub catches : List (ℕ × ℕ)
