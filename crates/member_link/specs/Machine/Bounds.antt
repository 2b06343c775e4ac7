-- How the steps of a run bound its counts. A step enters at most one monitor. It allocates at most one object, or the arrays of one
-- multianewarray: one array, and at each further dimension as many as the product of the leading counts, none of which is above
-- 1,000,000. An array has at most 255 dimensions (JVM Specification SE 8, 4.3.2), so that these are at most
-- 1 + 254 * 1,000,000, which is below 2^28.
use Rattle.std.specs.Prelude.{◌≤◌, ◌*◌, ◌^◌, All, IfSome, ℕ, List, ◌∷◌}
use Rattle.class_model.specs.declared.class_file.MethodAt.{MethodAt}
use Rattle.machine_values.specs.declared.frame.RunFrame.{RunFrame}
use Rattle.machine_values.specs.declared.frame.RunFrame.TheVariants.{Method}
use Rattle.machine_values.specs.declared.object.Object.{Object}
use Rattle.member_link.specs.Machine.Ops.{Op, new_arrays}
use Rattle.member_link.specs.Machine.Programs.{Program, point_at}
use Rattle.member_link.specs.Machine.Worlds.{Memory, World}

-- ---- counts and steps

-- a step allocates at most so many objects
abbrev pub MOST_ALLOCATED : ℕ
MOST_ALLOCATED = 2 ^ 28

-- what a memory counts after so many steps
pub record IsBounded (memory : Memory) (steps : ℕ) : Type 0 where
  pub monitors : All (λ (object : Object). object.monitor ≤ steps) memory.heap.objects
  pub allocations : memory.allocations ≤ MOST_ALLOCATED * steps
  pub entries : memory.entries ≤ steps

abbrev pub HasBoundedCounts : World → Type 0
HasBoundedCounts w = IsBounded w.memory w.steps

-- ---- dimensions: those of an operation are not bounded by its form

abbrev pub MOST_DIMENSIONS : ℕ
MOST_DIMENSIONS = 255

abbrev pub HasFewDimensions : Op → Type 0
HasFewDimensions (new_arrays desc dimensions) = dimensions ≤ MOST_DIMENSIONS
HasFewDimensions op = Unit {0}

-- the instruction that a step does
abbrev pub NextHasFewDimensions : Program → List RunFrame → Type 0
NextHasFewDimensions P (Method f ∷ rest) =
    IfSome (point_at P f.at f.place) (λ point. HasFewDimensions point.op)
NextHasFewDimensions P frames = Unit {0}

-- each instruction of a program
abbrev pub MakesFewArrays : Program → Type 0
MakesFewArrays P =
    (at : MethodAt) (place : ℕ) → IfSome (point_at P at place) (λ point. HasFewDimensions point.op)
