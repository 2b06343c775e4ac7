-- The lengths of the arrays of a heap, which arraylength gives as ints (JVM Specification SE 8, 6.5).
use Rattle.std.specs.Prelude.{◌<◌, ◌^◌, ℕ, IfSome}
use Rattle.machine_values.specs.declared.object.Shape.{Shape}
use Rattle.machine_values.specs.declared.object.Shape.TheVariants.{Array}
use Rattle.machine_values.specs.Heaps.{Heap, object_at}

-- an array's length is that of an int
abbrev pub IsShort : Shape → Type 0
IsShort (Array desc len) = len < 2 ^ 31
IsShort shape = Unit {0}

-- so is that of each array of a heap
pub record HasShortArrays (heap : Heap) : Type 0 where
  pub short : (reference : ℕ) → IfSome (object_at heap reference) (λ object. IsShort object.shape)
