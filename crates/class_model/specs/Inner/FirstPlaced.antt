-- The first instruction at an offset, by its number.
use Rattle.std.specs.Prelude.{ℕ, List, Option, map, slice_get, option_and_then}
use Rattle.class_model.specs.OffsetIndexes.{first_at}
use Rattle.class_model.specs.declared.instr.Placed.{Placed}

abbrev pub first_placed : List Placed → ℕ → Option Placed
first_placed code at =
    option_and_then (slice_get code) (first_at (map (λ placed. placed.at) code) at)
