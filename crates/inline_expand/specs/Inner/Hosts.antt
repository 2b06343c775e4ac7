-- Words of the flat code of a method by itself.
use Rattle.std.specs.Prelude.{◌≡◌, ◌<◌, ◌≤◌, ℕ, List, length, map, Option, Some, None}
use Rattle.std.specs.List.{AllByRecursion}
use Rattle.class_model.specs.OffsetIndexes.{IsIndexOf}
use Rattle.class_model.specs.declared.class_file.Handler.{Handler}
use Rattle.class_model.specs.declared.frame.VType.{VType}
use Rattle.class_model.specs.declared.frame.VType.TheVariants.{Uninit}
use Rattle.class_model.specs.declared.instr.Placed.{Placed}
use Rattle.flow_code.specs.FlatCode.{HasLocal}
use Rattle.member_link.specs.Machine.Codes.{covers}
use Rattle.member_link.specs.Scope.{Scope, instructions}

-- its instructions, fewer than a code has bytes, and their numbers by their offsets
pub record IsHost (s : Scope) (instrs : List Placed) (index : List ℕ) : Type 0 where
  pub are : instructions s ≡ instrs
  pub finds : IsIndexOf (map (λ (placed : Placed). placed.at) instrs) index
  pub few : length instrs < 65536

-- each of its instructions names local units that the method has
abbrev pub HasUnits : Scope → Type 0
HasUnits s = AllByRecursion (λ placed. HasLocal s.part.max_locals placed.instr) (instructions s)

-- the offset of the new of an uninitialised object
abbrev pub uninit_of : Option VType → Option ℕ
uninit_of (Some (Uninit at)) = Some at
uninit_of type = None

-- up to a later offset, the range of a handler has what it has at an offset
abbrev pub CoversAlike : ℕ → ℕ → Handler → Type 0
CoversAlike at until handler =
    (later : ℕ) → at ≤ later → later < until → covers handler later ≡ covers handler at
