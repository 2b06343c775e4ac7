-- Where the instructions of a method stand in flat code, by their numbers in the method.
use Rattle.std.specs.Prelude.{◌≡◌, ◌+◌, ℕ, zero, suc, List, ◌∷◌, slice_get, Option, Some}
use Rattle.class_model.specs.declared.frame.Frame.{Frame}
use Rattle.class_model.specs.declared.instr.Placed.{Placed}
use Rattle.class_tree.specs.Headers.{Name}
use Rattle.expanded_code.specs.Expanded.{Setting, callee_of, callee_setting, host_setting, own_points, points_before, points_from, points_of_callee, set_frame, units_in}
use Rattle.expanded_code.specs.Expansions.{Coded, Expansion, no_more, replaced, site, stays}
use Rattle.flow_code.specs.declared.point.Point.{Point}
use Rattle.member_link.specs.Scope.{Scope, instructions}

-- ---- by the number of an instruction

-- the number of its first point; behind the last instruction, that of what is behind
abbrev pub start_from : Option Scope → ℕ → List Placed → Expansion → ℕ → ℕ
start_from callee number instrs expansion zero = number
start_from callee number (placed ∷ instrs) (stays more) (suc k) =
    start_from callee (number + own_points callee placed.instr) instrs more k
start_from callee number (placed ∷ instrs) (site class more) (suc k) =
    start_from callee (number + own_points callee placed.instr) instrs more k
start_from callee number (placed ∷ instrs) (replaced g inner more) (suc k) =
    start_from callee (number + points_of_callee g inner) instrs more k
start_from callee number instrs expansion (suc k) = number

-- the first unit of the callee that takes its place
abbrev pub block_from : ℕ → Expansion → ℕ → ℕ
block_from unit expansion zero = unit
block_from unit (stays more) (suc k) = block_from unit more k
block_from unit (site class more) (suc k) = block_from unit more k
block_from unit (replaced g inner more) (suc k) =
    block_from (unit + g.scope.part.max_locals + units_in inner) more k
block_from unit no_more (suc k) = unit

-- what becomes of it
pub data Becomes : Type 0 where
  remains : Becomes
  makes_site : Name → Becomes
  is_replaced : Coded → Expansion → Becomes
  is_none : Becomes

abbrev pub becomes : Expansion → ℕ → Becomes
becomes no_more k = is_none
becomes (stays more) zero = remains
becomes (site class more) zero = makes_site class
becomes (replaced g inner more) zero = is_replaced g inner
becomes (stays more) (suc k) = becomes more k
becomes (site class more) (suc k) = becomes more k
becomes (replaced g inner more) (suc k) = becomes more k

-- ---- a method in its place

-- a method with the number of its first own point, the first unit of its first callee, and what becomes of its instructions
pub record Standing : Type 0 where
  pub setting : Setting
  pub first : ℕ
  pub block : ℕ
  pub expansion : Expansion

abbrev pub scope_of : Standing → Scope
scope_of p = p.setting.coded.scope

abbrev pub instrs_of : Standing → List Placed
instrs_of p = instructions (scope_of p)

abbrev pub frames_of : Standing → List Frame
frames_of p = p.setting.coded.frames

abbrev pub start_of : Standing → ℕ → ℕ
start_of p k = start_from (callee_of p.setting) p.first (instrs_of p) p.expansion k

abbrev pub block_of : Standing → ℕ → ℕ
block_of p k = block_from p.block p.expansion k

abbrev pub points_of_standing : Standing → List Point
points_of_standing p = points_from p.setting p.first p.block (instrs_of p) (frames_of p) p.expansion

abbrev pub host_standing : Coded → Expansion → Standing
host_standing host expansion = record {
  setting = host_setting host expansion;
  first = 0;
  block = host.scope.part.max_locals;
  expansion = expansion;
}

-- the setting of the callee in place of a call
abbrev pub inner_setting : Standing → ℕ → Placed → Frame → Coded → Expansion → Setting
inner_setting p k placed frame g inner =
    callee_setting p.setting placed.at (set_frame p.setting frame) (start_of p k) (block_of p k) g inner

abbrev pub inner_standing : Standing → ℕ → Placed → Frame → Coded → Expansion → Standing
inner_standing p k placed frame g inner = record {
  setting = inner_setting p k placed frame g inner;
  first = start_of p k + points_before g.scope;
  block = block_of p k + g.scope.part.max_locals;
  expansion = inner;
}

-- the call of a number is replaced
pub record IsReplacedAt (p : Standing) (k : ℕ) (placed : Placed) (frame : Frame) (g : Coded)
    (inner : Expansion)
    : Type 0 where
  pub is : slice_get (instrs_of p) k ≡ Some placed
  pub has_frame : slice_get (frames_of p) k ≡ Some frame
  pub becomes : becomes p.expansion k ≡ is_replaced g inner

-- ---- points among others

-- a list stands in another one from a number on
abbrev pub StandsFrom : {A : Type 0} → List A → ℕ → List A → Type 0
StandsFrom {A} whole number part =
    (behind : ℕ) (item : A)
    → slice_get part behind ≡ Some item
    → slice_get whole (number + behind) ≡ Some item
