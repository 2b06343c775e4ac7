-- The methods that stand in the flat code of a host: the host itself, and callees in place of calls of methods that stand there.
use Rattle.std.specs.Prelude.{◌≡◌, ◌≤◌, ◌+◌, ℕ, List, [], ◌∷◌, length, IfSome}
use Rattle.class_model.specs.declared.class_file.MethodAt.{MethodAt}
use Rattle.class_model.specs.declared.frame.Frame.{Frame}
use Rattle.class_model.specs.declared.instr.Placed.{Placed}
use Rattle.class_tree.specs.Headers.{Classes}
use Rattle.expanded_code.specs.Alone.{number_in}
use Rattle.expanded_code.specs.Expanded.{expanded, units_in}
use Rattle.expanded_code.specs.Expansions.{Coded, Expands, Expansion}
use Rattle.expanded_code.specs.Sites.{HasFrames}
use Rattle.expanded_runs.proofs.Runs.PositionLaws.{Fits}
use Rattle.expanded_runs.proofs.Runs.Positions.{IsReplacedAt, StandsFrom, Standing, frames_of, host_standing, inner_standing, instrs_of, points_of_standing, scope_of, start_of}
use Rattle.flow_code.specs.TypedFrames.{FolderFrames}

-- a method that stands in the flat code of a host, behind a chain of callees
pub data IsStanding (host : Coded) (expansion : Expansion) : List MethodAt → Standing → Type 0 where
  host_stands : IsStanding host expansion [] (host_standing host expansion)
  callee_stands : {chain : List MethodAt} {p : Standing} (k : ℕ) (placed : Placed) (frame : Frame) (g : Coded)
      (inner : Expansion)
      → IsStanding host expansion chain p
      → IsReplacedAt p k placed frame g inner
      → IsStanding host expansion (g.at ∷ chain) (inner_standing p k placed frame g inner)

-- what holds of each
pub record Stands (classes : Classes) (typed : FolderFrames) (host : Coded) (expansion : Expansion)
    (chain : List MethodAt) (p : Standing)
    : Type 0 where
  pub has : HasFrames classes typed p.setting.coded.at p.setting.coded.scope p.setting.coded.frames
  pub expands : Expands classes typed host.at chain p.setting.coded.at (instrs_of p) p.expansion
  pub fits : Fits (instrs_of p) (frames_of p) p.expansion
  pub points : StandsFrom (expanded host expansion).points p.first (points_of_standing p)
  pub numbers : (at : ℕ) → p.setting.number at ≡ start_of p (number_in (instrs_of p) at)
  -- its own units, those of its callees, and all
  pub own_units : p.setting.unit + (scope_of p).part.max_locals ≤ p.block
  pub all_units : p.block + units_in p.expansion ≤ (expanded host expansion).locals
  pub ends : start_of p (length (instrs_of p)) ≤ length (expanded host expansion).points
  pub behind : IfSome p.setting.behind (λ behind. behind ≡ start_of p (length (instrs_of p)))
