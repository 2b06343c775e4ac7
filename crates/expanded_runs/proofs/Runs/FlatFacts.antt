-- What the frames of flat code need to know of the codes that both programs run.
use Rattle.std.specs.Prelude.{◌≡◌, ℕ, List, map, slice_get, Some, None}
use Rattle.class_model.specs.declared.class_file.MethodAt.{MethodAt}
use Rattle.class_model.specs.declared.frame.Frame.{Frame}
use Rattle.class_model.specs.declared.instr.Placed.{Placed}
use Rattle.expanded_code.specs.ExpandAnswers.{IsExpanded}
use Rattle.expanded_code.specs.Expansions.{Coded, Expansion}
use Rattle.expanded_runs.proofs.Runs.FlatOps.{catches_in}
use Rattle.expanded_runs.proofs.Runs.Positions.{IsReplacedAt, Standing, host_standing, instrs_of, start_of}
use Rattle.expanded_runs.proofs.Runs.ReplacedCalls.{IsPlainMethod}
use Rattle.expanded_runs.proofs.Runs.Setup.{Setup, after, before}
use Rattle.expanded_runs.proofs.Runs.Standings.{IsStanding}
use Rattle.flow_code.specs.FlatCode.{FlatCode}
use Rattle.member_link.specs.Machine.Codes.{method_code}
use Rattle.member_link.specs.Machine.Programs.{Catch, Code, Point, code_at, point_at}
use Rattle.member_link.specs.Scope.{instructions}

pub record FlatFacts (u : Setup) : Type 0 where
  -- a method without a flat code runs its own
  pub own_code : (at : MethodAt) → u.flats at ≡ None → code_at (after u) at ≡ code_at (before u) at
  -- a host runs its own code before, and its flat code after
  pub host_code : (at : MethodAt) (flat : FlatCode)
      → u.flats at ≡ Some flat
      → (e : IsExpanded u.classes u.typed at flat)
      → code_at (before u) e.host.at ≡ Some (method_code u.links e.host.scope)
  pub flat_code_at : (at : MethodAt) (flat : FlatCode)
      → u.flats at ≡ Some flat
      → IsExpanded u.classes u.typed at flat
      → (code : Code) × (code_at (after u) at ≡ Some code) × (code.locals ≡ flat.locals)
  -- where what stands for an instruction begins, the flat code has a point
  pub catches : (at : MethodAt) (flat : FlatCode) (chain : List MethodAt) (p : Standing) (k : ℕ) (placed : Placed)
      → u.flats at ≡ Some flat
      → (e : IsExpanded u.classes u.typed at flat)
      → IsStanding e.host e.expansion chain p
      → slice_get (instrs_of p) k ≡ Some placed
      → (point : Point) × (point_at (after u) at (start_of p k) ≡ Some point) × (point.catches ≡ catches_in p placed.at)
  -- the host's handlers begin where their instructions do
  pub host_catches : (at : MethodAt) (flat : FlatCode) (k : ℕ) (placed : Placed) (point : Point)
      → u.flats at ≡ Some flat
      → (e : IsExpanded u.classes u.typed at flat)
      → slice_get (instructions e.host.scope) k ≡ Some placed
      → point_at (before u) e.host.at k ≡ Some point
      → catches_in (host_standing e.host e.expansion) placed.at
      ≡ map (λ (c : Catch). record c { to = start_of (host_standing e.host e.expansion) c.to }) point.catches
  -- a callee is no class initialiser, enters no monitor, and has no handlers
  pub callee : (at : MethodAt) (flat : FlatCode) (chain : List MethodAt) (p : Standing) (k : ℕ) (placed : Placed)
      (frame : Frame) (g : Coded) (inner : Expansion)
      → u.flats at ≡ Some flat
      → (e : IsExpanded u.classes u.typed at flat)
      → IsStanding e.host e.expansion chain p
      → IsReplacedAt p k placed frame g inner
      → IsPlainMethod u g
