-- A turn of both where a method without flat code is on top: it runs its own code in both.
use Rattle.std.proofs.Common.{◌≡◌, ℕ, List, ◌∷◌, Some, subst}
use Rattle.expanded_runs.proofs.Runs.FlatFacts.{FlatFacts}
use Rattle.expanded_runs.proofs.Runs.OpTurns.{AtMethod, keeps_both, step_goes_on}
use Rattle.expanded_runs.proofs.Runs.SameStanding.{InOwn, SameStanding, is_awaited}
use Rattle.expanded_runs.proofs.Runs.Setup.{Setup, after, before}
use Rattle.expanded_runs.proofs.Runs.StandingBegins.{typed_at_points}
use Rattle.expanded_runs.proofs.Runs.StandingCodes.{AtPoints}
use Rattle.expanded_runs.proofs.Runs.StandingFrames.{own_goes, own_returns}
use Rattle.expanded_runs.proofs.Runs.StandingMoves.{own_moves}
use Rattle.expanded_runs.proofs.Runs.Together.{Basis, Related}
use Rattle.machine_values.specs.Frames.{MethodState}
use Rattle.machine_values.specs.declared.frame.RunFrame.{RunFrame}
use Rattle.machine_values.specs.declared.frame.RunFrame.TheVariants.{Method}
use Rattle.member_link.specs.Machine.Programs.{Point, Program, point_at}
use Rattle.member_link.specs.Machine.Runs.{Run}
use Rattle.member_link.specs.Machine.Work.{arity}
use Rattle.same_runs.specs.Laws.Operations.{WorksOnOperands}
use Rattle.same_runs.specs.Laws.BothTurns.{own_turned}
use Rattle.same_runs.specs.Renamings.{Names}
use Rattle.same_runs.specs.SamePrograms.{SameOp}
use Rattle.same_runs.specs.Simulations.{Keeps}

-- what other parts of the proof give
pub record OwnParts (u : Setup) : Type 0 where
  pub points : (names : Names) (f g : MethodState) (point : Point)
      → InOwn u names f g
      → point_at (before u) f.at f.place ≡ Some point
      → (point_at (after u) g.at g.place ≡ Some point) × (WorksOnOperands point.op → SameOp (before u) (after u) point.op point.op)

module _ (u : Setup) (basis : Basis u) (facts : FlatFacts u) (parts : OwnParts u) {names : Names} {one other : Run} {f g : MethodState}
    {rest others : List RunFrame} {point : Point} (measure : ℕ)
    (at : AtMethod u names one other f g rest others) (is : point_at (before u) f.at f.place ≡ Some point)
    (own : InOwn u names f g) (below : SameStanding u (is_awaited u g.at) names rest others) where
  abbrev P : Program
  P = before u

  abbrev Q : Program
  Q = after u

  also : (point_at Q g.at g.place ≡ Some point) × (WorksOnOperands point.op → SameOp P Q point.op point.op)
  also = parts.points names f g point own is

  points : AtPoints u (Method f ∷ rest)
  points = subst (AtPoints u) at.both.stands (typed_at_points u one.world at.typed)

  -- one turn
  pub own_turn : Keeps P Q (Related u) measure one other
  own_turn =
      keeps_both u basis at is measure
      (own_turned at.both is basis.same basis.alike basis.compares (step_goes_on u basis at is) also.0 also.1 own.stack
      (own_goes facts basis.same (arity point.op) own points below) (own_moves facts basis.same own points below)
      (own_returns facts basis.same own points.0 below))
