-- A turn of both runs at an operation, where each has a frame of a method on top.
use Rattle.std.proofs.Common.{◌≡◌, ◌≢◌, ℕ, false, List, ◌∷◌, Some, ap, subst}
use Rattle.expanded_runs.proofs.Runs.SameStanding.{comparison}
use Rattle.expanded_runs.proofs.Runs.Setup.{Setup, after, before}
use Rattle.expanded_runs.proofs.Runs.Together.{Basis, Related, both_keep, turn_typed}
use Rattle.machine_values.specs.Frames.{MethodState}
use Rattle.machine_values.specs.declared.frame.RunFrame.{RunFrame}
use Rattle.machine_values.specs.declared.frame.RunFrame.TheVariants.{Method}
use Rattle.member_link.specs.Machine.Programs.{Point, Program, point_at}
use Rattle.member_link.specs.Machine.Runs.{Run}
use Rattle.member_link.specs.Machine.Stepping.{is_library_turn, op_step}
use Rattle.member_link.specs.Machine.Worlds.{World, stuck}
use Rattle.same_runs.specs.Laws.BothBegin.{counted}
use Rattle.same_runs.specs.Laws.BothTurns.{AtMethods}
use Rattle.same_runs.specs.Laws.CaughtUp.{BothTurn}
use Rattle.same_runs.specs.Laws.Turns.{turned_by_op}
use Rattle.same_runs.specs.Renamings.{Names}
use Rattle.same_runs.specs.Simulations.{Keeps}
use Rattle.typed_runs.specs.TypedFrames.{Does, FramesConform, nothing_awaited, upon}
use Rattle.typed_runs.specs.TypedWorlds.{TypedWorld}

-- ---- frames of methods on top

-- Runs with frames of methods on top, where all else goes together.
pub record AtMethod (u : Setup) (names : Names) (one other : Run) (f g : MethodState)
    (rest others : List RunFrame)
    : Type 0 where
  pub both : AtMethods (before u) (comparison u) names one other f g rest others
  pub actions : other.actions ≡ one.actions
  pub used : other.used ≡ one.used
  pub typed : TypedWorld (before u) u.typings one.world

-- the frame on top of a typed world does the instruction at which it stands
pub does_of : (u : Setup) (w : World) (f : MethodState) (rest : List RunFrame)
    → TypedWorld (before u) u.typings w
    → w.frames ≡ Method f ∷ rest
    → Does (before u) u.typings w.memory.heap f
does_of u w f rest typed stands = by (subst (FramesConform (before u) u.typings w.memory.heap nothing_awaited) stands typed.frames) where
  by : FramesConform (before u) u.typings w.memory.heap nothing_awaited (Method f ∷ rest) → Does (before u) u.typings w.memory.heap f
  by (upon conforms below) = conforms

module _ (u : Setup) (basis : Basis u) {names : Names} {one other : Run} {f g : MethodState} {rest others : List RunFrame} {point : Point}
    (at : AtMethod u names one other f g rest others) (is : point_at (before u) f.at f.place ≡ Some point) where
  abbrev P : Program
  P = before u

  abbrev Q : Program
  Q = after u

  no_turn : is_library_turn one.world.frames ≡ false
  no_turn = ap is_library_turn at.both.stands

  -- the first is not stuck
  pub step_goes_on : (op_step P (counted one) f rest point.op).halt ≢ stuck
  step_goes_on = (turn_typed u basis at.both.goes no_turn at.typed (turned_by_op P one f rest point at.both.goes at.both.stands is)).1

  pub keeps_both : (measure : ℕ) → BothTurn P Q (comparison u) names one other → Keeps P Q (Related u) measure one other
  keeps_both measure both = both_keep u basis at.both.goes no_turn at.typed at.actions at.used both
