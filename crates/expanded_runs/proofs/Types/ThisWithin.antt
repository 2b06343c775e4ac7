-- Of the callees that stand in flat code, none that is no instance initialiser has a frame with an uninitialised this.
use Rattle.std.proofs.Common.{◌≡◌, ℕ, false, List, slice_get, Some, IsSome}
use Rattle.class_model.specs.Laws.Lists.{at_index}
use Rattle.class_model.specs.declared.class_file.MethodAt.{MethodAt}
use Rattle.class_model.specs.declared.frame.Frame.{Frame}
use Rattle.expanded_code.specs.Callees.{IsWithoutThis}
use Rattle.expanded_code.specs.Expansions.{Coded, Expansion}
use Rattle.expanded_runs.proofs.Runs.CalleeLaws.{replaced_callee}
use Rattle.expanded_runs.proofs.Runs.Positions.{Standing, frames_of, scope_of}
use Rattle.expanded_runs.proofs.Runs.Setup.{Setup}
use Rattle.expanded_runs.proofs.Runs.Standings.{IsStanding, Stands, callee_stands, host_stands}
use Rattle.expanded_runs.proofs.Types.OwnPoints.{TypingLaws}
use Rattle.expanded_runs.proofs.Types.StandingPlaces.{callee_here}
use Rattle.member_link.specs.Rows.MemberRows.{NoUninitThis}
use Rattle.member_link.specs.Scope.{Scope, is_init, scope_at}

-- said of each callee that stands in the flat code
abbrev pub NoThisStanding : Coded → Expansion → Type 0
NoThisStanding host e =
    (chain : List MethodAt) (p : Standing)
    → IsStanding host e chain p
    → IsSome p.setting.behind
    → is_init (scope_of p) ≡ false
    → (k : ℕ) (frame : Frame)
    → slice_get (frames_of p) k ≡ Some frame
    → NoUninitThis frame.locals × NoUninitThis frame.stack

-- A method that may stand in a host has none.
pub no_this_standing : (u : Setup) (laws : TypingLaws) (host : Coded) (e : Expansion)
    (stands : (chain : List MethodAt) (p : Standing) → IsStanding host e chain p → Stands u.classes u.typed host e chain p)
    (s : Scope) (is_host : scope_at u.classes host.at ≡ Some s)
    → NoThisStanding host e
no_this_standing u laws host e stands s is_host chain p host_stands callee none k frame has = absurd cc
no_this_standing u laws host e stands s is_host chain p (callee_stands at placed before g inner below is) callee none k frame has =
    let known = callee_here laws host e stands s is_host below is in
    let may = (replaced_callee u g known.callee known.replaced).may in
    at_index IsWithoutThis g.frames k frame (may.without_this none) has
