-- A turn of both where the library's frame, or the beginning of a class, is on top of both.
use Rattle.std.proofs.Common.{◌≡◌, ℕ, true, false, List, [], ◌∷◌, Option, sym, ap, subst, inl}
use Rattle.expanded_runs.proofs.Runs.FlatFacts.{FlatFacts}
use Rattle.expanded_runs.proofs.Runs.SameStanding.{SameStanding, comparison}
use Rattle.expanded_runs.proofs.Runs.Setup.{Setup, after, before}
use Rattle.expanded_runs.proofs.Runs.StandingBegins.{typed_at_points}
use Rattle.expanded_runs.proofs.Runs.StandingCodes.{AtPoints}
use Rattle.expanded_runs.proofs.Runs.StandingFrames.{at_library, begins_on}
use Rattle.expanded_runs.proofs.Runs.Together.{Basis, Related, Together, after_both, both_keep}
use Rattle.machine_values.specs.declared.action.Action.{Action}
use Rattle.machine_values.specs.declared.frame.RunFrame.{RunFrame}
use Rattle.machine_values.specs.declared.frame.RunFrame.TheVariants.{Beginning, Library}
use Rattle.member_link.specs.Machine.Acting.{act}
use Rattle.member_link.specs.Machine.Programs.{Program}
use Rattle.member_link.specs.Machine.Runs.{Run}
use Rattle.member_link.specs.Machine.Stepping.{is_library_turn}
use Rattle.member_link.specs.Machine.Worlds.{World}
use Rattle.same_runs.specs.Laws.BothBegin.{beginning_kept}
use Rattle.same_runs.specs.Laws.BothTurns.{LibraryTurn, library_turned, takes_action, waits_for_action}
use Rattle.same_runs.specs.Laws.Turns.{turns_keep}
use Rattle.same_runs.specs.Renamings.{SameHeld}
use Rattle.same_runs.specs.SameMemories.{SameMemories}
use Rattle.same_runs.specs.SameWorlds.{AtLibrary}
use Rattle.same_runs.specs.Simulations.{Keeps, at_once}
use Rattle.typed_runs.specs.TypedWorlds.{StaysTyped, TypedWorld}

-- what other parts of the proof give
pub record LibraryParts (u : Setup) : Type 0 where
  pub acts_typed : (w : World) (action : Action)
      → TypedWorld (before u) u.typings w
      → is_library_turn w.frames ≡ true
      → StaysTyped (before u) u.typings w (act (before u) action w)

module _ (u : Setup) (basis : Basis u) (facts : FlatFacts u) (parts : LibraryParts u) {measure : ℕ} {one other : Run} (t : Together u measure one other)
    (none : t.now ≡ []) where
  abbrev P : Program
  P = before u

  abbrev Q : Program
  Q = after u

  memories : SameMemories P (λ n m. n ≡ m) (λ n m. n ≡ m) [] t.names [] one.world.memory other.world.memory
  memories = subst (λ (now : List ℕ). SameMemories P (λ n m. n ≡ m) (λ n m. n ≡ m) [] t.names now one.world.memory other.world.memory) none t.memories

  -- ---- the library's turn

  module _ (made made_also : Option ℕ) (rest others : List RunFrame) (stands : one.world.frames ≡ Library made ∷ rest)
      (stands_also : other.world.frames ≡ Library made_also ∷ others)
      (held : SameHeld t.names made made_also) (below : SameStanding u true t.names rest others) where
    at : AtLibrary P Q (comparison u) t.names made made_also rest others
    at = at_library facts basis.same held below (subst (AtPoints u) stands (typed_at_points u one.world t.typed))

    pub library_turn : Keeps P Q (Related u) measure one other
    library_turn = by (library_turned basis.same basis.compares stands stands_also memories t.seen t.goes t.goes_also t.actions t.used at) where
      by : LibraryTurn P Q (comparison u) t.names one other → Keeps P Q (Related u) measure one other
      by (waits_for_action stays stays_also) = turns_keep measure measure stays stays_also (record { waits = other; quietly = at_once; state = inl t })
      by (takes_action action ones later led led_also is_act left taken then) =
          let related = after_both u basis ones later then
          (subst (TypedWorld P u.typings) (sym is_act) (parts.acts_typed one.world action t.typed (ap is_library_turn stands)).typed) left taken in
          turns_keep measure related.0 led led_also related.1

  -- ---- the beginning of a class

  pub beginning_turn : (class : ℕ) (rest others : List RunFrame)
      → one.world.frames ≡ Beginning class ∷ rest
      → other.world.frames ≡ Beginning class ∷ others
      → SameStanding u false t.names rest others
      → Keeps P Q (Related u) measure one other
  beginning_turn class rest others stands stands_also below =
      both_keep u basis t.goes (ap is_library_turn stands) t.typed t.actions t.used
      (beginning_kept basis.same basis.alike class rest others one (record {
        goes = t.goes;
        goes_also = t.goes_also;
        stands = stands;
        stands_also = stands_also;
        memories = memories;
        seen = t.seen;
        frames = begins_on facts basis.same class below;
      }))
