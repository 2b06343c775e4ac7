-- Runs of which the first has begun classes alone that run nothing: their beginnings stand on top of its frames, and it takes turns of them alone.
use Rattle.std.proofs.Common.{◌≡◌, ◌⊎◌, ◌<◌, ◌+◌, ◌*◌, ◌++◌, ℕ, false, List, [], ◌∷◌, length, map, slice_get, Some, refl, sym, ap, subst, ◌∙◌, arith, inl, inr}
use Rattle.std.specs.List.{AllByRecursion}
use Rattle.machine_values.specs.declared.event.Event.{Event}
use Rattle.machine_values.specs.declared.frame.RunFrame.{RunFrame}
use Rattle.machine_values.specs.declared.frame.RunFrame.TheVariants.{Beginning}
use Rattle.member_link.specs.Machine.Beginnings.{begun_memory, begun_on}
use Rattle.member_link.specs.Machine.Programs.{Program, RunClass}
use Rattle.member_link.specs.Machine.Runs.{Run, turn}
use Rattle.member_link.specs.Machine.Stepping.{is_library_turn}
use Rattle.member_link.specs.Machine.Worlds.{Memory, World, going}
use Rattle.same_runs.specs.Renamings.{Names, SameReferences}
use Rattle.same_runs.specs.SameMemories.{Apart, IsInert, SameMemories}
use Rattle.same_runs.specs.SameWorlds.{Comparison, SameEvents, SameSeen}
use Rattle.same_runs.specs.Laws.AloneTurn.{AloneTurn, beginning_alone, begins_deeper, begins_fewer, is_over, unbegun_in}
use Rattle.same_runs.specs.Laws.BothBegin.{counted}
use Rattle.same_runs.specs.Laws.QuietBeginnings.{BeginAlike}

-- the first has begun it alone, and its beginning runs nothing
pub record BeginsAlone (P : Program) (class : ℕ) : Type 0 where
  pub found : RunClass
  pub is : slice_get P.classes class ≡ Some found
  pub inert : IsInert P class

-- where beginnings of the first alone stand on top, it is not the library's turn below them
abbrev pub NoTurnBelow : List ℕ → List RunFrame → Type 0
NoTurnBelow [] frames = Unit {0}
NoTurnBelow (class ∷ now) frames = is_library_turn frames ≡ false

-- with such beginnings on top it is the library's turn in both or in none, where it is so below them
pub same_turn_below : (now : List ℕ) (ones others : List RunFrame) (one other : World)
    → one.frames ≡ map Beginning now ++ ones
    → other.frames ≡ others
    → NoTurnBelow now ones
    → is_library_turn others ≡ is_library_turn ones
    → is_library_turn other.frames ≡ is_library_turn one.frames
same_turn_below [] ones others one other stands stands_also below same = ap is_library_turn stands_also ∙ same ∙ sym (ap is_library_turn stands)
same_turn_below (class ∷ now) ones others one other stands stands_also below same =
    ap is_library_turn stands_also ∙ same ∙ below ∙ sym (ap is_library_turn stands)

-- Beginnings that the first has begun alone stand on top of its frames.
pub record AloneOnTop (P : Program) (Allocated Entered : ℕ → ℕ → Type 0) (apart : Apart) (names : Names) (now : List ℕ) (ones : List RunFrame)
    (one : World) (other : Memory)
    : Type 0 where
  pub stands : one.frames ≡ map Beginning now ++ ones
  pub alone : AllByRecursion (BeginsAlone P) now
  pub no_turn : NoTurnBelow now ones
  pub memories : SameMemories P Allocated Entered apart names now one.memory other

-- A turn of the first alone leads to such a world again, and what is left to begin falls.
pub record AloneGoesOn (P : Program) (Allocated Entered : ℕ → ℕ → Type 0) (apart : Apart) (names : Names) (now : List ℕ) (ones : List RunFrame)
    (one : Run) (other : Memory)
    : Type 0 where
  pub world : World
  pub later : List ℕ
  pub turned : turn P one ≡ record one { world = world }
  pub top : AloneOnTop P Allocated Entered apart names later ones world other
  -- its memory is as it was, or a class is begun
  pub memory : (world.memory ≡ one.world.memory) ⊎ ((first : ℕ) × (world.memory ≡ begun_memory P first one.world.memory))
  pub known : world.known ≡ one.world.known
  pub events : world.events ≡ one.world.events
  pub goes : world.halt ≡ going
  pub falls : 2 * unbegun_in P world.memory + length later < 2 * unbegun_in P one.world.memory + length now

pub alone_goes_on :
    {P Q : Program} {Allocated Entered : ℕ → ℕ → Type 0} {apart : Apart} {names : Names} {ones : List RunFrame} {one : Run} {other : Memory}
    (class : ℕ) (now : List ℕ)
    → BeginAlike P Q
    → one.world.halt ≡ going
    → AloneOnTop P Allocated Entered apart names (class ∷ now) ones one.world other
    → AloneGoesOn P Allocated Entered apart names (class ∷ now) ones one other
alone_goes_on {P = P} {Allocated = Allocated} {Entered = Entered} {apart = apart} {names = names} {ones = ones} {one = one} {other = other} class now alike
    goes top = by (beginning_alone class (map Beginning now ++ ones) top.alone.0.found alike goes top.stands top.alone.0.is top.alone.0.inert top.memories) where
      below : (classes : List ℕ) → NoTurnBelow classes ones
      below [] = tt
      below (first ∷ classes) = top.no_turn

      by : AloneTurn P Allocated Entered apart names now class (map Beginning now ++ ones) one other
          → AloneGoesOn P Allocated Entered apart names (class ∷ now) ones one other
      by (begins_deeper first found found_is inert none turned memories) = record {
        world = begun_on P first (counted one) (Beginning class ∷ map Beginning now ++ ones);
        later = first ∷ class ∷ now;
        turned = turned;
        top = record {
          stands = refl;
          alone = (record { found = found; is = found_is; inert = inert }, top.alone);
          no_turn = top.no_turn;
          memories = memories;
        };
        memory = inr (first, refl);
        known = refl;
        events = refl;
        goes = goes;
        falls = let fewer = begins_fewer P P first found one.world.memory found_is none in omega (arith, fewer);
      }
      by (is_over turned memories) = record {
        world = record (counted one) { frames = map Beginning now ++ ones };
        later = now;
        turned = turned;
        top = record { stands = refl; alone = top.alone.1; no_turn = below now; memories = memories };
        memory = inl refl;
        known = refl;
        events = refl;
        goes = goes;
        falls = omega arith;
      }

-- what was seen is the same as long as the first sees nothing more
pub seen_still : {c : Comparison} {names : Names} {one later other : World} → later.known ≡ one.known → later.events ≡ one.events
    → SameSeen c names one other
    → SameSeen c names later other
seen_still {c = c} {names = names} {one = one} {later = later} {other = other} known events seen = record {
  known = subst (λ (references : List ℕ). SameReferences names references other.known) (sym known) seen.known;
  events = subst (λ (shown : List Event). SameEvents c shown other.events) (sym events) seen.events;
}
