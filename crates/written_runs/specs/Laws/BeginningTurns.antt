-- A turn of a beginning that stands on top of both.
use Rattle.std.proofs.Common.{◌≡◌, ◌++◌, ℕ, false, List, [], ◌∷◌, map, slice_get, Option, Some, None, refl, sym, ap, subst, ◌∙◌}
use Rattle.class_model.specs.declared.class_file.MethodAt.{MethodAt}
use Rattle.machine_values.specs.declared.frame.RunFrame.{RunFrame}
use Rattle.machine_values.specs.declared.frame.RunFrame.TheVariants.{Beginning, Method}
use Rattle.member_link.specs.Machine.Beginnings.{beginning_of, begun_memory, begun_next, come_first, first_unbegun, frame_with, initialiser_of, past_beginning}
use Rattle.member_link.specs.Machine.Programs.{RunClass}
use Rattle.member_link.specs.Machine.Runs.{Run}
use Rattle.member_link.specs.Machine.Stepping.{is_library_turn}
use Rattle.member_link.specs.Machine.Worlds.{Memory, World}
use Rattle.same_runs.specs.Laws.BothBegin.{beginning_kept, counted, turned_by_beginning}
use Rattle.same_runs.specs.Laws.CaughtUp.{BothTurn}
use Rattle.same_runs.specs.SameMemories.{SameMemories}
use Rattle.written_runs.specs.Laws.BegunFrames.{begins_on}
use Rattle.written_runs.specs.Laws.BothTurns.{Basis, StillHas, both_keep}
use Rattle.written_runs.specs.Inner.PlannedFrames.{Known}
use Rattle.written_runs.specs.Inner.Setup.{Setup, first, second}
use Rattle.written_runs.specs.Laws.Simulation.{KeepsTurn}
use Rattle.written_runs.specs.Inner.Standing.{Stands, apart, comparison}
use Rattle.written_runs.specs.Laws.StillThere.{MemoryStays, begun_stays, known_still, memory_itself, none_owned, owned_above}
use Rattle.written_runs.specs.Inner.Together.{Along, AreKnown, AreOwned, Together}
use Rattle.written_runs.specs.VirtualObjects.{Virtuals}

-- ---- what the first still has

module _ (u : Setup) {virtuals : Virtuals} {known : Known} (class : ℕ) (rest : List RunFrame) (w : World)
    (are_known : AreKnown w.memory.heap known) (owned : AreOwned u virtuals w.memory (Beginning class ∷ rest)) where
  -- with other frames in place of the beginning
  above : (frames : List RunFrame) (memory : Memory) → MemoryStays w.memory memory
      → StillHas u virtuals known (record w { memory = memory; frames = frames ++ rest })
  above frames memory stays = record { are_known = known_still stays.shapes are_known; owned = owned_above class rest owned frames stays }

  has_past : (initialiser : Option MethodAt) → StillHas u virtuals known (past_beginning (first u) w rest initialiser)
  has_past None = above [] w.memory (memory_itself w.memory)
  has_past (Some at) = above (Method (frame_with (first u) at [] None) ∷ []) w.memory (memory_itself w.memory)

  has_next : (next : Option ℕ) → StillHas u virtuals known (begun_next (first u) class w rest next)
  has_next None = has_past (initialiser_of (first u) class)
  has_next (Some above_it) =
      above (Beginning above_it ∷ Beginning class ∷ []) (begun_memory (first u) above_it w.memory) (begun_stays (first u) above_it w.memory)

  -- behind a turn of the beginning
  has_behind : (found : Option RunClass)
      → w.frames ≡ Beginning class ∷ rest
      → StillHas u virtuals known (beginning_of (first u) class w rest found)
  has_behind None stands = record { are_known = are_known; owned = subst (AreOwned u virtuals w.memory) (sym stands) owned }
  has_behind (Some found) stands = has_next (first_unbegun (first u) w.memory (come_first (first u) found.header))

-- ---- the turn

module _ (u : Setup) (basis : Basis u) where
  pub beginning_turn : (measure : ℕ) (one other : Run) (t : Together u measure one other)
      → t.along.now ≡ []
      → (class : ℕ) (ones others : List RunFrame)
      → t.along.ones ≡ Beginning class ∷ ones
      → t.along.others ≡ Beginning class ∷ others
      → Stands u t.along.virtuals t.along.known false t.along.names ones others
      → KeepsTurn u measure one other
  beginning_turn measure one other t none class ones others is is_also below =
      both_keep u basis a.are_apart a.goes (ap is_library_turn here) a.typed a.actions a.used both
      (subst (StillHas u a.virtuals a.known) (sym led) (has_behind u class ones (counted one) a.are_known owned (slice_get (first u).classes class) here)) where
        a : Along u one other
        a = t.along

        here : one.world.frames ≡ Beginning class ∷ ones
        here = a.stands ∙ ap (λ (now : List ℕ). map Beginning now ++ a.ones) none ∙ is

        owned : AreOwned u a.virtuals one.world.memory (Beginning class ∷ ones)
        owned = subst (AreOwned u a.virtuals one.world.memory) is a.owned

        both : BothTurn (first u) (second u) (comparison u a.virtuals a.known) a.names one other
        both = beginning_kept basis.same basis.alike class ones others one (record {
          goes = a.goes;
          goes_also = a.goes_also;
          stands = here;
          stands_also = a.stands_also ∙ is_also;
          memories =
              subst (λ (now : List ℕ). SameMemories (first u) (comparison u a.virtuals a.known).allocated (comparison u a.virtuals a.known).entered
              (apart a.virtuals) a.names now one.world.memory other.world.memory) none a.memories;
          seen = a.seen;
          frames = begins_on basis class (none_owned class ones owned) below;
        })

        led : both.first ≡ beginning_of (first u) class (counted one) ones (slice_get (first u).classes class)
        led =
            ap (λ (r : Run). r.world) (sym both.turned
            ∙ turned_by_beginning (first u) one class ones (slice_get (first u).classes class) a.goes here refl)
