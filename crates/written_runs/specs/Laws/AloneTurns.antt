-- Turns of the first run alone: a beginning of a class that it has begun alone goes on with a class that comes first, or is over.
use Rattle.std.proofs.Common.{◌≡◌, ◌⊎◌, ◌≤◌, ℕ, List, ◌∷◌, sym, ap, subst, arith, inl, inr}
use Rattle.member_link.specs.Machine.Beginnings.{begun_memory}
use Rattle.member_link.specs.Machine.Programs.{Program}
use Rattle.member_link.specs.Machine.Runs.{Run}
use Rattle.member_link.specs.Machine.Stepping.{is_library_turn}
use Rattle.same_runs.specs.Laws.AloneRuns.{AloneGoesOn, AloneOnTop, alone_goes_on, seen_still}
use Rattle.same_runs.specs.Simulations.{at_once}
use Rattle.written_runs.specs.Laws.BothTurns.{Basis, turn_typed}
use Rattle.written_runs.specs.Inner.Setup.{Setup, first}
use Rattle.written_runs.specs.Laws.Simulation.{KeepsTurn}
use Rattle.written_runs.specs.Inner.Standing.{apart, comparison}
use Rattle.written_runs.specs.Laws.StillThere.{MemoryStays, begun_stays, known_still, memory_itself, owned_still, settled_still}
use Rattle.written_runs.specs.Inner.Together.{Along, Related, Together, points_left, weight}

module _ (u : Setup) (basis : Basis u) where
  abbrev P : Program
  P = first u

  -- a turn of a beginning that stands on top of the first alone
  pub alone_turn : (measure : ℕ) (one other : Run) (t : Together u measure one other) (class : ℕ) (now : List ℕ)
      → t.along.now ≡ class ∷ now
      → KeepsTurn u measure one other
  alone_turn measure one other t class now is = record {
    waits = other;
    quietly = at_once;
    measure_then = weight P on.world.memory on.later (points_left a.frames);
    goes_on = inl (
      let falls = on.falls in
          let low = subst (λ (classes : List ℕ). weight P one.world.memory classes (points_left a.frames) ≤ measure) is t.low in omega (arith, falls, low),
      subst (λ (r : Run). Related u (weight P on.world.memory on.later (points_left a.frames)) r other) (sym on.turned)
          (record { later = other; quietly = at_once; state = inl then }),
    );
  } where
    a : Along u one other
    a = t.along

    top : AloneOnTop P (comparison u a.virtuals a.known).allocated (comparison u a.virtuals a.known).entered (apart a.virtuals) a.names (class ∷ now)
        a.ones one.world other.world.memory
    top =
        subst (λ (classes : List ℕ). AloneOnTop P (comparison u a.virtuals a.known).allocated (comparison u a.virtuals a.known).entered (apart a.virtuals)
        a.names classes a.ones one.world other.world.memory) is
        (record { stands = a.stands; alone = a.alone; no_turn = a.no_turn; memories = a.memories })

    on : AloneGoesOn P (comparison u a.virtuals a.known).allocated (comparison u a.virtuals a.known).entered (apart a.virtuals) a.names (class ∷ now)
        a.ones one other.world.memory
    on = alone_goes_on class now basis.alike a.goes top

    stays : MemoryStays one.world.memory on.world.memory
    stays = by on.memory where
      by : (on.world.memory ≡ one.world.memory) ⊎ ((first : ℕ) × (on.world.memory ≡ begun_memory P first one.world.memory))
          → MemoryStays one.world.memory on.world.memory
      by (inl same) = subst (MemoryStays one.world.memory) (sym same) (memory_itself one.world.memory)
      by (inr begun) = subst (MemoryStays one.world.memory) (sym begun.1) (begun_stays P begun.0 one.world.memory)

    then : Together u (weight P on.world.memory on.later (points_left a.frames)) (record one { world = on.world }) other
    then = record {
      along = record {
        virtuals = a.virtuals;
        are_apart = a.are_apart;
        known = a.known;
        are_known = known_still stays.shapes a.are_known;
        names = a.names;
        now = on.later;
        ones = a.ones;
        stands = on.top.stands;
        others = a.others;
        stands_also = a.stands_also;
        frames = a.frames;
        owned = owned_still stays a.owned;
        alone = on.top.alone;
        no_turn = on.top.no_turn;
        memories = on.top.memories;
        seen = seen_still on.known on.events a.seen;
        goes = on.goes;
        goes_also = a.goes_also;
        actions = a.actions;
        used = a.used;
        typed = turn_typed u basis a.goes (ap is_library_turn top.stands) a.typed on.turned;
      };
      settled = settled_still one.world.memory on.world.memory a.frames stays.shapes t.settled;
      low = omega arith;
    }
