-- What is the same as one comparison sees it, as another sees it: a theorem's comparison changes where objects that the first run alone has
-- do.
use Rattle.std.proofs.Common.{ℕ, List}
use Rattle.machine_values.specs.Heaps.{Heap}
use Rattle.machine_values.specs.declared.event.Event.{Event}
use Rattle.member_link.specs.Machine.Programs.{Program}
use Rattle.member_link.specs.Machine.Worlds.{Memory, World}
use Rattle.same_runs.specs.Renamings.{Names, NamesMore}
use Rattle.same_runs.specs.SameMemories.{Apart, SameHeaps, SameMemories}
use Rattle.same_runs.specs.SameWorlds.{Comparison, SameEvents, SameSeen, and_event, no_events}
use Rattle.same_runs.specs.Laws.Statics.{KeepsConstants, statics_counted, statics_still}

-- two comparisons that see events alike
pub record SeesAs (c d : Comparison) : Type 0 where
  pub allocated : (one other : ℕ) → c.shows_allocated one other → d.shows_allocated one other
  pub entered : (one other : ℕ) → c.shows_entered one other → d.shows_entered one other

events_as : {c d : Comparison} {ones others : List Event} → SeesAs c d → SameEvents c ones others → SameEvents d ones others
events_as sees no_events = no_events
events_as sees (and_event {one = one} {other = other} here rest) =
    and_event (record {
      kind = here.kind;
      monitors = here.monitors;
      allocations = sees.allocated one.allocations other.allocations here.allocations;
      entries = sees.entered one.entries other.entries here.entries;
    }) (events_as sees rest)

pub seen_as : {c d : Comparison} {names : Names} {one other : World} → SeesAs c d → SameSeen c names one other → SameSeen d names one other
seen_as sees seen = record { known = seen.known; events = events_as sees seen.events }

-- The same memories, with other heaps, other counts, and other objects apart.
pub memories_as :
    {P : Program} {Allocated Entered Allocates Enters : ℕ → ℕ → Type 0} {apart later : Apart} {names more : Names} {now : List ℕ}
    {one other : Memory} (heap also : Heap) (allocations allocations_also entries entries_also : ℕ)
    → NamesMore names more
    → KeepsConstants one.heap heap
    → SameHeaps later more heap also
    → Allocates allocations allocations_also
    → Enters entries entries_also
    → SameMemories P Allocated Entered apart names now one other
    → SameMemories P Allocates Enters later more now
    (record one { heap = heap; allocations = allocations; entries = entries })
    (record other { heap = also; allocations = allocations_also; entries = entries_also })
memories_as heap also allocations allocations_also entries entries_also grows keeps heaps allocated entered same = record {
  heaps = heaps;
  statics =
      statics_counted allocations allocations_also entries entries_also (statics_still {heap = heap} {also = also} grows keeps same.statics);
  allocations = allocated;
  entries = entered;
}
