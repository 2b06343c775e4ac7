-- What an operation comes to in both runs changes both worlds alike: calls, throwing, and what the library sees of it.
use Rattle.std.proofs.Common.{◌≡◌, ◌+◌, ℕ, List, [], ◌∷◌, ◌++◌, Some, None, IsTrue, IsFalse, refl, sym, ap, subst, inl, inr, ◌⊎◌}
use Rattle.class_model.specs.declared.class_file.MethodAt.{MethodAt}
use Rattle.class_tree.specs.Headers.{Name}
use Rattle.machine_values.specs.Frames.{MethodState}
use Rattle.machine_values.specs.Heaps.{constant_made, entered, external}
use Rattle.machine_values.specs.declared.event.Event.{Event}
use Rattle.machine_values.specs.declared.event.EventKind.{EventKind}
use Rattle.machine_values.specs.declared.event.EventKind.TheVariants as kinds
use Rattle.machine_values.specs.declared.frame.RunFrame.{RunFrame}
use Rattle.machine_values.specs.declared.frame.RunFrame.TheVariants.{Library, Method}
use Rattle.machine_values.specs.declared.object.Constant.TheVariants.{Class}
use Rattle.machine_values.specs.declared.object.Shape.TheVariants.{External}
use Rattle.machine_values.specs.declared.value.Value.{Value}
use Rattle.member_link.specs.Machine.Completions.{Completion, begins, calls, ends}
use Rattle.member_link.specs.Machine.ObjectSteps.{with_entered}
use Rattle.member_link.specs.Machine.Ops.{Op}
use Rattle.member_link.specs.Machine.Performing.{Landing, Locked, Locking, no_lock, receiver_lock, class_lock, landed, locked, locked_by, locking_of, perform, raised, thrown_in}
use Rattle.member_link.specs.Machine.Programs.{Program, RunMethod, name_of_class, run_method}
use Rattle.member_link.specs.Machine.Showing.{Numbered, showing}
use Rattle.member_link.specs.Machine.Work.{work}
use Rattle.member_link.specs.Machine.Worlds.{Memory, World, going, stopped, faulted, init_threw, array_too_long, stuck, is_begun, with_heap}
use Rattle.same_runs.specs.Renamings.{Names, NamesMore, SameHeld, none_held, one_held, SameValues, no_values, and_value, same_int, same_long, same_float, same_double, same_null, same_reference}
use Rattle.same_runs.specs.SameCompletions.{SameCompletions, both_give, both_raise, both_throw, both_begin, both_call, both_ask, both_end, begins_alone}
use Rattle.same_runs.specs.SameFrames.{SameLanding, both_catch, both_leave, both_nowhere, both_reach_library, Unwinds}
use Rattle.same_runs.specs.SameMemories.{SameMemories}
use Rattle.same_runs.specs.SamePrograms.{SameOp, SamePrograms}
use Rattle.same_runs.specs.SameWorlds.{Compares, Comparison, Goes, IsAwaiting, IsThrowing, SameAfter, SameEvent, SameEvents, SameSeen, and_event, both_go, both_landed, both_over, no_events}
use Rattle.same_runs.specs.Laws.Begun.{begin_both}
use Rattle.same_runs.specs.Laws.Completed.{called_there, ends_over, work_is_possible}
use Rattle.same_runs.specs.Laws.Constants.{both_have}
use Rattle.same_runs.specs.Laws.Heaps.{both_allocate, both_enter, entered_constants, new_unnamed}
use Rattle.same_runs.specs.Laws.Methods.{same_run_method}
use Rattle.same_runs.specs.Laws.Names.{named_here, named_too, named_too_more, names_themselves, references_more, values_more}
use Rattle.same_runs.specs.Laws.Numbering.{SameNumbered, asked_numbered, monitors_same, reference_numbered}
use Rattle.same_runs.specs.Laws.Programs.{same_name}
use Rattle.same_runs.specs.Laws.Statics.{keeps_all, keeps_made, memories_counted, memories_still}
use Rattle.same_runs.specs.Laws.Unwinding.{unwind_same}
use Rattle.same_runs.specs.Laws.Work.{work_same}

-- ---- what was seen

-- what was seen is the same under more names
pub seen_more : {c : Comparison} {names more : Names} {first second : World} → NamesMore names more → SameSeen c names first second
    → SameSeen c more first second
seen_more grows seen = record { known = references_more grows seen.known; events = seen.events }

-- one event more on both sides
pub one_event_more : {c : Comparison} {ones others : List Event} {one other : Event} → SameEvents c ones others → SameEvent c one other
    → SameEvents c (ones ++ one ∷ []) (others ++ other ∷ [])
one_event_more no_events last = and_event last no_events
one_event_more (and_event here rest) last = and_event here (one_event_more rest last)

module _ {P Q : Program} {c : Comparison} (same : SamePrograms P Q) (compares : Compares c) where
  -- the library sees the same event in both
  pub shown_same :
      {names : Names} (first second : World) {kind also : Numbered EventKind}
      → SameMemories P c.allocated c.entered c.apart names [] first.memory second.memory
      → SameEvents c first.events second.events
      → SameNumbered EventKind names kind also
      → SameSeen c names (showing first kind) (showing second also)
  shown_same first second memories events number = record {
    known = number.known;
    events =
        one_event_more events (record {
          kind = number.seen;
          monitors = monitors_same same memories.heaps number.known;
          allocations = compares.shows_allocated first.memory.allocations second.memory.allocations memories.allocations;
          entries = compares.shows_entered first.memory.entries second.memory.entries memories.entries;
        });
  }

  -- ---- throwing

  -- an object of both lands at the same place
  pub landed_same :
      {names more : Names} {first second : World} {landing also : Landing} (reference named : ℕ)
      → NamesMore names more
      → more reference ≡ Some named
      → SameSeen c names first second
      → first.halt ≡ going
      → second.halt ≡ going
      → SameLanding P c.allocated c.entered c.apart c.frames c.lands more landing also
      → SameAfter P c names (landed P first reference landing) (landed Q second named also)
  landed_same {more = more} reference named grows is seen goes goes_also (both_catch memories lands) =
      both_landed more grows lands memories (record { known = references_more grows seen.known; events = seen.events }) goes goes_also
  landed_same {more = more} {first = first} {second = second} reference named grows is seen goes goes_also
      (both_reach_library {memory = memory} {also = memory_also} {ones = ones} {others = others} memories frames) =
      let number = reference_numbered same memories.heaps (references_more grows seen.known) reference named is in
      both_go more grows frames memories
      (shown_same (record first { memory = memory; frames = Library None ∷ ones })
      (record second { memory = memory_also; frames = Library None ∷ others })
      memories seen.events (record { seen = ap kinds.Threw number.seen; known = number.known })) goes goes_also
  landed_same {more = more} reference named grows is seen goes goes_also (both_leave memories) =
      both_over more (record { known = references_more grows seen.known; events = seen.events }) (λ impossible. cc impossible) refl
  landed_same {more = more} reference named grows is seen goes goes_also both_nowhere =
      both_over more (record { known = references_more grows seen.known; events = seen.events }) (λ impossible. cc impossible) refl

  -- an object of both is thrown
  pub thrown_same :
      {names more : Names} {first second : World} {ones others : List RunFrame} (reference named : ℕ) (one other : Memory)
      → NamesMore names more
      → more reference ≡ Some named
      → SameSeen c names first second
      → first.halt ≡ going
      → second.halt ≡ going
      → SameMemories P c.allocated c.entered c.apart more [] one other
      → Unwinds P Q c.frames c.lands more ones others
      → SameAfter P c names (thrown_in P first reference ones one) (thrown_in Q second named others other)
  thrown_same reference named one other grows is seen goes goes_also memories unwinds =
      landed_same reference named grows is seen goes goes_also (unwind_same same reference named one other unwinds memories is)

  -- ---- calls

  -- both enter the monitor of a method that they call, if it has one, under names that are perhaps more
  pub record SameLocked (names : Names) (one other : Locked) : Type 0 where
    pub more : Names
    pub grows : NamesMore names more
    pub memories : SameMemories P c.allocated c.entered c.apart more [] one.memory other.memory
    pub held : SameHeld more one.held other.held

  enters_both : {names : Names} {one other : Memory} (reference named : ℕ)
      → names reference ≡ Some named
      → SameMemories P c.allocated c.entered c.apart names [] one other
      → SameMemories P c.allocated c.entered c.apart names [] (with_entered one reference) (with_entered other named)
  enters_both {names = names} {one = one} {other = other} reference named is memories =
      let still =
      memories_still (names_themselves names) (keeps_all one.heap (entered one.heap reference) (entered_constants one.heap reference))
      (both_enter memories.heaps reference named is) memories in
      memories_counted one.allocations other.allocations (one.entries + 1) (other.entries + 1)
      memories.allocations (compares.entered one.entries other.entries 1 memories.entries) still

  locks_none : {names : Names} {one other : Memory} → SameMemories P c.allocated c.entered c.apart names [] one other
      → SameLocked names (record { memory = one; held = None }) (record { memory = other; held = None })
  locks_none {names = names} memories = record { more = names; grows = names_themselves names; memories = memories; held = none_held }

  locked_by_same : {names : Names} {one other : Memory} {ones others : List Value} (class : Name) (locking : Locking)
      → SameMemories P c.allocated c.entered c.apart names [] one other
      → SameValues names ones others
      → SameLocked names (locked_by one class locking ones) (locked_by other class locking others)
  locked_by_same class no_lock memories are = locks_none memories
  locked_by_same class receiver_lock memories no_values = locks_none memories
  locked_by_same class receiver_lock memories (and_value same_int are) = locks_none memories
  locked_by_same class receiver_lock memories (and_value same_long are) = locks_none memories
  locked_by_same class receiver_lock memories (and_value same_float are) = locks_none memories
  locked_by_same class receiver_lock memories (and_value same_double are) = locks_none memories
  locked_by_same class receiver_lock memories (and_value same_null are) = locks_none memories
  locked_by_same {names = names} class receiver_lock memories (and_value (same_reference {reference = reference} {named = named} is) are) =
      record { more = names; grows = names_themselves names; memories = enters_both reference named is memories; held = one_held is }
  locked_by_same {one = one} {other = other} class class_lock memories are =
      let made = both_have memories.heaps (Class class) in
      record {
        more = made.more;
        grows = made.grows;
        memories =
            enters_both (constant_made one.heap (Class class)).reference (constant_made other.heap (Class class)).reference made.is
            (memories_still made.grows (keeps_made one.heap (Class class)) made.heaps memories);
        held = one_held made.is;
      }

  same_locking : (at : MethodAt) (method : RunMethod) → run_method P at ≡ Some method
      → locking_of (run_method Q at) ≡ locking_of (run_method P at)
  same_locking at method is =
      let found = same_run_method same at method is in
      rw (is, found.1, found.2.member) refl

  -- a method of both that is called enters the same monitor
  pub locked_same : {names : Names} {one other : Memory} {ones others : List Value} (at : MethodAt) (method : RunMethod)
      → run_method P at ≡ Some method
      → SameMemories P c.allocated c.entered c.apart names [] one other
      → SameValues names ones others
      → SameLocked names (locked P one at ones) (locked Q other at others)
  locked_same {names = names} {one = one} {other = other} {ones = ones} {others = others} at method is memories are =
      subst (λ (class : Name). SameLocked names (locked P one at ones) (locked_by other class (locking_of (run_method Q at)) others))
      (sym (same_name same at.class))
      (subst (λ (locking : Locking). SameLocked names (locked P one at ones) (locked_by other (name_of_class P at.class) locking others))
      (sym (same_locking at method is))
      (locked_by_same (name_of_class P at.class) (locking_of (run_method P at)) memories are))

  -- a throwable of the machine is made in both, and thrown
  pub raised_same :
      {names : Names} {first second : World} {ones others : List RunFrame} (class : Name)
      → SameMemories P c.allocated c.entered c.apart names [] first.memory second.memory
      → SameSeen c names first second
      → first.halt ≡ going
      → second.halt ≡ going
      → ((more : Names) → NamesMore names more → Unwinds P Q c.frames c.lands more ones others)
      → SameAfter P c names (raised P first class ones) (raised Q second class others)
  raised_same {names = names} {first = first} {second = second} class memories seen goes goes_also unwinds =
      let made = external first.memory.heap class in
      let also = external second.memory.heap class in
      let grows = named_too_more names made.reference also.reference (new_unnamed memories.heaps) in
      thrown_same made.reference also.reference (with_heap first.memory made.heap) (with_heap second.memory also.heap)
      grows (named_here names made.reference also.reference) seen goes goes_also
      (memories_still grows (keeps_all first.memory.heap made.heap refl)
      (both_allocate memories.heaps (External class []) [] [] no_values) memories)
      (unwinds (named_too names made.reference also.reference) grows)

-- ---- completions

-- a class that the second has to begin first, which the first has begun before
pub record MustBegin (one other : Memory) (completion : Completion) : Type 0 where
  pub class : ℕ
  pub is : completion ≡ begins class
  pub begun : IsTrue (is_begun one class)
  pub begun_not : IsFalse (is_begun other class)

module _ {P Q : Program} {c : Comparison} {names : Names} {first second : World} {w : Completion}
    {before taken also taken_also : MethodState} {rest rest_also : List RunFrame}
    (same : SamePrograms P Q) (compares : Compares c)
    (memories : SameMemories P c.allocated c.entered c.apart names [] first.memory second.memory) (seen : SameSeen c names first second)
    (goes : first.halt ≡ going) (goes_also : second.halt ≡ going)
    (frames : Goes P Q c names w before taken also taken_also rest rest_also) where
  abbrev After : Completion → Completion → Type 0
  After one other = SameAfter P c names (perform P first before taken rest one) (perform Q second also taken_also rest_also other)

  begins_both : (class : ℕ) → IsFalse (is_begun first.memory class) → After (begins class) (begins class)
  begins_both class none =
      let begun = begin_both same class none memories in
      both_go begun.0 begun.1 (frames.begins begun.0 class begun.1) begun.2
      (record { known = references_more begun.1 seen.known; events = seen.events }) goes goes_also

  calls_both : (at : MethodAt) (method : RunMethod) → run_method P at ≡ Some method → {ones others : List Value}
      → IsAwaiting w
      → SameValues names ones others
      → After (calls at ones) (calls at others)
  calls_both at method is {ones = ones} {others = others} waits are =
      let held = locked_same same compares at method is memories are in
      both_go held.more held.grows
      (frames.called held.more at method ones others (locked P first.memory at ones).held
      (locked Q second.memory at others).held waits held.grows is (values_more held.grows are) held.held)
      held.memories (record { known = references_more held.grows seen.known; events = seen.events }) goes goes_also

  -- Both worlds go on in the same way, or both are over; or the second has to begin a class first. A method that is called is one of the
  -- first program. A completion that ends a run as one that goes on, which no operation comes to, leaves the frames as they are.
  pub performs_same :
      {one other : Completion}
      → w ≡ one
      → ((at : MethodAt) (values : List Value) → one ≡ calls at values → (method : RunMethod) × (run_method P at ≡ Some method))
      → (one ≡ ends going → c.frames names first.frames second.frames)
      → SameCompletions P c.allocated c.entered c.apart names first.memory second.memory one other
      → MustBegin first.memory second.memory other
      ⊎ SameAfter P c names (perform P first before taken rest one) (perform Q second also taken_also rest_also other)
  performs_same is_one known stay (both_give {memory = memory} {ones = ones} {others = others} more grows now are) =
      inr (both_go more grows (frames.given more memory ones others is_one grows are) now
      (record { known = references_more grows seen.known; events = seen.events }) goes goes_also)
  performs_same is_one known stay (both_raise {class = class}) = inr (raised_same same compares class memories seen goes goes_also
      (λ more. frames.unwinds more (subst IsThrowing (sym is_one) tt)))
  performs_same is_one known stay (both_throw {reference = reference} {named = named} is) =
      inr (thrown_same same compares reference named first.memory second.memory (names_themselves names) is seen goes goes_also memories
      (frames.unwinds names (subst IsThrowing (sym is_one) tt) (names_themselves names)))
  performs_same is_one known stay (both_begin {class = class} none) = inr (begins_both class none)
  performs_same is_one known stay (both_call {at = at} {ones = ones} are) =
      let method = known at ones refl in
      inr (calls_both at method.0 method.1 (subst IsAwaiting (sym is_one) tt) are)
  performs_same is_one known stay (both_ask {asked = asked} {also = asked_also} is) =
      inr (both_go names (names_themselves names) (frames.asks names (subst IsAwaiting (sym is_one) tt) (names_themselves names)) memories
      (shown_same same compares (record first { frames = Library None ∷ Method taken ∷ rest })
      (record second { frames = Library None ∷ Method taken_also ∷ rest_also })
      memories seen.events (asked_numbered same memories.heaps seen.known is)) goes goes_also)
  performs_same is_one known stay (both_end {halt = going}) =
      inr (both_go names (names_themselves names) (stay refl) memories (record { known = seen.known; events = seen.events }) refl refl)
  performs_same is_one known stay (both_end {halt = stopped}) =
      inr (both_over names (record { known = seen.known; events = seen.events }) (λ impossible. cc impossible) refl)
  performs_same is_one known stay (both_end {halt = faulted}) =
      inr (both_over names (record { known = seen.known; events = seen.events }) (λ impossible. cc impossible) refl)
  performs_same is_one known stay (both_end {halt = init_threw}) =
      inr (both_over names (record { known = seen.known; events = seen.events }) (λ impossible. cc impossible) refl)
  performs_same is_one known stay (both_end {halt = array_too_long}) =
      inr (both_over names (record { known = seen.known; events = seen.events }) (λ impossible. cc impossible) refl)
  performs_same is_one known stay (both_end {halt = stuck}) =
      inr (both_over names (record { known = seen.known; events = seen.events }) (λ impossible. cc impossible) refl)
  performs_same is_one known stay (begins_alone {class = class} begun none) =
      inl (record { class = class; is = refl; begun = begun; begun_not = none })

  -- The same operation with the same operands changes both worlds alike; or the second has to begin a class first that the first has begun.
  pub operation_performed :
      {op also_op : Op} {ones others : List Value}
      → w ≡ work P first.memory op ones
      → SameOp P Q op also_op
      → SameValues names ones others
      → MustBegin first.memory second.memory (work Q second.memory also_op others)
      ⊎ SameAfter P c names (perform P first before taken rest (work P first.memory op ones))
      (perform Q second also taken_also rest_also (work Q second.memory also_op others))
  operation_performed {op = op} {ones = ones} is_one is are =
      let possible = work_is_possible P first.memory op ones in
      performs_same is_one (called_there possible) (λ over. absurd (ends_over possible over))
      (work_same same (record { both = compares.allocated }) (record { both = compares.entered }) memories is are)
