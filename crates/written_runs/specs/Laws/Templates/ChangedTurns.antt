-- A turn of the first run that changes one virtual object.
use Rattle.std.proofs.Common.{◌≡◌, ◌≤◌, ◌+◌, ℕ, ◌∷◌, length, slice_get, Some, refl, sym, subst, arith}
use Rattle.machine_values.specs.Frames.{MethodState}
use Rattle.machine_values.specs.Heaps.{with_object}
use Rattle.machine_values.specs.declared.frame.RunFrame.TheVariants.{Method}
use Rattle.machine_values.specs.declared.object.Object.{Object}
use Rattle.member_link.specs.Machine.Runs.{Run}
use Rattle.member_link.specs.Machine.Stepping.{op_step}
use Rattle.same_runs.specs.Laws.Apart.{apart_changes}
use Rattle.same_runs.specs.Laws.BothBegin.{counted}
use Rattle.same_runs.specs.Laws.Compared.{memories_as}
use Rattle.same_runs.specs.Laws.Names.{names_themselves}
use Rattle.same_runs.specs.Laws.Statics.{keeps_all}
use Rattle.same_runs.specs.SameMemories.{Apart, SameHeaps, StaysApart}
use Rattle.written_runs.specs.Inner.Setup.{Setup, first}
use Rattle.written_runs.specs.Inner.Standing.{apart, entered}
use Rattle.written_runs.specs.Inner.Together.{AreOwned}
use Rattle.written_runs.specs.Laws.PlannedTurns.{AtPlanned}
use Rattle.written_runs.specs.Laws.Templates.Changed.{apart_as, many_changed, owned_changed, same_below_changed, shapes_changed, still_apart_changed, unbegun_alike, with_changed}
use Rattle.written_runs.specs.Laws.Templates.Known.{TemplateLaws, first_op}
use Rattle.written_runs.specs.Laws.Templates.Operands.{stays_there}
use Rattle.written_runs.specs.Laws.Templates.Turns.{FirstTurn, memories_here, owned_going_on}
use Rattle.written_runs.specs.VirtualObjects.{Virtual}

module _ (u : Setup) (laws : TemplateLaws u) {measure : ℕ} {one other : Run} (a : AtPlanned u measure one other) where
  -- its object becomes another one of the same shape, and so many monitors are entered then
  abbrev pub changed_turn : (later : MethodState) (new : Object) (entries number : ℕ) (target : Virtual)
      → slice_get a.t.along.virtuals number ≡ Some target
      → target.frame ≡ length a.ones
      → new.shape ≡ target.object.shape
      → op_step (first u) (counted one) a.f a.ones (first_op u laws a)
      ≡ record (counted one) {
        memory = record one.world.memory { heap = with_object one.world.memory.heap target.reference new; entries = entries };
        frames = Method later ∷ a.ones;
      }
      → other.world.memory.entries + entered (with_changed target.reference new a.t.along.virtuals) ≤ entries
      → later.at ≡ a.f.at
      → later.held ≡ a.f.held
      → FirstTurn u laws a
  changed_turn later new entries number target is of_frame shape turned few at held = record {
    later = later;
    memory = record one.world.memory { heap = with_object one.world.memory.heap target.reference new; entries = entries };
    turned = turned;
    at = at;
    held = held;
    virtuals = with_changed target.reference new a.t.along.virtuals;
    are_apart = still_apart_changed target.reference new a.t.along.virtuals a.t.along.are_apart;
    below = same_below_changed target.reference new a.t.along.virtuals (length a.ones) number target a.t.along.are_apart is of_frame refl;
    owned =
        owned_changed target.reference new u a.t.along.virtuals one.world.memory
        (record one.world.memory { heap = with_object one.world.memory.heap target.reference new; entries = entries }) (Method later ∷ a.ones)
        number target is refl shape a.t.along.are_apart refl
        (owned_going_on u a.t.along.virtuals one.world.memory a.f later a.ones at
        (subst (AreOwned u a.t.along.virtuals one.world.memory) a.stands a.t.along.owned));
    shapes = shapes_changed one.world.memory.heap target.reference target.object new stays.there shape;
    unbegun = unbegun_alike _ one.world.memory _ refl;
    memories =
        memories_as (with_object one.world.memory.heap target.reference new) other.world.memory.heap one.world.memory.allocations
        other.world.memory.allocations entries other.world.memory.entries (names_themselves a.t.along.names)
        (keeps_all one.world.memory.heap (with_object one.world.memory.heap target.reference new) refl) heaps allocated few
        (memories_here u laws a);
  } where
    stays : StaysApart a.t.along.names one.world.memory.heap (target.reference, target.object)
    stays = stays_there u laws a number target is

    heaps : SameHeaps (apart (with_changed target.reference new a.t.along.virtuals)) a.t.along.names
        (with_object one.world.memory.heap target.reference new) other.world.memory.heap
    heaps =
        subst (λ (items : Apart). SameHeaps items a.t.along.names (with_object one.world.memory.heap target.reference new) other.world.memory.heap)
        (sym (apart_as target.reference new a.t.along.virtuals))
        (apart_changes (memories_here u laws a).heaps target.reference target.object new stays.unnamed stays.there stays.no_constant)

    allocated : other.world.memory.allocations + length (with_changed target.reference new a.t.along.virtuals) ≤ one.world.memory.allocations
    allocated =
        let many = many_changed target.reference new a.t.along.virtuals in
        let before = (memories_here u laws a).allocations in
        omega (arith, many, before)
