use Rattle.std.proofs.Common.{◌≡◌, ℕ, List, [], ◌∷◌, ◌++◌, sym, ap, ◌∙◌}
use Rattle.std.proofs.lemmas.Result.{on_ok_weaker}
use Rattle.machine_values.specs.declared.event.Event.{Event}
use Rattle.machine_values.specs.declared.event.EventKind.{EventKind}
use Rattle.machine_values.specs.Heaps.{Heap}
use Rattle.member_link.specs.Machine.Showing.{Numbered, asked_kind, event_of, showing, shows_asked}
use Rattle.member_link.specs.Machine.Worlds.{World, going}
use Rattle.machine_step.specs.Completing.{asked_of}
use Rattle.machine_step.proofs.showing.show_asked.Goals as goal

-- a world whose event is this
shown : (old : World) (kind : EventKind) (known : List ℕ) (events : List Event) (numbered : Numbered EventKind)
    → numbered ≡ record { seen = kind; known = known }
    → events ≡ old.events ++ event_of old.memory (record { seen = kind; known = known }) ∷ []
    → (let world : World = record old { known = known; events = events } in world) ≡ showing old numbered
shown old kind known events numbered is pushed =
    let with_events : List Event → World = λ all. record old { known = known; events = all } in
    ap with_events pushed ∙ ap (showing old) (sym is)

pub returns : goal.returns
returns c =
    let inside = c.world.inside in
    let old : World = record { frames = inside.frames; memory = inside.memory; known = inside.known; events = inside.events; steps = inside.steps; halt = going } in
    let asked = asked_of c.args.operands.now c.args.asked in
    on_ok_weaker c.push_event.result
    (λ pushed P program.
    let is : asked_kind P old.memory.heap old.known asked ≡ record { seen = c.in_ok-kind.kind; known = c.asked_kind.new.known } =
    ap (λ (heap : Heap). asked_kind P heap old.known asked) (sym c.heap.ensures) ∙ c.in_ok-kind.ensures P program in
    shown old c.in_ok-kind.kind c.asked_kind.new.known c.push_event.new.events (asked_kind P old.memory.heap old.known asked) is pushed
    ∙ ap (λ (world : World). shows_asked P world asked) c.world.view_is)
    c.push_event.ensures
