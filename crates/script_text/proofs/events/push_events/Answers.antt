-- One more event is one more line.
use Rattle.std.proofs.Common.{◌++◌, ℕ, List, ap, ◌∙◌, sym, append_assoc, take}
use Rattle.script_text.specs.Events.{event_lines, event_line}
use Rattle.script_text.proofs.EventLines.{one_more_line}
use Rattle.script_text.proofs.events.push_events.Goals as goal

pub loop-number-preserved : goal.loop-number-preserved
loop-number-preserved c =
    let number = c.loop-number.number in
    let events = c.args.events.now in
    let event = c.index-events-number.result in
    let one = one_more_line number events event (c.loop-number-test.true) (c.index-events-number.is) in
    c.in_ok-push_event.ensures
    ∙ (ap (λ (t : List ℕ). t ++ event_line number event) c.loop-number.invariant
    ∙ (append_assoc c.args.text.now.items (event_lines 0 (take number events)) (event_line number event)
    ∙ ap (λ (t : List ℕ). c.args.text.now.items ++ t) (sym one)))
