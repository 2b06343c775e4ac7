-- One more event is one more line.
use Rattle.std.proofs.Common.{◌≡◌, ◌++◌, ◌∷◌, [], ◌+◌, ◌<◌, ℕ, zero, suc, List, ap, sym, ◌∙◌, arith, take, length, get_or, append_assoc}
use Rattle.std.proofs.lemmas.List.{append-nil}
use Rattle.script_text.specs.Events.{event_lines, event_line}
use Rattle.machine_values.specs.declared.event.Event.{Event}

next_line : (from at : ℕ) (events : List Event) (event : Event) → at < length events → event ≡ get_or events at event → event_lines from (take (suc at) events) ≡ event_lines from (take at events) ++ event_line (at + from) event
next_line from at [] event within is = absurd (omega (arith, within))
next_line from zero (first ∷ events) event within is =
    append-nil (event_line from first)
    ∙ (ap (λ (e : Event). event_line from e) (sym is)
    ∙ ap (λ (n : ℕ). event_line n event) {x = from} {y = zero + from} (omega arith))
next_line from (suc at) (first ∷ events) event within is =
    let lines = event_lines (suc from) (take at events) in
    ap (λ (t : List ℕ). event_line from first ++ t) (next_line (suc from) at events event (omega (arith, within)) is)
    ∙ (ap (λ (n : ℕ). event_line from first ++ (lines ++ event_line n event)) {x = at + suc from} {y = suc at + from} (omega arith)
    ∙ sym (append_assoc (event_line from first) lines (event_line (suc at + from) event)))

pub one_more_line : (at : ℕ) (events : List Event) (event : Event) → at < length events → event ≡ get_or events at event → event_lines 0 (take (at + 1) events) ≡ event_lines 0 (take at events) ++ event_line at event
one_more_line at events event within is =
    ap (λ (n : ℕ). event_lines 0 (take n events)) {x = at + 1} {y = suc at} (omega arith)
    ∙ (next_line 0 at events event within is
    ∙ ap (λ (n : ℕ). event_lines 0 (take at events) ++ event_line n event) {x = at + 0} {y = at} (omega arith))
