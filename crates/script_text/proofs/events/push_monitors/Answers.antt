-- The counts above zero say all.
use Rattle.std.proofs.Common.{◌≡◌, ◌++◌, OnOk, ℕ, List, length, map, ap, ◌∙◌, sym, subst}
use Rattle.script_text.specs.Events.{held_text, held_words}
use Rattle.script_text.specs.Inner.Held.{held_listed}
use Rattle.script_text.proofs.HeldWords.{held_by_counts}
use Rattle.script_text.proofs.events.push_monitors.Goals as goal

pub returns : goal.returns
returns c =
    let said : held_words 0 c.args.monitors.now ≡ map held_listed c.held.result.now =
    ap (λ (counts : List ℕ). held_words 0 counts) c.held.ensures.counts
    ∙ held_by_counts 0 (length c.args.monitors.now) c.held.result.now c.held.ensures.held
    in
    subst (λ (words : List (List ℕ)). OnOk c.push_held.result (c.push_held.new.text.items ≡ c.args.text.now.items ++ held_text words)) (sym said) c.push_held.ensures
