use Rattle.std.proofs.Common.{◌≡◌, false, Option, Some, List, ℕ, sym, ap, ◌∙◌}
use Rattle.std.specs.Option.{option_copied}
use Rattle.member_link.specs.Machine.Shapes.{both_conform, component_named}
use Rattle.machine_step.specs.Inner.QuestionWords.{behind_bracket}
use Rattle.machine_step.proofs.Conforming.{by_rests, rests_conform}
use Rattle.machine_step.proofs.questions.shapes.components_conform.Goals as goal

pub loop-low-preserved : goal.loop-low-preserved
loop-low-preserved c = λ P is.
    let low = c.loop-low.low.now in
    let high = c.loop-low.high.now in
    let front : both_conform P (component_named low) (component_named high) ≡ false =
    sym (ap (λ (o : Option (List ℕ)). both_conform P o (component_named high)) c.component_named.ensures)
    ∙ sym (ap (both_conform P (option_copied c.component_named.result)) c.component_named-in-loop-low.ensures)
    ∙ sym (c.both_conform.ensures P is)
    ∙ c.if-both_conform.false
    in
    c.loop-low.invariant P is
    ∙ by_rests P low high front
    ∙ ap (λ (o : Option (List ℕ)). rests_conform P o (behind_bracket high)) (sym c.in-Some.ensures)
    ∙ ap (rests_conform P (Some c.in-Some.low_rest.now)) (sym c.in-Some-behind_bracket.ensures)
