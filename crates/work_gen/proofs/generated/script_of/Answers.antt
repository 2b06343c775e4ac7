use Rattle.std.proofs.Common.{◌++◌, get_or, take, ap, ◌∙◌, arith}
use Rattle.work_gen.specs.Generated.{call_text, indexed}
use Rattle.work_gen.proofs.Indexed.{next_indexed, no_choice}
use Rattle.work_gen.proofs.generated.script_of.Goals as goal

pub loop-choice-preserved : goal.loop-choice-preserved
loop-choice-preserved c =
    let choice = get_or c.args.chosen.now c.loop-choice.choice-index no_choice in
    record {
      number = omega (arith, c.loop-choice.invariant.number);
      text =
          c.in_ok-push_call.ensures
          ∙ ap (λ before. before ++ call_text c.loop-choice.number choice) c.loop-choice.invariant.text
          ∙ ap (λ number. indexed call_text 0 (take c.loop-choice.choice-index c.args.chosen.now) ++ call_text number choice) c.loop-choice.invariant.number
          ∙ next_indexed call_text c.args.chosen.now c.loop-choice.choice-index no_choice c.loop-choice-test.true;
    }
