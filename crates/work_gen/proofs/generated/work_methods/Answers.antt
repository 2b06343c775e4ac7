use Rattle.std.proofs.Common.{◌≡◌, ◌++◌, ◌∷◌, [], get_or, take, ap, ◌∙◌, arith}
use Rattle.class_model.specs.declared.class_file.Attr.TheVariants.{Code}
use Rattle.work_gen.specs.Generated.{work_method, work_methods}
use Rattle.work_gen.specs.Values.{method}
use Rattle.work_gen.proofs.Indexed.{next_indexed, no_choice}
use Rattle.work_gen.proofs.generated.work_methods.Goals as goal

pub loop-choice-preserved : goal.loop-choice-preserved
loop-choice-preserved c =
    let choice = get_or c.args.chosen.now c.loop-choice.choice-index no_choice in
    let made : c.in_ok-method_of.field-0 ≡ work_method c.loop-choice.choice-index choice =
    c.in_ok-method_of.ensures
    ∙ ap (λ part. method 0x0009 c.loop-choice.name 6 (Code 5 part ∷ [])) c.in_ok-part.ensures
    ∙ ap (λ name. record (work_method c.loop-choice.choice-index choice) { name = name }) c.loop-choice.invariant.name
    in
    record {
      name = omega (arith, c.loop-choice.invariant.name);
      methods =
          c.in_ok-push.ensures.ok
          ∙ ap (λ methods. methods ++ c.in_ok-method_of.field-0 ∷ []) c.loop-choice.invariant.methods
          ∙ ap (λ last. work_methods (take c.loop-choice.choice-index c.args.chosen.now) ++ last ∷ []) made
          ∙ next_indexed (λ number chosen. work_method number chosen ∷ []) c.args.chosen.now c.loop-choice.choice-index no_choice c.loop-choice-test.true;
    }
