use Rattle.std.proofs.Common.{◌≡◌, ◌∙◌, Result, Ok, Err, IfOk, sym, ap, subst}
use Rattle.class_rewrite.proofs.AnsweredMethods.{flat_outcome, kept_outcome}
use Rattle.class_rewrite.proofs.rewriter.Rewriter.rewrite.Goals as goal
use Rattle.class_rewrite.proofs.rewriter.Rewriter.rewrite.Goals.{in-Ok, in-Err-Kept, in-Err-NoMemory}
use Rattle.class_rewrite.specs.Inner.Outcomes.{IsOutcome}
use Rattle.class_rewrite.specs.declared.outcome.Outcome.TheVariants as outcomes
use Rattle.expanded_code.specs.ExpandAnswers.{AnswersExpanded}
use Rattle.pool_edit.specs.Edits.{Edit}

pub returns-clause-outcome : goal.returns-clause-outcome
returns-clause-outcome c = elim c.match-expand.branch [
  | in-Ok w ↦
      let of = c.self.inside.expander in
      let now = c.args.self.now in
      let here = flat_outcome of now c.self.inside.tree.now c.self.view_is c.self.invariant.1 c.self.invariant.0 c.args.at w.in-Ok.flat
      (subst (AnswersExpanded of.classes of.typed c.args.at) w.in-Ok.is c.expand.ensures.answers) w.of_flat-outcome.result c.args.pool.now
      w.of_flat-outcome.new.pool w.of_flat-outcome.ensures in
      subst (λ result. IfOk result (IsOutcome now.classes now.typed c.args.at c.args.pool.now c.match-expand.pool)) (sym w.result-is)
      (subst (λ (pool : Edit). IfOk w.of_flat-outcome.result (IsOutcome now.classes now.typed c.args.at c.args.pool.now pool)) (sym w.pool-is) here)
  | in-Err-Kept w ↦
      let of = c.self.inside.expander in
      let now = c.args.self.now in
      let answers = subst (AnswersExpanded of.classes of.typed c.args.at) (w.in-Err-Kept.is ∙ ap Err w.in-Err-Kept.field-0-is) c.expand.ensures.answers in
      let here = kept_outcome of now c.self.view_is c.args.at w.in-Err-Kept.reason c.args.pool.now answers in
      subst (λ result. IfOk result (IsOutcome now.classes now.typed c.args.at c.args.pool.now c.match-expand.pool))
      (sym (w.result-is ∙ ap (λ reason. Ok (outcomes.Kept reason)) w.in-Err-Kept.reason-is))
      (subst (λ (pool : Edit). IsOutcome now.classes now.typed c.args.at c.args.pool.now pool (outcomes.Kept w.in-Err-Kept.reason)) (sym w.pool-is) here)
  | in-Err-NoMemory w ↦
      subst (λ result. IfOk result (IsOutcome c.args.self.now.classes c.args.self.now.typed c.args.at c.args.pool.now c.match-expand.pool)) (sym w.result-is) tt
]
