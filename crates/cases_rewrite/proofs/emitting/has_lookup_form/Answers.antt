use Rattle.cases_rewrite.proofs.Forms.{short_increases}
use Rattle.cases_rewrite.proofs.emitting.has_lookup_form.Goals as goal

pub returns-in-empty-clause-order : goal.returns-in-empty-clause-order
returns-in-empty-clause-order c = λ _. short_increases c.args.pairs.now c.in-empty.len_below
