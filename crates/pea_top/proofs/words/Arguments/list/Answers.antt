use Rattle.std.specs.Prelude.{codes}
use Rattle.std.proofs.Common.{sym, ◌∙◌}
use Rattle.pea_top.specs.Words.{lib_option, steps_option, number_option, size_option}
use Rattle.pea_top.proofs.WordGrammar.{makes_none, no_value, given_none}
use Rattle.pea_top.proofs.words.Arguments.list.Goals as goal
use Rattle.pea_top.proofs.words.Arguments.list.Goals.{then-is_some-via-then-is_some, then-is_some-via-else-is_some+then-is_some-2}

pub returns-then-is_some-clause-none : goal.returns-then-is_some-clause-none
returns-then-is_some-clause-none c = makes_none c.args.self _ (λ makes. elim c.then-is_some.branch [
  | then-is_some-via-then-is_some w ↦ no_value c.args.self.library (sym c.is_some.ensures ∙ w.if-is_some.true) (makes.values_are lib_option)
  | then-is_some-via-else-is_some+then-is_some-2 w ↦ no_value c.args.self.steps (sym w.is_some-else-is_some.ensures ∙ w.if-is_some-2.true) (makes.values_are steps_option)
])

pub returns-then-is_of_generated-clause-none : goal.returns-then-is_of_generated-clause-none
returns-then-is_of_generated-clause-none c =
    makes_none c.args.self (codes "list") (λ makes. given_none c.args.self (c.is_of_generated.ensures.given c.if-is_of_generated.true) (makes.values_are number_option) (makes.values_are size_option))
