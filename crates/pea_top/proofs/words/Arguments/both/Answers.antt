use Rattle.std.specs.Prelude.{codes}
use Rattle.pea_top.specs.Words.{steps_option, number_option, size_option}
use Rattle.pea_top.proofs.WordGrammar.{makes_none, no_library, given_none}
use Rattle.pea_top.proofs.words.Arguments.both.Goals as goal

pub returns-in_err-library-clause-none : goal.returns-in_err-library-clause-none
returns-in_err-library-clause-none c = rw c.from_residual.ensures (makes_none c.args.self _ (no_library c.args.self _ _ _ c.in_err-library.was))

pub returns-in_err-steps-clause-none : goal.returns-in_err-steps-clause-none
returns-in_err-steps-clause-none c = rw c.from_residual-in_err-steps.ensures (makes_none c.args.self _ (λ makes. c.in_err-steps.ensures.none _ (makes.values_are steps_option)))

pub returns-then-is_of_generated-clause-none : goal.returns-then-is_of_generated-clause-none
returns-then-is_of_generated-clause-none c =
    makes_none c.args.self (codes "both") (λ makes. given_none c.args.self (c.is_of_generated.ensures.given c.if-is_of_generated.true) (makes.values_are number_option) (makes.values_are size_option))
