use Rattle.std.proofs.Common.{sym, ◌∙◌}
use Rattle.std.specs.Prelude.{codes}
use Rattle.std.proofs.lemmas.Slice.Eq.{bytes_eq-Decides}
use Rattle.pea_top.specs.Words.{steps_option, number_option, size_option}
use Rattle.pea_top.proofs.WordGrammar.{makes_none, no_library, no_value, given_none}
use Rattle.pea_top.proofs.words.Arguments.optimise.Goals as goal
use Rattle.pea_top.proofs.words.Arguments.optimise.Goals.{then-is_some-via-then-is_some, then-is_some-via-else-is_some+then-eq, then-is_some-via-else-is_some+else-eq+then-eq-2}

pub returns-in_err-library-clause-none : goal.returns-in_err-library-clause-none
returns-in_err-library-clause-none c = rw c.from_residual.ensures (makes_none c.args.self _ (no_library c.args.self _ _ _ c.in_err-library.was))

pub returns-then-is_some-clause-none : goal.returns-then-is_some-clause-none
returns-then-is_some-clause-none c = makes_none c.args.self (codes "optimise") (λ makes. elim c.then-is_some.branch [
  | then-is_some-via-then-is_some w ↦ no_value c.args.self.steps (sym c.is_some.ensures ∙ w.if-is_some.true) (makes.values_are steps_option)
  | then-is_some-via-else-is_some+then-eq w ↦ (rw c.in-Two.is at makes.apart).0 ((bytes_eq-Decides c.in-Two.output.now c.in-Two.input.now).0 (sym w.eq.ensures ∙ w.if-eq.true))
  | then-is_some-via-else-is_some+else-eq+then-eq-2 w ↦ (rw (c.in-Two.is, c.in_ok-library.was) at makes.apart).1 ((bytes_eq-Decides c.in-Two.output.now c.in_ok-library.library.now).0 (sym w.eq-else-eq.ensures ∙ w.if-eq-2.true))
])

pub returns-then-is_of_generated-clause-none : goal.returns-then-is_of_generated-clause-none
returns-then-is_of_generated-clause-none c =
    makes_none c.args.self (codes "optimise") (λ makes. given_none c.args.self (c.is_of_generated.ensures.given c.if-is_of_generated.true) (makes.values_are number_option) (makes.values_are size_option))
