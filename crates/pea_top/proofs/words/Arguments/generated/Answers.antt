use Rattle.std.proofs.Common.{sym, ◌∙◌}
use Rattle.std.specs.Prelude.{codes}
use Rattle.pea_top.specs.Words.{lib_option, number_option, size_option, steps_option}
use Rattle.pea_top.proofs.WordGrammar.{makes_none, no_number, no_value, other_number}
use Rattle.pea_top.proofs.words.Arguments.generated.Goals as goal
use Rattle.pea_top.proofs.words.Arguments.generated.Goals.{then-is_some-via-then-is_some, then-is_some-via-else-is_some+then-is_some-2}

pub returns-then-is_some-clause-none : goal.returns-then-is_some-clause-none
returns-then-is_some-clause-none c = makes_none c.args.self (codes "gen") (λ makes. elim c.then-is_some.branch [
  | then-is_some-via-then-is_some w ↦ no_value c.args.self.library (sym c.is_some.ensures ∙ w.if-is_some.true) (makes.values_are lib_option)
  | then-is_some-via-else-is_some+then-is_some-2 w ↦ no_value c.args.self.steps (sym w.is_some-else-is_some.ensures ∙ w.if-is_some-2.true) (makes.values_are steps_option)
])

pub returns-in_err-self-clause-none : goal.returns-in_err-self-clause-none
returns-in_err-self-clause-none c = rw c.from_residual.ensures (makes_none c.args.self (codes "gen") (λ makes. no_number c.args.self.number _ _ _ c.in_err-self.was (makes.values_are number_option)))

pub returns-in_err-number-clause-none : goal.returns-in_err-number-clause-none
returns-in_err-number-clause-none c =
    rw c.from_residual-in_err-number.ensures
    (makes_none c.args.self (codes "gen") (λ makes. other_number c.args.self.number c.in_ok-self.field-0 0 2147483647 c.in_ok-self.was c.in_err-number.ensures.none _ (makes.values_are number_option)))

pub returns-in_err-self-2-clause-none : goal.returns-in_err-self-2-clause-none
returns-in_err-self-2-clause-none c = rw c.from_residual-in_err-self-2.ensures (makes_none c.args.self (codes "gen") (λ makes. no_number c.args.self.size _ _ _ c.in_err-self-2.was (makes.values_are size_option)))

pub returns-in_err-size-clause-none : goal.returns-in_err-size-clause-none
returns-in_err-size-clause-none c =
    rw c.from_residual-in_err-size.ensures
    (makes_none c.args.self (codes "gen") (λ makes. other_number c.args.self.size c.in_ok-self-2.field-0 1 1000 c.in_ok-self-2.was c.in_err-size.ensures.none _ (makes.values_are size_option)))
