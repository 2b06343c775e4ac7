use Rattle.std.proofs.Common.{ap, ◌∙◌, arith}
use Rattle.class_model.specs.OffsetIndexes.{number_in}
use Rattle.expanded_code.specs.Alone.{number_at}
use Rattle.inline_expand.proofs.HostCodes.{number-few, number-none, number-there}
use Rattle.inline_expand.proofs.host.Host.number.Goals as goal
use Rattle.member_link.specs.Scope.{Scope}

pub overflow_cast-result : goal.overflow_cast-result
overflow_cast-result c =
    let below = number-few _ c.self.inside.instrs c.self.inside.index c.self.invariant c.args.at c.in-Some.number
    (c.in-Some.ensures ∙ ap (number_in c.self.inside.index) c.from.ensures) in
    omega (arith, below)

pub returns-in-Some : goal.returns-in-Some
returns-in-Some c =
    number-there _ c.self.inside.instrs c.self.inside.index c.self.invariant c.args.at c.in-Some.number
    (c.in-Some.ensures ∙ ap (number_in c.self.inside.index) c.from.ensures)
    ∙ ap (λ (s : Scope). number_at s c.args.at) c.self.view_is

pub returns-in-None : goal.returns-in-None
returns-in-None c =
    c.len.ensures
    ∙ (number-none _ c.self.inside.instrs c.self.inside.index c.self.invariant c.args.at
    (c.in-None.ensures ∙ ap (number_in c.self.inside.index) c.from.ensures)
    ∙ ap (λ (s : Scope). number_at s c.args.at) c.self.view_is)
