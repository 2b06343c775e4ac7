use Rattle.std.proofs.Common.{subst}
use Rattle.member_link.proofs.AlikeConstants.{carried}
use Rattle.member_link.proofs.resolver.Resolver.known_of_alike.Goals as goal
use Rattle.member_link.specs.Inner.AlikeConstants.{AreAlike}
use Rattle.member_link.specs.Inner.Resolving.{Resolved}

pub returns-then-is_alike : goal.returns-then-is_alike
returns-then-is_alike c =
    let one = c.in_ok-guessed.guessed.now in
    let two = c.in_ok-constant.constant.now in
    let alike = subst (λ (own : Resolved). AreAlike own.pool one two) c.self.view_is (c.is_alike.ensures c.if-is_alike.true) in
    carried c.args.self.now c.in_ok-guess.field-0.now c.args.index one two c.known.result c.in_ok-guessed.ensures c.in_ok-constant.ensures alike c.known.ensures
