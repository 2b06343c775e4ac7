use Rattle.std.proofs.lemmas.Bool.{both_ways}
use Rattle.member_link.proofs.SweptMethods.{grows_put}
use Rattle.member_link.proofs.final_methods.raise.Goals as goal

pub returns-in_ok-insert-clause-grows : goal.returns-in_ok-insert-clause-grows
returns-in_ok-insert-clause-grows c =
    grows_put c.args.key c.args.end c.in_ok-insert.ensures.updates.0 (λ far. both_ways _ c.if-not-reaches.true (c.reaches.ensures.1 far))
