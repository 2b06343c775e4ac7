use Rattle.std.proofs.Common.{rules}
use Rattle.std.proofs.lemmas.Bool.{both_ways}
use Rattle.class_tree.specs.Headers.{headers_of}
use Rattle.member_link.specs.SpecialStart.{at_named}
use Rattle.member_link.proofs.SpecialStarts.{start_at_superclass, no_superclass_above}
use Rattle.member_link.proofs.special.special_start.Goals as goal

pub returns-then-not-is_superclass_named : goal.returns-then-not-is_superclass_named
returns-then-not-is_superclass_named c = at_named (λ is. both_ways c.is_superclass_named.result c.if-not-is_superclass_named.true (c.is_superclass_named.ensures.1 is))

pub returns-in-Some : goal.returns-in-Some
returns-in-Some c =
    let named = c.is_superclass_named.ensures.0 c.if-not-is_superclass_named.false in
    start_at_superclass (headers_of c.args.tree.now) c.args.current.now c.args.named.now c.in-Some.start.now named (search rules)

pub returns-in-None : goal.returns-in-None
returns-in-None c =
    let named = c.is_superclass_named.ensures.0 c.if-not-is_superclass_named.false in
    absurd (no_superclass_above (headers_of c.args.tree.now) c.a_tree_is_a_hierarchy.ensures c.args.current.now c.args.named.now named (search rules))
