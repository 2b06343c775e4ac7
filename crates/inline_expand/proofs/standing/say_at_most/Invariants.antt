use Rattle.std.proofs.Common.{◌+◌, ◌*◌, ◌≤◌}
use Rattle.class_tree.specs.Headers.{headers_of}
use Rattle.inline_expand.proofs.StandingParts.{IsSaidOfRest}
use Rattle.inline_expand.proofs.standing.say_at_most.Given as goal

abbrev pub invariant-loop-type_ : goal.invariant-loop-type_
invariant-loop-type_ l = IsSaidOfRest (headers_of l.tree) l.types l.locals l.from l.type_-index l.unit × (l.unit ≤ 1 + 2 * l.type_-index)
