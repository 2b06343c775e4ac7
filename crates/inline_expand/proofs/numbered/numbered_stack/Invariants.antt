use Rattle.std.proofs.Common.{◌≡◌, map, take}
use Rattle.expanded_code.specs.Alone.{number_at, numbered_type}
use Rattle.inline_expand.proofs.numbered.numbered_stack.Given as goal

abbrev pub invariant-loop-type_ : goal.invariant-loop-type_
invariant-loop-type_ l = l.list.items ≡ map (numbered_type (number_at l.host)) (take l.type_-index l.stack)
