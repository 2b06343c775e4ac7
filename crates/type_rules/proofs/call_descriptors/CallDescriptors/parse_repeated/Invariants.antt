use Rattle.std.proofs.Common.{◌≡◌}
use Rattle.type_rules.proofs.call_descriptors.CallDescriptors.parse_repeated.Given as goal

abbrev pub invariant-loop-text : goal.invariant-loop-text
invariant-loop-text l = l.self ≡ l.fn.self
