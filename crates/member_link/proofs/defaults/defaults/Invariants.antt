use Rattle.std.proofs.Common.{◌≡◌, Some, drop}
use Rattle.class_model.specs.declared.header.Header.{Header}
use Rattle.class_tree.specs.Headers.{headers_of}
use Rattle.class_tree.specs.Order.{header_at}
use Rattle.member_link.proofs.DefaultsSoFar.{IsSoFar}
use Rattle.member_link.proofs.defaults.defaults.Given as goal

abbrev pub invariant-loop-interface : goal.invariant-loop-interface
invariant-loop-interface l = (header : Header) → header_at (headers_of l.tree) l.class ≡ Some header → IsSoFar (headers_of l.tree) header.name l.name l.desc (drop l.interface-index l.interface-items) l.only
