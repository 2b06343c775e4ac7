use Rattle.std.proofs.Common.{◌<◌, ℕ}
use Rattle.class_tree.specs.Headers.{headers_of}
use Rattle.member_link.specs.Inner.Spans.{IsSpan}
use Rattle.member_link.proofs.spans.are_spans.Given as goal

abbrev pub invariant-loop-index : goal.invariant-loop-index
invariant-loop-index l = (index : ℕ) → index < l.index → IsSpan (headers_of l.tree) l.spans index
