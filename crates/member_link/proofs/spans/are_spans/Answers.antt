use Rattle.std.proofs.Common.{length, ap, arith}
use Rattle.std.proofs.lemmas.List.{length-map}
use Rattle.std.proofs.lemmas.Option.{slice_get_within}
use Rattle.class_model.specs.Header.{header_of}
use Rattle.class_tree.specs.Headers.{headers_of}
use Rattle.member_link.specs.Inner.Spans.{IsSpan}
use Rattle.member_link.proofs.SpannedClasses.{one_more}
use Rattle.member_link.proofs.spans.are_spans.Goals as goal

pub loop-index-init : goal.loop-index-init
loop-index-init c = λ index none. absurd (omega (arith, none))

pub loop-index-preserved : goal.loop-index-preserved
loop-index-preserved c = one_more (IsSpan (headers_of c.args.tree.now) c.args.spans.now) c.loop-index.index c.loop-index.invariant (c.is_span.ensures c.if-not-is_span.false)

pub returns : goal.returns
returns c = λ yes. record {
  each = λ index header at.
      let folder = (headers_of c.args.tree.now).folder in
      let within = slice_get_within folder index header at in
      c.loop-index.invariant index (omega (arith, within, c.loop-index-test.false, c.len-index-end.ensures, ap length c.folder.ensures.same, length-map c.args.tree.now.folder header_of));
}
