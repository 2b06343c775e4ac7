use Rattle.std.proofs.Common.{rules, ◌≡◌, ◌+◌, ◌<◌, length, map, take, slice_index_or, sym, subst, ap, ◌∙◌, arith}
use Rattle.std.specs.Vec.{vec_len}
use Rattle.std.proofs.lemmas.List.{get_or_default}
use Rattle.class_model.specs.OffsetIndexes.{IsIndexOf}
use Rattle.class_model.proofs.OffsetTables.{thing_written, thing_known}
use Rattle.class_model.proofs.offset_index.OffsetIndex.of.Goals as goal
use Rattle.class_model.proofs.offset_index.OffsetIndex.of.Goals.{then-index-eq0, else-index-eq0}

pub loop-thing-preserved : goal.loop-thing-preserved
loop-thing-preserved g c =
    let numbers = c.loop-thing.numbers.items in
    let number = c.loop-thing.thing-index in
    let things = c.args.things.now in
    let thing = c.thing-item.result in
    let offset = c.offset-at.result in
    let fits : offset < length numbers = search rules in
    let entry : slice_index_or numbers offset 0 ≡ c.index.result.now = get_or_default numbers offset 0 c.index.result.now fits ∙ sym c.index.ensures in
    let len : vec_len c.if-index-eq0.numbers ≡ c.unwrap_or-len.result = search rules in
    let counted : c.loop-thing.number + 1 ≡ number + 1 = ap (λ n. n + 1) c.loop-thing.invariant.1 in
    let indexed : IsIndexOf (take (number + 1) (map g.T.HasOffset.at things)) c.if-index-eq0.numbers.items = elim c.if-index-eq0.branch [
      | then-index-eq0 w ↦ subst (λ v. IsIndexOf (take (number + 1) (map g.T.HasOffset.at things)) v.items) (sym w.numbers-is)
          (thing_written g.T.HasOffset.at things numbers number thing c.loop-thing-test.true c.thing-item.is c.loop-thing.invariant.2 offset (c.loop-thing.number + 1) c.offset-at.ensures counted fits (entry ∙ w.if-index-eq0.true))
      | else-index-eq0 w ↦ subst (λ v. IsIndexOf (take (number + 1) (map g.T.HasOffset.at things)) v.items) (sym w.numbers-is)
          (thing_known g.T.HasOffset.at things numbers number thing c.loop-thing-test.true c.thing-item.is c.loop-thing.invariant.2 offset c.offset-at.ensures (λ e. w.if-index-eq0.false (sym entry ∙ e)))
    ] in
    (len, counted, indexed)
