use Rattle.std.proofs.Common.{◌≡◌, ◌≤◌, ◌<◌, ◌+◌, ◌∙◌, ℕ, List, ◌∷◌, get_or, length, drop, sym, ap, arith, length-append}
use Rattle.std.proofs.lemmas.List.{at_drop_more, drop_all}
use Rattle.std.specs.List.{flat_map}
use Rattle.class_model.specs.Spelling.{inner_bytes}
use Rattle.class_model.specs.declared.class_file.InnerAttr.{InnerAttr}
use Rattle.class_rewrite.specs.Laws.OneLength.{handlers_len, inners_len, part_len}
use Rattle.class_rewrite.proofs.written_part.part_len.Goals as goal

pub loop-attr-init : goal.loop-attr-init
loop-attr-init c =
    let all = part_len c.args.part.now in
    let handlers = handlers_len c.args.part.now.handlers in
    let code = c.len-2.ensures in
    let table = c.len.ensures in
    let eight = c.saturating_mul-handlers.ensures in
    let more = c.saturating_add.ensures in
    let last = c.saturating_add-len.ensures in
    let attrs : inners_len c.as_slice-attr-items.result.now ≡ inners_len c.args.part.now.attrs =
    ap (λ (list : List InnerAttr). inners_len list) c.as_slice-attr-items.ensures in
    (omega (arith, last), omega (arith, all, handlers, code, table, eight, more, last, attrs))

step : (items : List InnerAttr) (i : ℕ) (item : InnerAttr) → i < length items → item ≡ get_or items i item
    → inners_len (drop i items) ≡ 6 + length item.bytes + inners_len (drop (i + 1) items)
step items i item within is =
    let first = at_drop_more inners_len items i item within ∙ ap (λ (one : InnerAttr). inners_len (one ∷ drop (i + 1) items)) (sym is) in
    omega (arith, first, length-append item.bytes (flat_map inner_bytes (drop (i + 1) items)))

done : (items : List InnerAttr) (i : ℕ) → length items ≤ i → inners_len (drop i items) ≡ 0
done items i past = ap (λ (list : List InnerAttr). inners_len list) (drop_all i items past)

pub loop-attr-preserved : goal.loop-attr-preserved
loop-attr-preserved c =
    let next = step c.as_slice-attr-items.result.now c.loop-attr.attr-index c.attr-item.result c.loop-attr-test.true c.attr-item.is in
    let bytes = c.len-in-loop-attr.ensures in
    let six = c.saturating_add-in-loop-attr.ensures in
    let more = c.saturating_add-len-in-loop-attr.ensures in
    let so_far = c.loop-attr.invariant.1 in
    (omega (arith, more), omega (arith, next, bytes, six, more, so_far))

pub returns : goal.returns
returns c =
    let none = done c.as_slice-attr-items.result.now c.loop-attr.attr-index c.loop-attr-test.false in
    omega (arith, none, c.loop-attr.invariant.0, c.loop-attr.invariant.1)
