use Rattle.std.proofs.Common.{sym, arith}
use Rattle.std.proofs.lemmas.Bool.{lt-leb}
use Rattle.code_layout.specs.Layout.{end_from, short_spelled}
use Rattle.code_layout.proofs.Steps.{end-below, item-is}
use Rattle.code_layout.proofs.places.is_short.Goals as goal

pub returns-then-at-gt-MAX_SHORT : goal.returns-then-at-gt-MAX_SHORT
returns-then-at-gt-MAX_SHORT c =
    let items = c.args.items.now in
    let i = c.loop-item.item-index in
    let is = item-is items i c.item-item.result (omega arith) c.item-item.is in
    let below = end-below short_spelled items i c.item-item.result is c.loop-item.at (end_from short_spelled 0 items) c.loop-item.invariant.0 in
    sym (lt-leb (end_from short_spelled 0 items) 32767 (omega (arith, below)))
