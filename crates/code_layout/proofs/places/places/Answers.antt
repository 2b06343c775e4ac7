use Rattle.std.proofs.Common.{arith}
use Rattle.code_layout.specs.Inner.Writing.{spelled_in}
use Rattle.code_layout.specs.Layout.{end_from}
use Rattle.code_layout.proofs.Steps.{end-below, item-is}
use Rattle.code_layout.proofs.places.places.Goals as goal

pub returns-then-at-most : goal.returns-then-at-most
returns-then-at-most c =
    let items = c.args.items.now in
    let i = c.loop-item.item-index in
    let spelled = spelled_in c.args.form in
    let is = item-is items i c.item-item.result (omega arith) c.item-item.is in
    let below = end-below spelled items i c.item-item.result is c.loop-item.at (end_from spelled 0 items) c.loop-item.invariant.1 in
    omega (arith, below)
