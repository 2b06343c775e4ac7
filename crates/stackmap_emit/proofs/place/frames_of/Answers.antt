use Rattle.std.proofs.Common.{length, sym, subst}
use Rattle.std.specs.Option.{option_copied}
use Rattle.std.proofs.lemmas.Result.{IfOk-weaker}
use Rattle.stackmap_emit.proofs.PlacedItems.{HasTables, are_placed}
use Rattle.stackmap_emit.proofs.place.frames_of.Goals as goal
use Rattle.stackmap_emit.specs.Inner.BlockTables.{form_number}
use Rattle.stackmap_emit.specs.Inner.Marks.{AreLed}
use Rattle.stackmap_emit.specs.Inner.Walking.{IsWalk, Reads, reads}

pub returns : goal.returns
returns c =
    let code = c.args.code.now in
    let items = c.args.items.now in
    let walk : Reads = reads code.pool.now code.own.now c.in_ok-blocks.blocks c.as_slice.result.now c.args.offsets.now in
    let place = form_number (option_copied c.args.numbers) (length items) in
    let tables : HasTables walk code.flat.now items place code.starts.now = record {
      led = subst (AreLed items) (sym c.as_slice.ensures.value) c.in_ok-led.ensures;
      flat_is = c.in_ok-blocks.ensures.flat;
      end = c.in_ok-blocks.ensures.end;
      blocks = c.in_ok-blocks.ensures.items;
      points = c.in_ok-blocks.ensures.points;
    } in
    IfOk-weaker c.walked.result (IsWalk walk code.entry.now items) _
    (λ made walked. λ host form blocks own begins many are.
    are_placed walk host code.flat.now form blocks items place code.starts.now code.entry.now made tables many are own begins walked)
    c.walked.ensures
