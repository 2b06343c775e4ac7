use Rattle.std.proofs.Common.{◌+◌, Option, Some, drop, ap, ◌∙◌, sym, subst, arith, Vec, Global}
use Rattle.std.specs.Borrow.{Bor}
use Rattle.std.specs.Option.{option_copied}
use Rattle.std.proofs.lemmas.Option.{slice_get-get_or}
use Rattle.class_model.specs.Laws.Lists.{drop_item}
use Rattle.stackmap_emit.proofs.FilledTables.{filled_here, filled_past}
use Rattle.stackmap_emit.proofs.blocks.blocks_by_item.Goals.{else-item-len, then-item-len}
use Rattle.stackmap_emit.proofs.blocks.blocks_by_item.Goals as goal
use Rattle.stackmap_emit.specs.Inner.BlockTables.{AreFilled, form_number}
use Rattle.written_frames.specs.declared.starts.BlockStart.{BlockStart}

abbrev Blocks : Type 0
Blocks = Vec (Option (Bor BlockStart)) Global

pub loop-start-preserved : goal.loop-start-preserved
loop-start-preserved c =
    let starts = c.args.starts.now in
    let index = c.loop-start.start-index in
    let place = form_number (option_copied c.args.numbers) c.args.end in
    let start = c.start-item.result in
    let is = slice_get-get_or starts index start c.loop-start-test.true ∙ ap (λ (one : BlockStart). Some one) (sym c.start-item.is) in
    let left = drop_item starts index start is in
    elim c.if-item-len.branch [
      | then-item-len w ↦
          filled_here place c.args.end starts (drop index starts) (drop (index + 1) starts) c.loop-start.blocks.items c.if-item-len.blocks.items _ c.form_number-item.result
          left c.form_number-item.ensures (omega (arith, w.if-item-len.true, c.len.ensures)) (ap (λ (table : Blocks). table.items) w.blocks-is) c.loop-start.invariant
      | else-item-len w ↦
          subst (λ (table : Blocks). AreFilled place c.args.end starts (drop (index + 1) starts) table.items) (sym w.blocks-is)
          (filled_past place c.args.end starts (drop index starts) (drop (index + 1) starts) c.loop-start.blocks.items start left
          (omega (arith, w.if-item-len.false, c.len.ensures, c.form_number-item.ensures)) c.loop-start.invariant)
    ]
