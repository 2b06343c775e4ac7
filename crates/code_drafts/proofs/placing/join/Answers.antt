use Rattle.std.proofs.Common.{arith, ◌≡◌, Bool, get_or, slice_get, Some, sym, ap, subst, ◌∙◌}
use Rattle.std.proofs.lemmas.Option.{slice_get-get_or}
use Rattle.std.specs.Vec.Iter.{into_iter_items}
use Rattle.code_drafts.proofs.JoinLaws.{block_joined}
use Rattle.code_drafts.proofs.placing.join.Goals as goal
use Rattle.code_drafts.specs.Inner.Parts.{JoinsPart, parts_of}
use Rattle.code_drafts.specs.declared.finishing.DraftEnd.TheVariants.{Nothing}

pub loop-at-preserved : goal.loop-at-preserved
loop-at-preserved c =
    let blocks = c.args.blocks.now in
    let ends = c.args.ends.now in
    let at = c.loop-at.at in
    let block = c.index-blocks-at.result in
    let end = get_or ends at Nothing in
    let left = into_iter_items c.loop-at.left in
    let is : slice_get blocks at ≡ Some block = slice_get-get_or blocks at block c.loop-at-test.true ∙ ap Some (sym c.index-blocks-at.is) in
    let ends_so : slice_get ends at ≡ Some end = slice_get-get_or ends at Nothing (omega (arith, c.loop-at-test.true, c.requires.as_many)) in
    block_joined (parts_of blocks ends c.args.items.items) blocks ends at block end left (into_iter_items c.join_block.new.left) c.loop-at.joined
    c.join_block.new.joined
    is ends_so c.loop-at.invariant
    (subst (λ (fits : Bool). JoinsPart block end left (into_iter_items c.join_block.new.left) c.loop-at.joined c.join_block.new.joined fits)
    c.if-not-fits.false c.in_ok-fits.ensures)
