use Rattle.std.proofs.Common.{rules, arith, ◌≡◌, true, false, drop, slice_get, Some, sym, ap, ◌∙◌}
use Rattle.std.proofs.lemmas.Grind.{common_steps}
use Rattle.std.proofs.lemmas.Option.{slice_get-get_or}
use Rattle.code_drafts.proofs.EndLaws.{comes_on}
use Rattle.code_drafts.proofs.finishing.comes_to.Goals as goal
use Rattle.code_drafts.specs.Drafts.{kind_of}
use Rattle.code_drafts.specs.Inner.Ends.{is_silent}
use Rattle.plan_flow.specs.Written.Finish.{begins_point}

pub loop-at-preserved : goal.loop-at-preserved
loop-at-preserved c =
    let blocks = c.args.blocks.now in
    let ends = c.args.ends.now in
    let at = c.loop-at.at in
    let block = c.index-blocks-at.result in
    let is : slice_get blocks at ≡ Some block = slice_get-get_or blocks at block c.loop-at-test.true ∙ ap Some (sym c.index-blocks-at.is) in
    let apart : begins_point c.args.to (kind_of block.of) ≡ false = first_of (search rules, grind (arith, common_steps)) in
    let silent : is_silent block.count (drop at ends) ≡ true = first_of (search rules, grind (arith, common_steps)) in
    comes_on c.args.to blocks ends at block is apart silent ∙ c.loop-at.invariant
