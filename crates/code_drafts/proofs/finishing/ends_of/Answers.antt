use Rattle.std.proofs.Common.{arith, ◌≡◌, ◌+◌, ◌-◌, List, drop, subst}
use Rattle.std.proofs.lemmas.List.{length-set}
use Rattle.code_drafts.proofs.EndLaws.{ends_more}
use Rattle.code_drafts.proofs.finishing.ends_of.Goals as goal
use Rattle.code_drafts.specs.Inner.Ends.{draft_end}
use Rattle.code_drafts.specs.declared.finishing.DraftEnd.{DraftEnd}
use Rattle.flow_code.specs.FlatCode.{FlatCode}

pub loop-at-preserved : goal.loop-at-preserved
loop-at-preserved c =
    let flat = c.args.flat.now in
    let blocks = c.args.blocks.now in
    let ends = c.loop-at.ends.items in
    let at = c.loop-at.at in
    let number = at - 1 in
    let end = c.in_ok-end.end in
    let next : at ≡ number + 1 = omega arith in (
      ends_more flat blocks ends at number end next c.loop-at.invariant.2 c.loop-at.invariant.1 c.loop-at.invariant.0
          (λ block is.
          subst (λ (f : FlatCode). end ≡ draft_end f block (drop (number + 1) blocks) (drop (number + 1) ends)) c.new-frames.ensures
          (subst (λ (list : List DraftEnd). end ≡ draft_end c.new-frames.result block (drop (number + 1) blocks) (drop (number + 1) list))
          c.as_slice.ensures.value
          (c.in_ok-end.ensures block is))),
      omega (arith, length-set ends number end, c.loop-at.invariant.1),
      omega (arith, c.loop-at.invariant.2),
    )
