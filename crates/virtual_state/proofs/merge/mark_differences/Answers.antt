use Rattle.std.proofs.Common.{◌<◌, ◌≤◌, length, arith}
use Rattle.virtual_state.proofs.Agreeing.{differences_all, differences_more, same_len, same_unusable}
use Rattle.virtual_state.proofs.merge.mark_differences.Goals as goal

pub mark_pair-requires : goal.mark_pair-requires
mark_pair-requires c = same_unusable c.args.slots.now c.args.others.now c.loop-at.at c.requires

pub loop-at-preserved : goal.loop-at-preserved
loop-at-preserved c =
    let low : c.loop-at.at < length c.args.slots.now = omega arith in
    let also : c.loop-at.at < length c.args.others.now = omega (arith, same_len c.args.slots.now c.args.others.now c.requires) in
    differences_more c.args.away.now c.loop-at.away c.mark_pair.new.away c.args.slots.now c.args.others.now c.loop-at.at low also c.loop-at.invariant c.in_ok-mark_pair.ensures

pub returns : goal.returns
returns c =
    let past : length c.args.slots.now ≤ c.loop-at.at = omega arith in
    let also : length c.args.others.now ≤ c.loop-at.at = omega (arith, same_len c.args.slots.now c.args.others.now c.requires) in
    differences_all c.args.away.now c.loop-at.away c.args.slots.now c.args.others.now c.loop-at.at past also c.loop-at.invariant
