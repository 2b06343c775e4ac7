use Rattle.std.proofs.Common.{◌<◌, ◌≤◌, length, arith}
use Rattle.virtual_state.proofs.Marking.{marked_both}
use Rattle.virtual_state.proofs.Spreading.{spreading_begins, spreading_goes_on, spreading_ends}
use Rattle.virtual_state.proofs.spread.spread.Goals as goal

pub loop-at-init : goal.loop-at-init
loop-at-init c = spreading_begins c.args.sites.now c.args.one.now c.args.other.now

pub loop-at-preserved : goal.loop-at-preserved
loop-at-preserved c =
    let low : c.loop-at.at < length c.loop-at.sites = omega arith in
    let both = marked_both c.in_ok-mark_fields.ensures c.in_ok-mark_fields-2.ensures in
    spreading_goes_on c.args.sites.now c.args.one.now c.args.other.now c.loop-at.at c.get-site.result c.loop-at.sites c.mark_fields-in-loop-at.new.sites c.loop-at.invariant low c.get-site.ensures both

pub returns : goal.returns
returns c =
    let past : length c.loop-at.sites ≤ c.loop-at.at = omega arith in
    spreading_ends c.args.sites.now c.args.one.now c.args.other.now c.loop-at.at c.loop-at.sites c.loop-at.invariant past
