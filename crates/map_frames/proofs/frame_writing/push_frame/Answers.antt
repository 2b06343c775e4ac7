use Rattle.class_model.specs.Frames.{entries_of_units}
use Rattle.map_frames.specs.Inner.Listing.{listed_of}
use Rattle.map_frames.specs.Writing.{FitsType, Same, SameItem, SameItemExtended, Chop, SameExtended, Append, Full}
use Rattle.map_frames.proofs.FramesWritten.{is_written, then_appended}
use Rattle.map_frames.proofs.KindsRead.{all_behind}
use Rattle.map_frames.proofs.frame_writing.push_frame.Goals as goal

pub push_entries-requires : goal.push_entries-requires
push_entries-requires c =
    all_behind (FitsType c.args.classes.now) c.behind_common.ensures.common (entries_of_units c.behind_common.result.1.now) (rw c.behind_common.ensures.locals_is at c.requires.locals)

pub returns-in-Same : goal.returns-in-Same
returns-in-Same c =
    is_written c.args.classes.now _ (listed_of c.args.frame.now) _ _ c.behind_common.ensures _ _ c.count_entries.ensures c.count_entries-2.ensures Same c.in-Same.ensures.first
    _ c.args.out.now.items _ c.push_byte.ensures

pub returns-in_ok-push_byte-in-SameItem : goal.returns-in_ok-push_byte-in-SameItem
returns-in_ok-push_byte-in-SameItem c =
    is_written c.args.classes.now _ (listed_of c.args.frame.now) _ _ c.behind_common.ensures _ _ c.count_entries.ensures c.count_entries-2.ensures SameItem c.in-SameItem.ensures.first
    _ c.args.out.now.items _ (then_appended _ c.args.out.now.items _ _ _ _ c.in_ok-push_byte-in-SameItem.ensures c.push_types.ensures)

pub returns-in_ok-push_front-in-SameItemExtended : goal.returns-in_ok-push_front-in-SameItemExtended
returns-in_ok-push_front-in-SameItemExtended c =
    is_written c.args.classes.now _ (listed_of c.args.frame.now) _ _ c.behind_common.ensures _ _ c.count_entries.ensures c.count_entries-2.ensures SameItemExtended c.in-SameItemExtended.ensures.first
    _ c.args.out.now.items _ (then_appended _ c.args.out.now.items _ _ _ _ c.in_ok-push_front-in-SameItemExtended.ensures c.push_types-in-SameItemExtended.ensures)

pub returns-in-Chop : goal.returns-in-Chop
returns-in-Chop c =
    is_written c.args.classes.now _ (listed_of c.args.frame.now) _ _ c.behind_common.ensures _ _ c.count_entries.ensures c.count_entries-2.ensures Chop c.in-Chop.ensures.first
    _ c.args.out.now.items _ c.push_front-in-Chop.ensures

pub returns-in-SameExtended : goal.returns-in-SameExtended
returns-in-SameExtended c =
    is_written c.args.classes.now _ (listed_of c.args.frame.now) _ _ c.behind_common.ensures _ _ c.count_entries.ensures c.count_entries-2.ensures SameExtended c.in-SameExtended.ensures.first
    _ c.args.out.now.items _ c.push_front-in-SameExtended.ensures

pub returns-in_ok-push_front-in-Append : goal.returns-in_ok-push_front-in-Append
returns-in_ok-push_front-in-Append c =
    is_written c.args.classes.now _ (listed_of c.args.frame.now) _ _ c.behind_common.ensures _ _ c.count_entries.ensures c.count_entries-2.ensures Append c.in-Append.ensures.first
    _ c.args.out.now.items _ (then_appended _ c.args.out.now.items _ _ _ _ c.in_ok-push_front-in-Append.ensures c.push_entries.ensures)

pub returns-in-Full : goal.returns-in-Full
returns-in-Full c =
    is_written c.args.classes.now _ (listed_of c.args.frame.now) _ _ c.behind_common.ensures _ _ c.count_entries.ensures c.count_entries-2.ensures Full c.in-Full.ensures.first
    _ c.args.out.now.items _ c.push_full.ensures
