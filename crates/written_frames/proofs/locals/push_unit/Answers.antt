use Rattle.std.proofs.Common.{sym}
use Rattle.written_frames.proofs.OwnUnits.{listed_next}
use Rattle.written_frames.proofs.locals.push_unit.Goals as goal

pub returns : goal.returns
returns c =
    listed_next c.args.flat.now c.args.types.now c.args.state.now.slots c.args.at c.args.locals.now c.push.new.self c.in-Some-Some.of.now
    c.in_ok-type_of_slot.field-0 c.in-Some-Some.slot (sym c.in-Some-Some.ensures) (sym c.in-Some-Some.ensures') c.in_ok-type_of_slot.ensures
    c.in_ok-push.ensures.ok c.requires.before
