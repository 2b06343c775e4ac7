-- A frame is read as its first byte says.
use Rattle.std.proofs.Common.{arith}
use Rattle.std.proofs.lemmas.Result.{err_from_is_err_and}
use Rattle.map_frames.specs.Inner.Settings.{setting_of}
use Rattle.map_frames.proofs.FrameForms.{Begins, item_reads, item_fails, extended_reads, extended_fails, chop_kind, append_kind, full_kind, states_same}
use Rattle.map_frames.proofs.walk.Walk.stated.Goals as goal
use Rattle.map_frames.proofs.walk.Walk.stated.Goals.{In_ok-kind}

begins : (c : In_ok-kind) → Begins c.args.self.now.rest c.args.place c.in_ok-kind.kind c.u1.new.self
begins c = record { read = c.in_ok-kind.ensures; place_is = c.requires }

pub returns-in_err-stack-in-64-to-127-clause-stated :
    goal.returns-in_err-stack-in-64-to-127-clause-stated
returns-in_err-stack-in-64-to-127-clause-stated c =
    let b = begins (goal.at.returns-in_err-stack-in-64-to-127-clause-stated c).In_ok-kind in
    let p = err_from_is_err_and c.from_residual-in_err-stack-in-64-to-127.result c.from_residual-in_err-stack-in-64-to-127.ensures.1 in
    rw (p.1, p.2) (item_fails (setting_of c.args.context.now) c.args.self.now.locals _ _ _ _ b (omega arith) (omega arith) c.item-in-64-to-127.new.rest c.in_err-stack-in-64-to-127.field-0.0 c.in_err-stack-in-64-to-127.ensures)

pub returns-in_ok-stack-in-64-to-127-clause-stated :
    goal.returns-in_ok-stack-in-64-to-127-clause-stated
returns-in_ok-stack-in-64-to-127-clause-stated c =
    let b = begins (goal.at.returns-in_ok-stack-in-64-to-127-clause-stated c).In_ok-kind in
    rw c.from-in-64-to-127.ensures (item_reads (setting_of c.args.context.now) c.args.self.now.locals _ _ _ _ b (omega arith) (omega arith) _ _ c.in_ok-stack-in-64-to-127.ensures)

pub returns-in_err-stack-in-247-clause-stated : goal.returns-in_err-stack-in-247-clause-stated
returns-in_err-stack-in-247-clause-stated c =
    let b = begins (goal.at.returns-in_err-stack-in-247-clause-stated c).In_ok-kind in
    let p = err_from_is_err_and c.from_residual-in_err-stack-in-247.result c.from_residual-in_err-stack-in-247.ensures.1 in
    rw (p.1, p.2) (extended_fails (setting_of c.args.context.now) c.args.self.now.locals _ _ _ _ b c.in-247.is _ _ c.item.new.rest c.in_err-stack-in-247.field-0.0 c.in_ok-delta-in-247.ensures c.in_err-stack-in-247.ensures)

pub returns-in_ok-stack-in-247-clause-stated : goal.returns-in_ok-stack-in-247-clause-stated
returns-in_ok-stack-in-247-clause-stated c =
    let b = begins (goal.at.returns-in_ok-stack-in-247-clause-stated c).In_ok-kind in
    extended_reads (setting_of c.args.context.now) c.args.self.now.locals _ _ _ _ b c.in-247.is _ _ _ _ c.in_ok-delta-in-247.ensures c.in_ok-stack-in-247.ensures

pub returns-in-248-to-250-clause-stated : goal.returns-in-248-to-250-clause-stated
returns-in-248-to-250-clause-stated c =
    let b = begins (goal.at.returns-in-248-to-250-clause-stated c).In_ok-kind in
    states_same _ _ _ _ c.chop.result (chop_kind (setting_of c.args.context.now) c.args.self.now.locals _ _ _ _ b (omega arith) (omega arith)) c.chop.ensures.stated

pub returns-in-252-to-254-clause-stated : goal.returns-in-252-to-254-clause-stated
returns-in-252-to-254-clause-stated c =
    let b = begins (goal.at.returns-in-252-to-254-clause-stated c).In_ok-kind in
    states_same _ _ _ _ c.append.result (append_kind (setting_of c.args.context.now) c.args.self.now.locals _ _ _ _ b (omega arith) (omega arith)) c.append.ensures.stated

pub returns-in-255-clause-stated : goal.returns-in-255-clause-stated
returns-in-255-clause-stated c =
    let b = begins (goal.at.returns-in-255-clause-stated c).In_ok-kind in
    states_same _ _ _ _ c.full.result (full_kind (setting_of c.args.context.now) c.args.self.now.locals _ _ _ _ b c.in-255.is) c.full.ensures.stated
