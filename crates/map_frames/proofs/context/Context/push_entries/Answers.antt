use Rattle.std.proofs.lemmas.Result.{err_from_is_err_and}
use Rattle.map_frames.specs.Inner.Settings.{setting_of}
use Rattle.map_frames.proofs.EntriesRead.{read_more, read_fails, read_all}
use Rattle.map_frames.proofs.context.Context.push_entries.Goals as goal

pub returns-in_err-entry : goal.returns-in_err-entry
returns-in_err-entry c =
    let p = err_from_is_err_and c.from_residual.result c.from_residual.ensures.1 in
    rw (p.1, p.2) (read_fails (setting_of c.args.self.now) c.args.frame c.args.count c.args.rest.now c.args.entries.now c.loop.counter c.loop.entries c.loop.rest c.entry.new.rest c.in_err-entry.field-0.0 c.loop-test.true c.loop.invariant c.in_err-entry.ensures)

pub loop-preserved : goal.loop-preserved
loop-preserved c =
    read_more (setting_of c.args.self.now) c.args.frame c.args.count c.args.rest.now c.args.entries.now c.loop.counter c.loop.entries c.loop.rest c.in_ok-entry.field-0 c.push.new.self c.entry.new.rest c.loop-test.true c.loop.invariant c.in_ok-entry.ensures c.in_ok-push.ensures

pub returns : goal.returns
returns c =
    read_all (setting_of c.args.self.now) c.args.frame c.args.count c.args.rest.now c.args.entries.now c.loop.counter c.loop.entries c.loop.rest c.loop-test.false c.loop.invariant
