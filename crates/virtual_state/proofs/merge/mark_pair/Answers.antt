use Rattle.std.proofs.Common.{sym, ◌∙◌}
use Rattle.virtual_state.proofs.Agreeing.{other_pair, same_pair}
use Rattle.virtual_state.proofs.Marking.{marked_both}
use Rattle.virtual_state.proofs.merge.mark_pair.Goals as goal

pub returns-then-is_same : goal.returns-then-is_same
returns-then-is_same c = same_pair c.args.away.now c.args.slot c.args.other (sym c.is_same.ensures ∙ c.if-is_same.true)

pub returns : goal.returns
returns c = other_pair c.args.away.now c.mark_slot-2.new.self c.args.slot c.args.other (sym c.is_same.ensures ∙ c.if-is_same.false) c.requires (marked_both c.in_ok-mark_slot.ensures c.in_ok-mark_slot-2.ensures)
