use Rattle.std.proofs.Common.{◌+◌, sym, ◌∙◌, arith}
use Rattle.std.proofs.lemmas.Result.{on_ok_weaker}
use Rattle.inline_expand.proofs.Overlays.{put-push, put-set}
use Rattle.inline_expand.proofs.expanded.frames.put.Goals as goal

pub push-requires : goal.push-requires
push-requires c = omega (arith, c.requires, c.if-at-saturating_sub.false, c.saturating_sub.ensures, c.len.ensures)

pub returns-then-at-saturating_sub : goal.returns-then-at-saturating_sub
returns-then-at-saturating_sub c =
    on_ok_weaker c.set.result (λ set. set ∙ sym (put-set c.args.list.now (c.args.unit + c.args.at) c.args.type_ (omega (arith, c.if-at-saturating_sub.true, c.saturating_sub.ensures, c.len.ensures)))) c.set.ensures.ok

pub returns-else-at-saturating_sub : goal.returns-else-at-saturating_sub
returns-else-at-saturating_sub c =
    on_ok_weaker c.push.result (λ pushed. pushed ∙ sym (put-push c.args.list.now (c.args.unit + c.args.at) c.args.type_ (omega (arith, c.if-at-saturating_sub.false, c.saturating_sub.ensures, c.len.ensures)))) c.push.ensures.ok
