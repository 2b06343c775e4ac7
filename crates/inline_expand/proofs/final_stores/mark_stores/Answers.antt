use Rattle.inline_expand.proofs.Marks.{any_all, any_more, any_none}
use Rattle.inline_expand.specs.Inner.StoreWords.{is_store}
use Rattle.inline_expand.proofs.final_stores.mark_stores.Goals as goal

pub loop-placed-init : goal.loop-placed-init
loop-placed-init c = λ count test are. any_none is_store c.args.marks.now count test c.args.instrs.now are

pub loop-placed-preserved : goal.loop-placed-preserved
loop-placed-preserved c = λ count test are.
    any_more is_store c.mark_store.new.marks count test c.args.instrs.now c.loop-placed.placed-index c.placed-item.result c.loop-placed-test.true c.placed-item.is
    (c.mark_store.ensures count _ (c.loop-placed.invariant count test are))

pub returns : goal.returns
returns c = λ count test are.
    any_all is_store c.loop-placed.marks count test c.args.instrs.now c.loop-placed.placed-index c.loop-placed-test.false (c.loop-placed.invariant count test are)
