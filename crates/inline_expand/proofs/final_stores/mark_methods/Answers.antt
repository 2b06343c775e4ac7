use Rattle.code_bytes.specs.Codes.{IsReadMethod}
use Rattle.inline_expand.proofs.AllLeft.{item_passes}
use Rattle.inline_expand.proofs.Marks.{any_all, any_more, any_none}
use Rattle.inline_expand.specs.Inner.StoreWords.{stores_into}
use Rattle.inline_expand.proofs.final_stores.mark_methods.Goals as goal

pub loop-method-init : goal.loop-method-init
loop-method-init c = λ count test are. any_none (stores_into c.args.class.now c.args.of_initialisers) c.args.marks.now count test c.args.methods.now are

pub mark_method-requires : goal.mark_method-requires
mark_method-requires c =
    item_passes (IsReadMethod c.args.class.now.pool) c.args.methods.now c.loop-method.method-index c.method-item.result c.loop-method-test.true c.method-item.is c.requires

pub loop-method-preserved : goal.loop-method-preserved
loop-method-preserved c = λ count test are.
    any_more (stores_into c.args.class.now c.args.of_initialisers) c.mark_method.new.marks count test c.args.methods.now c.loop-method.method-index c.method-item.result c.loop-method-test.true c.method-item.is
    (c.in_ok-mark_method.ensures count _ (c.loop-method.invariant count test are))

pub returns : goal.returns
returns c = λ count test are.
    any_all (stores_into c.args.class.now c.args.of_initialisers) c.loop-method.marks count test c.args.methods.now c.loop-method.method-index c.loop-method-test.false (c.loop-method.invariant count test are)
