use Rattle.std.proofs.Common.{◌≡◌, Err, ap}
use Rattle.flow_code.specs.declared.reason.Reason.TheVariants.{PoolFull}
use Rattle.materialise.proofs.ConstantLaws.{added_grows, added_index, past_is_full}
use Rattle.materialise.proofs.constants.add.Goals as goal
use Rattle.pool_edit.specs.Edits.{Continues}

pub returns-in-Ok-clause-ok : goal.returns-in-Ok-clause-ok
returns-in-Ok-clause-ok c = λ need means.
    added_grows c.constants_compare_by_value.ensures c.args.pool.now c.add.new.self need c.args.value c.in-Ok.index means c.in-Ok.ensures.ok c.in-Ok.ensures.index

pub returns-in-Ok-clause-index : goal.returns-in-Ok-clause-index
returns-in-Ok-clause-index c = λ need means.
    let laws = c.an_edit_goes_back_to_what_it_was.ensures in
    let so_far : Continues c.args.pool.now c.add.new.self = laws.onwards c.args.pool.now c.args.pool.now c.add.new.self c.args.value (laws.itself c.args.pool.now) c.in-Ok.ensures.ok in
    added_index c.constants_compare_by_value.ensures c.args.pool.now c.add.new.self need c.args.value c.in-Ok.index means so_far c.in-Ok.ensures.index

pub returns-in-Err-PoolFull-clause-full : goal.returns-in-Err-PoolFull-clause-full
returns-in-Err-PoolFull-clause-full c = λ reason is need means.
    let same : reason ≡ PoolFull = cc in
    past_is_full c.constants_compare_by_value.ensures c.args.pool.now need c.args.value reason means (c.in-Err-PoolFull.ensures.full (ap Err c.in-Err-PoolFull.field-0-is)) same
