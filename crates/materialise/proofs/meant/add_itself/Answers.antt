use Rattle.making_code.specs.Constants.{needs_itself}
use Rattle.std.proofs.lemmas.Result.{on_ok_weaker}
use Rattle.materialise.proofs.ConstantLaws.{if_ok, itself_means, last_itself}
use Rattle.materialise.proofs.meant.add_itself.Goals as goal

pub returns-clause-ok : goal.returns-clause-ok
returns-clause-ok c =
    on_ok_weaker c.add.result (λ grows. grows (needs_itself c.args.value) (itself_means c.args.pool.now c.args.value)) c.add.ensures.ok

pub returns-clause-index : goal.returns-clause-index
returns-clause-index c =
    if_ok c.add.result
    (λ index known. last_itself c.add.new.pool c.args.value index (known (needs_itself c.args.value) (itself_means c.args.pool.now c.args.value)))
    c.add.ensures.index

pub returns-clause-full : goal.returns-clause-full
returns-clause-full c = λ reason is.
    c.add.ensures.full reason is (needs_itself c.args.value) (itself_means c.args.pool.now c.args.value)
