use Rattle.std.proofs.lemmas.Result.{on_ok_weaker}
use Rattle.materialise.proofs.ConstantLaws.{text_means}
use Rattle.materialise.proofs.constants.add_text.Goals as goal
use Rattle.materialise.specs.Indices.{need_of_text}

pub returns-clause-ok : goal.returns-clause-ok
returns-clause-ok c =
    on_ok_weaker c.add.result (λ grows. grows (need_of_text c.args.text.now) (text_means c.args.pool.now c.args.text.now c.in_ok-copy.copy c.in_ok-copy.ensures)) c.add.ensures.ok

pub returns-clause-full : goal.returns-clause-full
returns-clause-full c = λ reason is.
    c.add.ensures.full reason is (need_of_text c.args.text.now) (text_means c.args.pool.now c.args.text.now c.in_ok-copy.copy c.in_ok-copy.ensures)
