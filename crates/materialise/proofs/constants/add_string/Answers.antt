use Rattle.std.proofs.Common.{[], ◌∷◌}
use Rattle.making_code.specs.Constants.{needs_string, needs_text}
use Rattle.std.proofs.lemmas.Result.{on_ok_weaker}
use Rattle.materialise.proofs.ConstantLaws.{string_means}
use Rattle.materialise.specs.Laws.GrownEdits.{full_then, grows_both}
use Rattle.materialise.proofs.constants.add_string.Goals as goal

pub returns-clause-ok : goal.returns-clause-ok
returns-clause-ok c =
    let text = c.args.text.now in
    let means = string_means c.add_text.new.pool text c.in_ok-text_index.text_index c.in_ok-text_index.ensures.index in
    on_ok_weaker c.add.result
    (λ grows. grows_both c.args.pool.now c.add_text.new.pool c.add.new.pool (needs_text text) (needs_string text ∷ []) c.in_ok-text_index.ensures.ok (grows (needs_string text) means))
    c.add.ensures.ok

pub returns-clause-full : goal.returns-clause-full
returns-clause-full c = λ reason is.
    let text = c.args.text.now in
    let means = string_means c.add_text.new.pool text c.in_ok-text_index.text_index c.in_ok-text_index.ensures.index in
    full_then c.args.pool.now c.add_text.new.pool (needs_text text) (needs_string text ∷ []) reason c.in_ok-text_index.ensures.ok
    (c.add.ensures.full reason is (needs_string text) means)
