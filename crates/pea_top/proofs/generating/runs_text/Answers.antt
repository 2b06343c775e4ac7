use Rattle.std.proofs.lemmas.Result.{IfOk-weaker}
use Rattle.pea_top.proofs.RunsTold.{runs_told}
use Rattle.pea_top.proofs.generating.runs_text.Goals as goal

pub returns : goal.returns
returns c =
    IfOk-weaker c.line_of.result _ _
    (λ text is. runs_told c.args.tree.now c.in_ok-typed.typed c.args.actions.now c.args.number c.args.size c.in_ok-runs.runs c.word_of-word.result.now text.items c.in_ok-typed.ensures c.in_ok-runs.ensures c.word_of-word.ensures.same c.word_of-word.ensures.differ is)
    c.line_of.ensures
