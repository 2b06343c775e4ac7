use Rattle.std.proofs.Common.{[], ◌∷◌, ◌++◌, Some, ap, ◌∙◌}
use Rattle.std.proofs.lemmas.Result.{on_ok_weaker}
use Rattle.class_tree.specs.Names.{object}
use Rattle.work_gen.specs.BaseLibrary.{class}
use Rattle.work_gen.proofs.headers.push_memberless.Goals as goal

pub returns : goal.returns
returns c =
    let old = c.args.headers.now in
    on_ok_weaker c.push.result
    (λ last. last ∙ ap (λ header. old ++ header ∷ []) c.in_ok-header.ensures ∙ ap (λ methods. old ++ class c.args.name.now c.args.flags (Some object) methods ∷ []) c.new.ensures)
    c.push.ensures.ok
