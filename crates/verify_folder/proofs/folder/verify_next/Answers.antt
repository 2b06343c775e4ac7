use Rattle.std.proofs.Common.{◌∙◌}
use Rattle.std.proofs.lemmas.Result.{err_from_is_err_and}
use Rattle.verify_folder.proofs.ClassWalk.{class_at, folder_stops, one_more}
use Rattle.verify_folder.proofs.folder.verify_next.Goals as goal

pub returns-in_err-verify_class : goal.returns-in_err-verify_class
returns-in_err-verify_class c =
    let class = c.index-as_slice-place.result in
    let found = class_at c.args.tree.now c.as_slice.result.now c.args.place class (c.as_slice.ensures ∙ c.folder.ensures.same) c.requires.within c.index-as_slice-place.is in
    let p = err_from_is_err_and c.from_residual.result c.from_residual.ensures.1 in
    rw (p.1, p.2) (folder_stops c.args.tree.now c.args.place c.args.typed.now class c.requires.typed found c.in_err-verify_class.field-0.0 c.in_err-verify_class.ensures)

pub returns : goal.returns
returns c =
    let class = c.index-as_slice-place.result in
    let found = class_at c.args.tree.now c.as_slice.result.now c.args.place class (c.as_slice.ensures ∙ c.folder.ensures.same) c.requires.within c.index-as_slice-place.is in
    rw c.in_ok-push.ensures.ok (one_more c.args.tree.now c.args.place c.args.typed.now class c.requires.typed found c.in_ok-verify_class.field-0 c.in_ok-verify_class.ensures)
