use Rattle.std.proofs.Common.{◌∙◌}
use Rattle.verify_folder.proofs.ClassWalk.{class_at, one_checked}
use Rattle.verify_folder.proofs.folder.check_next.Goals as goal

pub returns : goal.returns
returns c =
    let class = c.index-as_slice-place.result in
    let found = class_at c.args.tree.now c.as_slice.result.now c.args.place class (c.as_slice.ensures ∙ c.folder.ensures.same) c.requires.within c.index-as_slice-place.is in
    one_checked c.args.tree.now c.args.place class c.requires.typed found c.check_class.result c.check_class.ensures
