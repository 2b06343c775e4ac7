use Rattle.std.proofs.Common.{◌∙◌}
use Rattle.class_tree.proofs.SuperNumbers.{superclass_at}
use Rattle.class_tree.proofs.hierarchy.superclass.Goals as goal

pub returns-in-Some-len1-up : goal.returns-in-Some-len1-up
returns-in-Some-len1-up c =
    c.get.ensures ∙ superclass_at c.args.headers.now c.args.header.now _ c.args.above.now c.requires c.in-Some-len1-up.is-0
