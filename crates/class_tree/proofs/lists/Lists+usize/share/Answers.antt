use Rattle.class_tree.proofs.Parts.{share}
use Rattle.class_tree.proofs.lists.Lists+usize.share.Goals as goal

pub returns : goal.returns
returns c =
    share c.self.inside.items.items c.self.inside.parts.items c.args.self.now c.args.number c.args.of c.index.result.now c.self.view_is c.requires.of c.index.ensures
