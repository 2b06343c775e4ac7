use Rattle.std.proofs.Common.{rules}
use Rattle.class_tree.proofs.HeaderParts.{name_is}
use Rattle.class_tree.proofs.arrange.header_of.Goals as goal

pub returns : goal.returns
returns c = search (rules, name_is c.args.class.now)
