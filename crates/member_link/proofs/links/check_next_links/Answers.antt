use Rattle.member_link.proofs.FirstLinks.{one_answered}
use Rattle.member_link.proofs.links.check_next_links.Goals as goal

pub returns : goal.returns
returns c = one_answered c.args.tree.now c.args.place c.requires.within c.requires.linked c.check_uses.result c.check_uses.ensures
