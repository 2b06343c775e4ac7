use Rattle.member_link.proofs.FirstLinks.{declared}
use Rattle.member_link.proofs.links.check_declared_links.Goals as goal

pub returns : goal.returns
returns c = declared c.args.tree.now c.check_declarations.result c.check_declarations.ensures
