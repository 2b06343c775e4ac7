use Rattle.std.proofs.Common.{rules}
use Rattle.member_link.specs.DeclaredMembers.{declared_by}
use Rattle.member_link.proofs.FolderMethods.{none_by}
use Rattle.member_link.proofs.declarations.overrides_no_final.Goals as goal

pub returns-else-not-is_inherited : goal.returns-else-not-is_inherited
returns-else-not-is_inherited c =
    none_by {low = declared_by c.args.low.header.now.name c.args.low.member.now} _ c.any_above.result (λ found high told is answer. search rules) c.any_above.ensures
