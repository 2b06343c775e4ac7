-- Folders of which methods are rewritten.
use Rattle.class_tree.specs.Trees.{IsTree}
use Rattle.expanded_runs.specs.ByteCodes.{HaveByteCodes}
use Rattle.inline_expand.specs.TypedClasses.{TypedClasses}
use Rattle.member_link.specs.Linked.{IsLinked}
use Rattle.type_rules.specs.Verified.{TypesFolder}

-- A linked folder with the frames that type it.
pub record IsVerifiedFolder (of : TypedClasses) : Type 0 where
  pub tree : IsTree of.classes
  pub bytes : HaveByteCodes of.classes
  pub linked : IsLinked of.classes
  pub types : TypesFolder of.classes of.typed
