use Rattle.std.proofs.Common.{sym, subst}
use Rattle.class_rewrite.proofs.UsedFound.{in_folder, in_library}
use Rattle.class_rewrite.specs.Inner.UsedFields.{IsFolderField}
use Rattle.member_link.specs.MemberRefs.{reference_meant}
use Rattle.class_rewrite.proofs.used_fields.field_of_folder.Goals as goal

pub returns-in-Folder : goal.returns-in-Folder
returns-in-Folder c =
    subst (IsFolderField c.args.tree.now c.args.pool.now c.args.index) (sym c.instance_field.ensures)
    (in_folder c.args.tree.now c.folder-folder.ensures.tree c.a_tree_is_a_hierarchy.ensures c.a_look_up_finds_one_field.ensures c.args.pool.now c.args.index
    (reference_meant c.in_ok-member.member) (sym c.in_ok-member.ensures) c.in_ok-found.found c.in_ok-found.ensures c.in-Folder.class c.in-Folder.is)

pub returns-in-Library : goal.returns-in-Library
returns-in-Library c =
    in_library c.args.tree.now c.folder-folder.ensures.tree c.a_tree_is_a_hierarchy.ensures c.a_look_up_finds_one_field.ensures c.args.pool.now c.args.index
    (reference_meant c.in_ok-member.member) (sym c.in_ok-member.ensures) c.in_ok-found.found c.in_ok-found.ensures c.in-Library.field-0 c.in-Library.is
