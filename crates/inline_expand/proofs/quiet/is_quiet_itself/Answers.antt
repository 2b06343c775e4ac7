use Rattle.std.proofs.Common.{◌≡◌, Some, sym, subst, ap, ◌∙◌}
use Rattle.std.specs.List.{AllByRecursion}
use Rattle.std.specs.Option.{option_copied}
use Rattle.class_tree.specs.Headers.{headers_of, named}
use Rattle.inline_expand.proofs.FolderNames.{of_folder}
use Rattle.inline_expand.proofs.QuietLaws.{interfaces_are}
use Rattle.inline_expand.specs.Inner.QuietWords.{IsInterfaceThere}
use Rattle.inline_expand.proofs.quiet.is_quiet_itself.Goals as goal

pub are_silent-requires : goal.are_silent-requires
are_silent-requires c =
    let headers = headers_of c.args.tree.now in
    let found : named c.args.class.now headers.folder ≡ Some c.in-Some.header.now = sym c.folder_class.ensures ∙ ap option_copied c.in-Some.is in
    subst (AllByRecursion (IsInterfaceThere headers)) (sym c.as_slice.ensures)
    (interfaces_are headers c.a_tree_is_a_hierarchy.ensures c.args.class.now c.in-Some.header.now (of_folder headers c.args.class.now c.in-Some.header.now found))
