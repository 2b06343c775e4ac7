use Rattle.std.proofs.Common.{◌≡◌, Some, sym, ap, ◌∙◌, is_some}
use Rattle.std.specs.Option.{option_copied}
use Rattle.class_tree.specs.Headers.{headers_of, named}
use Rattle.inline_expand.proofs.FolderNames.{object_outside, of_folder}
use Rattle.inline_expand.proofs.QuietLaws.{quiet_by_chain}
use Rattle.inline_expand.proofs.quiet.is_quiet.Goals as goal

pub chain-requires : goal.chain-requires
chain-requires c =
    let headers = headers_of c.args.tree.now in
    let found : named c.args.class.now headers.folder ≡ Some c.in-Some._header.now = sym c.folder_class.ensures ∙ ap option_copied c.in-Some.is in
    ap is_some (of_folder headers c.args.class.now c.in-Some._header.now found)

pub returns : goal.returns
returns c =
    let headers = headers_of c.args.tree.now in
    let found : named c.args.class.now headers.folder ≡ Some c.in-Some._header.now = sym c.folder_class.ensures ∙ ap option_copied c.in-Some.is in
    let quiet = quiet_by_chain headers c.a_tree_is_a_hierarchy.ensures (object_outside c.args.tree.now c.folder-folder.ensures.tree) c.args.class.now c.in-Some._header.now found c.in_ok-names.names c.as_slice.result.now c.in_ok-names.ensures c.as_slice.ensures in
    (λ is. quiet.0 (c.are_quiet.ensures.0 is), λ is. c.are_quiet.ensures.1 (quiet.1 is))
