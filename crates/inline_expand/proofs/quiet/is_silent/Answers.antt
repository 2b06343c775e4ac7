use Rattle.std.proofs.Common.{◌≡◌, Some, refl, sym, ap, ◌∙◌, is_some, inl}
use Rattle.std.proofs.lemmas.Bool.{false≢true}
use Rattle.class_tree.specs.Headers.{headers_of}
use Rattle.class_tree.specs.Order.{place_of}
use Rattle.inline_expand.proofs.FolderNames.{object_outside}
use Rattle.inline_expand.proofs.QuietLaws.{interface_places, stands_there, silent_at}
use Rattle.inline_expand.proofs.quiet.is_silent.Goals as goal

pub superinterfaces-requires : goal.superinterfaces-requires
superinterfaces-requires c =
    let headers = headers_of c.args.tree.now in
    let placed : place_of headers c.args.interface.now ≡ Some c.in-Some.place = sym c.place.ensures ∙ c.in-Some.is in
    ap is_some (stands_there headers c.a_tree_is_a_hierarchy.ensures c.args.interface.now c.requires.0 c.requires.1 c.in-Some.place placed)

pub returns-then-is_silent_at : goal.returns-then-is_silent_at
returns-then-is_silent_at c =
    let headers = headers_of c.args.tree.now in
    let placed : place_of headers c.args.interface.now ≡ Some c.in-Some.place = sym c.place.ensures ∙ c.in-Some.is in
    let both = interface_places headers c.a_tree_is_a_hierarchy.ensures (object_outside c.args.tree.now c.folder-folder.ensures.tree) c.args.interface.now c.requires.0 c.requires.1 c.requires.2 c.in-Some.place placed c.superinterfaces.result.now c.superinterfaces.ensures in (
      λ is. both.1 (c.is_silent_at.ensures.0 c.if-is_silent_at.true, c.are_silent_at.ensures.0 is),
      λ silent. c.are_silent_at.ensures.1 (both.0 silent).1,
    )

pub returns-else-is_silent_at : goal.returns-else-is_silent_at
returns-else-is_silent_at c =
    let headers = headers_of c.args.tree.now in
    let placed : place_of headers c.args.interface.now ≡ Some c.in-Some.place = sym c.place.ensures ∙ c.in-Some.is in
    let own = silent_at headers c.a_tree_is_a_hierarchy.ensures (object_outside c.args.tree.now c.folder-folder.ensures.tree) c.args.interface.now c.in-Some.place placed in (
      λ is. absurd (false≢true (sym c.if-is_silent_at.false ∙ is)),
      λ silent. c.is_silent_at.ensures.1 (own.1 (silent.each c.args.interface.now (inl refl))),
    )
