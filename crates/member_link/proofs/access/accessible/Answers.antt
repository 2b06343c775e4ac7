use Rattle.std.proofs.Common.{◌≡◌, ◌≢◌, Some, codes, sym, ap, subst, ◌∙◌}
use Rattle.std.specs.Option.{option_copied}
use Rattle.std.proofs.lemmas.Bool.{false≢true}
use Rattle.class_tree.specs.Headers.{headers_of}
use Rattle.class_tree.specs.Order.{header_at}
use Rattle.class_tree.specs.Subtype.{IsArray}
use Rattle.member_link.proofs.MembersSeen.{seen}
use Rattle.member_link.proofs.access.accessible.Goals as goal
use Rattle.member_link.proofs.access.accessible.Goals.{else-is_array-via-then-is_array+else-is_clone, else-is_array-via-else-is_array}

pub returns : goal.returns
returns c = λ declared is.
    let at : header_at (headers_of c.args.tree.now) c.args.found.place ≡ Some c.in-Some.header.now = sym c.header.ensures ∙ ap option_copied c.in-Some.is in
    let told = seen (headers_of c.args.tree.now) c.args.named.now c.args.found declared c.in-Some.header.now is at in
    let no_clone : IsArray c.args.named.now → declared.member.name ≢ codes "clone" = λ deep clone.
    elim c.else-is_array.branch [
      | else-is_array-via-then-is_array+else-is_clone w ↦ false≢true (sym w.if-is_clone.false ∙ (w.is_clone.ensures declared.member (told.of_array deep)).1 clone)
      | else-is_array-via-else-is_array w ↦ false≢true (sym w.if-is_array.false ∙ c.is_array.ensures.1 (subst IsArray (sym c.bytes.ensures.same) deep))
    ] in
    c.is_visible.ensures declared told.own_class told.own_flags no_clone
