use Rattle.std.proofs.Common.{◌∙◌, Some, sym, subst}
use Rattle.std.proofs.lemmas.List.{at_drop_more}
use Rattle.class_tree.specs.Headers.{headers_of}
use Rattle.class_tree.specs.declared.place.Place.TheVariants.{Folder}
use Rattle.member_link.specs.Inner.FieldSearch.{first_met}
use Rattle.member_link.specs.Found.{AreSame, IsFieldFound}
use Rattle.member_link.proofs.FoundOr.{found_first}
use Rattle.member_link.proofs.fields.first_met.Goals as goal

pub returns-in-Some : goal.returns-in-Some
returns-in-Some c = λ field same.
    let headers = headers_of c.args.tree.now in
    let more = at_drop_more (first_met headers field c.args.name.now c.args.desc.now) c.args.interfaces.now c.loop-interface.interface-index (Folder 0) c.loop-interface-test.true in
    subst (AreSame (IsFieldFound headers) (Some c.in-Some.found)) (sym more ∙ c.loop-interface.invariant field same)
    (found_first (IsFieldFound headers) c.in-Some.found _ _ (c.in-Some.ensures field same))
