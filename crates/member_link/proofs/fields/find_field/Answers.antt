use Rattle.std.proofs.Common.{sym, subst}
use Rattle.class_tree.specs.Headers.{headers_of}
use Rattle.class_tree.specs.Laws.Headers.{header_there}
use Rattle.member_link.specs.Inner.FieldSearch.{FindsOrLeaves}
use Rattle.member_link.specs.Found.{IsFieldFound}
use Rattle.member_link.proofs.FieldsUpwards.{IsSearched, first_searched, searched_more}
use Rattle.member_link.proofs.FoundOr.{none_same}
use Rattle.member_link.proofs.fields.find_field.Goals as goal

pub loop-next-init : goal.loop-next-init
loop-next-init c = first_searched (headers_of c.args.tree.now) c.a_tree_is_a_hierarchy.ensures c.args.class.now c.args.name.now c.args.desc.now c.place-next.result c.place-next.ensures

pub loop-next-preserved : goal.loop-next-preserved
loop-next-preserved c =
    let headers = headers_of c.args.tree.now in
    let searched = subst (IsSearched headers c.args.class.now c.args.name.now c.args.desc.now) c.in-Some.is c.loop-next.invariant in
    let class = header_there headers c.in-Some.place searched.there in
    let below = c.in_default-find_below_super.ensures class.0 class.1 in
    let leaves = subst (FindsOrLeaves headers c.args.name.now c.args.desc.now class.0) (none_same (IsFieldFound headers) below.0 below.2) below.1 in
    subst (IsSearched headers c.args.class.now c.args.name.now c.args.desc.now) (sym c.superclass-next.ensures)
    (searched_more headers c.a_tree_is_a_hierarchy.ensures c.args.class.now c.args.name.now c.args.desc.now c.in-Some.place class.0 class.1 leaves searched)
