use Rattle.std.proofs.Common.{List, is_some, sym, ap, subst}
use Rattle.class_tree.specs.Headers.{Name, headers_of}
use Rattle.class_tree.specs.declared.place.Place.TheVariants.{Folder}
use Rattle.class_rewrite.proofs.AddedMarks.{chain_marked}
use Rattle.class_rewrite.proofs.marked_classes.mark_chain.Goals as goal
use Rattle.class_rewrite.specs.Inner.Marking.{IsNamed, Marks, but_object}

pub chain-requires : goal.chain-requires
chain-requires c = ap is_some (c.a_tree_is_a_hierarchy.ensures.of_place (Folder c.args.class) c.in-Some.header.now (sym c.in-Some.ensures)).found

pub returns : goal.returns
returns c =
    let headers = headers_of c.args.tree.now in
    chain_marked headers c.a_tree_is_a_hierarchy.ensures c.args.class c.in-Some.header.now c.in_ok-names.names c.args.marks.now
    c.mark_but_object.new.marks (sym c.in-Some.ensures) c.in_ok-names.ensures
    (subst (λ (names : List Name). Marks (IsNamed headers (but_object names)) c.args.marks.now c.mark_but_object.new.marks) c.as_slice.ensures c.mark_but_object.ensures)
