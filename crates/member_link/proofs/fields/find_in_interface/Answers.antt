use Rattle.std.proofs.Common.{[], Option, None, IfSome, IsTrue, sym, subst}
use Rattle.class_model.specs.declared.header.Header.{Header}
use Rattle.class_tree.specs.Headers.{Name, headers_of}
use Rattle.class_tree.specs.Names.{is_interface}
use Rattle.member_link.specs.Fields.{in_no_class, absent_class}
use Rattle.member_link.specs.Found.{IsField}
use Rattle.member_link.proofs.fields.find_in_interface.Goals as goal

pub returns-in-Some : goal.returns-in-Some
returns-in-Some c =
    let class = c.a_tree_is_a_hierarchy.ensures.placed c.args.interface.now c.in-Some.place (sym c.in-Some.ensures) in
    let kind = subst (λ (o : Option Header). IfSome o (λ header. IsTrue (is_interface header))) class.1.found c.requires.kind in
    subst (λ (n : Name). IsField (headers_of c.args.tree.now) n c.args.name.now c.args.desc.now c.find_above.result) class.1.own_name (c.find_above.ensures class.0 class.1.at kind)

pub returns-in-None : goal.returns-in-None
returns-in-None c = record {
  field = None;
  finds = absent_class c.args.interface.now [] None (c.a_tree_is_a_hierarchy.ensures.absent c.args.interface.now (sym c.in-None.ensures)) in_no_class;
  same = tt;
}
