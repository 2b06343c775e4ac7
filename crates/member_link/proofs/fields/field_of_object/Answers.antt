use Rattle.std.proofs.Common.{[], None, option_map, sym}
use Rattle.class_tree.specs.Headers.{headers_of}
use Rattle.class_tree.specs.Names.{object}
use Rattle.member_link.specs.DeclaredMembers.{declared_by, declared}
use Rattle.member_link.specs.Fields.{in_no_class, absent_class}
use Rattle.member_link.proofs.FieldWalks.{object_finds}
use Rattle.member_link.proofs.fields.field_of_object.Goals as goal

pub returns-in-Some : goal.returns-in-Some
returns-in-Some c =
    let class = c.a_tree_is_a_hierarchy.ensures.placed object c.in-Some.place (sym c.in-Some.ensures.same) in
    record {
      field = option_map (declared_by class.0.name) (declared c.args.name.now c.args.desc.now class.0.fields);
      finds = object_finds (headers_of c.args.tree.now) c.a_tree_is_a_hierarchy.ensures c.args.name.now c.args.desc.now class.0 class.1.found;
      same = c.own_field.ensures class.0 class.1.at;
    }

pub returns-in-None : goal.returns-in-None
returns-in-None c = record {
  field = None;
  finds = absent_class object [] None (c.a_tree_is_a_hierarchy.ensures.absent object (sym c.in-None.ensures.same)) in_no_class;
  same = tt;
}
