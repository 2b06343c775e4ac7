use Rattle.std.proofs.Common.{◌≡◌, List, map, Option, Some, None, IfSome, option_and_then, refl, subst}
use Rattle.std.specs.Option.{option_or}
use Rattle.class_model.specs.declared.header.Header.{Header}
use Rattle.class_tree.specs.Headers.{Name, headers_of}
use Rattle.class_tree.specs.Interfaces.{AreSuperinterfaces, each_once}
use Rattle.class_tree.specs.Order.{place_of}
use Rattle.member_link.specs.Inner.FieldSearch.{met}
use Rattle.member_link.specs.Found.{AreSame, IsFieldFound}
use Rattle.member_link.proofs.FieldWalks.{first_met_in, first_met-placed, interface_finds}
use Rattle.member_link.proofs.FoundOr.{found_first, found_then}
use Rattle.member_link.proofs.fields.find_above.Goals as goal

pub returns-in-Some : goal.returns-in-Some
returns-in-Some c = λ header at kind.
    let headers = headers_of c.args.tree.now in
    let hierarchy = c.a_tree_is_a_hierarchy.ensures in
    let named = (hierarchy.of_place c.args.interface header at).found in
    let walk = hierarchy.walked header.name header named in
    let top = c.requires.top in
    let here = subst (λ (o : Option Header). AreSame (IsFieldFound headers) (Some c.in-Some.found) (option_and_then (met top.field c.args.name.now c.args.desc.now) o)) at (c.in-Some.ensures top.field top.same) in
    record {
      field = option_or (met top.field c.args.name.now c.args.desc.now header) (first_met_in headers top.field c.args.name.now c.args.desc.now (each_once walk.0));
      finds = interface_finds headers hierarchy c.args.name.now c.args.desc.now top.field top.finds header.name header named kind (each_once walk.0) (record { walk = walk.0; walked = walk.1; once = refl });
      same = found_first (IsFieldFound headers) c.in-Some.found _ _ here;
    }

pub returns : goal.returns
returns c = λ header at kind.
    let headers = headers_of c.args.tree.now in
    let hierarchy = c.a_tree_is_a_hierarchy.ensures in
    let named = (hierarchy.of_place c.args.interface header at).found in
    let top = c.requires.top in
    let above = subst (λ (o : Option Header). IfSome o (λ header. (names : List Name) × AreSuperinterfaces headers header.name names × (map (place_of headers) names ≡ map Some c.superinterfaces.result.now))) at c.superinterfaces.ensures in
    let here = subst (λ (o : Option Header). AreSame (IsFieldFound headers) None (option_and_then (met top.field c.args.name.now c.args.desc.now) o)) at (c.in_default.ensures top.field top.same) in
    let placed = first_met-placed headers top.field c.args.name.now c.args.desc.now hierarchy above.0 c.superinterfaces.result.now above.2 in
    record {
      field = option_or (met top.field c.args.name.now c.args.desc.now header) (first_met_in headers top.field c.args.name.now c.args.desc.now above.0);
      finds = interface_finds headers hierarchy c.args.name.now c.args.desc.now top.field top.finds header.name header named kind above.0 above.1;
      same = found_then (IsFieldFound headers) c.first_met.result _ _ here (subst (AreSame (IsFieldFound headers) c.first_met.result) placed (c.first_met.ensures top.field top.same));
    }
