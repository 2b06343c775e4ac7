use Rattle.std.proofs.Common.{◌≡◌, false, Option, None, is_some, drop, ◌+◌, sym, ap, subst, ◌∙◌, arith}
use Rattle.std.proofs.lemmas.List.{drop_all}
use Rattle.class_tree.specs.Headers.{headers_of}
use Rattle.class_tree.specs.Laws.Headers.{header_there}
use Rattle.class_tree.specs.declared.place.Place.TheVariants.{Folder}
use Rattle.member_link.specs.DeclaredMembers.{Declared}
use Rattle.member_link.specs.Defaults.{first_inherited}
use Rattle.member_link.specs.Inner.DefaultsAt.{inherited_of}
use Rattle.member_link.specs.Found.{AreSame, IsMethodFound}
use Rattle.member_link.proofs.FirstInherited.{first_of_next, as_many, first_is, first_is_other}
use Rattle.member_link.proofs.InheritedMethods.{same_found}
use Rattle.member_link.proofs.Superinterfaces.{names_of, superinterface_at}
use Rattle.member_link.proofs.defaults.first_inherited.Goals as goal

pub loop-interface-preserved : goal.loop-interface-preserved
loop-interface-preserved c = λ names same.
    let headers = headers_of c.args.tree.now in
    let hierarchy = c.a_tree_is_a_hierarchy.ensures in
    let places = c.superinterfaces-interface-items.result.now in
    let class = header_there headers c.args.class c.requires in
    let at = superinterface_at headers hierarchy c.args.class places c.superinterfaces-interface-items.ensures class.0 class.1 c.loop-interface.interface-index (Folder 0) c.loop-interface-test.true in
    let method = inherited_of c.args.name.now c.args.desc.now at.header in
    let none : is_some method ≡ false = sym (same_found (IsMethodFound headers) c.inherited_method-found.result method (c.inherited_method-found.ensures at.header at.at)) ∙ sym c.is_some.ensures ∙ c.if-is_some.false in
    c.loop-interface.invariant names same
    ∙ first_of_next headers hierarchy c.args.name.now c.args.desc.now names places same c.loop-interface.interface-index (Folder 0) c.loop-interface-test.true at.header at.at
    ∙ first_is_other method (first_inherited headers c.args.name.now c.args.desc.now (drop (c.loop-interface.interface-index + 1) names)) none

pub returns-then-is_some : goal.returns-then-is_some
returns-then-is_some c = λ header stands.
    let headers = headers_of c.args.tree.now in
    let hierarchy = c.a_tree_is_a_hierarchy.ensures in
    let places = c.superinterfaces-interface-items.result.now in
    let known = names_of headers c.args.class places c.superinterfaces-interface-items.ensures header stands in
    let at = superinterface_at headers hierarchy c.args.class places c.superinterfaces-interface-items.ensures header stands c.loop-interface.interface-index (Folder 0) c.loop-interface-test.true in
    let method = inherited_of c.args.name.now c.args.desc.now at.header in
    let found = c.inherited_method-found.ensures at.header at.at in
    let first : first_inherited headers c.args.name.now c.args.desc.now known.0 ≡ method =
    c.loop-interface.invariant known.0 known.2
    ∙ first_of_next headers hierarchy c.args.name.now c.args.desc.now known.0 places known.2 c.loop-interface.interface-index (Folder 0) c.loop-interface-test.true at.header at.at
    ∙ first_is method (first_inherited headers c.args.name.now c.args.desc.now (drop (c.loop-interface.interface-index + 1) known.0)) (sym (same_found (IsMethodFound headers) c.inherited_method-found.result method found) ∙ sym c.is_some.ensures ∙ c.if-is_some.true) in
    (known.0, known.1, subst (λ (found : Option Declared). AreSame (IsMethodFound headers) c.inherited_method-found.result found) (sym first) found)

pub returns : goal.returns
returns c = λ header stands.
    let headers = headers_of c.args.tree.now in
    let places = c.superinterfaces-interface-items.result.now in
    let known = names_of headers c.args.class places c.superinterfaces-interface-items.ensures header stands in
    let none : first_inherited headers c.args.name.now c.args.desc.now known.0 ≡ None =
    c.loop-interface.invariant known.0 known.2
    ∙ ap (first_inherited headers c.args.name.now c.args.desc.now) (drop_all c.loop-interface.interface-index known.0 (omega (arith, as_many headers known.0 places known.2))) in
    (known.0, known.1, subst (λ (found : Option Declared). AreSame (IsMethodFound headers) None found) (sym none) tt)
