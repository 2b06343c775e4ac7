use Rattle.std.proofs.Common.{◌↔◌, false, IsTrue, IsFalse, is_some, sym, ap, subst, ◌∙◌}
use Rattle.std.specs.Option.{option_map_or}
use Rattle.std.proofs.lemmas.Bool.{false≢true}
use Rattle.class_tree.proofs.ClassHolds.{is_sound}
use Rattle.class_tree.specs.Headers.{Name, headers_of}
use Rattle.class_tree.specs.Laws.Above.{low_is_there, above_is_there}
use Rattle.class_tree.specs.Names.{is_interface}
use Rattle.class_tree.specs.Subtype.{IsBelow}
use Rattle.class_tree.proofs.Places.{class_of_place}
use Rattle.class_tree.proofs.SamePlaces.{placed_is_there}
use Rattle.class_tree.proofs.TreeClasses.{tree_holds_steps}
use Rattle.class_tree.proofs.subtype.is_below.Goals as goal

pub returns-in_default : goal.returns-in_default
returns-in_default c =
    let headers = headers_of c.args.tree.now in
    (λ yes. absurd (false≢true yes), λ up. absurd (placed_is_there headers c.args.low.now (low_is_there up) (sym c.find.ensures.same ∙ c.in_default.is)))

pub returns-in_default-find : goal.returns-in_default-find
returns-in_default-find c =
    let headers = headers_of c.args.tree.now in
    let tree = tree_holds_steps c.args.tree.now c.find.ensures.tree in
    (λ yes. absurd (false≢true yes), λ up. absurd (placed_is_there headers c.args.high.now (above_is_there headers (is_sound headers tree.hold) up) (sym c.find-2.ensures.same ∙ c.in_default-find.is)))

pub has_interface-requires-clause-class : goal.has_interface-requires-clause-class
has_interface-requires-clause-class c =
    let class = class_of_place (headers_of c.args.tree.now) c.args.low.now c.in-Some.low (sym c.in-Some.ensures.same) in
    ap is_some class.1

pub returns-then-is_interface : goal.returns-then-is_interface
returns-then-is_interface c =
    let headers = headers_of c.args.tree.now in
    let low = class_of_place headers c.args.low.now c.in-Some.low (sym c.in-Some.ensures.same) in
    let high = class_of_place headers c.args.high.now c.in-Some-find.high (sym c.in-Some-find.ensures.same) in
    let kind : IsTrue (is_interface high.0) = sym (ap (λ found. option_map_or is_interface found false) high.1) ∙ sym c.is_interface.ensures ∙ c.if-is_interface.true in
    let told = c.has_interface.ensures low.0 high.0 low.1 high.1 kind in
    subst (λ (name : Name). IsTrue c.has_interface.result ↔ IsBelow headers name c.args.high.now) low.2.same
    (subst (λ (name : Name). IsTrue c.has_interface.result ↔ IsBelow headers low.0.name name) high.2.same told)

pub returns-else-is_interface : goal.returns-else-is_interface
returns-else-is_interface c =
    let headers = headers_of c.args.tree.now in
    let low = class_of_place headers c.args.low.now c.in-Some.low (sym c.in-Some.ensures.same) in
    let high = class_of_place headers c.args.high.now c.in-Some-find.high (sym c.in-Some-find.ensures.same) in
    let kind : IsFalse (is_interface high.0) = sym (ap (λ found. option_map_or is_interface found false) high.1) ∙ sym c.is_interface.ensures ∙ c.if-is_interface.false in
    let told = c.has_superclass.ensures low.0 high.0 low.1 high.1 kind in
    subst (λ (name : Name). IsTrue c.has_superclass.result ↔ IsBelow headers name c.args.high.now) low.2.same
    (subst (λ (name : Name). IsTrue c.has_superclass.result ↔ IsBelow headers low.0.name name) high.2.same told)
