use Rattle.std.proofs.Common.{◌≡◌, refl, sym, subst, ◌∙◌}
use Rattle.std.proofs.lemmas.Bool.{false≢true}
use Rattle.std.proofs.lemmas.Slice.Eq.{bytes_eq-Decides}
use Rattle.class_tree.specs.Headers.{headers_of}
use Rattle.class_tree.specs.Subtype.{IsArray}
use Rattle.member_link.specs.Assignability.{IsNameAssignable, to_itself, to_interface}
use Rattle.member_link.specs.Forms.{IsInterfaceNamed}
use Rattle.type_rules.proofs.NameAssignability.{array_decides, class_decides}
use Rattle.type_rules.proofs.assignability.is_innermost_assignable.Goals as goal
use Rattle.type_rules.proofs.assignability.is_innermost_assignable.Goals.{Else-eq}

differ : (c : Else-eq) → ¬ (c.args.low.now ≡ c.args.high.now)
differ c = λ same. false≢true (sym c.if-eq.false ∙ c.eq.ensures ∙ (bytes_eq-Decides c.args.low.now c.args.high.now).1 same)

pub returns-then-eq : goal.returns-then-eq
returns-then-eq c =
    let headers = headers_of c.args.tree.now in
    let same = (bytes_eq-Decides c.args.low.now c.args.high.now).0 (sym c.eq.ensures ∙ c.if-eq.true) in
    (λ yes. subst (IsNameAssignable headers c.args.low.now) same (to_itself c.args.low.now), λ whole. refl)

pub returns-then-is_array : goal.returns-then-is_array
returns-then-is_array c =
    let decides = array_decides (headers_of c.args.tree.now) c.a_tree_is_a_hierarchy.ensures c.args.low.now c.args.high.now (c.is_array.ensures.0 c.if-is_array.true) (differ (goal.at.returns-then-is_array c).Else-eq) c.requires in
    (λ yes. decides.0 (c.is_above_arrays.ensures.0 yes), λ whole. c.is_above_arrays.ensures.1 (decides.1 whole))

pub returns-then-is_interface_named : goal.returns-then-is_interface_named
returns-then-is_interface_named c =
    let flat : ¬ IsArray c.args.low.now = λ is. false≢true (sym c.if-is_array.false ∙ c.is_array.ensures.1 is) in
    (λ yes. let named = c.is_interface_named.ensures.0 yes in to_interface c.args.low.now c.args.high.now named.0 flat named.1 named.2, λ whole. c.if-is_interface_named.true)

pub returns-else-is_interface_named : goal.returns-else-is_interface_named
returns-else-is_interface_named c =
    let headers = headers_of c.args.tree.now in
    let flat : ¬ IsArray c.args.low.now = λ is. false≢true (sym c.if-is_array.false ∙ c.is_array.ensures.1 is) in
    let none : ¬ IsInterfaceNamed headers c.args.high.now = λ named. false≢true (sym c.if-is_interface_named.false ∙ c.is_interface_named.ensures.1 named) in
    let decides = class_decides headers c.a_tree_is_a_hierarchy.ensures c.args.low.now c.args.high.now flat (differ (goal.at.returns-else-is_interface_named c).Else-eq) none in
    (λ yes. decides.0 (c.is_below.ensures.0 yes), λ whole. c.is_below.ensures.1 (decides.1 whole))
