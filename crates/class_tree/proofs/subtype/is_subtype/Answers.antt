use Rattle.std.proofs.Common.{◌≢◌, ◌↔◌, refl, sym, subst, ◌∙◌}
use Rattle.std.proofs.lemmas.Bool.{false≢true}
use Rattle.std.proofs.lemmas.Slice.Eq.{bytes_eq-Decides}
use Rattle.class_tree.proofs.ClassHolds.{is_sound}
use Rattle.class_tree.specs.Headers.{headers_of}
use Rattle.class_tree.specs.Subtype.{IsArray, IsSubtype, itself}
use Rattle.class_tree.specs.Trees.{IsTree}
use Rattle.class_tree.proofs.Subtypes.{all_components_decide, array_decides, other_class_decides}
use Rattle.class_tree.proofs.TreeClasses.{HoldsSteps, tree_holds_steps}
use Rattle.class_tree.proofs.subtype.is_subtype.Goals as goal
use Rattle.class_tree.proofs.subtype.is_subtype.Goals.{After-innermost, Else-eq}

tree : (c : After-innermost) → HoldsSteps (headers_of c.args.tree.now)
tree c = tree_holds_steps c.args.tree.now (subst IsTree c.tree.view_is c.tree.invariant.tree)

-- both are as their innermost components are
inner : (c : After-innermost) → IsSubtype (headers_of c.args.tree.now) c.args.low.now c.args.high.now ↔ IsSubtype (headers_of c.args.tree.now) c.innermost.result.0.now c.innermost.result.1.now
inner c = all_components_decide (headers_of c.args.tree.now) (tree c).no_array c.innermost.ensures.taken

differ : (c : Else-eq) → c.innermost.result.0.now ≢ c.innermost.result.1.now
differ c = λ same. false≢true (sym c.if-eq.false ∙ c.eq.ensures ∙ (bytes_eq-Decides c.innermost.result.0.now c.innermost.result.1.now).1 same)

pub returns-then-eq : goal.returns-then-eq
returns-then-eq c =
    let headers = headers_of c.args.tree.now in
    let both = inner (goal.at.returns-then-eq c).After-innermost in
    let same = (bytes_eq-Decides c.innermost.result.0.now c.innermost.result.1.now).0 (sym c.eq.ensures ∙ c.if-eq.true) in
    (λ yes. both.1 (subst (IsSubtype headers c.innermost.result.0.now) same (itself c.innermost.result.0.now)), λ sub. refl)

pub returns-then-is_array : goal.returns-then-is_array
returns-then-is_array c =
    let headers = headers_of c.args.tree.now in
    let both = inner (goal.at.returns-then-is_array c).After-innermost in
    let decides = array_decides headers (tree (goal.at.returns-then-is_array c).After-innermost).no_array c.innermost.result.0.now c.innermost.result.1.now (c.is_array.ensures.0 c.if-is_array.true) (differ (goal.at.returns-then-is_array c).Else-eq) c.innermost.ensures.last in
    (λ yes. both.1 (decides.0 (c.is_above_arrays.ensures.0 yes)), λ sub. c.is_above_arrays.ensures.1 (decides.1 (both.0 sub)))

pub returns-else-is_array : goal.returns-else-is_array
returns-else-is_array c =
    let headers = headers_of c.args.tree.now in
    let both = inner (goal.at.returns-else-is_array c).After-innermost in
    let hierarchy = tree (goal.at.returns-else-is_array c).After-innermost in
    let no_array : ¬ IsArray c.innermost.result.0.now = λ is. false≢true (sym c.if-is_array.false ∙ c.is_array.ensures.1 is) in
    let decides = other_class_decides headers hierarchy.no_array (is_sound headers hierarchy.hold) c.innermost.result.0.now c.innermost.result.1.now no_array (differ (goal.at.returns-else-is_array c).Else-eq) in
    (λ yes. both.1 (decides.0 (c.is_below.ensures.0 yes)), λ sub. c.is_below.ensures.1 (decides.1 (both.0 sub)))
