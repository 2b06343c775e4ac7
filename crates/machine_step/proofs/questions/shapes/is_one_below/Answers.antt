use Rattle.std.proofs.Common.{arith, ◌≡◌, ◌∷◌, ◌||◌, Bool, true, false, List, [], ℕ, sym, ap, ◌∙◌, rules}
use Rattle.std.proofs.lemmas.Grind.{common_steps}
use Rattle.std.specs.List.{list_any}
use Rattle.machine_step.proofs.questions.shapes.is_one_below.Goals as goal

pub loop-class-preserved : goal.loop-class-preserved
loop-class-preserved c = λ P is.
    let split : c.loop-class.rest.now ≡ c.in-Some.class.now ∷ c.in-Some.more.now = search rules in
    let first : P.links.below c.in-Some.class.now c.args.name.now ≡ false =
    ap (λ (class : List ℕ). P.links.below class c.args.name.now) (sym c.bytes.ensures.same) ∙ sym (c.is_type_below.ensures P is) ∙ c.if-is_type_below.false
    in
    c.loop-class.invariant P is
    ∙ ap (list_any (λ (class : List ℕ). P.links.below class c.args.name.now)) split
    ∙ ap (λ (b : Bool). b || list_any (λ (class : List ℕ). P.links.below class c.args.name.now) c.in-Some.more.now) first

pub returns-then-is_type_below : goal.returns-then-is_type_below
returns-then-is_type_below c = λ P is.
    let split : c.loop-class.rest.now ≡ c.in-Some.class.now ∷ c.in-Some.more.now = search rules in
    let first : P.links.below c.in-Some.class.now c.args.name.now ≡ true =
    ap (λ (class : List ℕ). P.links.below class c.args.name.now) (sym c.bytes.ensures.same) ∙ sym (c.is_type_below.ensures P is) ∙ c.if-is_type_below.true
    in
    sym (c.loop-class.invariant P is
    ∙ ap (list_any (λ (class : List ℕ). P.links.below class c.args.name.now)) split
    ∙ ap (λ (b : Bool). b || list_any (λ (class : List ℕ). P.links.below class c.args.name.now) c.in-Some.more.now) first)

pub returns : goal.returns
returns c = λ P is.
    let none : c.loop-class.rest.now ≡ [] = grind (arith, common_steps) in
    sym (c.loop-class.invariant P is ∙ ap (list_any (λ (class : List ℕ). P.links.below class c.args.name.now)) none)
