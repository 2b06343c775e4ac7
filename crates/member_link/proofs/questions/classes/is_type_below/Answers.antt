use Rattle.std.proofs.Common.{◌≡◌, Bool, true, false, IsTrue, refl, sym}
use Rattle.member_link.specs.Laws.ProgramHeaders.{links_are}
use Rattle.member_link.proofs.questions.classes.is_type_below.Goals as goal

-- tests that are true together are the same
same_truth : (one other : Bool) → (IsTrue one → IsTrue other) → (IsTrue other → IsTrue one) → one ≡ other
same_truth true other there back = sym (there refl)
same_truth false true there back = back refl
same_truth false false there back = refl

pub returns : goal.returns
returns c = λ P is.
    let below = (links_are c.args.tree.now P is).below c.args.low.now c.args.high.now in
    same_truth c.is_subtype.result (P.links.below c.args.low.now c.args.high.now) (λ yes. below.1 (c.is_subtype.ensures.0 yes)) (λ yes. c.is_subtype.ensures.1 (below.0 yes))
