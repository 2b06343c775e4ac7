use Rattle.std.proofs.Common.{◌≡◌, List, [], ◌∷◌, ◌++◌, sym, ap, ◌∙◌, append_assoc}
use Rattle.map_frames.proofs.local_units.behind_common.Goals as goal

one_more : {X : Type 0} (all common front behind : List X) (x : X) → all ≡ common ++ front → front ≡ x ∷ behind → all ≡ (common ++ x ∷ []) ++ behind
one_more all common front behind x whole first =
    whole ∙ ap (λ (items : List _). common ++ items) first ∙ sym (append_assoc common (x ∷ []) behind)

pub loop-less_gone-preserved : goal.loop-less_gone-preserved
loop-less_gone-preserved c =
    let so_far = c.loop-less_gone.invariant in
    let same = c.in-Some.ensures.some in
    (so_far.0 ++ same.first ∷ [], one_more _ so_far.0 _ _ same.first so_far.1 same.ones_are, one_more _ so_far.0 _ _ same.first so_far.2 same.others_are)
