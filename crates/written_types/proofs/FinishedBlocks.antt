-- Finished blocks, as the blocks that they finish: one stands between others in both lists, and ends as those behind it say.
use Rattle.std.proofs.Common.{◌≡◌, ◌⊎◌, ◌+◌, ℕ, suc, List, [], ◌∷◌, ◌++◌, drop, slice_get, Option, Some, None, refl, sym, ap, subst, ◌∙◌, inl, inr, arith}
use Rattle.flow_code.specs.FlatCode.{FlatCode}
use Rattle.flow_code.specs.declared.point.Point.{Point}
use Rattle.plan_flow.specs.Written.Blocks.{Block, of_reached}
use Rattle.plan_flow.specs.Written.Finish.{Finished, end_of, finish}
use Rattle.plan_flow.specs.Written.Routes.{Route, Routes}

-- ---- lists

pub first_is : {A : Type 0} (one other : A) (ones others : List A) → one ∷ ones ≡ other ∷ others → one ≡ other
first_is one other ones others is = cc

pub rest_is : {A : Type 0} (one other : A) (ones others : List A) → one ∷ ones ≡ other ∷ others → ones ≡ others
rest_is one other ones others is = cc

-- one of a list, between others
pub record Between {A : Type 0} (all : List A) (item : A) (right : List A) : Type 0 where
  pub left : List A
  pub is : all ≡ left ++ (item ∷ right)

-- what stands in two lists stands in the first or in the second
pub record InFirst {A : Type 0} (first second : List A) (item : A) (right : List A) : Type 0 where
  pub middle : List A
  pub between : Between first item middle
  pub is : right ≡ middle ++ second

pub in_two : {A : Type 0} (first second left right : List A) (item : A)
    → first ++ second ≡ left ++ (item ∷ right)
    → InFirst first second item right ⊎ Between second item right
in_two [] second left right item is = inr (record { left = left; is = is })
in_two {A = A} (one ∷ first) second [] right item is =
    inl (record {
      middle = first;
      between = record { left = []; is = ap (λ (x : A). x ∷ first) (first_is one item (first ++ second) right is) };
      is = sym (rest_is one item (first ++ second) right is);
    })
in_two {A = A} (one ∷ first) second (other ∷ left) right item is =
    behind (in_two first second left right item (rest_is one other (first ++ second) (left ++ (item ∷ right)) is)) where
      behind : InFirst first second item right ⊎ Between second item right → InFirst (one ∷ first) second item right ⊎ Between second item right
      behind (inl there) =
          inl (record {
            middle = there.middle;
            between = record { left = one ∷ there.between.left; is = ap (λ (xs : List A). one ∷ xs) there.between.is };
            is = there.is;
          })
      behind (inr there) = inr there

-- what stands in a list of one
pub in_one : {A : Type 0} (one item : A) (left right : List A) → one ∷ [] ≡ left ++ (item ∷ right) → (item ≡ one) × (right ≡ [])
in_one one item [] right is = (sym (first_is one item [] right is), sym (rest_is one item [] right is))
in_one one item (first ∷ []) right is = absurd (nothing (rest_is one first [] (item ∷ right) is)) where
  nothing : [] ≡ item ∷ right → ⊥
  nothing e = absurd cc
in_one one item (first ∷ second ∷ left) right is = absurd (nothing (rest_is one first [] (second ∷ left ++ (item ∷ right)) is)) where
  nothing : [] ≡ second ∷ left ++ (item ∷ right) → ⊥
  nothing e = absurd cc

pub in_none : {A : Type 0} (item : A) (left right : List A) → [] ≡ left ++ (item ∷ right) → ⊥
in_none item [] right is = absurd cc
in_none item (first ∷ left) right is = absurd cc

-- ---- finished blocks

pub record FinishedAt (flat : FlatCode) (blocks : List Block) (one : Finished) (behind : List Finished) : Type 0 where
  pub right : List Block
  pub between : Between blocks one.block right
  pub behind_is : behind ≡ finish flat right
  pub end_is : one.end ≡ end_of flat one.block behind

pub finished_at : (flat : FlatCode) (blocks : List Block) (front behind : List Finished) (one : Finished)
    → finish flat blocks ≡ front ++ (one ∷ behind)
    → FinishedAt flat blocks one behind
finished_at flat [] front behind one is = absurd (in_none one front behind is)
finished_at flat (block ∷ blocks) [] behind one is =
    let same : record { block = block; end = end_of flat block (finish flat blocks) } ≡ one = first_is _ one (finish flat blocks) behind is in
    let rest : finish flat blocks ≡ behind = rest_is _ one (finish flat blocks) behind is in
    let same_block : block ≡ one.block = ap (λ (x : Finished). x.block) same in
    record {
      right = blocks;
      between = record { left = []; is = ap (λ (b : Block). b ∷ blocks) same_block };
      behind_is = sym rest;
      end_is =
          sym (ap (λ (x : Finished). x.end) same)
          ∙ ap (λ (b : Block). end_of flat b (finish flat blocks)) same_block
          ∙ ap (end_of flat one.block) rest;
    }
finished_at flat (block ∷ blocks) (first ∷ front) behind one is =
    let there = finished_at flat blocks front behind one (rest_is _ first (finish flat blocks) (front ++ (one ∷ behind)) is) in
    record {
      right = there.right;
      between = record { left = block ∷ there.between.left; is = ap (λ (bs : List Block). block ∷ bs) there.between.is };
      behind_is = there.behind_is;
      end_is = there.end_is;
    }

-- ---- of reached points

-- One of what is made of reached points is one of a point's, and behind it stand the others of that point, and those of points behind.
pub record OfPoint (blocks : ℕ → Point → Route → List Block) (from : ℕ) (points : List Point) (routes : Routes) (block : Block)
    (right : List Block)
    : Type 0 where
  pub at : ℕ
  pub point : Point
  pub there : slice_get points at ≡ Some point
  pub route : Route
  pub is_route : slice_get routes at ≡ Some (Some route)
  pub middle : List Block
  pub between : Between (blocks (from + at) point route) block middle
  pub is : right ≡ middle ++ of_reached blocks (from + suc at) (drop (suc at) points) (drop (suc at) routes)

of_later : (blocks : ℕ → Point → Route → List Block) (from : ℕ) (point : Point) (points : List Point) (first : Option Route) (routes : Routes)
    (block : Block) (right : List Block)
    → OfPoint blocks (suc from) points routes block right
    → OfPoint blocks from (point ∷ points) (first ∷ routes) block right
of_later blocks from point points first routes block right later = record {
  at = suc later.at;
  point = later.point;
  there = later.there;
  route = later.route;
  is_route = later.is_route;
  middle = later.middle;
  between =
      subst (λ (n : ℕ). Between (blocks n later.point later.route) block later.middle)
      (the_same (suc from + later.at) (from + suc later.at) (omega arith)) later.between;
  is =
      later.is
      ∙ ap (λ (n : ℕ). later.middle ++ of_reached blocks n (drop (suc later.at) points) (drop (suc later.at) routes))
      (the_same (suc from + suc later.at) (from + suc (suc later.at)) (omega arith));
} where
  the_same : (a b : ℕ) → a ≡ b → a ≡ b
  the_same a b e = e

pub of_some_point : (blocks : ℕ → Point → Route → List Block) (from : ℕ) (points : List Point) (routes : Routes) (block : Block)
    (left right : List Block)
    → of_reached blocks from points routes ≡ left ++ (block ∷ right)
    → OfPoint blocks from points routes block right
of_some_point blocks from [] routes block left right is = absurd (in_none block left right is)
of_some_point blocks from (point ∷ points) [] block left right is = absurd (in_none block left right is)
of_some_point blocks from (point ∷ points) (None ∷ routes) block left right is =
    of_later blocks from point points None routes block right (of_some_point blocks (suc from) points routes block left right is)
of_some_point blocks from (point ∷ points) (Some route ∷ routes) block left right is =
    either (in_two (blocks from point route) (of_reached blocks (suc from) points routes) left right block is)
    (λ more same. of_some_point blocks (suc from) points routes block more right same) where
      either : InFirst (blocks from point route) (of_reached blocks (suc from) points routes) block right
          ⊎ Between (of_reached blocks (suc from) points routes) block right
          → ((more : List Block)
          → of_reached blocks (suc from) points routes ≡ more ++ (block ∷ right)
          → OfPoint blocks (suc from) points routes block right)
          → OfPoint blocks from (point ∷ points) (Some route ∷ routes) block right
      either (inl here) rest = record {
        at = 0;
        point = point;
        there = refl;
        route = route;
        is_route = refl;
        middle = here.middle;
        between = subst (λ (n : ℕ). Between (blocks n point route) block here.middle) (the_same from (from + 0) (omega arith)) here.between;
        is =
            here.is
            ∙ ap (λ (n : ℕ). here.middle ++ of_reached blocks n points routes) (the_same (suc from) (from + 1) (omega arith));
      } where
        the_same : (a b : ℕ) → a ≡ b → a ≡ b
        the_same a b e = e
      either (inr later) rest = of_later blocks from point points (Some route) routes block right (rest later.left later.is)
