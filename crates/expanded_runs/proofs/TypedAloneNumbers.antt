-- The numbers of instructions by their offsets, and the points of a method by itself by their numbers.
use Rattle.std.proofs.Common.{◌≡◌, ◌≢◌, ◌<◌, ◌+◌, ℕ, zero, suc, Bool, true, false, List, [], ◌∷◌, length, map, slice_get, Option, Some, None, if◌then◌else◌, refl, sym, ap, subst, ◌∙◌, arith, eq-eqb}
use Rattle.std.specs.Prelude.{◌==◌}
use Rattle.std.proofs.lemmas.Bool.{eqb-true, ne_eqb, false≢true}
use Rattle.std.proofs.lemmas.Option.{same_Some}
use Rattle.class_model.specs.Laws.Lists.{at_index}
use Rattle.class_model.specs.declared.frame.Frame.{Frame}
use Rattle.class_model.specs.declared.instr.Placed.{Placed}
use Rattle.expanded_code.specs.Alone.{alone_point, alone_points, number_in}
use Rattle.flow_code.specs.declared.point.Point.{Point}
use Rattle.member_link.specs.BodyTyping.{AreInOrder, frame_among}
use Rattle.member_link.specs.Machine.Programs.{number_of_first}
use Rattle.member_link.specs.Scope.{Scope}
use Rattle.type_rules.specs.Laws.InstructionOrder.{Ascend, ascend}
use Rattle.type_rules.specs.MethodBodies.{point_of}

-- ---- numbers

number_cons : (placed : Placed) (instrs : List Placed) (at : ℕ)
    → number_in (placed ∷ instrs) at ≡ (if placed.at == at then zero else suc (number_in instrs at))
number_cons placed instrs at = by (placed.at == at) refl (number_of_first (λ p. p.at == at) instrs) refl where
  by : (here : Bool) → (placed.at == at) ≡ here → (found : Option ℕ) → number_of_first (λ p. p.at == at) instrs ≡ found
      → number_in (placed ∷ instrs) at ≡ (if placed.at == at then zero else suc (number_in instrs at))
  by true e found is = rw e refl
  by false e None is = rw (e, is) refl
  by false e (Some n) is = rw (e, is) refl

pub number_if : (placed : Placed) (instrs : List Placed) (at : ℕ) (here : Bool) → (placed.at == at) ≡ here
    → number_in (placed ∷ instrs) at ≡ (if here then zero else suc (number_in instrs at))
number_if placed instrs at here is = number_cons placed instrs at ∙ ap (λ (b : Bool). if b then zero else suc (number_in instrs at)) is

pub number_here : (placed : Placed) (instrs : List Placed) (at : ℕ) → placed.at ≡ at → number_in (placed ∷ instrs) at ≡ zero
number_here placed instrs at is = number_if placed instrs at true (eq-eqb placed.at at is)

number_behind : (placed : Placed) (instrs : List Placed) (at : ℕ) → placed.at ≢ at
    → number_in (placed ∷ instrs) at ≡ suc (number_in instrs at)
number_behind placed instrs at not = number_if placed instrs at false (ne_eqb placed.at at not)

-- ---- in order

in_ascent : (instrs : List Placed) → Ascend instrs → (n : ℕ) (placed : Placed) → slice_get instrs n ≡ Some placed
    → number_in instrs placed.at ≡ n
in_ascent [] order n placed is = absurd cc
in_ascent (first ∷ instrs) order zero placed is = number_here first instrs placed.at (ap (λ (p : Placed). p.at) (same_Some first placed is))
in_ascent (first ∷ instrs) order (suc n) placed is =
    let before : first.at < placed.at = at_index (λ (q : Placed). first.at < q.at) instrs n placed order.0 is in
    number_behind first instrs placed.at (λ e. omega (arith, before, e)) ∙ ap suc (in_ascent instrs order.1 n placed is)

-- the number of an instruction's offset is its own
pub number_of_placed : (s : Scope) (instrs : List Placed) → AreInOrder (map (point_of s) instrs) → (n : ℕ) (placed : Placed)
    → slice_get instrs n ≡ Some placed → number_in instrs placed.at ≡ n
number_of_placed s instrs order = in_ascent instrs (ascend s instrs order)

-- the number of the offset behind it is the next one
pub number_of_next : (s : Scope) (instrs : List Placed) → AreInOrder (map (point_of s) instrs) → (n : ℕ) (placed : Placed)
    → slice_get instrs n ≡ Some placed → number_in instrs (placed.at + placed.len) ≡ suc n
number_of_next s [] order n placed is = absurd cc
number_of_next s (first ∷ []) order zero placed is =
    subst (λ (p : Placed). number_in (first ∷ []) (p.at + p.len) ≡ 1) (same_Some first placed is)
    (number_behind first [] (first.at + first.len) (λ e. omega (arith, order.0, e)))
number_of_next s (first ∷ second ∷ instrs) order zero placed is =
    subst (λ (p : Placed). number_in (first ∷ second ∷ instrs) (p.at + p.len) ≡ 1) (same_Some first placed is)
    (number_behind first (second ∷ instrs) (first.at + first.len) (λ e. omega (arith, order.0, e))
    ∙ ap suc (number_here second instrs (first.at + first.len) order.1))
number_of_next s (first ∷ instrs) order (suc n) placed is =
    let before : first.at < placed.at = at_index (λ (q : Placed). first.at < q.at) instrs n placed (ascend s (first ∷ instrs) order).0 is in
    number_behind first instrs (placed.at + placed.len) (λ e. omega (arith, before, e))
    ∙ ap suc (number_of_next s instrs order.2 n placed is)

-- ---- what stands at a number

pub record IsNumber (instrs : List Placed) (at n : ℕ) : Type 0 where
  pub placed : Placed
  pub stands : slice_get instrs n ≡ Some placed
  pub place_is : placed.at ≡ at

pub is_number : (instrs : List Placed) (at n : ℕ) → number_in instrs at ≡ n → n < length instrs → IsNumber instrs at n
is_number [] at n is within = absurd (omega (arith, within))
is_number (first ∷ instrs) at n is within = by (first.at == at) refl n is within (is_number instrs at) where
  by : (here : Bool) → (first.at == at) ≡ here → (n : ℕ) → number_in (first ∷ instrs) at ≡ n → n < length (first ∷ instrs)
      → ((k : ℕ) → number_in instrs at ≡ k → k < length instrs → IsNumber instrs at k) → IsNumber (first ∷ instrs) at n
  by true e zero is within below = record { placed = first; stands = refl; place_is = eqb-true first.at at e }
  by true e (suc n) is within below =
      let here : number_in (first ∷ instrs) at ≡ zero = number_if first instrs at true e in
      absurd cc
  by false e zero is within below =
      let behind : number_in (first ∷ instrs) at ≡ suc (number_in instrs at) = number_if first instrs at false e in
      absurd cc
  by false e (suc n) is within below =
      let behind : number_in (first ∷ instrs) at ≡ suc (number_in instrs at) = number_if first instrs at false e in
      let same : number_in instrs at ≡ n = cc in
      let found : IsNumber instrs at n = below n same (omega (arith, within)) in
      record { placed = found.placed; stands = found.stands; place_is = found.place_is }

-- no other offset has the number of an instruction
pub apart : (instrs : List Placed) (at : ℕ) → number_in instrs at < length instrs → (other : ℕ)
    → (number_in instrs other == number_in instrs at) ≡ (other == at)
apart instrs at within other = by (other == at) refl where
  by : (same : Bool) → (other == at) ≡ same → (number_in instrs other == number_in instrs at) ≡ same
  by true e = eq-eqb (number_in instrs other) (number_in instrs at) (ap (number_in instrs) (eqb-true other at e))
  by false e = ne_eqb (number_in instrs other) (number_in instrs at) (λ equal.
      let here : IsNumber instrs at (number_in instrs at) = is_number instrs at (number_in instrs at) refl within in
      let there : IsNumber instrs other (number_in instrs at) = is_number instrs other (number_in instrs at) equal within in
      let same : there.placed ≡ here.placed = same_Some there.placed here.placed (sym there.stands ∙ here.stands) in
      let place : other ≡ at = sym there.place_is ∙ ap (λ (p : Placed). p.at) same ∙ here.place_is in
      false≢true (sym e ∙ eq-eqb other at place))

-- ---- frames by place, and points by number

pub frame_found : (s : Scope) (instrs : List Placed) (frames : List Frame) (place : ℕ) (frame : Frame)
    → frame_among (map (point_of s) instrs) frames place ≡ Some frame → slice_get frames (number_in instrs place) ≡ Some frame
frame_found s [] frames place frame is = absurd cc
frame_found s (placed ∷ instrs) [] place frame is = absurd cc
frame_found s (placed ∷ instrs) (own ∷ frames) place frame is =
    by (placed.at == place) refl is (frame_found s instrs frames place frame) where
      by : (here : Bool) → (placed.at == place) ≡ here
          → (if here then Some own else frame_among (map (point_of s) instrs) frames place) ≡ Some frame
          → (frame_among (map (point_of s) instrs) frames place ≡ Some frame → slice_get frames (number_in instrs place) ≡ Some frame)
          → slice_get (own ∷ frames) (number_in (placed ∷ instrs) place) ≡ Some frame
      by true e found below = ap (slice_get (own ∷ frames)) (number_if placed instrs place true e) ∙ found
      by false e found below = ap (slice_get (own ∷ frames)) (number_if placed instrs place false e) ∙ below found

module _ (s : Scope) (class : ℕ) where
  pub point_there : (instrs : List Placed) (frames : List Frame) (n : ℕ) (placed : Placed) (frame : Frame)
      → slice_get instrs n ≡ Some placed → slice_get frames n ≡ Some frame
      → slice_get (alone_points s class instrs frames) n ≡ Some (alone_point s class placed frame)
  point_there [] frames n placed frame is frame_is = absurd cc
  point_there (first ∷ instrs) [] n placed frame is frame_is = absurd cc
  point_there (first ∷ instrs) (own ∷ frames) zero placed frame is frame_is =
      rw (same_Some first placed is, same_Some own frame frame_is) refl
  point_there (first ∷ instrs) (own ∷ frames) (suc n) placed frame is frame_is = point_there instrs frames n placed frame is frame_is

  pub record IsPointOf (instrs : List Placed) (frames : List Frame) (n : ℕ) (point : Point) : Type 0 where
    pub placed : Placed
    pub stands : slice_get instrs n ≡ Some placed
    pub frame : Frame
    pub frame_is : slice_get frames n ≡ Some frame
    pub point_is : alone_point s class placed frame ≡ point

  pub point_parts : (instrs : List Placed) (frames : List Frame) (n : ℕ) (point : Point)
      → slice_get (alone_points s class instrs frames) n ≡ Some point → IsPointOf instrs frames n point
  point_parts [] [] n point is = absurd cc
  point_parts [] (own ∷ frames) n point is = absurd cc
  point_parts (first ∷ instrs) [] n point is = absurd cc
  point_parts (first ∷ instrs) (own ∷ frames) zero point is = record {
    placed = first;
    stands = refl;
    frame = own;
    frame_is = refl;
    point_is = same_Some _ point is;
  }
  point_parts (first ∷ instrs) (own ∷ frames) (suc n) point is =
      let later = point_parts instrs frames n point is in
      record { placed = later.placed; stands = later.stands; frame = later.frame; frame_is = later.frame_is; point_is = later.point_is }

  -- one for each instruction
  pub points_counted : (instrs : List Placed) (frames : List Frame) → length frames ≡ length instrs
      → length (alone_points s class instrs frames) ≡ length instrs
  points_counted [] [] same = refl
  points_counted [] (own ∷ frames) same = refl
  points_counted (first ∷ instrs) [] same = absurd (omega (arith, same))
  points_counted (first ∷ instrs) (own ∷ frames) same = ap suc (points_counted instrs frames (omega (arith, same)))
