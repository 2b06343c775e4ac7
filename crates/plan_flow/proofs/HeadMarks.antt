-- Heads of blocks are marked, point by point.
use Rattle.std.proofs.Common.{◌≡◌, ℕ, ◌<◌, ◌≤◌, ◌+◌, ◌==◌, ◌||◌, ◌&&◌, zero, suc, Bool, true, false, List, [], ◌∷◌, take, length, replicate, slice_get, slice_set, Option, Some, None, IsTrue, IsFalse, refl, sym, ap, subst, ◌∙◌, inl, inr, ◌⊎◌, arith, if◌then◌else◌}
use Rattle.std.proofs.lemmas.Bool.{cases_Bool, or_cases, or_left, or_right, eq-eqb, eqb-true, ne_eqb}
use Rattle.std.proofs.lemmas.List.{length-replicate}
use Rattle.std.proofs.lemmas.Option.{none-some, same_Some}
use Rattle.flow_code.specs.FlatCode.{FlatCode, point_at}
use Rattle.flow_code.specs.declared.point.FlatInstr.{FlatInstr}
use Rattle.flow_code.specs.declared.point.Point.{Point}
use Rattle.plan_flow.specs.Inner.Blocks.{AreHeadsUpTo, AreMarked, HoldHeads, IsHead, IsMarkedBy, at_start, branches, caught_by, has_some, made_by, makes_head, marked, may_throw}
use Rattle.plan_flow.specs.Inner.Reaching.{Reached, reached_in}
use Rattle.plan_flow.specs.Inner.Sharing.{AreTargetsOf, points_of}
use Rattle.plan_flow.specs.PlanTable.{targets_at}
use Rattle.virtual_state.specs.Sites.{has}
use Rattle.virtual_state.specs.States.{State}
use Rattle.virtual_state.specs.Laws.Objects.{same_or_not}
use Rattle.plan_flow.proofs.Following.{or_false}
use Rattle.plan_flow.proofs.LeastPlans.{nothing_at}
use Rattle.plan_flow.proofs.PointLists.{none_reached}
use Rattle.plan_flow.proofs.Straight.{some_alike}

or_again : (a b c : Bool) → (a || (b || c)) ≡ ((a || b) || c)
or_again true b c = refl
or_again false b c = refl

pub in_or_out : (at count : ℕ) → (at < count) ⊎ (count ≤ at)
in_or_out at zero = inr (omega arith)
in_or_out zero (suc count) = inl (omega arith)
in_or_out (suc at) (suc count) = elim (in_or_out at count) [
  | inl inside ↦ inl (omega (arith, inside))
  | inr past ↦ inr (omega (arith, past))
]

-- ---- one point

set_here : (heads : List Bool) (at : ℕ) → at < length heads → marked (slice_set heads at true) at ≡ true
set_here [] at inside = absurd (omega (arith, inside))
set_here (head ∷ heads) zero inside = refl
set_here (head ∷ heads) (suc at) inside = set_here heads at (omega (arith, inside))

set_other : (heads : List Bool) (at place : ℕ) → (at ≡ place → ⊥) → marked (slice_set heads at true) place ≡ marked heads place
set_other [] at place differ = refl
set_other (head ∷ heads) zero zero differ = absurd (differ refl)
set_other (head ∷ heads) zero (suc place) differ = refl
set_other (head ∷ heads) (suc at) zero differ = refl
set_other (head ∷ heads) (suc at) (suc place) differ = set_other heads at place (λ same. differ (ap suc same))

pub set_marked : (heads : List Bool) (at place : ℕ) → at < length heads → marked (slice_set heads at true) place ≡ (marked heads place || (at == place || false))
set_marked heads at place inside = elim (same_or_not at place) [
  | inl same ↦
      subst (λ (n : ℕ). marked (slice_set heads at true) n ≡ true) same (set_here heads at inside)
      ∙ sym (or_right (marked heads place) (at == place || false) (or_left (at == place) false (eq-eqb at place same)))
  | inr differ ↦ set_other heads at place differ ∙ sym (ap (λ (b : Bool). marked heads place || (b || false)) (ne_eqb at place differ) ∙ or_false (marked heads place))
]

pub outside_marked : (heads : List Bool) (at : ℕ) → length heads ≤ at → marked heads at ≡ true
outside_marked [] at past = refl
outside_marked (head ∷ heads) zero past = absurd (omega (arith, past))
outside_marked (head ∷ heads) (suc at) past = outside_marked heads at (omega (arith, past))

pub not_set : (heads : List Bool) (at place : ℕ) → length heads ≤ at → marked heads place ≡ (marked heads place || (at == place || false))
not_set heads at place past = elim (same_or_not at place) [
  | inl same ↦
      let out = outside_marked heads place (subst (λ (n : ℕ). length heads ≤ n) same past) in
      out ∙ sym (or_left (marked heads place) (at == place || false) out)
  | inr differ ↦ sym (ap (λ (b : Bool). marked heads place || (b || false)) (ne_eqb at place differ) ∙ or_false (marked heads place))
]

-- ---- points of a list

pub marked_none : (heads : List Bool) → AreMarked heads heads []
marked_none heads = record { len = refl; same = λ at. sym (or_false (marked heads at)) }

has_taken :
    (list : List ℕ) (number to at : ℕ)
    → slice_get list number ≡ Some to
    → has (take (suc number) list) at ≡ (has (take number list) at || (to == at || false))
has_taken [] number to at is = absurd (none-some to is)
has_taken (first ∷ list) zero to at is = ap (λ (n : ℕ). n == at || false) (same_Some first to is)
has_taken (first ∷ list) (suc number) to at is =
    ap (λ (b : Bool). first == at || b) (has_taken list number to at is)
    ∙ or_again (first == at) (has (take number list) at) (to == at || false)

pub marked_more :
    (one two three : List Bool) (list : List ℕ) (number to : ℕ)
    → AreMarked one two (take number list)
    → AreMarked two three (to ∷ [])
    → slice_get list number ≡ Some to
    → AreMarked one three (take (suc number) list)
marked_more one two three list number to low high is = record {
  len = high.len ∙ low.len;
  same = λ at.
      high.same at ∙ ap (λ (b : Bool). b || (to == at || false)) (low.same at)
      ∙ sym (or_again (marked one at) (has (take number list) at) (to == at || false))
      ∙ ap (λ (b : Bool). marked one at || b) (sym (has_taken list number to at is));
}

pub took_past : (list : List ℕ) (number : ℕ) → length list ≤ number → take number list ≡ list
took_past [] zero past = refl
took_past [] (suc number) past = refl
took_past (first ∷ list) zero past = absurd (omega (arith, past))
took_past (first ∷ list) (suc number) past = ap (λ (rest : List ℕ). first ∷ rest) (took_past list number (omega (arith, past)))

-- ---- the heads that a point makes

pub caught_alike :
    (point : Point) (instr : FlatInstr) (targets caught : List ℕ)
    → point.instr ≡ instr
    → AreTargetsOf point.handlers targets
    → caught ≡ (if may_throw instr then targets else [])
    → (to : ℕ)
    → has caught to ≡ has (caught_by point) to
caught_alike point instr targets caught same are is to =
    let is_here : caught ≡ (if may_throw point.instr then targets else []) = is ∙ ap (λ (i : FlatInstr). if may_throw i then targets else []) (sym same) in
    elim (cases_Bool (may_throw point.instr)) [
      | inl may ↦
          let one : caught ≡ targets = is_here ∙ rw may refl in
          let two : caught_by point ≡ points_of point.handlers = rw may refl in
          ap (λ (list : List ℕ). has list to) one ∙ are.same to ∙ ap (λ (list : List ℕ). has list to) (sym two)
      | inr not ↦
          let one : caught ≡ [] = is_here ∙ rw not refl in
          let two : caught_by point ≡ [] = rw not refl in
          ap (λ (list : List ℕ). has list to) (one ∙ sym two)
    ]

pub branches_alike :
    (point : Point) (instr : FlatInstr) (caught : List ℕ) (told : Bool)
    → point.instr ≡ instr
    → ((to : ℕ) → has caught to ≡ has (caught_by point) to)
    → told ≡ (has_some (targets_at instr) || has_some caught)
    → told ≡ branches point
branches_alike point instr caught told same alike is =
    is
    ∙ (λ i. has_some (targets_at (sym same i)) || some_alike caught (caught_by point) alike i)

pub marked_by :
    (at : ℕ) (point : Point) (instr : FlatInstr) (one two three four : List Bool) (caught : List ℕ)
    → point.instr ≡ instr
    → AreMarked one two (targets_at instr)
    → AreMarked two three caught
    → ((to : ℕ) → has caught to ≡ has (caught_by point) to)
    → (IsTrue (branches point) → AreMarked three four ((at + 1) ∷ []))
    → (IsFalse (branches point) → four ≡ three)
    → IsMarkedBy at point one four
marked_by at point instr one two three four caught same jumps throws alike goes stays =
    let both : (to : ℕ) → marked three to ≡ (marked one to || (has (targets_at point.instr) to || has (caught_by point) to)) =
    λ to.
    throws.same to ∙ (λ i. jumps.same to i || alike to i)
    ∙ sym (or_again (marked one to) (has (targets_at instr) to) (has (caught_by point) to))
    ∙ ap (λ (i : FlatInstr). marked one to || (has (targets_at i) to || has (caught_by point) to)) (sym same) in
    elim (cases_Bool (branches point)) [
      | inl branch ↦
          let next = goes branch in
          record {
            len = next.len ∙ throws.len ∙ jumps.len;
            same = λ to.
                let last : (at + 1 == to || false) ≡ (branches point && (at + 1 == to)) = or_false (at + 1 == to) ∙ ap (λ (b : Bool). b && (at + 1 == to)) (sym branch) in
                next.same to ∙ (λ i. both to i || last i)
                ∙ sym (or_again (marked one to) (has (targets_at point.instr) to || has (caught_by point) to) (branches point && (at + 1 == to)));
          }
      | inr straight ↦
          let gone = stays straight in
          record {
            len = ap (λ (heads : List Bool). length heads) gone ∙ throws.len ∙ jumps.len;
            same = λ to.
                let last : false ≡ (branches point && (at + 1 == to)) = ap (λ (b : Bool). b && (at + 1 == to)) (sym straight) in
                ap (λ (heads : List Bool). marked heads to) gone ∙ both to ∙ sym (or_false (marked one to || (has (targets_at point.instr) to || has (caught_by point) to)))
                ∙ ap (λ (b : Bool). (marked one to || (has (targets_at point.instr) to || has (caught_by point) to)) || b) last
                ∙ sym (or_again (marked one to) (has (targets_at point.instr) to || has (caught_by point) to) (branches point && (at + 1 == to)));
          }
    ]

-- ---- the heads that all points make

blank_marked : (count at : ℕ) → at < count → marked (replicate count false) at ≡ false
blank_marked zero at inside = absurd (omega (arith, inside))
blank_marked (suc count) zero inside = refl
blank_marked (suc count) (suc at) inside = blank_marked count at (omega (arith, inside))

pub heads_start :
    (flat : FlatCode) (blank heads : List Bool)
    → blank ≡ replicate (length flat.points) false
    → AreMarked blank heads (0 ∷ [])
    → AreHeadsUpTo flat heads 0
heads_start flat blank heads is first = record {
  len = first.len ∙ ap (λ (list : List Bool). length list) is ∙ length-replicate (length flat.points) false;
  start = first.same 0 ∙ or_right (marked blank 0) (0 == 0 || false) refl;
  only = λ at inside there.
      let none : marked blank at ≡ false = ap (λ (list : List Bool). marked list at) is ∙ blank_marked (length flat.points) at inside in
      let here : (0 == at || false) ≡ true = sym (ap (λ (b : Bool). b || (0 == at || false)) none) ∙ sym (first.same at) ∙ there in
      subst (IsHead flat) (eqb-true 0 at (sym (or_false (0 == at)) ∙ here)) at_start;
  each = λ at to point inside is_point makes. absurd (omega (arith, inside));
}

pub heads_more :
    (flat : FlatCode) (one other : List Bool) (count : ℕ) (point : Point)
    → AreHeadsUpTo flat one count
    → point_at flat count ≡ Some point
    → IsMarkedBy count point one other
    → AreHeadsUpTo flat other (count + 1)
heads_more flat one other count point old is_point by_point = record {
  len = by_point.len ∙ old.len;
  start = by_point.same 0 ∙ or_left (marked one 0) (makes_head count point 0) old.start;
  only = λ at inside there. elim (or_cases (marked one at) (makes_head count point at) (sym (by_point.same at) ∙ there)) [
    | inl before ↦ old.only at inside before
    | inr makes ↦ made_by count at point is_point makes
  ];
  each = λ at to also inside is_also makes. elim (same_or_not count at) [
    | inl same ↦
        let same_point : also ≡ point = same_Some also point (sym is_also ∙ ap (point_at flat) (sym same) ∙ is_point) in
        let made : IsTrue (makes_head count point to) = subst (λ (n : ℕ). IsTrue (makes_head n point to)) (sym same) (subst (λ (p : Point). IsTrue (makes_head at p to)) same_point makes) in
        by_point.same to ∙ or_right (marked one to) (makes_head count point to) made
    | inr differ ↦ by_point.same to ∙ or_left (marked one to) (makes_head count point to) (old.each at to also (omega (arith, inside, differ)) is_also makes)
  ];
}

-- ---- the table of the iteration

pub blank_holds : (heads : List Bool) (states : List (Option State)) (count : ℕ) → count ≡ length heads → states ≡ replicate count None → HoldHeads heads states
blank_holds heads states count len is = record {
  len = ap (λ (list : List (Option State)). length list) is ∙ length-replicate count None ∙ len;
  each = λ at state found.
      absurd (none-some state (sym (ap (λ (list : List (Option State)). reached_in list at) is ∙ ap (λ (states : Reached). states at) (none_reached count) ∙ nothing_at at) ∙ found));
}
