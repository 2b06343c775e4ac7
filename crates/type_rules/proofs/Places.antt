-- The places of a body whose points stand in order.
use Rattle.std.proofs.Common.{◌≡◌, ◌≢◌, ◌<◌, ◌≤◌, ℕ, zero, suc, Bool, true, false, List, [], ◌∷◌, length, slice_get, Some, None, refl, sym, ap, subst, ◌∙◌, arith, eq-eqb}
use Rattle.std.specs.Prelude.{◌==◌, if◌then◌else◌}
use Rattle.std.specs.List.{AllByRecursion}
use Rattle.std.proofs.lemmas.Bool.{eqb-true, ne_eqb}
use Rattle.std.proofs.lemmas.Option.{same_Some}
use Rattle.class_model.specs.declared.frame.Frame.{Frame}
use Rattle.member_link.specs.Bodies.{BodyPoint}
use Rattle.member_link.specs.BodyTyping.{AreInOrder, BeginAt, frame_among}

-- ---- points by their numbers

-- a place at the head or not
pub at_head : (point : BodyPoint) (points : List BodyPoint) (frame : Frame) (frames : List Frame) (place : ℕ) → point.place ≡ place → frame_among (point ∷ points) (frame ∷ frames) place ≡ Some frame
at_head point points frame frames place is = ap (λ (b : Bool). if b then Some frame else frame_among points frames place) (eq-eqb point.place place is)

pub not_head : (point : BodyPoint) (points : List BodyPoint) (frame : Frame) (frames : List Frame) (place : ℕ) → point.place ≢ place → frame_among (point ∷ points) (frame ∷ frames) place ≡ frame_among points frames place
not_head point points frame frames place not = ap (λ (b : Bool). if b then Some frame else frame_among points frames place) (ne_eqb point.place place not)

-- each stands at the place of the first or behind it
pub from_first : (points : List BodyPoint) (at : ℕ) → BeginAt at points → AreInOrder points → (number : ℕ) (point : BodyPoint) → slice_get points number ≡ Some point → at ≤ point.place
from_first [] at begin order number point is = absurd cc
from_first (first ∷ points) at begin order zero point is = omega (arith, begin, ap (λ (p : BodyPoint). p.place) (same_Some first point is))
from_first (first ∷ points) at begin order (suc number) point is =
    let rest : first.next ≤ point.place = from_first points first.next order.1 order.2 number point is in
    omega (arith, begin, order.0, rest)

-- and before the place behind it
pub goes_up : (points : List BodyPoint) → AreInOrder points → (number : ℕ) (point : BodyPoint) → slice_get points number ≡ Some point → point.place < point.next
goes_up [] order number point is = absurd cc
goes_up (first ∷ points) order zero point is = subst (λ (p : BodyPoint). p.place < p.next) (same_Some first point is) order.0
goes_up (first ∷ points) order (suc number) point is = goes_up points order.2 number point is

-- the place of the next
pub next_place : (points : List BodyPoint) → AreInOrder points → (number : ℕ) (point next : BodyPoint) → slice_get points number ≡ Some point → slice_get points (suc number) ≡ Some next → next.place ≡ point.next
next_place [] order number point next is then_is = absurd cc
next_place (first ∷ []) order zero point next is then_is = absurd cc
next_place (first ∷ second ∷ points) order zero point next is then_is =
    ap (λ (p : BodyPoint). p.place) (sym (same_Some second next then_is)) ∙ order.1 ∙ ap (λ (p : BodyPoint). p.next) (same_Some first point is)
next_place (first ∷ points) order (suc number) point next is then_is = next_place points order.2 number point next is then_is

-- ---- frames by place

-- the frame of a number stands at the place of its point
pub at_number : (points : List BodyPoint) (frames : List Frame) → AreInOrder points → (number : ℕ) (point : BodyPoint) (frame : Frame) → slice_get points number ≡ Some point → slice_get frames number ≡ Some frame → frame_among points frames point.place ≡ Some frame
at_number [] frames order number point frame is frame_is = absurd cc
at_number (first ∷ points) [] order number point frame is frame_is = absurd cc
at_number (first ∷ points) (own ∷ frames) order zero point frame is frame_is =
    at_head first points own frames point.place (ap (λ (p : BodyPoint). p.place) (same_Some first point is)) ∙ frame_is
at_number (first ∷ points) (own ∷ frames) order (suc number) point frame is frame_is =
    let behind : first.next ≤ point.place = from_first points first.next order.1 order.2 number point is in
    not_head first points own frames point.place (λ e. omega (arith, order.0, behind, e)) ∙ at_number points frames order.2 number point frame is frame_is

-- the number of the point at a place
pub record IsAt (points : List BodyPoint) (frames : List Frame) (place : ℕ) (frame : Frame) : Type 0 where
  pub number : ℕ
  pub point : BodyPoint
  pub stands : slice_get points number ≡ Some point
  pub place_is : point.place ≡ place
  pub frame_is : slice_get frames number ≡ Some frame

pub is_at : (points : List BodyPoint) (frames : List Frame) (place : ℕ) (frame : Frame) → frame_among points frames place ≡ Some frame → IsAt points frames place frame
is_at [] frames place frame is = absurd cc
is_at (first ∷ points) [] place frame is = absurd cc
is_at (first ∷ points) (own ∷ frames) place frame is = by (first.place == place) refl is (λ found. is_at points frames place frame found) where
  by : (here : Bool) → (first.place == place) ≡ here → (if here then Some own else frame_among points frames place) ≡ Some frame → (frame_among points frames place ≡ Some frame → IsAt points frames place frame) → IsAt (first ∷ points) (own ∷ frames) place frame
  by true e found below = record { number = 0; point = first; stands = refl; place_is = eqb-true _ _ e; frame_is = found }
  by false e found below =
      let later = below found in
      record { number = suc later.number; point = later.point; stands = later.stands; place_is = later.place_is; frame_is = later.frame_is }

-- a frame further down stands at its place in the whole
pub further_down : (first : BodyPoint) (points : List BodyPoint) (own : Frame) (frames : List Frame) (place : ℕ) (frame : Frame) → AreInOrder (first ∷ points) → frame_among points frames place ≡ Some frame → frame_among (first ∷ points) (own ∷ frames) place ≡ Some frame
further_down first points own frames place frame order found =
    let later = is_at points frames place frame found in
    let behind : first.next ≤ later.point.place = from_first points first.next order.1 order.2 later.number later.point later.stands in
    not_head first points own frames place (λ e. omega (arith, order.0, behind, e, later.place_is)) ∙ found

-- none stands behind the last
pub none_behind : (points : List BodyPoint) (frames : List Frame) → AreInOrder points → (number : ℕ) (point : BodyPoint) → slice_get points number ≡ Some point → slice_get points (suc number) ≡ None → (place : ℕ) → point.next ≤ place → frame_among points frames place ≡ None
none_behind [] frames order number point is none place past = absurd cc
none_behind (first ∷ points) [] order number point is none place past = refl
none_behind (first ∷ []) (own ∷ frames) order zero point is none place past =
    let up : first.place < point.next = subst (λ (p : BodyPoint). first.place < p.next) (same_Some first point is) order.0 in
    not_head first [] own frames place (λ e. omega (arith, up, past, e))
none_behind (first ∷ second ∷ points) (own ∷ frames) order zero point is none place past = absurd cc
none_behind (first ∷ points) (own ∷ frames) order (suc number) point is none place past =
    let behind : first.next ≤ point.place = from_first points first.next order.1 order.2 number point is in
    let up : point.place < point.next = goes_up points order.2 number point is in
    not_head first points own frames place (λ e. omega (arith, order.0, behind, up, past, e)) ∙ none_behind points frames order.2 number point is none place past

-- ---- each of a list

pub each_number : {A : Type 0} (P : A → Type 0) (xs : List A) → ((number : ℕ) (x : A) → slice_get xs number ≡ Some x → P x) → AllByRecursion P xs
each_number P [] each = tt
each_number P (x ∷ xs) each = (each 0 x refl, each_number P xs (λ number y is. each (suc number) y is))

-- where none is behind one, that is the last
pub last_number : {A : Type 0} (xs : List A) (number : ℕ) (x : A) → slice_get xs number ≡ Some x → slice_get xs (suc number) ≡ None → suc number ≡ length xs
last_number [] number x is none = absurd cc
last_number (y ∷ []) zero x is none = refl
last_number (y ∷ z ∷ xs) zero x is none = absurd cc
last_number (y ∷ xs) (suc number) x is none = ap suc (last_number xs number x is none)
