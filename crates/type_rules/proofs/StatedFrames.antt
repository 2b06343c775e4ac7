-- The frames at places where one is stated, in a typed body.
use Rattle.std.proofs.Common.{◌≡◌, inl, inr, ℕ, suc, List, [], ◌∷◌, slice_get, Option, Some, None, refl, ap, subst, ◌∙◌}
use Rattle.std.specs.List.{AllByRecursion}
use Rattle.class_model.specs.Laws.Lists.{AllByRecursion-weaker}
use Rattle.class_model.specs.declared.frame.Frame.{Frame}
use Rattle.member_link.specs.Bodies.{Body, BodyCatch, BodyPoint, catch_frame, frame_behind, item_targets}
use Rattle.member_link.specs.BodyTyping.{AreInOrder, GoesInto, GoesToStated, IsPlaceOf, MayGoTo, PointFits, StatesAtPoints, frame_at}
use Rattle.type_rules.proofs.ByPlace.{by_place}
use Rattle.type_rules.proofs.EachTyped.{each_instruction}
use Rattle.type_rules.proofs.Places.{at_number}
use Rattle.type_rules.specs.Typed.{TypesBody}

record StandsAt (points : List BodyPoint) (place : ℕ) : Type 0 where
  number : ℕ
  point : BodyPoint
  stands : slice_get points number ≡ Some point
  place_is : point.place ≡ place

numbered : (points : List BodyPoint) (place : ℕ) → IsPlaceOf points place → StandsAt points place
numbered [] place there = absurd there
numbered (point ∷ points) place (inl here) = record { number = 0; point = point; stands = refl; place_is = here }
numbered (point ∷ points) place (inr below) =
    let later = numbered points place below in
    record { number = suc later.number; point = later.point; stands = later.stands; place_is = later.place_is }

module _ (b : Body) (frames : List Frame) (order : AreInOrder b.points) (at_points : StatesAtPoints b) (typed : TypesBody b frames) where
  has_frame : (place : ℕ) → IsPlaceOf b.points place → (frame : Frame) × (frame_at b frames place ≡ Some frame)
  has_frame place there =
      let at = numbered b.points place there in
      let own = each_instruction b frames typed at.number at.point at.stands in
      (own.0, subst (λ (p : ℕ). frame_at b frames p ≡ Some own.0) at.place_is (at_number b.points frames order at.number at.point own.0 at.stands own.1))

  pub stated_there : (place : ℕ) (stated : Frame) → b.stated place ≡ Some stated → frame_at b frames place ≡ Some stated
  stated_there place stated is =
      let own = has_frame place (at_points place stated is) in
      own.1 ∙ ap Some ((by_place b frames order typed).stated place own.0 stated own.1 is)

  goes_into : (goes : Option Frame) (place : ℕ) → MayGoTo b.scope goes (b.stated place) → GoesInto b frames goes place
  goes_into goes place may = by goes (b.stated place) refl may where
    by : (goes stated : Option Frame) → b.stated place ≡ stated → MayGoTo b.scope goes stated → GoesInto b frames goes place
    by (Some frame) (Some stated) is may = record {
      frame = frame;
      goes_is = refl;
      stated = stated;
      is_stated = is;
      is_at = stated_there place stated is;
      assignable = may;
    }
    by (Some frame) None is may = absurd may
    by None stated is may = absurd may

  point_goes : (point : BodyPoint) → PointFits b frames point → GoesToStated b frames point
  point_goes point fits = record {
    frame = fits.frame;
    is_at = fits.is_at;
    targets = AllByRecursion-weaker (λ target. MayGoTo b.scope (frame_behind point fits.frame) (b.stated target)) (GoesInto b frames (frame_behind point fits.frame)) (λ target. goes_into (frame_behind point fits.frame) target) (item_targets point.item) fits.targets;
    handlers = AllByRecursion-weaker (λ (catch : BodyCatch). MayGoTo b.scope (Some (catch_frame fits.frame catch.class)) (b.stated catch.to)) (λ (catch : BodyCatch). GoesInto b frames (Some (catch_frame fits.frame catch.class)) catch.to)
        (λ catch. goes_into (Some (catch_frame fits.frame catch.class)) catch.to) point.catches fits.handlers;
  }

  pub each_goes : AllByRecursion (GoesToStated b frames) b.points
  each_goes = AllByRecursion-weaker (PointFits b frames) (GoesToStated b frames) point_goes b.points (by_place b frames order typed).points
