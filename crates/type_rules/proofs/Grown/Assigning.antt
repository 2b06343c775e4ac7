-- Assignability in classes of one shape.
use Rattle.std.proofs.Common.{◌≡◌, List, [], ◌∷◌, Option, sym, ap, inl, inr, ◌∙◌}
use Rattle.class_model.specs.declared.frame.Frame.{Frame}
use Rattle.class_model.specs.declared.frame.VType.{VType}
use Rattle.class_model.specs.declared.header.Header.{Header}
use Rattle.class_tree.specs.Headers.{Name, Headers}
use Rattle.class_tree.specs.Laws.Alike.{below_alike, shapes, twin}
use Rattle.class_tree.specs.Names.{is_interface}
use Rattle.member_link.specs.Assignability.{IsAssignable, IsNameAssignable, from_array, from_null, of_components, of_names, to_class_above, to_interface, to_itself, to_same, to_top}
use Rattle.member_link.specs.BodyTyping.{IsThrowable}
use Rattle.member_link.specs.RowScope.{RowScope}
use Rattle.member_link.specs.Rows.FrameAssignability.{AreAssignable, IsFrameAssignable}
use Rattle.member_link.specs.Rows.Operands.{AllFit, Fits, Need, of_kind, initialised, uninitialised, assignable_to, assignable_or_this, array_among, array_of_references, some_array, single, double, nothing}
use Rattle.type_rules.proofs.Grown.Methods.{at_or_below}

module _ (one other : Headers) (same : shapes one ≡ shapes other) where
  names_assigned : {low high : Name} → IsNameAssignable one low high → IsNameAssignable other low high
  names_assigned (to_itself name) = to_itself name
  names_assigned (to_interface low high header no_array is interface) =
      let class = twin one other same high header is in
      to_interface low high class.0 no_array class.1 (ap (λ (h : Header). is_interface h) (sym class.2) ∙ interface)
  names_assigned (to_class_above low high below) = to_class_above low high (below_alike one other same below)
  names_assigned (from_array low high array above) = from_array low high array above
  names_assigned (of_components low high low_component high_component is also assigned) =
      of_components low high low_component high_component is also (names_assigned assigned)

  pub assigned : {low high : VType} → IsAssignable one low high → IsAssignable other low high
  assigned (to_same type) = to_same type
  assigned (to_top type) = to_top type
  assigned (from_null name) = from_null name
  assigned (of_names low high names) = of_names low high (names_assigned names)

  all_assigned : (lows highs : List VType) → AreAssignable one lows highs → AreAssignable other lows highs
  all_assigned [] [] are = tt
  all_assigned [] (high ∷ highs) are = absurd are
  all_assigned (low ∷ lows) [] are = absurd are
  all_assigned (low ∷ lows) (high ∷ highs) are = (assigned are.0, all_assigned lows highs are.1)

  pub frame_assigned : {from to : Frame} → IsFrameAssignable one from to → IsFrameAssignable other from to
  frame_assigned {from} {to} is = record {
    locals = all_assigned from.locals to.locals is.locals;
    stack = all_assigned from.stack to.stack is.stack;
    keeps_this = is.keeps_this;
  }

  pub throwable_still : {caught : Option Name} → IsThrowable one caught → IsThrowable other caught
  throwable_still is = record { class = is.class; is_caught = is.is_caught; is_throwable = at_or_below one other same is.is_throwable }

-- ---- what is asked of operands

module _ (s t : RowScope) (same : shapes s.headers ≡ shapes t.headers) where
  fits_still : (need : Need) (type : VType) → Fits s need type → Fits t need type
  fits_still (assignable_to wanted) type fits = assigned s.headers t.headers same fits
  fits_still (assignable_or_this wanted) type (inl fits) = inl (assigned s.headers t.headers same fits)
  fits_still (assignable_or_this wanted) type (inr this) = inr this
  fits_still (of_kind kind) type fits = fits
  fits_still initialised type fits = fits
  fits_still uninitialised type fits = fits
  fits_still (array_among names) type fits = fits
  fits_still array_of_references type fits = fits
  fits_still some_array type fits = fits
  fits_still single type fits = fits
  fits_still double type fits = fits
  fits_still nothing type fits = fits

  pub all_fit_still : (needs : List Need) (stack : List VType) → AllFit s needs stack → AllFit t needs stack
  all_fit_still [] [] fit = tt
  all_fit_still [] (type ∷ stack) fit = absurd fit
  all_fit_still (need ∷ needs) [] fit = absurd fit
  all_fit_still (need ∷ needs) (type ∷ stack) fit = (fits_still need type fit.0, all_fit_still needs stack fit.1)
