-- Where control goes among the instructions of a method that stands in flat code: as in its own code, and to frames in their place.
use Rattle.flow_code.specs.ReadTypes.{class_of_site, read_frame, read_type}
use Rattle.std.proofs.Common.{◌≡◌, ◌+◌, ◌≤◌, ◌<◌, ℕ, List, [], ◌∷◌, ◌++◌, ◌⊎◌, length, map, slice_get, Option, Some, None, option_map, IsTrue, refl, sym, ap, subst, ◌∙◌, arith}
use Rattle.std.specs.List.{list_any}
use Rattle.std.proofs.lemmas.List.{length-map, map-append}
use Rattle.std.proofs.lemmas.Option.{none-some, same_Some, slice_get-map, slice_get_within}
use Rattle.class_model.specs.declared.frame.Frame.{Frame}
use Rattle.class_model.specs.declared.frame.VType.{VType}
use Rattle.class_model.specs.declared.frame.VType.TheVariants as types
use Rattle.class_tree.specs.Headers.{Headers, Name}
use Rattle.expanded_code.specs.Expanded.{Setting, overlaid, set_frame, set_type}
use Rattle.expanded_runs.proofs.Types.Units.{ThisAt, Where, all_assignable, append_assignable, as_long, block_long, each_assignable, get_inside, get_outside, has_this, inside, outside, this_at, to_themselves, where_is}
use Rattle.flow_code.specs.FlatCode.{FlatCode}
use Rattle.member_link.specs.Assignability.{IsAssignable, from_null, of_names, to_same, to_top}
use Rattle.member_link.specs.Rows.FrameAssignability.{AreAssignable, IsFrameAssignable, is_uninit_this}

-- ---- types in their place, read

abbrev pub placed_type : FlatCode → Setting → VType → VType
placed_type flat t type = read_type flat (set_type t type)

abbrev pub placed_frame : FlatCode → Setting → Frame → Frame
placed_frame flat t frame = read_frame flat (set_frame t frame)

module _ (flat : FlatCode) where
  pub read_keeps : {headers : Headers} {from to : VType} → IsAssignable headers from to → IsAssignable headers (read_type flat from) (read_type flat to)
  read_keeps (to_same type) = to_same (read_type flat type)
  read_keeps (to_top type) = to_top (read_type flat type)
  read_keeps (from_null name) = from_null name
  read_keeps (of_names low high is) = of_names low high is

  pub placed_keeps : (t : Setting) {headers : Headers} {from to : VType} → IsAssignable headers from to
      → IsAssignable headers (placed_type flat t from) (placed_type flat t to)
  placed_keeps t (to_same type) = to_same (placed_type flat t type)
  placed_keeps t (to_top type) = to_top (placed_type flat t type)
  placed_keeps t (from_null name) = from_null name
  placed_keeps t (of_names low high is) = of_names low high is

  -- only an uninitialised this is read as one
  pub read_this : (type : VType) → read_type flat type ≡ types.UninitThis → type ≡ types.UninitThis
  read_this types.UninitThis is = refl
  read_this (types.Uninit at) is = by (class_of_site flat.sites at) refl where
    by : (class : Option Name) → class_of_site flat.sites at ≡ class → types.Uninit at ≡ types.UninitThis
    by None none = let same : types.Uninit at ≡ types.UninitThis = rw (none) at is in absurd cc
    by (Some name) some = let same : types.Object name ≡ types.UninitThis = rw (some) at is in absurd cc
  read_this types.Top is = absurd cc
  read_this types.Int is = absurd cc
  read_this types.Float is = absurd cc
  read_this types.Long is = absurd cc
  read_this types.Double is = absurd cc
  read_this types.Null is = absurd cc
  read_this (types.Object name) is = absurd cc

  pub set_this : (t : Setting) (type : VType) → set_type t type ≡ types.UninitThis → type ≡ types.UninitThis
  set_this t types.UninitThis is = refl
  set_this t (types.Uninit at) is = absurd cc
  set_this t types.Top is = absurd cc
  set_this t types.Int is = absurd cc
  set_this t types.Float is = absurd cc
  set_this t types.Long is = absurd cc
  set_this t types.Double is = absurd cc
  set_this t types.Null is = absurd cc
  set_this t (types.Object name) is = absurd cc

  all_placed : (t : Setting) (headers : Headers) (ones others : List VType) → AreAssignable headers ones others
      → AreAssignable headers (map (read_type flat) (map (set_type t) ones)) (map (read_type flat) (map (set_type t) others))
  all_placed t headers [] [] are = tt
  all_placed t headers [] (high ∷ highs) are = absurd are
  all_placed t headers (low ∷ lows) [] are = absurd are
  all_placed t headers (low ∷ lows) (high ∷ highs) are = (placed_keeps t are.0, all_placed t headers lows highs are.1)

  -- a unit of a list that is read
  pub read_unit : (units : List VType) (n : ℕ) (type : VType) → slice_get (map (read_type flat) units) n ≡ Some type
      → (own : VType) × (slice_get units n ≡ Some own) × (type ≡ read_type flat own)
  read_unit units n type is = by (slice_get units n) refl (sym (slice_get-map (read_type flat) units n) ∙ is) where
    by : (found : Option VType) → slice_get units n ≡ found → option_map (read_type flat) found ≡ Some type
        → (own : VType) × (slice_get units n ≡ Some own) × (type ≡ read_type flat own)
    by None found none = absurd (none-some type none)
    by (Some own) found some = (own, found, sym (same_Some (read_type flat own) type some))

  pub unit_read : (units : List VType) (n : ℕ) (type : VType) → slice_get units n ≡ Some type
      → slice_get (map (read_type flat) units) n ≡ Some (read_type flat type)
  unit_read units n type is = slice_get-map (read_type flat) units n ∙ ap (option_map (read_type flat)) is

  -- a unit of the block of a method, by its own
  pub set_unit : (t : Setting) (own : List VType) (m : ℕ) (type : VType) → slice_get (map (set_type t) own) m ≡ Some type
      → (one : VType) × (slice_get own m ≡ Some one) × (type ≡ set_type t one)
  set_unit t own m type is = by (slice_get own m) refl (sym (slice_get-map (set_type t) own m) ∙ is) where
    by : (found : Option VType) → slice_get own m ≡ found → option_map (set_type t) found ≡ Some type
        → (one : VType) × (slice_get own m ≡ Some one) × (type ≡ set_type t one)
    by None found none = absurd (none-some type none)
    by (Some one) found some = (one, found, sym (same_Some (set_type t one) type some))

  -- ---- frames in their place

  -- locals of a method, each of which in its place may stand for the other
  module _ (t : Setting) (headers : Headers) (ones others : List VType) (same_long : length ones ≡ length others)
      (fits : t.unit + length ones ≤ length t.below.locals)
      (each : (m : ℕ) (low high : VType) → slice_get ones m ≡ Some low → slice_get others m ≡ Some high
      → IsAssignable headers (placed_type flat t low) (placed_type flat t high))
      (this : (m : ℕ) (low : VType) → slice_get ones m ≡ Some low → set_type t low ≡ types.UninitThis
      → ThisAt others × (low ≡ types.UninitThis)) where
    abbrev from : List VType
    from = overlaid t.unit (map (set_type t) ones) t.below.locals

    abbrev to : List VType
    to = overlaid t.unit (map (set_type t) others) t.below.locals

    fits_from : t.unit + length (map (set_type t) ones) ≤ length t.below.locals
    fits_from = omega (arith, fits, length-map ones (set_type t))

    fits_to : t.unit + length (map (set_type t) others) ≤ length t.below.locals
    fits_to = omega (arith, fits, length-map others (set_type t), same_long)

    each_local : (n : ℕ) → Where t.unit (length ones) n → (low high : VType)
        → slice_get (overlaid t.unit (map (set_type t) ones) t.below.locals) n ≡ Some low
        → slice_get (overlaid t.unit (map (set_type t) others) t.below.locals) n ≡ Some high
        → IsAssignable headers (read_type flat low) (read_type flat high)
    each_local n (outside out) low high low_is high_is =
        let one = get_outside t.unit (map (set_type t) ones) t.below.locals fits_from n
        (subst (λ (size : ℕ). (n < t.unit) ⊎ (t.unit + size ≤ n)) (sym (length-map ones (set_type t))) out) in
        let other = get_outside t.unit (map (set_type t) others) t.below.locals fits_to n
        (subst (λ (size : ℕ). (n < t.unit) ⊎ (t.unit + size ≤ n)) (same_long ∙ sym (length-map others (set_type t))) out) in
        let same : low ≡ high = same_Some low high (sym low_is ∙ one ∙ sym other ∙ high_is) in
        subst (λ (type : VType). IsAssignable headers (read_type flat low) (read_type flat type)) same (to_same (read_type flat low))
    each_local n (inside m place within) low high low_is high_is =
        let one = get_inside t.unit (map (set_type t) ones) t.below.locals fits_from m
        (omega (arith, within, length-map ones (set_type t))) in
        let other = get_inside t.unit (map (set_type t) others) t.below.locals fits_to m
        (omega (arith, within, length-map others (set_type t), same_long)) in
        let own = set_unit t ones m low (sym one ∙ ap (slice_get from) (sym place) ∙ low_is) in
        let own_also = set_unit t others m high (sym other ∙ ap (slice_get to) (sym place) ∙ high_is) in
        subst (λ (type : VType). IsAssignable headers (read_type flat type) (read_type flat high)) (sym own.2)
        (subst (λ (type : VType). IsAssignable headers (placed_type flat t own.0) (read_type flat type)) (sym own_also.2)
        (each m own.0 own_also.0 own.1 own_also.1))

    this_kept : (n : ℕ) → Where t.unit (length ones) n
        → slice_get (overlaid t.unit (map (set_type t) ones) t.below.locals) n ≡ Some types.UninitThis
        → ThisAt (overlaid t.unit (map (set_type t) others) t.below.locals)
    this_kept n (outside out) this_is =
        let one = get_outside t.unit (map (set_type t) ones) t.below.locals fits_from n
        (subst (λ (size : ℕ). (n < t.unit) ⊎ (t.unit + size ≤ n)) (sym (length-map ones (set_type t))) out) in
        let other = get_outside t.unit (map (set_type t) others) t.below.locals fits_to n
        (subst (λ (size : ℕ). (n < t.unit) ⊎ (t.unit + size ≤ n)) (same_long ∙ sym (length-map others (set_type t))) out) in
        record { n = n; is = other ∙ sym one ∙ this_is }
    this_kept n (inside m place within) this_is =
        let one = get_inside t.unit (map (set_type t) ones) t.below.locals fits_from m
        (omega (arith, within, length-map ones (set_type t))) in
        let own = set_unit t ones m types.UninitThis (sym one ∙ ap (slice_get from) (sym place) ∙ this_is) in
        let kept = this m own.0 own.1 (sym own.2) in
        let found = kept.0 in
        let there : found.n < length others = slice_get_within others found.n types.UninitThis found.is in
        record {
          n = t.unit + found.n;
          is = get_inside t.unit (map (set_type t) others) t.below.locals fits_to found.n
              (omega (arith, there, length-map others (set_type t)))
              ∙ slice_get-map (set_type t) others found.n
              ∙ ap (option_map (set_type t)) found.is
              ∙ ap (λ (type : VType). Some (set_type t type)) (sym kept.1)
              ∙ ap Some (sym own.2);
        }

    pub locals_through : AreAssignable headers (map (read_type flat) (overlaid t.unit (map (set_type t) ones) t.below.locals))
        (map (read_type flat) (overlaid t.unit (map (set_type t) others) t.below.locals))
    locals_through =
        all_assignable headers _ _
        (length-map _ (read_type flat)
        ∙ block_long t.unit (map (set_type t) ones) t.below.locals fits_from
        ∙ sym (block_long t.unit (map (set_type t) others) t.below.locals fits_to)
        ∙ sym (length-map _ (read_type flat)))
        (λ n low high low_is high_is.
        let one = read_unit from n low low_is in
        let other = read_unit to n high high_is in
        subst (λ (type : VType). IsAssignable headers type high) (sym one.2)
        (subst (λ (type : VType). IsAssignable headers (read_type flat one.0) type) (sym other.2)
        (each_local n (where_is t.unit (length ones) n) one.0 other.0 one.1 other.1)))

    pub this_through : IsTrue (list_any is_uninit_this (map (read_type flat) (overlaid t.unit (map (set_type t) ones) t.below.locals)))
        → IsTrue (list_any is_uninit_this (map (read_type flat) (overlaid t.unit (map (set_type t) others) t.below.locals)))
    this_through has =
        let found = this_at (map (read_type flat) from) has in
        let one = read_unit from found.n types.UninitThis found.is in
        let this_is = read_this one.0 (sym one.2) in
        let kept = this_kept found.n (where_is t.unit (length ones) found.n) (one.1 ∙ ap Some this_is) in
        has_this (map (read_type flat) to) kept.n (unit_read to kept.n types.UninitThis kept.is)

  -- entries above those of callers
  pub stack_through : (headers : Headers) (below ones others : List VType)
      → AreAssignable headers (map (read_type flat) ones) (map (read_type flat) others)
      → AreAssignable headers (map (read_type flat) (below ++ ones)) (map (read_type flat) (below ++ others))
  stack_through headers below ones others are =
      subst (λ (entries : List VType). AreAssignable headers entries (map (read_type flat) (below ++ others)))
      (sym (map-append (read_type flat) below ones))
      (subst (AreAssignable headers (map (read_type flat) below ++ map (read_type flat) ones))
      (sym (map-append (read_type flat) below others))
      (append_assignable headers (map (read_type flat) below) (map (read_type flat) below) _ _
      (to_themselves headers (map (read_type flat) below)) are))

  pub frame_kept : (t : Setting) (headers : Headers) (from to : Frame) → t.unit + length from.locals ≤ length t.below.locals
      → IsFrameAssignable headers from to
      → IsFrameAssignable headers (placed_frame flat t from) (placed_frame flat t to)
  frame_kept t headers from to fits is =
      let long = as_long headers from.locals to.locals is.locals in
      let each : (m : ℕ) (low high : VType) → slice_get from.locals m ≡ Some low → slice_get to.locals m ≡ Some high
      → IsAssignable headers (placed_type flat t low) (placed_type flat t high) =
      λ m low high low_is high_is. placed_keeps t (each_assignable headers from.locals to.locals is.locals m low high low_is high_is) in
      let this : (m : ℕ) (low : VType) → slice_get from.locals m ≡ Some low → set_type t low ≡ types.UninitThis
      → ThisAt to.locals × (low ≡ types.UninitThis) =
      λ m low low_is set.
      let same = set_this t low set in
      (this_at to.locals (is.keeps_this (has_this from.locals m (low_is ∙ ap Some same))), same) in
      record {
        locals = locals_through t headers from.locals to.locals long fits each this;
        stack = stack_through headers t.below.stack (map (set_type t) from.stack) (map (set_type t) to.stack)
            (all_placed t headers from.stack to.stack is.stack);
        keeps_this = this_through t headers from.locals to.locals long fits each this;
      }
