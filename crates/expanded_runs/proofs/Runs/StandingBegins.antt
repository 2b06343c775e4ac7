-- Frames with which methods begin go together, and those on top of typed worlds settle.
use Rattle.std.proofs.Common.{◌≡◌, ◌≤◌, ◌+◌, ◌-◌, ◌++◌, ℕ, suc, false, List, [], ◌∷◌, length, length-append, replicate, Option, Some, None, refl, sym, ap, subst, ◌∙◌, arith}
use Rattle.std.proofs.lemmas.List.{length-replicate}
use Rattle.std.proofs.lemmas.Option.{same_Some}
use Rattle.class_model.specs.declared.class_file.MethodAt.{MethodAt}
use Rattle.class_model.specs.declared.frame.Frame.{Frame}
use Rattle.class_model.specs.declared.frame.VType.{VType}
use Rattle.class_tree.specs.Headers.{Headers}
use Rattle.expanded_code.specs.ExpandAnswers.{IsExpanded}
use Rattle.expanded_runs.proofs.Runs.EntryFits.{entry_fits}
use Rattle.expanded_runs.proofs.Runs.FlatFacts.{FlatFacts}
use Rattle.expanded_runs.proofs.Runs.Positions.{host_standing}
use Rattle.expanded_runs.proofs.Runs.SameStanding.{InFlat, IsFresh, SameStanding, SameTop, begins_class, begins_fresh, beginnings_stand, flat_stands, in_host, own_stand, settled, is_awaited}
use Rattle.expanded_runs.proofs.Runs.Setup.{IsSetup, Setup, after, before}
use Rattle.expanded_runs.proofs.Runs.StandingCodes.{AtPoint, AtPoints}
use Rattle.flow_code.specs.FlatCode.{FlatCode}
use Rattle.machine_values.specs.Frames.{MethodState}
use Rattle.machine_values.specs.Heaps.{Heap}
use Rattle.machine_values.specs.declared.frame.RunFrame.{RunFrame}
use Rattle.machine_values.specs.declared.frame.RunFrame.TheVariants.{Beginning, Library, Method}
use Rattle.machine_values.specs.declared.value.Value.{Value}
use Rattle.member_link.specs.Machine.Beginnings.{frame_with}
use Rattle.member_link.specs.Machine.Codes.{method_code}
use Rattle.member_link.specs.Machine.Programs.{Code, Program, RunMethod, code_at, code_run, run_method}
use Rattle.member_link.specs.Machine.Worlds.{World}
use Rattle.member_link.specs.RowScope.{RowScope}
use Rattle.member_link.specs.Rows.FrameAssignability.{AreAssignable}
use Rattle.same_runs.specs.Laws.MethodPoints.{method_of_code}
use Rattle.same_runs.specs.Laws.ShiftedUnits.{shifted_begins}
use Rattle.same_runs.specs.Laws.Units.{begun_same, same_size}
use Rattle.same_runs.specs.Renamings.{Names, SameHeld, SameUnits, no_values}
use Rattle.same_runs.specs.SameMoves.{ShiftedUnits}
use Rattle.typed_runs.specs.Conforming.{UnitsConform, and_unit as and_conforming, no_units as none_conform}
use Rattle.typed_runs.specs.TypedFrames.{Above, Does, FramesConform, MethodConforms, StandsAt, asked_library, called_method, lowest, nothing_awaited, upon}
use Rattle.typed_runs.specs.TypedPrograms.{IsTypedMethod, entry}
use Rattle.typed_runs.specs.TypedWorlds.{TypedWorld}

-- ---- frames of typed worlds

module _ (u : Setup) where
  point_of_stand : {heap : Heap} {f : MethodState} → StandsAt (before u) u.typings heap f → AtPoint u f
  point_of_stand stands = record { point = stands.point; is = stands.is_point }

  point_of_frame : (heap : Heap) (f : MethodState) (above : Above) → MethodConforms (before u) u.typings heap f above → AtPoint u f
  point_of_frame heap f nothing_awaited conforms = point_of_stand conforms.stands
  point_of_frame heap f (called_method member) conforms = point_of_stand conforms.stands
  point_of_frame heap f asked_library conforms = point_of_stand conforms.stands

  -- each frame stands at a point
  pub frames_at_points : {heap : Heap} {above : Above} {frames : List RunFrame}
      → FramesConform (before u) u.typings heap above frames
      → AtPoints u frames
  frames_at_points (lowest known) = tt
  frames_at_points {heap = heap} {above = above} (upon {frame = Library made} conforms rest) = frames_at_points rest
  frames_at_points {heap = heap} {above = above} (upon {frame = Beginning class} conforms rest) = frames_at_points rest
  frames_at_points {heap = heap} {above = above} (upon {frame = Method f} conforms rest) =
      (point_of_frame heap f above conforms, frames_at_points rest)

  pub typed_at_points : (w : World) → TypedWorld (before u) u.typings w → AtPoints u w.frames
  typed_at_points w typed = frames_at_points typed.frames

-- ---- counts of units

units_count : {P : Program} {s : RowScope} {heap : Heap} {types : List VType} {units : List (Option Value)}
    → UnitsConform P s heap types units
    → length units ≡ length types
units_count none_conform = refl
units_count (and_conforming unit units) = ap suc (units_count units)

assignable_count : (headers : Headers) (lows highs : List VType) → AreAssignable headers lows highs → length highs ≡ length lows
assignable_count headers [] [] are = refl
assignable_count headers [] (high ∷ highs) are = absurd are
assignable_count headers (low ∷ lows) [] are = absurd are
assignable_count headers (low ∷ lows) (high ∷ highs) are = ap suc (assignable_count headers lows highs are.1)

-- the units with which a method begins
abbrev padded_units : List (Option Value) → ℕ → List (Option Value)
padded_units units count = units ++ replicate (count - length units) None

begins_with : (P : Program) (at : MethodAt) (units : List (Option Value)) (held : Option ℕ) (code : Code) → code_at P at ≡ Some code
    → (frame_with P at units held).locals ≡ padded_units units code.locals
begins_with P at units held code is = rw (is) refl

padded_length : (units : List (Option Value)) (count : ℕ) → length (padded_units units count) ≡ length units + (count - length units)
padded_length units count = length-append units (replicate (count - length units) None) ∙ ap (λ (n : ℕ). length units + n) (length-replicate (count - length units) None)

module _ {u : Setup} (facts : FlatFacts u) where
  abbrev P : Program
  P = before u

  abbrev Q : Program
  Q = after u

  -- ---- a method begins in both

  pub begins_same : {names : Names} (at : MethodAt) {units also : List (Option Value)} {held held_also : Option ℕ} {ones others : List RunFrame}
      → SameUnits names units also
      → SameHeld names held held_also
      → SameStanding u (is_awaited u at) names ones others
      → SameTop u names (Method (frame_with P at units held) ∷ ones) (Method (frame_with Q at also held_also) ∷ others)
  begins_same {names = names} at {units = units} {also = also} {held = held} {held_also = held_also} {ones = ones} {others = others}
      same held_same rest = by (u.flats at) refl where
        by : (flat : Option FlatCode) → u.flats at ≡ flat
            → SameTop u names (Method (frame_with P at units held) ∷ ones) (Method (frame_with Q at also held_also) ∷ others)
        by None is = settled (own_stand (record {
          no_flat = is;
          at = refl;
          place = refl;
          locals = begun_same P Q at held held_also (facts.own_code at is) same;
          stack = no_values;
          held = held_same;
        }) rest)
        by (Some flat) is = begins_fresh (record {
          at = at;
          flat = flat;
          is_flat = is;
          units = units;
          units_also = also;
          same = same;
          held = held_same;
          is = refl;
          is_also = refl;
        }) rest

  -- ---- a host that has begun

  module _ (is : IsSetup u) where
    -- the arguments of a typed frame fit into the host's units
    fresh_count : {heap : Heap} (at : MethodAt) (flat : FlatCode) (units : List (Option Value)) (held : Option ℕ)
        → u.flats at ≡ Some flat
        → (e : IsExpanded u.classes u.typed at flat)
        → Does P u.typings heap (frame_with P at units held)
        → length units ≤ e.host.scope.part.max_locals
    fresh_count at flat units held is_flat e does =
        let frame_count = units_count does.locals in
        let same_frame = same_Some typed.entry_leads.to does.stands.fits.frame (sym typed.entry_leads.is_frame ∙ does.stands.fits.is_frame) in
        let stated = ap (λ (frame : Frame). length frame.locals) same_frame in
        let assigned = assignable_count (u.typings at).scope.headers (entry P at method.0.member code).locals typed.entry_leads.to.locals
        typed.entry_leads.assignable.locals in
        let entered = entry_fits u.classes u.links is.tree.folder at method.0 code method.1 method.2 in
        let begun = ap length (begins_with P at units held code is_code) ∙ padded_length units code.locals in
        omega (arith, frame_count, stated, assigned, entered, begun) where
          code : Code
          code = method_code u.links e.host.scope

          is_code : code_at P at ≡ Some code
          is_code = ap (code_at P) (sym e.own) ∙ facts.host_code at flat is_flat e

          method : (method : RunMethod) × (run_method P at ≡ Some method) × (code_run method ≡ Some code)
          method = method_of_code P at code is_code

          typed : IsTypedMethod P at method.0.member code (u.typings at)
          typed = is.program.methods at method.0 code method.1 method.2

    fresh_in_flat : {names : Names} {heap : Heap} (at : MethodAt) (flat : FlatCode) (units also : List (Option Value)) (held held_also : Option ℕ)
        → u.flats at ≡ Some flat
        → SameUnits names units also
        → SameHeld names held held_also
        → Does P u.typings heap (frame_with P at units held)
        → InFlat u names (frame_with P at units held) [] (frame_with Q at also held_also)
    fresh_in_flat {names = names} at flat units also held held_also is_flat same held_same does = record {
      flat = flat;
      is_flat = is_flat;
      expanded = e;
      chain = [];
      p = host_standing e.host e.expansion;
      below = [];
      inside = in_host;
      top = [];
      in_place = record { at = sym e.own; units = shifted; same = no_values; held = held_same };
      place = refl;
      stack = refl;
      room = let long = begun_also_count in let all = flat_code.2 in omega (arith, long, all);
    } where
      e : IsExpanded u.classes u.typed at flat
      e = (is.expanded at flat is_flat).1

      flat_code : (code : Code) × (code_at Q at ≡ Some code) × (code.locals ≡ flat.locals)
      flat_code = facts.flat_code_at at flat is_flat e

      begun : (frame_with P at units held).locals ≡ units ++ replicate (e.host.scope.part.max_locals - length units) None
      begun = begins_with P at units held (method_code u.links e.host.scope) (ap (code_at P) (sym e.own) ∙ facts.host_code at flat is_flat e)

      begun_also : (frame_with Q at also held_also).locals ≡ also ++ replicate (flat_code.0.locals - length also) None
      begun_also = begins_with Q at also held_also flat_code.0 flat_code.1

      begun_also_count : length (frame_with Q at also held_also).locals ≡ length also + (flat_code.0.locals - length also)
      begun_also_count = ap length (begins_with Q at also held_also flat_code.0 flat_code.1) ∙ padded_length also flat_code.0.locals

      few : length units ≤ e.host.scope.part.max_locals
      few = fresh_count at flat units held is_flat e does

      room : e.host.scope.part.max_locals ≤ flat.locals
      room = let all = ap (λ (f : FlatCode). f.locals) e.is in omega (arith, all)

      shifted : ShiftedUnits names 0 e.host.scope.part.max_locals (frame_with P at units held).locals (frame_with Q at also held_also).locals
      shifted =
          let fits = few in
          let wide = room in
          let all = flat_code.2 in
          let counts = same_size same in
          let size : length units + (e.host.scope.part.max_locals - length units) ≡ e.host.scope.part.max_locals = omega (arith, fits) in
          let less : e.host.scope.part.max_locals - length units ≤ flat_code.0.locals - length also = omega (arith, fits, wide, all, counts) in
          subst (λ (others : List (Option Value)). ShiftedUnits names 0 e.host.scope.part.max_locals (frame_with P at units held).locals others) (sym begun_also)
          (subst (λ (ones : List (Option Value)). ShiftedUnits names 0 e.host.scope.part.max_locals ones (also ++ replicate (flat_code.0.locals - length also) None))
          (sym begun)
          (subst (λ (n : ℕ). ShiftedUnits names 0 n (units ++ replicate (e.host.scope.part.max_locals - length units) None)
          (also ++ replicate (flat_code.0.locals - length also) None)) size
          (shifted_begins (e.host.scope.part.max_locals - length units) (flat_code.0.locals - length also) less same)))

    fresh_settles : {names : Names} {heap : Heap} {f g : MethodState} {ones others : List RunFrame} → IsFresh u names f g
        → Does P u.typings heap f
        → SameStanding u (is_awaited u g.at) names ones others
        → SameStanding u false names (Method f ∷ ones) (Method g ∷ others)
    fresh_settles {names = names} {heap = heap} {f = f} {g = g} fresh does rest =
        flat_stands in_flat (λ impossible. cc impossible) rest where
          in_flat : InFlat u names f [] g
          in_flat =
              subst (λ (also : MethodState). InFlat u names f [] also) (sym fresh.is_also)
              (subst (λ (one : MethodState). InFlat u names one [] (frame_with Q fresh.at fresh.units_also g.held)) (sym fresh.is)
              (fresh_in_flat {heap = heap} fresh.at fresh.flat fresh.units fresh.units_also f.held g.held fresh.is_flat fresh.same fresh.held
              (subst (Does P u.typings heap) fresh.is does)))

    top_settles : {names : Names} {heap : Heap} {ones others : List RunFrame} → SameTop u names ones others
        → FramesConform P u.typings heap nothing_awaited ones
        → SameStanding u false names ones others
    top_settles (settled stand) conform = stand
    top_settles (begins_fresh fresh rest) (upon conforms below) = fresh_settles fresh conforms rest
    top_settles (begins_class top) (upon conforms below) = beginnings_stand (top_settles top below)

    -- what goes together behind a turn settles where the first's world is typed
    pub settles : (names : Names) (w : World) (others : List RunFrame) → TypedWorld P u.typings w → SameTop u names w.frames others
        → SameStanding u false names w.frames others
    settles names w others typed top = top_settles top typed.frames
