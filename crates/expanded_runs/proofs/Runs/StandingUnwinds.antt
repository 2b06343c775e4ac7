-- An object is thrown through frames that go together: past the frames of callees, of which none has a handler, to the host's handlers.
use Rattle.std.proofs.Common.{◌≡◌, ◌≤◌, ◌++◌, ℕ, Bool, List, [], ◌∷◌, length, map, slice_get, Option, Some, None, refl, sym, ap, subst, ◌∙◌}
use Rattle.class_model.specs.declared.class_file.MethodAt.{MethodAt}
use Rattle.class_model.specs.declared.instr.Placed.{Placed}
use Rattle.expanded_code.specs.ExpandAnswers.{IsExpanded}
use Rattle.expanded_code.specs.Expansions.{Coded}
use Rattle.expanded_runs.proofs.Runs.FlatFacts.{FlatFacts}
use Rattle.expanded_runs.proofs.Runs.FlatOps.{catches_in}
use Rattle.expanded_runs.proofs.Runs.Positions.{Standing, host_standing, instrs_of, start_of}
use Rattle.expanded_runs.proofs.Runs.ReplacedCalls.{IsPlainMethod}
use Rattle.expanded_runs.proofs.Runs.SameStanding.{InFlat, InOwn, InPlace, Inside, SameStanding, SameTop, beginnings_stand, flat_stands, in_callee, in_host, libraries_stand, none_stand, own_stand, settled, is_awaited}
use Rattle.expanded_runs.proofs.Runs.Setup.{Setup, after, before}
use Rattle.expanded_runs.proofs.Runs.StandingCodes.{AtPoint, AtPoints, instr_of_point, own_point, point_of_instr, standing_instr, standing_of}
use Rattle.expanded_runs.proofs.Runs.StandingMore.{in_place_more, standing_free, standing_more}
use Rattle.expanded_runs.proofs.Runs.Standings.{IsStanding}
use Rattle.flow_code.specs.FlatCode.{FlatCode}
use Rattle.machine_values.specs.Frames.{MethodState}
use Rattle.machine_values.specs.declared.frame.RunFrame.{RunFrame}
use Rattle.machine_values.specs.declared.frame.RunFrame.TheVariants.{Method}
use Rattle.machine_values.specs.declared.value.Value.{Value}
use Rattle.machine_values.specs.declared.value.Value.TheVariants.{Ref}
use Rattle.member_link.specs.Machine.Codes.{method_code}
use Rattle.member_link.specs.Machine.Programs.{Catch, Point, Program, RunMethod, code_at, code_run, point_at, run_method}
use Rattle.same_runs.specs.Laws.MethodPoints.{catches_are, code_of_point, ends_same, method_of_code, point_in_code}
use Rattle.same_runs.specs.Laws.Names.{held_more, units_more}
use Rattle.same_runs.specs.Renamings.{Names, NamesMore, and_value, no_values, none_held, same_reference}
use Rattle.same_runs.specs.SameFrames.{PassesOn, SameCatches, Unwinds, and_catch, catches_at, caught, in_beginnings, in_both, in_first, in_library, in_none, no_catches}
use Rattle.same_runs.specs.SamePrograms.{SamePrograms}

-- A frame of flat code at any point whose handlers are those of the instruction at which the first stands.
pub record ThrowsInFlat (u : Setup) (names : Names) (f : MethodState) (waiting : List MethodState) (g : MethodState) : Type 0 where
  pub flat : FlatCode
  pub is_flat : u.flats g.at ≡ Some flat
  pub expanded : IsExpanded u.classes u.typed g.at flat
  pub chain : List MethodAt
  pub p : Standing
  pub below : List Value
  pub inside : Inside names expanded.host expanded.expansion g.held g.locals chain p waiting below
  pub top : List Value
  pub in_place : InPlace names chain p f g.held g.locals top
  pub room : flat.locals ≤ length g.locals
  pub placed : Placed
  pub is_placed : slice_get (instrs_of p) f.place ≡ Some placed
  pub catches : catches_at (after u) g ≡ catches_in p placed.at

module _ {u : Setup} (facts : FlatFacts u) (same : SamePrograms (before u) (after u)) where
  abbrev P : Program
  P = before u

  abbrev Q : Program
  Q = after u

  abbrev UnwindsSo : Names → List RunFrame → List RunFrame → Type 0
  UnwindsSo names ones others = Unwinds P Q (SameTop u) (SameTop u) names ones others

  -- ---- a method that runs its own code

  own_caught : {names more : Names} {f g : MethodState} (to reference named : ℕ) → NamesMore names more → more reference ≡ Some named
      → InOwn u names f g
      → InOwn u more (caught f to reference) (caught g to named)
  own_caught to reference named grows known own = record {
    no_flat = own.no_flat;
    at = own.at;
    place = refl;
    locals = units_more grows own.locals;
    stack = and_value (same_reference known) no_values;
    held = held_more grows own.held;
  }

  own_catches : {names : Names} {f g : MethodState} {ones others : List RunFrame} → InOwn u names f g
      → SameStanding u (is_awaited u g.at) names ones others
      → (catches : List Catch)
      → SameCatches (SameTop u) names f g ones others catches catches
  own_catches own rest [] = no_catches
  own_catches own rest (c ∷ catches) =
      and_catch {class = c.class} {to = c.to} {to_also = c.to}
      (λ more reference named grows known. settled (own_stand (own_caught c.to reference named grows known own) (standing_more grows rest)))
      (own_catches own rest catches)

  pub own_unwinds : {names : Names} {f g : MethodState} {ones others : List RunFrame} → InOwn u names f g
      → AtPoint u f
      → SameStanding u (is_awaited u g.at) names ones others
      → UnwindsSo names ones others
      → UnwindsSo names (Method f ∷ ones) (Method g ∷ others)
  own_unwinds {names = names} {f = f} {g = g} {ones = ones} {others = others} own at rest unwinds =
      let code = code_of_point P f.at f.place at.point at.is in
      let method = method_of_code P f.at code.0 code.1 in
      in_both (ends_same same f g method.0 method.1 own.at) own.held
      (subst (SameCatches (SameTop u) names f g ones others (catches_at P f)) same_catches (own_catches own rest (catches_at P f)))
      (settled (standing_free rest)) (λ no. unwinds) where
        same_catches : catches_at P f ≡ catches_at Q g
        same_catches = catches_are P f at.point at.is ∙ sym (catches_are Q g at.point (own_point facts own ∙ at.is))

  -- ---- flat code

  -- a callee has no handler, is no class initialiser, and holds no monitor
  callee_passes : (f : MethodState) (c : Coded) → IsPlainMethod u c → f.at ≡ c.at → f.held ≡ None
      → PassesOn P f
  callee_passes f c plain at held = record {
    method = plain.method;
    is = ap (run_method P) at ∙ plain.is;
    no_initialiser = plain.no_initialiser;
    holds_none = held;
    catches_none = by (point_at P f.at f.place) refl;
  } where
    code : code_at P f.at ≡ Some (method_code u.links c.scope)
    code = ap (code_at P) at ∙ rw (plain.is) plain.code

    by : (found : Option Point) → point_at P f.at f.place ≡ found → catches_at P f ≡ []
    by None is = rw (is) refl
    by (Some point) is =
        let instr = instr_of_point u.links c.scope f.place point (sym (point_in_code P f.at f.place _ code) ∙ is) in
        catches_are P f point is ∙ instr.2 plain.no_handlers

  -- a handler that begins where an instruction of the host does
  abbrev to_flat : Standing → Catch → Catch
  to_flat host c = record c { to = start_of host c.to }

  module _ {names : Names} (g : MethodState) {ones others : List RunFrame} (flat : FlatCode) (is_flat : u.flats g.at ≡ Some flat)
      (e : IsExpanded u.classes u.typed g.at flat) (room : flat.locals ≤ length g.locals)
      (rest : SameStanding u (is_awaited u g.at) names ones others) (unwinds : UnwindsSo names ones others) where
    -- the host goes on in its handler, which begins where its instruction does
    host_caught : {more : Names} {f : MethodState} {top : List Value} (to reference named : ℕ) → NamesMore names more
        → more reference ≡ Some named
        → InPlace names [] (host_standing e.host e.expansion) f g.held g.locals top
        → InFlat u more (caught f to reference) [] (caught g (start_of (host_standing e.host e.expansion) to) named)
    host_caught to reference named grows known in_place = record {
      flat = flat;
      is_flat = is_flat;
      expanded = e;
      chain = [];
      p = host_standing e.host e.expansion;
      below = [];
      inside = in_host;
      top = Ref named ∷ [];
      in_place =
          let then = in_place_more grows in_place in
          record { at = then.at; units = then.units; same = and_value (same_reference known) no_values; held = then.held };
      place = refl;
      stack = refl;
      room = room;
    }

    host_catches : {f : MethodState} {top : List Value} → InPlace names [] (host_standing e.host e.expansion) f g.held g.locals top → (catches : List Catch)
        → SameCatches (SameTop u) names f g ones others catches (map (to_flat (host_standing e.host e.expansion)) catches)
    host_catches in_place [] = no_catches
    host_catches in_place (c ∷ catches) =
        and_catch {class = c.class} {to = c.to} {to_also = start_of (host_standing e.host e.expansion) c.to}
        (λ more reference named grows known.
        settled (flat_stands (host_caught c.to reference named grows known in_place) (λ impossible. cc impossible) (standing_more grows rest)))
        (host_catches in_place catches)

    host_unwinds : (f : MethodState) (top : List Value) (placed : Placed) → InPlace names [] (host_standing e.host e.expansion) f g.held g.locals top
        → slice_get (instrs_of (host_standing e.host e.expansion)) f.place ≡ Some placed
        → catches_at Q g ≡ catches_in (host_standing e.host e.expansion) placed.at
        → UnwindsSo names (Method f ∷ ones) (Method g ∷ others)
    host_unwinds f top placed in_place is_placed catches =
        in_both (ends_same same f g method.0 (ap (run_method P) in_place.at ∙ method.1) (sym e.own ∙ sym in_place.at)) in_place.held
        (subst (SameCatches (SameTop u) names f g ones others (catches_at P f)) same_catches (host_catches in_place (catches_at P f)))
        (settled (standing_free rest)) (λ no. unwinds) where
          code : code_at P e.host.at ≡ Some (method_code u.links e.host.scope)
          code = facts.host_code g.at flat is_flat e

          method : (method : RunMethod) × (run_method P e.host.at ≡ Some method) × (code_run method ≡ Some (method_code u.links e.host.scope))
          method = method_of_code P e.host.at (method_code u.links e.host.scope) code

          point : (point : Point) × (slice_get (method_code u.links e.host.scope).points f.place ≡ Some point)
          point = point_of_instr u.links e.host.scope f.place placed is_placed

          at_point : point_at P e.host.at f.place ≡ Some point.0
          at_point = point_in_code P e.host.at f.place (method_code u.links e.host.scope) code ∙ point.1

          own_catches_are : catches_at P f ≡ point.0.catches
          own_catches_are = catches_are P f point.0 (ap (λ (at : MethodAt). point_at P at f.place) in_place.at ∙ at_point)

          same_catches : map (to_flat (host_standing e.host e.expansion)) (catches_at P f) ≡ catches_at Q g
          same_catches = ap (map (to_flat (host_standing e.host e.expansion))) own_catches_are
              ∙ sym (catches ∙ facts.host_catches g.at flat f.place placed point.0 is_flat e is_placed at_point)

    pub inside_unwinds : {chain : List MethodAt} {p : Standing} {waiting : List MethodState} {below : List Value}
        → Inside names e.host e.expansion g.held g.locals chain p waiting below
        → (f : MethodState) (top : List Value) (placed : Placed)
        → InPlace names chain p f g.held g.locals top
        → slice_get (instrs_of p) f.place ≡ Some placed
        → catches_at Q g ≡ catches_in p placed.at
        → UnwindsSo names (Method f ∷ map Method waiting ++ ones) (Method g ∷ others)
    inside_unwinds in_host f top placed in_place is_placed catches = host_unwinds f top placed in_place is_placed catches
    inside_unwinds (in_callee caller caller_top call frame c inner outer waits is) f top placed in_place is_placed catches =
        in_first
        (callee_passes f c (facts.callee g.at flat _ _ caller.place call frame c inner is_flat e (standing_of outer) is) in_place.at in_place.held)
        (inside_unwinds outer caller caller_top call waits is.is catches)

  -- a frame of flat code at a point with the handlers of the first's instruction
  pub flat_unwinds : {names : Names} {f g : MethodState} {waiting : List MethodState} {ones others : List RunFrame}
      → ThrowsInFlat u names f waiting g
      → SameStanding u (is_awaited u g.at) names ones others
      → UnwindsSo names ones others
      → UnwindsSo names (Method f ∷ map Method waiting ++ ones) (Method g ∷ others)
  flat_unwinds {f = f} {g = g} throws rest unwinds =
      inside_unwinds g throws.flat throws.is_flat throws.expanded throws.room rest unwinds throws.inside f throws.top throws.placed throws.in_place
      throws.is_placed throws.catches

  -- a frame of flat code that stands where the first does throws there
  pub throws_in_flat : {names : Names} {f g : MethodState} {waiting : List MethodState} → InFlat u names f waiting g → AtPoint u f
      → ThrowsInFlat u names f waiting g
  throws_in_flat {f = f} {g = g} i at = record {
    flat = i.flat;
    is_flat = i.is_flat;
    expanded = i.expanded;
    chain = i.chain;
    p = i.p;
    below = i.below;
    inside = i.inside;
    top = i.top;
    in_place = i.in_place;
    room = i.room;
    placed = instr.0;
    is_placed = instr.1;
    catches = catches_are Q g point.0 (ap (point_at Q g.at) i.place ∙ point.1) ∙ point.2;
  } where
    stands : IsStanding i.expanded.host i.expanded.expansion i.chain i.p
    stands = standing_of i.inside

    instr : (placed : Placed) × (slice_get (instrs_of i.p) f.place ≡ Some placed)
    instr =
        standing_instr facts g.at i.flat i.is_flat i.expanded i.chain i.p stands f.place at.point
        (ap (λ (m : MethodAt). point_at P m f.place) (sym i.in_place.at) ∙ at.is)

    point : (point : Point) × (point_at Q g.at (start_of i.p f.place) ≡ Some point) × (point.catches ≡ catches_in i.p instr.0.at)
    point = facts.catches g.at i.flat i.chain i.p f.place instr.0 i.is_flat i.expanded stands instr.1

  -- ---- all frames

  -- the frames below those of callees
  pub at_below : (waiting : List MethodState) (ones : List RunFrame) → AtPoints u (map Method waiting ++ ones) → AtPoints u ones
  at_below [] ones at = at
  at_below (f ∷ waiting) ones at = at_below waiting ones at.1

  pub stands_unwind : {waits : Bool} {names : Names} {ones others : List RunFrame}
      → SameStanding u waits names ones others
      → AtPoints u ones
      → UnwindsSo names ones others
  stands_unwind none_stand at = in_none
  stands_unwind (libraries_stand held rest) at = in_library (settled (libraries_stand none_held rest))
  stands_unwind (beginnings_stand rest) at = in_beginnings
  stands_unwind (own_stand own rest) at = own_unwinds own at.0 rest (stands_unwind rest at.1)
  stands_unwind (flat_stands {waiting = waiting} {ones = ones} in_flat waits rest) at =
      flat_unwinds (throws_in_flat in_flat at.0) rest (stands_unwind rest (at_below waiting ones at.1))
