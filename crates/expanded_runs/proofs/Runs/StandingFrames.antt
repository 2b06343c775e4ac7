-- Frames that go together, behind each way in which a turn may end.
use Rattle.std.proofs.Common.{◌≡◌, ◌≤◌, ◌+◌, ◌++◌, ℕ, Bool, true, false, List, [], ◌∷◌, drop, length, map, reverse, Option, Some, None, option_map, refl, sym, ap, subst, ◌∙◌, arith}
use Rattle.std.proofs.lemmas.List.{append_assoc, drop-append-le}
use Rattle.class_model.specs.declared.class_file.MethodAt.{MethodAt}
use Rattle.expanded_code.specs.Expansions.{Coded, Expansion}
use Rattle.expanded_runs.proofs.Runs.FlatFacts.{FlatFacts}
use Rattle.expanded_runs.proofs.Runs.Positions.{Standing, start_of}
use Rattle.expanded_runs.proofs.Runs.SameStanding.{Holds, InFlat, InOwn, Inside, SameStanding, SameTop, WaitsInFlat, begins_class, beginnings_stand, comparison, flat_stands, in_callee, in_host, libraries_stand, none_stand, own_stand, settled, is_awaited}
use Rattle.expanded_runs.proofs.Runs.Setup.{Setup, after, before}
use Rattle.expanded_runs.proofs.Runs.StandingBegins.{begins_same}
use Rattle.expanded_runs.proofs.Runs.StandingCodes.{AtPoint, AtPoints, own_point}
use Rattle.expanded_runs.proofs.Runs.StandingMore.{standing_any, standing_free, standing_more}
use Rattle.expanded_runs.proofs.Runs.StandingMoves.{flat_changed}
use Rattle.expanded_runs.proofs.Runs.StandingUnwinds.{stands_unwind}
use Rattle.machine_values.specs.Frames.{MethodState}
use Rattle.machine_values.specs.declared.frame.RunFrame.{RunFrame}
use Rattle.machine_values.specs.declared.frame.RunFrame.TheVariants.{Library, Method}
use Rattle.machine_values.specs.declared.value.Value.{Value}
use Rattle.member_link.specs.Machine.Acting.{Pending, pending_of, waiting_in}
use Rattle.member_link.specs.Machine.Codes.{method_code}
use Rattle.member_link.specs.Machine.Completions.{Completion}
use Rattle.member_link.specs.Machine.Ops.{Op, no_operation}
use Rattle.member_link.specs.Machine.Performing.{resumed}
use Rattle.member_link.specs.Machine.Programs.{Point, Program, RunMethod, code_run, point_at, run_method}
use Rattle.same_runs.specs.Laws.BothBegin.{BeginsOn}
use Rattle.same_runs.specs.Laws.CaughtUp.{less}
use Rattle.same_runs.specs.Laws.ClassInitialisers.{initialiser_named}
use Rattle.same_runs.specs.Laws.MethodPoints.{awaited_is, code_of_point, ends_same, method_of_code, pending_same}
use Rattle.same_runs.specs.Laws.Moves.{same_count, same_dropped, same_joined, same_reversed}
use Rattle.same_runs.specs.Laws.Names.{held_more}
use Rattle.same_runs.specs.Laws.ShiftedUnits.{outside_itself}
use Rattle.same_runs.specs.Laws.Units.{same_arguments}
use Rattle.same_runs.specs.Renamings.{Names, SameHeld, SameValues, no_units, none_held, one_held}
use Rattle.same_runs.specs.SameFrames.{EndSame, in_library}
use Rattle.same_runs.specs.SameMoves.{moved}
use Rattle.same_runs.specs.SamePrograms.{SamePrograms}
use Rattle.same_runs.specs.SameWorlds.{AtLibrary, Goes, Returns, SameBelow, SameWaiting, beginnings_below, both_wait, library_below, methods_below, none_below, none_waits}

-- ---- frames that are given values

resumed_own : {u : Setup} {names : Names} {f g : MethodState} {values also : List Value} → InOwn u names f g → SameValues names values also
    → InOwn u names (resumed f values) (resumed g also)
resumed_own own are = record {
  no_flat = own.no_flat;
  at = own.at;
  place = ap (λ (n : ℕ). n + 1) own.place;
  locals = own.locals;
  stack = same_joined (same_reversed are) own.stack;
  held = own.held;
}

abbrev resumed_flat : {u : Setup} {names : Names} {f g : MethodState} {waiting : List MethodState} {values also : List Value}
    (i : InFlat u names f waiting g)
    → start_of i.p (f.place + 1) ≡ start_of i.p f.place + 1
    → SameValues names values also
    → InFlat u names (resumed f values) waiting (resumed g also)
resumed_flat {f = f} {g = g} {values = values} {also = also} i next are =
    flat_changed i (f.place + 1) (g.place + 1) (reverse values ++ f.stack) (reverse also ++ g.stack) (reverse also ++ i.top) f.locals g.locals
    (ap (λ (n : ℕ). n + 1) i.place ∙ sym next)
    (ap (λ (stack : List Value). reverse also ++ stack) i.stack ∙ sym (append_assoc (reverse also) i.top i.below))
    (same_joined (same_reversed are) i.in_place.same) i.in_place.units (outside_itself _ _ g.locals)

-- A frame that waits goes on behind its instruction, with the same values on top.
pub resumed_same : {u : Setup} {names : Names} {f g : MethodState} {rest rest_also : List RunFrame} {values also : List Value}
    → SameStanding u true names (Method f ∷ rest) (Method g ∷ rest_also)
    → SameValues names values also
    → SameTop u names (Method (resumed f values) ∷ rest) (Method (resumed g also) ∷ rest_also)
resumed_same (own_stand own rest) are = settled (own_stand (resumed_own own are) rest)
resumed_same (flat_stands i waits rest) are =
    settled (flat_stands (resumed_flat i (waits refl).stands.next are) (λ impossible. cc impossible) rest)

-- ---- frames whose operands are taken

taken_own : {u : Setup} {names : Names} {f g : MethodState} (taken : ℕ) → InOwn u names f g → InOwn u names (less taken f) (less taken g)
taken_own taken own = record {
  no_flat = own.no_flat;
  at = own.at;
  place = own.place;
  locals = own.locals;
  stack = same_dropped taken own.stack;
  held = own.held;
}

abbrev pub taken_flat : {u : Setup} {names : Names} {f g : MethodState} {waiting : List MethodState} (taken : ℕ)
    (i : InFlat u names f waiting g)
    → taken ≤ length f.stack
    → InFlat u names (less taken f) waiting (less taken g)
taken_flat {f = f} {g = g} taken i enough =
    flat_changed i f.place g.place (drop taken f.stack) (drop taken g.stack) (drop taken i.top) f.locals g.locals i.place
    (ap (drop taken) i.stack ∙ drop-append-le taken i.top i.below (let counts = same_count i.in_place.same in omega (arith, enough, counts)))
    (same_dropped taken i.in_place.same) i.in_place.units (outside_itself _ _ g.locals)

-- ---- what waits for the library

pending_moved : (base : ℕ) (start : ℕ → ℕ) (op : Op) → pending_of (moved base start op) ≡ pending_of op
pending_moved base start no_operation = refl
pending_moved base start op = refl

module _ {u : Setup} (facts : FlatFacts u) (same : SamePrograms (before u) (after u)) where
  abbrev P : Program
  P = before u

  abbrev Q : Program
  Q = after u

  -- ---- operations on operands

  -- behind each way in which one ends, where its frame waits with its operands and without
  goes_by : {names : Names} {w : Completion} {f g : MethodState} {rest rest_also : List RunFrame} (taken : ℕ)
      → SameStanding u true names (Method f ∷ rest) (Method g ∷ rest_also)
      → SameStanding u true names (Method (less taken f) ∷ rest) (Method (less taken g) ∷ rest_also)
      → AtPoints u (Method f ∷ rest)
      → Goes P Q (comparison u) names w f (less taken f) g (less taken g) rest rest_also
  goes_by taken stand taken_stand at = record {
    given = λ more memory ones others is grows are. resumed_same (standing_more grows taken_stand) are;
    begins = λ more class grows. settled (beginnings_stand (standing_free (standing_more grows stand)));
    asks = λ more waits grows. settled (libraries_stand none_held (standing_more grows taken_stand));
    called = λ more to method ones others held held_also waits grows is are held_same.
        begins_same facts to (same_arguments are) held_same (standing_any (is_awaited u to) (standing_more grows taken_stand));
    unwinds = λ more throwing grows.
        stands_unwind facts same (standing_more grows taken_stand) (record { point = at.0.point; is = at.0.is }, at.1);
  }

  pub own_goes : {names : Names} {w : Completion} {f g : MethodState} {rest rest_also : List RunFrame} (taken : ℕ)
      → InOwn u names f g
      → AtPoints u (Method f ∷ rest)
      → SameStanding u (is_awaited u g.at) names rest rest_also
      → Goes P Q (comparison u) names w f (less taken f) g (less taken g) rest rest_also
  own_goes taken own at rest = goes_by taken (own_stand own rest) (own_stand (taken_own taken own) rest) at

  pub flat_goes : {names : Names} {w : Completion} {f g : MethodState} {waiting : List MethodState} {ones others : List RunFrame} (taken : ℕ)
      (i : InFlat u names f waiting g)
      → WaitsInFlat u i.expanded.host i.p f.at f.place
      → taken ≤ length f.stack
      → AtPoints u (Method f ∷ map Method waiting ++ ones)
      → SameStanding u (is_awaited u g.at) names ones others
      → Goes P Q (comparison u) names w f (less taken f) g (less taken g) (map Method waiting ++ ones) others
  flat_goes taken i waits enough at rest =
      goes_by taken (flat_stands i (λ told. waits) rest) (flat_stands (taken_flat taken i enough) (λ told. waits) rest) at

  -- ---- methods that end

  -- a result goes to the frame below
  pub below_same : {names : Names} {rest rest_also : List RunFrame}
      → SameStanding u true names rest rest_also
      → SameBelow P Q (comparison u) names rest rest_also
  below_same none_stand = none_below
  below_same (libraries_stand held rest) = library_below held (settled (libraries_stand none_held rest))
  below_same (beginnings_stand rest) = beginnings_below
  below_same (own_stand own rest) = methods_below (λ values also are. resumed_same (own_stand own rest) are)
  below_same (flat_stands i waits rest) = methods_below (λ values also are. resumed_same (flat_stands i waits rest) are)

  returns_by : {names : Names} {f g : MethodState} {ones others : List RunFrame}
      → EndSame P Q f g
      → SameHeld names f.held g.held
      → g.at ≡ f.at
      → SameStanding u (is_awaited u g.at) names ones others
      → Returns P Q (comparison u) names f g ones others
  returns_by {names = names} {f = f} {g = g} {ones = ones} {others = others} ends held at rest = record {
    ends = ends;
    held = held;
    initialised = λ is. settled (standing_free rest);
    below = λ no.
        below_same (subst (λ (b : Bool). SameStanding u b names ones others)
        (awaited_is P g.at ends.method false (ap (run_method P) at ∙ ends.is) no) rest);
  }

  pub own_returns : {names : Names} {f g : MethodState} {rest rest_also : List RunFrame}
      → InOwn u names f g
      → AtPoint u f
      → SameStanding u (is_awaited u g.at) names rest rest_also
      → Returns P Q (comparison u) names f g rest rest_also
  own_returns {f = f} {g = g} own at rest =
      let code = code_of_point P f.at f.place at.point at.is in
      let method = method_of_code P f.at code.0 code.1 in
      returns_by (ends_same same f g method.0 method.1 own.at) own.held own.at rest

  -- a host has no frames of callees above it, and holds what the flat code's frame does
  host_alone : {names : Names} {host : Coded} {expansion : Expansion} {held : Option ℕ} {locals : List (Option Value)}
      {chain : List MethodAt} {p : Standing} {waiting : List MethodState} {below : List Value}
      → Inside names host expansion held locals chain p waiting below
      → chain ≡ []
      → (waiting ≡ []) × (p.setting.coded.at ≡ host.at)
  host_alone in_host none = (refl, refl)
  host_alone (in_callee f top placed frame g inner outer in_place is) none = absurd (cc none)

  pub host_returns : {names : Names} {f g : MethodState} {waiting : List MethodState} {ones others : List RunFrame}
      (i : InFlat u names f waiting g)
      → i.chain ≡ []
      → SameStanding u (is_awaited u g.at) names ones others
      → Returns P Q (comparison u) names f g (map Method waiting ++ ones) others
  host_returns {names = names} {f = f} {g = g} {waiting = waiting} {ones = ones} {others = others} i none rest =
      subst (λ (none_wait : List MethodState). Returns P Q (comparison u) names f g (map Method none_wait ++ ones) others) (sym alone.0)
      (returns_by (ends_same same f g method.0 (ap (run_method P) own ∙ method.1) (sym i.expanded.own ∙ sym own))
      (subst (λ (chain : List MethodAt). Holds names chain f.held g.held) none i.in_place.held)
      (sym i.expanded.own ∙ sym own) rest) where
        alone : (waiting ≡ []) × (i.p.setting.coded.at ≡ i.expanded.host.at)
        alone = host_alone i.inside none

        own : f.at ≡ i.expanded.host.at
        own = i.in_place.at ∙ alone.1

        method : (method : RunMethod) × (run_method P i.expanded.host.at ≡ Some method)
            × (code_run method ≡ Some (method_code u.links i.expanded.host.scope))
        method = method_of_code P i.expanded.host.at (method_code u.links i.expanded.host.scope) (facts.host_code g.at i.flat i.is_flat i.expanded)

  -- ---- beginnings

  pub begins_on : {names : Names} {rest rest_also : List RunFrame} (class : ℕ)
      → SameStanding u false names rest rest_also
      → BeginsOn P Q (comparison u) names class rest rest_also
  begins_on {rest = rest} {rest_also = rest_also} class stand = record {
    begins = λ more first grows. settled (beginnings_stand (beginnings_stand (standing_more grows stand)));
    is_over = λ more grows none. settled (standing_more grows stand);
    initialises = λ more at method grows is is_method.
        begins_same facts at no_units none_held
        (subst (λ (b : Bool). SameStanding u b more rest rest_also)
        (sym (awaited_is P at method true is_method (initialiser_named P class at method is is_method)))
        (standing_more grows stand));
  }

  -- ---- the library

  waits_by : {names : Names} {f g : MethodState} {rest rest_also : List RunFrame} (made made_also : Option ℕ) (point also : Point)
      → point_at P f.at f.place ≡ Some point
      → point_at Q g.at g.place ≡ Some also
      → pending_of also.op ≡ pending_of point.op
      → SameStanding u true names (Method f ∷ rest) (Method g ∷ rest_also)
      → AtPoints u (Method f ∷ rest)
      → SameWaiting P Q (comparison u) names (waiting_in P (Library made ∷ Method f ∷ rest)) (waiting_in Q (Library made_also ∷ Method g ∷ rest_also))
  waits_by {names = names} {f = f} {g = g} {rest = rest} {rest_also = rest_also} made made_also point also is is_also pends stand at =
      rw (is, is_also, pends) (by (pending_of point.op)) where
        by : (pending : Option Pending)
            → SameWaiting P Q (comparison u) names (option_map (λ p. record { frame = f; rest = rest; pending = p }) pending)
            (option_map (λ p. record { frame = g; rest = rest_also; pending = p }) pending)
        by None = none_waits
        by (Some pending) =
            both_wait refl (λ more ones others grows are. resumed_same (standing_more grows stand) are)
            (λ more may_throw grows. stands_unwind facts same (standing_more grows stand) at)

  library_waits : {names : Names} {rest rest_also : List RunFrame} (made made_also : Option ℕ)
      → SameStanding u true names rest rest_also
      → AtPoints u rest
      → SameWaiting P Q (comparison u) names (waiting_in P (Library made ∷ rest)) (waiting_in Q (Library made_also ∷ rest_also))
  library_waits made made_also none_stand at = none_waits
  library_waits made made_also (libraries_stand held rest) at = none_waits
  library_waits made made_also (beginnings_stand rest) at = none_waits
  library_waits made made_also (own_stand own rest) at =
      waits_by made made_also at.0.point at.0.point at.0.is (own_point facts own ∙ at.0.is) refl (own_stand own rest) at
  library_waits made made_also (flat_stands {f = f} {g = g} i waits rest) at =
      let w = waits refl in
      waits_by made made_also w.point (record { op = w.stands.also; catches = _ }) w.is_point
      (ap (λ (m : MethodAt). point_at Q m g.place) (sym i.expanded.own) ∙ ap (point_at Q i.expanded.host.at) i.place ∙ w.stands.is_also)
      (pending_same w.stands.same ∙ pending_moved _ _ w.point.op) (flat_stands i waits rest) at

  -- what goes together behind each way in which an action ends
  pub at_library : {names : Names} {made made_also : Option ℕ} {rest rest_also : List RunFrame}
      → SameHeld names made made_also
      → SameStanding u true names rest rest_also
      → AtPoints u rest
      → AtLibrary P Q (comparison u) names made made_also rest rest_also
  at_library {made = made} {made_also = made_also} held stand at = record {
    stays = λ more grows. settled (libraries_stand (held_more grows held) (standing_more grows stand));
    called = λ more to method ones others lock lock_also is grows are locks.
        begins_same facts to (same_arguments are) locks (libraries_stand (held_more grows held) (standing_more grows stand));
    constructs = λ more to method ones others lock lock_also reference named is grows known are locks.
        begins_same facts to (same_arguments are) locks (libraries_stand (one_held known) (standing_more grows stand));
    begins = λ more class ones others top. begins_class top;
    unwinds = λ more grows. in_library (settled (libraries_stand none_held (standing_more grows stand)));
    waits = library_waits made made_also stand at;
  }
