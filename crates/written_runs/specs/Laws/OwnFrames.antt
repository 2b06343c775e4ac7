-- Frames that go together, behind each way in which a turn of a method may end that runs its own code in both.
use Rattle.std.proofs.Common.{◌≡◌, ◌+◌, ◌++◌, ℕ, suc, Bool, true, false, List, [], ◌∷◌, drop, length, reverse, Option, Some, None, IsTrue, refl, sym, ap, subst, ◌∙◌, arith}
use Rattle.std.proofs.lemmas.Bool.{false≢true}
use Rattle.class_model.specs.declared.class_file.MethodAt.{MethodAt}
use Rattle.machine_values.specs.Frames.{MethodState}
use Rattle.machine_values.specs.Heaps.{Heap}
use Rattle.machine_values.specs.Values.{units_of_values}
use Rattle.machine_values.specs.declared.frame.RunFrame.{RunFrame}
use Rattle.machine_values.specs.declared.frame.RunFrame.TheVariants.{Beginning, Library, Method}
use Rattle.machine_values.specs.declared.value.Value.{Value}
use Rattle.machine_values.specs.declared.value.Value.TheVariants.{Ref}
use Rattle.member_link.specs.Machine.Beginnings.{frame_with}
use Rattle.member_link.specs.Machine.Completions.{Completion}
use Rattle.member_link.specs.Machine.Performing.{is_initialiser, resumed}
use Rattle.member_link.specs.Machine.Programs.{Catch, Point, Program, RunMethod, point_at, run_method}
use Rattle.same_runs.specs.Laws.CaughtUp.{less}
use Rattle.same_runs.specs.Laws.MethodPoints.{awaited_is, catches_are, ends_there, method_there}
use Rattle.same_runs.specs.Laws.Moves.{same_dropped, same_joined, same_reversed}
use Rattle.same_runs.specs.Laws.Names.{held_more, names_themselves, units_more, values_more}
use Rattle.same_runs.specs.Laws.Units.{same_arguments}
use Rattle.same_runs.specs.Renamings.{Names, NamesMore, SameUnits, SameValues, and_value, no_values, none_held, same_reference}
use Rattle.same_runs.specs.SameFrames.{EndSame, SameCatches, Unwinds, and_catch, catches_at, in_beginnings, in_both, in_library, in_none, no_catches}
use Rattle.same_runs.specs.SameMoves.{MovesAlike}
use Rattle.same_runs.specs.SamePrograms.{SamePrograms}
use Rattle.same_runs.specs.SameWorlds.{Goes, Returns, SameBelow, beginnings_below, library_below, methods_below, none_below}
use Rattle.typed_runs.specs.TypedFrames.{Above, FramesConform, MethodConforms, StandsAt, above_of, asked_library, called_method, nothing_awaited, upon}
use Rattle.written_runs.specs.Laws.FewerVirtuals.{GoesFewer, OwnedBelow, goes_above, none_under, over_turn, owned_below, stands_under}
use Rattle.written_runs.specs.Laws.MethodsBegin.{RunsOwnCodes, begins_same}
use Rattle.written_runs.specs.Inner.PlannedFrames.{InPlanned, Known}
use Rattle.written_runs.specs.Inner.Setup.{Setup, first, second}
use Rattle.written_runs.specs.Inner.Standing.{InOwn, IsWaiting, Stands, beginnings_stand, libraries_stand, none_stand, own_stand, planned_stand, stands, is_awaited}
use Rattle.written_runs.specs.Inner.Waiting.{may_throw}
use Rattle.written_runs.specs.Laws.StandingMore.{stands_more}
use Rattle.written_runs.specs.VirtualObjects.{Virtuals}

-- ---- what other parts of the proof give

-- something above waits for
abbrev pub IsAwaited : Above → Type 0
IsAwaited nothing_awaited = ⊥
IsAwaited (called_method member) = Unit {0}
IsAwaited asked_library = Unit {0}

-- A planned frame that waits for what stands above it, in a typed world.
pub record WaitsPlanned (u : Setup) (virtuals : Virtuals) (known : Known) (names : Names) (heap : Heap) (f g : MethodState) (ones others : List RunFrame)
    : Type 0 where
  pub in_planned : InPlanned u virtuals known names (length ones) f g
  pub waiting : IsWaiting in_planned.moment
  pub below : Stands u virtuals known (is_awaited u g.at) names ones others
  pub owned : OwnedBelow u virtuals (Method f ∷ ones)
  pub above : Above
  pub awaited : IsAwaited above
  pub typed : FramesConform (first u) u.typings heap above (Method f ∷ ones)

-- what a frame waits for may throw: a method that was called, or the library, where its answer may
abbrev pub MayThrowTo : Setup → MethodState → Above → Type 0
MayThrowTo u f nothing_awaited = ⊥
MayThrowTo u f (called_method member) = Unit {0}
MayThrowTo u f asked_library = (point : Point) → point_at (first u) f.at f.place ≡ Some point → IsTrue (may_throw point.op)

abbrev pub TopMayThrow : Setup → Above → List RunFrame → Type 0
TopMayThrow u above [] = Unit {0}
TopMayThrow u above (Library made ∷ frames) = Unit {0}
TopMayThrow u above (Beginning class ∷ frames) = Unit {0}
TopMayThrow u above (Method f ∷ frames) = MayThrowTo u f above

-- An object that is thrown out of what it waits for lands in a handler of flat code, and in the handler's written target.
pub record UnwindsPlanned (u : Setup) : Type 0 where
  pub catches : (virtuals : Virtuals) (known : Known) (names : Names) (heap : Heap) (f g : MethodState) (ones others : List RunFrame)
      (waits : WaitsPlanned u virtuals known names heap f g ones others)
      → MayThrowTo u f waits.above
      → SameCatches (GoesFewer u virtuals known) names f g ones others (catches_at (first u) f) (catches_at (second u) g)

-- Behind a result it arrives at the block behind its instruction.
pub record ReturnsToPlanned (u : Setup) : Type 0 where
  pub resumes : (virtuals : Virtuals) (known : Known) (names : Names) (heap : Heap) (f g : MethodState) (ones others : List RunFrame)
      (values also : List Value)
      → WaitsPlanned u virtuals known names heap f g ones others
      → SameValues names values also
      → GoesFewer u virtuals known names (Method (resumed f values) ∷ ones) (Method (resumed g also) ∷ others)

pub record FrameLaws (u : Setup) : Type 0 where
  pub same : SamePrograms (first u) (second u)
  pub codes : RunsOwnCodes u
  pub unwinds : UnwindsPlanned u
  pub returns : ReturnsToPlanned u

-- ---- frames of typed worlds

-- a frame of a method stands at a point
stands_at : (P : Program) (u : Setup) (heap : Heap) (f : MethodState) (above : Above)
    → MethodConforms P u.typings heap f above
    → StandsAt P u.typings heap f
stands_at P u heap f nothing_awaited conforms = conforms.stands
stands_at P u heap f (called_method member) conforms = conforms.stands
stands_at P u heap f asked_library conforms = conforms.stands

pub point_on_top : (u : Setup) {heap : Heap} {above : Above} {f : MethodState} {ones : List RunFrame}
    → FramesConform (first u) u.typings heap above (Method f ∷ ones)
    → (point : Point) × (point_at (first u) f.at f.place ≡ Some point)
point_on_top u {heap = heap} {above = above} {f = f} (upon conforms rest) =
    let here = stands_at (first u) u heap f above conforms in (here.point, here.is_point)

-- ---- frames one by one

-- a method's own frames go together with other places, stacks and units
own_changed : {u : Setup} {names more : Names} {f g : MethodState} (place place_also : ℕ) (ones others : List Value) (units units_also : List (Option Value))
    → NamesMore names more
    → InOwn u names f g
    → place_also ≡ place
    → SameValues more ones others
    → SameUnits more units units_also
    → InOwn u more (record f { place = place; stack = ones; locals = units })
    (record g { place = place_also; stack = others; locals = units_also })
own_changed place place_also ones others units units_also grows own is are shifted = record {
  not_written = own.not_written;
  at = own.at;
  place = is;
  locals = shifted;
  stack = are;
  held = held_more grows own.held;
}

own_more : {u : Setup} {names more : Names} {f g : MethodState} → NamesMore names more → InOwn u names f g → InOwn u more f g
own_more {f = f} {g = g} grows own =
    own_changed f.place g.place f.stack g.stack f.locals g.locals grows own own.place (values_more grows own.stack) (units_more grows own.locals)

-- less some operands
own_taken : {u : Setup} {names more : Names} {f g : MethodState} (taken : ℕ)
    → NamesMore names more
    → InOwn u names f g
    → InOwn u more (less taken f) (less taken g)
own_taken {f = f} {g = g} taken grows own =
    own_changed f.place g.place (drop taken f.stack) (drop taken g.stack) f.locals g.locals grows own own.place
    (values_more grows (same_dropped taken own.stack)) (units_more grows own.locals)

-- and with values
pub own_resumed : {u : Setup} {names more : Names} {f g : MethodState} (values also : List Value)
    → NamesMore names more
    → InOwn u names f g
    → SameValues more values also
    → InOwn u more (resumed f values) (resumed g also)
own_resumed {f = f} {g = g} values also grows own are =
    own_changed (f.place + 1) (g.place + 1) (reverse values ++ f.stack) (reverse also ++ g.stack) f.locals g.locals grows own
    (ap (λ (n : ℕ). n + 1) own.place) (same_joined (same_reversed are) (values_more grows own.stack)) (units_more grows own.locals)

-- frames go together under more names
pub names_grown : {u : Setup} {virtuals : Virtuals} {known : Known} {waiting : Bool} {names more : Names} {ones others : List RunFrame}
    → NamesMore names more
    → Stands u virtuals known waiting names ones others
    → Stands u virtuals known waiting more ones others
names_grown grows below =
    stands_more (λ frame low. record { forth = λ site virtual there. there; back = λ site virtual there. there })
    (record { keeps = λ reference class is. is }) grows below

-- nothing is asked of the top frame
stands_free : {u : Setup} {virtuals : Virtuals} {known : Known} {waiting : Bool} {names : Names} {ones others : List RunFrame}
    → Stands u virtuals known waiting names ones others
    → Stands u virtuals known false names ones others
stands_free none_stand = none_stand
stands_free (libraries_stand held below) = libraries_stand held below
stands_free (beginnings_stand below) = beginnings_stand below
stands_free (own_stand own below) = own_stand own below
stands_free (planned_stand in_planned waits below) = planned_stand in_planned (λ impossible. absurd (false≢true impossible)) below

pub above_awaited : (u : Setup) (f : MethodState) (method : RunMethod)
    → run_method (first u) f.at ≡ Some method
    → is_initialiser method ≡ false
    → IsAwaited (above_of (first u) (Method f))
above_awaited u f method is named = rw (is, named) tt

-- a called method may throw
pub below_may_throw : (u : Setup) (f : MethodState) (method : RunMethod)
    → run_method (first u) f.at ≡ Some method
    → is_initialiser method ≡ false
    → (ones : List RunFrame)
    → TopMayThrow u (above_of (first u) (Method f)) ones
below_may_throw u f method is named [] = tt
below_may_throw u f method is named (Library made ∷ ones) = tt
below_may_throw u f method is named (Beginning class ∷ ones) = tt
below_may_throw u f method is named (Method g ∷ ones) = rw (is, named) tt

pub typed_below : (u : Setup) {heap : Heap} {above : Above} {f : MethodState} {ones : List RunFrame}
    → FramesConform (first u) u.typings heap above (Method f ∷ ones)
    → FramesConform (first u) u.typings heap (above_of (first u) (Method f)) ones
typed_below u (upon conforms rest) = rest

-- a method that is not rewritten stands at the same point in both
pub own_point : (u : Setup) (laws : FrameLaws u) {names : Names} {f g : MethodState} (point : Point)
    → InOwn u names f g
    → point_at (first u) f.at f.place ≡ Some point
    → point_at (second u) g.at g.place ≡ Some point
own_point u laws {f = f} point own is =
    let method = method_there (first u) f.at f.place point is in
    rw (own.at, own.place, laws.codes.same f.at method.0 own.not_written method.1) is

module _ (u : Setup) (laws : FrameLaws u) (virtuals : Virtuals) (known : Known) where
  abbrev P : Program
  P = first u

  abbrev Q : Program
  Q = second u

  abbrev Together : Names → List RunFrame → List RunFrame → Type 0
  Together names ones others = GoesFewer u virtuals known names ones others

  abbrev UnwindsSo : Names → List RunFrame → List RunFrame → Type 0
  UnwindsSo names ones others = Unwinds P Q (GoesFewer u virtuals known) (GoesFewer u virtuals known) names ones others

  -- below a method that is no class initialiser frames wait
  pub waits_below : (f g : MethodState) (method : RunMethod)
      → run_method P f.at ≡ Some method
      → g.at ≡ f.at
      → is_initialiser method ≡ false
      → is_awaited u g.at ≡ true
  waits_below f g method is at plain = ap (is_awaited u) at ∙ awaited_is (first u) f.at method false is plain

  -- frames that stood below go together by themselves
  pub goes_below : {waiting : Bool} {names : Names} {rest rest_also : List RunFrame}
      → OwnedBelow u virtuals rest
      → Stands u virtuals known waiting names rest rest_also
      → Together names rest rest_also
  goes_below {names = names} {rest = rest} {rest_also = rest_also} owned below =
      goes_above [] [] rest rest_also owned (stands (stands_free (stands_under (names_themselves names) below)))

  pub library_goes : {names : Names} {rest rest_also : List RunFrame}
      → OwnedBelow u virtuals rest
      → Stands u virtuals known true names rest rest_also
      → Together names (Library None ∷ rest) (Library None ∷ rest_also)
  library_goes {names = names} {rest = rest} {rest_also = rest_also} owned below =
      goes_above (Library None ∷ []) (Library None ∷ []) rest rest_also owned (stands (libraries_stand none_held (stands_under (names_themselves names) below)))

  pub own_goes_on : {names more : Names} {f g : MethodState} {rest rest_also : List RunFrame}
      → OwnedBelow u virtuals rest
      → NamesMore names more
      → InOwn u more f g
      → Stands u virtuals known (is_awaited u g.at) names rest rest_also
      → Together more (Method f ∷ rest) (Method g ∷ rest_also)
  own_goes_on {f = f} {g = g} {rest = rest} {rest_also = rest_also} owned grows own below =
      goes_above (Method f ∷ []) (Method g ∷ []) rest rest_also owned (stands (own_stand own (stands_under grows below)))

  -- ---- objects that are thrown

  own_catches : {names : Names} {f g : MethodState} {ones others : List RunFrame}
      → InOwn u names f g
      → OwnedBelow u virtuals ones
      → Stands u virtuals known (is_awaited u g.at) names ones others
      → (catches : List Catch)
      → SameCatches (GoesFewer u virtuals known) names f g ones others catches catches
  own_catches own owned below [] = no_catches
  own_catches {f = f} {g = g} own owned below (c ∷ catches) =
      and_catch {class = c.class} {to = c.to} {to_also = c.to}
      (λ more reference named grows is.
      own_goes_on owned grows
      (own_changed c.to c.to (Ref reference ∷ []) (Ref named ∷ []) f.locals g.locals grows own refl
      (and_value (same_reference is) no_values) (units_more grows own.locals)) below)
      (own_catches own owned below catches)

  own_unwinds : {names : Names} {f g : MethodState} {ones others : List RunFrame}
      → InOwn u names f g
      → OwnedBelow u virtuals ones
      → Stands u virtuals known (is_awaited u g.at) names ones others
      → (point : Point)
      → point_at P f.at f.place ≡ Some point
      → ((method : RunMethod)
      → run_method P f.at ≡ Some method
      → is_initialiser method ≡ false
      → UnwindsSo names ones others)
      → UnwindsSo names (Method f ∷ ones) (Method g ∷ others)
  own_unwinds {names = names} {f = f} {g = g} {ones = ones} {others = others} own owned below point is unwinds =
      in_both ends own.held
      (subst (SameCatches (GoesFewer u virtuals known) names f g ones others (catches_at P f)) same_catches
      (own_catches own owned below (catches_at P f)))
      (goes_below owned below) (λ plain. unwinds ends.method ends.is plain) where
        ends : EndSame P Q f g
        ends = ends_there laws.same f g point is own.at

        is_also : point_at Q g.at g.place ≡ Some point
        is_also = own_point u laws point own is

        same_catches : catches_at P f ≡ catches_at Q g
        same_catches = catches_are P f point is ∙ sym (catches_are Q g point is_also)

  abbrev pub waits_planned : {names : Names} {heap : Heap} {above : Above} {f g : MethodState} {ones others : List RunFrame}
      (in_planned : InPlanned u virtuals known names (length ones) f g)
      → IsWaiting in_planned.moment
      → Stands u virtuals known (is_awaited u g.at) names ones others
      → OwnedBelow u virtuals (Method f ∷ ones)
      → IsAwaited above
      → FramesConform P u.typings heap above (Method f ∷ ones)
      → WaitsPlanned u virtuals known names heap f g ones others
  waits_planned {above = above} in_planned waiting below owned awaited typed = record {
    in_planned = in_planned;
    waiting = waiting;
    below = below;
    owned = owned;
    above = above;
    awaited = awaited;
    typed = typed;
  }

  -- frames that wait
  pub waiting_unwind : {waiting : Bool} {names : Names} {heap : Heap} {above : Above} {ones others : List RunFrame}
      → Stands u virtuals known waiting names ones others
      → waiting ≡ true
      → OwnedBelow u virtuals ones
      → IsAwaited above
      → TopMayThrow u above ones
      → FramesConform P u.typings heap above ones
      → UnwindsSo names ones others
  waiting_unwind none_stand told owned awaited may typed = in_none
  waiting_unwind (libraries_stand held below) told owned awaited may typed = in_library (library_goes (owned_below owned) below)
  waiting_unwind (beginnings_stand below) told owned awaited may typed = in_beginnings
  waiting_unwind (own_stand {f = f} {g = g} {ones = ones} own below) told owned awaited may typed =
      let point = point_on_top u typed in
      own_unwinds own (owned_below owned) below point.0 point.1
      (λ method is plain.
      waiting_unwind below (waits_below f g method is own.at plain) (owned_below owned) (above_awaited u f method is plain)
      (below_may_throw u f method is plain ones) (typed_below u typed))
  waiting_unwind {names = names} {heap = heap} (planned_stand {f = f} {g = g} {ones = ones} {others = others} in_planned waits below) told owned awaited
      may typed =
      let point = point_on_top u typed in
      let ends : EndSame P Q f g = ends_there laws.same f g point.0 point.1 (sym in_planned.at) in
      in_both ends in_planned.held
      (laws.unwinds.catches virtuals known names heap f g ones others (waits_planned in_planned (waits told) below owned awaited typed) may)
      (goes_below (owned_below owned) below)
      (λ plain.
      waiting_unwind below (waits_below f g ends.method ends.is (sym in_planned.at) plain) (owned_below owned)
      (above_awaited u f ends.method ends.is plain) (below_may_throw u f ends.method ends.is plain ones) (typed_below u typed))

  -- ---- a method on top that runs its own code

  -- a result goes to the frame below
  pub below_same : {names : Names} {heap : Heap} {waiting : Bool} {above : Above} {ones others : List RunFrame}
      → Stands u virtuals known waiting names ones others
      → waiting ≡ true
      → OwnedBelow u virtuals ones
      → IsAwaited above
      → FramesConform P u.typings heap above ones
      → SameBelow P Q (over_turn u virtuals known) names ones others
  below_same none_stand told there awaited conforms = none_below
  below_same (libraries_stand held lower) told there awaited conforms = library_below held (library_goes (owned_below there) lower)
  below_same (beginnings_stand lower) told there awaited conforms = beginnings_below
  below_same {names = names} (own_stand own_there lower) told there awaited conforms =
      methods_below (λ values also are.
      own_goes_on (owned_below there) (names_themselves names) (own_resumed values also (names_themselves names) own_there are) lower)
  below_same {names = names} {heap = heap} (planned_stand {f = one} {g = other} {ones = ones} {others = others} in_planned waits lower) told there awaited conforms =
      methods_below (λ values also are.
      laws.returns.resumes virtuals known names heap one other ones others values also
      (waits_planned in_planned (waits told) lower there awaited conforms) are)

  module _ {names : Names} {heap : Heap} {f g : MethodState} {rest rest_also : List RunFrame} (own : InOwn u names f g)
      (below : Stands u virtuals known (is_awaited u g.at) names rest rest_also) (owned : OwnedBelow u virtuals rest)
      (typed : FramesConform P u.typings heap nothing_awaited (Method f ∷ rest)) where
    throws : {more : Names} {thrower also : MethodState}
        → NamesMore names more
        → InOwn u more thrower also
        → thrower.at ≡ f.at
        → thrower.place ≡ f.place
        → also.at ≡ g.at
        → UnwindsSo more (Method thrower ∷ rest) (Method also ∷ rest_also)
    throws {more = more} {thrower = thrower} {also = also} grows own_then at place at_also =
        own_unwinds own_then owned (subst (λ (m : MethodAt). Stands u virtuals known (is_awaited u m) more rest rest_also) (sym at_also) (names_grown grows below))
        point.0 (rw (at, place) point.1)
        (λ method is plain.
        waiting_unwind (names_grown grows below) (waits_below f g method (ap (run_method P) (sym at) ∙ is) own.at plain) owned
        (above_awaited u f method (ap (run_method P) (sym at) ∙ is) plain)
        (below_may_throw u f method (ap (run_method P) (sym at) ∙ is) plain rest) (typed_below u typed)) where
          point : (point : Point) × (point_at P f.at f.place ≡ Some point)
          point = point_on_top u typed

    -- behind each way in which an operation on operands ends
    pub own_goes : {w : Completion} (taken : ℕ)
        → Goes P Q (over_turn u virtuals known) names w f (less taken f) g (less taken g) rest rest_also
    own_goes taken = record {
      given = λ more memory ones others is grows are.
          own_goes_on owned grows (own_resumed ones others (names_themselves more) (own_taken taken grows own) are) below;
      begins = λ more class grows.
          goes_above (Beginning class ∷ Method f ∷ []) (Beginning class ∷ Method g ∷ []) rest rest_also owned
          (stands (beginnings_stand (own_stand (own_more grows own) (stands_under grows below))));
      asks = λ more waits grows.
          goes_above (Library None ∷ Method (less taken f) ∷ []) (Library None ∷ Method (less taken g) ∷ []) rest rest_also owned
          (stands (libraries_stand none_held (own_stand (own_taken taken grows own) (stands_under grows below))));
      called = λ more at method ones others held held_also waits grows is are same_held.
          goes_above (Method (frame_with P at (units_of_values ones) held) ∷ Method (less taken f) ∷ [])
          (Method (frame_with Q at (units_of_values others) held_also) ∷ Method (less taken g) ∷ []) rest rest_also owned
          (begins_same laws.codes at method is (same_arguments are) same_held
          (none_under (length rest) virtuals (suc (length rest)) (omega arith)) (own_stand (own_taken taken grows own) (stands_under grows below)));
      unwinds = λ more throwing grows. throws grows (own_taken taken grows own) refl refl refl;
    }

    -- behind an operation of the frame alone
    pub own_moves : MovesAlike P Q (over_turn u virtuals known) names f g rest rest_also
    own_moves = record {
      place = own.place;
      same = own.stack;
      units = own.locals;
      goes = λ place ones others units units_also are shifted.
          own_goes_on owned (names_themselves names)
          (own_changed place place ones others units units_also (names_themselves names) own refl are shifted) below;
      unwinds = λ more grows. throws grows (own_more grows own) refl refl refl;
    }

    -- behind the method's end
    pub own_returns : Returns P Q (over_turn u virtuals known) names f g rest rest_also
    own_returns =
        let point = point_on_top u typed in
        let ends : EndSame P Q f g = ends_there laws.same f g point.0 point.1 own.at in
        record {
          ends = ends;
          held = own.held;
          initialised = λ is. goes_below owned below;
          below = λ plain.
              below_same below (waits_below f g ends.method ends.is own.at plain) owned (above_awaited u f ends.method ends.is plain)
              (typed_below u typed);
        }
