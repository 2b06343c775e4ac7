-- What goes together behind each way in which an action of the library may end, where its frame is on top of both.
use Rattle.std.proofs.lemmas.Option.{same_Some}
use Rattle.std.proofs.Common.{◌≡◌, ◌⊎◌, ℕ, suc, Bool, true, List, [], ◌∷◌, length, Option, Some, None, IsTrue, option_map, refl, sym, subst, ◌∙◌, arith, inl, inr}
use Rattle.machine_values.specs.Frames.{MethodState}
use Rattle.machine_values.specs.Heaps.{Heap}
use Rattle.machine_values.specs.Values.{units_of_values}
use Rattle.machine_values.specs.declared.action.Action.{Action}
use Rattle.machine_values.specs.declared.frame.RunFrame.{RunFrame}
use Rattle.machine_values.specs.declared.frame.RunFrame.TheVariants.{Beginning, Library, Method}
use Rattle.machine_values.specs.declared.value.Value.{Value}
use Rattle.member_link.specs.Machine.Acting.{Pending, act, pending_of, waiting_in}
use Rattle.member_link.specs.Machine.Beginnings.{frame_with}
use Rattle.member_link.specs.Machine.Performing.{resumed}
use Rattle.member_link.specs.Machine.Programs.{Point, Program, point_at}
use Rattle.member_link.specs.Machine.Stepping.{is_library_turn}
use Rattle.member_link.specs.Machine.Worlds.{World, going}
use Rattle.same_runs.specs.Laws.Names.{held_more, names_themselves}
use Rattle.same_runs.specs.Laws.Units.{same_arguments}
use Rattle.same_runs.specs.Renamings.{Names, SameHeld, SameValues, one_held}
use Rattle.same_runs.specs.SameFrames.{in_library}
use Rattle.same_runs.specs.SameWorlds.{AtLibrary, SameWaiting, both_wait, none_waits}
use Rattle.typed_runs.specs.TypedFrames.{Above, FramesConform, asked_library, called_method, nothing_awaited}
use Rattle.typed_runs.specs.TypedWorlds.{StaysTyped, TypedWorld}
use Rattle.written_runs.specs.Laws.FewerVirtuals.{GoesFewer, OwnedBelow, goes_above, none_under, over_turn, owned_below, owned_over, stands_under}
use Rattle.written_runs.specs.Laws.OwnFrames.{IsAwaited, MayThrowTo, WaitsPlanned, library_goes, names_grown, own_goes_on, own_point, own_resumed, point_on_top, waiting_unwind, waits_planned}
use Rattle.written_runs.specs.Laws.MethodsBegin.{begins_same}
use Rattle.written_runs.specs.Laws.OwnTurns.{TurnLaws}
use Rattle.written_runs.specs.Laws.StillThere.{MemoryStays}
use Rattle.written_runs.specs.Inner.PlannedFrames.{Known}
use Rattle.written_runs.specs.Inner.Setup.{Setup, first, second}
use Rattle.written_runs.specs.Inner.Standing.{Stands, begins_class, beginnings_stand, libraries_stand, none_stand, own_stand, planned_stand, stands}
use Rattle.written_runs.specs.Inner.Waiting.{may_throw}
use Rattle.written_runs.specs.VirtualObjects.{Virtuals}

-- ---- what other parts of the proof give

-- the instructions at which two frames wait ask for the same
pub record PendAlike (u : Setup) (f g : MethodState) : Type 0 where
  pub point : Point
  pub also : Point
  pub is_point : point_at (first u) f.at f.place ≡ Some point
  pub is_also : point_at (second u) g.at g.place ≡ Some also
  pub same : pending_of also.op ≡ pending_of point.op

-- a planned frame waits at an instruction that is written as it is
pub record PendsPlanned (u : Setup) : Type 0 where
  pub pends : (virtuals : Virtuals) (known : Known) (names : Names) (heap : Heap) (f g : MethodState) (ones others : List RunFrame)
      → WaitsPlanned u virtuals known names heap f g ones others
      → PendAlike u f g

pub record LibraryLaws (u : Setup) : Type 0 where
  pub turns : TurnLaws u
  pub acts_typed : (w : World) (action : Action)
      → TypedWorld (first u) u.typings w
      → is_library_turn w.frames ≡ true
      → StaysTyped (first u) u.typings w (act (first u) action w)
  -- an action leaves objects what they are, and classes begun
  pub keeps : (w : World) (action : Action)
      → TypedWorld (first u) u.typings w
      → w.halt ≡ going
      → is_library_turn w.frames ≡ true
      → MemoryStays w.memory (act (first u) action w).memory
  pub pends : PendsPlanned u

-- ---- frames

module _ (u : Setup) (laws : LibraryLaws u) (virtuals : Virtuals) (known : Known) where
  abbrev P : Program
  P = first u

  abbrev Q : Program
  Q = second u

  -- a frame that waits goes on behind its instruction
  resumes : {waiting : Bool} {names : Names} {heap : Heap} {above : Above} {f g : MethodState} {ones others : List RunFrame} (values also : List Value)
      → Stands u virtuals known waiting names (Method f ∷ ones) (Method g ∷ others)
      → waiting ≡ true
      → OwnedBelow u virtuals (Method f ∷ ones)
      → IsAwaited above
      → FramesConform P u.typings heap above (Method f ∷ ones)
      → SameValues names values also
      → GoesFewer u virtuals known names (Method (resumed f values) ∷ ones) (Method (resumed g also) ∷ others)
  resumes {names = names} values also (own_stand own below) told owned awaited typed are =
      own_goes_on u laws.turns.frames virtuals known (owned_below owned) (names_themselves names)
      (own_resumed values also (names_themselves names) own are) below
  resumes {names = names} {heap = heap} {f = f} {g = g} {ones = ones} {others = others} values also (planned_stand in_planned waits below) told owned
      awaited typed are =
      laws.turns.frames.returns.resumes virtuals known names heap f g ones others values also
      (waits_planned u laws.turns.frames virtuals known in_planned (waits told) below owned awaited typed) are

  waits_by : {names : Names} {heap : Heap} {above : Above} {f g : MethodState} {rest rest_also : List RunFrame} (made made_also : Option ℕ)
      → PendAlike u f g
      → Stands u virtuals known true names (Method f ∷ rest) (Method g ∷ rest_also)
      → OwnedBelow u virtuals (Method f ∷ rest)
      → IsAwaited above
      → FramesConform P u.typings heap above (Method f ∷ rest)
      → SameWaiting P Q (over_turn u virtuals known) names (waiting_in P (Library made ∷ Method f ∷ rest)) (waiting_in Q (Library made_also ∷ Method g ∷ rest_also))
  waits_by {names = names} {f = f} {g = g} {rest = rest} {rest_also = rest_also} made made_also pend stand owned awaited typed =
      rw (pend.is_point, pend.is_also, pend.same) (by (pending_of pend.point.op) refl) where
        -- where the library's answer may throw
        may_throw_to : (above : Above) (pending : Pending) → IsAwaited above → pending_of pend.point.op ≡ Some pending → IsTrue pending.may_throw
            → MayThrowTo u f above
        may_throw_to nothing_awaited pending waits is may = waits
        may_throw_to (called_method member) pending waits is may = tt
        may_throw_to asked_library pending waits is may = λ point there.
            subst (λ (p : Point). IsTrue (may_throw p.op)) (same_Some pend.point point (sym pend.is_point ∙ there)) (rw (is) may)

        by : (pending : Option Pending) → pending_of pend.point.op ≡ pending
            → SameWaiting P Q (over_turn u virtuals known) names (option_map (λ p. record { frame = f; rest = rest; pending = p }) pending)
            (option_map (λ p. record { frame = g; rest = rest_also; pending = p }) pending)
        by None is = none_waits
        by (Some pending) is =
            both_wait refl (λ more ones others grows are. resumes ones others (names_grown grows stand) refl owned awaited typed are)
            (λ more may grows.
            waiting_unwind u laws.turns.frames virtuals known (names_grown grows stand) refl owned awaited (may_throw_to _ pending awaited is may) typed)

  library_waits : {names : Names} {heap : Heap} {above : Above} {rest rest_also : List RunFrame} (made made_also : Option ℕ)
      → Stands u virtuals known true names rest rest_also
      → OwnedBelow u virtuals rest
      → IsAwaited above
      → FramesConform P u.typings heap above rest
      → SameWaiting P Q (over_turn u virtuals known) names (waiting_in P (Library made ∷ rest)) (waiting_in Q (Library made_also ∷ rest_also))
  library_waits made made_also none_stand owned awaited typed = none_waits
  library_waits made made_also (libraries_stand held below) owned awaited typed = none_waits
  library_waits made made_also (beginnings_stand below) owned awaited typed = none_waits
  library_waits made made_also (own_stand {f = f} {g = g} own below) owned awaited typed =
      let point = point_on_top u typed in
      waits_by made made_also (record {
        point = point.0;
        also = point.0;
        is_point = point.1;
        is_also = own_point u laws.turns.frames point.0 own point.1;
        same = refl;
      }) (own_stand own below) owned awaited typed
  library_waits {names = names} {heap = heap} made made_also (planned_stand {f = f} {g = g} {ones = ones} {others = others} in_planned waits below) owned
      awaited typed =
      waits_by made made_also
      (laws.pends.pends virtuals known names heap f g ones others
      (waits_planned u laws.turns.frames virtuals known in_planned (waits refl) below owned awaited typed))
      (planned_stand in_planned waits below) owned awaited typed

  -- what goes together behind each way in which an action ends
  pub at_library : {names : Names} {heap : Heap} {made made_also : Option ℕ} {rest rest_also : List RunFrame}
      → SameHeld names made made_also
      → Stands u virtuals known true names rest rest_also
      → OwnedBelow u virtuals rest
      → (rest ≡ [] → rest_also ≡ [])
      → FramesConform P u.typings heap asked_library rest ⊎ (rest ≡ [])
      → AtLibrary P Q (over_turn u virtuals known) names made made_also rest rest_also
  at_library {names = names} {heap = heap} {made = made} {made_also = made_also} {rest = rest} {rest_also = rest_also} held below owned none typed = record {
    stays = λ more grows.
        goes_above (Library made ∷ []) (Library made_also ∷ []) rest rest_also owned
        (stands (libraries_stand (held_more grows held) (stands_under grows below)));
    called = λ more at method ones others lock lock_also is grows are locks.
        goes_above (Method (frame_with P at (units_of_values ones) lock) ∷ Library made ∷ [])
        (Method (frame_with Q at (units_of_values others) lock_also) ∷ Library made_also ∷ []) rest rest_also owned
        (begins_same laws.turns.frames.codes at method is (same_arguments are) locks
        (none_under (length rest) virtuals (suc (length rest)) (omega arith)) (libraries_stand (held_more grows held) (stands_under grows below)));
    constructs = λ more at method ones others lock lock_also reference named is grows name are locks.
        goes_above (Method (frame_with P at (units_of_values ones) lock) ∷ Library (Some reference) ∷ [])
        (Method (frame_with Q at (units_of_values others) lock_also) ∷ Library (Some named) ∷ []) rest rest_also owned
        (begins_same laws.turns.frames.codes at method is (same_arguments are) locks
        (none_under (length rest) virtuals (suc (length rest)) (omega arith)) (libraries_stand (one_held name) (stands_under grows below)));
    begins = λ more class ones others goes. record {
      left = goes.left;
      fewer = goes.fewer;
      top = begins_class goes.top;
      owned = owned_over (Beginning class) goes.owned;
    };
    unwinds = λ more grows. in_library (library_goes u laws.turns.frames virtuals known owned (names_grown grows below));
    waits = by typed below;
  } where
    by : FramesConform P u.typings heap asked_library rest ⊎ (rest ≡ [])
        → Stands u virtuals known true names rest rest_also
        → SameWaiting P Q (over_turn u virtuals known) names (waiting_in P (Library made ∷ rest)) (waiting_in Q (Library made_also ∷ rest_also))
    by (inl conforms) stand = library_waits made made_also stand owned tt conforms
    by (inr is) stand = nothing is (none is) where
      nothing : rest ≡ [] → rest_also ≡ []
          → SameWaiting P Q (over_turn u virtuals known) names (waiting_in P (Library made ∷ rest)) (waiting_in Q (Library made_also ∷ rest_also))
      nothing is is_also = rw (is, is_also) none_waits
