use Rattle.std.specs.Prelude.{◌≡◌, ◌&&◌, ◌+◌, ◌++◌, refl, ℕ, Bool, true, false, List, [], ◌∷◌, reverse, Option, Some, None, IfSome, option_and_then, if◌then◌else◌}
use Rattle.std.proofs.Common.{ap, sym, ◌∙◌, subst}
use Rattle.class_model.specs.declared.descriptor.FieldType.{FieldType}
use Rattle.class_model.specs.declared.frame.Frame.{Frame}
use Rattle.class_tree.specs.Names.{throwable}
use Rattle.machine_values.specs.Frames.{MethodState}
use Rattle.machine_values.specs.Heaps.{Heap, object_at}
use Rattle.machine_values.specs.Values.{narrowed}
use Rattle.machine_values.specs.declared.action.Given.{Given}
use Rattle.machine_values.specs.declared.frame.RunFrame.{RunFrame}
use Rattle.machine_values.specs.declared.frame.RunFrame.TheVariants as frames
use Rattle.machine_values.specs.declared.object.Object.{Object}
use Rattle.machine_values.specs.declared.value.Value.{Value}
use Rattle.member_link.specs.Bodies.{item_falls_through}
use Rattle.member_link.specs.Machine.Acting.{fault, given_value, Pending, pending_of, Waiting, waiting_in, answered, answer_with, answer_without, act_return, is_throwable, act_throw}
use Rattle.member_link.specs.Machine.Performing.{resumed, thrown}
use Rattle.member_link.specs.Machine.Programs.{Program, Point, point_at}
use Rattle.member_link.specs.Machine.Shapes.{value_conforms}
use Rattle.member_link.specs.Machine.Worlds.{World}
use Rattle.member_link.specs.Rows.MemberRows.{result_types}
use Rattle.member_link.specs.Rows.Row.{Row, row_frame, stack_behind}
use Rattle.typed_runs.proofs.Awaited.{AnsweredBy, read_answers}
use Rattle.typed_runs.proofs.Basics.{and_second, some_of}
use Rattle.typed_runs.proofs.BeginningSteps.{of_map}
use Rattle.typed_runs.proofs.Given.{narrowed_conforms}
use Rattle.typed_runs.proofs.Here.{stays, pushed}
use Rattle.typed_runs.proofs.Kept.{keeps_same}
use Rattle.typed_runs.proofs.LibraryFrames.{fault_stays}
use Rattle.typed_runs.proofs.Points.{of_chain, does_there}
use Rattle.typed_runs.proofs.Raising.{thrown_stays}
use Rattle.typed_runs.proofs.Unwinding.{IsThrown, instance_conforms}
use Rattle.typed_runs.specs.Conforming.{AllConform, no_values, and_value}
use Rattle.typed_runs.specs.LinkedCalls.{IsLinkedCall}
use Rattle.typed_runs.specs.TypedFrames.{Above, above_of, ShowsEvent, Waits, FramesConform, lowest, upon}
use Rattle.typed_runs.specs.TypedPoints.{MayBeRead, Typing, LeadsTo, row_at}
use Rattle.typed_runs.specs.TypedPrograms.{Typings}
use Rattle.typed_runs.specs.TypedWorlds.{TypedWorld, StaysTyped}

-- ---- the frame that waits

pub record WaitsHere (P : Program) (T : Typings) (h : Heap) (x : Waiting) : Type 0 where
  pub waits : Waits P T h x.frame ShowsEvent
  pub below : FramesConform P T h (above_of P (frames.Method x.frame)) x.rest
  pub pends : pending_of waits.stands.point.op ≡ Some x.pending

pub waiting_there : (P : Program) (T : Typings) (h : Heap) (a : Above) (fs : List RunFrame) → FramesConform P T h a fs → (x : Waiting)
    → waiting_in P fs ≡ Some x → WaitsHere P T h x
waiting_there P T h a fs (lowest made) x is = cc
waiting_there P T h a (frames.Beginning class ∷ rest) (upon held below) x is = cc
waiting_there P T h a (frames.Method f ∷ rest) (upon held below) x is = cc
waiting_there P T h a (frames.Library made ∷ others) (upon held (lowest again)) x is = cc
waiting_there P T h a (frames.Library made ∷ (frames.Library again ∷ rest)) (upon held (upon other below)) x is = cc
waiting_there P T h a (frames.Library made ∷ (frames.Beginning class ∷ rest)) (upon held (upon other below)) x is = cc
waiting_there P T h a (frames.Library made ∷ (frames.Method f ∷ rest)) (upon held (upon waits below)) x is =
    let m = of_map (λ (p : Pending). record { frame = f; rest = rest; pending = p })
    (option_and_then (λ (point : Point). pending_of point.op) (point_at P f.at f.place)) x is in
    let c = of_chain (λ (point : Point). pending_of point.op) (point_at P f.at f.place) m.0 m.1 in
    let same : c.0 ≡ waits.stands.point = some_of (sym c.1 ∙ waits.stands.is_point) in
    subst (λ (y : Waiting). WaitsHere P T h y) m.2 (record {
      waits = waits;
      below = below;
      pends = ap (λ (q : Point). pending_of q.op)
          (sym same) ∙ c.2;
    })

-- ---- it goes on

pub leads_on : (t : Typing) (n : ℕ) (frame : Frame) (row : Row) (falls : Bool) → falls ≡ true → row.goes_on ≡ true
    → IfSome (if falls then row_frame frame row else None) (LeadsTo t n)
    → LeadsTo t n (record { locals = row.locals; stack = stack_behind frame row })
leads_on t n frame row falls on goes next =
    let there : IfSome (row_frame frame row) (LeadsTo t n) = subst (λ b. IfSome (if b then row_frame frame row else None) (LeadsTo t n))
    on next in
    subst (λ b. IfSome (if b then Some (record { locals = row.locals; stack = stack_behind frame row }) else None) (LeadsTo t n)) goes
    there

module _ (P : Program) (T : Typings) (w : World) (typed : TypedWorld P T w) where
  pub answered_stays : (x : Waiting) → WaitsHere P T w.memory.heap x → (vs : List Value)
      → AllConform P (T x.frame.at).scope w.memory.heap (result_types x.pending.answer) vs → StaysTyped P T w (answered w x vs)
  answered_stays x here vs conform =
      let f : MethodState = x.frame in
      let fits = here.waits.stands.fits in
      let row : Row = row_at fits in
      let a : AnsweredBy (item_falls_through fits.item) (row_at fits) x.pending.answer =
      read_answers P fits.scope fits.frame x.pending fits.numbered fits.place fits.item fits.reading
      (subst (MayBeRead fits.reading fits.frame) fits.is_op fits.read) (subst (IsLinkedCall P fits.scope) fits.is_op fits.call)
      (sym (ap pending_of fits.is_op) ∙ here.pends) in
      let leads = leads_on (T f.at) (f.place + 1) fits.frame row (item_falls_through fits.item) a.falls_through a.goes_on fits.next in
      let given : AllConform P (T f.at).scope w.memory.heap row.gives vs = subst (λ gs. AllConform P (T f.at).scope w.memory.heap gs vs)
      (sym a.gives) conform in
      stays P T w w.memory (frames.Method (resumed f vs) ∷ x.rest) typed (keeps_same w.memory.heap) typed.memory
      (upon (does_there P T w.memory typed.program typed.memory f here.waits.stands (f.place + 1)
      (record { locals = row.locals; stack = stack_behind fits.frame row }) leads f.locals (reverse vs ++ f.stack)
      here.waits.stands.paired here.waits.locals (pushed f.stack vs here.waits.stack given)) here.below)

  pub return_stays : (given : Option Given) → StaysTyped P T w (act_return P w (waiting_in P w.frames) given)
  return_stays given = by (waiting_in P w.frames) refl given where
    by_value : (x : Waiting) → WaitsHere P T w.memory.heap x → (answer : Option FieldType) → x.pending.answer ≡ answer
        → (v : Option Value) → StaysTyped P T w (answer_with P w x answer v)
    by_value x here None e v = fault_stays P T w typed
    by_value x here (Some type) e None = fault_stays P T w typed
    by_value x here (Some type) e (Some v) = by_test (value_conforms P w.memory.heap type v) refl where
      by_test : (b : Bool) → value_conforms P w.memory.heap type v ≡ b
          → StaysTyped P T w (if b then answered w x (narrowed type v ∷ []) else fault w)
      by_test false d = fault_stays P T w typed
      by_test true d =
          answered_stays x here (narrowed type v ∷ [])
          (subst (λ a. AllConform P (T x.frame.at).scope w.memory.heap (result_types a) (narrowed type v ∷ [])) (sym e)
          (and_value (narrowed_conforms P (T x.frame.at).scope w.memory.heap type v d) no_values))

    by_none : (x : Waiting) → WaitsHere P T w.memory.heap x → (answer : Option FieldType) → x.pending.answer ≡ answer
        → StaysTyped P T w (answer_without w x answer)
    by_none x here (Some type) e = fault_stays P T w typed
    by_none x here None e = answered_stays x here [] (subst (λ a. AllConform P (T x.frame.at).scope w.memory.heap (result_types a) [])
        (sym e) no_values)

    by : (x : Option Waiting) → waiting_in P w.frames ≡ x → (v : Option Given) → StaysTyped P T w (act_return P w x v)
    by None e v = fault_stays P T w typed
    by (Some x) e None = by_none x (waiting_there P T w.memory.heap _ w.frames typed.frames x e) x.pending.answer refl
    by (Some x) e (Some v) = by_value x (waiting_there P T w.memory.heap _ w.frames typed.frames x e) x.pending.answer refl
        (given_value w.known v)

  -- ---- it throws

  pub throwable_there : (r : ℕ) → is_throwable P w r ≡ true → IsThrown P w.memory.heap r
  throwable_there r is = by (object_at w.memory.heap r) refl where
    by : (o : Option Object) → object_at w.memory.heap r ≡ o → IsThrown P w.memory.heap r
    by None e = let no : false ≡ true = rw e at is in cc
    by (Some o) e = record { object = o; is_there = e; is_throwable = instance_conforms P o.shape throwable (rw e at is) }

  pub throw_stays : (reference : Option ℕ) → StaysTyped P T w (act_throw P w (waiting_in P w.frames) reference)
  throw_stays reference = by (waiting_in P w.frames) refl reference where
    by_test : (x : Waiting) → WaitsHere P T w.memory.heap x → (r : ℕ) (b : Bool) → (x.pending.may_throw && is_throwable P w r) ≡ b
        → StaysTyped P T w (if b then thrown P w r (frames.Method x.frame ∷ x.rest) else fault w)
    by_test x here r false e = fault_stays P T w typed
    by_test x here r true e =
        thrown_stays P T w r (frames.Method x.frame ∷ x.rest) typed (throwable_there r
        (and_second x.pending.may_throw (is_throwable P w r) e))
        (record { stands = here.waits.stands; before = here.waits.before }, here.below)

    by : (x : Option Waiting) → waiting_in P w.frames ≡ x → (r : Option ℕ) → StaysTyped P T w (act_throw P w x r)
    by None e r = fault_stays P T w typed
    by (Some x) e None = fault_stays P T w typed
    by (Some x) e (Some r) = by_test x (waiting_there P T w.memory.heap _ w.frames typed.frames x e) r
        (x.pending.may_throw && is_throwable P w r) refl
