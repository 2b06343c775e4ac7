-- What waits below the library's frame, and what its answers come to.
use Rattle.std.proofs.Common.{◌≡◌, ◌&&◌, ℕ, Bool, true, false, List, [], ◌∷◌, Option, Some, None, option_map, option_and_then, is_some, IfSome, slice_get, if◌then◌else◌, refl, sym, ap, ◌∙◌}
use Rattle.std.proofs.lemmas.List.Elements.{All-head}
use Rattle.std.proofs.lemmas.Option.{slice_get-map}
use Rattle.class_model.specs.declared.class_file.MethodAt.{MethodAt}
use Rattle.class_model.specs.declared.descriptor.FieldType.{FieldType}
use Rattle.machine_values.specs.Frames.{MethodState}
use Rattle.machine_values.specs.declared.action.Given.{Given}
use Rattle.machine_values.specs.declared.frame.RunFrame.{RunFrame}
use Rattle.machine_values.specs.declared.frame.RunFrame.TheVariants.{Beginning, Library, Method}
use Rattle.machine_values.specs.Values.{narrowed}
use Rattle.machine_values.specs.declared.value.Value.{Value}
use Rattle.member_link.specs.Machine.Acting.{Pending, Waiting, act_return, act_throw, answer_with, answer_without, answered as answered_as, fault, given_value, is_throwable, pending_of, waiting_in}
use Rattle.member_link.specs.Machine.Ops.{Op}
use Rattle.member_link.specs.Machine.Performing.{thrown}
use Rattle.member_link.specs.Machine.Programs.{Code, Point, Program, code_at, code_run}
use Rattle.member_link.specs.Machine.Shapes.{value_conforms}
use Rattle.member_link.specs.Machine.Worlds.{World}
use Rattle.machine_step.specs.Bounded.{CanGoOn, HasNextPlace}
use Rattle.machine_code.specs.Prepared.{IsPrepared, op_at}
use Rattle.member_link.specs.RunOps.{op_of}
use Rattle.machine_code.specs.declared.prepared_method.PreparedMethod.{PreparedMethod}
use Rattle.member_link.specs.declared.run_op.RunOp.{RunOp}
use Rattle.machine_run.specs.declared.acting.answers.Answer.{Answer}
use Rattle.machine_run.specs.Inner.ActingWords.{HasWaiting, awaited_type, waiting_frame, answer_for, answered, awaited_at, awaited_below, may_throw, nothing_for, thrown_below, value_for, with_answer}

-- ---- operations of prepared code

by_point : (point : Option Point) → option_and_then pending_of (option_map op_at point) ≡ option_and_then (λ (p : Point). pending_of p.op) point
by_point None = refl
by_point (Some point) = refl

abbrev pub awaited_of : Option RunOp → Option Pending
awaited_of None = None
awaited_of (Some op) = pending_of (op_of op)

by_run : (op : Option RunOp) → option_and_then pending_of (option_map op_of op) ≡ awaited_of op
by_run None = refl
by_run (Some op) = refl

-- what the operation at a place waits for
pub awaited_by_place :
    (P : Program) (at : MethodAt) (prepared : PreparedMethod) (place : ℕ)
    → IsPrepared P at prepared
    → awaited_of (slice_get prepared.ops.items place) ≡ awaited_at P at place
awaited_by_place P at prepared place is =
    let points = is.code.points in
    let code : code_at P at ≡ Some is.code = ap (option_and_then code_run) is.there ∙ is.has_code in
    sym (by_run (slice_get prepared.ops.items place))
    ∙ ap (option_and_then pending_of)
    (sym (slice_get-map op_of prepared.ops.items place)
    ∙ ap (λ (ops : List Op). slice_get ops place) is.ops
    ∙ slice_get-map op_at points place)
    ∙ by_point (slice_get points place)
    ∙ sym (ap (λ (found : Option Code). option_and_then (λ (p : Point). pending_of p.op) (option_and_then (λ (code : Code). slice_get code.points place) found)) code)

-- nothing waits in a method without code
pub none_awaited : (P : Program) (at : MethodAt) (place : ℕ) → code_at P at ≡ None → awaited_at P at place ≡ None
none_awaited P at place none =
    ap (λ (found : Option Code). option_and_then (λ (p : Point). pending_of p.op) (option_and_then (λ (code : Code). slice_get code.points place) found)) none

-- ---- the method below the library's frame

module _ (P : Program) (w : World) (made : Option ℕ) (f : MethodState) (rest : List RunFrame) where
  abbrev below : World
  below = record w { frames = Library made ∷ Method f ∷ rest }

  abbrev waiting : Pending → Waiting
  waiting pending = record { frame = f; rest = rest; pending = pending }

  without : (pending : Pending) (answer : Option FieldType) → answer_without below (waiting pending) answer ≡ with_answer below (nothing_for answer)
  without pending None = refl
  without pending (Some type) = refl

  conforming : (pending : Pending) (value : Value) (b : Bool)
      → (if b then answered_as below (waiting pending) (value ∷ []) else fault below)
      ≡ with_answer below (answered (if b then Some value else None))
  conforming pending value true = refl
  conforming pending value false = refl

  with_value : (pending : Pending) (answer : Option FieldType) (value : Option Value)
      → answer_with P below (waiting pending) answer value ≡ with_answer below (value_for P below.memory.heap answer value)
  with_value pending None value = refl
  with_value pending (Some type) None = refl
  with_value pending (Some type) (Some value) = conforming pending (narrowed type value) (value_conforms P below.memory.heap type value)

  returned_below : (pending : Option Pending) (value : Option Given)
      → act_return P below (option_map waiting pending) value ≡ with_answer below (answer_for P below pending value)
  returned_below None value = refl
  returned_below (Some pending) None = without pending pending.answer
  returned_below (Some pending) (Some value) = with_value pending pending.answer (given_value below.known value)

  throwing : (reference : ℕ) (b : Bool)
      → (if b then thrown P below reference (Method f ∷ rest) else fault below) ≡ thrown_below P below (if b then Some reference else None)
  throwing reference true = refl
  throwing reference false = refl

  threw_below : (pending : Option Pending) (reference : ℕ)
      → act_throw P below (option_map waiting pending) (Some reference)
      ≡ thrown_below P below (if may_throw pending && is_throwable P below reference then Some reference else None)
  threw_below None reference = refl
  threw_below (Some pending) reference = throwing reference (pending.may_throw && is_throwable P below reference)

abbrev framed : World → List RunFrame → World
framed w frames = record w { frames = frames }

returned_in : (P : Program) (w : World) (frames : List RunFrame) (value : Option Given)
    → act_return P (framed w frames) (waiting_in P frames) value ≡ with_answer (framed w frames) (answer_for P (framed w frames) (awaited_below P frames) value)
returned_in P w [] value = refl
returned_in P w (Beginning class ∷ rest) value = refl
returned_in P w (Method f ∷ rest) value = refl
returned_in P w (Library made ∷ []) value = refl
returned_in P w (Library made ∷ Library other ∷ rest) value = refl
returned_in P w (Library made ∷ Beginning class ∷ rest) value = refl
returned_in P w (Library made ∷ Method f ∷ rest) value = returned_below P w made f rest (awaited_at P f.at f.place) value

pub returned_to_waiting : (P : Program) (w : World) (value : Option Given)
    → act_return P w (waiting_in P w.frames) value ≡ with_answer w (answer_for P w (awaited_below P w.frames) value)
returned_to_waiting P w value = returned_in P w w.frames value

threw_in : (P : Program) (w : World) (frames : List RunFrame) (reference : ℕ)
    → act_throw P (framed w frames) (waiting_in P frames) (Some reference)
    ≡ thrown_below P (framed w frames) (if may_throw (awaited_below P frames) && is_throwable P (framed w frames) reference then Some reference else None)
threw_in P w [] reference = refl
threw_in P w (Beginning class ∷ rest) reference = refl
threw_in P w (Method f ∷ rest) reference = refl
threw_in P w (Library made ∷ []) reference = refl
threw_in P w (Library made ∷ Library other ∷ rest) reference = refl
threw_in P w (Library made ∷ Beginning class ∷ rest) reference = refl
threw_in P w (Library made ∷ Method f ∷ rest) reference = threw_below P w made f rest (awaited_at P f.at f.place) reference

pub threw_at_waiting : (P : Program) (w : World) (reference : ℕ)
    → act_throw P w (waiting_in P w.frames) (Some reference)
    ≡ thrown_below P w (if may_throw (awaited_below P w.frames) && is_throwable P w reference then Some reference else None)
threw_at_waiting P w reference = threw_in P w w.frames reference

-- what an operation that waits gets
pub for_value : (P : Program) (w : World) (pending : Option Pending) (value : Given) → is_some pending ≡ true
    → answer_for P w pending (Some value) ≡ value_for P w.memory.heap (awaited_type pending) (given_value w.known value)
for_value P w None value waits = absurd cc
for_value P w (Some pending) value waits = refl

-- the frame that waits can go on
pub has_waiting : (frames : List RunFrame) (f : MethodState) → Some f ≡ waiting_frame frames → CanGoOn frames → HasWaiting frames
has_waiting [] f is can = absurd cc
has_waiting (Beginning class ∷ rest) f is can = absurd cc
has_waiting (Method g ∷ rest) f is can = absurd cc
has_waiting (Library made ∷ []) f is can = absurd cc
has_waiting (Library made ∷ Library other ∷ rest) f is can = absurd cc
has_waiting (Library made ∷ Beginning class ∷ rest) f is can = absurd cc
has_waiting (Library made ∷ Method g ∷ rest) f is can =
    record { made = made; waiting = g; rest = rest; same = refl; next = All-head HasNextPlace (Method g) rest can }

pub of_any : (answer : Option Answer) (frames : List RunFrame) → HasWaiting frames → IfSome answer (λ a. HasWaiting frames)
of_any None frames has = tt
of_any (Some answer) frames has = has
