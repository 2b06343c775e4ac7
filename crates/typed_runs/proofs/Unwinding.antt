use Rattle.std.specs.Prelude.{◌≡◌, refl, ℕ, zero, suc, Bool, true, false, List, [], ◌∷◌, slice_get, Option, Some, None, if◌then◌else◌}
use Rattle.std.specs.List.{AllByRecursion, list_any}
use Rattle.std.proofs.Common.{sym, subst}
use Rattle.class_model.specs.declared.frame.Frame.{Frame}
use Rattle.class_model.specs.declared.header.Member.{Member}
use Rattle.class_tree.specs.Headers.{Name}
use Rattle.class_tree.specs.Names.{throwable}
use Rattle.machine_values.specs.Frames.{MethodState}
use Rattle.machine_values.specs.Heaps.{Heap, object_at}
use Rattle.machine_values.specs.declared.frame.RunFrame.{RunFrame}
use Rattle.machine_values.specs.declared.frame.RunFrame.TheVariants as frames
use Rattle.machine_values.specs.declared.object.Object.{Object}
use Rattle.machine_values.specs.declared.object.Shape.{Shape}
use Rattle.machine_values.specs.declared.object.Shape.TheVariants as shapes
use Rattle.machine_values.specs.declared.value.Value.TheVariants as values
use Rattle.member_link.specs.Bodies.{catch_frame}
use Rattle.member_link.specs.Machine.Performing.{handler_for, handler_at, Landing, lands_in, lands_in_library, leaves_initialiser, lands_nowhere, past_method, past_handler, unwind, unlocked, is_initialiser}
use Rattle.member_link.specs.Machine.Programs.{Program, Catch, Code, RunMethod, run_method, code_run, code_at, point_at}
use Rattle.member_link.specs.Machine.Shapes.{is_instance}
use Rattle.member_link.specs.Machine.Worlds.{Memory}
use Rattle.typed_runs.proofs.Basics.{some_of}
use Rattle.typed_runs.proofs.Kept.{Keeps, keeps_same, keeps_through, frames_kept}
use Rattle.typed_runs.proofs.Memories.{unlocked_typed}
use Rattle.typed_runs.proofs.Points.{of_chain, does_there}
use Rattle.typed_runs.specs.Conforming.{HasShape, to_below, ShapeConforms, by_class, by_interface, an_object, no_values, and_value, UnitsConform, IsTypedMemory}
use Rattle.typed_runs.specs.TypedFrames.{nothing_awaited, called_method, above_method, above_of, StandsAt, FramesConform, lowest, upon}
use Rattle.typed_runs.specs.TypedPoints.{LeadsTo, LeadsToHandler, caught_name}
use Rattle.typed_runs.specs.TypedPrograms.{Typings, IsTypedProgram}

-- ---- what is thrown

pub record IsThrown (P : Program) (h : Heap) (r : ℕ) : Type 0 where
  pub object : Object
  pub is_there : object_at h r ≡ Some object
  pub is_throwable : ShapeConforms P object.shape throwable

pub among : (P : Program) (name : Name) (also : List Name) → list_any (λ interface. P.links.below interface name) also ≡ true → (n : ℕ) × (one : Name) × (slice_get also n ≡ Some one) × (P.links.below one name ≡ true)
among P name [] is = cc
among P name (first ∷ also) is = by (P.links.below first name) refl (λ e. among P name also e) where
  by : (b : Bool) → P.links.below first name ≡ b → (list_any (λ interface. P.links.below interface name) also ≡ true → (n : ℕ) × (one : Name) × (slice_get also n ≡ Some one) × (P.links.below one name ≡ true))
      → (n : ℕ) × (one : Name) × (slice_get (first ∷ also) n ≡ Some one) × (P.links.below one name ≡ true)
  by true e next = (zero, first, refl, e)
  by false e next = let m = next (rw e at is) in (suc m.0, m.1, m.2, m.3)

-- an instance of a class conforms to it
pub instance_conforms : (P : Program) (s : Shape) (name : Name) → is_instance P s name ≡ true → ShapeConforms P s name
instance_conforms P (shapes.Folder class) name is = by_class (to_below is)
instance_conforms P (shapes.Array desc len) name is = by_class (to_below is)
instance_conforms P (shapes.External class also) name is = by (P.links.below class name) refl where
  by : (b : Bool) → P.links.below class name ≡ b → ShapeConforms P (shapes.External class also) name
  by true e = by_class (to_below e)
  by false e = let m = among P name also (rw e at is) in by_interface m.0 m.2 (to_below m.3)

pub thrown_kept : (P : Program) (h k : Heap) (r : ℕ) → Keeps h k → IsThrown P h r → IsThrown P k r
thrown_kept P h k r keep is =
    let s = keep.keeps r is.object is.is_there in
    record { object = s.object; is_there = s.is_there; is_throwable = subst (λ x. ShapeConforms P x throwable) (sym s.same) is.is_throwable }

-- ---- handlers

pub record Caught (P : Program) (Q : Catch → Type 0) (s : Shape) (to : ℕ) : Type 0 where
  pub catch : Catch
  pub holds : Q catch
  pub is_to : catch.to ≡ to
  pub conforms : ShapeConforms P s (caught_name catch.class)

abbrev pub caught_by : Program → Option Name → Option Object → Bool
caught_by P None object = true
caught_by P (Some name) None = false
caught_by P (Some name) (Some object) = is_instance P object.shape name

pub caught_conforms : (P : Program) (h : Heap) (r : ℕ) (c : Option Name) (t : IsThrown P h r) → caught_by P c (object_at h r) ≡ true → ShapeConforms P t.object.shape (caught_name c)
caught_conforms P h r None t is = t.is_throwable
caught_conforms P h r (Some name) t is = instance_conforms P t.object.shape name (subst (λ o. caught_by P (Some name) o ≡ true) t.is_there is)

pub handler_found : (P : Program) (h : Heap) (Q : Catch → Type 0) (cs : List Catch) (r to : ℕ) → AllByRecursion Q cs → (t : IsThrown P h r) → handler_for P h cs r ≡ Some to → Caught P Q t.object.shape to
handler_found P h Q [] r to all t is = cc
handler_found P h Q (first ∷ others) r to all t is = by (caught_by P first.class (object_at h r)) refl (λ e. handler_found P h Q others r to all.1 t e) where
  by : (b : Bool) → caught_by P first.class (object_at h r) ≡ b → (handler_for P h others r ≡ Some to → Caught P Q t.object.shape to) → Caught P Q t.object.shape to
  by true e next = record { catch = first; holds = all.0; is_to = some_of (rw e at is); conforms = caught_conforms P h r first.class t e }
  by false e next = next (rw e at is)

-- ---- frames from which something is thrown

-- locals conform to those before the instruction
pub record Throws (P : Program) (T : Typings) (h : Heap) (f : MethodState) : Type 0 where
  pub stands : StandsAt P T h f
  pub before : UnitsConform P (T f.at).scope h stands.fits.frame.locals f.locals

abbrev pub CanUnwind : Program → Typings → Heap → List RunFrame → Type 0
CanUnwind P T h [] = ⊥
CanUnwind P T h (frames.Library made ∷ rest) = FramesConform P T h nothing_awaited (frames.Library None ∷ rest)
CanUnwind P T h (frames.Beginning class ∷ rest) = ⊥
CanUnwind P T h (frames.Method f ∷ rest) = Throws P T h f × FramesConform P T h (above_of P (frames.Method f)) rest

pub under_called : (P : Program) (T : Typings) (h : Heap) (m : Member) (fs : List RunFrame) → FramesConform P T h (called_method m) fs → CanUnwind P T h fs
under_called P T h m fs (lowest made) = lowest tt
under_called P T h m (frames.Library made ∷ rest) (upon is below) = upon tt below
under_called P T h m (frames.Beginning class ∷ rest) (upon is below) = let e = is.free in cc
under_called P T h m (frames.Method f ∷ rest) (upon is below) = (record { stands = is.stands; before = is.before }, below)

-- ---- where it lands

abbrev pub LandsTyped : Program → Typings → Heap → Landing → Type 0
LandsTyped P T h (lands_in m fs) = Keeps h m.heap × IsTypedMemory P m × FramesConform P T m.heap nothing_awaited fs
LandsTyped P T h (lands_in_library m fs) = Keeps h m.heap × IsTypedMemory P m × FramesConform P T m.heap nothing_awaited fs
LandsTyped P T h (leaves_initialiser m fs) = Keeps h m.heap × IsTypedMemory P m × FramesConform P T m.heap nothing_awaited fs
LandsTyped P T h lands_nowhere = ⊥

pub lands_through : (P : Program) (T : Typings) (h k : Heap) (l : Landing) → Keeps h k → LandsTyped P T k l → LandsTyped P T h l
lands_through P T h k (lands_in m fs) keep l = (keeps_through keep l.0, l.1, l.2)
lands_through P T h k (lands_in_library m fs) keep l = (keeps_through keep l.0, l.1, l.2)
lands_through P T h k (leaves_initialiser m fs) keep l = (keeps_through keep l.0, l.1, l.2)
lands_through P T h k lands_nowhere keep l = l

-- past a method or to its handler
pub unwinds_method : (P : Program) (T : Typings) → IsTypedProgram P T → (r : ℕ) (f : MethodState) (rest : List RunFrame) (m : Memory) → IsTypedMemory P m → IsThrown P m.heap r
    → Throws P T m.heap f → FramesConform P T m.heap (above_of P (frames.Method f)) rest → (next : Memory → Landing)
    → ((n : Memory) → IsTypedMemory P n → IsThrown P n.heap r → CanUnwind P T n.heap rest → LandsTyped P T n.heap (next n))
    → LandsTyped P T m.heap (past_handler r f rest (run_method P f.at) next m (handler_at P m.heap (point_at P f.at f.place) r))
unwinds_method P T program r f rest m memory is can below next proved =
    subst (λ p. LandsTyped P T m.heap (past_handler r f rest (run_method P f.at) next m (handler_at P m.heap p r))) (sym can.stands.is_point)
    (by (handler_for P m.heap can.stands.point.catches r) refl) where
      code : (c : Code) × (code_at P f.at ≡ Some c) × (slice_get c.points f.place ≡ Some can.stands.point)
      code = of_chain (λ (c : Code). slice_get c.points f.place) (code_at P f.at) can.stands.point can.stands.is_point

      method : (n : RunMethod) × (run_method P f.at ≡ Some n) × (code_run n ≡ Some code.0)
      method = of_chain code_run (run_method P f.at) code.0 code.1

      by_initialiser : (b : Bool) → FramesConform P T m.heap (if b then nothing_awaited else called_method method.0.member) rest
          → LandsTyped P T m.heap (if b then leaves_initialiser m rest else next (unlocked m f.held))
      by_initialiser true under = (keeps_same m.heap, memory, under)
      by_initialiser false under =
          let l = unlocked_typed P m f.held memory in
          lands_through P T m.heap (unlocked m f.held).heap (next (unlocked m f.held)) l.0
          (proved (unlocked m f.held) l.1 (thrown_kept P m.heap (unlocked m f.held).heap r l.0 is)
          (under_called P T (unlocked m f.held).heap method.0.member rest (frames_kept l.0 under)))

      by : (to : Option ℕ) → handler_for P m.heap can.stands.point.catches r ≡ to → LandsTyped P T m.heap (past_handler r f rest (run_method P f.at) next m to)
      by (Some to) e =
          let c = handler_found P m.heap (LeadsToHandler (T f.at) can.stands.fits.frame) can.stands.point.catches r to can.stands.fits.handlers is e in
          let from : Frame = catch_frame can.stands.fits.frame (Some (caught_name c.catch.class)) in
          let leads : LeadsTo (T f.at) to from = subst (λ n. LeadsTo (T f.at) n from) c.is_to c.holds in
          let shape : HasShape m.heap r is.object.shape = record { object = is.object; is_there = is.is_there; same = refl } in (
            keeps_same m.heap,
            memory,
            upon (does_there P T m program memory f can.stands to from leads f.locals (values.Ref r ∷ []) can.stands.paired can.before (and_value (an_object shape c.conforms) no_values)) below,
          )
      by None e =
          subst (λ n. LandsTyped P T m.heap (past_method f.held rest n next m)) (sym method.1)
          (by_initialiser (is_initialiser method.0) (subst (λ n. FramesConform P T m.heap (above_method n) rest) method.1 below))

pub unwinds : (P : Program) (T : Typings) → IsTypedProgram P T → (r : ℕ) (fs : List RunFrame) (m : Memory) → IsTypedMemory P m → IsThrown P m.heap r → CanUnwind P T m.heap fs → LandsTyped P T m.heap (unwind P r fs m)
unwinds P T program r [] m memory is can = can
unwinds P T program r (frames.Library made ∷ rest) m memory is can = (keeps_same m.heap, memory, can)
unwinds P T program r (frames.Beginning class ∷ rest) m memory is can = can
unwinds P T program r (frames.Method f ∷ rest) m memory is can =
    unwinds_method P T program r f rest m memory is can.0 can.1 (unwind P r rest) (λ n typed t c. unwinds P T program r rest n typed t c)
