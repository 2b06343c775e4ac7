use Rattle.std.specs.Prelude.{refl, ℕ, Bool, true, false, List, [], ◌∷◌, ◌++◌, slice_get, Option, Some, None, if◌then◌else◌}
use Rattle.std.proofs.Common.{arith}
use Rattle.class_model.specs.declared.class_file.MethodAt.{MethodAt}
use Rattle.class_tree.specs.Headers.{Name}
use Rattle.machine_values.specs.Frames.{MethodState}
use Rattle.machine_values.specs.declared.frame.RunFrame.{RunFrame}
use Rattle.machine_values.specs.declared.frame.RunFrame.TheVariants as frames
use Rattle.machine_values.specs.declared.value.Value.{Value}
use Rattle.machine_laws.proofs.Rises.{Rises, rises_through, rises_if, memory_same, prefix_same, made_rises, left_rises, entered_rises, constant_rises, statics_rise, begun_rises}
use Rattle.machine_laws.proofs.ShownGrows.{Goes, Quiet, more, goes_more, quiet_through, asked_grows, result_grows, threw_grows}
use Rattle.machine_laws.proofs.WorkGrows.{GrownIf}
use Rattle.member_link.specs.Machine.Beginnings.{with_start, with_starts, begun_memory, begun_on, beginning_step, starts_of, past_beginning, begun_next, beginning_of, initialiser_of, first_unbegun, come_first}
use Rattle.member_link.specs.Machine.Completions.{Completion, gives, raises, throws, begins, calls, asks, ends}
use Rattle.member_link.specs.Machine.Performing.{Locking, locked_by, called, unlocked, is_initialiser, returned_to, returned_by, returned, past_method, past_handler, handler_at, Landing, lands_in, lands_in_library, leaves_initialiser, lands_nowhere, unwind, landed, thrown, thrown_in, raised, perform}
use Rattle.member_link.specs.Machine.Programs.{Program, StaticStart, RunMethod, RunClass, StartValue, start_value, start_string, run_method, point_at}
use Rattle.member_link.specs.Machine.Performing as performing
use Rattle.machine_values.specs.Heaps.{constant_made}
use Rattle.machine_values.specs.declared.object.Constant.TheVariants as constants
use Rattle.machine_values.specs.declared.value.Value.TheVariants as values
use Rattle.member_link.specs.Machine.Worlds.{Memory, World, with_heap}
use Rattle.member_link.specs.Machine.Worlds as worlds

-- a world whose memory grew, and in which else only frames and the halt are others
pub of_memory : {F : Type 0} {k : ℕ} (w : World) (m : Memory) (fs : List RunFrame) (h : worlds.Halt) → Rises F k w.memory m → Goes F k w (record w { memory = m; frames = fs; halt = h })
of_memory w m fs h g = record { memory = g; known = prefix_same _; events = prefix_same _; steps = refl }

pub of_frames : {F : Type 0} {k : ℕ} (w : World) (fs : List RunFrame) → Goes F k w (record w { frames = fs })
of_frames {k = k} w fs = of_memory w w.memory fs w.halt (rises_if (memory_same k _))

pub of_halt : {F : Type 0} {k : ℕ} (w : World) (h : worlds.Halt) → Goes F k w (record w { halt = h })
of_halt {k = k} w h = of_memory w w.memory w.frames h (rises_if (memory_same k _))

-- ---- calls and returns

pub locked_by_grows : (m : Memory) (c : Name) (l : Locking) (vs : List Value) → Rises (Unit {0}) 1 m (locked_by m c l vs).memory
locked_by_grows m c performing.receiver_lock (values.Ref r ∷ vs) = entered_rises m r
locked_by_grows m c performing.class_lock vs =
    rises_through (λ u. u) (λ u. u) (constant_rises 0 m (constants.Class c)) (entered_rises (with_heap m (constant_made m.heap (constants.Class c)).heap) _)
locked_by_grows m c l vs = memory_same 1 m

pub called_grows : (P : Program) (w : World) (at : MethodAt) (vs : List Value) (rest : List RunFrame) → Goes (Unit {0}) 1 w (called P w at vs rest)
called_grows P w at vs rest = of_memory w _ _ _ (locked_by_grows w.memory _ _ vs)

pub unlocked_grows : (m : Memory) (held : Option ℕ) → Rises (Unit {0}) 0 m (unlocked m held)
unlocked_grows m None = memory_same 0 m
unlocked_grows m (Some r) = left_rises 0 m r

pub returned_to_grows : (P : Program) (w : World) (held : Option ℕ) (vs : List Value) (fs : List RunFrame) → Quiet w (returned_to P w held vs fs)
returned_to_grows P w held vs [] = of_halt w _
returned_to_grows P w held vs (frames.Beginning c ∷ fs) = of_halt w _
returned_to_grows P w held vs (frames.Library made ∷ fs) = quiet_through (of_memory w _ _ _ (unlocked_grows w.memory held)) (result_grows P _ _)
returned_to_grows P w held vs (frames.Method f ∷ fs) = of_memory w _ _ _ (unlocked_grows w.memory held)

pub returned_by_grows : (P : Program) (w : World) (held : Option ℕ) (rest : List RunFrame) (vs : List Value) (m : Option RunMethod) → Quiet w (returned_by P w held rest vs m)
returned_by_grows P w held rest vs None = of_halt w _
returned_by_grows P w held rest vs (Some m) = by (is_initialiser m) where
  by : (b : Bool) → Quiet w (if b then record w { memory = unlocked w.memory held; frames = rest } else returned_to P w held vs rest)
  by true = of_memory w _ _ _ (unlocked_grows w.memory held)
  by false = returned_to_grows P w held vs rest

pub returned_grows : (P : Program) (w : World) (f : MethodState) (rest : List RunFrame) (vs : List Value) → Quiet w (returned P w f rest vs)
returned_grows P w f rest vs = returned_by_grows P w f.held rest vs (run_method P f.at)

-- ---- throwing

abbrev LandingGrows : Memory → Landing → Type 0
LandingGrows m (lands_in after fs) = Rises (Unit {0}) 0 m after
LandingGrows m (lands_in_library after fs) = Rises (Unit {0}) 0 m after
LandingGrows m (leaves_initialiser after fs) = Rises (Unit {0}) 0 m after
LandingGrows m lands_nowhere = Unit {0}

pub record Lands (m : Memory) (l : Landing) : Type 0 where
  pub is : LandingGrows m l

pub lands_through : (a b : Memory) (l : Landing) → Rises (Unit {0}) 0 a b → Lands b l → Lands a l
lands_through a b (lands_in m fs) g l = record { is = rises_through (λ u. u) (λ u. u) g l.is }
lands_through a b (lands_in_library m fs) g l = record { is = rises_through (λ u. u) (λ u. u) g l.is }
lands_through a b (leaves_initialiser m fs) g l = record { is = rises_through (λ u. u) (λ u. u) g l.is }
lands_through a b lands_nowhere g l = record { is = tt }

pub past_method_lands : (held : Option ℕ) (rest : List RunFrame) (m : Option RunMethod) (next : Memory → Landing) (memory : Memory) → ((n : Memory) → Lands n (next n)) → Lands memory (past_method held rest m next memory)
past_method_lands held rest None next memory g = record { is = tt }
past_method_lands held rest (Some m) next memory g = by (is_initialiser m) where
  by : (b : Bool) → Lands memory (if b then leaves_initialiser memory rest else next (unlocked memory held))
  by true = record { is = memory_same 0 memory }
  by false = lands_through memory _ _ (unlocked_grows memory held) (g _)

pub past_handler_lands : (r : ℕ) (f : MethodState) (rest : List RunFrame) (m : Option RunMethod) (next : Memory → Landing) (memory : Memory) (to : Option ℕ) → ((n : Memory) → Lands n (next n)) → Lands memory (past_handler r f rest m next memory to)
past_handler_lands r f rest m next memory (Some to) g = record { is = memory_same 0 memory }
past_handler_lands r f rest m next memory None g = past_method_lands f.held rest m next memory g

pub unwind_lands : (P : Program) (r : ℕ) (fs : List RunFrame) (m : Memory) → Lands m (unwind P r fs m)
unwind_lands P r [] m = record { is = tt }
unwind_lands P r (frames.Library made ∷ fs) m = record { is = memory_same 0 m }
unwind_lands P r (frames.Beginning c ∷ fs) m = record { is = tt }
unwind_lands P r (frames.Method f ∷ fs) m = past_handler_lands r f fs (run_method P f.at) (unwind P r fs) m (handler_at P m.heap (point_at P f.at f.place) r) (unwind_lands P r fs)

pub landed_grows : (P : Program) (w : World) (r : ℕ) (l : Landing) → Lands w.memory l → Quiet w (landed P w r l)
landed_grows P w r (lands_in m fs) l = of_memory w _ _ _ l.is
landed_grows P w r (lands_in_library m fs) l = quiet_through (of_memory w _ _ _ l.is) (threw_grows P _ r)
landed_grows P w r (leaves_initialiser m fs) l = of_memory w _ _ _ l.is
landed_grows P w r lands_nowhere l = of_halt w _

pub thrown_in_grows : (P : Program) (w : World) (r : ℕ) (fs : List RunFrame) (m : Memory) → Rises (Unit {0}) 0 w.memory m → Quiet w (thrown_in P w r fs m)
thrown_in_grows P w r fs m g = landed_grows P w r _ (lands_through _ _ _ g (unwind_lands P r fs m))

pub thrown_grows : (P : Program) (w : World) (r : ℕ) (fs : List RunFrame) → Quiet w (thrown P w r fs)
thrown_grows P w r fs = thrown_in_grows P w r fs w.memory (memory_same 0 _)

pub raised_grows : (P : Program) (w : World) (c : Name) (fs : List RunFrame) → Quiet w (raised P w c fs)
raised_grows P w c fs = thrown_in_grows P w _ fs _ (made_rises 0 w.memory _ _)

-- ---- initialisation

pub with_start_grows : (P : Program) (c : ℕ) (m : Memory) (s : StaticStart) → Rises (Unit {0}) 0 m (with_start P c m s)
with_start_grows P c m s = by s.value where
  by : (v : StartValue) → Rises (Unit {0}) 0 m (with_start P c m (record { field = s.field; value = v }))
  by (start_value v) = statics_rise 0 m _
  by (start_string text) = rises_through (λ u. u) (λ u. u) (constant_rises 0 m (constants.Str text)) (statics_rise 0 _ _)

pub with_starts_grows : (P : Program) (c : ℕ) (m : Memory) (s : List StaticStart) → Rises (Unit {0}) 0 m (with_starts P c m s)
with_starts_grows P c m [] = memory_same 0 m
with_starts_grows P c m (s ∷ ss) = rises_through (λ u. u) (λ u. u) (with_start_grows P c m s) (with_starts_grows P c (with_start P c m s) ss)

pub begun_memory_grows : (P : Program) (c : ℕ) (m : Memory) → Rises (Unit {0}) 0 m (begun_memory P c m)
begun_memory_grows P c m = rises_through (λ u. u) (λ u. u) (begun_rises m c) (with_starts_grows P c (record m { begun = m.begun ++ c ∷ [] }) (starts_of P c))

pub begun_on_grows : (P : Program) (c : ℕ) (w : World) (fs : List RunFrame) → Quiet w (begun_on P c w fs)
begun_on_grows P c w fs = of_memory w _ _ _ (begun_memory_grows P c w.memory)

pub beginning_grows : (P : Program) (c : ℕ) (w : World) (rest : List RunFrame) → Quiet w (beginning_step P c w rest)
beginning_grows P c w rest = by (slice_get P.classes c) where
  by_initialiser : (m : Option MethodAt) → Quiet w (past_beginning P w rest m)
  by_initialiser None = of_frames w _
  by_initialiser (Some at) = of_frames w _

  by_first : (f : Option ℕ) → Quiet w (begun_next P c w rest f)
  by_first (Some first) = begun_on_grows P first w _
  by_first None = by_initialiser (initialiser_of P c)

  by : (k : Option RunClass) → Quiet w (beginning_of P c w rest k)
  by None = of_halt w _
  by (Some k) = by_first (first_unbegun P w.memory (come_first P k.header))

-- ---- completions

pub perform_grows : {F : Type 0} (P : Program) (w : World) (f taken : MethodState) (rest : List RunFrame) (c : Completion) → GrownIf F w.memory c → Goes F 1 w (perform P w f taken rest c)
perform_grows P w f taken rest (gives m vs) g = of_memory w _ _ _ g.is
perform_grows P w f taken rest (raises class) g = more (raised_grows P w class (frames.Method taken ∷ rest))
perform_grows P w f taken rest (throws r) g = more (thrown_grows P w r (frames.Method taken ∷ rest))
perform_grows P w f taken rest (begins class) g = more (begun_on_grows P class w _)
perform_grows P w f taken rest (calls at vs) g = goes_more 1 (omega arith) (λ f. tt) (called_grows P w at vs _)
perform_grows P w f taken rest (asks asked) g = more (quiet_through (of_frames w _) (asked_grows P _ asked))
perform_grows P w f taken rest (ends halt) g = of_halt w halt
