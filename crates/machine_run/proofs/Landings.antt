-- Where a thrown object lands, by the target that was found before.
use Rattle.std.proofs.Common.{◌≡◌, ◌≤◌, ◌<◌, ℕ, Bool, true, false, List, [], ◌∷◌, length, Option, Some, None, if◌then◌else◌, refl, ap, sym, subst, ◌∙◌, arith}
use Rattle.machine_values.specs.Frames.{MethodState}
use Rattle.machine_values.specs.declared.frame.RunFrame.{RunFrame}
use Rattle.machine_values.specs.declared.frame.RunFrame.TheVariants.{Library, Beginning, Method}
use Rattle.machine_values.specs.declared.object.Shape.{Shape}
use Rattle.machine_values.specs.declared.value.Value.TheVariants.{Ref}
use Rattle.member_link.specs.Machine.Performing.{Landing, lands_in, lands_in_library, leaves_initialiser, lands_nowhere, is_initialiser, past_handler, unlocked, unwind}
use Rattle.member_link.specs.Machine.Programs.{Program, RunMethod, point_at, run_method}
use Rattle.member_link.specs.Machine.Worlds.{Memory}
use Rattle.machine_run.proofs.Handlers.{handler_at_is, shape_unlocked}
use Rattle.machine_run.specs.Inner.ThrowTargets.{handler_around, passing_by, passing_in, shape_at, target_at, target_in}
use Rattle.machine_run.specs.declared.throw_targets.Passing.{Passing}
use Rattle.machine_run.specs.declared.throw_targets.Passing.TheVariants.{Lands, Passes, Nowhere}
use Rattle.machine_run.specs.declared.throw_targets.TargetKind.{TargetKind}
use Rattle.machine_run.specs.declared.throw_targets.TargetKind.TheVariants as kinds
use Rattle.machine_run.specs.declared.throw_targets.ThrowTarget.{ThrowTarget}

-- the handler of a method is found by the shape
unwind_method :
    (P : Program) (shape : Option Shape) (reference : ℕ) (f : MethodState) (rest : List RunFrame) (memory : Memory)
    → shape_at memory.heap reference ≡ shape
    → unwind P reference (Method f ∷ rest) memory
    ≡ past_handler reference f rest (run_method P f.at) (unwind P reference rest) memory
    (handler_around P shape (point_at P f.at f.place))
unwind_method P shape reference f rest memory is =
    ap (past_handler reference f rest (run_method P f.at) (unwind P reference rest) memory)
    (handler_at_is P memory.heap (point_at P f.at f.place) reference
    ∙ ap (λ (s : Option Shape). handler_around P s (point_at P f.at f.place)) is)

-- ---- nowhere

nowhere_if :
    (initialises : Bool) (left : ℕ) (below : Option ThrowTarget) (memory : Memory) (rest : List RunFrame) (next : Landing)
    → target_at left (if initialises then Lands kinds.Initialiser else Passes) below ≡ None
    → (below ≡ None → next ≡ lands_nowhere)
    → (if initialises then leaves_initialiser memory rest else next) ≡ lands_nowhere
nowhere_if true left below memory rest next none goes = absurd cc
nowhere_if false left below memory rest next none goes = goes none

nowhere_method :
    (reference : ℕ) (f : MethodState) (rest : List RunFrame) (left : ℕ) (handler : Option ℕ)
    (method : Option RunMethod) (next : Memory → Landing) (memory : Memory) (below : Option ThrowTarget)
    → target_at left (passing_by handler method) below ≡ None
    → (below ≡ None → next (unlocked memory f.held) ≡ lands_nowhere)
    → past_handler reference f rest method next memory handler ≡ lands_nowhere
nowhere_method reference f rest left (Some to) method next memory below none goes = absurd cc
nowhere_method reference f rest left None None next memory below none goes = refl
nowhere_method reference f rest left None (Some method) next memory below none goes =
    nowhere_if (is_initialiser method) left below memory rest (next (unlocked memory f.held)) none goes

pub nowhere_is :
    (P : Program) (shape : Option Shape) (reference : ℕ) (frames : List RunFrame) (memory : Memory)
    → shape_at memory.heap reference ≡ shape
    → target_in P shape frames ≡ None
    → unwind P reference frames memory ≡ lands_nowhere
nowhere_is P shape reference [] memory is none = refl
nowhere_is P shape reference (Library made ∷ rest) memory is none = absurd cc
nowhere_is P shape reference (Beginning class ∷ rest) memory is none = refl
nowhere_is P shape reference (Method f ∷ rest) memory is none =
    unwind_method P shape reference f rest memory is
    ∙ nowhere_method reference f rest (length (Method f ∷ rest)) (handler_around P shape (point_at P f.at f.place))
    (run_method P f.at) (unwind P reference rest) memory (target_in P shape rest) none
    (nowhere_is P shape reference rest (unlocked memory f.held) (shape_unlocked memory f.held reference ∙ is))

-- ---- how many frames are left

abbrev left_of : Option ThrowTarget → ℕ
left_of None = 0
left_of (Some target) = target.left

abbrev kind_of : Option ThrowTarget → TargetKind
kind_of None = kinds.Library
kind_of (Some target) = target.kind

few_at :
    (left : ℕ) (passing : Passing) (below : Option ThrowTarget) (target : ThrowTarget)
    → target_at left passing below ≡ Some target
    → (below ≡ Some target → target.left < left)
    → target.left ≤ left
few_at left (Lands kind) below target lands next = let e : left ≡ target.left = ap left_of lands in omega arith
few_at left Passes below target lands next = let few = next lands in omega arith
few_at left Nowhere below target lands next = absurd cc

few_left :
    (P : Program) (shape : Option Shape) (frames : List RunFrame) (target : ThrowTarget)
    → target_in P shape frames ≡ Some target → target.left ≤ length frames
few_left P shape [] target lands = absurd cc
few_left P shape (frame ∷ rest) target lands =
    few_at (length (frame ∷ rest)) (passing_in P shape frame) (target_in P shape rest) target lands
    (λ below. let few = few_left P shape rest target below in omega arith)

-- ---- past a method

passes_if :
    (initialises : Bool) (left : ℕ) (below : Option ThrowTarget) (target : ThrowTarget) (memory : Memory)
    (rest : List RunFrame) (next : Landing)
    → target_at left (if initialises then Lands kinds.Initialiser else Passes) below ≡ Some target
    → target.left < left
    → (below ≡ Some target) × ((if initialises then leaves_initialiser memory rest else next) ≡ next)
passes_if true left below target memory rest next lands few = let e : left ≡ target.left = ap left_of lands in absurd (omega arith)
passes_if false left below target memory rest next lands few = (lands, refl)

passes_method :
    (reference : ℕ) (f : MethodState) (rest : List RunFrame) (left : ℕ) (handler : Option ℕ)
    (method : Option RunMethod) (next : Memory → Landing) (memory : Memory) (below : Option ThrowTarget) (target : ThrowTarget)
    → target_at left (passing_by handler method) below ≡ Some target
    → target.left < left
    → (below ≡ Some target)
    × (past_handler reference f rest method next memory handler ≡ next (unlocked memory f.held))
passes_method reference f rest left (Some to) method next memory below target lands few =
    let e : left ≡ target.left = ap left_of lands in absurd (omega arith)
passes_method reference f rest left None None next memory below target lands few = absurd cc
passes_method reference f rest left None (Some method) next memory below target lands few =
    passes_if (is_initialiser method) left below target memory rest (next (unlocked memory f.held)) lands few

pub record Passed (P : Program) (shape : Option Shape) (reference : ℕ) (target : ThrowTarget) (frames : List RunFrame) (memory : Memory)
    : Type 0 where
  pub top : MethodState
  pub rest : List RunFrame
  pub same : frames ≡ Method top ∷ rest
  pub lands : target_in P shape rest ≡ Some target
  pub unwound : unwind P reference frames memory ≡ unwind P reference rest (unlocked memory top.held)

pub passed :
    (P : Program) (shape : Option Shape) (reference : ℕ) (target : ThrowTarget) (frames : List RunFrame) (memory : Memory)
    → shape_at memory.heap reference ≡ shape
    → target_in P shape frames ≡ Some target
    → target.left < length frames
    → Passed P shape reference target frames memory
passed P shape reference target [] memory is lands few = absurd cc
passed P shape reference target (Library made ∷ rest) memory is lands few =
    let e : length (Library made ∷ rest) ≡ target.left = ap left_of lands in absurd (omega arith)
passed P shape reference target (Beginning class ∷ rest) memory is lands few = absurd cc
passed P shape reference target (Method f ∷ rest) memory is lands few =
    let past = passes_method reference f rest (length (Method f ∷ rest)) (handler_around P shape (point_at P f.at f.place))
    (run_method P f.at) (unwind P reference rest) memory (target_in P shape rest) target lands few in
    record {
      top = f;
      rest = rest;
      same = refl;
      lands = past.0;
      unwound = unwind_method P shape reference f rest memory is ∙ past.1;
    }

-- ---- in the last frame

pub record EndsInHandler (reference : ℕ) (frames : List RunFrame) (memory : Memory) (landing : Landing) (to : ℕ) : Type 0 where
  pub top : MethodState
  pub rest : List RunFrame
  pub same : frames ≡ Method top ∷ rest
  pub lands : landing ≡ lands_in memory (Method (record top { place = to; stack = Ref reference ∷ [] }) ∷ rest)

pub record EndsInLibrary (frames : List RunFrame) (memory : Memory) (landing : Landing) : Type 0 where
  pub made : Option ℕ
  pub rest : List RunFrame
  pub same : frames ≡ Library made ∷ rest
  pub lands : landing ≡ lands_in_library memory (Library None ∷ rest)

pub record EndsInInitialiser (frames : List RunFrame) (memory : Memory) (landing : Landing) : Type 0 where
  pub top : RunFrame
  pub rest : List RunFrame
  pub same : frames ≡ top ∷ rest
  pub lands : landing ≡ leaves_initialiser memory rest

abbrev pub EndsIn : ℕ → List RunFrame → Memory → Landing → TargetKind → Type 0
EndsIn reference frames memory landing (kinds.Handler to) = EndsInHandler reference frames memory landing to
EndsIn reference frames memory landing kinds.Library = EndsInLibrary frames memory landing
EndsIn reference frames memory landing kinds.Initialiser = EndsInInitialiser frames memory landing

ends_if :
    (initialises : Bool) (reference : ℕ) (f : MethodState) (rest : List RunFrame) (left : ℕ) (below : Option ThrowTarget)
    (target : ThrowTarget) (memory : Memory) (next : Landing)
    → target_at left (if initialises then Lands kinds.Initialiser else Passes) below ≡ Some target
    → left ≤ target.left
    → (below ≡ Some target → target.left < left)
    → EndsIn reference (Method f ∷ rest) memory (if initialises then leaves_initialiser memory rest else next) target.kind
ends_if true reference f rest left below target memory next lands many few =
    subst (EndsIn reference (Method f ∷ rest) memory (leaves_initialiser memory rest)) (ap kind_of lands)
    (record { top = Method f; rest = rest; same = refl; lands = refl })
ends_if false reference f rest left below target memory next lands many few =
    let less = few lands in absurd (omega arith)

ends_method :
    (reference : ℕ) (f : MethodState) (rest : List RunFrame) (left : ℕ) (handler : Option ℕ)
    (method : Option RunMethod) (next : Memory → Landing) (memory : Memory) (below : Option ThrowTarget) (target : ThrowTarget)
    → target_at left (passing_by handler method) below ≡ Some target
    → left ≤ target.left
    → (below ≡ Some target → target.left < left)
    → EndsIn reference (Method f ∷ rest) memory (past_handler reference f rest method next memory handler) target.kind
ends_method reference f rest left (Some to) method next memory below target lands many few =
    subst (EndsIn reference (Method f ∷ rest) memory (past_handler reference f rest method next memory (Some to))) (ap kind_of lands)
    (record { top = f; rest = rest; same = refl; lands = refl })
ends_method reference f rest left None None next memory below target lands many few = absurd cc
ends_method reference f rest left None (Some method) next memory below target lands many few =
    ends_if (is_initialiser method) reference f rest left below target memory (next (unlocked memory f.held)) lands many few

pub ends_in :
    (P : Program) (shape : Option Shape) (reference : ℕ) (target : ThrowTarget) (frames : List RunFrame) (memory : Memory)
    → shape_at memory.heap reference ≡ shape
    → target_in P shape frames ≡ Some target
    → length frames ≤ target.left
    → EndsIn reference frames memory (unwind P reference frames memory) target.kind
ends_in P shape reference target [] memory is lands many = absurd cc
ends_in P shape reference target (Library made ∷ rest) memory is lands many =
    subst (EndsIn reference (Library made ∷ rest) memory (lands_in_library memory (Library None ∷ rest))) (ap kind_of lands)
    (record { made = made; rest = rest; same = refl; lands = refl })
ends_in P shape reference target (Beginning class ∷ rest) memory is lands many = absurd cc
ends_in P shape reference target (Method f ∷ rest) memory is lands many =
    subst (λ (landing : Landing). EndsIn reference (Method f ∷ rest) memory landing target.kind)
    (sym (unwind_method P shape reference f rest memory is))
    (ends_method reference f rest (length (Method f ∷ rest)) (handler_around P shape (point_at P f.at f.place))
    (run_method P f.at) (unwind P reference rest) memory (target_in P shape rest) target lands many
    (λ below. let few = few_left P shape rest target below in omega arith))
