use Rattle.std.specs.Prelude.{◌≡◌, ◌≢◌, ◌||◌, ◌+◌, ◌-◌, refl, ℕ, Bool, true, false, List, [], ◌∷◌, ◌++◌, length, replicate, reverse, Option, Some, None, IfSome, is_some, option_and_then, if◌then◌else◌}
use Rattle.std.specs.List.{AllByRecursion}
use Rattle.std.proofs.Common.{ap, sym, ◌∙◌, subst}
use Rattle.std.proofs.lemmas.Slice.Eq.{bytes_eq-Decides}
use Rattle.class_model.specs.Code.{entry_frame}
use Rattle.class_model.specs.Descriptors.{parameters_of}
use Rattle.class_model.specs.Frames.{filled}
use Rattle.class_model.specs.Names.{clinit}
use Rattle.class_model.specs.declared.class_file.MethodAt.{MethodAt}
use Rattle.class_model.specs.declared.frame.Frame.{Frame}
use Rattle.class_model.specs.declared.frame.VType.{VType}
use Rattle.class_model.specs.declared.header.Member.{Member}
use Rattle.class_tree.specs.Headers.{Name}
use Rattle.machine_values.specs.Frames.{MethodState}
use Rattle.machine_values.specs.Heaps.{Heap, monitor_count}
use Rattle.machine_values.specs.Values.{units_of_values}
use Rattle.machine_values.specs.declared.frame.RunFrame.{RunFrame}
use Rattle.machine_values.specs.declared.frame.RunFrame.TheVariants as frames
use Rattle.machine_values.specs.declared.object.Constant.TheVariants as constants
use Rattle.machine_values.specs.declared.object.Shape.{Shape}
use Rattle.machine_values.specs.declared.value.Value.{Value}
use Rattle.machine_values.specs.declared.value.Value.TheVariants as values
use Rattle.member_link.specs.DeclaredMembers.{Declared, IsMethod}
use Rattle.member_link.specs.Machine.Beginnings.{frame_with}
use Rattle.member_link.specs.Machine.CallSteps.{run_call, run_chosen, on_receiver, as_asked, is_polymorphic}
use Rattle.member_link.specs.Machine.Completions.{Completion, calls, asks, asks_call}
use Rattle.member_link.specs.Machine.Links.{reference_to}
use Rattle.member_link.specs.Machine.Ops.{Op}
use Rattle.member_link.specs.Machine.Performing.{Locking, no_lock, receiver_lock, class_lock, locking_of, Locked, locked_by, locked, is_initialiser, perform}
use Rattle.member_link.specs.Machine.Programs.{Program, Chosen, chosen, abstract_method, several_defaults, not_public, Code, headers_in, name_of_class, place_of_method, run_method, code_run, code_at}
use Rattle.member_link.specs.Machine.Shapes.{is_external}
use Rattle.member_link.specs.Machine.Throwables.{abstract_called, incompatible_change, illegal_access}
use Rattle.member_link.specs.Machine.Worlds.{World, Memory}
use Rattle.member_link.specs.References.{Reference}
use Rattle.member_link.specs.RowScope.{RowScope}
use Rattle.member_link.specs.Rows.Row.{Row, stack_left}
use Rattle.typed_runs.proofs.Arguments.{BeginsWith, filled_units, argument_pairs}
use Rattle.typed_runs.proofs.Callees.{Callee, callee_of}
use Rattle.typed_runs.proofs.ConstantObjects.{constant_typed}
use Rattle.typed_runs.proofs.Here.{Here, stays}
use Rattle.typed_runs.proofs.Kept.{Keeps, keeps_same, keeps_through, there, in_heap_kept, method_kept, frames_kept, all_kept}
use Rattle.typed_runs.proofs.Memories.{monitor_typed}
use Rattle.typed_runs.proofs.Performing.{raises_goes, asks_goes}
use Rattle.typed_runs.proofs.Points.{does_first}
use Rattle.typed_runs.proofs.Raising.{raises_abstract, raises_change, raises_access}
use Rattle.typed_runs.specs.Conforming.{IsInHeap, IsValueInHeap, AllConform, no_values, UnitsConform, IsTypedMemory}
use Rattle.typed_runs.specs.TypedFrames.{called_method, above_method, above_of, FitsCall, ShowsEvent, MethodConforms, Does, FramesConform, upon}
use Rattle.typed_runs.specs.TypedPrograms.{Typings, IsTypedProgram, IsTypedMethod, entry}
use Rattle.typed_runs.specs.TypedWorlds.{StaysTyped}

-- what an operation comes to, with this stack left, leaves a typed world
abbrev pub StaysAfter : Program → Typings → World → MethodState → List RunFrame → List Value → Completion → Type 0
StaysAfter P T w f rest stack c = StaysTyped P T w (perform P w f (record f { stack = stack }) rest c)

-- ---- the monitor of a synchronized method

pub record LockedTyped (P : Program) (m : Memory) (l : Locked) : Type 0 where
  pub keep : Keeps m.heap l.memory.heap
  pub typed : IsTypedMemory P l.memory
  pub held : IfSome l.held (IsInHeap l.memory.heap)

-- entering a monitor, which counts
pub entered_typed : (P : Program) (m : Memory) (r : ℕ) → IsTypedMemory P m → IsInHeap m.heap r
    → LockedTyped P m (locked_by m [] receiver_lock (values.Ref r ∷ []))
entered_typed P m r typed is =
    let e = monitor_typed P m r (monitor_count m.heap r + 1) typed in
    record {
      keep = e.keep;
      typed = record { objects = e.typed.objects; constants = e.typed.constants; statics = e.typed.statics };
      held = in_heap_kept e.keep r is;
    }

pub not_locked : (P : Program) (m : Memory) → IsTypedMemory P m → LockedTyped P m (record { memory = m; held = None })
not_locked P m typed = record { keep = keeps_same m.heap; typed = typed; held = tt }

pub locked_typed : (P : Program) (T : Typings) → IsTypedProgram P T → (m : Memory) (class : Name) (k : Locking) (vs : List Value)
    → IsTypedMemory P m → AllByRecursion (IsValueInHeap m.heap) vs
    → LockedTyped P m (locked_by m class k vs)
locked_typed P T program m class no_lock vs typed all = not_locked P m typed
locked_typed P T program m class receiver_lock (values.Ref r ∷ vs) typed all =
    let l = entered_typed P m r typed all.0 in
    record { keep = l.keep; typed = l.typed; held = l.held }
locked_typed P T program m class receiver_lock [] typed all = not_locked P m typed
locked_typed P T program m class receiver_lock (values.Int i ∷ vs) typed all = not_locked P m typed
locked_typed P T program m class receiver_lock (values.Long i ∷ vs) typed all = not_locked P m typed
locked_typed P T program m class receiver_lock (values.Float b ∷ vs) typed all = not_locked P m typed
locked_typed P T program m class receiver_lock (values.Double b ∷ vs) typed all = not_locked P m typed
locked_typed P T program m class receiver_lock (values.Null ∷ vs) typed all = not_locked P m typed
locked_typed P T program m class class_lock vs typed all =
    let made = constant_typed P m (constants.Class class) typed program.base.of_classes in
    let l = entered_typed P _ _ made.typed (there made.shape) in
    record { keep = keeps_through made.keep l.keep; typed = l.typed; held = l.held }

-- ---- a frame that is put on top

-- what a caller leaves: its frame waits with this stack, and the values of the call are in the heap
pub record Leaves (P : Program) (T : Typings) (w : World) (f : MethodState) (frame : Frame) (row : Row) (op : Op)
    (stack vs : List Value) : Type 0 where
  pub locals : UnitsConform P (T f.at).scope w.memory.heap row.locals f.locals
  pub under : AllConform P (T f.at).scope w.memory.heap (stack_left frame row) (reverse stack)
  pub shows : ShowsEvent op
  pub in_heap : AllByRecursion (IsValueInHeap w.memory.heap) vs

-- a declared method that fits an operation
pub record IsCallee (P : Program) (h : Heap) (op : Op) (m : Declared) (vs : List Value) : Type 0 where
  pub declares : IsMethod (headers_in P) m
  pub no_clinit : m.member.name ≢ clinit
  pub call : FitsCall m.member op
  pub begins : BeginsWith P h m vs

-- the frame of a method that is called does its first instruction
pub does_begin : (P : Program) (T : Typings) (m : Memory) → IsTypedProgram P T → (h : Heap) → Keeps h m.heap
    → (d : Declared) (at : MethodAt) (c : Callee P d at) (code : Code) (vs : List Value) (held : Option ℕ)
    → code_run c.method ≡ Some code → BeginsWith P h d vs → IfSome held (IsInHeap m.heap)
    → Does P T m.heap (frame_with P at (units_of_values vs) held)
does_begin P T m program h keep d at c code vs held run begins in_heap =
    let is_code : code_at P at ≡ Some code = ap (λ o. option_and_then code_run o) c.run ∙ run in
    let typed : IsTypedMethod P at c.method.member code (T at) = program.methods at c.method code c.run run in
    let new : MethodState = record {
      at = at;
      place = 0;
      locals =
          units_of_values vs ++ replicate (code.locals - length (units_of_values vs)) None;
      stack = [];
      held = held;
    } in
    let same : frame_with P at (units_of_values vs) held ≡ new = rw is_code refl in
    let first : (entry P at c.method.member code).locals ≡ filled code.locals begins.types =
    ap (λ (member : Member). (entry P at member code).locals) c.member ∙ ap
    (λ (class : Name). (entry_frame d.member.flags d.member.name (Some class)
    (parameters_of d.member.desc) code.locals).locals) c.class ∙ begins.locals code.locals in
    let units : UnitsConform P (T at).scope m.heap (filled code.locals begins.types) new.locals =
    filled_units code.locals begins.of_arguments (all_kept keep (begins.conform (T at).scope (typed.own ∙ c.class))) in
    subst (λ (g : MethodState). Does P T m.heap g) (sym same)
    (does_first P T m program new code is_code in_heap (entry P at c.method.member code) typed.entry_leads
    (argument_pairs vs (code.locals - length (units_of_values vs)))
    (subst (λ (ts : List VType). UnitsConform P (T at).scope m.heap ts new.locals) (sym first) units) no_values)

pub called_above : (P : Program) (d : Declared) (at : MethodAt) (c : Callee P d at) (units : List (Option Value)) (held : Option ℕ)
    → d.member.name ≢ clinit → above_of P (frames.Method (frame_with P at units held)) ≡ called_method d.member
called_above P d at c units held other = ap above_method c.run ∙ by (is_initialiser c.method) refl where
  by : (b : Bool) → is_initialiser c.method ≡ b → above_method (Some c.method) ≡ called_method d.member
  by true e = absurd (other (sym (ap (λ (member : Member). member.name) c.member) ∙ (bytes_eq-Decides c.method.member.name clinit).0 e))
  by false e = rw e (ap called_method c.member)

module _ {P : Program} {T : Typings} {w : World} {f : MethodState} {rest : List RunFrame} {s : RowScope} {frame : Frame} {place : ℕ}
    {numbered : ℕ → ℕ} {row : Row} {op : Op} {falls : Bool} {places : List ℕ}
    (h : Here P T w f rest s frame place numbered row op falls places)
    (stack vs : List Value) (l : Leaves P T w f frame row op stack vs) where
  pub asks_call_goes : (r : Reference) → StaysAfter P T w f rest stack (asks (asks_call r vs))
  asks_call_goes r = asks_goes h (asks_call r vs) stack l.locals l.under l.shows l.in_heap

  pub calls_goes : (d : Declared) (at : MethodAt) (c : Callee P d at) (code : Code) → code_run c.method ≡ Some code
      → IsCallee P w.memory.heap op d vs → StaysAfter P T w f rest stack (calls at vs)
  calls_goes d at c code run fits =
      let k = locked_typed P T h.typed.program w.memory (name_of_class P at.class)
      (locking_of (run_method P at)) vs h.typed.memory l.in_heap in
      let m : Locked = locked P w.memory at vs in
      let g : MethodState = frame_with P at (units_of_values vs) m.held in
      let caller : MethodState = record f { stack = stack } in
      let waits : MethodConforms P T m.memory.heap caller (called_method d.member) =
      method_kept P T k.keep caller (called_method d.member) (h.waits stack l.locals l.under (called_method d.member) fits.call) in
      let above = called_above P d at c (units_of_values vs) m.held fits.no_clinit in
      stays P T w m.memory (frames.Method g ∷ frames.Method caller ∷ rest) h.typed k.keep k.typed
      (upon (does_begin P T m.memory h.typed.program w.memory.heap k.keep d at c code vs m.held run fits.begins k.held)
      (subst (λ a. FramesConform P T m.memory.heap a (frames.Method caller ∷ rest)) (sym above)
      (upon waits (frames_kept k.keep h.below))))

  -- a declared method gets a frame, or the library is asked
  pub runs_goes : (d : Declared) → IsCallee P w.memory.heap op d vs → StaysAfter P T w f rest stack (run_call P (reference_to d) vs)
  runs_goes d fits = by (place_of_method P (reference_to d)) refl where
    of_code : (at : MethodAt) (c : Callee P d at) (code : Option Code) → code_run c.method ≡ code
        → StaysAfter P T w f rest stack (if is_some (code_at P at) then calls at vs else asks (asks_call (reference_to d) vs))
    of_code at c None e =
        let none : code_at P at ≡ None = ap (λ o. option_and_then code_run o) c.run ∙ e in
        subst (λ o. StaysAfter P T w f rest stack (if is_some o then calls at vs else asks (asks_call (reference_to d) vs))) (sym none)
        (asks_call_goes (reference_to d))
    of_code at c (Some code) e =
        let some : code_at P at ≡ Some code = ap (λ o. option_and_then code_run o) c.run ∙ e in
        subst (λ o. StaysAfter P T w f rest stack (if is_some o then calls at vs else asks (asks_call (reference_to d) vs))) (sym some)
        (calls_goes d at c code e fits)

    by : (o : Option MethodAt) → place_of_method P (reference_to d) ≡ o → StaysAfter P T w f rest stack (run_call P (reference_to d) vs)
    by None e = rw e (asks_call_goes (reference_to d))
    by (Some at) e = let c = callee_of P T h.typed.program d fits.declares at e in rw e (of_code at c (code_run c.method) refl)

  -- the method that a selection chose, or why there is none
  pub chosen_goes : (choice : Chosen) → ((r : Reference) → choice ≡ chosen r → StaysAfter P T w f rest stack (run_call P r vs))
      → StaysAfter P T w f rest stack (run_chosen P choice vs)
  chosen_goes (chosen r) runs = runs r refl
  chosen_goes abstract_method runs = raises_goes h abstract_called stack (raises_abstract P T h.typed.program)
  chosen_goes several_defaults runs = raises_goes h incompatible_change stack (raises_change P T h.typed.program)
  chosen_goes not_public runs = raises_goes h illegal_access stack (raises_access P T h.typed.program)

  -- of an object of the library, and of a signature polymorphic method, the library is asked
  pub receiver_goes : (shape : Shape) (named found : Reference) (choice : Chosen)
      → (is_external shape ≡ false → is_polymorphic P named ≡ false → (r : Reference) → choice ≡ chosen r
      → StaysAfter P T w f rest stack (run_call P r vs))
      → StaysAfter P T w f rest stack (on_receiver P shape named found choice vs)
  receiver_goes shape named found choice runs = by (is_external shape) refl (is_polymorphic P named) refl where
    by : (a : Bool) → is_external shape ≡ a → (b : Bool) → is_polymorphic P named ≡ b
        → StaysAfter P T w f rest stack (if a || b then asks (asks_call (as_asked P named found) vs) else run_chosen P choice vs)
    by true x b y = asks_call_goes (as_asked P named found)
    by false x true y = asks_call_goes (as_asked P named found)
    by false x false y = chosen_goes choice (runs x y)
