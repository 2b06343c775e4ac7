-- A step of an operation that works on its operands.
use Rattle.std.proofs.Common.{◌≡◌, ◌≤◌, ℕ, Bool, true, false, cond, List, length, take, reverse, nat_le, refl, sym, ap, ◌∙◌, T, subst, leb→le}
use Rattle.std.proofs.lemmas.Bool.{le-leb}
use Rattle.std.proofs.lemmas.List.{length-reverse, length-take-le}
use Rattle.machine_values.specs.Frames.{MethodState}
use Rattle.machine_values.specs.declared.frame.RunFrame.{RunFrame}
use Rattle.machine_values.specs.declared.value.Value.{Value}
use Rattle.member_link.specs.Machine.Completions.{Completion, begins}
use Rattle.member_link.specs.Machine.Ops.{Op}
use Rattle.member_link.specs.Machine.Performing.{perform}
use Rattle.member_link.specs.Machine.Programs.{Program}
use Rattle.member_link.specs.Machine.Stepping.{ends_stuck, work_step}
use Rattle.member_link.specs.Machine.Work.{arity, work}
use Rattle.member_link.specs.Machine.Worlds.{Memory, World, is_begun}
use Rattle.machine_step.specs.Completing.{Completes, Keeps, completion_of}
use Rattle.machine_step.specs.Room.{HasRoom}
use Rattle.machine_step.specs.declared.completed.Completed.{Completed}
use Rattle.machine_step.specs.declared.completed.Completed.TheVariants as completed
use Rattle.machine_run.specs.Inner.Performed.{CanPerform, operands_in, performed, without_operands}

-- with as many operands as it takes, and with fewer
pub enough_works :
    (P : Program) (w : World) (f : MethodState) (rest : List RunFrame) (op : Op)
    → arity op ≤ length f.stack
    → work_step P w f rest op
    ≡ perform P w f (without_operands (arity op) f) rest (work P w.memory op (operands_in (arity op) f))
enough_works P w f rest op enough =
    ap
    (λ (b : Bool). cond b (perform P w f (without_operands (arity op) f) rest (work P w.memory op (operands_in (arity op) f))) (ends_stuck w))
    (le-leb (arity op) (length f.stack) enough)

pub few_stuck :
    (P : Program) (w : World) (f : MethodState) (rest : List RunFrame) (op : Op)
    → (arity op ≤ length f.stack → ⊥)
    → work_step P w f rest op ≡ ends_stuck w
few_stuck P w f rest op few = by (nat_le (arity op) (length f.stack)) refl where
  by : (b : Bool) → nat_le (arity op) (length f.stack) ≡ b → cond b (perform P w f (without_operands (arity op) f) rest (work P w.memory op (operands_in (arity op) f))) (ends_stuck w) ≡ ends_stuck w
  by true is = absurd (few (leb→le (arity op) (length f.stack) (subst T (sym is) tt)))
  by false is = refl

-- only what an operation gives changes the memory before it is performed
same_memory : (w : World) (memory : Memory) → memory ≡ w.memory → (let new : World = record w { memory = memory } in new) ≡ w
same_memory w memory is = ap (λ (m : Memory). let new : World = record w { memory = m } in new) is

pub same_performed :
    (P : Program) (w : World) (after : Memory) (f taken : MethodState) (rest : List RunFrame) (operands : List Value) (c : Completed)
    → Keeps w.memory after c
    → perform P (record w { memory = after }) f taken rest (completion_of after operands c)
    ≡ perform P w f taken rest (completion_of after operands c)
same_performed P w after f taken rest operands (completed.Gives value) keeps = refl
same_performed P w after f taken rest operands (completed.Raises throwable) keeps = ap (λ (v : World). perform P v f taken rest (completion_of after operands (completed.Raises throwable))) (same_memory w after keeps)
same_performed P w after f taken rest operands (completed.Throws r) keeps = ap (λ (v : World). perform P v f taken rest (completion_of after operands (completed.Throws r))) (same_memory w after keeps)
same_performed P w after f taken rest operands (completed.Begins class) keeps = ap (λ (v : World). perform P v f taken rest (completion_of after operands (completed.Begins class))) (same_memory w after keeps)
same_performed P w after f taken rest operands (completed.Calls at) keeps = ap (λ (v : World). perform P v f taken rest (completion_of after operands (completed.Calls at))) (same_memory w after keeps)
same_performed P w after f taken rest operands (completed.Asks asked) keeps = ap (λ (v : World). perform P v f taken rest (completion_of after operands (completed.Asks asked))) (same_memory w after keeps)
same_performed P w after f taken rest operands completed.Stuck keeps = ap (λ (v : World). perform P v f taken rest (completion_of after operands completed.Stuck)) (same_memory w after keeps)
same_performed P w after f taken rest operands completed.ArrayTooLong keeps = ap (λ (v : World). perform P v f taken rest (completion_of after operands completed.ArrayTooLong)) (same_memory w after keeps)

-- what an operation comes to, performed, is the step
pub worked :
    (P : Program) (w : World) (f : MethodState) (rest : List RunFrame) (op : Op) (count : ℕ) (after : Memory) (c : Completed)
    → count ≡ arity op
    → count ≤ length f.stack
    → Completes w.memory after (operands_in count f) c (work P w.memory op (operands_in count f))
    → performed P (record w { memory = after }) f rest count c ≡ work_step P w f rest op
worked P w f rest op count after c many enough completes =
    same_performed P w after f (without_operands count f) rest (operands_in count f) c completes.keeps
    ∙ ap (perform P w f (without_operands count f) rest) (sym completes.same)
    ∙ ap (λ (n : ℕ). perform P w f (without_operands n f) rest (work P w.memory op (operands_in n f))) many
    ∙ sym (enough_works P w f rest op (rw (sym many) enough))

-- what is left to do can be done: a class that begins is not begun, and where a method is called the memory has room
pub can_perform :
    (before after : Memory) (operands : List Value) (c : Completed) (completion : Completion)
    → Completes before after operands c completion
    → HasRoom before
    → ((class : ℕ) → completion ≡ begins class → is_begun before class ≡ false)
    → CanPerform after c
can_perform before after operands (completed.Begins class) completion completes room unbegun =
    ap (λ (m : Memory). is_begun m class) completes.keeps ∙ unbegun class completes.same
can_perform before after operands (completed.Calls at) completion completes room unbegun =
    subst HasRoom (sym completes.keeps) room
can_perform before after operands (completed.Gives value) completion completes room unbegun = tt
can_perform before after operands (completed.Raises throwable) completion completes room unbegun = tt
can_perform before after operands (completed.Throws r) completion completes room unbegun = tt
can_perform before after operands (completed.Asks asked) completion completes room unbegun = tt
can_perform before after operands completed.Stuck completion completes room unbegun = tt
can_perform before after operands completed.ArrayTooLong completion completes room unbegun = tt

-- as many operands as are taken
pub topmost_length :
    {X : Type 0} (stack : List X) (count : ℕ) → count ≤ length stack
    → length (reverse (take count stack)) ≡ count
topmost_length stack count enough =
    length-reverse (take count stack) ∙ length-take-le count stack enough
