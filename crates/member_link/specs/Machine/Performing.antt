-- How a completion changes the frames (JVM Specification SE 8, 2.6.4, 2.6.5, 2.10, 2.11.10 and 6.5): calls, returns, and throwing
-- to the nearest handler. A synchronized method enters a monitor as it is called and leaves it as it ends.
use Rattle.std.specs.Prelude.{◌&&◌, ◌+◌, not, ℕ, Bool, true, false, List, [], ◌∷◌, ◌++◌, reverse, bytes_eq, Option, Some, None, if◌then◌else◌}
use Rattle.class_model.specs.Members.{has, STATIC}
use Rattle.class_model.specs.Names.{clinit}
use Rattle.class_model.specs.declared.class_file.MethodAt.{MethodAt}
use Rattle.class_model.specs.declared.descriptor.FieldType.{FieldType}
use Rattle.class_tree.specs.Headers.{Name}
use Rattle.machine_values.specs.Frames.{MethodState}
use Rattle.machine_values.specs.declared.frame.RunFrame.{RunFrame}
use Rattle.machine_values.specs.declared.frame.RunFrame.TheVariants.{Library, Beginning, Method}
use Rattle.machine_values.specs.declared.object.Constant.TheVariants.{Class}
use Rattle.machine_values.specs.declared.object.Object.{Object}
use Rattle.machine_values.specs.declared.value.Value.{Value}
use Rattle.machine_values.specs.declared.value.Value.TheVariants.{Ref}
use Rattle.member_link.specs.Machine.Beginnings.{begun_on, frame_with}
use Rattle.member_link.specs.Machine.Completions.{Completion, gives, raises, throws, begins, calls, asks, ends}
use Rattle.machine_values.specs.Heaps.{Heap, Made, object_at, external, constant_made, left}
use Rattle.member_link.specs.Machine.ObjectSteps.{with_entered}
use Rattle.member_link.specs.Machine.Programs.{Program, Catch, Point, RunMethod, run_method, point_at, name_of_class}
use Rattle.member_link.specs.Machine.Shapes.{is_instance}
use Rattle.member_link.specs.Machine.Showing.{shows_asked, shows_result, shows_threw}
use Rattle.machine_values.specs.Values.{narrowed, units_of_values}
use Rattle.member_link.specs.Machine.Worlds.{World, Memory, with_heap, stuck, init_threw}

-- ---- calls

abbrev pub SYNCHRONIZED : ℕ
SYNCHRONIZED = 0x0020

-- Which monitor a method enters: none, that of its receiver, or that of its class. The flags of a class initialiser are not looked at
-- (4.6).
pub data Locking : Type 0 where
  no_lock : Locking
  receiver_lock : Locking
  class_lock : Locking

abbrev pub is_initialiser : RunMethod → Bool
is_initialiser method = bytes_eq method.member.name clinit

abbrev pub locking_of : Option RunMethod → Locking
locking_of None = no_lock
locking_of (Some method) =
    if has method.member.flags SYNCHRONIZED && not (is_initialiser method)
    then (if has method.member.flags STATIC then class_lock else receiver_lock)
    else no_lock

-- a memory, and the reference whose monitor was entered
pub record Locked : Type 0 where
  pub memory : Memory
  pub held : Option ℕ

abbrev pub locked_on : Memory → ℕ → Locked
locked_on memory reference =
    record { memory = with_entered memory reference; held = Some reference }

abbrev pub locked_on_made : Memory → Made → Locked
locked_on_made memory made = locked_on (with_heap memory made.heap) made.reference

-- a static method enters the monitor of its class, which is a constant
abbrev pub locked_by : Memory → Name → Locking → List Value → Locked
locked_by memory class receiver_lock (Ref reference ∷ others) = locked_on memory reference
locked_by memory class class_lock values =
    locked_on_made memory (constant_made memory.heap (Class class))
locked_by memory class locking values = record { memory = memory; held = None }

abbrev pub locked : Program → Memory → MethodAt → List Value → Locked
locked P memory at values =
    locked_by memory (name_of_class P at.class) (locking_of (run_method P at)) values

-- the frame of a called method on top of others
abbrev pub with_frame : Program → World → MethodAt → List Value → List RunFrame → Locked → World
with_frame P w at values rest l =
    record w {
      memory = l.memory;
      frames = Method (frame_with P at (units_of_values values) l.held) ∷ rest;
    }

abbrev pub called : Program → World → MethodAt → List Value → List RunFrame → World
called P w at values rest = with_frame P w at values rest (locked P w.memory at values)

-- ---- the end of a method

-- the monitor that a frame holds is left
abbrev pub unlocked : Memory → Option ℕ → Memory
unlocked memory None = memory
unlocked memory (Some reference) = with_heap memory (left memory.heap reference)

-- a frame that waited for a call goes on after it with the value on top
abbrev pub resumed : MethodState → List Value → MethodState
resumed f values = record f { place = f.place + 1; stack = reverse values ++ f.stack }

abbrev pub value_in : List Value → Option Value
value_in [] = None
value_in (value ∷ values) = Some value

-- what the library sees of a method that it called: the object that it constructed, else the value
abbrev pub result_seen : Option ℕ → List Value → Option Value
result_seen (Some made) values = Some (Ref made)
result_seen None values = value_in values

-- A method's value, or none, goes to the frame below. A class initialiser returns to no caller: the frame below goes on with what it
-- was to do.
abbrev pub returned_to : Program → World → Option ℕ → List Value → List RunFrame → World
returned_to P w held values (Method waiting ∷ others) =
    record w { memory = unlocked w.memory held; frames = Method (resumed waiting values) ∷ others }
returned_to P w held values (Library made ∷ others) =
    shows_result P (record w { memory = unlocked w.memory held; frames = Library None ∷ others })
    (result_seen made values)
returned_to P w held values others = record w { halt = stuck }

abbrev pub returned_by :
    Program → World → Option ℕ → List RunFrame → List Value → Option RunMethod → World
returned_by P w held rest values None = record w { halt = stuck }
returned_by P w held rest values (Some method) =
    if is_initialiser method
    then record w { memory = unlocked w.memory held; frames = rest }
    else returned_to P w held values rest

abbrev pub returned : Program → World → MethodState → List RunFrame → List Value → World
returned P w f rest values = returned_by P w f.held rest values (run_method P f.at)

-- ---- throwing

-- the first handler around a point that catches an object
abbrev pub handler_for : Program → Heap → List Catch → ℕ → Option ℕ
handler_for P heap [] reference = None
handler_for P heap (first ∷ others) reference =
    if catches first.class (object_at heap reference)
    then Some first.to
    else handler_for P heap others reference where
      catches : Option Name → Option Object → Bool
      catches None object = true
      catches (Some name) None = false
      catches (Some name) (Some object) = is_instance P object.shape name

abbrev pub handler_at : Program → Heap → Option Point → ℕ → Option ℕ
handler_at P heap None reference = None
handler_at P heap (Some point) reference = handler_for P heap point.catches reference

-- where a thrown object ends: in a frame that goes on, in the library, or as an exception out of a class initialiser
pub data Landing : Type 0 where
  lands_in : Memory → List RunFrame → Landing
  lands_in_library : Memory → List RunFrame → Landing
  leaves_initialiser : Memory → List RunFrame → Landing
  lands_nowhere : Landing

-- past a method without a handler: its monitor is left, and the next frame is looked at
abbrev pub past_method :
    Option ℕ → List RunFrame → Option RunMethod → (Memory → Landing) → Memory → Landing
past_method held rest None next memory = lands_nowhere
past_method held rest (Some method) next memory =
    if is_initialiser method then leaves_initialiser memory rest else next (unlocked memory held)

abbrev pub past_handler :
    ℕ → MethodState → List RunFrame → Option RunMethod → (Memory → Landing) → Memory → Option ℕ
    → Landing
past_handler reference f rest method next memory (Some to) =
    lands_in memory (Method (record f { place = to; stack = Ref reference ∷ [] }) ∷ rest)
past_handler reference f rest method next memory None = past_method f.held rest method next memory

-- Frame by frame from the top: to the handler of a method, else to the next frame.
abbrev pub unwind : Program → ℕ → List RunFrame → Memory → Landing
unwind P reference [] memory = lands_nowhere
unwind P reference (Library made ∷ rest) memory = lands_in_library memory (Library None ∷ rest)
unwind P reference (Beginning class ∷ rest) memory = lands_nowhere
unwind P reference (Method f ∷ rest) memory =
    past_handler reference f rest (run_method P f.at) (unwind P reference rest) memory
    (handler_at P memory.heap (point_at P f.at f.place) reference)

-- a world that is as before where an object lands nowhere
abbrev pub landed : Program → World → ℕ → Landing → World
landed P w reference (lands_in memory frames) = record w { memory = memory; frames = frames }
landed P w reference (lands_in_library memory frames) =
    shows_threw P (record w { memory = memory; frames = frames }) reference
landed P w reference (leaves_initialiser memory frames) =
    record w { memory = memory; frames = frames; halt = init_threw }
landed P w reference lands_nowhere = record w { halt = stuck }

-- an object is thrown with these frames standing, and this memory
abbrev pub thrown_in : Program → World → ℕ → List RunFrame → Memory → World
thrown_in P w reference frames memory = landed P w reference (unwind P reference frames memory)

abbrev pub thrown : Program → World → ℕ → List RunFrame → World
thrown P w reference frames = thrown_in P w reference frames w.memory

-- a throwable of the machine is made, and thrown
abbrev pub thrown_made : Program → World → List RunFrame → Made → World
thrown_made P w frames made = thrown_in P w made.reference frames (with_heap w.memory made.heap)

abbrev pub raised : Program → World → Name → List RunFrame → World
raised P w class frames = thrown_made P w frames (external w.memory.heap class)

-- ---- completions

-- The frame before an operation, and the same less its operands. A frame that waits stands at its operation.
abbrev pub perform :
    Program → World → MethodState → MethodState → List RunFrame → Completion → World
perform P w before taken rest (gives memory values) =
    record w { memory = memory; frames = Method (resumed taken values) ∷ rest }
perform P w before taken rest (raises class) = raised P w class (Method taken ∷ rest)
perform P w before taken rest (throws reference) = thrown P w reference (Method taken ∷ rest)
perform P w before taken rest (begins class) = begun_on P class w (Method before ∷ rest)
perform P w before taken rest (calls at values) = called P w at values (Method taken ∷ rest)
perform P w before taken rest (asks asked) =
    shows_asked P (record w { frames = Library None ∷ Method taken ∷ rest }) asked
perform P w before taken rest (ends halt) = record w { halt = halt }

-- a value of a declared result, narrowed to it
abbrev pub returned_value :
    Program → World → MethodState → List RunFrame → FieldType → Value → World
returned_value P w f rest type value = returned P w f rest (narrowed type value ∷ [])
