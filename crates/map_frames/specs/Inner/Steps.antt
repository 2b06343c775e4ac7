-- A table read step by step, for the contracts of the reader's own functions: what one step gives, and where it
-- leaves the reader.
use Rattle.std.specs.Prelude.{◌≡◌, ◌==◌, ◌+◌, nat_lt, ℕ, List, [], ◌++◌, length, Result, Ok, Err, if◌then◌else◌}
use Rattle.class_model.specs.Checks.{Fault, fault, ◌>>=◌}
use Rattle.class_model.specs.Cutting.{Rest, Cut, behind}
use Rattle.class_model.specs.Frames.{Setting, Stated, stated_frame, frame_at, fits_at, filled, missing}
use Rattle.class_model.specs.Instructions.{u1_in}
use Rattle.class_model.specs.declared.fault.ClassFault.{ClassFault}
use Rattle.class_model.specs.declared.fault.ClassFault.TheVariants.{Malformed, Version, NoMemory}
use Rattle.class_model.specs.declared.frame.Frame.{Frame}
use Rattle.class_model.specs.declared.frame.PlacedFrame.{PlacedFrame}
use Rattle.class_model.specs.declared.frame.VType.{VType}

-- ---- numbers

-- a number of one byte
abbrev pub byte_at : Rest → Cut ℕ
byte_at rest =
    if nat_lt (length rest.bytes) 1 then Err missing else Ok (u1_in rest.bytes 0, behind 1 rest)

-- nothing follows
abbrev pub end_at : Rest → Result (Unit {0}) Fault
end_at rest = if length rest.bytes == 0 then Ok tt else Err missing

-- ---- frames

-- a frame of these locals
abbrev pub of_locals : List VType → Frame
of_locals locals = record { locals = locals; stack = [] }

-- a frame with its offset, of these entries
abbrev pub placed : Setting → ℕ → List VType → List VType → PlacedFrame
placed s at locals stack = record {
  at = at;
  frame = record { locals = filled s.max_locals locals; stack = stack };
}

-- ---- what a function of the reader answers

-- the fault that a definition gives
abbrev pub Refuses : {X : Type 0} → Result X Fault → ClassFault → Type 0
Refuses given (Malformed at rule) = given ≡ Err (fault at rule)
Refuses given NoMemory = Unit {0}
Refuses given (Version major minor) = ⊥

-- the entries that are read are appended to those before
abbrev pub Appends : Cut (List VType) → List VType → List VType → Rest
    → Result (Unit {0}) ClassFault → Type 0
Appends cut before now after (Ok done) =
    (more : List VType) × (cut ≡ Ok (more, after)) × (now ≡ before ++ more)
Appends cut before now after (Err f) = Refuses cut f

-- the delta and the stack of a frame, whose locals are these
abbrev pub States : Cut Stated → List VType → Rest → Result (ℕ × List VType) ClassFault → Type 0
States cut locals after (Ok read) = cut ≡ Ok (stated_frame read.0 locals read.1, after)
States cut locals after (Err f) = Refuses cut f

-- the offset of a frame, whose entries are these
abbrev pub IsPlaced : Setting → ℕ → Stated → ℕ → Result ℕ ClassFault → Type 0
IsPlaced s frame f at (Ok offset) =
    (offset ≡ at) × (fits_at s frame at f ≡ Ok (placed s offset f.entries.locals f.entries.stack))
IsPlaced s frame f at (Err d) = Refuses (fits_at s frame at f) d

-- where the next frame is read: what its delta is added to, the locals before it, and the bytes
pub record Standing : Type 0 where
  pub from : ℕ
  pub locals : List VType
  pub rest : Rest

-- A frame was read there: its offset and stack, and where the reader stands then.
pub record IsStep (s : Setting) (w : Standing) (at : ℕ) (stack : List VType)
    (next : Standing) : Type 0 where
  pub delta : ℕ
  pub read : frame_at s w.locals w.rest ≡ Ok (stated_frame delta next.locals stack, next.rest)
  pub fits : fits_at s w.rest.at (w.from + delta) (stated_frame delta next.locals stack)
      ≡ Ok (placed s at next.locals stack)
  pub from : next.from ≡ w.from + delta + 1

abbrev pub Steps : Setting → Standing → Standing → Result (ℕ × List VType) ClassFault → Type 0
Steps s w next (Ok read) = IsStep s w read.0 read.1 next
Steps s w next (Err f) =
    Refuses (frame_at s w.locals w.rest >>= λ first. fits_at s w.rest.at
    (w.from + first.0.delta) first.0) f
