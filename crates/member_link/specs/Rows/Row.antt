-- A row of the table of instructions (JVM Specification SE 8, 4.10.1.9): what the instruction takes from the stack and
-- asks of the locals, what it gives, and which further conditions it has, behind a frame that it stands at.
use Rattle.std.specs.Prelude.{Bool, true, false, List, [], ◌∷◌, ◌++◌, length, Option, Some, None, if◌then◌else◌}
use Rattle.class_model.specs.declared.frame.Frame.{Frame}
use Rattle.class_model.specs.declared.frame.VType.{VType}
use Rattle.member_link.specs.Rows.Operands.{Need, nothing, under}

pub record Row : Type 1 where
  -- what each operand must be, the topmost last
  pub takes : List Need
  -- what is asked of the locals
  pub local : Type 0
  -- what is pushed, the topmost last
  pub gives : List VType
  -- the further condition
  pub further : Type 0
  -- and that the current class may use the protected member that is named (4.10.1.8, 4.10.1.9.invokespecial)
  pub access : Type 0
  -- the locals behind the instruction, and what becomes of the entries under the operands
  pub locals : List VType
  pub becomes : List VType → List VType
  -- control goes on behind the instruction, or at a target
  pub goes_on : Bool

-- it takes and gives, and nothing else
abbrev pub plain : Frame → List Need → List VType → Row
plain f takes gives = record {
  takes = takes;
  local = Unit {0};
  gives = gives;
  further = Unit {0};
  access = Unit {0};
  locals = f.locals;
  becomes = λ entries. entries;
  goes_on = true;
}

-- the same, with a further condition and one of access
abbrev pub conditional : Frame → List Need → List VType → Type 0 → Type 0 → Row
conditional f takes gives Further Access =
    record (plain f takes gives) { further = Further; access = Access }

-- it takes, has a further condition, and control does not go on
abbrev pub ending : Frame → List Need → Type 0 → Row
ending f takes Further = record (plain f takes []) { further = Further; goes_on = false }

-- no instruction
abbrev pub no_row : Frame → Row
no_row f = plain f (nothing ∷ []) []

-- the one row or the other, by a test
abbrev pub either : Bool → Row → Row → Row
either true row other = row
either false row other = other

-- a row whose access is not asked
abbrev pub access_aside : Row → Row
access_aside row = record row { access = Unit {0} }

-- ---- the frame after

-- What an instruction leaves, less what it gives: with this frame a call waits for its result.
abbrev pub stack_left : Frame → Row → List VType
stack_left f row = row.becomes (under (length row.takes) f.stack)

-- the stack behind an instruction
abbrev pub stack_behind : Frame → Row → List VType
stack_behind f row = stack_left f row ++ row.gives

-- the frame behind an instruction, if control goes on
abbrev pub row_frame : Frame → Row → Option Frame
row_frame f row =
    if row.goes_on then Some (record { locals = row.locals; stack = stack_behind f row }) else None
