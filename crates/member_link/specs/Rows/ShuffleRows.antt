-- Instructions that move stack entries (JVM Specification SE 8, 6.5: pop to swap), form by form as the standard counts
-- them. No form takes a Top, or a part of a long or double.
use Rattle.std.specs.Prelude.{◌==◌, ◌&&◌, ℕ, Bool, true, false, List, [], ◌∷◌, length, map, slice_get, Option, Some, None, if◌then◌else◌}
use Rattle.std.specs.List.{flat_map}
use Rattle.class_model.specs.Frames.{is_wide}
use Rattle.class_model.specs.declared.frame.Frame.{Frame}
use Rattle.class_model.specs.declared.frame.VType.{VType}
use Rattle.class_model.specs.declared.opcodes.TheConstants.{POP, POP2, DUP, DUP_X1, DUP_X2, DUP2, DUP2_X1, DUP2_X2, SWAP}
use Rattle.member_link.specs.Rows.Operands.{Need, single, double, is_single, topmost}
use Rattle.member_link.specs.Rows.Row.{Row, plain, no_row}

-- a value of one unit, or of two
pub data Width : Type 0 where
  one : Width
  two : Width

-- the widths of the operands, and what is pushed by the numbers of the operands, the topmost last
pub record Form : Type 0 where
  pub takes : List Width
  pub gives : List ℕ

abbrev form : List Width → List ℕ → Form
form takes gives = record { takes = takes; gives = gives }

abbrev pub forms_of : ℕ → List Form
forms_of opcode =
    if opcode == POP then form (one ∷ []) [] ∷ []
    else (if opcode == POP2 then form (one ∷ one ∷ []) [] ∷ form (two ∷ []) [] ∷ []
    else (if opcode == DUP then form (one ∷ []) (0 ∷ 0 ∷ []) ∷ []
    else (if opcode == DUP_X1 then form (one ∷ one ∷ []) (1 ∷ 0 ∷ 1 ∷ []) ∷ []
    else (if opcode == DUP_X2 then form (one ∷ one ∷ one ∷ []) (2 ∷ 0 ∷ 1 ∷ 2 ∷ [])
    ∷ form (two ∷ one ∷ []) (1 ∷ 0 ∷ 1 ∷ [])
    ∷ []
    else (if opcode == DUP2 then form (one ∷ one ∷ []) (0 ∷ 1 ∷ 0 ∷ 1 ∷ [])
    ∷ form (two ∷ []) (0 ∷ 0 ∷ [])
    ∷ []
    else (if opcode == DUP2_X1 then form (one ∷ one ∷ one ∷ []) (1 ∷ 2 ∷ 0 ∷ 1 ∷ 2 ∷ [])
    ∷ form (one ∷ two ∷ []) (1 ∷ 0 ∷ 1 ∷ [])
    ∷ []
    else (if opcode == DUP2_X2 then
    form (one ∷ one ∷ one ∷ one ∷ []) (2 ∷ 3 ∷ 0 ∷ 1 ∷ 2 ∷ 3 ∷ [])
    ∷ form (one ∷ one ∷ two ∷ []) (2 ∷ 0 ∷ 1 ∷ 2 ∷ [])
    ∷ form (two ∷ one ∷ one ∷ []) (1 ∷ 2 ∷ 0 ∷ 1 ∷ 2 ∷ [])
    ∷ form (two ∷ two ∷ []) (1 ∷ 0 ∷ 1 ∷ [])
    ∷ []
    else (if opcode == SWAP then form (one ∷ one ∷ []) (1 ∷ 0 ∷ []) ∷ []
    else []))))))))

abbrev pub need_of : Width → Need
need_of one = single
need_of two = double

abbrev pub has_width : Width → VType → Bool
has_width one type = is_single type
has_width two type = is_wide type

abbrev pub have_widths : List Width → List VType → Bool
have_widths [] [] = true
have_widths (width ∷ widths) (type ∷ stack) = has_width width type && have_widths widths stack
have_widths widths stack = false

-- the form that the topmost entries have; no two forms of an opcode fit one stack
abbrev pub form_in : List Form → List VType → Option Form
form_in [] stack = None
form_in (first ∷ others) stack =
    if have_widths first.takes (topmost (length first.takes) stack) then Some first
    else form_in others stack

abbrev pub picked : List VType → List ℕ → List VType
picked operands numbers = flat_map (λ number. entry (slice_get operands number)) numbers where
  entry : Option VType → List VType
  entry None = []
  entry (Some type) = type ∷ []

abbrev pub form_row : Frame → Option Form → Row
form_row f None = no_row f
form_row f (Some form) =
    plain f (map need_of form.takes) (picked (topmost (length form.takes) f.stack) form.gives)

abbrev pub shuffle_row : Frame → ℕ → Row
shuffle_row f opcode = form_row f (form_in (forms_of opcode) f.stack)
