-- How pop, dup, swap and the like move the entries of the operand stack, whose top is first, and which of these moves an instruction
-- makes by the widths of the topmost entries: whether each is a long or double, if it is there.
use Rattle.std.specs.Prelude.{ℕ, Bool, true, false, List, ◌∷◌, drop, slice_get, Option, Some, None, option_map}
use Rattle.machine_values.specs.Values.{is_wide_value}
use Rattle.machine_values.specs.declared.value.Value.{Value}
use Rattle.machine_code.specs.declared.shuffles.Move.{Move}
use Rattle.machine_code.specs.declared.shuffles.Move.TheVariants.{Pop, PopTwo, Dup, DupUnder, DupUnderTwo, DupTwo, DupTwoUnder, DupTwoUnderTwo, Swap}

-- ---- the moves

abbrev pub pushed : Option Value → List Value → List Value
pushed (Some top) stack = top ∷ stack
pushed None stack = stack

abbrev pub dup_under : Option Value → Option Value → List Value → List Value
dup_under (Some a) (Some b) stack = a ∷ b ∷ a ∷ drop 2 stack
dup_under a b stack = stack

abbrev pub dup_under_two :
    Option Value → Option Value → Option Value → List Value → List Value
dup_under_two (Some a) (Some b) (Some c) stack = a ∷ b ∷ c ∷ a ∷ drop 3 stack
dup_under_two a b c stack = stack

abbrev pub dup_two : Option Value → Option Value → List Value → List Value
dup_two (Some a) (Some b) stack = a ∷ b ∷ stack
dup_two a b stack = stack

abbrev pub dup_two_under :
    Option Value → Option Value → Option Value → List Value → List Value
dup_two_under (Some a) (Some b) (Some c) stack = a ∷ b ∷ c ∷ a ∷ b ∷ drop 3 stack
dup_two_under a b c stack = stack

abbrev pub dup_two_under_two :
    Option Value → Option Value → Option Value → Option Value → List Value → List Value
dup_two_under_two (Some a) (Some b) (Some c) (Some d) stack =
    a ∷ b ∷ c ∷ d ∷ a ∷ b ∷ drop 4 stack
dup_two_under_two a b c d stack = stack

abbrev pub swapped : Option Value → Option Value → List Value → List Value
swapped (Some a) (Some b) stack = b ∷ a ∷ drop 2 stack
swapped a b stack = stack

abbrev pub moved_by : Move → List Value → List Value
moved_by Pop stack = drop 1 stack
moved_by PopTwo stack = drop 2 stack
moved_by Dup stack = pushed (slice_get stack 0) stack
moved_by DupUnder stack = dup_under (slice_get stack 0) (slice_get stack 1) stack
moved_by DupUnderTwo stack =
    dup_under_two (slice_get stack 0) (slice_get stack 1) (slice_get stack 2) stack
moved_by DupTwo stack = dup_two (slice_get stack 0) (slice_get stack 1) stack
moved_by DupTwoUnder stack =
    dup_two_under (slice_get stack 0) (slice_get stack 1) (slice_get stack 2) stack
moved_by DupTwoUnderTwo stack =
    dup_two_under_two (slice_get stack 0) (slice_get stack 1) (slice_get stack 2) (slice_get stack 3)
    stack
moved_by Swap stack = swapped (slice_get stack 0) (slice_get stack 1) stack

-- ---- the choice

abbrev pub wide_at : List Value → ℕ → Option Bool
wide_at stack depth = option_map is_wide_value (slice_get stack depth)

abbrev pub one_narrow : Move → Option Bool → Option Move
one_narrow how (Some false) = Some how
one_narrow how top = None

abbrev pub two_narrow : Move → Option Bool → Option Bool → Option Move
two_narrow how (Some false) (Some false) = Some how
two_narrow how top next = None

abbrev pub one_or_two : Move → Move → Option Bool → Option Bool → Option Move
one_or_two wide narrow (Some true) next = Some wide
one_or_two wide narrow (Some false) (Some false) = Some narrow
one_or_two wide narrow top next = None

abbrev pub dup_x2_move : Option Bool → Option Bool → Option Bool → Option Move
dup_x2_move (Some false) (Some true) third = Some DupUnder
dup_x2_move (Some false) (Some false) (Some false) = Some DupUnderTwo
dup_x2_move top next third = None

abbrev pub dup2_x1_move : Option Bool → Option Bool → Option Bool → Option Move
dup2_x1_move (Some true) (Some false) third = Some DupUnder
dup2_x1_move (Some false) (Some false) (Some false) = Some DupTwoUnder
dup2_x1_move top next third = None

abbrev pub dup2_x2_move :
    Option Bool → Option Bool → Option Bool → Option Bool → Option Move
dup2_x2_move (Some true) (Some true) third fourth = Some DupUnder
dup2_x2_move (Some true) (Some false) (Some false) fourth = Some DupUnderTwo
dup2_x2_move (Some false) (Some false) (Some true) fourth = Some DupTwoUnder
dup2_x2_move (Some false) (Some false) (Some false) (Some false) = Some DupTwoUnderTwo
dup2_x2_move top next third fourth = None
