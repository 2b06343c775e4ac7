-- The blocks of written code by numbers of items, as tables have them.
use Rattle.std.specs.Prelude.{◌≡◌, ◌==◌, ◌+◌, ◌<◌, ℕ, Bool, false, List, [], ◌∷◌, get_or, length, map, slice_index_or, Option, Some, None, if◌then◌else◌}
use Rattle.std.specs.Borrow.{Bor}
use Rattle.std.specs.Option.{option_copied}
use Rattle.class_model.specs.declared.frame.Frame.{Frame}
use Rattle.flow_code.specs.FlatCode.{FlatCode}
use Rattle.making_code.specs.StateFrames.{state_frame}
use Rattle.plan_flow.specs.Written.Finish.{Finished}
use Rattle.plan_flow.specs.Written.WrittenCode.{Form, block_items}
use Rattle.stackmap_emit.specs.PlacedFrames.{frame_at}
use Rattle.written_frames.specs.BlockStarts.{start_of_block}
use Rattle.written_frames.specs.declared.starts.BlockStart.{BlockStart}

-- ---- numbers

-- the number of an item in the form that is laid out, by its number in the short one
abbrev pub form_number : Option (List ℕ) → ℕ → ℕ → ℕ
form_number None end number = number
form_number (Some numbers) end number = slice_index_or numbers number end

-- ---- tables

-- the last of these blocks that begins with the item of a number, else the one that was found before
abbrev pub last_block : (ℕ → ℕ) → ℕ → Option BlockStart → List BlockStart → Option BlockStart
last_block place number found [] = found
last_block place number found (start ∷ starts) =
    last_block place number (if place start.item == number then Some start else found) starts

-- a table has for each item what was found before the blocks that are left
abbrev pub AreFilled :
    (ℕ → ℕ) → ℕ → List BlockStart → List BlockStart → List (Option (Bor BlockStart)) → Type 0
AreFilled place end starts left blocks =
    (length blocks ≡ end)
    × ((number : ℕ)
    → number < end
    → last_block place number (option_copied (get_or blocks number None)) left
    ≡ last_block place number None starts)

-- a block is that of the instruction of a point
abbrev pub is_of : ℕ → Option ℕ → Bool
is_of point None = false
is_of point (Some of) = of == point

-- the item with which the first of these blocks begins that is the instruction's of a point, or another one where none is
abbrev pub first_item : (ℕ → ℕ) → ℕ → ℕ → List BlockStart → ℕ
first_item place other point [] = other
first_item place other point (start ∷ starts) =
    if is_of point start.of then place start.item else first_item place other point starts

-- the frame of a block, by the items of points
abbrev pub frame_by : FlatCode → (ℕ → ℕ) → Option BlockStart → Option Frame
frame_by flat place None = None
frame_by flat place (Some start) =
    Some (frame_at place (state_frame flat start.at start.state))

-- ---- what they are tables of

-- the starts of blocks in a form
abbrev pub starts_in : Form → ℕ → List Finished → List BlockStart
starts_in form number [] = []
starts_in form number (one ∷ others) =
    start_of_block number one ∷ starts_in form (number + length (block_items form one)) others

abbrev pub renumbered : (ℕ → ℕ) → BlockStart → BlockStart
renumbered place start = record start { item = place start.item }

-- in a form blocks start so
abbrev pub AreStarts : Form → (ℕ → ℕ) → List BlockStart → List Finished → Type 0
AreStarts form place starts blocks = map (renumbered place) starts ≡ starts_in form 0 blocks
