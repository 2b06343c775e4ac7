-- The bytes of emitted code (JVM Specification SE 8, 4.7.3, 6.5): one instruction after the other. How they are spelled is of two forms: in the short
-- one each jump has 16 bits, in the wide one each goto has 32. It is this project's profile.
use Rattle.std.specs.Prelude.{◌≡◌, ℕ, ◌+◌, List, [], ◌∷◌, ◌++◌, length, map, slice_index_or}
use Rattle.std.specs.List.{flat_map}
use Rattle.class_model.specs.Instructions.{CodeOf}
use Rattle.class_model.specs.Spelling.{u4}
use Rattle.class_model.specs.declared.class_file.Handler.{Handler}
use Rattle.class_model.specs.declared.instr.Instr.{Instr}
use Rattle.class_model.specs.declared.instr.Instr.TheVariants.{Goto}
use Rattle.class_model.specs.declared.instr.Placed.{Placed}
use Rattle.class_model.specs.declared.opcodes.TheConstants.{GOTO_W}
use Rattle.code_bytes.specs.Forms.{instr_bytes, offset_of}
use Rattle.member_link.specs.Targets.{with_targets}
use Rattle.code_layout.specs.declared.emitted.Catch.{Catch}
use Rattle.code_layout.specs.declared.emitted.EmitItem.{EmitItem}
use Rattle.code_layout.specs.declared.laid.Laid.{Laid}

-- ---- spellings

-- the bytes of an instruction at an offset
abbrev pub Spelled : Type 0
Spelled = ℕ → Instr → List ℕ

-- in the short form: the shortest
abbrev pub short_spelled : Spelled
short_spelled at instr = instr_bytes at instr

-- in the wide form: the same, but for a goto
abbrev pub wide_spelled : Spelled
wide_spelled at (Goto to) = GOTO_W ∷ u4 (offset_of at to)
wide_spelled at instr = instr_bytes at instr

-- ---- lengths and places

-- how many bytes an instruction takes at an offset: as many as if its targets were that offset, which 16 bits reach
abbrev pub len_of : Spelled → ℕ → Instr → ℕ
len_of spelled at instr = length (spelled at (with_targets (λ _. at) instr))

-- where items start that stand one after the other from an offset on, and where the last ends
abbrev pub starts_from : Spelled → ℕ → List EmitItem → List ℕ
starts_from spelled at [] = []
starts_from spelled at (item ∷ items) =
    at ∷ starts_from spelled (at + len_of spelled at item.instr) items

abbrev pub end_from : Spelled → ℕ → List EmitItem → ℕ
end_from spelled at [] = at
end_from spelled at (item ∷ items) = end_from spelled (at + len_of spelled at item.instr) items

abbrev pub item_starts : Spelled → List EmitItem → List ℕ
item_starts spelled items = starts_from spelled 0 items

-- the offset of the item of a number
abbrev pub start_in : List ℕ → ℕ → ℕ
start_in starts to = slice_index_or starts to 0

-- ---- the code

-- the instructions from an offset on, with offsets for targets
abbrev pub placed_from : Spelled → (ℕ → ℕ) → ℕ → List EmitItem → List Placed
placed_from spelled place at [] = []
placed_from spelled place at (item ∷ items) =
    let len = len_of spelled at item.instr in
    record { at = at; len = len; instr = with_targets place item.instr }
    ∷ placed_from spelled place (at + len) items

abbrev pub placed_items : Spelled → List EmitItem → List Placed
placed_items spelled items = placed_from spelled (start_in (item_starts spelled items)) 0 items

abbrev pub placed_bytes : Spelled → List Placed → List ℕ
placed_bytes spelled instrs = flat_map (λ placed. spelled placed.at placed.instr) instrs

-- ---- the exception table

-- an entry covers the instruction alone, and is aimed at the start of its handler
abbrev pub range_of : (ℕ → ℕ) → ℕ → ℕ → Catch → Handler
range_of place start end catch =
    record { start = start; end = end; at = place catch.to; catch_type = catch.catch_type }

-- the entries of items from an offset on, in order
abbrev pub ranges_from : Spelled → (ℕ → ℕ) → ℕ → List EmitItem → List Handler
ranges_from spelled place at [] = []
ranges_from spelled place at (item ∷ items) =
    let len = len_of spelled at item.instr in
    map (range_of place at (at + len)) item.catches ++ ranges_from spelled place (at + len) items

abbrev pub item_ranges : Spelled → List EmitItem → List Handler
item_ranges spelled items = ranges_from spelled (start_in (item_starts spelled items)) 0 items

-- how many entries the exception table has
abbrev pub table_len : List EmitItem → ℕ
table_len [] = 0
table_len (item ∷ items) = length item.catches + table_len items

-- ---- what a layout is

-- The bytes are a code of these instructions, each spelled so at its place; each range covers its instruction.
pub record IsLaid (spelled : Spelled) (items : List EmitItem) (laid : Laid) : Type 0 where
  pub starts : laid.starts ≡ item_starts spelled items
  pub bytes : laid.code ≡ placed_bytes spelled (placed_items spelled items)
  pub decodes : CodeOf laid.code (placed_items spelled items)
  pub handlers : laid.handlers ≡ item_ranges spelled items
