-- All spellings of an instruction (JVM Specification SE 8, 6.5): an opcode of the table, and operands that make the instruction. So
-- goto and goto_w spell a jump, ldc and ldc_w a constant, and the short, the indexed and the wide form a load.
use Rattle.std.specs.Prelude.{◌≡◌, ◌⊎◌, ℕ, ◌^◌, ◌<◌, ℤ, int_lt, true, false, List, [], ◌∷◌, ◌++◌, length, map, Some}
use Rattle.std.specs.Int.{w8, w16, w32, cast_signed}
use Rattle.std.specs.List.{flat_map, AllByRecursion}
use Rattle.class_model.specs.Spelling.{u2, u4}
use Rattle.class_model.specs.Instructions.{Operands, Alone, U1, U2, S1, S2, U1S1, ArrayCode, Dimensions, U2U1Zero, U2ZeroZero, Jump2, Jump4, TableSwitch, LookupSwitch, Wide, operands_in, rows, wide_rows, is_array_code, has_dimensions, target_of, pad_of, span, keys_increase}
use Rattle.class_model.specs.declared.instr.Pair.{Pair}
use Rattle.class_model.specs.declared.instr.Instr.{Instr}
use Rattle.class_model.specs.declared.instr.Instr.TheVariants.{Iinc, NewArray, NewMulti, Table, Lookup}
use Rattle.class_model.specs.declared.opcodes.TheConstants.{IINC}
use Rattle.code_bytes.specs.Numbers.{IsU1, IsU2}

abbrev pub IsU4 : ℕ → Type 0
IsU4 number = number < 2 ^ 32

abbrev pub s4 : ℕ → ℤ
s4 bits = cast_signed w32 bits

-- a target, by the bits of its offset
abbrev pub to_of : ℕ → ℕ → ℕ
to_of at bits = target_of at (s4 bits)

-- the operands of a tableswitch, as bits
pub record ReadsTable (at : ℕ) (tail : List ℕ) (instr : Instr) : Type 0 where
  pub pads : List ℕ
  pub other : ℕ
  pub low : ℕ
  pub high : ℕ
  pub offsets : List ℕ
  pub pads_len : length pads ≡ pad_of at
  pub other_fits : IsU4 other
  pub low_fits : IsU4 low
  pub high_fits : IsU4 high
  pub offsets_fit : AllByRecursion IsU4 offsets
  pub ordered : int_lt (s4 high) (s4 low) ≡ false
  pub counted : span (s4 low) (s4 high) ≡ length offsets
  pub tail_is : tail ≡ pads ++ (u4 other ++ (u4 low ++ (u4 high ++ flat_map u4 offsets)))
  pub instr_is : instr ≡ Table (s4 low) (to_of at other) (map (to_of at) offsets)

-- a key and an offset, as bits
abbrev pub entry_bytes : ℕ × ℕ → List ℕ
entry_bytes entry = u4 entry.0 ++ u4 entry.1

abbrev pub FitsEntry : ℕ × ℕ → Type 0
FitsEntry entry = IsU4 entry.0 × IsU4 entry.1

abbrev pub pair_of : ℕ → ℕ × ℕ → Pair
pair_of at entry = record { key = s4 entry.0; to = to_of at entry.1 }

-- the operands of a lookupswitch, as bits
pub record ReadsLookup (at : ℕ) (tail : List ℕ) (instr : Instr) : Type 0 where
  pub pads : List ℕ
  pub other : ℕ
  pub entries : List (ℕ × ℕ)
  pub pads_len : length pads ≡ pad_of at
  pub other_fits : IsU4 other
  pub entries_fit : AllByRecursion FitsEntry entries
  pub few : length entries < 2 ^ 31
  pub ordered : keys_increase (map (pair_of at) entries) ≡ true
  pub tail_is : tail ≡ pads ++ (u4 other ++ (u4 (length entries) ++ flat_map entry_bytes entries))
  pub instr_is : instr ≡ Lookup (to_of at other) (map (pair_of at) entries)

-- a load or store behind a wide
pub record ReadsWide (tail : List ℕ) (instr : Instr) : Type 0 where
  pub opcode : ℕ
  pub makes : ℕ → Instr
  pub index : ℕ
  pub found : operands_in wide_rows opcode ≡ Some (U2 makes)
  pub index_fits : IsU2 index
  pub tail_is : tail ≡ opcode ∷ u2 index
  pub instr_is : instr ≡ makes index

-- an iinc behind a wide
pub record ReadsWideIinc (tail : List ℕ) (instr : Instr) : Type 0 where
  pub index : ℕ
  pub bits : ℕ
  pub index_fits : IsU2 index
  pub bits_fit : IsU2 bits
  pub tail_is : tail ≡ IINC ∷ (u2 index ++ u2 bits)
  pub instr_is : instr ≡ Iinc index (cast_signed w16 bits)

-- one number, of which the bytes and the instruction are made
pub record ReadsOne (Fits : ℕ → Type 0) (bytes : ℕ → List ℕ) (makes : ℕ → Instr)
    (tail : List ℕ) (instr : Instr) : Type 0 where
  pub number : ℕ
  pub fits : Fits number
  pub tail_is : tail ≡ bytes number
  pub instr_is : instr ≡ makes number

-- two numbers
pub record ReadsTwo (Fits : ℕ → ℕ → Type 0) (bytes : ℕ → ℕ → List ℕ) (makes : ℕ → ℕ → Instr)
    (tail : List ℕ) (instr : Instr) : Type 0 where
  pub first : ℕ
  pub second : ℕ
  pub fits : Fits first second
  pub tail_is : tail ≡ bytes first second
  pub instr_is : instr ≡ makes first second

abbrev pub u1 : ℕ → List ℕ
u1 number = number ∷ []

-- These operands, which are the tail, make this instruction.
abbrev pub Reads : ℕ → Operands → List ℕ → Instr → Type 0
Reads at (Alone made) tail instr = (tail ≡ []) × (instr ≡ made)
Reads at (U1 makes) tail instr = ReadsOne IsU1 u1 makes tail instr
Reads at (U2 makes) tail instr = ReadsOne IsU2 u2 makes tail instr
Reads at (S1 makes) tail instr = ReadsOne IsU1 u1 (λ n. makes (cast_signed w8 n)) tail instr
Reads at (S2 makes) tail instr = ReadsOne IsU2 u2 (λ n. makes (cast_signed w16 n)) tail instr
Reads at (U1S1 makes) tail instr =
    ReadsTwo
    (λ n m. IsU1 n × IsU1 m)
    (λ n m. n ∷ m ∷ [])
    (λ n m. makes n (cast_signed w8 m)) tail instr
Reads at ArrayCode tail instr =
    ReadsOne (λ n. IsU1 n × (is_array_code n ≡ true)) u1 NewArray tail instr
Reads at Dimensions tail instr =
    ReadsTwo
    (λ n m. IsU2 n × IsU1 m × (has_dimensions m ≡ true))
    (λ n m. u2 n ++ m ∷ [])
    NewMulti tail instr
Reads at (U2U1Zero makes) tail instr =
    ReadsTwo (λ n m. IsU2 n × IsU1 m) (λ n m. u2 n ++ m ∷ 0 ∷ []) makes tail instr
Reads at (U2ZeroZero makes) tail instr = ReadsOne IsU2 (λ n. u2 n ++ 0 ∷ 0 ∷ []) makes tail instr
Reads at (Jump2 makes) tail instr =
    ReadsOne IsU2 u2 (λ n. makes (target_of at (cast_signed w16 n))) tail instr
Reads at (Jump4 makes) tail instr = ReadsOne IsU4 u4 (λ n. makes (to_of at n)) tail instr
Reads at TableSwitch tail instr = ReadsTable at tail instr
Reads at LookupSwitch tail instr = ReadsLookup at tail instr
Reads at Wide tail instr = ReadsWide tail instr ⊎ ReadsWideIinc tail instr

-- The bytes are an opcode and operands that make the instruction at an offset.
pub record SpellingOf (at : ℕ) (instr : Instr) (bytes : List ℕ) : Type 0 where
  pub opcode : ℕ
  pub operands : Operands
  pub tail : List ℕ
  pub found : operands_in rows opcode ≡ Some operands
  pub reads : Reads at operands tail instr
  pub is : bytes ≡ opcode ∷ tail
