-- The numbers of dimensions of the arrays that the instructions of bytes make, one at a time: each is one of which a property is known.
use Rattle.std.proofs.Common.{◌≡◌, ◌+◌, ◌&&◌, ◌==◌, refl, IfSome, ℕ, ℤ, zero, suc, Bool, true, false, List, [], ◌∷◌, length, drop, Option, Some, None, Result, Ok, Err, if◌then◌else◌, arith}
use Rattle.std.specs.Prelude.{nat_le, nat_lt}
use Rattle.std.specs.List.{AllByRecursion}
use Rattle.class_model.specs.Checks.{Fault, fault, ◌>>=◌}
use Rattle.class_model.specs.Instructions.{Read, Operands, Alone, U1, U2, S1, S2, U1S1, ArrayCode, Dimensions, U2U1Zero, U2ZeroZero, Jump2, Jump4, TableSwitch, LookupSwitch, Wide, rows, wide_rows, operands_in, with_operands, wide_operands, table_switch_at, lookup_switch_at, sized, sized_if, is_array_code, has_dimensions, target_of, instr_at, instrs_at, u1_in, u2_in, s1_in, s2_in, s4_in}
use Rattle.class_model.specs.Tables.{Row}
use Rattle.class_model.specs.declared.fault.FileRule.TheVariants as rules
use Rattle.class_model.specs.declared.instr.Instr.{Instr}
use Rattle.class_model.specs.declared.instr.Instr.TheVariants as instrs
use Rattle.class_model.specs.declared.instr.Placed.{Placed}
use Rattle.class_model.specs.declared.opcodes.TheConstants.{IINC}

module _ (Q : ℕ → Type 0) where
  abbrev pub DimensionsIn : Instr → Type 0
  DimensionsIn (instrs.NewMulti index dimensions) = Q dimensions
  DimensionsIn instr = Unit {0}

  abbrev pub ReadHas : Read → Type 0
  ReadHas (Ok read) = DimensionsIn read.0
  ReadHas (Err fault) = Unit {0}

  -- what is made of operands
  abbrev pub MakesOnly : Operands → Type 0
  MakesOnly (Alone instr) = DimensionsIn instr
  MakesOnly (U1 makes) = (n : ℕ) → DimensionsIn (makes n)
  MakesOnly (U2 makes) = (n : ℕ) → DimensionsIn (makes n)
  MakesOnly (S1 makes) = (n : ℤ) → DimensionsIn (makes n)
  MakesOnly (S2 makes) = (n : ℤ) → DimensionsIn (makes n)
  MakesOnly (U1S1 makes) = (n : ℕ) (k : ℤ) → DimensionsIn (makes n k)
  MakesOnly ArrayCode = Unit {0}
  MakesOnly Dimensions = Unit {0}
  MakesOnly (U2U1Zero makes) = (n k : ℕ) → DimensionsIn (makes n k)
  MakesOnly (U2ZeroZero makes) = (n : ℕ) → DimensionsIn (makes n)
  MakesOnly (Jump2 makes) = (n : ℕ) → DimensionsIn (makes n)
  MakesOnly (Jump4 makes) = (n : ℕ) → DimensionsIn (makes n)
  MakesOnly TableSwitch = Unit {0}
  MakesOnly LookupSwitch = Unit {0}
  MakesOnly Wide = Unit {0}

  if_has : (b : Bool) (c d : Read) → ReadHas c → ReadHas d → ReadHas (if b then c else d)
  if_has true c d p q = p
  if_has false c d p q = q

  sized_has : (at : ℕ) (bytes : List ℕ) (len : ℕ) (instr : Instr) → DimensionsIn instr → ReadHas (sized at bytes len instr)
  sized_has at bytes len instr has = if_has (nat_lt (length bytes) len) (Err (fault at rules.Operand)) (Ok (instr, len)) tt has

  sized_if_has : (allowed : Bool) (at : ℕ) (bytes : List ℕ) (len : ℕ) (instr : Instr) → DimensionsIn instr → ReadHas (sized_if allowed at bytes len instr)
  sized_if_has allowed at bytes len instr has =
      if_has (nat_lt (length bytes) len) (Err (fault at rules.Operand)) (if allowed then Ok (instr, len) else Err (fault at rules.Operand)) tt
      (if_has allowed (Ok (instr, len)) (Err (fault at rules.Operand)) has tt)

  -- ---- rows

  -- multianewarray alone has a number of dimensions
  abbrev pub RowMakes : Row Operands → Type 0
  RowMakes row = (opcode : ℕ) → MakesOnly (row.gives opcode)

  abbrev pub IfMakes : Option Operands → Type 0
  IfMakes operands = IfSome operands MakesOnly

  row_has : (b : Bool) (row : Row Operands) (opcode : ℕ) (others : Option Operands) → RowMakes row → IfMakes others → IfMakes (if b then Some (row.gives opcode) else others)
  row_has true row opcode others has rest = has opcode
  row_has false row opcode others has rest = rest

  found_has : (table : List (Row Operands)) → AllByRecursion RowMakes table → (opcode : ℕ) → IfMakes (operands_in table opcode)
  found_has [] all opcode = tt
  found_has (row ∷ others) all opcode =
      row_has (nat_le row.low opcode && nat_le opcode row.high) row opcode (operands_in others opcode) all.0 (found_has others all.1 opcode)

  wide_rows_has : AllByRecursion RowMakes wide_rows
  wide_rows_has = ((λ o n. tt), ((λ o n. tt), tt))

  rows_from_64 : AllByRecursion RowMakes (drop 64 rows)
  rows_from_64 = ((λ o. tt), ((λ o n. tt), ((λ o n. tt), tt)))

  rows_from_56 : AllByRecursion RowMakes (drop 56 rows)
  rows_from_56 = ((λ o n. tt), ((λ o. tt), ((λ o. tt), ((λ o n. tt), ((λ o n. tt), ((λ o. tt), ((λ o. tt), ((λ o. tt), rows_from_64))))))))

  rows_from_48 : AllByRecursion RowMakes (drop 48 rows)
  rows_from_48 = ((λ o n. tt), ((λ o n. tt), ((λ o n. tt), ((λ o n. tt), ((λ o n k. tt), ((λ o n. tt), ((λ o n. tt), ((λ o. tt), rows_from_56))))))))

  rows_from_40 : AllByRecursion RowMakes (drop 40 rows)
  rows_from_40 = ((λ o n. tt), ((λ o n. tt), ((λ o n. tt), ((λ o. tt), ((λ o. tt), ((λ o. tt), ((λ o. tt), ((λ o n. tt), rows_from_48))))))))

  rows_from_32 : AllByRecursion RowMakes (drop 32 rows)
  rows_from_32 = ((λ o n k. tt), ((λ o. tt), ((λ o. tt), ((λ o. tt), ((λ o. tt), ((λ o. tt), ((λ o. tt), ((λ o n. tt), rows_from_40))))))))

  rows_from_24 : AllByRecursion RowMakes (drop 24 rows)
  rows_from_24 = ((λ o. tt), ((λ o. tt), ((λ o. tt), ((λ o. tt), ((λ o. tt), ((λ o. tt), ((λ o. tt), ((λ o. tt), rows_from_32))))))))

  rows_from_16 : AllByRecursion RowMakes (drop 16 rows)
  rows_from_16 = ((λ o. tt), ((λ o. tt), ((λ o. tt), ((λ o. tt), ((λ o. tt), ((λ o. tt), ((λ o. tt), ((λ o. tt), rows_from_24))))))))

  rows_from_8 : AllByRecursion RowMakes (drop 8 rows)
  rows_from_8 = ((λ o n. tt), ((λ o n. tt), ((λ o n. tt), ((λ o n. tt), ((λ o n. tt), ((λ o. tt), ((λ o. tt), ((λ o n. tt), rows_from_16))))))))

  rows_has : AllByRecursion RowMakes rows
  rows_has = ((λ o. tt), ((λ o. tt), ((λ o. tt), ((λ o. tt), ((λ o. tt), ((λ o. tt), ((λ o. tt), ((λ o n. tt), rows_from_8))))))))

  -- ---- lists

  abbrev pub AllHave : List Placed → Type 0
  AllHave placed = AllByRecursion (λ (p : Placed). DimensionsIn p.instr) placed

  abbrev pub ListHas : Result (List Placed) Fault → Type 0
  ListHas (Ok placed) = AllHave placed
  ListHas (Err fault) = Unit {0}

  bind_has : (r : Read) (f : Instr × ℕ → Result (List Placed) Fault) → ReadHas r → ((read : Instr × ℕ) → DimensionsIn read.0 → ListHas (f read)) → ListHas (r >>= f)
  bind_has (Ok read) f has next = next read has
  bind_has (Err fault) f has next = tt

  behind_has : (p : Placed) (r : Result (List Placed) Fault) → DimensionsIn p.instr → ListHas r → ListHas (r >>= λ others. Ok (p ∷ others))
  behind_has p (Ok others) has all = (has, all)
  behind_has p (Err fault) has all = tt

  -- ---- what is read

  module _ (A : List ℕ → Type 0)
      (kept : (n : ℕ) (bytes : List ℕ) → A bytes → A (drop n bytes))
      (dimensions : (bytes : List ℕ) → A bytes → has_dimensions (u1_in bytes 3) ≡ true → Q (u1_in bytes 3)) where
    wide_has : (at : ℕ) (bytes : List ℕ) (o : Option Operands) → IfMakes o → ReadHas (wide_operands at bytes o)
    wide_has at bytes (Some (U2 makes)) has = sized_has at bytes 4 (makes (u2_in bytes 2)) (has (u2_in bytes 2))
    wide_has at bytes o has =
        if_has (u1_in bytes 1 == IINC) (sized at bytes 6 (instrs.Iinc (u2_in bytes 2) (s2_in bytes 4))) (Err (fault at rules.Opcode)) (sized_has at bytes 6 (instrs.Iinc (u2_in bytes 2) (s2_in bytes 4)) tt) tt

    table_has : (at : ℕ) (bytes : List ℕ) → ReadHas (table_switch_at at bytes)
    table_has at bytes = grind arith

    lookup_has : (at : ℕ) (bytes : List ℕ) → ReadHas (lookup_switch_at at bytes)
    lookup_has at bytes = grind arith

    multi_has : (at : ℕ) (bytes : List ℕ) → A bytes → (some : Bool) → has_dimensions (u1_in bytes 3) ≡ some
        → ReadHas (if some then Ok (instrs.NewMulti (u2_in bytes 1) (u1_in bytes 3), 4) else Err (fault at rules.Operand))
    multi_has at bytes are true is = dimensions bytes are is
    multi_has at bytes are false is = tt

    operands_has : (at : ℕ) (bytes : List ℕ) → A bytes → (o : Option Operands) → IfMakes o → ReadHas (with_operands at bytes o)
    operands_has at bytes are None has = tt
    operands_has at bytes are (Some (Alone instr)) has = has
    operands_has at bytes are (Some (U1 makes)) has = sized_has at bytes 2 (makes (u1_in bytes 1)) (has (u1_in bytes 1))
    operands_has at bytes are (Some ArrayCode) has =
        sized_if_has (is_array_code (u1_in bytes 1)) at bytes 2 (instrs.NewArray (u1_in bytes 1)) tt
    operands_has at bytes are (Some (U2 makes)) has = sized_has at bytes 3 (makes (u2_in bytes 1)) (has (u2_in bytes 1))
    operands_has at bytes are (Some (S1 makes)) has = sized_has at bytes 2 (makes (s1_in bytes 1)) (has (s1_in bytes 1))
    operands_has at bytes are (Some (S2 makes)) has = sized_has at bytes 3 (makes (s2_in bytes 1)) (has (s2_in bytes 1))
    operands_has at bytes are (Some (U1S1 makes)) has = sized_has at bytes 3 (makes (u1_in bytes 1) (s1_in bytes 2)) (has (u1_in bytes 1) (s1_in bytes 2))
    operands_has at bytes are (Some Dimensions) has =
        if_has (nat_lt (length bytes) 4) (Err (fault at rules.Operand))
        (if has_dimensions (u1_in bytes 3) then Ok (instrs.NewMulti (u2_in bytes 1) (u1_in bytes 3), 4) else Err (fault at rules.Operand)) tt
        (multi_has at bytes are (has_dimensions (u1_in bytes 3)) refl)
    operands_has at bytes are (Some (U2U1Zero makes)) has = sized_if_has (u1_in bytes 4 == 0) at bytes 5 (makes (u2_in bytes 1) (u1_in bytes 3)) (has (u2_in bytes 1) (u1_in bytes 3))
    operands_has at bytes are (Some (U2ZeroZero makes)) has = sized_if_has (u2_in bytes 3 == 0) at bytes 5 (makes (u2_in bytes 1)) (has (u2_in bytes 1))
    operands_has at bytes are (Some (Jump2 makes)) has = sized_has at bytes 3 (makes (target_of at (s2_in bytes 1))) (has (target_of at (s2_in bytes 1)))
    operands_has at bytes are (Some (Jump4 makes)) has = sized_has at bytes 5 (makes (target_of at (s4_in bytes 1))) (has (target_of at (s4_in bytes 1)))
    operands_has at bytes are (Some TableSwitch) has = table_has at bytes
    operands_has at bytes are (Some LookupSwitch) has = lookup_has at bytes
    operands_has at bytes are (Some Wide) has =
        if_has (nat_lt (length bytes) 2) (Err (fault at rules.Operand)) (wide_operands at bytes (operands_in wide_rows (u1_in bytes 1))) tt
        (wide_has at bytes (operands_in wide_rows (u1_in bytes 1)) (found_has wide_rows wide_rows_has (u1_in bytes 1)))

    instr_has : (at : ℕ) (bytes : List ℕ) → A bytes → ReadHas (instr_at at bytes)
    unfolding instr_at
    instr_has at bytes are = operands_has at bytes are (operands_in rows (u1_in bytes 0)) (found_has rows rows_has (u1_in bytes 0))

    pub instrs_has : (left at : ℕ) (bytes : List ℕ) → A bytes → ListHas (instrs_at left at bytes)
    unfolding instrs_at
    instrs_has left at [] are = tt
    instrs_has zero at (byte ∷ bytes) are = tt
    instrs_has (suc left) at (byte ∷ bytes) are =
        bind_has (instr_at at (byte ∷ bytes)) _ (instr_has at (byte ∷ bytes) are)
        (λ read has. behind_has _ (instrs_at left (at + read.1) (drop read.1 (byte ∷ bytes))) has (instrs_has left (at + read.1) _ (kept read.1 (byte ∷ bytes) are)))
