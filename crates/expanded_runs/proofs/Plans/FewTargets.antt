-- An instruction has no more targets than its code has bytes, and one.
use Rattle.std.proofs.Common.{◌≡◌, ℕ, zero, suc, ◌+◌, ◌*◌, ◌≤◌, ℤ, leb, ltb, Bool, true, false, ◌&&◌, cond, List, [], ◌∷◌, drop, length, map, Option, Some, None, Result, Ok, Err, refl, ap, subst, ◌∙◌, inl, inr, arith, length-drop}
use Rattle.std.specs.Prelude.{◌==◌, ◌^◌, int_lt, nat_le, nat_lt}
use Rattle.std.specs.List.{AllByRecursion}
use Rattle.std.proofs.lemmas.Bool.{and_parts, cases_Bool, leb-true, ltb-false}
use Rattle.std.proofs.lemmas.List.{length-map}
use Rattle.class_model.specs.Checks.{Fault, fault}
use Rattle.class_model.specs.Instructions.{Operands, decoded, instr_at, instrs_at, keys_increase, lookup_switch_at, operands_in, pad_of, pairs_in, rows, s2_in, s4_in, sized, sized_if, span, table_switch_at, target_of, targets, targets_in, u1_in, u2_in, u4_in, wide_operands, wide_rows, with_operands, Alone, U1, U2, S1, S2, U1S1, ArrayCode, Dimensions, U2U1Zero, U2ZeroZero, Jump2, Jump4, TableSwitch, LookupSwitch, Wide}
use Rattle.class_model.specs.Laws.Cuts.{bind_ok, guard_false, same_done}
use Rattle.class_model.specs.Tables.{Row}
use Rattle.class_model.specs.declared.fault.FileRule.TheVariants as rules
use Rattle.class_model.specs.declared.instr.Instr.{Instr}
use Rattle.class_model.specs.declared.instr.Instr.TheVariants.{Iinc, Lookup, NewArray, NewMulti, Table}
use Rattle.class_model.specs.declared.instr.Pair.{Pair}
use Rattle.class_model.specs.declared.opcodes.TheConstants.{IINC}
use Rattle.class_model.specs.declared.instr.Placed.{Placed}

-- ---- the table

-- what these operands make has one target at most
abbrev AimsAtOne : Operands → Type 0
AimsAtOne (Alone instr) = length (targets instr) ≤ 1
AimsAtOne (U1 makes) = (n : ℕ) → length (targets (makes n)) ≤ 1
AimsAtOne (U2 makes) = (n : ℕ) → length (targets (makes n)) ≤ 1
AimsAtOne (S1 makes) = (n : ℤ) → length (targets (makes n)) ≤ 1
AimsAtOne (S2 makes) = (n : ℤ) → length (targets (makes n)) ≤ 1
AimsAtOne (U1S1 makes) = (n : ℕ) (m : ℤ) → length (targets (makes n m)) ≤ 1
AimsAtOne (U2U1Zero makes) = (n m : ℕ) → length (targets (makes n m)) ≤ 1
AimsAtOne (U2ZeroZero makes) = (n : ℕ) → length (targets (makes n)) ≤ 1
AimsAtOne (Jump2 makes) = (n : ℕ) → length (targets (makes n)) ≤ 1
AimsAtOne (Jump4 makes) = (n : ℕ) → length (targets (makes n)) ≤ 1
AimsAtOne operands = Unit {0}

abbrev RowAims : Row Operands → Type 0
RowAims r = (opcode : ℕ) → r.low ≤ opcode → opcode ≤ r.high → AimsAtOne (r.gives opcode)

in_rows : (table : List (Row Operands)) → AllByRecursion RowAims table → (opcode : ℕ) (operands : Operands) → operands_in table opcode ≡ Some operands → AimsAtOne operands
in_rows [] holds opcode operands found = absurd cc
in_rows (r ∷ others) holds opcode operands found =
    elim (cases_Bool (leb r.low opcode && leb opcode r.high)) [
      | inl here ↦
          let within = and_parts (leb r.low opcode) (leb opcode r.high) here in
          let is : Some (r.gives opcode) ≡ Some operands = rw here at found in
          let same : r.gives opcode ≡ operands = cc in
          subst AimsAtOne same (holds.0 opcode (leb-true _ _ within.0) (leb-true _ _ within.1))
      | inr past ↦ in_rows others holds.1 opcode operands (rw past at found)
    ]

rows_aim : AllByRecursion RowAims rows
rows_aim = (
  (λ opcode low high. omega arith),
  (
    (λ opcode low high. omega arith),
    (
      (λ opcode low high. omega arith),
      (
        (λ opcode low high. omega arith),
        (
          (λ opcode low high. omega arith),
          (
            (λ opcode low high. omega arith),
            (
              (λ opcode low high. omega arith),
              (
                (λ opcode low high. λ n. omega arith),
                (
                  (λ opcode low high. λ n. omega arith),
                  (
                    (λ opcode low high. λ n. omega arith),
                    (
                      (λ opcode low high. λ n. omega arith),
                      (
                        (λ opcode low high. λ n. omega arith),
                        (
                          (λ opcode low high. λ n. omega arith),
                          (
                            (λ opcode low high. omega arith),
                            (
                              (λ opcode low high. omega arith),
                              (
                                (λ opcode low high. λ n. omega arith),
                                (
                                  (λ opcode low high. omega arith),
                                  (
                                    (λ opcode low high. omega arith),
                                    (
                                      (λ opcode low high. omega arith),
                                      (
                                        (λ opcode low high. omega arith),
                                        (
                                          (λ opcode low high. omega arith),
                                          (
                                            (λ opcode low high. omega arith),
                                            (
                                              (λ opcode low high. omega arith),
                                              (
                                                (λ opcode low high. omega arith),
                                                (
                                                  (λ opcode low high. omega arith),
                                                  (
                                                    (λ opcode low high. omega arith),
                                                    (
                                                      (λ opcode low high. omega arith),
                                                      (
                                                        (λ opcode low high. omega arith),
                                                        (
                                                          (λ opcode low high. omega arith),
                                                          (
                                                            (λ opcode low high. omega arith),
                                                            (
                                                              (λ opcode low high. omega arith),
                                                              (
                                                                (λ opcode low high. omega arith),
                                                                (
                                                                  (λ opcode low high. λ n m. omega arith),
                                                                  (
                                                                    (λ opcode low high. omega arith),
                                                                    (
                                                                      (λ opcode low high. omega arith),
                                                                      (
                                                                        (λ opcode low high. omega arith),
                                                                        (
                                                                          (λ opcode low high. omega arith),
                                                                          (
                                                                            (λ opcode low high. omega arith),
                                                                            (
                                                                              (λ opcode low high. omega arith),
                                                                              (
                                                                                (λ opcode low high. λ n. omega arith),
                                                                                (
                                                                                  (λ opcode low high. λ n. omega arith),
                                                                                  (
                                                                                    (λ opcode low high. λ n. omega arith),
                                                                                    (
                                                                                      (λ opcode low high. λ n. omega arith),
                                                                                      (
                                                                                        (λ opcode low high. tt),
                                                                                        (
                                                                                          (λ opcode low high. tt),
                                                                                          (
                                                                                            (λ opcode low high. omega arith),
                                                                                            (
                                                                                              (λ opcode low high. omega arith),
                                                                                              (
                                                                                                (λ opcode low high. λ n. omega arith),
                                                                                                (
                                                                                                  (λ opcode low high. λ n. omega arith),
                                                                                                  (
                                                                                                    (λ opcode low high. λ n. omega arith),
                                                                                                    (
                                                                                                      (λ opcode low high. λ n. omega arith),
                                                                                                      (
                                                                                                        (λ opcode low high. λ n. omega arith),
                                                                                                        (
                                                                                                          (λ opcode low high. λ n m. omega arith),
                                                                                                          (
                                                                                                            (λ opcode low high. λ n. omega arith),
                                                                                                            (
                                                                                                              (λ opcode low high. λ n. omega arith),
                                                                                                              (
                                                                                                                (λ opcode low high. tt),
                                                                                                                (
                                                                                                                  (λ opcode low high. λ n. omega arith),
                                                                                                                  (
                                                                                                                    (λ opcode low high. omega arith),
                                                                                                                    (
                                                                                                                      (λ opcode low high. omega arith),
                                                                                                                      (
                                                                                                                        (λ opcode low high. λ n. omega arith),
                                                                                                                        (
                                                                                                                          (λ opcode low high. λ n. omega arith),
                                                                                                                          (
                                                                                                                            (λ opcode low high. omega arith),
                                                                                                                            (
                                                                                                                              (λ opcode low high. omega arith),
                                                                                                                              (
                                                                                                                                (λ opcode low high. tt),
                                                                                                                                (
                                                                                                                                  (λ opcode low high. tt),
                                                                                                                                  (
                                                                                                                                    (λ opcode low high. λ n. omega arith),
                                                                                                                                    ((λ opcode low high. λ n. omega arith), tt),
                                                                                                                                  ),
                                                                                                                                ),
                                                                                                                              ),
                                                                                                                            ),
                                                                                                                          ),
                                                                                                                        ),
                                                                                                                      ),
                                                                                                                    ),
                                                                                                                  ),
                                                                                                                ),
                                                                                                              ),
                                                                                                            ),
                                                                                                          ),
                                                                                                        ),
                                                                                                      ),
                                                                                                    ),
                                                                                                  ),
                                                                                                ),
                                                                                              ),
                                                                                            ),
                                                                                          ),
                                                                                        ),
                                                                                      ),
                                                                                    ),
                                                                                  ),
                                                                                ),
                                                                              ),
                                                                            ),
                                                                          ),
                                                                        ),
                                                                      ),
                                                                    ),
                                                                  ),
                                                                ),
                                                              ),
                                                            ),
                                                          ),
                                                        ),
                                                      ),
                                                    ),
                                                  ),
                                                ),
                                              ),
                                            ),
                                          ),
                                        ),
                                      ),
                                    ),
                                  ),
                                ),
                              ),
                            ),
                          ),
                        ),
                      ),
                    ),
                  ),
                ),
              ),
            ),
          ),
        ),
      ),
    ),
  ),
)

wide_rows_aim : AllByRecursion RowAims wide_rows
wide_rows_aim = (
  (λ opcode low high n. omega arith),
  ((λ opcode low high n. omega arith), tt),
)

-- ---- one instruction

pub many_targets : (at : ℕ) (bytes : List ℕ) (from count : ℕ) → length (targets_in at bytes from count) ≡ count
many_targets at bytes from zero = refl
many_targets at bytes from (suc count) = ap suc (many_targets at bytes (from + 4) count)

pub many_pairs : (at : ℕ) (bytes : List ℕ) (from count : ℕ) → length (pairs_in at bytes from count) ≡ count
many_pairs at bytes from zero = refl
many_pairs at bytes from (suc count) = ap suc (many_pairs at bytes (from + 8) count)

pub not_fault : {A : Type 0} (failing : Bool) (f : Fault) (r : Result A Fault) (y : A) → cond failing (Err f) r ≡ Ok y → (failing ≡ false) × (r ≡ Ok y)
not_fault true f r y e = absurd cc
not_fault false f r y e = (refl, e)

pub no_fault : {A : Type 0} (good : Bool) (f : Fault) (r : Result A Fault) (y : A) → cond good r (Err f) ≡ Ok y → (good ≡ true) × (r ≡ Ok y)
no_fault true f r y e = (refl, e)
no_fault false f r y e = absurd cc

abbrev IsFewIn : List ℕ → Instr × ℕ → Type 0
IsFewIn bytes read = length (targets read.0) ≤ 1 + length bytes

module _ (at : ℕ) (bytes : List ℕ) (read : Instr × ℕ) where
  sized_few : (len : ℕ) (instr : Instr) → length (targets instr) ≤ 1 → sized at bytes len instr ≡ Ok read → IsFewIn bytes read
  sized_few len instr few e =
      let g = guard_false (ltb (length bytes) len) (fault at rules.Operand) (instr, len) read e in
      subst (IsFewIn bytes) g.1 (omega (arith, few))

  sized_if_few : (allowed : Bool) (len : ℕ) (instr : Instr) → length (targets instr) ≤ 1 → sized_if allowed at bytes len instr ≡ Ok read → IsFewIn bytes read
  sized_if_few allowed len instr few e =
      let long = not_fault (ltb (length bytes) len) (fault at rules.Operand) _ read e in
      let is : Ok (instr, len) ≡ Ok read = (no_fault allowed (fault at rules.Operand) (Ok (instr, len)) read long.1).1 in
      subst (IsFewIn bytes) (same_done (instr, len) read is) (omega (arith, few))

  table_few : table_switch_at at bytes ≡ Ok read → IsFewIn bytes read
  table_few e =
      let start = 1 + pad_of at in
      let count = span (s4_in bytes (start + 4)) (s4_in bytes (start + 8)) in
      let operand = fault at rules.Operand in
      let one = not_fault (nat_lt (length bytes) (start + 12)) operand _ read e in
      let two = not_fault (int_lt (s4_in bytes (start + 8)) (s4_in bytes (start + 4))) operand _ read one.1 in
      let three = not_fault (nat_lt (length bytes) (start + 12 + 4 * count)) operand _ read two.1 in
      let within = ltb-false _ _ three.0 in
      let list = targets_in at bytes (start + 12) count in
      let many : length list ≡ count = many_targets at bytes (start + 12) count in
      let is = same_done (Table (s4_in bytes (start + 4)) (target_of at (s4_in bytes start)) list, start + 12 + 4 * count) read three.1 in
      subst (IsFewIn bytes) is (few_count (length list) count start many within)
    where
      few_count : (long count start : ℕ) → long ≡ count → start + 12 + 4 * count ≤ length bytes → suc long ≤ 1 + length bytes
      few_count long count start same within = omega (arith, same, within)

  lookup_few : lookup_switch_at at bytes ≡ Ok read → IsFewIn bytes read
  lookup_few e =
      let start = 1 + pad_of at in
      let count = u4_in bytes (start + 4) in
      let pairs = pairs_in at bytes (start + 8) count in
      let operand = fault at rules.Operand in
      let one = not_fault (nat_lt (length bytes) (start + 8)) operand _ read e in
      let two = not_fault (nat_le (2 ^ 31) count) operand _ read one.1 in
      let three = not_fault (nat_lt (length bytes) (start + 8 + 8 * count)) operand _ read two.1 in
      let within = ltb-false _ _ three.0 in
      let four : Ok (Lookup (target_of at (s4_in bytes start)) pairs, start + 8 + 8 * count) ≡ Ok read = (no_fault (keys_increase pairs) operand _ read three.1).1 in
      let many : length pairs ≡ count = many_pairs at bytes (start + 8) count in
      let is = same_done (Lookup (target_of at (s4_in bytes start)) pairs, start + 8 + 8 * count) read four in
      subst (IsFewIn bytes) is (few_count (length (map (λ (p : Pair). p.to) pairs)) count start (length-map pairs (λ (p : Pair). p.to) ∙ many) within)
    where
      few_count : (long count start : ℕ) → long ≡ count → start + 8 + 8 * count ≤ length bytes → suc long ≤ 1 + length bytes
      few_count long count start same within = omega (arith, same, within)

  wide_few : (operands : Option Operands) → ((given : Operands) → operands ≡ Some given → AimsAtOne given) → wide_operands at bytes operands ≡ Ok read → IsFewIn bytes read
  wide_few (Some (U2 makes)) aims e = sized_few 4 _ (aims (U2 makes) refl _) e
  wide_few operands aims e = sized_few 6 (Iinc (u2_in bytes 2) (s2_in bytes 4)) (omega arith) (no_fault (u1_in bytes 1 == IINC) (fault at rules.Opcode) _ read e).1

  operands_few : (operands : Operands) → AimsAtOne operands → with_operands at bytes (Some operands) ≡ Ok read → IsFewIn bytes read
  operands_few (Alone instr) aims e = subst (IsFewIn bytes) (same_done (instr, 1) read e) (omega (arith, aims))
  operands_few (U1 makes) aims e = sized_few 2 _ (aims _) e
  operands_few (U2 makes) aims e = sized_few 3 _ (aims _) e
  operands_few (S1 makes) aims e = sized_few 2 _ (aims _) e
  operands_few (S2 makes) aims e = sized_few 3 _ (aims _) e
  operands_few (U1S1 makes) aims e = sized_few 3 _ (aims _ _) e
  operands_few ArrayCode aims e = sized_if_few _ 2 (NewArray _) (omega arith) e
  operands_few Dimensions aims e = sized_if_few _ 4 (NewMulti _ _) (omega arith) e
  operands_few (U2U1Zero makes) aims e = sized_if_few _ 5 _ (aims _ _) e
  operands_few (U2ZeroZero makes) aims e = sized_if_few _ 5 _ (aims _) e
  operands_few (Jump2 makes) aims e = sized_few 3 _ (aims _) e
  operands_few (Jump4 makes) aims e = sized_few 5 _ (aims _) e
  operands_few TableSwitch aims e = table_few e
  operands_few LookupSwitch aims e = lookup_few e
  operands_few Wide aims e =
      let long = not_fault (nat_lt (length bytes) 2) (fault at rules.Operand) _ read e in
      wide_few (operands_in wide_rows (u1_in bytes 1)) (λ given is. in_rows wide_rows wide_rows_aim (u1_in bytes 1) given is) long.1

  instr_few : instr_at at bytes ≡ Ok read → IsFewIn bytes read
  unfolding instr_at
  instr_few e = by (operands_in rows (u1_in bytes 0)) (λ given is. in_rows rows rows_aim (u1_in bytes 0) given is) e where
    by : (operands : Option Operands) → ((given : Operands) → operands ≡ Some given → AimsAtOne given) → with_operands at bytes operands ≡ Ok read → IsFewIn bytes read
    by None aims e = absurd cc
    by (Some operands) aims e = operands_few operands (aims operands refl) e

-- ---- all

abbrev pub AimFew : ℕ → List Placed → Type 0
AimFew most instrs = AllByRecursion (λ (placed : Placed). length (targets placed.instr) ≤ 1 + most) instrs

instrs_few : (most left at : ℕ) (bytes : List ℕ) (instrs : List Placed) → length bytes ≤ most → instrs_at left at bytes ≡ Ok instrs → AimFew most instrs
unfolding instrs_at
instrs_few most zero at [] instrs less e = subst (AimFew most) (same_done [] instrs e) tt
instrs_few most zero at (byte ∷ bytes) instrs less e = subst (AimFew most) (same_done [] instrs e) tt
instrs_few most (suc left) at [] instrs less e = subst (AimFew most) (same_done [] instrs e) tt
instrs_few most (suc left) at (byte ∷ bytes) instrs less e =
    let read = bind_ok (instr_at at (byte ∷ bytes)) _ instrs e in
    let others = bind_ok (instrs_at left (at + read.0.1) (drop read.0.1 (byte ∷ bytes))) _ instrs read.2 in
    let few = instr_few at (byte ∷ bytes) read.0 read.1 in
    let shorter = length-drop read.0.1 (byte ∷ bytes) in
    let first : Placed = record { at = at; len = read.0.1; instr = read.0.0 } in
    subst (AimFew most) (same_done (first ∷ others.0) instrs others.2)
    (omega (arith, few, less), instrs_few most left (at + read.0.1) (drop read.0.1 (byte ∷ bytes)) others.0 (omega (arith, shorter, less)) others.1)

pub targets_few : (code : List ℕ) (instrs : List Placed) → decoded code ≡ Ok instrs → AimFew (length code) instrs
targets_few code instrs e = instrs_few (length code) (length code) 0 code instrs (omega arith) e
