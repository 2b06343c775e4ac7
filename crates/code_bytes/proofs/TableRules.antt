-- Rules of the table of instructions: a test of each opcode, or a proof for each row.
use Rattle.std.proofs.Common.{◌≡◌, ℕ, zero, suc, ◌+◌, ◌-◌, ◌<◌, ◌≤◌, leb, Bool, true, ◌&&◌, List, [], ◌∷◌, Some, subst, inl, inr, arith}
use Rattle.std.specs.List.{AllByRecursion}
use Rattle.std.proofs.lemmas.Bool.{leb-true, and_parts, cases_Bool, cases_eq}
use Rattle.class_model.specs.Instructions.{Operands, operands_in}
use Rattle.class_model.specs.Tables.{Row}

-- what holds of each opcode of a row
abbrev pub RowHolds : (ℕ → Operands → Type 0) → Row Operands → Type 0
RowHolds P r = (opcode : ℕ) → r.low ≤ opcode → opcode ≤ r.high → P opcode (r.gives opcode)

pub in_rows : (P : ℕ → Operands → Type 0) (table : List (Row Operands)) → AllByRecursion (RowHolds P) table → (opcode : ℕ) (operands : Operands) → operands_in table opcode ≡ Some operands → P opcode operands
in_rows P [] holds opcode operands found = absurd (cc)
in_rows P (r ∷ others) holds opcode operands found =
    elim (cases_Bool (leb r.low opcode && leb opcode r.high)) [
      | inl here ↦
          let within = and_parts (leb r.low opcode) (leb opcode r.high) here in
          let is : Some (r.gives opcode) ≡ Some operands = rw here at found in
          let same : r.gives opcode ≡ operands = cc in
          subst (P opcode) same (holds.0 opcode (leb-true _ _ within.0) (leb-true _ _ within.1))
      | inr past ↦ in_rows P others holds.1 opcode operands (rw past at found)
    ]

-- a test of so many opcodes of a row, from one on
unfoldable pub tests_from : (ℕ → Operands → Bool) → (ℕ → Operands) → ℕ → ℕ → Bool
tests_from test made from zero = true
tests_from test made from (suc count) = test from (made from) && tests_from test made (suc from) count

unfoldable pub tests_rows : (ℕ → Operands → Bool) → List (Row Operands) → Bool
tests_rows test [] = true
tests_rows test (r ∷ others) = tests_from test r.gives r.low (suc r.high - r.low) && tests_rows test others

tested_at : (test : ℕ → Operands → Bool) (made : ℕ → Operands) (from count : ℕ) → tests_from test made from count ≡ true → (opcode : ℕ) → from ≤ opcode → opcode < from + count → test opcode (made opcode) ≡ true
unfolding tests_from
tested_at test made from zero tested opcode least most = absurd (omega arith)
tested_at test made from (suc count) tested opcode least most =
    let parts = and_parts _ _ tested in
    elim (cases_eq from opcode) [
      | inl e ↦ subst (λ o. test o (made o) ≡ true) e parts.0
      | inr other ↦ tested_at test made (suc from) count parts.1 opcode (omega arith) (omega arith)
    ]

tested_rows : (test : ℕ → Operands → Bool) (table : List (Row Operands)) → tests_rows test table ≡ true → AllByRecursion (RowHolds (λ opcode operands. test opcode operands ≡ true)) table
unfolding tests_rows
tested_rows test [] tested = tt
tested_rows test (r ∷ others) tested =
    let parts = and_parts _ _ tested in
    (λ opcode least most. tested_at test r.gives r.low (suc r.high - r.low) parts.0 opcode least (omega arith), tested_rows test others parts.1)

-- a test that was computed for all rows holds of each opcode that has operands
pub table_rule : (test : ℕ → Operands → Bool) (table : List (Row Operands)) → tests_rows test table ≡ true → (opcode : ℕ) (operands : Operands) → operands_in table opcode ≡ Some operands → test opcode operands ≡ true
table_rule test table tested = in_rows (λ opcode operands. test opcode operands ≡ true) table (tested_rows test table tested)
