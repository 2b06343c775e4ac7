-- Where the numbers in front are there, the targets are there or not.
use Rattle.std.proofs.Common.{arith, rules}
use Rattle.std.specs.Prelude.{FitsSigned}
use Rattle.std.specs.Int.{w32}
use Rattle.std.proofs.lemmas.Int.{to_z-of_z}
use Rattle.std.proofs.lemmas.Result.{err_from_is_err_and}
use Rattle.code_bytes.proofs.SwitchForms.{TableHead, read_short, table_cut, table_unordered, table_short, table_read}
use Rattle.code_bytes.proofs.switches.table_switch.Goals as goal
use Rattle.code_bytes.proofs.switches.table_switch.Goals.{After-span-count}

head : (c : After-span-count) → TableHead c.args.source.now.at c.args.source.now.bytes.now c.first_operand-start.result c.in_ok-other.other c.in_ok-low.low c.in_ok-high.high c.span-count.result
head c =
    let low : FitsSigned w32 c.in_ok-low.low = search rules in
    let high : FitsSigned w32 c.in_ok-high.high = search rules in
    record {
      start_is = c.first_operand-start.ensures.value;
      other_is = c.in_ok-other.ensures;
      low_is = c.in_ok-low.ensures;
      high_is = c.in_ok-high.ensures;
      ordered = simp to_z-of_z at c.if-high-low.false;
      count_is = simp to_z-of_z at c.span-count.ensures.value;
    }

pub returns-in_err-words : goal.returns-in_err-words
returns-in_err-words c =
    let err = err_from_is_err_and c.from_residual-in_err-words.result c.from_residual-in_err-words.ensures.1 in
    rw (err.1, err.2, c.in_err-words.ensures.1) (table_short _ _ _ _ _ _ _ (head (goal.at.returns-in_err-words c).After-span-count) c.in_err-words.ensures.0)

pub returns : goal.returns
returns c =
    let low : FitsSigned w32 c.in_ok-low.low = search rules in
    rw (c.in_ok-targets.ensures) (simp to_z-of_z (table_read _ _ _ _ _ _ _ _ (head (goal.at.returns c).After-span-count) c.in_ok-words.ensures.0 c.in_ok-words.ensures.1))

pub returns-in_err-other : goal.returns-in_err-other
returns-in_err-other c =
    let err = err_from_is_err_and c.from_residual.result c.from_residual.ensures.1 in
    rw (err.1, err.2) (read_short _ _ _ _ _ (λ short. table_cut _ _ (omega (arith, c.first_operand-start.ensures.value))) _ c.in_err-other.ensures)

pub returns-in_err-low : goal.returns-in_err-low
returns-in_err-low c =
    let err = err_from_is_err_and c.from_residual-in_err-low.result c.from_residual-in_err-low.ensures.1 in
    rw (err.1, err.2) (read_short _ _ _ _ _ (λ short. table_cut _ _ (omega (arith, c.first_operand-start.ensures.value))) _ c.in_err-low.ensures)

pub returns-in_err-high : goal.returns-in_err-high
returns-in_err-high c =
    let err = err_from_is_err_and c.from_residual-in_err-high.result c.from_residual-in_err-high.ensures.1 in
    rw (err.1, err.2) (read_short _ _ _ _ _ (λ short. table_cut _ _ (omega (arith, c.first_operand-start.ensures.value))) _ c.in_err-high.ensures)

pub returns-then-high-low : goal.returns-then-high-low
returns-then-high-low c =
    let low : FitsSigned w32 c.in_ok-low.low = search rules in
    let high : FitsSigned w32 c.in_ok-high.high = search rules in
    rw c.bad_operand.ensures (table_unordered _ _ _ _ _ c.first_operand-start.ensures.value c.in_ok-low.ensures c.in_ok-high.ensures (simp to_z-of_z at c.if-high-low.true))
