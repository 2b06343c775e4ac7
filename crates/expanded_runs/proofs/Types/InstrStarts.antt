-- What stands for an instruction in flat code has points, so instructions begin at numbers that grow, and offsets have numbers of their own.
use Rattle.std.proofs.Common.{◌≡◌, ◌+◌, ◌≤◌, ◌<◌, ℕ, zero, suc, List, length, slice_get, Option, Some, None, refl, ap, arith}
use Rattle.std.proofs.lemmas.Option.{none-some}
use Rattle.class_model.specs.declared.frame.Frame.{Frame}
use Rattle.class_model.specs.declared.instr.Instr.{Instr}
use Rattle.class_model.specs.declared.instr.Instr.TheVariants.{Return}
use Rattle.class_model.specs.declared.instr.Placed.{Placed}
use Rattle.expanded_code.specs.Expanded.{own_points, points_of, points_of_callee}
use Rattle.expanded_code.specs.Expansions.{Expansion}
use Rattle.expanded_runs.proofs.Runs.PositionLaws.{Fits, fits_none, fits_replaced, fits_site, fits_stays, start_least}
use Rattle.expanded_runs.proofs.Runs.Positions.{start_from}
use Rattle.member_link.specs.Scope.{Scope}

-- ---- points

pub own_least : (callee : Option Scope) (instr : Instr) → 1 ≤ own_points callee instr
own_least None instr = omega arith
own_least (Some s) (Return kind) = omega arith
own_least (Some s) instr = omega arith

-- some instructions have some points
pub some_points : (callee : Option Scope) {instrs : List Placed} {frames : List Frame} {e : Expansion} → Fits instrs frames e
    → (start : Placed) → slice_get instrs 0 ≡ Some start
    → 1 ≤ points_of callee instrs e
some_points callee fits_none start is = absurd (none-some start is)
some_points callee (fits_stays placed frame fits) start is = omega (arith, own_least callee placed.instr)
some_points callee (fits_site placed frame class fits) start is = omega (arith, own_least callee placed.instr)
some_points callee (fits_replaced placed frame g first starts within fits) start is =
    omega (arith, some_points (Some g.scope) within first starts)

module _ (callee : Option Scope) where
  -- each instruction begins before the next
  pub start_less : (number : ℕ) {instrs : List Placed} {frames : List Frame} {e : Expansion} → Fits instrs frames e
      → (j k : ℕ) → j < k → k ≤ length instrs
      → start_from callee number instrs e j < start_from callee number instrs e k
  start_less number fits j zero less within = absurd (omega (arith, less))
  start_less number fits_none j (suc k) less within = absurd (omega (arith, within))
  start_less number (fits_stays {instrs = instrs} {more = more} placed frame fits) zero (suc k) less within =
      omega (arith, own_least callee placed.instr, start_least callee (number + own_points callee placed.instr) instrs more k)
  start_less number (fits_site {instrs = instrs} {more = more} placed frame class fits) zero (suc k) less within =
      omega (arith, own_least callee placed.instr, start_least callee (number + own_points callee placed.instr) instrs more k)
  start_less number (fits_replaced {instrs = instrs} {inner = inner} {more = more} placed frame g first starts inside fits) zero (suc k) less within =
      omega (arith, some_points (Some g.scope) inside first starts, start_least callee (number + points_of_callee g inner) instrs more k)
  start_less number (fits_stays placed frame fits) (suc j) (suc k) less within =
      start_less (number + own_points callee placed.instr) fits j k (omega (arith, less)) (omega (arith, within))
  start_less number (fits_site placed frame class fits) (suc j) (suc k) less within =
      start_less (number + own_points callee placed.instr) fits j k (omega (arith, less)) (omega (arith, within))
  start_less number (fits_replaced {inner = inner} placed frame g first starts inside fits) (suc j) (suc k) less within =
      start_less (number + points_of_callee g inner) fits j k (omega (arith, less)) (omega (arith, within))

-- ---- two numbers

pub data Order (j k : ℕ) : Type 0 where
  before : j < k → Order j k
  same : j ≡ k → Order j k
  behind : k < j → Order j k

pub order_of : (j k : ℕ) → Order j k
order_of zero zero = same refl
order_of zero (suc k) = before (omega arith)
order_of (suc j) zero = behind (omega arith)
order_of (suc j) (suc k) = by (order_of j k) where
  by : Order j k → Order (suc j) (suc k)
  by (before less) = before (omega (arith, less))
  by (same is) = same (ap suc is)
  by (behind more) = behind (omega (arith, more))

module _ (callee : Option Scope) (number : ℕ) {instrs : List Placed} {frames : List Frame} {e : Expansion} (fits : Fits instrs frames e) where
  pub one_start : (j k : ℕ) → j ≤ length instrs → k ≤ length instrs
      → start_from callee number instrs e j ≡ start_from callee number instrs e k
      → j ≡ k
  one_start j k fits_j fits_k equal = by (order_of j k) where
    by : Order j k → j ≡ k
    by (before less) = absurd (omega (arith, start_less callee number fits j k less fits_k, equal))
    by (same is) = is
    by (behind more) = absurd (omega (arith, start_less callee number fits k j more fits_j, equal))
