-- An instruction that is read takes a byte at least, and no more than there are.
use Rattle.std.proofs.Common.{◌≡◌, ℕ, ◌+◌, ◌*◌, ◌<◌, ◌≤◌, Bool, true, false, cond, ltb, leb, ◌^◌, List, length, Option, Some, None, Result, Ok, Err, IfOk, refl, subst, arith}
use Rattle.std.specs.Prelude.{int_lt}
use Rattle.std.proofs.lemmas.Bool.{ltb-false}
use Rattle.class_model.specs.Answers.{Gives}
use Rattle.class_model.specs.Checks.{Fault, fault}
use Rattle.class_model.specs.Instructions.{Read, Operands, Alone, U1, U2, S1, S2, U1S1, ArrayCode, Dimensions, U2U1Zero, U2ZeroZero, Jump2, Jump4, TableSwitch, LookupSwitch, Wide, rows, wide_rows, operands_in, with_operands, wide_operands, table_switch_at, lookup_switch_at, instr_at, sized, sized_if, u1_in, u4_in, s4_in, pad_of, span, keys_increase, pairs_in}
use Rattle.class_model.specs.declared.fault.FileRule.TheVariants as rules
use Rattle.class_model.specs.declared.fault.ClassFault.{ClassFault}
use Rattle.class_model.specs.declared.instr.Instr.{Instr}

-- what was read takes so many
pub record Fits (bytes : List ℕ) (read : Instr × ℕ) : Type 0 where
  pub some : 0 < read.1
  pub few : read.1 ≤ length bytes

abbrev IfRead : List ℕ → Read → Type 0
IfRead bytes read = (r : Instr × ℕ) → read ≡ Ok r → Fits bytes r

refused : (bytes : List ℕ) (f : Fault) → IfRead bytes (Err f)
refused bytes f r e = absurd cc

here : (bytes : List ℕ) (instr : Instr) (len : ℕ) → 0 < len → len ≤ length bytes → IfRead bytes (Ok (instr, len))
here bytes instr len some few r e = let same : (instr, len) ≡ r = cc in subst (Fits bytes) same (record { some = some; few = few })

refused_if : (bytes : List ℕ) (test : Bool) (f : Fault) (read : Read) → (test ≡ false → IfRead bytes read) → IfRead bytes (cond test (Err f) read)
refused_if bytes true f read fits = refused bytes f
refused_if bytes false f read fits = fits refl

read_if : (bytes : List ℕ) (test : Bool) (f : Fault) (read : Read) → IfRead bytes read → IfRead bytes (cond test read (Err f))
read_if bytes true f read fits = fits
read_if bytes false f read fits = refused bytes f

sized_fits : (at : ℕ) (bytes : List ℕ) (len : ℕ) (instr : Instr) → 0 < len → IfRead bytes (sized at bytes len instr)
sized_fits at bytes len instr some = refused_if bytes _ _ _ (λ e. here bytes instr len some (ltb-false _ _ e))

sized_if_fits : (allowed : Bool) (at : ℕ) (bytes : List ℕ) (len : ℕ) (instr : Instr) → 0 < len → IfRead bytes (sized_if allowed at bytes len instr)
sized_if_fits allowed at bytes len instr some = refused_if bytes _ _ _ (λ e. read_if bytes allowed _ _ (here bytes instr len some (ltb-false _ _ e)))

table_fits : (at : ℕ) (bytes : List ℕ) → IfRead bytes (table_switch_at at bytes)
table_fits at bytes =
    let start = 1 + pad_of at in
    let low = s4_in bytes (start + 4) in
    let high = s4_in bytes (start + 8) in
    let end = start + 12 + 4 * span low high in
    refused_if bytes (ltb (length bytes) (start + 12)) _ _
    (λ e. refused_if bytes (int_lt high low) _ _ (λ d. refused_if bytes (ltb (length bytes) end) _ _ (λ c. here bytes _ end (omega arith) (ltb-false _ _ c))))

lookup_fits : (at : ℕ) (bytes : List ℕ) → IfRead bytes (lookup_switch_at at bytes)
lookup_fits at bytes =
    let start = 1 + pad_of at in
    let count = u4_in bytes (start + 4) in
    let end = start + 8 + 8 * count in
    refused_if bytes (ltb (length bytes) (start + 8)) _ _
    (λ e. refused_if bytes (leb (2 ^ 31) count) _ _
    (λ d. refused_if bytes (ltb (length bytes) end) _ _ (λ c. read_if bytes (keys_increase (pairs_in at bytes (start + 8) count)) _ _ (here bytes _ end (omega arith) (ltb-false _ _ c)))))

increment_fits : (at : ℕ) (bytes : List ℕ) (test : Bool) (instr : Instr) → IfRead bytes (cond test (sized at bytes 6 instr) (Err (fault at rules.Opcode)))
increment_fits at bytes test instr = read_if bytes test _ _ (sized_fits at bytes 6 instr (omega arith))

wide_operands_fit : (at : ℕ) (bytes : List ℕ) (operands : Option Operands) → IfRead bytes (wide_operands at bytes operands)
wide_operands_fit at bytes (Some (U2 makes)) = sized_fits at bytes 4 _ (omega arith)
wide_operands_fit at bytes other = increment_fits at bytes _ _

operands_fit : (at : ℕ) (bytes : List ℕ) → 0 < length bytes → (operands : Option Operands) → IfRead bytes (with_operands at bytes operands)
operands_fit at bytes some None = refused bytes _
operands_fit at bytes some (Some (Alone instr)) = here bytes instr 1 (omega arith) (omega (arith, some))
operands_fit at bytes some (Some (U1 makes)) = sized_fits at bytes 2 _ (omega arith)
operands_fit at bytes some (Some (U2 makes)) = sized_fits at bytes 3 _ (omega arith)
operands_fit at bytes some (Some (S1 makes)) = sized_fits at bytes 2 _ (omega arith)
operands_fit at bytes some (Some (S2 makes)) = sized_fits at bytes 3 _ (omega arith)
operands_fit at bytes some (Some (U1S1 makes)) = sized_fits at bytes 3 _ (omega arith)
operands_fit at bytes some (Some ArrayCode) = sized_if_fits _ at bytes 2 _ (omega arith)
operands_fit at bytes some (Some Dimensions) = sized_if_fits _ at bytes 4 _ (omega arith)
operands_fit at bytes some (Some (U2U1Zero makes)) = sized_if_fits _ at bytes 5 _ (omega arith)
operands_fit at bytes some (Some (U2ZeroZero makes)) = sized_if_fits _ at bytes 5 _ (omega arith)
operands_fit at bytes some (Some (Jump2 makes)) = sized_fits at bytes 3 _ (omega arith)
operands_fit at bytes some (Some (Jump4 makes)) = sized_fits at bytes 5 _ (omega arith)
operands_fit at bytes some (Some TableSwitch) = table_fits at bytes
operands_fit at bytes some (Some LookupSwitch) = lookup_fits at bytes
operands_fit at bytes some (Some Wide) = refused_if bytes _ _ _ (λ e. wide_operands_fit at bytes (operands_in wide_rows (u1_in bytes 1)))

pub read_fits : (at : ℕ) (bytes : List ℕ) → 0 < length bytes → IfRead bytes (instr_at at bytes)
unfolding instr_at
read_fits at bytes some = operands_fit at bytes some (operands_in rows (u1_in bytes 0))

pub given_fits : (at : ℕ) (bytes : List ℕ) (result : Result (Instr × ℕ) ClassFault) → 0 < length bytes → Gives (instr_at at bytes) result → IfOk result (λ form. (1 ≤ form.1) × (form.1 ≤ length bytes))
given_fits at bytes (Ok r) some read = let fits = read_fits at bytes some r read in (fits.some, fits.few)
given_fits at bytes (Err f) some read = tt
