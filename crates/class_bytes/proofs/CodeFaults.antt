-- The faults of a code by itself: where they stand, and that they are those of the code at a place.
use Rattle.std.proofs.Common.{◌≡◌, inl, inr, ℕ, zero, suc, ◌+◌, ◌*◌, ◌^◌, ◌<◌, ◌≤◌, Bool, true, false, cond, ◌&&◌, ltb, leb, List, [], ◌∷◌, length, drop, Option, Some, None, Result, Ok, Err, refl, ap, ◌∙◌, arith}
use Rattle.std.specs.Prelude.{int_lt, IsTrue}
use Rattle.std.specs.List.{AllByRecursion}
use Rattle.std.proofs.lemmas.Bool.{lt-ltb}
use Rattle.std.proofs.lemmas.List.{length-drop}
use Rattle.class_model.specs.Checks.{Fault, fault, asked_of, AllHold, IsFirstFault, ◌>>=◌}
use Rattle.class_model.specs.Code.{jump_checks}
use Rattle.class_model.specs.Instructions.{Read, Operands, Alone, U1, U2, S1, S2, U1S1, ArrayCode, Dimensions, U2U1Zero, U2ZeroZero, Jump2, Jump4, TableSwitch, LookupSwitch, Wide, rows, wide_rows, operands_in, with_operands, wide_operands, table_switch_at, lookup_switch_at, instr_at, instrs_at, decoded, sized, sized_if, u1_in, u4_in, s4_in, pad_of, span, keys_increase, pairs_in}
use Rattle.class_model.specs.declared.fault.FileRule.{FileRule}
use Rattle.class_model.specs.declared.fault.FileRule.TheVariants as rules
use Rattle.class_model.specs.declared.instr.Instr.{Instr}
use Rattle.class_model.specs.declared.instr.Placed.{Placed}
use Rattle.class_bytes.specs.Inner.CodeParts.{at_place, decoded_checks}
use Rattle.code_bytes.specs.Decoding.{decoding_checks}

-- ---- an instruction that is refused is so at its offset

abbrev FailsAt : ℕ → Read → Type 0
FailsAt at (Ok read) = Unit {0}
FailsAt at (Err f) = f.at ≡ at

refused_if : (at : ℕ) (test : Bool) (rule : FileRule) (read : Read) → FailsAt at read → FailsAt at (cond test (Err (fault at rule)) read)
refused_if at true rule read fails = refl
refused_if at false rule read fails = fails

read_if : (at : ℕ) (test : Bool) (rule : FileRule) (read : Read) → FailsAt at read → FailsAt at (cond test read (Err (fault at rule)))
read_if at true rule read fails = fails
read_if at false rule read fails = refl

sized_fails : (at : ℕ) (bytes : List ℕ) (len : ℕ) (instr : Instr) → FailsAt at (sized at bytes len instr)
sized_fails at bytes len instr = refused_if at (ltb (length bytes) len) _ (Ok (instr, len)) tt

sized_if_fails : (allowed : Bool) (at : ℕ) (bytes : List ℕ) (len : ℕ) (instr : Instr) → FailsAt at (sized_if allowed at bytes len instr)
sized_if_fails allowed at bytes len instr = refused_if at (ltb (length bytes) len) _ _ (read_if at allowed _ (Ok (instr, len)) tt)

table_fails : (at : ℕ) (bytes : List ℕ) → FailsAt at (table_switch_at at bytes)
table_fails at bytes =
    let start = 1 + pad_of at in
    let low = s4_in bytes (start + 4) in
    let high = s4_in bytes (start + 8) in
    let end = start + 12 + 4 * span low high in
    refused_if at (ltb (length bytes) (start + 12)) _ _ (refused_if at (int_lt high low) _ _ (refused_if at (ltb (length bytes) end) _ (Ok (_, end)) tt))

lookup_fails : (at : ℕ) (bytes : List ℕ) → FailsAt at (lookup_switch_at at bytes)
lookup_fails at bytes =
    let start = 1 + pad_of at in
    let count = u4_in bytes (start + 4) in
    let end = start + 8 + 8 * count in
    refused_if at (ltb (length bytes) (start + 8)) _ _ (refused_if at (leb (2 ^ 31) count) _ _ (refused_if at (ltb (length bytes) end) _ _
    (read_if at (keys_increase (pairs_in at bytes (start + 8) count)) _ (Ok (_, end)) tt)))

increment_fails : (at : ℕ) (bytes : List ℕ) (test : Bool) (instr : Instr) → FailsAt at (cond test (sized at bytes 6 instr) (Err (fault at rules.Opcode)))
increment_fails at bytes test instr = read_if at test _ (sized at bytes 6 instr) (sized_fails at bytes 6 instr)

wide_fails : (at : ℕ) (bytes : List ℕ) (operands : Option Operands) → FailsAt at (wide_operands at bytes operands)
wide_fails at bytes (Some (U2 makes)) = sized_fails at bytes 4 _
wide_fails at bytes other = increment_fails at bytes _ _

operands_fail : (at : ℕ) (bytes : List ℕ) (operands : Option Operands) → FailsAt at (with_operands at bytes operands)
operands_fail at bytes None = refl
operands_fail at bytes (Some (Alone instr)) = tt
operands_fail at bytes (Some (U1 makes)) = sized_fails at bytes 2 _
operands_fail at bytes (Some (U2 makes)) = sized_fails at bytes 3 _
operands_fail at bytes (Some (S1 makes)) = sized_fails at bytes 2 _
operands_fail at bytes (Some (S2 makes)) = sized_fails at bytes 3 _
operands_fail at bytes (Some (U1S1 makes)) = sized_fails at bytes 3 _
operands_fail at bytes (Some ArrayCode) = sized_if_fails _ at bytes 2 _
operands_fail at bytes (Some Dimensions) = sized_if_fails _ at bytes 4 _
operands_fail at bytes (Some (U2U1Zero makes)) = sized_if_fails _ at bytes 5 _
operands_fail at bytes (Some (U2ZeroZero makes)) = sized_if_fails _ at bytes 5 _
operands_fail at bytes (Some (Jump2 makes)) = sized_fails at bytes 3 _
operands_fail at bytes (Some (Jump4 makes)) = sized_fails at bytes 5 _
operands_fail at bytes (Some TableSwitch) = table_fails at bytes
operands_fail at bytes (Some LookupSwitch) = lookup_fails at bytes
operands_fail at bytes (Some Wide) = refused_if at (ltb (length bytes) 2) _ _ (wide_fails at bytes (operands_in wide_rows (u1_in bytes 1)))

instr_fails : (at : ℕ) (bytes : List ℕ) → FailsAt at (instr_at at bytes)
unfolding instr_at
instr_fails at bytes = operands_fail at bytes (operands_in rows (u1_in bytes 0))

-- ---- the instructions, and a fault in them, stand below the end

abbrev Below : ℕ → Result (List Placed) Fault → Type 0
Below end (Ok instrs) = AllByRecursion (λ p. p.at < end) instrs
Below end (Err f) = f.at < end

one_below : (end : ℕ) (p : Placed) (others : Result (List Placed) Fault) → p.at < end → Below end others → Below end (others >>= λ ps. Ok (p ∷ ps))
one_below end p (Ok ps) here below = (here, below)
one_below end p (Err f) here below = below

-- the instructions behind the first
Behind : (left at : ℕ) (bytes : List ℕ) → Read → Result (List Placed) Fault
Behind left at bytes read = read >>= λ r. instrs_at left (at + r.1) (drop r.1 bytes) >>= λ others. Ok (record { at = at; len = r.1; instr = r.0 } ∷ others)

behind_below : (left at end : ℕ) (bytes : List ℕ) (read : Read) → at < end → FailsAt at read → ((len : ℕ) → Below end (instrs_at left (at + len) (drop len bytes))) → Below end (Behind left at bytes read)
unfolding Behind
behind_below left at end bytes (Err f) here fails others = rw fails here
behind_below left at end bytes (Ok r) here fails others = one_below end (record { at = at; len = r.1; instr = r.0 }) _ here (others r.1)

instrs_below : (left at end : ℕ) (bytes : List ℕ) → (0 < length bytes → at + length bytes ≤ end) → Below end (instrs_at left at bytes)
unfolding instrs_at Behind
instrs_below left at end [] within = tt
instrs_below zero at end (byte ∷ bytes) within = tt
instrs_below (suc left) at end (byte ∷ bytes) within =
    let all : at + length (byte ∷ bytes) ≤ end = within (omega arith) in
    behind_below left at end (byte ∷ bytes) (instr_at at (byte ∷ bytes)) (omega arith) (instr_fails at (byte ∷ bytes))
    (λ len. instrs_below left (at + len) end (drop len (byte ∷ bytes)) (λ some. omega (arith, length-drop len (byte ∷ bytes))))

decoded_below : (code : List ℕ) → Below (length code) (decoded code)
decoded_below code = instrs_below (length code) 0 (length code) code (λ some. omega arith)

-- ---- jumps

jump_below : (start end : ℕ) (code instrs : List Placed) (f : Fault) → AllByRecursion (λ p. p.at < end) instrs → IsFirstFault (jump_checks start code instrs) f → f.at < start + end
jump_below start end code [] f below first = absurd first
jump_below start end code (p ∷ instrs) f below (inl here) = let at : f.at ≡ start + p.at = ap (λ (g : Fault). g.at) here.1 in omega (arith, at, below.0)
jump_below start end code (p ∷ instrs) f below (inr later) = jump_below start end code instrs f below.1 later.1

jumps_hold : (start : ℕ) (code instrs : List Placed) → AllHold (jump_checks 0 code instrs) → AllHold (jump_checks start code instrs)
jumps_hold start code [] all = tt
jumps_hold start code (p ∷ instrs) all = (all.0, jumps_hold start code instrs all.1)

jumps_fail : (start : ℕ) (code instrs : List Placed) (f : Fault) → IsFirstFault (jump_checks 0 code instrs) f → IsFirstFault (jump_checks start code instrs) (fault (start + f.at) f.rule)
jumps_fail start code [] f first = absurd first
jumps_fail start code (p ∷ instrs) f (inl here) =
    inl (here.0, ap (λ (g : Fault). fault (start + g.at) g.rule) here.1 ∙ ap (λ (at : ℕ). fault (start + at) rules.Jump) (zero_first p.at)) where
      zero_first : (n : ℕ) → 0 + n ≡ n
      zero_first n = omega arith
jumps_fail start code (p ∷ instrs) f (inr later) = inr (later.0, jumps_fail start code instrs f later.1)

-- ---- the code

fault_below : (end : ℕ) (sequence : Result (List Placed) Fault) (f : Fault) → Below end sequence → IsFirstFault (asked_of sequence (λ instrs. jump_checks 0 instrs instrs)) f → f.at < end
fault_below end (Ok instrs) f below first = omega (arith, jump_below 0 end instrs instrs f below first)
fault_below end (Err g) f below (inl here) = let at : f.at ≡ g.at = ap (λ (h : Fault). h.at) here.1 in omega (arith, at, below)
fault_below end (Err g) f below (inr later) = absurd later.0

fault_placed : (start : ℕ) (sequence : Result (List Placed) Fault) (f : Fault) → IsFirstFault (asked_of sequence (λ instrs. jump_checks 0 instrs instrs)) f
    → IsFirstFault (asked_of (at_place start sequence) (λ instrs. jump_checks start instrs instrs)) (fault (start + f.at) f.rule)
fault_placed start (Ok instrs) f first = jumps_fail start instrs instrs f first
fault_placed start (Err g) f (inl here) = inl (here.0, ap (λ (h : Fault). fault (start + h.at) h.rule) here.1)
fault_placed start (Err g) f (inr later) = absurd later.0

all_placed : (start : ℕ) (sequence : Result (List Placed) Fault) → AllHold (asked_of sequence (λ instrs. jump_checks 0 instrs instrs)) → AllHold (asked_of (at_place start sequence) (λ instrs. jump_checks start instrs instrs))
all_placed start (Ok instrs) all = jumps_hold start instrs instrs all
all_placed start (Err g) all = absurd all.0

-- the length fits, so the fault is another
behind_len : (code : List ℕ) (f : Fault) → 0 < length code → length code < 65536 → IsFirstFault (decoding_checks code) f → IsFirstFault (asked_of (decoded code) (λ instrs. jump_checks 0 instrs instrs)) f
behind_len code f some few (inl here) = absurd (here.0 (both_true _ _ (lt-ltb 0 (length code) some) (lt-ltb (length code) 65536 few))) where
  both_true : (a b : Bool) → a ≡ true → b ≡ true → IsTrue (a && b)
  both_true true b p q = q
  both_true false b p q = p
behind_len code f some few (inr later) = later.1

pub code_fault_below : (code : List ℕ) (f : Fault) → 0 < length code → length code < 65536 → IsFirstFault (decoding_checks code) f → f.at < length code
code_fault_below code f some few first = fault_below (length code) (decoded code) f (decoded_below code) (behind_len code f some few first)

pub code_fault_placed : (start : ℕ) (code : List ℕ) (f : Fault) → 0 < length code → length code < 65536 → IsFirstFault (decoding_checks code) f → IsFirstFault (decoded_checks start code) (fault (start + f.at) f.rule)
code_fault_placed start code f some few first = fault_placed start (decoded code) f (behind_len code f some few first)

pub code_holds : (start : ℕ) (code : List ℕ) → AllHold (decoding_checks code) → AllHold (decoded_checks start code)
code_holds start code all = all_placed start (decoded code) all.1
