-- What is read of a switch is what the table of instructions says.
use Rattle.std.proofs.Common.{◌≡◌, ℕ, zero, suc, ◌+◌, ◌*◌, ◌<◌, ◌≤◌, ℤ, true, false, cond, ltb, leb, inl, inr, ◌^◌, List, ◌∷◌, length, take, drop, map, Result, Ok, Err, Bool, refl, ap, ◌∙◌, arith}
use Rattle.std.specs.Prelude.{int_lt, unsigned_abs}
use Rattle.std.specs.Int.{w32, cast_signed, FitsUnsignedBits}
use Rattle.std.specs.Simd.{first_chunks}
use Rattle.std.proofs.lemmas.List.{drop-drop, drop-take, take-take}
use Rattle.std.proofs.lemmas.Int.{to_z_pos}
use Rattle.std.proofs.lemmas.Bool.{cases_lt, ltb-true, ltb-false, le-ltb, lt-ltb, lt-leb}
use Rattle.class_model.specs.Answers.{Gives}
use Rattle.class_model.specs.Checks.{Fault, fault}
use Rattle.class_model.specs.Instructions.{Read, table_switch_at, lookup_switch_at, keys_increase, u4_in, s4_in, pad_of, span, target_of, targets_in, pairs_in}
use Rattle.class_model.specs.Laws.Cuts.{guard_false}
use Rattle.class_model.specs.declared.fault.FileRule.TheVariants as rules
use Rattle.class_model.specs.declared.fault.ClassFault.{ClassFault}
use Rattle.class_model.specs.declared.fault.ClassFault.TheVariants.{Malformed, Version, NoMemory}
use Rattle.class_model.specs.declared.instr.Pair.{Pair}
use Rattle.class_model.specs.declared.instr.Instr.TheVariants.{Table, Lookup}
use Rattle.code_bytes.specs.Inner.Operands.{before, target_in, pair_in}

-- ---- what was read

pub was_read : {X : Type 0} (at : ℕ) (bytes : List ℕ) (end : ℕ) (x y : X) → before at bytes end x ≡ Ok y → (end ≤ length bytes) × (x ≡ y)
was_read at bytes end x y e = let s = guard_false (ltb (length bytes) end) (fault at rules.Operand) x y e in (ltb-false _ _ s.0, s.1)

failed : {X : Type 0} (b : Bool) (d e : Fault) (x : X) → cond b (Err d) (Ok x) ≡ Err e → (b ≡ true) × (d ≡ e)
failed true d e x is = (refl, cc)
failed false d e x is = absurd cc

-- what is told where a part is missing, without which there is no switch
pub read_short :
    {X Y : Type 0} (at : ℕ) (bytes : List ℕ) (end : ℕ) (x : X) (given : Result Y Fault)
    → (length bytes < end → given ≡ Err (fault at rules.Operand))
    → (e : ClassFault)
    → Gives (before at bytes end x) (Err e)
    → Gives given (Err e)
read_short at bytes end x given short (Malformed place rule) told =
    let f = failed (ltb (length bytes) end) (fault at rules.Operand) (fault place rule) x told in
    short (ltb-true _ _ f.0) ∙ ap Err f.1
read_short at bytes end x given short NoMemory told = tt
read_short at bytes end x given short (Version major minor) told = told

-- ---- lists of parts

targets_are : (at : ℕ) (bytes : List ℕ) (count from : ℕ) → map (target_in at) (first_chunks 4 count (drop from bytes)) ≡ targets_in at bytes from count
targets_are at bytes zero from = refl
targets_are at bytes (suc count) from =
    ap (λ (ts : List ℕ). target_in at (take 4 (drop from bytes)) ∷ ts)
    (ap (λ (xs : List ℕ). map (target_in at) (first_chunks 4 count xs)) (drop-drop 4 from bytes) ∙ targets_are at bytes count (from + 4))

pair_is : (at : ℕ) (bytes : List ℕ) (from : ℕ) → pair_in at (take 8 (drop from bytes)) ≡ record { key = s4_in bytes from; to = target_of at (s4_in bytes (from + 4)) }
pair_is at bytes from =
    let key : take 4 (take 8 (drop from bytes)) ≡ take 4 (drop from bytes) = take-take 4 8 (drop from bytes) (omega arith) in
    let to : drop 4 (take 8 (drop from bytes)) ≡ take 4 (drop (from + 4) bytes) = drop-take 4 4 (drop from bytes) ∙ ap (take 4) (drop-drop 4 from bytes) in
    rw (key, to) refl

pairs_are : (at : ℕ) (bytes : List ℕ) (count from : ℕ) → map (pair_in at) (first_chunks 8 count (drop from bytes)) ≡ pairs_in at bytes from count
pairs_are at bytes zero from = refl
pairs_are at bytes (suc count) from =
    ap (λ (ps : List Pair). pair_in at (take 8 (drop from bytes)) ∷ ps)
    (ap (λ (xs : List ℕ). map (pair_in at) (first_chunks 8 count xs)) (drop-drop 8 from bytes) ∙ pairs_are at bytes count (from + 8))
    ∙ ap (λ (p : Pair). p ∷ pairs_in at bytes (from + 8) count) (pair_is at bytes from)

-- ---- a tableswitch

pub record TableHead (at : ℕ) (bytes : List ℕ) (start other : ℕ) (low high : ℤ) (count : ℕ) : Type 0 where
  pub start_is : start ≡ 1 + pad_of at
  pub other_is : before at bytes (start + 4) (target_of at (s4_in bytes start)) ≡ Ok other
  pub low_is : before at bytes (start + 4 + 4) (s4_in bytes (start + 4)) ≡ Ok low
  pub high_is : before at bytes (start + 8 + 4) (s4_in bytes (start + 8)) ≡ Ok high
  pub ordered : int_lt high low ≡ false
  pub count_is : count ≡ span low high

abbrev bad : ℕ → Read
bad at = Err (fault at rules.Operand)

-- what is read where the numbers in front are not there
pub table_cut : (at : ℕ) (bytes : List ℕ) → length bytes < 1 + pad_of at + 12 → table_switch_at at bytes ≡ bad at
table_cut at bytes short = rw (lt-ltb _ _ short) refl

-- what is read where the highest number is below the lowest
pub table_unordered : (at : ℕ) (bytes : List ℕ) (start : ℕ) (low high : ℤ) → start ≡ 1 + pad_of at
    → before at bytes (start + 4 + 4) (s4_in bytes (start + 4)) ≡ Ok low
    → before at bytes (start + 8 + 4) (s4_in bytes (start + 8)) ≡ Ok high
    → int_lt high low ≡ true → table_switch_at at bytes ≡ bad at
table_unordered at bytes start low high start_is low_is high_is unordered =
    let l = was_read at bytes (start + 4 + 4) (s4_in bytes (start + 4)) low low_is in
    let h = was_read at bytes (start + 8 + 4) (s4_in bytes (start + 8)) high high_is in
    let there : ltb (length bytes) (start + 12) ≡ false = le-ltb _ _ (omega (arith, h.0)) in
    rw (← start_is, l.1, h.1, there, unordered) refl

-- what is read where the numbers in front are there
table_is : (at : ℕ) (bytes : List ℕ) (start other : ℕ) (low high : ℤ) (count : ℕ) → TableHead at bytes start other low high count
    → table_switch_at at bytes ≡ cond (ltb (length bytes) (start + 12 + 4 * count)) (bad at) (Ok (Table low other (targets_in at bytes (start + 12) count), start + 12 + 4 * count))
table_is at bytes start other low high count head =
    let o = was_read at bytes (start + 4) (target_of at (s4_in bytes start)) other head.other_is in
    let l = was_read at bytes (start + 4 + 4) (s4_in bytes (start + 4)) low head.low_is in
    let h = was_read at bytes (start + 8 + 4) (s4_in bytes (start + 8)) high head.high_is in
    let there : ltb (length bytes) (start + 12) ≡ false = le-ltb _ _ (omega (arith, h.0)) in
    rw (← head.start_is, l.1, h.1, o.1, ← head.count_is, there, head.ordered) refl

pub table_short : (at : ℕ) (bytes : List ℕ) (start other : ℕ) (low high : ℤ) (count : ℕ) → TableHead at bytes start other low high count → length bytes < start + 12 + 4 * count → table_switch_at at bytes ≡ bad at
table_short at bytes start other low high count head short =
    let test : ltb (length bytes) (start + 12 + 4 * count) ≡ true = lt-ltb _ _ short in
    table_is at bytes start other low high count head ∙ rw test refl

pub table_read : (at : ℕ) (bytes : List ℕ) (start other : ℕ) (low high : ℤ) (count : ℕ) (words : List (List ℕ)) → TableHead at bytes start other low high count → start + 12 + 4 * count ≤ length bytes
    → words ≡ first_chunks 4 count (drop (start + 12) bytes) → table_switch_at at bytes ≡ Ok (Table low other (map (target_in at) words), start + 12 + 4 * count)
table_read at bytes start other low high count words head there are =
    let test : ltb (length bytes) (start + 12 + 4 * count) ≡ false = le-ltb _ _ there in
    let same : map (target_in at) words ≡ targets_in at bytes (start + 12) count = ap (map (target_in at)) are ∙ targets_are at bytes count (start + 12) in
    table_is at bytes start other low high count head ∙ rw (test, same) refl

-- ---- a lookupswitch

-- a signed number that is not negative is the unsigned one
not_negative : (n count : ℕ) → FitsUnsignedBits 64 (cast_signed w32 n) → count ≡ unsigned_abs (cast_signed w32 n) → (n < 2 ^ 31) × (count ≡ n)
not_negative n count fits is = elim (cases_lt n (2 ^ 31)) [ inl low ↦ (low, is ∙ ap unsigned_abs (to_z_pos w32 n low)) | inr high ↦ absurd (let test : ltb n (2 ^ 31) ≡ false = le-ltb _ _ high in rw test at fits) ]

-- what is read where the numbers in front are not there
pub lookup_cut : (at : ℕ) (bytes : List ℕ) → length bytes < 1 + pad_of at + 8 → lookup_switch_at at bytes ≡ bad at
lookup_cut at bytes short = rw (lt-ltb _ _ short) refl

-- what is read where the pairs are not there
pub lookup_short : (at : ℕ) (bytes : List ℕ) (start : ℕ) (number : ℤ) (count : ℕ) → start ≡ 1 + pad_of at
    → before at bytes (start + 4 + 4) (s4_in bytes (start + 4)) ≡ Ok number
    → FitsUnsignedBits 64 number → count ≡ unsigned_abs number
    → length bytes < start + 8 + 8 * count → lookup_switch_at at bytes ≡ bad at
lookup_short at bytes start number count start_is number_is natural count_is short =
    let n = was_read at bytes (start + 4 + 4) (s4_in bytes (start + 4)) number number_is in
    let c = not_negative (u4_in bytes (start + 4)) count (rw n.1 natural) (rw n.1 count_is) in
    let front : ltb (length bytes) (start + 8) ≡ false = le-ltb _ _ (omega (arith, n.0)) in
    let low : leb (2 ^ 31) (u4_in bytes (start + 4)) ≡ false = lt-leb _ _ c.0 in
    let there : ltb (length bytes) (start + 8 + 8 * count) ≡ true = lt-ltb _ _ short in
    rw (← start_is, front, low, ← c.1, there) refl

pub record LookupHead (at : ℕ) (bytes : List ℕ) (start other : ℕ) (number : ℤ) (count : ℕ) (parts : List (List ℕ)) : Type 0 where
  pub start_is : start ≡ 1 + pad_of at
  pub other_is : before at bytes (start + 4) (target_of at (s4_in bytes start)) ≡ Ok other
  pub number_is : before at bytes (start + 4 + 4) (s4_in bytes (start + 4)) ≡ Ok number
  pub natural : FitsUnsignedBits 64 number
  pub count_is : count ≡ unsigned_abs number
  pub there : start + 8 + 8 * count ≤ length bytes
  pub parts_are : parts ≡ first_chunks 8 count (drop (start + 8) bytes)

pub lookup_is : (at : ℕ) (bytes : List ℕ) (start other : ℕ) (number : ℤ) (count : ℕ) (parts : List (List ℕ)) → LookupHead at bytes start other number count parts
    → lookup_switch_at at bytes ≡ cond (keys_increase (map (pair_in at) parts)) (Ok (Lookup other (map (pair_in at) parts), start + 8 + 8 * count)) (bad at)
lookup_is at bytes start other number count parts head =
    let o = was_read at bytes (start + 4) (target_of at (s4_in bytes start)) other head.other_is in
    let n = was_read at bytes (start + 4 + 4) (s4_in bytes (start + 4)) number head.number_is in
    let c = not_negative (u4_in bytes (start + 4)) count (rw n.1 head.natural) (rw n.1 head.count_is) in
    let front : ltb (length bytes) (start + 8) ≡ false = le-ltb _ _ (omega (arith, n.0)) in
    let low : leb (2 ^ 31) (u4_in bytes (start + 4)) ≡ false = lt-leb _ _ c.0 in
    let there : ltb (length bytes) (start + 8 + 8 * count) ≡ false = le-ltb _ _ head.there in
    let same : map (pair_in at) parts ≡ pairs_in at bytes (start + 8) count = ap (map (pair_in at)) head.parts_are ∙ pairs_are at bytes count (start + 8) in
    rw (same, ← head.start_is, front, low, ← c.1, there, o.1) refl
