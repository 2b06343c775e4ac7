-- The operands of an instruction are listed as the decoded instruction shows them.
use Rattle.std.proofs.Common.{◌≡◌, ℕ, zero, suc, ◌+◌, ◌*◌, ◌-◌, ◌<◌, ℤ, pos, ltb, Bool, true, false, ◌&&◌, cond, List, [], ◌∷◌, ◌++◌, length, map, codes, decimal, Option, Some, None, Result, Ok, Err, refl, ap, subst, sym, ◌∙◌}
use Rattle.std.specs.Prelude.{◌==◌, ◌^◌, ◌+ℤ◌, int_lt, nat_le, nat_lt}
use Rattle.std.specs.Fmt.{signed_decimal}
use Rattle.std.specs.List.{flat_map}
use Rattle.std.proofs.lemmas.Bool.{eqb-true}
use Rattle.class_model.specs.Checks.{Fault, fault}
use Rattle.class_model.specs.Instructions.{Operands, has_dimensions, instr_at, is_array_code, keys_increase, lookup_switch_at, operands_in, pad_of, pairs_in, rows, s1_in, s2_in, s4_in, sized, sized_if, span, table_switch_at, target_of, targets_in, u1_in, u2_in, u4_in, wide_operands, wide_rows, with_operands, Alone, U1, U2, S1, S2, U1S1, ArrayCode, Dimensions, U2U1Zero, U2ZeroZero, Jump2, Jump4, TableSwitch, LookupSwitch, Wide}
use Rattle.class_model.specs.Laws.Cuts.{guard_false, same_done}
use Rattle.class_model.specs.declared.fault.FileRule.TheVariants as rules
use Rattle.class_model.specs.declared.instr.Instr.{Instr}
use Rattle.class_model.specs.declared.instr.Instr.TheVariants.{Iinc, Lookup, NewArray, NewMulti, Table}
use Rattle.class_model.specs.declared.instr.Pair.{Pair}
use Rattle.class_model.specs.declared.opcodes.TheConstants.{IINC, WIDE}
use Rattle.script_text.specs.PrintedTexts.{Bytes}
use Rattle.script_text.specs.Scripts.{Word}
use Rattle.class_listing.specs.Inner.InstrWords.{instr_words, lookup_words, pair_word, table_words, target_word}
use Rattle.class_listing.specs.Inner.ListingTexts.{name_word, pad_in}
use Rattle.class_listing.specs.Mnemonics.{mnemonic}
use Rattle.class_listing.specs.Operations.{Operand, far_target, hex_word, listed_keys, listed_operands, listed_targets, lookup_operands, operand_words, operands_at, operation_at, operation_words, table_operands, widened_operands}
use Rattle.class_listing.proofs.KeptTargets.{high_key, s2_fits, s4_fits, target_kept}
use Rattle.class_listing.proofs.OpcodeTables.{Shown, by_instr, by_form, same_shown, wide_by_instr, wide_by_form, same_wide, is_found, apart}

-- an instruction of so many bytes shows these operands
abbrev pub IsShown : ℕ → Bytes → List Operand → Instr × ℕ → Type 0
IsShown at bytes operands read =
    flat_map operand_words operands ≡ instr_words at (pad_in at bytes) read.1 read.0

-- ---- tests

not_fault : {A : Type 0} (failing : Bool) (f : Fault) (r : Result A Fault) (y : A) → cond failing (Err f) r ≡ Ok y → (failing ≡ false) × (r ≡ Ok y)
not_fault true f r y is = absurd cc
not_fault false f r y is = (refl, is)

no_fault : {A : Type 0} (good : Bool) (f : Fault) (r : Result A Fault) (y : A) → cond good r (Err f) ≡ Ok y → (good ≡ true) × (r ≡ Ok y)
no_fault true f r y is = (refl, is)
no_fault false f r y is = absurd cc

-- ---- targets

target_shown : (at : ℕ) (bytes : Bytes) (from : ℕ) → signed_decimal (far_target at bytes from) ≡ target_word at (target_of at (s4_in bytes from))
target_shown at bytes from = ap signed_decimal (sym (target_kept at (s4_in bytes from) (s4_fits bytes from)))

targets_shown : (at : ℕ) (bytes : Bytes) (from count : ℕ) → flat_map operand_words (listed_targets at bytes from count) ≡ map (target_word at) (targets_in at bytes from count)
targets_shown at bytes from zero = refl
targets_shown at bytes from (suc count) =
    ap (λ (word : Word). word ∷ flat_map operand_words (listed_targets at bytes (from + 4) count)) (target_shown at bytes from)
    ∙ ap (λ (words : List Word). target_word at (target_of at (s4_in bytes from)) ∷ words) (targets_shown at bytes (from + 4) count)

keys_shown : (at : ℕ) (bytes : Bytes) (from count : ℕ) → flat_map operand_words (listed_keys at bytes from count) ≡ map (pair_word at) (pairs_in at bytes from count)
keys_shown at bytes from zero = refl
keys_shown at bytes from (suc count) =
    let key = signed_decimal (s4_in bytes from) in
    let others = flat_map operand_words (listed_keys at bytes (from + 8) count) in
    let pair : Pair = record { key = s4_in bytes from; to = target_of at (s4_in bytes (from + 4)) } in
    ap (λ (word : Word). (key ++ codes ":" ++ word) ∷ others) (target_shown at bytes (from + 4))
    ∙ ap (λ (words : List Word). pair_word at pair ∷ words) (keys_shown at bytes (from + 8) count)

many_targets : (at : ℕ) (bytes : Bytes) (from count : ℕ) → length (targets_in at bytes from count) ≡ count
many_targets at bytes from zero = refl
many_targets at bytes from (suc count) = ap suc (many_targets at bytes (from + 4) count)

-- ---- switches

table_same : (at : ℕ) (pad : Bytes) (default low high : ℤ) (other : ℕ) (to : List ℕ) (words : List Word)
    → signed_decimal default ≡ target_word at other
    → high ≡ low +ℤ pos (length to - 1)
    → words ≡ map (target_word at) to
    → (codes "pad=" ++ hex_word pad) ∷ (codes "default=" ++ signed_decimal default) ∷ (codes "low=" ++ signed_decimal low) ∷ (codes "high=" ++ signed_decimal high) ∷ words
    ≡ table_words at pad low other to
table_same at pad default low high other to words default_is high_is words_are = rw (default_is, high_is, words_are) refl

lookup_same : (at : ℕ) (pad : Bytes) (default : ℤ) (other : ℕ) (pairs : List Pair) (words : List Word)
    → signed_decimal default ≡ target_word at other
    → words ≡ map (pair_word at) pairs
    → (codes "pad=" ++ hex_word pad) ∷ (codes "default=" ++ signed_decimal default) ∷ words
    ≡ lookup_words at pad other pairs
lookup_same at pad default other pairs words default_is words_are = rw (default_is, words_are) refl

module _ (at : ℕ) (bytes : Bytes) (read : Instr × ℕ) where
  sized_shown : (len : ℕ) (instr : Instr) (operands : List Operand) → IsShown at bytes operands (instr, len) → sized at bytes len instr ≡ Ok read → IsShown at bytes operands read
  sized_shown len instr operands shown is =
      let g = guard_false (ltb (length bytes) len) (fault at rules.Operand) (instr, len) read is in
      subst (IsShown at bytes operands) g.1 shown

  sized_if_shown : (allowed : Bool) (len : ℕ) (instr : Instr) (operands : List Operand) → IsShown at bytes operands (instr, len) → sized_if allowed at bytes len instr ≡ Ok read → IsShown at bytes operands read
  sized_if_shown allowed len instr operands shown is =
      let long = not_fault (ltb (length bytes) len) (fault at rules.Operand) _ read is in
      let done : Ok (instr, len) ≡ Ok read = (no_fault allowed (fault at rules.Operand) (Ok (instr, len)) read long.1).1 in
      subst (IsShown at bytes operands) (same_done (instr, len) read done) shown

  table_shown : table_switch_at at bytes ≡ Ok read → IsShown at bytes (table_operands at bytes) read
  table_shown is =
      let start = 1 + pad_of at in
      let low = s4_in bytes (start + 4) in
      let high = s4_in bytes (start + 8) in
      let count = span low high in
      let operand = fault at rules.Operand in
      let to = targets_in at bytes (start + 12) count in
      let one = not_fault (nat_lt (length bytes) (start + 12)) operand _ read is in
      let two = not_fault (int_lt high low) operand _ read one.1 in
      let three = not_fault (nat_lt (length bytes) (start + 12 + 4 * count)) operand _ read two.1 in
      let many : count ≡ length to = sym (many_targets at bytes (start + 12) count) in
      let top = high_key low high (length to) (s4_fits bytes (start + 4)) (s4_fits bytes (start + 8)) two.0 many in
      subst (IsShown at bytes (table_operands at bytes)) (same_done (Table low (target_of at (s4_in bytes start)) to, start + 12 + 4 * count) read three.1)
      (table_same at (pad_in at bytes) (far_target at bytes start) low high (target_of at (s4_in bytes start)) to _ (target_shown at bytes start) (sym top) (targets_shown at bytes (start + 12) count))

  lookup_shown : lookup_switch_at at bytes ≡ Ok read → IsShown at bytes (lookup_operands at bytes) read
  lookup_shown is =
      let start = 1 + pad_of at in
      let count = u4_in bytes (start + 4) in
      let pairs = pairs_in at bytes (start + 8) count in
      let operand = fault at rules.Operand in
      let one = not_fault (nat_lt (length bytes) (start + 8)) operand _ read is in
      let two = not_fault (nat_le (2 ^ 31) count) operand _ read one.1 in
      let three = not_fault (nat_lt (length bytes) (start + 8 + 8 * count)) operand _ read two.1 in
      let four : Ok (Lookup (target_of at (s4_in bytes start)) pairs, start + 8 + 8 * count) ≡ Ok read = (no_fault (keys_increase pairs) operand _ read three.1).1 in
      subst (IsShown at bytes (lookup_operands at bytes)) (same_done (Lookup (target_of at (s4_in bytes start)) pairs, start + 8 + 8 * count) read four)
      (lookup_same at (pad_in at bytes) (far_target at bytes start) (target_of at (s4_in bytes start)) pairs _ (target_shown at bytes start) (keys_shown at bytes (start + 8) count))

  -- ---- behind a wide

  wide_local : (makes : ℕ → Instr) → instr_words at (pad_in at bytes) 4 (makes (u2_in bytes 2)) ≡ decimal (u2_in bytes 2) ∷ [] → (u1_in bytes 1 == IINC) ≡ false → sized at bytes 4 (makes (u2_in bytes 2)) ≡ Ok read → IsShown at bytes (widened_operands bytes) read
  wide_local makes same other is = sized_shown 4 (makes (u2_in bytes 2)) (widened_operands bytes) (rw other (sym same)) is

  wide_increment : cond (u1_in bytes 1 == IINC) (sized at bytes 6 (Iinc (u2_in bytes 2) (s2_in bytes 4))) (Err (fault at rules.Opcode)) ≡ Ok read → IsShown at bytes (widened_operands bytes) read
  wide_increment is =
      let found = no_fault (u1_in bytes 1 == IINC) (fault at rules.Opcode) _ read is in
      sized_shown 6 (Iinc (u2_in bytes 2) (s2_in bytes 4)) (widened_operands bytes) (rw found.0 refl) found.1

  wide_by : (operands : Option Operands) → wide_by_instr operands ≡ wide_by_form operands → is_found operands && (u1_in bytes 1 == IINC) ≡ false → wide_operands at bytes operands ≡ Ok read → IsShown at bytes (widened_operands bytes) read
  wide_by (Some (U2 makes)) same other is =
      wide_local makes (ap (λ (shown : Shown). shown at (pad_in at bytes) (u2_in bytes 2) 0 (pos 0)) same) other is
  wide_by operands same other is = wide_increment is

  -- ---- all forms

  -- what the instruction shows, by what its row has
  in_row : (operands : Operands) → by_instr (Some operands) ≡ by_form (Some operands) → (n m : ℕ) (z : ℤ) → by_form (Some operands) at (pad_in at bytes) n m z ≡ by_instr (Some operands) at (pad_in at bytes) n m z
  in_row operands same n m z = ap (λ (shown : Shown). shown at (pad_in at bytes) n m z) (sym same)

  operands_shown : (operands : Operands) → u1_in bytes 1 < 256 → by_instr (Some operands) ≡ by_form (Some operands) → with_operands at bytes (Some operands) ≡ Ok read → IsShown at bytes (listed_operands at bytes operands) read
  operands_shown (Alone instr) small same is = subst (IsShown at bytes []) (same_done (instr, 1) read is) (in_row (Alone instr) same 0 0 (pos 0))
  operands_shown (U1 makes) small same is = sized_shown 2 (makes (u1_in bytes 1)) (listed_operands at bytes (U1 makes)) (in_row (U1 makes) same (u1_in bytes 1) 0 (pos 0)) is
  operands_shown (U2 makes) small same is = sized_shown 3 (makes (u2_in bytes 1)) (listed_operands at bytes (U2 makes)) (in_row (U2 makes) same (u2_in bytes 1) 0 (pos 0)) is
  operands_shown (S1 makes) small same is = sized_shown 2 (makes (s1_in bytes 1)) (listed_operands at bytes (S1 makes)) (in_row (S1 makes) same 0 0 (s1_in bytes 1)) is
  operands_shown (S2 makes) small same is = sized_shown 3 (makes (s2_in bytes 1)) (listed_operands at bytes (S2 makes)) (in_row (S2 makes) same 0 0 (s2_in bytes 1)) is
  operands_shown (U1S1 makes) small same is = sized_shown 3 (makes (u1_in bytes 1) (s1_in bytes 2)) (listed_operands at bytes (U1S1 makes)) (in_row (U1S1 makes) same (u1_in bytes 1) 0 (s1_in bytes 2)) is
  operands_shown ArrayCode small same is = sized_if_shown (is_array_code (u1_in bytes 1)) 2 (NewArray (u1_in bytes 1)) (listed_operands at bytes ArrayCode) refl is
  operands_shown Dimensions small same is = sized_if_shown (has_dimensions (u1_in bytes 3)) 4 (NewMulti (u2_in bytes 1) (u1_in bytes 3)) (listed_operands at bytes Dimensions) refl is
  operands_shown (U2U1Zero makes) small same is = sized_if_shown (u1_in bytes 4 == 0) 5 (makes (u2_in bytes 1) (u1_in bytes 3)) (listed_operands at bytes (U2U1Zero makes)) (in_row (U2U1Zero makes) same (u2_in bytes 1) (u1_in bytes 3) (pos 0)) is
  operands_shown (U2ZeroZero makes) small same is = sized_if_shown (u2_in bytes 3 == 0) 5 (makes (u2_in bytes 1)) (listed_operands at bytes (U2ZeroZero makes)) (in_row (U2ZeroZero makes) same (u2_in bytes 1) 0 (pos 0)) is
  operands_shown (Jump2 makes) small same is =
      let offset = s2_in bytes 1 in
      let kept = ap (λ (to : ℤ). signed_decimal to ∷ []) (sym (target_kept at offset (s2_fits bytes 1))) in
      sized_shown 3 (makes (target_of at offset)) (listed_operands at bytes (Jump2 makes)) (kept ∙ in_row (Jump2 makes) same (target_of at offset) 0 (pos 0)) is
  operands_shown (Jump4 makes) small same is =
      let kept = ap (λ (word : Word). word ∷ []) (target_shown at bytes 1) in
      let to = target_of at (s4_in bytes 1) in
      sized_shown 5 (makes to) (listed_operands at bytes (Jump4 makes)) (kept ∙ in_row (Jump4 makes) same to 0 (pos 0)) is
  operands_shown TableSwitch small same is = table_shown is
  operands_shown LookupSwitch small same is = lookup_shown is
  operands_shown Wide small same is =
      let long = not_fault (nat_lt (length bytes) 2) (fault at rules.Operand) _ read is in
      let opcode = u1_in bytes 1 in
      wide_by (operands_in wide_rows opcode) (same_wide opcode small) (apart opcode small) long.1

  some_shown : (operands : Option Operands) → u1_in bytes 1 < 256 → by_instr operands ≡ by_form operands → with_operands at bytes operands ≡ Ok read → IsShown at bytes (operands_at at bytes operands) read
  some_shown None small same is = absurd cc
  some_shown (Some operands) small same is = operands_shown operands small same is

  -- the mnemonic and the operands
  pub instr_shown : u1_in bytes 0 < 256 → u1_in bytes 1 < 256 → instr_at at bytes ≡ Ok read → operation_words (operation_at at bytes) ≡ name_word bytes ∷ instr_words at (pad_in at bytes) read.1 read.0
  unfolding instr_at
  instr_shown first second is = by (u1_in bytes 0 == WIDE) refl where
    by : (test : Bool) → (u1_in bytes 0 == WIDE) ≡ test → operation_words (operation_at at bytes) ≡ name_word bytes ∷ instr_words at (pad_in at bytes) read.1 read.0
    by true wide =
        let row : operands_in rows (u1_in bytes 0) ≡ Some Wide = ap (operands_in rows) (eqb-true (u1_in bytes 0) WIDE wide) in
        let behind : with_operands at bytes (Some Wide) ≡ Ok read = subst (λ (o : Option Operands). with_operands at bytes o ≡ Ok read) row is in
        rw wide (ap (λ (words : List Word). (codes "wide_" ++ mnemonic (u1_in bytes 1)) ∷ words) (operands_shown Wide second refl behind))
    by false plain =
        rw plain (ap (λ (words : List Word). mnemonic (u1_in bytes 0) ∷ words)
        (some_shown (operands_in rows (u1_in bytes 0)) second (same_shown (u1_in bytes 0) first) is))
