-- Whatever spells an instruction is what is written of it, or longer: row by row of the table.
use Rattle.std.proofs.Common.{◌≡◌, ℕ, zero, suc, ◌+◌, ◌-◌, ◌<◌, ◌≤◌, eqb, Bool, true, false, List, [], ◌∷◌, Some, w16, inl, inr, refl, ap, ◌∙◌, subst, arith}
use Rattle.std.specs.Int.{cast_signed}
use Rattle.std.specs.List.{AllByRecursion}
use Rattle.std.proofs.lemmas.Bool.{eqb-true, ne_eqb}
use Rattle.class_model.specs.Laws.Checks.{◌▸◌}
use Rattle.class_model.specs.Spelling.{u2}
use Rattle.class_model.specs.Instructions.{Operands, Alone, U1, U2, S1, S2, U1S1, ArrayCode, Dimensions, U2U1Zero, U2ZeroZero, Jump2, Jump4, TableSwitch, LookupSwitch, Wide, rows, wide_rows, operands_in, kind_at, target_of}
use Rattle.class_model.specs.declared.instr.Imm.TheVariants as imms
use Rattle.class_model.specs.declared.instr.Instr.{Instr}
use Rattle.class_model.specs.declared.instr.Instr.TheVariants.{Const, Ldc, Ldc2, Load, Store, Iinc, If, If2, IfSame, IfNull, Goto, GetStatic, PutStatic, GetField, PutField, Invoke, Dynamic, New, NewArray, NewRefArray, NewMulti, Cast, InstanceOf}
use Rattle.code_bytes.specs.Forms.{kind_index, jump_bytes, instr_bytes}
use Rattle.code_bytes.specs.Numbers.{IsU2}
use Rattle.code_bytes.specs.Spellings.{ReadsOne, ReadsTwo, Reads}
use Rattle.code_bytes.proofs.Outcomes.{Outcome, exact, int_byte, int_word, ldc_byte, ldc_word, local_byte, local_wide, iinc_byte, iinc_wide, jump_near, goto_near, goto_far}
use Rattle.code_bytes.proofs.SpelledForms.{load_rows, store_rows}
use Rattle.code_bytes.proofs.SwitchOutcomes.{table_outcome, lookup_outcome}
use Rattle.code_bytes.proofs.TableRules.{RowHolds, in_rows, tests_from, tests_rows, table_rule}

abbrev pub Written : ℕ → Instr → List ℕ → Type 0
Written at instr bytes = Outcome at instr (instr_bytes at instr) bytes

-- ---- opcodes alone

is_one : List ℕ → ℕ → Bool
is_one (byte ∷ []) opcode = eqb byte opcode
is_one bytes opcode = false

one_is : (bytes : List ℕ) (opcode : ℕ) → is_one bytes opcode ≡ true → bytes ≡ opcode ∷ []
unfolding is_one
one_is (byte ∷ []) opcode e = ap (λ b. b ∷ []) (eqb-true byte opcode e)
one_is [] opcode e = absurd (cc)
one_is (byte ∷ other ∷ bytes) opcode e = absurd (cc)

tests_alone : ℕ → ℕ → Operands → Bool
tests_alone at opcode (Alone made) = is_one (instr_bytes at made) opcode
tests_alone at opcode operands = true

alone_written : (at opcode : ℕ) (made : Instr) → operands_in rows opcode ≡ Some (Alone made) → instr_bytes at made ≡ opcode ∷ []
unfolding tests_alone is_one instr_bytes tests_rows tests_from
alone_written at opcode made found = one_is _ opcode (table_rule (tests_alone at) rows refl opcode (Alone made) found)

-- ---- operands of a row

-- what is read of operands is what is written, or longer
abbrev Rule : ℕ → ℕ → Operands → Type 0
Rule at opcode (Alone made) = Unit {0}
Rule at opcode operands = (tail : List ℕ) (instr : Instr) → Reads at operands tail instr → Written at instr (opcode ∷ tail)

by_one : (at opcode : ℕ) (Fits : ℕ → Type 0) (spelling : ℕ → List ℕ) (makes : ℕ → Instr) → ((n : ℕ) → Fits n → Written at (makes n) (opcode ∷ spelling n)) → (tail : List ℕ) (instr : Instr) → ReadsOne Fits spelling makes tail instr → Written at instr (opcode ∷ tail)
by_one at opcode Fits spelling makes rule tail instr r = rw (r.tail_is, r.instr_is) (rule r.number r.fits)

by_two : (at opcode : ℕ) (Fits : ℕ → ℕ → Type 0) (spelling : ℕ → ℕ → List ℕ) (makes : ℕ → ℕ → Instr) → ((n m : ℕ) → Fits n m → Written at (makes n m) (opcode ∷ spelling n m)) → (tail : List ℕ) (instr : Instr) → ReadsTwo Fits spelling makes tail instr → Written at instr (opcode ∷ tail)
by_two at opcode Fits spelling makes rule tail instr r = rw (r.tail_is, r.instr_is) (rule r.first r.second r.fits)

same_u2 : (at opcode : ℕ) (makes : ℕ → Instr) → ((n : ℕ) → instr_bytes at (makes n) ≡ opcode ∷ u2 n) → Rule at opcode (U2 makes)
same_u2 at opcode makes same = by_one at opcode IsU2 u2 makes (λ n _. exact at (makes n) _ _ (same n))

same_jump : (at opcode : ℕ) (makes : ℕ → Instr) → ((to : ℕ) → instr_bytes at (makes to) ≡ jump_bytes opcode at to) → Rule at opcode (Jump2 makes)
same_jump at opcode makes same = by_one at opcode IsU2 u2 (λ n. makes (target_of at (cast_signed w16 n))) (λ n fits. exact at _ _ _ (same _ ∙ jump_near at opcode n fits))

index_kind : (k : ℕ) → k < 5 → kind_index (kind_at k) ≡ k
index_kind zero h = refl
index_kind (suc zero) h = refl
index_kind (suc (suc zero)) h = refl
index_kind (suc (suc (suc zero))) h = refl
index_kind (suc (suc (suc (suc zero)))) h = refl
index_kind (suc (suc (suc (suc (suc k))))) h = absurd (omega arith)

kind_opcode : (general opcode : ℕ) → general ≤ opcode → opcode ≤ general + 4 → general + kind_index (kind_at (opcode - general)) ≡ opcode
kind_opcode general opcode least most = omega (arith, index_kind (opcode - general) (omega arith))

load_byte : (at opcode : ℕ) → 21 ≤ opcode → opcode ≤ 25 → Rule at opcode (U1 (Load (kind_at (opcode - 21))))
unfolding instr_bytes
load_byte at opcode least most = by_one at opcode _ _ (Load (kind_at (opcode - 21))) (λ n fits.
    subst (λ o. Written at (Load (kind_at (opcode - 21)) n) (o ∷ n ∷ [])) (kind_opcode 21 opcode least most)
    (local_byte at 26 21 Load load_rows (omega arith) (omega arith) (kind_at (opcode - 21)) n fits))

store_byte : (at opcode : ℕ) → 54 ≤ opcode → opcode ≤ 58 → Rule at opcode (U1 (Store (kind_at (opcode - 54))))
unfolding instr_bytes
store_byte at opcode least most = by_one at opcode _ _ (Store (kind_at (opcode - 54))) (λ n fits.
    subst (λ o. Written at (Store (kind_at (opcode - 54)) n) (o ∷ n ∷ [])) (kind_opcode 54 opcode least most)
    (local_byte at 59 54 Store store_rows (omega arith) (omega arith) (kind_at (opcode - 54)) n fits))

invoke_word : (at opcode : ℕ) → 182 ≤ opcode → opcode ≤ 184 → Rule at opcode (U2 (λ method. Invoke opcode method 0))
unfolding instr_bytes
invoke_word at opcode least most = same_u2 at opcode _ (λ n. rw (ne_eqb opcode 185 (λ e. omega arith)))

-- ---- behind a wide

abbrev WideRule : ℕ → ℕ → Operands → Type 0
WideRule at opcode (U2 makes) = (n : ℕ) → IsU2 n → Written at (makes n) (196 ∷ opcode ∷ u2 n)
WideRule at opcode operands = Unit {0}

load_wide : (at opcode : ℕ) → 21 ≤ opcode → opcode ≤ 25 → WideRule at opcode (U2 (Load (kind_at (opcode - 21))))
unfolding instr_bytes
load_wide at opcode least most n fits =
    subst (λ o. Written at (Load (kind_at (opcode - 21)) n) (196 ∷ o ∷ u2 n)) (kind_opcode 21 opcode least most)
    (local_wide at 26 21 Load load_rows (omega arith) (omega arith) (kind_at (opcode - 21)) n fits)

store_wide : (at opcode : ℕ) → 54 ≤ opcode → opcode ≤ 58 → WideRule at opcode (U2 (Store (kind_at (opcode - 54))))
unfolding instr_bytes
store_wide at opcode least most n fits =
    subst (λ o. Written at (Store (kind_at (opcode - 54)) n) (196 ∷ o ∷ u2 n)) (kind_opcode 54 opcode least most)
    (local_wide at 59 54 Store store_rows (omega arith) (omega arith) (kind_at (opcode - 54)) n fits)

wide_rule : (at : ℕ) → Rule at 196 Wide
unfolding instr_bytes
wide_rule at tail instr (inl r) =
    rw (r.tail_is, r.instr_is) (in_rows (WideRule at) wide_rows (load_wide at, (store_wide at, tt)) r.opcode (U2 r.makes) r.found r.index r.index_fits)
wide_rule at tail instr (inr r) = rw (r.tail_is, r.instr_is) (iinc_wide at r.index r.bits r.index_fits r.bits_fit)

-- ---- all rows, in order

only : (P : ℕ → Type 0) (low : ℕ) → P low → (opcode : ℕ) → low ≤ opcode → opcode ≤ low → P opcode
only P low here opcode least most = let same : low ≡ opcode = omega arith in subst P same here

skip : {low high : ℕ} → (opcode : ℕ) → low ≤ opcode → opcode ≤ high → Unit {0}
skip opcode least most = tt

all_rules : (at : ℕ) → AllByRecursion (RowHolds (Rule at)) rows
unfolding instr_bytes
all_rules at =
    skip
    ▸ skip
    ▸ skip
    ▸ skip
    ▸ skip
    ▸ skip
    ▸ skip
    ▸ only (λ o. Rule at o (S1 (λ n. Const (imms.Int n)))) 16 (by_one at 16 _ _ _ (int_byte at))
    ▸ only (λ o. Rule at o (S2 (λ n. Const (imms.Int n)))) 17 (by_one at 17 _ _ _ (int_word at))
    ▸ only (λ o. Rule at o (U1 Ldc)) 18 (by_one at 18 _ _ Ldc (ldc_byte at))
    ▸ only (λ o. Rule at o (U2 Ldc)) 19 (by_one at 19 _ _ Ldc (ldc_word at))
    ▸ only (λ o. Rule at o (U2 Ldc2)) 20 (same_u2 at 20 Ldc2 (λ _. refl))
    ▸ load_byte at
    ▸ skip
    ▸ skip
    ▸ store_byte at
    ▸ skip
    ▸ skip
    ▸ skip
    ▸ skip
    ▸ skip
    ▸ skip
    ▸ skip
    ▸ skip
    ▸ skip
    ▸ skip
    ▸ skip
    ▸ skip
    ▸ skip
    ▸ skip
    ▸ skip
    ▸ skip
    ▸ only (λ o. Rule at o (U1S1 Iinc)) 132 (by_two at 132 _ _ _ (λ n m fits. iinc_byte at n m fits.0 fits.1))
    ▸ skip
    ▸ skip
    ▸ skip
    ▸ skip
    ▸ skip
    ▸ skip
    ▸ (λ o _ _. same_jump at o (If o) (λ _. refl))
    ▸ (λ o _ _. same_jump at o (If2 o) (λ _. refl))
    ▸ (λ o _ _. same_jump at o (IfSame o) (λ _. refl))
    ▸ only (λ o. Rule at o (Jump2 Goto)) 167 (by_one at 167 _ _ _ (goto_near at))
    ▸ only (λ o. Rule at o TableSwitch) 170 (λ tail instr r. rw (r.tail_is, r.instr_is) (table_outcome at tail instr r))
    ▸ only (λ o. Rule at o LookupSwitch) 171 (λ tail instr r. rw (r.tail_is, r.instr_is) (lookup_outcome at tail instr r))
    ▸ skip
    ▸ skip
    ▸ only (λ o. Rule at o (U2 GetStatic)) 178 (same_u2 at 178 GetStatic (λ _. refl))
    ▸ only (λ o. Rule at o (U2 PutStatic)) 179 (same_u2 at 179 PutStatic (λ _. refl))
    ▸ only (λ o. Rule at o (U2 GetField)) 180 (same_u2 at 180 GetField (λ _. refl))
    ▸ only (λ o. Rule at o (U2 PutField)) 181 (same_u2 at 181 PutField (λ _. refl))
    ▸ invoke_word at
    ▸ only (λ o. Rule at o (U2U1Zero (Invoke 185))) 185 (by_two at 185 _ _ (Invoke 185) (λ n m _. exact at (Invoke 185 n m) _ _ refl))
    ▸ only (λ o. Rule at o (U2ZeroZero Dynamic)) 186 (by_one at 186 _ _ Dynamic (λ n _. exact at (Dynamic n) _ _ refl))
    ▸ only (λ o. Rule at o (U2 New)) 187 (same_u2 at 187 New (λ _. refl))
    ▸ only (λ o. Rule at o ArrayCode) 188 (by_one at 188 _ _ NewArray (λ n _. exact at (NewArray n) _ _ refl))
    ▸ only (λ o. Rule at o (U2 NewRefArray)) 189 (same_u2 at 189 NewRefArray (λ _. refl))
    ▸ skip
    ▸ skip
    ▸ only (λ o. Rule at o (U2 Cast)) 192 (same_u2 at 192 Cast (λ _. refl))
    ▸ only (λ o. Rule at o (U2 InstanceOf)) 193 (same_u2 at 193 InstanceOf (λ _. refl))
    ▸ skip
    ▸ skip
    ▸ only (λ o. Rule at o Wide) 196 (wide_rule at)
    ▸ only (λ o. Rule at o Dimensions) 197 (by_two at 197 _ _ NewMulti (λ n m _. exact at (NewMulti n m) _ _ refl))
    ▸ (λ o _ _. same_jump at o (IfNull o) (λ _. refl))
    ▸ only (λ o. Rule at o (Jump4 Goto)) 200 (by_one at 200 _ _ _ (goto_far at))
    ▸ tt

outcome_by : (at opcode : ℕ) (operands : Operands) (tail : List ℕ) (instr : Instr) → operands_in rows opcode ≡ Some operands → Rule at opcode operands → Reads at operands tail instr → Written at instr (opcode ∷ tail)
outcome_by at opcode (Alone made) tail instr found rule r = rw (r.0, r.1) (exact at made _ _ (alone_written at opcode made found))
outcome_by at opcode operands tail instr found rule r = rule tail instr r

pub outcome : (at opcode : ℕ) (operands : Operands) (tail : List ℕ) (instr : Instr) → operands_in rows opcode ≡ Some operands → Reads at operands tail instr → Written at instr (opcode ∷ tail)
outcome at opcode operands tail instr found r = outcome_by at opcode operands tail instr found (in_rows (Rule at) rows (all_rules at) opcode operands found) r
