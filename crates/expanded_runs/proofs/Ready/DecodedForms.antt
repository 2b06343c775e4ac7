-- The instructions of a code have their forms: each has a spelling, wherever it stands.
use Rattle.std.proofs.Common.{◌≡◌, ℕ, zero, suc, ◌+◌, ◌-◌, ◌*◌, ◌≤◌, ◌<◌, ◌^◌, ℤ, leb, ltb, Bool, true, false, ◌&&◌, List, [], ◌∷◌, drop, length, map, slice_get, Option, Some, None, Ok, refl, sym, ap, subst, ◌∙◌, arith, inl, inr}
use Rattle.std.specs.Prelude.{◌==◌, ◌+ℤ◌, ◌≤ℤ◌, FitsSigned, int_lt, nat_le, nat_lt, not, pos}
use Rattle.std.specs.Int.Signed.{lt_z_no}
use Rattle.std.proofs.Math.Dec.{T}
use Rattle.std.proofs.Math.Facts.{sfits_to_z}
use Rattle.std.proofs.lemmas.Int.{ints}
use Rattle.std.specs.Int.{cast_signed, w16, w32, w8}
use Rattle.std.specs.List.{AllByRecursion}
use Rattle.std.proofs.lemmas.Bool.{and_parts, cases_Bool, cases_lt, le-ltb, leb-true, lt-ltb, ltb-false, ltb-true}
use Rattle.std.proofs.lemmas.List.{length-drop, length-map}
use Rattle.class_model.specs.Checks.{fault}
use Rattle.class_model.specs.Cutting.{IsBytes}
use Rattle.class_model.specs.Instructions.{Alone, ArrayCode, Dimensions, Jump2, Jump4, LookupSwitch, Operands, S1, S2, TableSwitch, U1, U1S1, U2, U2U1Zero, U2ZeroZero, Wide, decoded, has_dimensions, instr_at, instrs_at, is_array_code, keys_increase, lookup_switch_at, operands_in, pad_of, pairs_in, rows, s1_in, s2_in, s4_in, sized, sized_if, span, table_switch_at, target_of, targets_in, u1_in, u2_in, u4_in, wide_operands, wide_rows, with_operands}
use Rattle.class_model.specs.Laws.Cuts.{IsBytes-drop, bind_ok, guard_false, same_done}
use Rattle.class_model.specs.Tables.{Row}
use Rattle.class_model.specs.declared.fault.FileRule.TheVariants as rules
use Rattle.class_model.specs.declared.instr.Instr.{Instr}
use Rattle.class_model.specs.declared.instr.Instr.TheVariants.{Iinc, Lookup, NewArray, NewMulti, Table}
use Rattle.class_model.specs.declared.instr.Pair.{Pair}
use Rattle.class_model.specs.declared.instr.Placed.{Placed}
use Rattle.class_model.specs.declared.opcodes.TheConstants.{IINC}
use Rattle.code_bytes.specs.Encoding.{OpcodeTakes}
use Rattle.expanded_runs.proofs.Plans.FewTargets.{many_pairs, many_targets, no_fault, not_fault}
use Rattle.member_link.specs.Targets.{HasForm, pair_to}

-- ---- the table

-- what these operands make has its form, where signed numbers fit two bytes
abbrev HaveForms : Operands → Type 0
HaveForms (Alone instr) = HasForm instr
HaveForms (U1 makes) = (n : ℕ) → HasForm (makes n)
HaveForms (U2 makes) = (n : ℕ) → HasForm (makes n)
HaveForms (S1 makes) = (n : ℤ) → FitsSigned w16 n → HasForm (makes n)
HaveForms (S2 makes) = (n : ℤ) → FitsSigned w16 n → HasForm (makes n)
HaveForms (U1S1 makes) = (n : ℕ) (m : ℤ) → HasForm (makes n m)
HaveForms (U2U1Zero makes) = (n m : ℕ) → HasForm (makes n m)
HaveForms (U2ZeroZero makes) = (n : ℕ) → HasForm (makes n)
HaveForms (Jump2 makes) = (n : ℕ) → HasForm (makes n)
HaveForms (Jump4 makes) = (n : ℕ) → HasForm (makes n)
HaveForms operands = Unit {0}

abbrev RowForms : Row Operands → Type 0
RowForms r = (opcode : ℕ) → r.low ≤ opcode → opcode ≤ r.high → OpcodeTakes opcode (r.gives opcode) → HaveForms (r.gives opcode)

-- of a table whose rows give what the whole table gives
in_rows : (table : List (Row Operands)) → AllByRecursion RowForms table → (opcode : ℕ) (operands : Operands) → OpcodeTakes opcode operands
    → operands_in table opcode ≡ Some operands
    → HaveForms operands
in_rows [] holds opcode operands takes found = absurd cc
in_rows (r ∷ others) holds opcode operands takes found =
    elim (cases_Bool (leb r.low opcode && leb opcode r.high)) [
      | inl here ↦
          let within = and_parts (leb r.low opcode) (leb opcode r.high) here in
          let is : Some (r.gives opcode) ≡ Some operands = rw here at found in
          let same : r.gives opcode ≡ operands = cc in
          subst HaveForms same
          (holds.0 opcode (leb-true _ _ within.0) (leb-true _ _ within.1) (subst (OpcodeTakes opcode) (sym same) takes))
      | inr past ↦ in_rows others holds.1 opcode operands takes (rw past at found)
    ]

one_of_two : (P : ℕ → Type 0) (first n : ℕ) → first ≤ n → n ≤ first + 1 → P first → P (first + 1) → P n
one_of_two P first n least most one two = elim (cases_lt first n) [
  | inl more ↦ subst P (omega (arith, more, most)) two
  | inr same ↦ subst P (omega (arith, same, least)) one
]

one_of_three : (P : ℕ → Type 0) (first n : ℕ) → first ≤ n → n ≤ first + 2 → P first → P (first + 1) → P (first + 2) → P n
one_of_three P first n least most one two three = elim (cases_lt (first + 1) n) [
  | inl more ↦ subst P (omega (arith, more, most)) three
  | inr less ↦ one_of_two P first n least (omega (arith, less)) one two
]

-- what a row of the table gives, by its number
abbrev FormsAt : ℕ → ℕ → Type 0
FormsAt number opcode = of_row (slice_get rows number) where
  of_row : Option (Row Operands) → Type 0
  of_row None = Unit {0}
  of_row (Some r) = HaveForms (r.gives opcode)

rows_form : AllByRecursion RowForms rows
rows_form = (
  (λ opcode low high takes. tt),
  (
    (λ opcode low high takes. tt),
    (
      (λ opcode low high takes. omega arith),
      (
        (λ opcode low high takes. omega (arith, low, high)),
        (
          (λ opcode low high takes. one_of_two (FormsAt 4) 9 opcode low high (inl refl) (inr refl)),
          (
            (λ opcode low high takes. one_of_three (FormsAt 5) 11 opcode low high (inl refl) (inr (inl refl)) (inr (inr refl))),
            (
              (λ opcode low high takes. one_of_two (FormsAt 6) 14 opcode low high (inl refl) (inr refl)),
              (
                (λ opcode low high takes. λ n fits. fits),
                (
                  (λ opcode low high takes. λ n fits. fits),
                  (
                    (λ opcode low high takes. λ n. tt),
                    (
                      (λ opcode low high takes. λ n. tt),
                      (
                        (λ opcode low high takes. λ n. tt),
                        (
                          (λ opcode low high takes. λ n. tt),
                          (
                            (λ opcode low high takes. tt),
                            (
                              (λ opcode low high takes. takes),
                              (
                                (λ opcode low high takes. λ n. tt),
                                (
                                  (λ opcode low high takes. tt),
                                  (
                                    (λ opcode low high takes. takes),
                                    (
                                      (λ opcode low high takes. takes),
                                      (
                                        (λ opcode low high takes. takes),
                                        (
                                          (λ opcode low high takes. takes),
                                          (
                                            (λ opcode low high takes. takes),
                                            (
                                              (λ opcode low high takes. takes),
                                              (
                                                (λ opcode low high takes. takes),
                                                (
                                                  (λ opcode low high takes. takes),
                                                  (
                                                    (λ opcode low high takes. takes),
                                                    (
                                                      (λ opcode low high takes. takes),
                                                      (
                                                        (λ opcode low high takes. takes),
                                                        (
                                                          (λ opcode low high takes. takes),
                                                          (
                                                            (λ opcode low high takes. takes),
                                                            (
                                                              (λ opcode low high takes. takes),
                                                              (
                                                                (λ opcode low high takes. takes),
                                                                (
                                                                  (λ opcode low high takes. λ n m. tt),
                                                                  (
                                                                    (λ opcode low high takes. refl),
                                                                    (
                                                                      (λ opcode low high takes. takes),
                                                                      (
                                                                        (λ opcode low high takes. refl),
                                                                        (
                                                                          (λ opcode low high takes. takes),
                                                                          (
                                                                            (λ opcode low high takes. takes),
                                                                            (
                                                                              (λ opcode low high takes. takes),
                                                                              (
                                                                                (λ opcode low high takes. λ n. (takes, omega arith)),
                                                                                (
                                                                                  (λ opcode low high takes. λ n. (takes, omega arith)),
                                                                                  (
                                                                                    (λ opcode low high takes. λ n. (takes, omega arith)),
                                                                                    (
                                                                                      (λ opcode low high takes. λ n. tt),
                                                                                      (
                                                                                        (λ opcode low high takes. tt),
                                                                                        (
                                                                                          (λ opcode low high takes. tt),
                                                                                          (
                                                                                            (λ opcode low high takes. tt),
                                                                                            (
                                                                                              (λ opcode low high takes. tt),
                                                                                              (
                                                                                                (λ opcode low high takes. λ n. tt),
                                                                                                (
                                                                                                  (λ opcode low high takes. λ n. tt),
                                                                                                  (
                                                                                                    (λ opcode low high takes. λ n. tt),
                                                                                                    (
                                                                                                      (λ opcode low high takes. λ n. tt),
                                                                                                      (
                                                                                                        (λ opcode low high takes. λ n. inl (takes, refl)),
                                                                                                        (
                                                                                                          (λ opcode low high takes. λ n m. inr refl),
                                                                                                          (
                                                                                                            (λ opcode low high takes. λ n. tt),
                                                                                                            (
                                                                                                              (λ opcode low high takes. λ n. tt),
                                                                                                              (
                                                                                                                (λ opcode low high takes. tt),
                                                                                                                (
                                                                                                                  (λ opcode low high takes. λ n. tt),
                                                                                                                  (
                                                                                                                    (λ opcode low high takes. tt),
                                                                                                                    (
                                                                                                                      (λ opcode low high takes. tt),
                                                                                                                      (
                                                                                                                        (λ opcode low high takes. λ n. tt),
                                                                                                                        (
                                                                                                                          (λ opcode low high takes. λ n. tt),
                                                                                                                          (
                                                                                                                            (λ opcode low high takes. tt),
                                                                                                                            (
                                                                                                                              (λ opcode low high takes. tt),
                                                                                                                              (
                                                                                                                                (λ opcode low high takes. tt),
                                                                                                                                (
                                                                                                                                  (λ opcode low high takes. tt),
                                                                                                                                  (
                                                                                                                                    (λ opcode low high takes. λ n. (takes, omega arith)),
                                                                                                                                    ((λ opcode low high takes. λ n. tt), tt),
                                                                                                                                  ),
                                                                                                                                ),
                                                                                                                              ),
                                                                                                                            ),
                                                                                                                          ),
                                                                                                                        ),
                                                                                                                      ),
                                                                                                                    ),
                                                                                                                  ),
                                                                                                                ),
                                                                                                              ),
                                                                                                            ),
                                                                                                          ),
                                                                                                        ),
                                                                                                      ),
                                                                                                    ),
                                                                                                  ),
                                                                                                ),
                                                                                              ),
                                                                                            ),
                                                                                          ),
                                                                                        ),
                                                                                      ),
                                                                                    ),
                                                                                  ),
                                                                                ),
                                                                              ),
                                                                            ),
                                                                          ),
                                                                        ),
                                                                      ),
                                                                    ),
                                                                  ),
                                                                ),
                                                              ),
                                                            ),
                                                          ),
                                                        ),
                                                      ),
                                                    ),
                                                  ),
                                                ),
                                              ),
                                            ),
                                          ),
                                        ),
                                      ),
                                    ),
                                  ),
                                ),
                              ),
                            ),
                          ),
                        ),
                      ),
                    ),
                  ),
                ),
              ),
            ),
          ),
        ),
      ),
    ),
  ),
)

-- behind a wide
abbrev WideForms : Row Operands → Type 0
WideForms r = (opcode : ℕ) → HaveForms (r.gives opcode)

in_wide_rows : (table : List (Row Operands)) → AllByRecursion WideForms table → (opcode : ℕ) (operands : Operands)
    → operands_in table opcode ≡ Some operands
    → HaveForms operands
in_wide_rows [] holds opcode operands found = absurd cc
in_wide_rows (r ∷ others) holds opcode operands found =
    elim (cases_Bool (leb r.low opcode && leb opcode r.high)) [
      | inl here ↦
          let is : Some (r.gives opcode) ≡ Some operands = rw here at found in
          let same : r.gives opcode ≡ operands = cc in
          subst HaveForms same (holds.0 opcode)
      | inr past ↦ in_wide_rows others holds.1 opcode operands (rw past at found)
    ]

wide_rows_form : AllByRecursion WideForms wide_rows
wide_rows_form = ((λ opcode. λ n. tt), ((λ opcode. λ n. tt), tt))

-- ---- numbers

byte_small : (bytes : List ℕ) (at : ℕ) → IsBytes bytes → u1_in bytes at < 256
byte_small bytes at are = of_front (drop at bytes) (IsBytes-drop at bytes are) where
  of_front : (rest : List ℕ) → IsBytes rest → u1_in rest 0 < 256
  of_front [] are = omega arith
  of_front (byte ∷ rest) are = omega (arith, are.0)

word_small : (bytes : List ℕ) (at : ℕ) → IsBytes bytes → u2_in bytes at < 65536
word_small bytes at are = of_front (drop at bytes) (IsBytes-drop at bytes are) where
  of_front : (rest : List ℕ) → IsBytes rest → u2_in rest 0 < 65536
  of_front [] are = omega arith
  of_front (one ∷ []) are = omega (arith, are.0)
  of_front (one ∷ two ∷ rest) are = omega (arith, are.0, are.1.0)

long_small : (bytes : List ℕ) (at : ℕ) → IsBytes bytes → u4_in bytes at < 2 ^ 32
long_small bytes at are = of_front (drop at bytes) (IsBytes-drop at bytes are) where
  of_front : (rest : List ℕ) → IsBytes rest → u4_in rest 0 < 2 ^ 32
  of_front [] are = omega arith
  of_front (one ∷ []) are = omega (arith, are.0)
  of_front (one ∷ two ∷ []) are = omega (arith, are.0, are.1.0)
  of_front (one ∷ two ∷ three ∷ []) are = omega (arith, are.0, are.1.0, are.1.1.0)
  of_front (one ∷ two ∷ three ∷ four ∷ rest) are = omega (arith, are.0, are.1.0, are.1.1.0, are.1.1.1.0)

word_fits : (bits : ℕ) → bits < 65536 → FitsSigned w16 (cast_signed w16 bits)
word_fits bits fits =
    elim (cases_lt bits (2 ^ 15)) [
      | inl small ↦ rw (lt-ltb bits (2 ^ 15) small) (record { sfits = omega arith })
      | inr large ↦ rw (le-ltb bits (2 ^ 15) large) (record { sfits = omega arith })
    ]

byte_fits : (bits : ℕ) → bits < 256 → FitsSigned w16 (cast_signed w8 bits)
byte_fits bits fits =
    elim (cases_lt bits (2 ^ 7)) [
      | inl small ↦ rw (lt-ltb bits (2 ^ 7) small) (record { sfits = omega arith })
      | inr large ↦ rw (le-ltb bits (2 ^ 7) large) (record { sfits = omega arith })
    ]

-- ---- switches

at_least : (low high : ℤ) → int_lt high low ≡ false → low ≤ℤ high
at_least low high e = lt_z_no (subst (λ b. T (not b)) (sym e) tt)

-- the highest key
high_is : (low high : ℤ) (count : ℕ) → FitsSigned w32 low → FitsSigned w32 high → low ≤ℤ high → span low high ≡ count
    → low +ℤ pos (count - 1) ≡ high
high_is low high count low_fits high_fits least counted = omega (arith, ints)

long_fits : (bytes : List ℕ) (at : ℕ) → IsBytes bytes → FitsSigned w32 (s4_in bytes at)
long_fits bytes at are = sfits_to_z (record { fits = long_small bytes at are })

pub keys_same : (place : ℕ → ℕ) (pairs : List Pair) → keys_increase (map (pair_to place) pairs) ≡ keys_increase pairs
keys_same place [] = refl
keys_same place (first ∷ []) = refl
keys_same place (first ∷ second ∷ pairs) = ap (λ (b : Bool). int_lt first.key second.key && b) (keys_same place (second ∷ pairs))

-- ---- one instruction

abbrev HasFormRead : Instr × ℕ → Type 0
HasFormRead read = HasForm read.0

table_form : (low : ℤ) (other : ℕ) (list : List ℕ) → 1 ≤ length list → length list ≤ 65535 → FitsSigned w32 (low +ℤ pos (length list - 1))
    → HasForm (Table low other list)
table_form low other list some few fits =
    let many = length-map list (λ (n : ℕ). 0) in (
      omega (arith, some, many),
      omega (arith, few, many),
      subst (λ (n : ℕ). FitsSigned w32 (low +ℤ pos (n - 1))) (sym many) fits,
    )

module _ (at : ℕ) (bytes : List ℕ) (are : IsBytes bytes) (short : length bytes ≤ 65535) (read : Instr × ℕ) where
  sized_form : (len : ℕ) (instr : Instr) → HasForm instr → sized at bytes len instr ≡ Ok read → HasFormRead read
  sized_form len instr form e =
      let g = guard_false (ltb (length bytes) len) (fault at rules.Operand) (instr, len) read e in
      subst HasFormRead g.1 form

  sized_if_form : (allowed : Bool) (len : ℕ) (instr : Instr) → (allowed ≡ true → HasForm instr) → sized_if allowed at bytes len instr ≡ Ok read
      → HasFormRead read
  sized_if_form allowed len instr form e =
      let long = not_fault (ltb (length bytes) len) (fault at rules.Operand) _ read e in
      let is = no_fault allowed (fault at rules.Operand) (Ok (instr, len)) read long.1 in
      subst HasFormRead (same_done (instr, len) read is.1) (form is.0)

  table_has : table_switch_at at bytes ≡ Ok read → HasFormRead read
  table_has e =
      let start = 1 + pad_of at in
      let low = s4_in bytes (start + 4) in
      let high = s4_in bytes (start + 8) in
      let count = span low high in
      let operand = fault at rules.Operand in
      let one = not_fault (nat_lt (length bytes) (start + 12)) operand _ read e in
      let two = not_fault (int_lt high low) operand _ read one.1 in
      let three = not_fault (nat_lt (length bytes) (start + 12 + 4 * count)) operand _ read two.1 in
      let within = ltb-false _ _ three.0 in
      let list = targets_in at bytes (start + 12) count in
      let many : length list ≡ count = many_targets at bytes (start + 12) count in
      let is = same_done (Table low (target_of at (s4_in bytes start)) list, start + 12 + 4 * count) read three.1 in
      let top = high_is low high count (long_fits bytes (start + 4) are) (long_fits bytes (start + 8) are) (at_least low high two.0) refl in
      subst HasFormRead is
      (table_form low (target_of at (s4_in bytes start)) list (some_count count (length list) many refl) (few_count (length list) count start many within short)
      (subst (λ (n : ℕ). FitsSigned w32 (low +ℤ pos (n - 1))) (sym many) (subst (FitsSigned w32) (sym top) (long_fits bytes (start + 8) are))))
    where
      some_count : (count long : ℕ) → long ≡ count → count ≡ span (s4_in bytes (1 + pad_of at + 4)) (s4_in bytes (1 + pad_of at + 8)) → 1 ≤ long
      some_count count long same is = omega (arith, same, is)

      few_count : (long count start : ℕ) → long ≡ count → start + 12 + 4 * count ≤ length bytes → length bytes ≤ 65535 → long ≤ 65535
      few_count long count start same within few = omega (arith, same, within, few)

  lookup_has : lookup_switch_at at bytes ≡ Ok read → HasFormRead read
  lookup_has e =
      let start = 1 + pad_of at in
      let count = u4_in bytes (start + 4) in
      let pairs = pairs_in at bytes (start + 8) count in
      let operand = fault at rules.Operand in
      let one = not_fault (nat_lt (length bytes) (start + 8)) operand _ read e in
      let two = not_fault (nat_le (2 ^ 31) count) operand _ read one.1 in
      let three = not_fault (nat_lt (length bytes) (start + 8 + 8 * count)) operand _ read two.1 in
      let within = ltb-false _ _ three.0 in
      let four = no_fault (keys_increase pairs) operand (Ok (Lookup (target_of at (s4_in bytes start)) pairs, start + 8 + 8 * count)) read three.1 in
      let many : length pairs ≡ count = many_pairs at bytes (start + 8) count in
      let is = same_done (Lookup (target_of at (s4_in bytes start)) pairs, start + 8 + 8 * count) read four.1 in
      subst HasFormRead is (
        few_count (length pairs) (length (map (pair_to (λ _. 0)) pairs)) count start many (length-map pairs (pair_to (λ _. 0))) within short,
        keys_same (λ _. 0) pairs ∙ four.0,
      )
    where
      few_count : (long set count start : ℕ) → long ≡ count → set ≡ long → start + 8 + 8 * count ≤ length bytes → length bytes ≤ 65535 → set ≤ 65535
      few_count long set count start same also within few = omega (arith, same, also, within, few)

  wide_has : (operands : Option Operands) → ((given : Operands) → operands ≡ Some given → HaveForms given)
      → wide_operands at bytes operands ≡ Ok read
      → HasFormRead read
  wide_has (Some (U2 makes)) forms e = sized_form 4 (makes (u2_in bytes 2)) (forms (U2 makes) refl (u2_in bytes 2)) e
  wide_has operands forms e =
      sized_form 6 (Iinc (u2_in bytes 2) (s2_in bytes 4)) tt (no_fault (u1_in bytes 1 == IINC) (fault at rules.Opcode) _ read e).1

  array_form : (code : ℕ) → is_array_code code ≡ true → HasForm (NewArray code)
  array_form code is = let both = and_parts _ _ is in (leb-true _ _ both.0, leb-true _ _ both.1)

  dimensions_form : (index dimensions : ℕ) → has_dimensions dimensions ≡ true → HasForm (NewMulti index dimensions)
  dimensions_form index dimensions is = ltb-true _ _ is

  operands_has : (operands : Operands) → HaveForms operands → with_operands at bytes (Some operands) ≡ Ok read → HasFormRead read
  operands_has (Alone instr) form e = subst HasFormRead (same_done (instr, 1) read e) form
  operands_has (U1 makes) form e = sized_form 2 (makes (u1_in bytes 1)) (form (u1_in bytes 1)) e
  operands_has (U2 makes) form e = sized_form 3 (makes (u2_in bytes 1)) (form (u2_in bytes 1)) e
  operands_has (S1 makes) form e = sized_form 2 (makes (s1_in bytes 1)) (form (s1_in bytes 1) (byte_fits (u1_in bytes 1) (byte_small bytes 1 are))) e
  operands_has (S2 makes) form e = sized_form 3 (makes (s2_in bytes 1)) (form (s2_in bytes 1) (word_fits (u2_in bytes 1) (word_small bytes 1 are))) e
  operands_has (U1S1 makes) form e = sized_form 3 (makes (u1_in bytes 1) (s1_in bytes 2)) (form (u1_in bytes 1) (s1_in bytes 2)) e
  operands_has ArrayCode form e = sized_if_form (is_array_code (u1_in bytes 1)) 2 (NewArray (u1_in bytes 1)) (array_form (u1_in bytes 1)) e
  operands_has Dimensions form e =
      sized_if_form (has_dimensions (u1_in bytes 3)) 4 (NewMulti (u2_in bytes 1) (u1_in bytes 3)) (dimensions_form (u2_in bytes 1) (u1_in bytes 3)) e
  operands_has (U2U1Zero makes) form e =
      sized_if_form (u1_in bytes 4 == 0) 5 (makes (u2_in bytes 1) (u1_in bytes 3)) (λ allowed. form (u2_in bytes 1) (u1_in bytes 3)) e
  operands_has (U2ZeroZero makes) form e =
      sized_if_form (u2_in bytes 3 == 0) 5 (makes (u2_in bytes 1)) (λ allowed. form (u2_in bytes 1)) e
  operands_has (Jump2 makes) form e = sized_form 3 (makes (target_of at (s2_in bytes 1))) (form (target_of at (s2_in bytes 1))) e
  operands_has (Jump4 makes) form e = sized_form 5 (makes (target_of at (s4_in bytes 1))) (form (target_of at (s4_in bytes 1))) e
  operands_has TableSwitch form e = table_has e
  operands_has LookupSwitch form e = lookup_has e
  operands_has Wide form e =
      let long = not_fault (nat_lt (length bytes) 2) (fault at rules.Operand) _ read e in
      wide_has (operands_in wide_rows (u1_in bytes 1)) (λ given is. in_wide_rows wide_rows wide_rows_form (u1_in bytes 1) given is) long.1

  instr_has : instr_at at bytes ≡ Ok read → HasFormRead read
  unfolding instr_at
  instr_has e = by (operands_in rows (u1_in bytes 0)) (λ given is. in_rows rows rows_form (u1_in bytes 0) given is is) e where
    by : (operands : Option Operands) → ((given : Operands) → operands ≡ Some given → HaveForms given) → with_operands at bytes operands ≡ Ok read
        → HasFormRead read
    by None forms e = absurd cc
    by (Some operands) forms e = operands_has operands (forms operands refl) e

-- ---- all

abbrev pub HaveDecodedForms : List Placed → Type 0
HaveDecodedForms instrs = AllByRecursion (λ (placed : Placed). HasForm placed.instr) instrs

instrs_have : (left at : ℕ) (bytes : List ℕ) (instrs : List Placed) → IsBytes bytes → length bytes ≤ 65535 → instrs_at left at bytes ≡ Ok instrs
    → HaveDecodedForms instrs
unfolding instrs_at
instrs_have zero at [] instrs are short e = subst HaveDecodedForms (same_done [] instrs e) tt
instrs_have zero at (byte ∷ bytes) instrs are short e = subst HaveDecodedForms (same_done [] instrs e) tt
instrs_have (suc left) at [] instrs are short e = subst HaveDecodedForms (same_done [] instrs e) tt
instrs_have (suc left) at (byte ∷ bytes) instrs are short e =
    let read = bind_ok (instr_at at (byte ∷ bytes)) _ instrs e in
    let others = bind_ok (instrs_at left (at + read.0.1) (drop read.0.1 (byte ∷ bytes))) _ instrs read.2 in
    let shorter = length-drop read.0.1 (byte ∷ bytes) in
    let first : Placed = record { at = at; len = read.0.1; instr = read.0.0 } in
    subst HaveDecodedForms (same_done (first ∷ others.0) instrs others.2) (
      instr_has at (byte ∷ bytes) are short read.0 read.1,
      instrs_have left (at + read.0.1) (drop read.0.1 (byte ∷ bytes)) others.0 (IsBytes-drop read.0.1 (byte ∷ bytes) are) (omega (arith, shorter, short))
          others.1,
    )

-- Each instruction of a code of bytes has its form.
pub decoded_forms : (code : List ℕ) (instrs : List Placed) → IsBytes code → length code ≤ 65535 → decoded code ≡ Ok instrs → HaveDecodedForms instrs
decoded_forms code instrs are short e = instrs_have (length code) 0 code instrs are short e
