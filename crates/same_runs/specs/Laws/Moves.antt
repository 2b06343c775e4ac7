-- Instructions that move values of the operand stack, and those that go on elsewhere, give the same in both runs. More below the operands
-- stays as it is.
use Rattle.std.proofs.Common.{◌≡◌, ◌==◌, ◌-◌, ℕ, zero, suc, ℤ, pos, int_lt, Bool, true, false, not, List, [], ◌∷◌, ◌++◌, length, take, drop, map, reverse, slice_get, Option, Some, None, option_map, if◌then◌else◌, refl, sym, ap, ◌∙◌, arith}
use Rattle.std.proofs.lemmas.Bool.{eq-eqb, eqb-true, ne_eqb, false≢true}
use Rattle.std.proofs.lemmas.Grind.{reverse_onto}
use Rattle.std.proofs.lemmas.Option.{slice_get-map}
use Rattle.std.specs.Int.{int_gap}
use Rattle.class_model.specs.declared.descriptor.Kind.{Kind}
use Rattle.class_model.specs.declared.instr.Pair.{Pair}
use Rattle.machine_values.specs.Values.{has_kind, is_wide_value}
use Rattle.machine_values.specs.declared.value.Value.{Value}
use Rattle.class_model.specs.declared.opcodes.TheConstants.{IFEQ, IF_ICMPEQ, IF_ACMPEQ}
use Rattle.member_link.specs.Machine.Arithmetic.{holds_for}
use Rattle.member_link.specs.Machine.Locals.{chosen_values, fit_widths, fits_width, form_for, jump_of_int, jump_of_ints, jump_of_null, jump_of_references, lookup_target, same_references, shuffled, table_target, topmost, width_of, with_rest}
use Rattle.member_link.specs.Rows.ShuffleRows.{Form, Width, forms_of}
use Rattle.member_link.specs.Rows.ShuffleRows as widths
use Rattle.same_runs.specs.Renamings.{IsRenaming, Names, SameValue, same_int, same_long, same_float, same_double, same_null, same_reference, SameUnit, no_value, has_value, SameValues, no_values, and_value}
use Rattle.same_runs.specs.SameMoves.{SameStacks, no_stack, have_stack, SameJumps, no_jump, have_jump}

-- a value that is chosen, if it is there
abbrev entry : Option Value → List Value
entry None = []
entry (Some value) = value ∷ []

-- the stack behind a shuffle of a form
abbrev pub shuffled_by : List Value → Form → List Value
shuffled_by stack form = reverse (chosen_values (topmost (length form.takes) stack) form.gives) ++ drop (length form.takes) stack

module _ {names : Names} where
  -- ---- values

  -- values that are the same take as many units
  pub same_wide : {value also : Value} → SameValue names value also → is_wide_value also ≡ is_wide_value value
  same_wide same_int = refl
  same_wide same_long = refl
  same_wide same_float = refl
  same_wide same_double = refl
  same_wide same_null = refl
  same_wide (same_reference is) = refl

  -- in numbers
  pub same_width : {value also : Value} → SameValue names value also → width_of also ≡ width_of value
  same_width is = rw (same_wide is) refl

  -- and are of the same kinds
  pub same_kind : (kind : Kind) {value also : Value} → SameValue names value also → has_kind kind also ≡ has_kind kind value
  same_kind kind same_int = refl
  same_kind kind same_long = refl
  same_kind kind same_float = refl
  same_kind kind same_double = refl
  same_kind kind same_null = refl
  same_kind kind (same_reference is) = grind (arith)

  -- ---- lists of values

  -- the first so many
  pub same_taken : (count : ℕ) {ones others : List Value} → SameValues names ones others
      → SameValues names (take count ones) (take count others)
  same_taken zero are = no_values
  same_taken (suc count) no_values = no_values
  same_taken (suc count) (and_value one rest) = and_value one (same_taken count rest)

  -- and the ones below
  pub same_dropped : (count : ℕ) {ones others : List Value} → SameValues names ones others
      → SameValues names (drop count ones) (drop count others)
  same_dropped zero are = are
  same_dropped (suc count) no_values = no_values
  same_dropped (suc count) (and_value one rest) = same_dropped count rest

  -- one list behind another
  pub same_joined : {ones others more more_also : List Value} → SameValues names ones others → SameValues names more more_also
      → SameValues names (ones ++ more) (others ++ more_also)
  same_joined no_values more = more
  same_joined (and_value one rest) more = and_value one (same_joined rest more)

  -- they are as many
  pub same_count : {ones others : List Value} → SameValues names ones others → length others ≡ length ones
  same_count no_values = refl
  same_count (and_value one rest) = ap suc (same_count rest)

  -- the other way round
  pub same_reversed : {ones others : List Value} → SameValues names ones others → SameValues names (reverse ones) (reverse others)
  same_reversed no_values = no_values
  same_reversed (and_value {one = one} {other = other} {ones = ones} {others = others} is rest) =
      rw (reverse_onto ones one [], reverse_onto others other []) (same_joined (same_reversed rest) (and_value is no_values))

  -- ---- tests of the topmost values

  with_rest_same : (taken : Option Bool) {ones others : List Value} → SameValues names ones others
      → SameJumps names (with_rest ones taken) (with_rest others taken)
  with_rest_same None are = no_jump
  with_rest_same (Some taken) are = have_jump are

  -- ifeq and the like
  pub same_jump_of_int : (opcode : ℕ) {ones others : List Value} → SameValues names ones others
      → SameJumps names (jump_of_int opcode ones) (jump_of_int opcode others)
  same_jump_of_int opcode no_values = no_jump
  same_jump_of_int opcode (and_value (same_int {number = number}) rest) = with_rest_same (holds_for (opcode - IFEQ) number (pos 0)) rest
  same_jump_of_int opcode (and_value same_long rest) = no_jump
  same_jump_of_int opcode (and_value same_float rest) = no_jump
  same_jump_of_int opcode (and_value same_double rest) = no_jump
  same_jump_of_int opcode (and_value same_null rest) = no_jump
  same_jump_of_int opcode (and_value (same_reference is) rest) = no_jump

  -- if_icmpeq and the like
  pub same_jump_of_ints : (opcode : ℕ) {ones others : List Value} → SameValues names ones others
      → SameJumps names (jump_of_ints opcode ones) (jump_of_ints opcode others)
  same_jump_of_ints opcode no_values = no_jump
  same_jump_of_ints opcode (and_value same_long rest) = no_jump
  same_jump_of_ints opcode (and_value same_float rest) = no_jump
  same_jump_of_ints opcode (and_value same_double rest) = no_jump
  same_jump_of_ints opcode (and_value same_null rest) = no_jump
  same_jump_of_ints opcode (and_value (same_reference is) rest) = no_jump
  same_jump_of_ints opcode (and_value same_int no_values) = no_jump
  same_jump_of_ints opcode (and_value (same_int {number = other}) (and_value (same_int {number = one}) rest)) =
      with_rest_same (holds_for (opcode - IF_ICMPEQ) one other) rest
  same_jump_of_ints opcode (and_value same_int (and_value same_long rest)) = no_jump
  same_jump_of_ints opcode (and_value same_int (and_value same_float rest)) = no_jump
  same_jump_of_ints opcode (and_value same_int (and_value same_double rest)) = no_jump
  same_jump_of_ints opcode (and_value same_int (and_value same_null rest)) = no_jump
  same_jump_of_ints opcode (and_value same_int (and_value (same_reference is) rest)) = no_jump

  -- one reference stands for one, so that two of them are the same in both runs or in none
  same_equal : IsRenaming names → (one named other also : ℕ) → names one ≡ Some named → names other ≡ Some also
      → (named == also) ≡ (one == other)
  same_equal renaming one named other also is is_other = by (one == other) refl where
    by : (b : Bool) → (one == other) ≡ b → (named == also) ≡ (one == other)
    by true e =
        let same = eqb-true one other e in
        let named_same : named ≡ also = (let e : Some named ≡ Some also = sym is ∙ ap names same ∙ is_other in cc e) in
        eq-eqb named also named_same ∙ sym e
    by false e =
        ne_eqb named also (λ same. false≢true (sym e ∙ eq-eqb one other (renaming.once one other named is (is_other ∙ ap Some (sym same)))))
        ∙ sym e

  -- whether two operands are the same reference
  pub equal_references : IsRenaming names → {one other one_also other_also : Value} → SameValue names one one_also
      → SameValue names other other_also
      → same_references one_also other_also ≡ same_references one other
  equal_references renaming same_int is = refl
  equal_references renaming same_long is = refl
  equal_references renaming same_float is = refl
  equal_references renaming same_double is = refl
  equal_references renaming same_null same_int = refl
  equal_references renaming same_null same_long = refl
  equal_references renaming same_null same_float = refl
  equal_references renaming same_null same_double = refl
  equal_references renaming same_null same_null = refl
  equal_references renaming same_null (same_reference is) = refl
  equal_references renaming (same_reference is) same_int = refl
  equal_references renaming (same_reference is) same_long = refl
  equal_references renaming (same_reference is) same_float = refl
  equal_references renaming (same_reference is) same_double = refl
  equal_references renaming (same_reference is) same_null = refl
  equal_references renaming (same_reference {reference = one} {named = named} is)
      (same_reference {reference = other} {named = also} is_other) =
      ap Some (same_equal renaming one named other also is is_other)

  -- if_acmpeq and if_acmpne
  pub same_jump_of_references : IsRenaming names → (opcode : ℕ) {ones others : List Value} → SameValues names ones others
      → SameJumps names (jump_of_references opcode ones) (jump_of_references opcode others)
  same_jump_of_references renaming opcode no_values = no_jump
  same_jump_of_references renaming opcode (and_value one no_values) = no_jump
  same_jump_of_references renaming opcode
      (and_value {one = other} {other = other_also} is_other (and_value {one = one} {other = one_also} is rest)) =
      rw (equal_references renaming is is_other)
      (with_rest_same (option_map (λ same. if opcode == IF_ACMPEQ then same else not same) (same_references one other)) rest)

  -- ifnull and ifnonnull
  pub same_jump_of_null : (opcode : ℕ) {ones others : List Value} → SameValues names ones others
      → SameJumps names (jump_of_null opcode ones) (jump_of_null opcode others)
  same_jump_of_null opcode no_values = no_jump
  same_jump_of_null opcode (and_value same_int rest) = no_jump
  same_jump_of_null opcode (and_value same_long rest) = no_jump
  same_jump_of_null opcode (and_value same_float rest) = no_jump
  same_jump_of_null opcode (and_value same_double rest) = no_jump
  same_jump_of_null opcode (and_value same_null rest) = have_jump rest
  same_jump_of_null opcode (and_value (same_reference is) rest) = have_jump rest

  -- ---- pop, dup, swap and the like

  same_topmost : (count : ℕ) {ones others : List Value} → SameValues names ones others
      → SameValues names (topmost count ones) (topmost count others)
  same_topmost count are = same_reversed (same_taken count are)

  same_fit : (width : Width) {one other : Value} → SameValue names one other → fits_width width other ≡ fits_width width one
  same_fit widths.one is = ap not (same_wide is)
  same_fit widths.two is = same_wide is

  same_fits : (all : List Width) {ones others : List Value} → SameValues names ones others → fit_widths all others ≡ fit_widths all ones
  same_fits [] no_values = refl
  same_fits [] (and_value is rest) = refl
  same_fits (width ∷ all) no_values = refl
  same_fits (width ∷ all) (and_value is rest) = rw (same_fit width is, same_fits all rest) refl

  same_form : (forms : List Form) {ones others : List Value} → SameValues names ones others → form_for forms others ≡ form_for forms ones
  same_form [] are = refl
  same_form (form ∷ forms) are = rw (same_fits form.takes (same_topmost (length form.takes) are), same_form forms are) refl

  same_got : (number : ℕ) {ones others : List Value} → SameValues names ones others
      → SameUnit names (slice_get ones number) (slice_get others number)
  same_got number no_values = no_value
  same_got zero (and_value is rest) = has_value is
  same_got (suc number) (and_value is rest) = same_got number rest

  same_entry : {one other : Option Value} → SameUnit names one other → SameValues names (entry one) (entry other)
  same_entry no_value = no_values
  same_entry (has_value is) = and_value is no_values

  same_chosen : (numbers : List ℕ) {ones others : List Value} → SameValues names ones others
      → SameValues names (chosen_values ones numbers) (chosen_values others numbers)
  same_chosen [] are = no_values
  same_chosen (number ∷ numbers) are = same_joined (same_entry (same_got number are)) (same_chosen numbers are)

  -- the same form fits both stacks
  pub same_shuffled : (opcode : ℕ) {ones others : List Value} → SameValues names ones others
      → SameStacks names (shuffled opcode ones) (shuffled opcode others)
  same_shuffled opcode {ones = ones} {others = others} are =
      rw (same_form (forms_of opcode) are) (by (form_for (forms_of opcode) ones)) where
        by : (found : Option Form) → SameStacks names (option_map (shuffled_by ones) found) (option_map (shuffled_by others) found)
        by None = no_stack
        by (Some form) =
            have_stack
            (same_joined (same_reversed (same_chosen form.gives (same_topmost (length form.takes) are)))
            (same_dropped (length form.takes) are))

-- ---- switches

abbrev target_or : ℕ → Option ℕ → ℕ
target_or other None = other
target_or other (Some to) = to

-- the targets of a tableswitch that are renumbered
pub renumbered_table : (start : ℕ → ℕ) (low : ℤ) (other : ℕ) (targets : List ℕ) (key : ℤ)
    → table_target low (start other) (map start targets) key ≡ start (table_target low other targets key)
renumbered_table start low other targets key =
    rw (slice_get-map start targets (int_gap low key)) (by (int_lt key low) (slice_get targets (int_gap low key))) where
      by : (b : Bool) (found : Option ℕ)
          → (if b then start other else target_or (start other) (option_map start found))
          ≡ start (if b then other else target_or other found)
      by true found = refl
      by false None = refl
      by false (Some to) = refl

-- and those of a lookupswitch
pub renumbered_lookup : (start : ℕ → ℕ) (other : ℕ) (pairs : List Pair) (key : ℤ)
    → lookup_target (start other) (map (λ (pair : Pair). record pair { to = start pair.to }) pairs) key
    ≡ start (lookup_target other pairs key)
renumbered_lookup start other [] key = refl
renumbered_lookup start other (pair ∷ pairs) key =
    rw (renumbered_lookup start other pairs key) (by (if int_lt key pair.key then false else not (int_lt pair.key key))) where
      by : (b : Bool)
          → (if b then start pair.to else start (lookup_target other pairs key))
          ≡ start (if b then pair.to else lookup_target other pairs key)
      by true = refl
      by false = refl
