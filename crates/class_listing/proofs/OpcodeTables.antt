-- The operands of each opcode are listed as the instruction shows them: computed over the table of instructions.
use Rattle.std.proofs.Common.{◌≡◌, ℕ, ◌<◌, ℤ, map, List, [], ◌∷◌, get_or, Option, Some, None, decimal, refl, sym, ap, ◌∙◌, arith}
use Rattle.std.specs.Fmt.{signed_decimal}
use Rattle.std.specs.List.{range_with_len}
use Rattle.std.proofs.lemmas.List.FromFn.{get_or-map-range_with_len}
use Rattle.std.specs.Prelude.{Bool, true, false, ◌==◌, ◌&&◌}
use Rattle.class_model.specs.Instructions.{Operands, Alone, U1, U2, S1, S2, U1S1, U2U1Zero, U2ZeroZero, Jump2, Jump4, rows, wide_rows, operands_in}
use Rattle.class_model.specs.declared.opcodes.TheConstants.{IINC}
use Rattle.script_text.specs.PrintedTexts.{Bytes}
use Rattle.script_text.specs.Scripts.{Word}
use Rattle.class_listing.specs.Inner.InstrWords.{instr_words, target_word}

-- words, by the offset, the pad bytes, two unsigned numbers and a signed one
abbrev pub Shown : Type 0
Shown = ℕ → Bytes → ℕ → ℕ → ℤ → List Word

abbrev pub nothing_shown : Shown
nothing_shown = λ at pad n m z. []

-- those of the instruction that operands of these numbers make
abbrev pub by_instr : Option Operands → Shown
by_instr (Some (Alone instr)) = λ at pad n m z. instr_words at pad 1 instr
by_instr (Some (U1 makes)) = λ at pad n m z. instr_words at pad 2 (makes n)
by_instr (Some (U2 makes)) = λ at pad n m z. instr_words at pad 3 (makes n)
by_instr (Some (S1 makes)) = λ at pad n m z. instr_words at pad 2 (makes z)
by_instr (Some (S2 makes)) = λ at pad n m z. instr_words at pad 3 (makes z)
by_instr (Some (U1S1 makes)) = λ at pad n m z. instr_words at pad 3 (makes n z)
by_instr (Some (U2U1Zero makes)) = λ at pad n m z. instr_words at pad 5 (makes n m)
by_instr (Some (U2ZeroZero makes)) = λ at pad n m z. instr_words at pad 5 (makes n)
by_instr (Some (Jump2 makes)) = λ at pad n m z. instr_words at pad 3 (makes n)
by_instr (Some (Jump4 makes)) = λ at pad n m z. instr_words at pad 5 (makes n)
by_instr other = nothing_shown

-- those of the operands themselves
abbrev pub by_form : Option Operands → Shown
by_form (Some (U1 makes)) = λ at pad n m z. decimal n ∷ []
by_form (Some (U2 makes)) = λ at pad n m z. decimal n ∷ []
by_form (Some (S1 makes)) = λ at pad n m z. signed_decimal z ∷ []
by_form (Some (S2 makes)) = λ at pad n m z. signed_decimal z ∷ []
by_form (Some (U1S1 makes)) = λ at pad n m z. decimal n ∷ signed_decimal z ∷ []
by_form (Some (U2U1Zero makes)) = λ at pad n m z. decimal n ∷ decimal m ∷ []
by_form (Some (U2ZeroZero makes)) = λ at pad n m z. decimal n ∷ []
by_form (Some (Jump2 makes)) = λ at pad n m z. target_word at n ∷ []
by_form (Some (Jump4 makes)) = λ at pad n m z. target_word at n ∷ []
by_form other = nothing_shown

-- they are the same at each byte
same_table : map (λ (o : ℕ). by_instr (operands_in rows o)) (range_with_len 0 256) ≡ map (λ (o : ℕ). by_form (operands_in rows o)) (range_with_len 0 256)
same_table = refl

at_byte : {A : Type 0} (one other : ℕ → A) (d : A) → map one (range_with_len 0 256) ≡ map other (range_with_len 0 256) → (o : ℕ) → o < 256 → one o ≡ other o
at_byte {A} one other d same o below =
    sym (get_or-map-range_with_len one 0 256 o o d below (omega arith))
    ∙ ap (λ (values : List A). get_or values o d) same
    ∙ get_or-map-range_with_len other 0 256 o o d below (omega arith)

pub same_shown : (o : ℕ) → o < 256 → by_instr (operands_in rows o) ≡ by_form (operands_in rows o)
same_shown = at_byte (λ (o : ℕ). by_instr (operands_in rows o)) (λ (o : ℕ). by_form (operands_in rows o)) nothing_shown same_table

-- ---- behind a wide

-- those of the instruction that a number of two bytes makes, and of the number itself
abbrev pub wide_by_instr : Option Operands → Shown
wide_by_instr (Some (U2 makes)) = λ at pad n m z. instr_words at pad 4 (makes n)
wide_by_instr other = nothing_shown

abbrev pub wide_by_form : Option Operands → Shown
wide_by_form (Some (U2 makes)) = λ at pad n m z. decimal n ∷ []
wide_by_form other = nothing_shown

same_wide_table : map (λ (o : ℕ). wide_by_instr (operands_in wide_rows o)) (range_with_len 0 256) ≡ map (λ (o : ℕ). wide_by_form (operands_in wide_rows o)) (range_with_len 0 256)
same_wide_table = refl

pub same_wide : (o : ℕ) → o < 256 → wide_by_instr (operands_in wide_rows o) ≡ wide_by_form (operands_in wide_rows o)
same_wide = at_byte (λ (o : ℕ). wide_by_instr (operands_in wide_rows o)) (λ (o : ℕ). wide_by_form (operands_in wide_rows o)) nothing_shown same_wide_table

-- iinc is none of the loads and stores
abbrev pub is_found : Option Operands → Bool
is_found None = false
is_found (Some operands) = true

apart_table : map (λ (o : ℕ). is_found (operands_in wide_rows o) && (o == IINC)) (range_with_len 0 256) ≡ map (λ (o : ℕ). false) (range_with_len 0 256)
apart_table = refl

pub apart : (o : ℕ) → o < 256 → is_found (operands_in wide_rows o) && (o == IINC) ≡ false
apart = at_byte (λ (o : ℕ). is_found (operands_in wide_rows o) && (o == IINC)) (λ (o : ℕ). false) false apart_table
