-- The word of a value, by its kind.
use Rattle.script_text.specs.Inner.Reading.{IsRead}
use Rattle.std.proofs.Common.{◌≡◌, ◌≢◌, ◌∷◌, ℕ, ℤ, List, Option, Some, None, codes, length, refl, ap, ◌∙◌}
use Rattle.std.specs.Int.{w32, w64}
use Rattle.machine_values.specs.declared.action.Given.{Given}
use Rattle.script_text.specs.Scripts.{Word, SpellsInteger, SpellsBits, SpellsNumber, SpellsGiven, given_int, given_long, given_float, given_double, given_known, given_null, SpellsKnown, spells_known}
use Rattle.script_text.proofs.HexTexts.{hex_length}

pub no_int : (rest : Word) → ((n : ℤ) → ¬ SpellsInteger w32 n rest) → (value : Given) → ¬ SpellsGiven value (105 ∷ 58 ∷ rest)
no_int rest never value (given_int spelled) = never _ spelled

pub no_long : (rest : Word) → ((n : ℤ) → ¬ SpellsInteger w64 n rest) → (value : Given) → ¬ SpellsGiven value (108 ∷ 58 ∷ rest)
no_long rest never value (given_long spelled) = never _ spelled

pub no_float : (rest : Word) → ((n : ℕ) → ¬ SpellsBits 8 n rest) → (value : Given) → ¬ SpellsGiven value (102 ∷ 58 ∷ rest)
no_float rest never value (given_float spelled) = never _ spelled

pub no_double : (rest : Word) → ((n : ℕ) → ¬ SpellsBits 16 n rest) → (value : Given) → ¬ SpellsGiven value (100 ∷ 58 ∷ rest)
no_double rest never value (given_double spelled) = never _ spelled

pub no_known : (rest : Word) → ((n : ℕ) → ¬ SpellsNumber n rest) → (value : Given) → ¬ SpellsGiven value (114 ∷ 58 ∷ rest)
no_known rest never value (given_known spelled) = never _ spelled

pub no_reference : (rest : Word) → ((n : ℕ) → ¬ SpellsNumber n rest) → (n : ℕ) → ¬ SpellsKnown n (114 ∷ 58 ∷ rest)
no_reference rest never n (spells_known spelled) = never _ spelled

pub unmarked : (word : Word) → ((rest : Word) → word ≢ 114 ∷ 58 ∷ rest) → (n : ℕ) → ¬ SpellsKnown n word
unmarked word never n (spells_known {word = rest} spelled) = never rest refl

pub no_value : (word : Word) → ((rest : Word) → word ≢ 105 ∷ 58 ∷ rest) → ((rest : Word) → word ≢ 108 ∷ 58 ∷ rest) → ((rest : Word) → word ≢ 102 ∷ 58 ∷ rest) → ((rest : Word) → word ≢ 100 ∷ 58 ∷ rest) → ((rest : Word) → word ≢ 114 ∷ 58 ∷ rest) → word ≢ codes "null" → (value : Given) → ¬ SpellsGiven value word
no_value word i l f d r n value (given_int {word = rest} spelled) = i rest refl
no_value word i l f d r n value (given_long {word = rest} spelled) = l rest refl
no_value word i l f d r n value (given_float {word = rest} spelled) = f rest refl
no_value word i l f d r n value (given_double {word = rest} spelled) = d rest refl
no_value word i l f d r n value (given_known {word = rest} spelled) = r rest refl
no_value word i l f d r n value given_null = n refl

-- bits are as long as they should be
pub bits_len : (count bits : ℕ) (word : Word) → SpellsBits count bits word → length word ≡ count
bits_len count bits word spelled = ap (λ (t : List ℕ). length t) spelled.spelled ∙ hex_length count bits

pub reference_read : (rest : Word) (r : Option ℕ) → IsRead (λ number. SpellsNumber number rest) r → IsRead (λ number. SpellsKnown number (114 ∷ 58 ∷ rest)) r
reference_read rest (Some number) read = spells_known read
reference_read rest None never = no_reference rest never
