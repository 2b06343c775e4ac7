-- What is held is what the counts above zero say, and zeros say nothing.
use Rattle.std.proofs.Common.{◌≡◌, ◌++◌, ◌∷◌, [], ◌-◌, ◌+◌, ◌<◌, ℕ, zero, suc, List, ap, refl, ◌∙◌, arith, map, replicate}
use Rattle.machine_values.specs.Counts.{all_counts, AreHeld}
use Rattle.machine_values.specs.declared.count_list.HeldCount.{HeldCount}
use Rattle.script_text.specs.Events.{held_words, held_word}
use Rattle.script_text.specs.Inner.Held.{held_listed}

pub zeros_say_nothing : (from count other : ℕ) (counts : List ℕ) → other ≡ count + from → held_words from (replicate count 0 ++ counts) ≡ held_words other counts
zeros_say_nothing from zero other counts e = ap (λ (n : ℕ). held_words n counts) (omega (arith, e))
zeros_say_nothing from (suc count) other counts e = zeros_say_nothing (suc from) count other counts (omega (arith, e))

pub all_zeros : (from count : ℕ) → held_words from (replicate count 0) ≡ []
all_zeros from zero = refl
all_zeros from (suc count) = all_zeros (suc from) count

some_count : (number count : ℕ) (counts : List ℕ) → 0 < count → held_words number (count ∷ counts) ≡ held_word number count ∷ held_words (suc number) counts
some_count number count counts some = grind arith

pub held_by_counts : (from len : ℕ) (held : List HeldCount) → AreHeld from len held → held_words from (all_counts from len held) ≡ map held_listed held
held_by_counts from len [] are = all_zeros from (len - from)
held_by_counts from len (first ∷ others) are =
    zeros_say_nothing from (first.number - from) first.number (first.count ∷ all_counts (suc first.number) len others) (omega (arith, are.0))
    ∙ (some_count first.number first.count (all_counts (suc first.number) len others) are.1.1.0
    ∙ ap (λ (words : List (List ℕ)). held_listed first ∷ words) (held_by_counts (suc first.number) len others are.1.1.1))
