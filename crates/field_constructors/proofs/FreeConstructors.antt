-- The fewest free dimensions of field constructors.
use Rattle.std.proofs.Common.{◌≡◌, ◌⊎◌, ◌+◌, ◌<◌, ◌≤◌, ◌≢◌, leb, ℕ, List, length, Option, Some, None, Result, Ok, Err, IfOk, IsTrue, IsFalse, sym, subst, ◌∙◌, inl, inr, arith}
use Rattle.std.proofs.lemmas.Bool.{cases_Bool, cases_eq, false≢true, leb-false, leb-true}
use Rattle.class_model.specs.declared.header.Header.{Header}
use Rattle.class_model.specs.declared.memory.NoMemory.{NoMemory}
use Rattle.field_constructors.specs.Inner.ConstructorWords.{HasFree, IsFitting, IsFreeConstructor, descriptor_of, is_taken}

-- fewer are all taken
pub record AreTaken (header : Header) (fields handles : List (List ℕ)) (most : ℕ) : Type 0 where
  pub each : (fewer : ℕ) → 1 ≤ fewer → fewer < most → IsTrue (is_taken header handles (descriptor_of fields fewer))

module _ (header : Header) (fields handles : List (List ℕ)) where
  pub none_taken : AreTaken header fields handles 1
  none_taken = record { each = λ fewer some less. absurd (omega (arith, some, less)) }

  pub one_taken : (n : ℕ) → AreTaken header fields handles n → IsTrue (is_taken header handles (descriptor_of fields n)) → AreTaken header fields handles (n + 1)
  one_taken n taken here = record {
    each = λ fewer some less. elim (cases_eq fewer n) [
      | inl same ↦ subst (λ (d : ℕ). IsTrue (is_taken header handles (descriptor_of fields d))) (sym same) here
      | inr differ ↦ taken.each fewer some (omega (arith, less, differ))
    ];
  }

  -- the fewest are free, and are the ones
  pub free_there : (n : ℕ) (found : Option (List ℕ)) → 1 ≤ n → n ≤ 8 → AreTaken header fields handles n → IsFalse (is_taken header handles (descriptor_of fields n))
      → IsFitting (descriptor_of fields n) found → IsFreeConstructor header fields handles found
  free_there n (Some text) some few taken free fits = (
    record { dimensions = n; some = some; few = few; free = free; fewest = taken.each; fits = fits.1 },
    fits.0,
  )
  free_there n None some few taken free long = λ has.
      let fits : length (descriptor_of fields n) ≤ 65535 = subst (λ (d : ℕ). length (descriptor_of fields d) ≤ 65535) (by has (cases_eq has.dimensions n)) has.fits in
      omega (arith, fits, long)
    where
      by : (has : HasFree header fields handles) → (has.dimensions ≡ n) ⊎ (has.dimensions ≢ n) → has.dimensions ≡ n
      by has (inl same) = same
      by has (inr differ) = elim (cases_Bool (leb n has.dimensions)) [
        | inl more ↦ absurd (false≢true (sym free ∙ has.fewest n some (omega (arith, leb-true n has.dimensions more, differ))))
        | inr less ↦ absurd (false≢true (sym has.free ∙ taken.each has.dimensions has.some (leb-false n has.dimensions less)))
      ]

  pub free_found : (n : ℕ) (bytes : List ℕ) (result : Result (Option (List ℕ)) NoMemory) → 1 ≤ n → n ≤ 8 → AreTaken header fields handles n → IsFalse (is_taken header handles (descriptor_of fields n))
      → bytes ≡ descriptor_of fields n → IfOk result (IsFitting bytes) → IfOk result (IsFreeConstructor header fields handles)
  free_found n bytes (Err fault) some few taken free same fits = tt
  free_found n bytes (Ok found) some few taken free same fits = free_there n found some few taken free (subst (λ (b : List ℕ). IsFitting b found) same fits)

  pub none_free : (n : ℕ) → 9 ≤ n → AreTaken header fields handles n → ¬ HasFree header fields handles
  none_free n end taken has = false≢true (sym has.free ∙ taken.each has.dimensions has.some (omega (arith, has.few, end)))
