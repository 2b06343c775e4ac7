-- Flags of fields of which private and final may be cleared.
use Rattle.std.proofs.Common.{arith, ◌≡◌, ◌+◌, ◌*◌, ◌≤◌, ◌%◌, ◌^◌, ◌==◌, not, ℕ, Bool, true, false, bit_and, refl, sym, ap, ◌∙◌}
use Rattle.std.specs.Int.{bit_at}
use Rattle.std.specs.Int.Bits.{and_self, and_zero_r, bit_xor, xor_add_and}
use Rattle.std.proofs.lemmas.Bool.{eqb-true, false≢true}
use Rattle.std.proofs.lemmas.Nat.{and_assoc, and_le_l}
use Rattle.std.proofs.lemmas.Nat.Bits.{and_pow, bit_at-lt, bit_at_and, bit_at_xor}
use Rattle.class_model.specs.Members.{FINAL, PRIVATE, PROTECTED, PUBLIC, STATIC, has}
use Rattle.member_link.specs.Machine.Replaced.{without_flags}

module _ (flags cleared : ℕ) where
  -- what is cleared of the flags
  abbrev taken : ℕ
  taken = bit_and flags (bit_and cleared (PRIVATE + FINAL))

  within : bit_and flags taken ≡ taken
  within =
      sym (and_assoc (bit_and cleared (PRIVATE + FINAL)) flags flags)
      ∙ ap (λ (n : ℕ). bit_and n (bit_and cleared (PRIVATE + FINAL))) (and_self flags)

  differ : bit_xor flags taken ≡ without_flags flags cleared
  differ =
      let less : taken ≤ flags = and_le_l flags (bit_and cleared (PRIVATE + FINAL)) in
      omega (arith, xor_add_and flags taken, within, less)

  left : (k : ℕ) → bit_at (without_flags flags cleared) k ≡ (bit_at flags k + bit_at taken k) % 2
  left k = ap (λ (n : ℕ). bit_at n k) (sym differ) ∙ bit_at_xor flags taken k

  -- a flag that is neither private nor final stays
  stays : (k : ℕ) → bit_at (PRIVATE + FINAL) k ≡ 0 → has (without_flags flags cleared) (2 ^ k) ≡ has flags (2 ^ k)
  stays k other =
      let own = bit_at_and flags (bit_and cleared (PRIVATE + FINAL)) k in
      let both = bit_at_and cleared (PRIVATE + FINAL) k in
      let untaken : bit_at taken k ≡ 0 = omega (arith, own, both, other) in
      let same : bit_at (without_flags flags cleared) k ≡ bit_at flags k = left k ∙ omega (arith, untaken, bit_at-lt flags k) in
      ap (λ (n : ℕ). not (n == 0)) (and_pow (without_flags flags cleared) k ∙ ap (λ (n : ℕ). n * 2 ^ k) same ∙ sym (and_pow flags k))

  pub public_stays : has (without_flags flags cleared) PUBLIC ≡ has flags PUBLIC
  public_stays = stays 0 refl

  pub protected_stays : has (without_flags flags cleared) PROTECTED ≡ has flags PROTECTED
  protected_stays = stays 2 refl

  pub static_stays : has (without_flags flags cleared) STATIC ≡ has flags STATIC
  static_stays = stays 3 refl

  -- a flag that is left was there
  was : (k : ℕ) → (bit_and flags (2 ^ k) ≡ 0 → bit_at flags k ≡ 0) → has (without_flags flags cleared) (2 ^ k) ≡ true
      → has flags (2 ^ k) ≡ true
  was k no_bit is = by (bit_and flags (2 ^ k) == 0) refl where
    by : (b : Bool) → (bit_and flags (2 ^ k) == 0) ≡ b → has flags (2 ^ k) ≡ true
    by false e = ap not e
    by true e =
        let own = bit_at_and flags (bit_and cleared (PRIVATE + FINAL)) k in
        let none : bit_at flags k ≡ 0 = no_bit (eqb-true (bit_and flags (2 ^ k)) 0 e) in
        let untaken : bit_at taken k ≡ 0 = omega (arith, own, none) in
        let gone : bit_at (without_flags flags cleared) k ≡ 0 = left k ∙ omega (arith, untaken, none) in
        let nothing : 0 * 2 ^ k ≡ 0 = omega arith in
        absurd (false≢true (sym (ap (λ (n : ℕ). not (n == 0)) (and_pow (without_flags flags cleared) k ∙ ap (λ (n : ℕ). n * 2 ^ k) gone ∙ nothing)) ∙ is))

  pub was_private : has (without_flags flags cleared) PRIVATE ≡ true → has flags PRIVATE ≡ true
  was_private is = was 1 (λ none. omega (arith, and_pow flags 1, none)) is

  pub was_final : has (without_flags flags cleared) FINAL ≡ true → has flags FINAL ≡ true
  was_final is = was 4 (λ none. omega (arith, and_pow flags 4, none)) is

pub nothing_cleared : (flags : ℕ) → without_flags flags 0 ≡ flags
nothing_cleared flags = let e : bit_and flags (bit_and 0 (PRIVATE + FINAL)) ≡ 0 = and_zero_r flags in rw e (omega arith)
