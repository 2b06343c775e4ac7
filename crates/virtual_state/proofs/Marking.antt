-- Sites that are marked one by one.
use Rattle.std.proofs.Common.{◌≡◌, ◌==◌, ◌||◌, ◌≤◌, ℕ, Bool, true, false, List, [], ◌∷◌, ◌++◌, length, take, refl, sym, ap, ◌∙◌, arith}
use Rattle.std.proofs.lemmas.List.{length-take, take-take}
use Rattle.std.proofs.lemmas.List.Folds.{list_any-append}
use Rattle.virtual_state.specs.Inner.Marks.{HasMarked}
use Rattle.virtual_state.specs.Sites.{has}

-- ---- one more site

pub has_push : (sites : List ℕ) (site one : ℕ) → has (sites ++ site ∷ []) one ≡ (has sites one || site == one)
has_push sites site one = list_any-append (λ number. number == one) sites (site ∷ []) ∙ ap (λ (b : Bool). has sites one || b) (or_no (site == one)) where
  or_no : (b : Bool) → (b || false) ≡ b
  or_no true = refl
  or_no false = refl

-- one list of sites after the other
pub marked_both : {one two three : List ℕ} {first second : ℕ → Bool} → HasMarked one two first → HasMarked two three second → HasMarked one three (λ site. first site || second site)
marked_both {one} {two} {three} {first} {second} before after = record {
  kept =
      let shorter : length one ≤ length two = omega (arith, length-take (length one) two, ap {B = ℕ} (λ (list : List ℕ). length list) before.kept) in
      sym (take-take (length one) (length two) three shorter)
      ∙ ap (take (length one)) after.kept
      ∙ before.kept;
  marked = λ site. after.marked site ∙ ap (λ (b : Bool). b || second site) (before.marked site) ∙ or_assoc (has one site) (first site) (second site);
} where
  or_assoc : (a b c : Bool) → ((a || b) || c) ≡ (a || (b || c))
  or_assoc true b c = refl
  or_assoc false b c = refl
