-- What is cut from the spelling of what it is: it ends where that ends, and its numbers fit their items, whether or not the rest are bytes.
use Rattle.std.proofs.Common.{◌≡◌, ◌+◌, ◌^◌, ◌<◌, ◌≤◌, ℕ, zero, suc, ltb, List, [], ◌∷◌, ◌++◌, drop, length, take, Ok, refl, sym, ap, subst, ◌∙◌, arith, append_assoc}
use Rattle.std.specs.Int.{Width, w16, w32, w64, byte_len, from_be_bytes, to_be_bytes}
use Rattle.std.specs.List.{AllByRecursion, flat_map}
use Rattle.std.proofs.Math.Seq.{take-append_seam, drop-append_seam}
use Rattle.std.proofs.lemmas.Bool.{ltb-false}
use Rattle.std.proofs.lemmas.List.{length-append, length-take, length-drop}
use Rattle.class_model.specs.Checks.{Fault, fault, ◌>>=◌}
use Rattle.class_model.specs.Cutting.{Rest, Cut, behind, bytes_at, number_at, u1_at, u2_at, u4_at, many_at, counted_at}
use Rattle.class_model.specs.Laws.Cuts.{bind_ok, done, same_done, guard_false}
use Rattle.class_model.specs.Spelling.{u2, u4}
use Rattle.class_model.specs.declared.fault.FileRule.TheVariants as rules

-- ---- bytes

-- what was taken, and what is left
pub record IsTaken (count : ℕ) (rest : Rest) (x : List ℕ × Rest) : Type 0 where
  pub long : length x.0 ≡ count
  pub is : x.0 ≡ take count rest.bytes
  pub behind : x.1.bytes ≡ drop count rest.bytes
  pub within : length rest.bytes ≡ count + length x.1.bytes

pub bytes_taken : (count : ℕ) (rest : Rest) (x : List ℕ × Rest) → bytes_at count rest ≡ Ok x → IsTaken count rest x
bytes_taken count rest x e =
    let g = guard_false (ltb (length rest.bytes) count) (fault rest.at rules.Short) (take count rest.bytes, behind count rest) x e in
    let long : count ≤ length rest.bytes = ltb-false _ _ g.0 in
    let len : length (take count rest.bytes) ≡ count = omega (arith, length-take count rest.bytes) in
    let left : length (drop count rest.bytes) + count ≡ length rest.bytes = omega (arith, length-drop count rest.bytes) in
    subst (IsTaken count rest) g.1 (record { long = len; is = refl; behind = refl; within = omega (arith, left) })

-- a text that is as long as what is taken
pub text_taken : (count : ℕ) (rest : Rest) (x : List ℕ × Rest) (text back : List ℕ) → bytes_at count rest ≡ Ok x → rest.bytes ≡ text ++ back → length text ≡ count
    → (x.0 ≡ text) × (x.1.bytes ≡ back)
text_taken count rest x text back e stands long =
    let taken = bytes_taken count rest x e in (
      taken.is ∙ ap (λ (n : ℕ). take n rest.bytes) (sym long) ∙ ap (take (length text)) stands ∙ take-append_seam text back,
      taken.behind ∙ ap (λ (n : ℕ). drop n rest.bytes) (sym long) ∙ ap (drop (length text)) stands ∙ drop-append_seam text back,
    )

-- ---- numbers

-- a number that is cut where a number of its width is spelled
pub record IsCutOf (w : Width) (m : ℕ) (x : ℕ × Rest) (back : List ℕ) : Type 0 where
  pub is : x.0 ≡ from_be_bytes w (to_be_bytes w m)
  pub behind : x.1.bytes ≡ back

number_any : (w : Width) (m : ℕ) → length (to_be_bytes w m) ≡ byte_len w
    → (rest : Rest) (x : ℕ × Rest) (back : List ℕ) → number_at w rest ≡ Ok x → rest.bytes ≡ to_be_bytes w m ++ back → IsCutOf w m x back
number_any w m long rest x back e stands =
    let item = bind_ok (bytes_at (byte_len w) rest) _ x e in
    let both = same_done (from_be_bytes w item.0.0, item.0.1) x item.2 in
    let taken = text_taken (byte_len w) rest item.0 (to_be_bytes w m) back item.1 stands long in
    subst (λ (y : ℕ × Rest). IsCutOf w m y back) both (record { is = ap (from_be_bytes w) taken.0; behind = taken.1 })

small2 : (n : ℕ) → from_be_bytes w16 (to_be_bytes w16 n) < 2 ^ 16
small2 n = omega arith

small4 : (n : ℕ) → from_be_bytes w32 (to_be_bytes w32 n) < 2 ^ 32
small4 n = omega arith

small8 : (n : ℕ) → from_be_bytes w64 (to_be_bytes w64 n) < 2 ^ 64
small8 n = omega arith

-- a number that fits, and what is left
pub record IsSmall (limit : ℕ) (x : ℕ × Rest) (back : List ℕ) : Type 0 where
  pub less : x.0 < limit
  pub behind : x.1.bytes ≡ back

pub u2_any : (m : ℕ) (rest : Rest) (x : ℕ × Rest) (back : List ℕ) → u2_at rest ≡ Ok x → rest.bytes ≡ u2 m ++ back → IsSmall (2 ^ 16) x back
u2_any m rest x back e stands =
    let cut = number_any w16 m refl rest x back e stands in
    record { less = subst (λ (n : ℕ). n < 2 ^ 16) (sym cut.is) (small2 m); behind = cut.behind }

pub u4_any : (m : ℕ) (rest : Rest) (x : ℕ × Rest) (back : List ℕ) → u4_at rest ≡ Ok x → rest.bytes ≡ u4 m ++ back → IsSmall (2 ^ 32) x back
u4_any m rest x back e stands =
    let cut = number_any w32 m refl rest x back e stands in
    record { less = subst (λ (n : ℕ). n < 2 ^ 32) (sym cut.is) (small4 m); behind = cut.behind }

pub u8_any : (m : ℕ) (rest : Rest) (x : ℕ × Rest) (back : List ℕ) → number_at w64 rest ≡ Ok x → rest.bytes ≡ to_be_bytes w64 m ++ back → IsSmall (2 ^ 64) x back
u8_any m rest x back e stands =
    let cut = number_any w64 m refl rest x back e stands in
    record { less = subst (λ (n : ℕ). n < 2 ^ 64) (sym cut.is) (small8 m); behind = cut.behind }

-- one byte
pub record IsByte (m : ℕ) (x : ℕ × Rest) (back : List ℕ) : Type 0 where
  pub is : x.0 ≡ m
  pub behind : x.1.bytes ≡ back

pub u1_any : (m : ℕ) (rest : Rest) (x : ℕ × Rest) (back : List ℕ) → u1_at rest ≡ Ok x → rest.bytes ≡ m ∷ back → IsByte m x back
u1_any m rest x back e stands =
    let item = bind_ok (bytes_at 1 rest) _ x e in
    let both = same_done (from_be_bytes w16 (0 ∷ item.0.0), item.0.1) x item.2 in
    let taken = text_taken 1 rest item.0 (m ∷ []) back item.1 stands refl in
    let value : from_be_bytes w16 (0 ∷ m ∷ []) ≡ m = omega arith in
    subst (λ (y : ℕ × Rest). IsByte m y back) both (record { is = ap (λ (b : List ℕ). from_be_bytes w16 (0 ∷ b)) taken.0 ∙ value; behind = taken.1 })

-- ---- parts

-- What is cut from its own spelling ends with it, and has a property.
pub record IsOwn {X : Type 0} (part : Rest → Cut X) (spell : X → List ℕ) (Holds : X → Type 0) : Type 0 where
  pub own :
      (rest : Rest) (x : X × Rest) (back : List ℕ) → part rest ≡ Ok x → rest.bytes ≡ spell x.0 ++ back
      → (x.1.bytes ≡ back) × Holds x.0

pub u2_own : IsOwn u2_at u2 (λ n. n < 2 ^ 16)
u2_own = record { own = λ rest x back e stands. let any = u2_any x.0 rest x back e stands in (any.behind, any.less) }

-- what holds of each of so many
pub record AllOf {X : Type 0} (Holds : X → Type 0) (count : ℕ) (xs : List X) : Type 0 where
  pub long : length xs ≡ count
  pub each : AllByRecursion Holds xs

pub many_own : {X : Type 0} {part : Rest → Cut X} {spell : X → List ℕ} {Holds : X → Type 0} → IsOwn part spell Holds → (count : ℕ)
    → IsOwn (many_at part count) (flat_map spell) (AllOf Holds count)
unfolding many_at
many_own {X} {part} {spell} {Holds} own zero = record {
  own = λ rest x back e stands.
      subst (λ (y : List X × Rest). rest.bytes ≡ flat_map spell y.0 ++ back → (y.1.bytes ≡ back) × AllOf Holds 0 y.0) (same_done ([], rest) x e)
      (λ s. (s, record { long = refl; each = tt })) stands;
}
many_own {X} {part} {spell} {Holds} own (suc count) = record {
  own = λ rest x back e stands.
      let first = bind_ok (part rest) _ x e in
      let others = bind_ok (many_at part count first.0.1) _ x first.2 in
      subst (λ (y : List X × Rest). rest.bytes ≡ flat_map spell y.0 ++ back → (y.1.bytes ≡ back) × AllOf Holds (suc count) y.0)
      (same_done (first.0.0 ∷ others.0.0, others.0.1) x others.2)
      (λ s.
      let one = own.own rest first.0 (flat_map spell others.0.0 ++ back) first.1 (s ∙ append_assoc (spell first.0.0) (flat_map spell others.0.0) back) in
      let rec = (many_own own count).own first.0.1 others.0 back others.1 one.0 in
      (rec.0, record { long = ap suc rec.1.long; each = (one.1, rec.1.each) })) stands;
}

-- as many as two bytes count
pub record IsCounted {X : Type 0} (Holds : X → Type 0) (xs : List X) : Type 0 where
  pub few : length xs ≤ 65535
  pub each : AllByRecursion Holds xs

pub counted_own : {X : Type 0} {part : Rest → Cut X} {spell : X → List ℕ} {Holds : X → Type 0} → IsOwn part spell Holds
    → IsOwn (counted_at part) (λ xs. u2 (length xs) ++ flat_map spell xs) (IsCounted Holds)
counted_own {X} {part} {spell} {Holds} own = record {
  own = λ rest x back e stands.
      let count = bind_ok (u2_at rest) _ x e in
      let any = u2_any (length x.0) rest count.0 (flat_map spell x.0 ++ back) count.1 stands in
      let many = (many_own own count.0.0).own count.0.1 x back count.2 any.behind in
      (many.0, record { few = omega (arith, any.less, many.1.long); each = many.1.each });
}
