-- What is cut out of bytes has a property, and bytes are left behind it.
use Rattle.std.proofs.Common.{◌≡◌, ◌<◌, ◌≤◌, ◌^◌, ◌==◌, ℕ, zero, suc, ltb, List, [], ◌∷◌, length, take, Result, Ok, refl, ap, subst, arith, length-take}
use Rattle.std.specs.Int.{Width, w16, w32, byte_len, from_be_bytes}
use Rattle.std.specs.List.{AllByRecursion}
use Rattle.std.proofs.lemmas.Bool.{ltb-false}
use Rattle.class_model.specs.Checks.{Fault, fault, ◌>>=◌}
use Rattle.class_model.specs.Cutting.{IsBytes, Rest, Version, Cut, behind, bytes_at, number_at, u2_at, u4_at, many_at, counted_at, version_at, uncut}
use Rattle.class_model.specs.Laws.Cuts.{bind_ok, done, same_done, guard_false, guard_true, below_byte, IsBytes-take, IsBytes-drop}
use Rattle.class_model.specs.Spelling.{magic}
use Rattle.class_model.specs.declared.fault.FileRule.TheVariants as rules

-- ---- bytes

-- ---- parts

pub record AreBytes (rest : Rest) : Type 0 where
  pub bytes : IsBytes rest.bytes

-- What a part cuts out of bytes has a property, and bytes are left.
pub record Keeps {X : Type 0} (part : Rest → Cut X) (Holds : X → Type 0) : Type 0 where
  pub kept : (rest : Rest) (x : X × Rest) → AreBytes rest → part rest ≡ Ok x → Holds x.0 × AreBytes x.1

-- one part more was cut
pub record Step {X Y : Type 0} (Holds : X → Type 0) (f : X × Rest → Result Y Fault) (y : Y) : Type 0 where
  pub got : X × Rest
  pub goes_on : f got ≡ Ok y
  pub holds : Holds got.0
  pub left : AreBytes got.1

pub step : {X Y : Type 0} {part : Rest → Cut X} {Holds : X → Type 0} → Keeps part Holds → {rest : Rest} → AreBytes rest → (f : X × Rest → Result Y Fault) (y : Y) → (part rest >>= f) ≡ Ok y → Step Holds f y
step {part = part} keeps {rest = rest} left f y e =
    let got = bind_ok (part rest) f y e in
    let kept = keeps.kept rest got.0 left got.1 in
    record { got = got.0; goes_on = got.2; holds = kept.0; left = kept.1 }

-- the last step makes a value
pub made : {Y : Type 0} (Holds : Y → Type 0) (x y : Y × Rest) → Holds x.0 → AreBytes x.1 → done x ≡ done y → Holds y.0 × AreBytes y.1
made {Y = Y} Holds x y holds left e = subst (λ (z : Y × Rest). Holds z.0 × AreBytes z.1) (same_done x y e) (holds, left)

-- ---- items

abbrev pub IsBytesOf : ℕ → List ℕ → Type 0
IsBytesOf count bytes = (length bytes ≡ count) × IsBytes bytes

pub bytes_kept : (count : ℕ) → Keeps (bytes_at count) (IsBytesOf count)
bytes_kept count = record {
  kept = λ rest x left e.
      let g = guard_false (ltb (length rest.bytes) count) (fault rest.at rules.Short) (take count rest.bytes, behind count rest) x e in
      let enough : count ≤ length rest.bytes = ltb-false _ _ g.0 in
      let len : length (take count rest.bytes) ≡ count = omega (arith, length-take count rest.bytes) in
      let after : AreBytes (behind count rest) = record { bytes = IsBytes-drop count rest.bytes left.bytes } in
      subst (λ (z : List ℕ × Rest). IsBytesOf count z.0 × AreBytes z.1) g.1 ((len, IsBytes-take count rest.bytes left.bytes), after);
}

number_kept : (w : Width) (Holds : ℕ → Type 0) → ((bytes : List ℕ) → IsBytes bytes → Holds (from_be_bytes w bytes)) → Keeps (number_at w) Holds
number_kept w Holds below = record {
  kept = λ rest x left e.
      let item = step (bytes_kept (byte_len w)) left _ x e in
      made Holds (from_be_bytes w item.got.0, item.got.1) x (below item.got.0 item.holds.1) item.left item.goes_on;
}

pub u2_kept : Keeps u2_at (λ number. number ≤ 65535)
u2_kept = number_kept w16 (λ number. number ≤ 65535) (λ bytes is. omega (arith, below_byte bytes is 0, below_byte bytes is 1))

pub u4_kept : Keeps u4_at (λ number. number < 2 ^ 32)
u4_kept = number_kept w32 (λ number. number < 2 ^ 32) (λ bytes is. let b = below_byte bytes is in omega (arith, b 0, b 1, b 2, b 3))

-- ---- lists

abbrev AreSoMany : {X : Type 0} → (X → Type 0) → ℕ → List X → Type 0
AreSoMany Holds count xs = (length xs ≡ count) × AllByRecursion Holds xs

many_kept : {X : Type 0} {part : Rest → Cut X} {Holds : X → Type 0} → Keeps part Holds → (count : ℕ) → Keeps (many_at part count) (AreSoMany Holds count)
unfolding many_at
many_kept {Holds = Holds} keeps zero = record { kept = λ rest x left e. made (AreSoMany Holds 0) ([], rest) x (refl, tt) left e }
many_kept {Holds = Holds} keeps (suc count) = record {
  kept = λ rest x left e.
      let first = step keeps left _ x e in
      let others = step (many_kept keeps count) first.left _ x first.goes_on in
      made (AreSoMany Holds (suc count)) (first.got.0 ∷ others.got.0, others.got.1) x (ap suc others.holds.0, (first.holds, others.holds.1)) others.left others.goes_on;
}

-- A list fits a count of two bytes, and each item has a property.
pub record IsCounted {X : Type 0} (Each : X → Type 0) (xs : List X) : Type 0 where
  pub count : length xs ≤ 65535
  pub each : AllByRecursion Each xs

pub counted_kept : {X : Type 0} {part : Rest → Cut X} {Holds : X → Type 0} → Keeps part Holds → Keeps (counted_at part) (IsCounted Holds)
counted_kept keeps = record {
  kept = λ rest x left e.
      let count = step u2_kept left _ x e in
      let many = (many_kept keeps count.got.0).kept count.got.1 x count.left count.goes_on in
      (record { count = omega (arith, many.0.0, count.holds); each = many.0.1 }, many.1);
}

-- ---- what is left behind the version

pub version_left : (bytes : List ℕ) (x : Version × Rest) → IsBytes bytes → version_at (uncut bytes) ≡ Ok x → IsBytes x.1.bytes
version_left bytes x is e =
    let whole : AreBytes (uncut bytes) = record { bytes = is } in
    let first = step u4_kept whole _ x e in
    let magical = bind_ok _ _ x first.goes_on in
    let g = guard_true (first.got.0 == magic) (fault 0 rules.Magic) first.got.1 magical.0 magical.1 in
    let minor = step u2_kept (subst AreBytes g.1 first.left) _ x magical.2 in
    let major = step u2_kept minor.left _ x minor.goes_on in
    (made (λ version. Unit {0}) (record { minor = minor.got.0; major = major.got.0 }, major.got.1) x tt major.left major.goes_on).1.bytes
