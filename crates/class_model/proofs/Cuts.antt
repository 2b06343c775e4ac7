-- What is cut from the front of bytes is spelled by the bytes that it took.
use Rattle.std.proofs.Common.{◌≡◌, ℕ, zero, suc, ◌+◌, ◌^◌, ◌<◌, ◌≤◌, ltb, List, [], ◌∷◌, ◌++◌, length, take, Result, Ok, refl, sym, ap, subst, ◌∙◌, append_assoc, arith}
use Rattle.std.specs.Int.{Width, w16, w32, w64, byte_len, from_be_bytes, to_be_bytes}
use Rattle.std.specs.List.{flat_map}
use Rattle.std.proofs.lemmas.Bool.{ltb-false}
use Rattle.std.proofs.lemmas.List.{take-append-drop, length-append, length-take}
use Rattle.std.proofs.lemmas.Nat.{be_bytes_2, be_bytes_4, be_bytes_8}
use Rattle.class_model.specs.Checks.{Fault, fault, ◌>>=◌}
use Rattle.class_model.specs.Cutting.{IsBytes, Rest, Cut, behind, bytes_at, number_at, u1_at, u2_at, u4_at, u2_pair_at, many_at, counted_at}
use Rattle.class_model.specs.Laws.Cuts.{below_byte, IsBytes-take, IsBytes-drop, bind_ok, done, same_done, guard_false}
use Rattle.class_model.specs.Spelling.{u2, u4}
use Rattle.class_model.specs.declared.fault.FileRule.TheVariants as rules

-- ---- bytes

-- ---- parts

-- a text was taken from the front
pub record Takes (rest : Rest) (text : List ℕ) (after : Rest) : Type 0 where
  pub parts : rest.bytes ≡ text ++ after.bytes
  pub place : after.at ≡ rest.at + length text
  pub fits : IsBytes after.bytes

pub takes_none : (rest : Rest) → IsBytes rest.bytes → Takes rest [] rest
takes_none rest h = record { parts = refl; place = omega arith; fits = h }

pub Takes-then : (a : Rest) (x : List ℕ) (b : Rest) (y : List ℕ) (c : Rest) → Takes a x b → Takes b y c → Takes a (x ++ y) c
Takes-then a x b y c p q = record {
  parts = p.parts ∙ ap (λ (t : List ℕ). x ++ t) q.parts ∙ sym (append_assoc x y c.bytes);
  place = omega (arith, p.place, q.place, length-append x y);
  fits = q.fits;
}

-- What a part cuts is spelled by what it took, and has a property.
pub record IsSpelledBy {X : Type 0} (part : Rest → Cut X) (spell : X → List ℕ) (Holds : X → Type 0) : Type 0 where
  pub takes : (rest : Rest) (x : X × Rest) → IsBytes rest.bytes → part rest ≡ Ok x → Takes rest (spell x.0) x.1 × Holds x.0

-- no property
abbrev pub Always : {X : Type 0} → X → Type 0
Always x = Unit {0}

-- one part more was cut, behind a text
pub record Step {X Y : Type 0} (from : Rest) (text : List ℕ) (spell : X → List ℕ) (Holds : X → Type 0) (f : X × Rest → Result Y Fault) (y : Y) : Type 0 where
  pub got : X × Rest
  pub goes_on : f got ≡ Ok y
  pub takes : Takes from (text ++ spell got.0) got.1
  pub holds : Holds got.0

pub step : {X Y : Type 0} {part : Rest → Cut X} {spell : X → List ℕ} {Holds : X → Type 0} → IsSpelledBy part spell Holds → {from : Rest} {text : List ℕ} {rest : Rest} → Takes from text rest → (f : X × Rest → Result Y Fault) (y : Y) → (part rest >>= f) ≡ Ok y → Step from text spell Holds f y
step {part = part} {spell = spell} spelled {from = from} {text = text} {rest = rest} so_far f y e =
    let got = bind_ok (part rest) f y e in
    let took = spelled.takes rest got.0 so_far.fits got.1 in
    record { got = got.0; goes_on = got.2; takes = Takes-then from text rest (spell got.0.0) got.0.1 so_far took.0; holds = took.1 }

-- the last step makes a value that is spelled so
pub made : {Y : Type 0} (spell : Y → List ℕ) (Holds : Y → Type 0) (from : Rest) (x y : Y × Rest) → Takes from (spell x.0) x.1 → Holds x.0 → done x ≡ done y → Takes from (spell y.0) y.1 × Holds y.0
made {Y = Y} spell Holds from x y takes holds e = subst (λ (z : Y × Rest). Takes from (spell z.0) z.1 × Holds z.0) (same_done x y e) (takes, holds)

-- ---- numbers

abbrev IsBytesOf : ℕ → List ℕ → Type 0
IsBytesOf count bytes = (length bytes ≡ count) × IsBytes bytes

pub bytes_spelled : (count : ℕ) → IsSpelledBy (bytes_at count) (λ bytes. bytes) (IsBytesOf count)
bytes_spelled count = record {
  takes = λ rest x fits e.
      let g = guard_false (ltb (length rest.bytes) count) (fault rest.at rules.Short) (take count rest.bytes, behind count rest) x e in
      let long : count ≤ length rest.bytes = ltb-false _ _ g.0 in
      let len : length (take count rest.bytes) ≡ count = omega (arith, length-take count rest.bytes) in
      let takes : Takes rest (take count rest.bytes) (behind count rest) = record { parts = sym (take-append-drop count rest.bytes); place = omega (arith, len); fits = IsBytes-drop count rest.bytes fits } in
      subst (λ (z : List ℕ × Rest). Takes rest z.0 z.1 × IsBytesOf count z.0) g.1 (takes, (len, IsBytes-take count rest.bytes fits));
}

-- A number of a width is below a limit, and its bytes are those that it was made of.
record IsWide (w : Width) (limit : ℕ) : Type 0 where
  pub back : (bytes : List ℕ) → length bytes ≡ byte_len w → IsBytes bytes → to_be_bytes w (from_be_bytes w bytes) ≡ bytes
  pub below : (bytes : List ℕ) → IsBytes bytes → from_be_bytes w bytes < limit

wide16 : IsWide w16 (2 ^ 16)
wide16 = record {
  back = λ bytes len fits. be_bytes_2 bytes _ len (below_byte bytes fits) refl;
  below = λ bytes fits. omega (arith, below_byte bytes fits 0, below_byte bytes fits 1);
}

wide32 : IsWide w32 (2 ^ 32)
wide32 = record {
  back = λ bytes len fits. be_bytes_4 bytes _ len (below_byte bytes fits) refl;
  below = λ bytes fits. let b = below_byte bytes fits in omega (arith, b 0, b 1, b 2, b 3);
}

wide64 : IsWide w64 (2 ^ 64)
wide64 = record {
  back = λ bytes len fits. be_bytes_8 bytes _ len (below_byte bytes fits) refl;
  below = λ bytes fits. let b = below_byte bytes fits in omega (arith, b 0, b 1, b 2, b 3, b 4, b 5, b 6, b 7);
}

number_spelled : (w : Width) (limit : ℕ) → IsWide w limit → IsSpelledBy (number_at w) (to_be_bytes w) (λ n. n < limit)
number_spelled w limit wide = record {
  takes = λ rest x fits e.
      let s = step (bytes_spelled (byte_len w)) (takes_none rest fits) _ x e in
      let front : to_be_bytes w (from_be_bytes w s.got.0) ≡ s.got.0 = wide.back s.got.0 s.holds.0 s.holds.1 in
      made (to_be_bytes w) (λ n. n < limit) rest (from_be_bytes w s.got.0, s.got.1) x (rw front s.takes) (wide.below s.got.0 s.holds.1) s.goes_on;
}

pub u2_spelled : IsSpelledBy u2_at u2 (λ n. n < 2 ^ 16)
u2_spelled = number_spelled w16 (2 ^ 16) wide16

pub u4_spelled : IsSpelledBy u4_at u4 (λ n. n < 2 ^ 32)
u4_spelled = number_spelled w32 (2 ^ 32) wide32

pub u8_spelled : IsSpelledBy (number_at w64) (to_be_bytes w64) (λ n. n < 2 ^ 64)
u8_spelled = number_spelled w64 (2 ^ 64) wide64

one_byte : (bytes : List ℕ) → length bytes ≡ 1 → from_be_bytes w16 (0 ∷ bytes) ∷ [] ≡ bytes
one_byte [] len = absurd (omega (arith, len))
one_byte (b ∷ []) len = ap (λ (n : ℕ). n ∷ []) (omega arith)
one_byte (b ∷ c ∷ bytes) len = absurd (omega (arith, len))

pub u1_spelled : IsSpelledBy u1_at (λ n. n ∷ []) Always
u1_spelled = record {
  takes = λ rest x fits e.
      let s = step (bytes_spelled 1) (takes_none rest fits) _ x e in
      made (λ n. n ∷ []) Always rest (from_be_bytes w16 (0 ∷ s.got.0), s.got.1) x (rw (one_byte s.got.0 s.holds.0) s.takes) tt s.goes_on;
}

pub u2_pair_spelled : IsSpelledBy u2_pair_at (λ p. u2 p.0 ++ u2 p.1) Always
u2_pair_spelled = record {
  takes = λ rest x fits e.
      let a = step u2_spelled (takes_none rest fits) _ x e in
      let b = step u2_spelled a.takes _ x a.goes_on in
      made (λ p. u2 p.0 ++ u2 p.1) Always rest ((a.got.0, b.got.0), b.got.1) x b.takes tt b.goes_on;
}

-- ---- lists of parts

pub many_spelled : {X : Type 0} {part : Rest → Cut X} {spell : X → List ℕ} {Holds : X → Type 0} → IsSpelledBy part spell Holds → (count : ℕ) → IsSpelledBy (many_at part count) (flat_map spell) (λ xs. length xs ≡ count)
unfolding many_at
many_spelled {spell = spell} spelled zero = record { takes = λ rest x fits e. made (flat_map spell) (λ xs. length xs ≡ 0) rest ([], rest) x (takes_none rest fits) refl e }
many_spelled {spell = spell} spelled (suc count) = record {
  takes = λ rest x fits e.
      let a = step spelled (takes_none rest fits) _ x e in
      let b = step (many_spelled spelled count) a.takes _ x a.goes_on in
      made (flat_map spell) (λ xs. length xs ≡ suc count) rest (a.got.0 ∷ b.got.0, b.got.1) x b.takes (ap suc b.holds) b.goes_on;
}

pub counted_spelled : {X : Type 0} {part : Rest → Cut X} {spell : X → List ℕ} {Holds : X → Type 0} → IsSpelledBy part spell Holds → IsSpelledBy (counted_at part) (λ xs. u2 (length xs) ++ flat_map spell xs) Always
counted_spelled {spell = spell} spelled = record {
  takes = λ rest x fits e.
      let n = step u2_spelled (takes_none rest fits) _ x e in
      let m = (many_spelled spelled n.got.0).takes n.got.1 x n.takes.fits n.goes_on in
      let both = Takes-then rest (u2 n.got.0) n.got.1 (flat_map spell x.0) x.1 n.takes m.0 in
      (subst (λ (k : ℕ). Takes rest (u2 k ++ flat_map spell x.0) x.1) (sym m.1) both, tt);
}
