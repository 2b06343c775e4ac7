-- What is cut from the front of numbers, whether or not they are bytes, is as long as what spells it.
use Rattle.std.proofs.Common.{◌≡◌, ℕ, zero, suc, ◌≤◌, ltb, List, [], ◌∷◌, ◌++◌, drop, length, take, Result, Ok, refl, sym, ap, subst, ◌∙◌, arith, length-drop}
use Rattle.std.specs.Int.{w16, w32, w64, from_be_bytes, to_be_bytes}
use Rattle.std.specs.List.{flat_map}
use Rattle.std.proofs.lemmas.Bool.{ltb-false}
use Rattle.std.proofs.lemmas.List.{drop-drop, length-append, length-take}
use Rattle.class_model.specs.Checks.{Fault, fault, ◌>>=◌}
use Rattle.class_model.specs.Cutting.{Rest, Cut, behind, bytes_at, number_at, u1_at, u2_at, u4_at, u2_pair_at, many_at, counted_at}
use Rattle.class_model.specs.Laws.Cuts.{bind_ok, done, same_done, guard_false}
use Rattle.class_model.specs.Spelling.{u2, u4}
use Rattle.class_model.specs.declared.fault.FileRule.TheVariants as rules

-- as much as a text was taken from the front
pub record Takes (rest : Rest) (text : List ℕ) (after : Rest) : Type 0 where
  pub behind : after.bytes ≡ drop (length text) rest.bytes
  pub within : length text ≤ length rest.bytes

pub takes_none : (rest : Rest) → Takes rest [] rest
takes_none rest = record { behind = refl; within = omega arith }

pub Takes-then : (a : Rest) (x : List ℕ) (b : Rest) (y : List ℕ) (c : Rest) → Takes a x b → Takes b y c → Takes a (x ++ y) c
Takes-then a x b y c p q =
    let both = length-append x y in
    let left : length b.bytes ≡ length (drop (length x) a.bytes) = ap (λ (l : List ℕ). length l) p.behind in
    let many = length-drop (length x) a.bytes in
    record {
      behind = q.behind ∙ ap (drop (length y)) p.behind ∙ drop-drop (length y) (length x) a.bytes ∙ ap (λ (n : ℕ). drop n a.bytes) (omega (arith, both));
      within = omega (arith, both, left, many, p.within, q.within);
    }

-- a text as long as another
pub as_long : {rest after : Rest} (one other : List ℕ) → length one ≡ length other → Takes rest one after → Takes rest other after
as_long {rest} {after} one other same takes = record {
  behind = takes.behind ∙ ap (λ (n : ℕ). drop n rest.bytes) same;
  within = omega (arith, same, takes.within);
}

-- What a part cuts is as long as its spelling, and has a property.
pub record IsAsLong {X : Type 0} (part : Rest → Cut X) (spell : X → List ℕ) (Holds : X → Type 0) : Type 0 where
  pub takes : (rest : Rest) (x : X × Rest) → part rest ≡ Ok x → Takes rest (spell x.0) x.1 × Holds x.0

-- no property
abbrev pub Always : {X : Type 0} → X → Type 0
Always x = Unit {0}

-- one part more was cut, behind a text
pub record Step {X Y : Type 0} (from : Rest) (text : List ℕ) (spell : X → List ℕ) (Holds : X → Type 0) (f : X × Rest → Result Y Fault) (y : Y) : Type 0 where
  pub got : X × Rest
  pub goes_on : f got ≡ Ok y
  pub takes : Takes from (text ++ spell got.0) got.1
  pub holds : Holds got.0

pub step : {X Y : Type 0} {part : Rest → Cut X} {spell : X → List ℕ} {Holds : X → Type 0} → IsAsLong part spell Holds → {from : Rest} {text : List ℕ} {rest : Rest} → Takes from text rest → (f : X × Rest → Result Y Fault) (y : Y) → (part rest >>= f) ≡ Ok y → Step from text spell Holds f y
step {part = part} {spell = spell} long {from = from} {text = text} {rest = rest} so_far f y e =
    let got = bind_ok (part rest) f y e in
    let took = long.takes rest got.0 got.1 in
    record { got = got.0; goes_on = got.2; takes = Takes-then from text rest (spell got.0.0) got.0.1 so_far took.0; holds = took.1 }

-- the last step makes a value
pub made : {Y : Type 0} (spell : Y → List ℕ) (Holds : Y → Type 0) (from : Rest) (x y : Y × Rest) → Takes from (spell x.0) x.1 → Holds x.0 → done x ≡ done y → Takes from (spell y.0) y.1 × Holds y.0
made {Y = Y} spell Holds from x y takes holds e = subst (λ (z : Y × Rest). Takes from (spell z.0) z.1 × Holds z.0) (same_done x y e) (takes, holds)

-- ---- numbers

pub bytes_long : (count : ℕ) → IsAsLong (bytes_at count) (λ bytes. bytes) (λ bytes. length bytes ≡ count)
bytes_long count = record {
  takes = λ rest x e.
      let g = guard_false (ltb (length rest.bytes) count) (fault rest.at rules.Short) (take count rest.bytes, behind count rest) x e in
      let long : count ≤ length rest.bytes = ltb-false _ _ g.0 in
      let len : length (take count rest.bytes) ≡ count = omega (arith, length-take count rest.bytes) in
      let takes : Takes rest (take count rest.bytes) (behind count rest) = record { behind = ap (λ (n : ℕ). drop n rest.bytes) (sym len); within = omega (arith, len, long) } in
      subst (λ (z : List ℕ × Rest). Takes rest z.0 z.1 × (length z.0 ≡ count)) g.1 (takes, len);
}

pub u2_long : IsAsLong u2_at u2 Always
u2_long = record {
  takes = λ rest x e.
      let s = step (bytes_long 2) (takes_none rest) _ x e in
      let n = from_be_bytes w16 s.got.0 in
      made u2 Always rest (n, s.got.1) x (as_long s.got.0 (u2 n) s.holds s.takes) tt s.goes_on;
}

pub u4_long : IsAsLong u4_at u4 Always
u4_long = record {
  takes = λ rest x e.
      let s = step (bytes_long 4) (takes_none rest) _ x e in
      let n = from_be_bytes w32 s.got.0 in
      made u4 Always rest (n, s.got.1) x (as_long s.got.0 (u4 n) s.holds s.takes) tt s.goes_on;
}

pub u8_long : IsAsLong (number_at w64) (to_be_bytes w64) Always
u8_long = record {
  takes = λ rest x e.
      let s = step (bytes_long 8) (takes_none rest) _ x e in
      let n = from_be_bytes w64 s.got.0 in
      made (to_be_bytes w64) Always rest (n, s.got.1) x (as_long s.got.0 (to_be_bytes w64 n) s.holds s.takes) tt s.goes_on;
}

pub u1_long : IsAsLong u1_at (λ n. n ∷ []) Always
u1_long = record {
  takes = λ rest x e.
      let s = step (bytes_long 1) (takes_none rest) _ x e in
      let n = from_be_bytes w16 (0 ∷ s.got.0) in
      made (λ n. n ∷ []) Always rest (n, s.got.1) x (as_long s.got.0 (n ∷ []) s.holds s.takes) tt s.goes_on;
}

pub u2_pair_long : IsAsLong u2_pair_at (λ p. u2 p.0 ++ u2 p.1) Always
u2_pair_long = record {
  takes = λ rest x e.
      let a = step u2_long (takes_none rest) _ x e in
      let b = step u2_long a.takes _ x a.goes_on in
      made (λ p. u2 p.0 ++ u2 p.1) Always rest ((a.got.0, b.got.0), b.got.1) x b.takes tt b.goes_on;
}

-- ---- lists of parts

pub many_long : {X : Type 0} {part : Rest → Cut X} {spell : X → List ℕ} {Holds : X → Type 0} → IsAsLong part spell Holds → (count : ℕ) → IsAsLong (many_at part count) (flat_map spell) (λ xs. length xs ≡ count)
unfolding many_at
many_long {spell = spell} long zero = record { takes = λ rest x e. made (flat_map spell) (λ xs. length xs ≡ 0) rest ([], rest) x (takes_none rest) refl e }
many_long {spell = spell} long (suc count) = record {
  takes = λ rest x e.
      let a = step long (takes_none rest) _ x e in
      let b = step (many_long long count) a.takes _ x a.goes_on in
      made (flat_map spell) (λ xs. length xs ≡ suc count) rest (a.got.0 ∷ b.got.0, b.got.1) x b.takes (ap suc b.holds) b.goes_on;
}

pub counted_long : {X : Type 0} {part : Rest → Cut X} {spell : X → List ℕ} {Holds : X → Type 0} → IsAsLong part spell Holds → IsAsLong (counted_at part) (λ xs. u2 (length xs) ++ flat_map spell xs) Always
counted_long {spell = spell} long = record {
  takes = λ rest x e.
      let n = step u2_long (takes_none rest) _ x e in
      let m = (many_long long n.got.0).takes n.got.1 x n.goes_on in
      let both = Takes-then rest (u2 n.got.0) n.got.1 (flat_map spell x.0) x.1 n.takes m.0 in
      (subst (λ (k : ℕ). Takes rest (u2 k ++ flat_map spell x.0) x.1) (sym m.1) both, tt);
}
