-- A table of bootstrap methods that could be cut is as long as its content.
use Rattle.std.proofs.Common.{◌≡◌, ℕ, zero, suc, ◌+◌, ◌*◌, ◌≤◌, ltb, eqb, List, [], ◌∷◌, length, take, Some, Ok, Err, refl, ap, subst, arith, length-drop}
use Rattle.std.specs.Int.{w16, from_be_bytes}
use Rattle.std.proofs.lemmas.Bool.{eqb-true, ltb-false}
use Rattle.class_model.specs.Checks.{fault, ◌>>=◌}
use Rattle.class_model.specs.Cutting.{Rest, Cut, behind, bytes_at, u2_at, many_at, counted_at}
use Rattle.class_model.specs.Laws.Cuts.{bind_ok, done, same_done, guard_false, guard_some}
use Rattle.class_model.specs.Methods.{Bootstrap, bootstrap_at, bootstraps}
use Rattle.class_model.specs.declared.fault.FileRule.TheVariants as rules
use Rattle.class_bytes.specs.Inner.Bootstraps.{bootstraps_len}

-- So many bytes were taken from the front.
record Took (rest : Rest) (len : ℕ) (after : Rest) : Type 0 where
  pub is : length rest.bytes ≡ len + length after.bytes

-- what a part cuts takes so many bytes
record HasLen {X : Type 0} (part : Rest → Cut X) (len : X → ℕ) : Type 0 where
  pub takes : (rest : Rest) (x : X × Rest) → part rest ≡ Ok x → Took rest (len x.0) x.1

made : {Y : Type 0} (len : Y → ℕ) (rest : Rest) (x y : Y × Rest) → Took rest (len x.0) x.1 → done x ≡ done y → Took rest (len y.0) y.1
made {Y = Y} len rest x y took e = subst (λ (z : Y × Rest). Took rest (len z.0) z.1) (same_done x y e) took

bytes_long : (count : ℕ) (rest : Rest) (x : List ℕ × Rest) → bytes_at count rest ≡ Ok x → Took rest count x.1
bytes_long count rest x e =
    let g = guard_false (ltb (length rest.bytes) count) (fault rest.at rules.Short) (take count rest.bytes, behind count rest) x e in
    let long : count ≤ length rest.bytes = ltb-false _ _ g.0 in
    let took : Took rest count (behind count rest) = record { is = omega (arith, length-drop count rest.bytes) } in
    subst (λ (z : List ℕ × Rest). Took rest count z.1) g.1 took

index_len : HasLen u2_at (λ index. 2)
index_len = record {
  takes = λ rest x e.
      let item = bind_ok (bytes_at 2 rest) (λ item. Ok (from_be_bytes w16 item.0, item.1)) x e in
      made (λ index. 2) rest (from_be_bytes w16 item.0.0, item.0.1) x (bytes_long 2 rest item.0 item.1) item.2;
}

-- how many bytes parts take
abbrev len_all : {X : Type 0} → (X → ℕ) → List X → ℕ
len_all len [] = 0
len_all len (x ∷ xs) = len x + len_all len xs

many_long : {X : Type 0} (part : Rest → Cut X) (len : X → ℕ) → HasLen part len → (count : ℕ) (rest : Rest) (x : List X × Rest) → many_at part count rest ≡ Ok x → Took rest (len_all len x.0) x.1
unfolding many_at
many_long part len has zero rest x e = made (len_all len) rest ([], rest) x (record { is = omega arith }) e
many_long part len has (suc count) rest x e =
    let first = bind_ok (part rest) (λ first. many_at part count first.1 >>= λ others. Ok (first.0 ∷ others.0, others.1)) x e in
    let others = bind_ok (many_at part count first.0.1) (λ others. Ok (first.0.0 ∷ others.0, others.1)) x first.2 in
    let a = (has.takes rest first.0 first.1).is in
    let b = (many_long part len has count first.0.1 others.0 others.1).is in
    made (len_all len) rest (first.0.0 ∷ others.0.0, others.0.1) x (record { is = omega (arith, a, b) }) others.2

counted_long : {X : Type 0} (part : Rest → Cut X) (len : X → ℕ) → HasLen part len → (rest : Rest) (x : List X × Rest) → counted_at part rest ≡ Ok x → Took rest (2 + len_all len x.0) x.1
counted_long part len has rest x e =
    let count = bind_ok (u2_at rest) (λ count. many_at part count.0 count.1) x e in
    let a = (index_len.takes rest count.0 count.1).is in
    let b = (many_long part len has count.0.0 count.0.1 x count.2).is in
    record { is = omega (arith, a, b) }

indices_all : (indices : List ℕ) → len_all (λ index. 2) indices ≡ 2 * length indices
indices_all [] = refl
indices_all (index ∷ indices) = omega (arith, indices_all indices)

abbrev bootstrap_len : Bootstrap → ℕ
bootstrap_len method = 4 + 2 * length method.arguments

bootstraps_all : (methods : List Bootstrap) → len_all bootstrap_len methods ≡ bootstraps_len methods
bootstraps_all [] = refl
bootstraps_all (method ∷ methods) = omega (arith, bootstraps_all methods)

bootstrap_has_len : HasLen bootstrap_at bootstrap_len
bootstrap_has_len = record {
  takes = λ rest x e.
      let handle = bind_ok (u2_at rest) (λ handle. counted_at u2_at handle.1 >>= λ arguments. Ok (record { handle = handle.0; arguments = arguments.0 }, arguments.1)) x e in
      let arguments = bind_ok (counted_at u2_at handle.0.1) (λ arguments. Ok (record { handle = handle.0.0; arguments = arguments.0 }, arguments.1)) x handle.2 in
      let a = (index_len.takes rest handle.0 handle.1).is in
      let b = (counted_long u2_at (λ index. 2) index_len handle.0.1 arguments.0 arguments.1).is in
      made bootstrap_len rest (record { handle = handle.0.0; arguments = arguments.0.0 }, arguments.0.1) x (record { is = omega (arith, a, b, indices_all arguments.0.0) }) arguments.2;
}

abbrev table_of : List ℕ → Cut (List Bootstrap)
table_of content = counted_at bootstrap_at (record { at = 0; bytes = content })

pub table_long : (content : List ℕ) (methods : List Bootstrap) → bootstraps content ≡ Some methods → length content ≡ 2 + bootstraps_len methods
table_long content methods is = by_cut (table_of content) refl where
  by_cut : (cut : Cut (List Bootstrap)) → table_of content ≡ cut → length content ≡ 2 + bootstraps_len methods
  by_cut (Err f) e = let none = rw e at is in absurd cc
  by_cut (Ok x) e =
      let g = guard_some (eqb (length x.1.bytes) 0) x.0 methods (rw e at is) in
      let empty : length x.1.bytes ≡ 0 = eqb-true (length x.1.bytes) 0 g.0 in
      let took = (counted_long bootstrap_at bootstrap_len bootstrap_has_len (record { at = 0; bytes = content }) x e).is in
      let same : bootstraps_len x.0 ≡ bootstraps_len methods = ap bootstraps_len g.1 in
      omega (arith, took, empty, same, bootstraps_all x.0)
