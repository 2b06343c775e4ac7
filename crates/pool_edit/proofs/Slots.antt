-- Where an entry stands in lists that are joined.
use Rattle.std.proofs.Common.{◌≡◌, ◌≢◌, ◌⊎◌, inl, inr, ℕ, zero, suc, ◌<◌, List, [], ◌∷◌, ◌++◌, length, slice_get, Some, None, refl, sym, subst, ◌∙◌, arith}
use Rattle.std.proofs.lemmas.Option.{slice_get_within}
use Rattle.class_model.specs.Pool.{Constants, entries_of}
use Rattle.class_model.specs.declared.pool.Const.{Const}
use Rattle.class_model.specs.declared.pool.Const.TheVariants.{Long, Double}
use Rattle.pool_edit.specs.Edits.{IsAbsent, IsFirstIndex}

-- an entry of the first
pub slice_get-left : {X : Type 0} (xs ys : List X) (i : ℕ) → i < length xs → slice_get (xs ++ ys) i ≡ slice_get xs i
slice_get-left [] ys i within = absurd (omega arith)
slice_get-left (x ∷ xs) ys zero within = refl
slice_get-left (x ∷ xs) ys (suc i) within = slice_get-left xs ys i (omega arith)

-- the one behind the first
pub slice_get-seam : {X : Type 0} (xs : List X) (y : X) (ys : List X) → slice_get (xs ++ y ∷ ys) (length xs) ≡ Some y
slice_get-seam [] y ys = refl
slice_get-seam (x ∷ xs) y ys = slice_get-seam xs y ys

-- neither has it
pub out-append : {X : Type 0} (xs ys : List X) (x : X) → ((i : ℕ) → slice_get xs i ≢ Some x) → ((i : ℕ) → slice_get ys i ≢ Some x) → (i : ℕ) → slice_get (xs ++ ys) i ≢ Some x
out-append [] ys x here there i = there i
out-append (y ∷ xs) ys x here there zero = here zero
out-append (y ∷ xs) ys x here there (suc i) = out-append xs ys x (λ j. here (suc j)) there i

-- the first has it not, if both together do not
pub out-left : {X : Type 0} (xs ys : List X) (x : X) → ((i : ℕ) → slice_get (xs ++ ys) i ≢ Some x) → (i : ℕ) → slice_get xs i ≢ Some x
out-left xs ys x both i is = both i (slice_get-left xs ys i (slice_get_within xs i x is) ∙ is)

-- a constant is at one index, or at two of which the second has none
pub entries_shape : (constant : Const) → (entries_of constant ≡ Some constant ∷ []) ⊎ (entries_of constant ≡ Some constant ∷ None ∷ [])
entries_shape (Long number) = inr refl
entries_shape (Double bits) = inr refl
entries_shape other = inl refl

-- its entries are no other constant
pub out-entries : (constant other : Const) → constant ≢ other → IsAbsent (entries_of other) constant
out-entries constant other differs = elim (entries_shape other) [
  | inl one ↦ subst (λ (entries : Constants). IsAbsent entries constant) (sym one) alone
  | inr two ↦ subst (λ (entries : Constants). IsAbsent entries constant) (sym two) followed
]
  where
    alone : IsAbsent (Some other ∷ []) constant
    alone zero is = differs (cc)
    alone (suc i) is = absurd cc

    followed : IsAbsent (Some other ∷ None ∷ []) constant
    followed zero is = differs (cc)
    followed (suc zero) is = absurd cc
    followed (suc (suc i)) is = absurd cc

-- the first index stays behind a longer pool
pub first-append : (pool more : Constants) (constant : Const) (index : ℕ) → IsFirstIndex pool constant index → IsFirstIndex (pool ++ more) constant index
first-append pool more constant index first =
    let within : index < length pool = slice_get_within pool index (Some constant) first.there in
    record {
      there = slice_get-left pool more index within ∙ first.there;
      least = λ other below is. first.least other below (sym (slice_get-left pool more other (omega arith)) ∙ is);
    }

-- a constant that is new stands first where it was appended
pub first-seam : (pool more : Constants) (constant : Const) → IsAbsent pool constant → IsFirstIndex (pool ++ Some constant ∷ more) constant (length pool)
first-seam pool more constant absent = record {
  there = slice_get-seam pool (Some constant) more;
  least = λ other below is. absent other (sym (slice_get-left pool (Some constant ∷ more) other below) ∙ is);
}
