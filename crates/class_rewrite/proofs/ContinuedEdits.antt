-- An edit that has grown by what is needed goes on from what it was.
use Rattle.std.proofs.Common.{◌≡◌, ◌++◌, ℕ, suc, List, [], ◌∷◌, Option, Some, None, refl, sym, ap, subst, ◌∙◌, append_assoc}
use Rattle.std.specs.List.{flat_map}
use Rattle.std.proofs.lemmas.Option.{same_Some}
use Rattle.class_model.specs.Pool.{Constants, entries_of}
use Rattle.class_model.specs.declared.pool.Const.{Const}
use Rattle.class_model.specs.declared.pool.Const.TheVariants.{Double, Long}
use Rattle.making_code.specs.Constants.{Need}
use Rattle.making_code.specs.Laws.GrownPools.{grow_begins}
use Rattle.materialise.specs.Growing.{Grows}
use Rattle.pool_edit.specs.Edits.{Continues, Edit, grown}

cancel : {A : Type 0} (front xs ys : List A) → front ++ xs ≡ front ++ ys → xs ≡ ys
cancel [] xs ys same = same
cancel (x ∷ front) xs ys same = let rest : front ++ xs ≡ front ++ ys = cc same in cancel front xs ys rest

-- what stands behind the first entry of a constant
abbrev behind : Const → Constants
behind (Long number) = None ∷ []
behind (Double bits) = None ∷ []
behind constant = []

entries_are : (constant : Const) → entries_of constant ≡ Some constant ∷ behind constant
entries_are (Long number) = refl
entries_are (Double bits) = refl
entries_are constant = refl

entries_first : (constants : List Const) (constant : Const) → flat_map entries_of (constant ∷ constants)
    ≡ Some constant ∷ (behind constant ++ flat_map entries_of constants)
entries_first constants constant = ap (λ (entries : Constants). entries ++ flat_map entries_of constants) (entries_are constant)

prefix : (xs ys : List Const) (more : Constants) → flat_map entries_of xs ≡ flat_map entries_of ys ++ more → (zs : List Const) × (xs ≡ ys ++ zs)
prefix xs [] more same = (xs, refl)
prefix [] (y ∷ ys) more same =
    let first = entries_first ys y in
    let none : [] ≡ Some y ∷ (behind y ++ flat_map entries_of ys) ++ more = same ∙ ap (λ (entries : Constants). entries ++ more) first in
    absurd cc
prefix (x ∷ xs) (y ∷ ys) more same =
    let both : Some x ∷ (behind x ++ flat_map entries_of xs) ≡ Some y ∷ ((behind y ++ flat_map entries_of ys) ++ more) =
    sym (entries_first xs x) ∙ same ∙ ap (λ (entries : Constants). entries ++ more) (entries_first ys y) in
    let first : Some x ≡ Some y = cc both in
    let is : x ≡ y = same_Some x y first in
    let rest : behind x ++ flat_map entries_of xs ≡ (behind y ++ flat_map entries_of ys) ++ more = cc both in
    let apart : behind y ++ flat_map entries_of xs ≡ behind y ++ (flat_map entries_of ys ++ more) =
    subst (λ (c : Const). behind c ++ flat_map entries_of xs ≡ (behind y ++ flat_map entries_of ys) ++ more) is rest
    ∙ append_assoc (behind y) (flat_map entries_of ys) more in
    let found = prefix xs ys more (cancel (behind y) (flat_map entries_of xs) (flat_map entries_of ys ++ more) apart) in
    let rest_is : xs ≡ ys ++ found.0 = found.1 in
    (found.0, cc (is, rest_is))

pub grows_continue : (old new : Edit) (needs : List Need) → Grows old needs new → Continues old new
grows_continue old new needs grows =
    let begins = grow_begins old.limit needs (grown old) (grown new) grows.grown_by in
    let same : old.base ++ flat_map entries_of new.added ≡ old.base ++ (flat_map entries_of old.added ++ begins.more) =
    ap (λ (base : Constants). base ++ flat_map entries_of new.added) (sym grows.base) ∙ begins.is
    ∙ append_assoc old.base (flat_map entries_of old.added) begins.more in
    let found = prefix new.added old.added begins.more (cancel old.base (flat_map entries_of new.added) (flat_map entries_of old.added ++ begins.more) same) in
    record { base = grows.base; limit = grows.limit; more = found.0; added = found.1 }
