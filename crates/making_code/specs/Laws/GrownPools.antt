-- Pools that grow by what is needed: each begins with the one before it.
use Rattle.std.proofs.Common.{◌≡◌, ◌+◌, ◌++◌, ℕ, nat_le, Bool, true, false, List, [], ◌∷◌, length, Option, Some, None, option_and_then, refl, sym, ap, subst, ◌∙◌, if◌then◌else◌}
use Rattle.std.proofs.lemmas.Option.{none-some, same_Some}
use Rattle.class_model.specs.Pool.{Constants, entries_of}
use Rattle.class_model.specs.declared.pool.Const.{Const}
use Rattle.making_code.specs.Constants.{Need, constant_of, grow, index_of, with_constant}

-- ---- one pool begins with another

pub record Begins (pool grown : Constants) : Type 0 where
  pub more : Constants
  pub is : grown ≡ pool ++ more

and_nothing : {A : Type 0} (xs : List A) → xs ≡ xs ++ []
and_nothing [] = refl
and_nothing (x ∷ xs) = ap (λ (rest : List _). x ∷ rest) (and_nothing xs)

joined : {A : Type 0} (xs ys zs : List A) → (xs ++ ys) ++ zs ≡ xs ++ (ys ++ zs)
joined [] ys zs = refl
joined (x ∷ xs) ys zs = ap (λ (rest : List _). x ∷ rest) (joined xs ys zs)

pub begins_itself : (pool : Constants) → Begins pool pool
begins_itself pool = record { more = []; is = and_nothing pool }

pub begins_through : (pool grown last : Constants) → Begins pool grown → Begins grown last → Begins pool last
begins_through pool grown last one next = record {
  more = one.more ++ next.more;
  is = next.is ∙ ap (λ (x : Constants). x ++ next.more) one.is ∙ joined pool one.more next.more;
}

-- ---- constants that are added

added_begins : (limit : ℕ) (pool : Constants) (constant : Const) (grown : Constants) → with_constant limit pool constant ≡ Some grown
    → Begins pool grown
added_begins limit pool constant grown is = by (index_of pool constant) refl where
  if_fits : (fits : Bool) → (if fits then Some (pool ++ entries_of constant) else None) ≡ Some grown → Begins pool grown
  if_fits true e = record { more = entries_of constant; is = sym (same_Some (pool ++ entries_of constant) grown e) }
  if_fits false e = absurd (none-some grown e)

  by : (x : Option ℕ) → index_of pool constant ≡ x → Begins pool grown
  by (Some index) found =
      let same : with_constant limit pool constant ≡ Some pool = rw found refl in
      subst (Begins pool) (same_Some pool grown (sym same ∙ is)) (begins_itself pool)
  by None found =
      let same : with_constant limit pool constant
      ≡ (if nat_le (length pool + length (entries_of constant)) limit then Some (pool ++ entries_of constant) else None) = rw found refl in
      if_fits (nat_le (length pool + length (entries_of constant)) limit) (sym same ∙ is)

pub grow_begins : (limit : ℕ) (needs : List Need) (pool grown : Constants) → grow limit pool needs ≡ Some grown → Begins pool grown
grow_begins limit [] pool grown is = subst (Begins pool) (same_Some pool grown is) (begins_itself pool)
grow_begins limit (need ∷ needs) pool grown is = by (with_constant limit pool (constant_of pool need)) refl is (grow_begins limit needs) where
  by : (x : Option Constants) → with_constant limit pool (constant_of pool need) ≡ x
      → option_and_then (λ (more : Constants). grow limit more needs) x ≡ Some grown
      → ((pool grown : Constants) → grow limit pool needs ≡ Some grown → Begins pool grown)
      → Begins pool grown
  by None e is rest = absurd (none-some grown is)
  by (Some more) e is rest =
      begins_through pool more grown (added_begins limit pool (constant_of pool need) more e) (rest more grown is)

-- ---- growth, part by part

pub grow_both : (limit : ℕ) (pool : Constants) (front back : List Need)
    → grow limit pool (front ++ back) ≡ option_and_then (λ more. grow limit more back) (grow limit pool front)
grow_both limit pool [] back = refl
grow_both limit pool (need ∷ front) back = by (with_constant limit pool (constant_of pool need)) (λ more. grow_both limit more front back) where
  by : (found : Option Constants)
      → ((more : Constants) → grow limit more (front ++ back) ≡ option_and_then (λ last. grow limit last back) (grow limit more front))
      → option_and_then (λ more. grow limit more (front ++ back)) found
      ≡ option_and_then (λ last. grow limit last back) (option_and_then (λ more. grow limit more front) found)
  by None rest = refl
  by (Some more) rest = rest more
