-- A text that gets a number: what was known stays.
use Rattle.std.proofs.Common.{◌≡◌, ◌<◌, ℕ, zero, suc, Bool, true, false, cond, List, [], ◌∷◌, length, get_or, replicate, Option, Some, None, refl, sym, ap, subst, ◌∙◌, arith}
use Rattle.std.specs.Borrow.{Bor}
use Rattle.std.specs.Map.{lookup}
use Rattle.std.proofs.lemmas.Slice.Eq.{bytes_eq-Decides}
use Rattle.std.specs.Prelude.{bytes_eq, IfSome, IsTrue, slice_get}
use Rattle.class_model.specs.PoolChecks.{utf8_at}
use Rattle.class_bytes.specs.Inner.TextNumbers.{Numbers, number_of, IsNumberAt, IfFilled, AreKnown, Grows}

put_keeps : (same : Bool) (index : ℕ) (before : Option ℕ) (n : ℕ) → (IsTrue same → before ≡ None) → before ≡ Some n → cond same (Some index) before ≡ Some n
put_keeps true index before n none is = absurd (let e : None ≡ Some n = sym (none refl) ∙ is in cc)
put_keeps false index before n none is = is

put_or_before : {P : Type 0} (same : Bool) (index : ℕ) (before : Option ℕ) (n : ℕ) → cond same (Some index) before ≡ Some n → (IsTrue same → index ≡ n → P) → (before ≡ Some n → P) → P
put_or_before true index before n is put other = put refl (let e : Some index ≡ Some n = is in cc)
put_or_before false index before n is put other = other is

-- ---- a table, as far as it is filled

if_some : (P : ℕ → Type 0) (entry : Option ℕ) → IfFilled P (Some entry) → IfSome entry P
if_some P (Some n) filled = filled
if_some P None filled = tt

at_filled : (P : ℕ → Type 0) (known : List (Option ℕ)) (i : ℕ) (entry : Option ℕ) → i < length known → entry ≡ get_or known i entry → IfFilled P (slice_get known i) → IfSome entry P
at_filled P [] i entry within is filled = absurd (omega arith)
at_filled P (first ∷ known) zero entry within is filled = subst (λ (e : Option ℕ). IfSome e P) (sym is) (if_some P first filled)
at_filled P (first ∷ known) (suc i) entry within is filled = at_filled P known i entry (omega arith) is filled

-- an entry is the number at its index
pub known_number : (all : Numbers) (known table : List (Option ℕ)) (index i : ℕ) (entry : Option ℕ) → AreKnown all known → table ≡ known → i ≡ index → i < length table → entry ≡ get_or table i entry → IfSome entry (IsNumberAt all index)
known_number all known table index i entry are same place within is =
    let filled = are.filled index in
    at_filled (IsNumberAt all index) table i entry within is
    (subst (λ (xs : List (Option ℕ)). IfFilled (IsNumberAt all index) (slice_get xs i)) (sym same) (subst (λ (n : ℕ). IfFilled (IsNumberAt all index) (slice_get known n)) (sym place) filled))

none_filled : (P : ℕ → Type 0) (count index : ℕ) → IfFilled P (slice_get (replicate {A = Option ℕ} count None) index)
none_filled P zero index = tt
none_filled P (suc count) zero = tt
none_filled P (suc count) (suc index) = none_filled P count index

-- where no text has a number, nothing is filled
pub none_known : (all : Numbers) (known : List (Option ℕ)) (count : ℕ) → all.entries ≡ [] → known ≡ replicate count None → AreKnown all known
none_known all known count empty nones = record {
  indices = λ text n is. absurd (let e : None ≡ Some n = sym (ap (λ (es : List (Bor (List ℕ) × ℕ)). lookup (λ key. bytes_eq text key.now) es) empty) ∙ is in cc);
  filled = λ index. subst (λ (xs : List (Option ℕ)). IfFilled (IsNumberAt all index) (slice_get xs index)) (sym nones) (none_filled (IsNumberAt all index) count index);
}

-- one text more, which stands at this index and has it for its number
pub record Puts (all after : Numbers) (text : List ℕ) (index : ℕ) : Type 0 where
  pub same : after.pool ≡ all.pool
  pub stands : utf8_at all.pool index ≡ Some text
  pub new : number_of all text ≡ None
  pub numbers : (other : List ℕ) → number_of after other ≡ cond (bytes_eq text other) (Some index) (number_of all other)

module _ (all after : Numbers) (text : List ℕ) (index : ℕ) (puts : Puts all after text index) (known : List (Option ℕ)) (are : AreKnown all known) where
  keeps : (other : List ℕ) (n : ℕ) → number_of all other ≡ Some n → number_of after other ≡ Some n
  keeps other n is =
      puts.numbers other
      ∙ put_keeps (bytes_eq text other) index (number_of all other) n (λ same. ap (number_of all) (sym ((bytes_eq-Decides text other).0 same)) ∙ puts.new) is

  indices : (other : List ℕ) (n : ℕ) → number_of after other ≡ Some n → utf8_at after.pool n ≡ Some other
  indices other n is =
      ap (λ pool. utf8_at pool n) puts.same
      ∙ put_or_before (bytes_eq text other) index (number_of all other) n (sym (puts.numbers other) ∙ is)
      (λ same here. ap (utf8_at all.pool) (sym here) ∙ puts.stands ∙ ap (λ (t : List ℕ). Some t) ((bytes_eq-Decides text other).0 same))
      (are.indices other n)

  pub grows_put : Grows all after
  grows_put = record { same = puts.same; keeps = keeps; indices = indices }

  number_again : (at n : ℕ) → IsNumberAt all at n → IsNumberAt after at n
  number_again at n is = record { text = is.text; is = ap (λ pool. utf8_at pool at) puts.same ∙ is.is; numbered = keeps is.text n is.numbered }

  filled_again : (at : ℕ) (entry : Option (Option ℕ)) → IfFilled (IsNumberAt all at) entry → IfFilled (IsNumberAt after at) entry
  filled_again at (Some (Some n)) is = number_again at n is
  filled_again at (Some None) is = tt
  filled_again at None is = tt

  pub known_put : AreKnown after known
  known_put = record { indices = indices; filled = λ at. filled_again at (slice_get known at) (are.filled at) }

  pub number_put : IsNumberAt after index index
  number_put = record {
    text = text;
    is = ap (λ pool. utf8_at pool index) puts.same ∙ puts.stands;
    numbered = puts.numbers text ∙ ap (λ (b : Bool). cond b (Some index) (number_of all text)) ((bytes_eq-Decides text text).1 refl);
  }
