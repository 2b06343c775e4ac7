-- Writing part behind part, and a list behind its count, item by item.
use Rattle.std.proofs.Common.{◌≡◌, ◌+◌, ◌<◌, ◌≤◌, ℕ, zero, suc, List, [], ◌∷◌, ◌++◌, length, take, get_or, Result, Ok, Err, sym, ap, subst, ◌∙◌, append_assoc, arith}
use Rattle.std.specs.List.{flat_map, AllByRecursion}
use Rattle.std.specs.Result.{OnErr}
use Rattle.std.proofs.lemmas.List.{append-nil, flat_map_more, take_all, take_more}
use Rattle.class_model.specs.Spelling.{u2}
use Rattle.pool_bytes.specs.Appended.{Grows}

-- ---- part behind part

-- two parts are one
pub both : (before first after x y : List ℕ) → first ≡ before ++ x → after ≡ first ++ y → after ≡ before ++ (x ++ y)
both before first after x y one two = two ∙ ap (λ zs. zs ++ y) one ∙ append_assoc before x y

-- what grows behind a part grows behind what was before it
pub behind : (before first after x : List ℕ) → first ≡ before ++ x → Grows first after → Grows before after
behind before first after x one grown = (x ++ grown.0, both before first after x grown.0 one grown.1)

pub unchanged : (before after : List ℕ) → after ≡ before → Grows before after
unchanged before after same = ([], same ∙ sym (append-nil before))

pub on_err : {X E P : Type 0} (result : Result X E) → P → OnErr result P
on_err (Ok x) p = tt
on_err (Err e) p = p

-- ---- one item of a list

at : {X : Type 0} (P : X → Type 0) (xs : List X) (i : ℕ) (x : X) → AllByRecursion P xs → i < length xs → x ≡ get_or xs i x → P x
at P [] i x all within is = absurd (omega arith)
at P (first ∷ xs) zero x all within is = subst P (sym is) all.0
at P (first ∷ xs) (suc i) x all within is = at P xs i x all.1 (omega arith) is

pub all_at : {X : Type 0} (P : X → Type 0) (xs ys : List X) (i : ℕ) (x : X) → AllByRecursion P ys → xs ≡ ys → i < length xs → x ≡ get_or xs i x → P x
all_at P xs ys i x all same within is = at P xs i x (subst (AllByRecursion P) (sym same) all) within is

all_more : {X : Type 0} (P : X → Type 0) (xs : List X) (x : X) → AllByRecursion P xs → P x → AllByRecursion P (xs ++ x ∷ [])
all_more P [] x all one = (one, tt)
all_more P (first ∷ xs) x all one = (all.0, all_more P xs x all.1 one)

take_one : {X : Type 0} (xs : List X) (i : ℕ) (x d : X) → i < length xs → x ≡ get_or xs i d → take i xs ++ x ∷ [] ≡ take (i + 1) xs
take_one xs i x d within is = ap (λ y. take i xs ++ y ∷ []) is ∙ sym (take_more xs i d within)

-- ---- what is written

-- these bytes are those before, the count, and the items up to an index
pub record Pushed {X : Type 0} (bytes_of : X → List ℕ) (Is : X → Type 0) (before after : List ℕ) (xs : List X) (i : ℕ) : Type 0 where
  pub written : after ≡ before ++ (u2 (length xs) ++ flat_map bytes_of (take i xs))
  pub numbers : AllByRecursion Is (take i xs)

pub none_pushed : {X : Type 0} (bytes_of : X → List ℕ) (Is : X → Type 0) (before after : List ℕ) (xs : List X) → after ≡ before ++ u2 (length xs) → Pushed bytes_of Is before after xs 0
none_pushed bytes_of Is before after xs counted = record { written = counted; numbers = tt }

pub one_pushed : {X : Type 0} (bytes_of : X → List ℕ) (Is : X → Type 0) (before after more : List ℕ) (xs : List X) (i : ℕ) (x d : X) → Pushed bytes_of Is before after xs i → i < length xs → x ≡ get_or xs i d → more ≡ after ++ bytes_of x → Is x → Pushed bytes_of Is before more xs (i + 1)
one_pushed bytes_of Is before after more xs i x d pushed within is item number =
    let front = u2 (length xs) in
    record {
      written =
          item ∙ ap (λ zs. zs ++ bytes_of x) pushed.written ∙ append_assoc before (front ++ flat_map bytes_of (take i xs)) (bytes_of x)
          ∙ ap (λ zs. before ++ zs) (flat_map_more bytes_of front (take i xs) x ∙ ap (λ ys. front ++ flat_map bytes_of ys) (take_one xs i x d within is));
      numbers = subst (AllByRecursion Is) (take_one xs i x d within is) (all_more Is (take i xs) x pushed.numbers number);
    }

pub all_pushed : {X : Type 0} (bytes_of : X → List ℕ) (Is : X → Type 0) (before after : List ℕ) (xs ys : List X) (i : ℕ) → Pushed bytes_of Is before after xs i → length xs ≤ i → xs ≡ ys → after ≡ before ++ (u2 (length ys) ++ flat_map bytes_of ys)
all_pushed bytes_of Is before after xs ys i pushed all is =
    pushed.written ∙ ap (λ zs. before ++ (u2 (length xs) ++ flat_map bytes_of zs)) (take_all i xs all) ∙ ap (λ zs. before ++ (u2 (length zs) ++ flat_map bytes_of zs)) is

pub all_numbers : {X : Type 0} (bytes_of : X → List ℕ) (Is : X → Type 0) (before after : List ℕ) (xs ys : List X) (i : ℕ) → Pushed bytes_of Is before after xs i → length xs ≤ i → xs ≡ ys → AllByRecursion Is ys
all_numbers bytes_of Is before after xs ys i pushed all is = subst (AllByRecursion Is) (take_all i xs all ∙ is) pushed.numbers

pub grown_behind : {X : Type 0} (bytes_of : X → List ℕ) (Is : X → Type 0) (before after more : List ℕ) (xs : List X) (i : ℕ) → Pushed bytes_of Is before after xs i → Grows after more → Grows before more
grown_behind bytes_of Is before after more xs i pushed grown = behind before after more (u2 (length xs) ++ flat_map bytes_of (take i xs)) pushed.written grown
