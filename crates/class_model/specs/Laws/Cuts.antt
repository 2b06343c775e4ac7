-- Steps of a `do` block over bytes, and the tests in it.
use Rattle.std.proofs.Common.{◌≡◌, ◌<◌, ℕ, zero, suc, Bool, true, false, cond, eqb, List, [], ◌∷◌, ◌++◌, length, get_or, take, drop, Some, None, Result, Ok, Err, refl, sym, ap, arith, append_assoc}
use Rattle.std.proofs.lemmas.Nat.{from_be_bytes-to_be_bytes_2}
use Rattle.class_model.specs.Checks.{Fault, ◌>>=◌}
use Rattle.class_model.specs.Cutting.{IsBytes, Rest, Cut, whole}
use Rattle.class_model.specs.Instructions.{u1_in, u2_in}
use Rattle.class_model.specs.Spelling.{u2}

-- ---- bytes

pub are_bytes : (bytes : List ℕ) → ((i : ℕ) → get_or bytes i 0 < 256) → IsBytes bytes
are_bytes [] h = tt
are_bytes (b ∷ bytes) h = (h 0, are_bytes bytes (λ i. h (suc i)))

pub below_byte : (bytes : List ℕ) → IsBytes bytes → (i : ℕ) → get_or bytes i 0 < 256
below_byte [] h i = omega arith
below_byte (b ∷ bytes) h zero = h.0
below_byte (b ∷ bytes) h (suc i) = below_byte bytes h.1 i

pub IsBytes-take : (n : ℕ) (bytes : List ℕ) → IsBytes bytes → IsBytes (take n bytes)
IsBytes-take zero bytes h = tt
IsBytes-take (suc n) [] h = tt
IsBytes-take (suc n) (b ∷ bytes) h = (h.0, IsBytes-take n bytes h.1)

pub IsBytes-drop : (n : ℕ) (bytes : List ℕ) → IsBytes bytes → IsBytes (drop n bytes)
IsBytes-drop zero bytes h = h
IsBytes-drop (suc n) [] h = tt
IsBytes-drop (suc n) (b ∷ bytes) h = IsBytes-drop n bytes h.1

pub IsBytes-parts : (a b : List ℕ) → IsBytes (a ++ b) → IsBytes a × IsBytes b
IsBytes-parts [] b h = (tt, h)
IsBytes-parts (x ∷ a) b h = let parts = IsBytes-parts a b h.1 in ((h.0, parts.0), parts.1)

-- ---- steps

-- the value of a step that did not fail
pub bind_ok :
    {A B : Type 0} (r : Result A Fault) (f : A → Result B Fault) (y : B)
    → (r >>= f) ≡ Ok y
    → (x : A) × (r ≡ Ok x) × (f x ≡ Ok y)
bind_ok (Ok x) f y e = (x, refl, e)
bind_ok (Err d) f y e = absurd cc

-- two steps, one after the other
pub bind_assoc :
    {A B C : Type 0} (r : Result A Fault) (f : A → Result B Fault) (g : B → Result C Fault)
    → ((r >>= f) >>= g) ≡ (r >>= λ x. f x >>= g)
bind_assoc (Ok x) f g = refl
bind_assoc (Err d) f g = refl

-- steps that go on alike
pub bind_same :
    {A B : Type 0} (r : Result A Fault) (f g : A → Result B Fault)
    → ((x : A) → f x ≡ g x)
    → (r >>= f) ≡ (r >>= g)
bind_same (Ok x) f g same = same x
bind_same (Err d) f g same = refl

abbrev pub done : {Y : Type 0} → Y → Result Y Fault
done y = Ok y

pub same_done : {Y : Type 0} (x y : Y) → done x ≡ done y → x ≡ y
same_done x y e = cc

-- ---- tests

-- a test that did not fail
pub guard_false :
    {A : Type 0} (b : Bool) (d : Fault) (x y : A)
    → cond b (Err d) (Ok x) ≡ Ok y
    → (b ≡ false) × (x ≡ y)
guard_false true d x y e = absurd cc
guard_false false d x y e = (refl, cc)

pub guard_true :
    {A : Type 0} (b : Bool) (d : Fault) (x y : A)
    → cond b (Ok x) (Err d) ≡ Ok y
    → (b ≡ true) × (x ≡ y)
guard_true true d x y e = (refl, cc)
guard_true false d x y e = absurd cc

-- a test behind which nothing stands
pub guard_some :
    {A : Type 0} (b : Bool) (x y : A) → cond b (Some x) None ≡ Some y → (b ≡ true) × (x ≡ y)
guard_some true x y e = (refl, cc)
guard_some false x y e = absurd cc

-- a content that was cut to its end
pub whole_some :
    {A : Type 0} (r : Cut A) (part : A)
    → whole r ≡ Some part
    → (x : A × Rest) × (r ≡ Ok x) × (eqb (length x.1.bytes) 0 ≡ true) × (x.0 ≡ part)
whole_some (Ok x) part e = let g = guard_some (eqb (length x.1.bytes) 0) x.0 part e in (x, refl, g.0, g.1)
whole_some (Err f) part e = absurd cc

-- ---- numbers in front

pub u1_front : (byte : ℕ) (rest : List ℕ) → u1_in (byte ∷ rest) 0 ≡ byte
u1_front byte rest = omega arith

pub u2_front : (number : ℕ) (rest : List ℕ) → number < 65536 → u2_in (u2 number ++ rest) 0 ≡ number
u2_front number rest fits = from_be_bytes-to_be_bytes_2 number fits

-- ---- items in front of those that are cut

abbrev pub in_front : {X : Type 0} → List X → Cut (List X) → Cut (List X)
in_front some cut = cut >>= λ others. Ok (some ++ others.0, others.1)

pub in_front-none : {X : Type 0} (cut : Cut (List X)) → cut ≡ in_front [] cut
in_front-none (Ok others) = refl
in_front-none (Err f) = refl

pub in_front-append :
    {X : Type 0} (some more : List X) (cut : Cut (List X))
    → in_front some (in_front more cut) ≡ in_front (some ++ more) cut
in_front-append some more (Ok others) = ap (λ (l : List _). Ok (l, others.1)) (sym (append_assoc some more others.0))
in_front-append some more (Err f) = refl
