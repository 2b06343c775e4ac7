-- The parameters that the text of a method descriptor spells, cut off one by one.
use Rattle.std.proofs.Common.{◌≡◌, ◌+◌, ◌-◌, ◌==◌, ◌<◌, ◌≤◌, not, ℕ, zero, suc, Bool, true, false, cond, List, [], ◌∷◌, ◌++◌, length, map, take, drop, take_while, refl, sym, ap, subst, ◌∙◌, arith, append_assoc, length-drop, zero-add}
use Rattle.std.proofs.Math.Seq.{drop-nil}
use Rattle.std.proofs.lemmas.List.Sums.{take_while-cons}
use Rattle.class_model.specs.Descriptors.{brackets, element_len, kind_of, parameters_of, type_len, type_of, types_before}
use Rattle.member_link.specs.Signatures.{begins_type}

pub drop_more : (n m : ℕ) (xs : List ℕ) → drop m (drop n xs) ≡ drop (n + m) xs
drop_more zero m xs = ap (λ (k : ℕ). drop k xs) (sym (zero-add m))
drop_more (suc n) m [] = drop-nil m ∙ sym (drop-nil (suc n + m))
drop_more (suc n) m (x ∷ xs) =
    let e : suc (n + m) ≡ suc n + m = omega arith in
    drop_more n m xs ∙ ap (λ (k : ℕ). drop k (x ∷ xs)) e

-- a class name behind its letter
pub name_dropped :
    (bytes rest result : List ℕ)
    → bytes ≡ 76 ∷ rest
    → result ≡ drop (length (take_while (λ byte. not (byte == 59)) rest) + 1) rest
    → result ≡ drop (element_len bytes) bytes
name_dropped bytes rest result is cut =
    let n = length (take_while (λ byte. not (byte == 59)) rest) in
    let e : suc (n + 1) ≡ n + 2 = omega arith in
    cut ∙ ap (λ (k : ℕ). drop k (76 ∷ rest)) e ∙ ap (λ (b : List ℕ). drop (element_len b) b) (sym is)

-- a type takes a byte at least
element_takes : (first : ℕ) (rest : List ℕ) → 0 < element_len (first ∷ rest)
element_takes first rest = by (first == 76)
  where
    by : (letter : Bool) → 0 < cond letter (length (take_while (λ b. not (b == 59)) rest) + 2) 1
    by true = omega arith
    by false = omega arith

pub type_takes : (first : ℕ) (rest : List ℕ) → 0 < type_len (first ∷ rest)
type_takes first rest = by (first == 91) refl
  where
    by : (bracket : Bool) → (first == 91) ≡ bracket → 0 < type_len (first ∷ rest)
    by true is =
        let e : brackets (first ∷ rest) ≡ suc (brackets rest) =
        ap length (take_while-cons (λ b. b == 91) first rest ∙ ap (λ (b : Bool). cond b (first ∷ take_while (λ b. b == 91) rest) []) is)
        in
        omega arith
    by false is =
        let e : brackets (first ∷ rest) ≡ 0 =
        ap length (take_while-cons (λ b. b == 91) first rest ∙ ap (λ (b : Bool). cond b (first ∷ take_while (λ b. b == 91) rest) []) is)
        in
        let P : ℕ → Type 0 = λ n. 0 < n + element_len (drop n (first ∷ rest)) in
        subst P (sym e) (let more = element_takes first rest in omega arith)

-- its kind is that of its first byte
pub kind_by_first : (first : ℕ) (rest other : List ℕ) → kind_of (type_of (first ∷ rest)) ≡ kind_of (type_of (first ∷ other))
kind_by_first first rest other = grind arith

pub not_true : (b : Bool) → not b ≡ true → b ≡ false
not_true true e = absurd cc
not_true false e = refl

not_false : (b : Bool) → not b ≡ false → b ≡ true
not_false true e = refl
not_false false e = absurd cc

pub one_before :
    (left first : ℕ) (rest : List ℕ)
    → (first == 41) ≡ false
    → types_before (suc left) (first ∷ rest)
    ≡ type_of (take (type_len (first ∷ rest)) (first ∷ rest)) ∷ types_before left (drop (type_len (first ∷ rest)) (first ∷ rest))
unfolding types_before
one_before left first rest more =
    ap (λ (b : Bool). cond b [] (type_of (take (type_len (first ∷ rest)) (first ∷ rest)) ∷ types_before left (drop (type_len (first ∷ rest)) (first ∷ rest)))) more

pub none_before : (left : ℕ) (rest : List ℕ) → begins_type rest ≡ false → types_before left rest ≡ []
unfolding types_before
none_before zero rest ends = refl
none_before (suc left) [] ends = refl
none_before (suc left) (first ∷ rest) ends =
    ap (λ (b : Bool). cond b [] (type_of (take (type_len (first ∷ rest)) (first ∷ rest)) ∷ types_before left (drop (type_len (first ∷ rest)) (first ∷ rest)))) (not_false (first == 41) ends)

pub shorter : (rest : List ℕ) → begins_type rest ≡ true → length (drop (type_len rest) rest) < length rest
shorter [] begins = absurd cc
shorter (first ∷ rest) begins = omega (arith, type_takes first rest, length-drop {A = ℕ} (type_len (first ∷ rest)) (first ∷ rest))
