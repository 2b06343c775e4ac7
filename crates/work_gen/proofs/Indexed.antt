-- What is made of each choice of a list, as a loop makes it.
use Rattle.std.proofs.Common.{◌≡◌, ◌+◌, ◌<◌, ◌≤◌, ℕ, suc, List, [], ◌∷◌, ◌++◌, length, length-append, Some, take, get_or, refl, sym, ap, ◌∙◌, append_assoc, arith}
use Rattle.std.proofs.Math.Seq.{take-suc}
use Rattle.std.proofs.lemmas.List.{append-nil, take_all, length-take-le}
use Rattle.class_model.specs.Pool.{Constants}
use Rattle.work_gen.specs.Generated.{indexed, name_constant, work_constants}
use Rattle.work_gen.specs.declared.choices.Choice.{Choice}
use Rattle.work_gen.specs.declared.choices.Kind.TheVariants.{Adds}

-- the choice that the checker takes where a list has none
abbrev pub no_choice : Choice
no_choice = record { kind = Adds; argument = 0 }

pub indexed-append : {X : Type 0} (make : ℕ → Choice → List X) (number : ℕ) (one other : List Choice)
    → indexed make number (one ++ other) ≡ indexed make number one ++ indexed make (number + length one) other
indexed-append make number [] other = (let same : number ≡ number + 0 = omega arith in ap (λ n. indexed make n other) same)
indexed-append make number (choice ∷ one) other =
    let same : suc number + length one ≡ number + suc (length one) = omega arith in
    ap (λ rest. make number choice ++ rest) (indexed-append make (suc number) one other ∙ ap (λ n. indexed make (suc number) one ++ indexed make n other) same)
    ∙ sym (append_assoc (make number choice) (indexed make (suc number) one) (indexed make (number + suc (length one)) other))

-- what is made of one choice more
pub next_indexed : {X : Type 0} (make : ℕ → Choice → List X) (items : List Choice) (i : ℕ) (d : Choice) → i < length items
    → indexed make 0 (take i items) ++ make i (get_or items i d) ≡ indexed make 0 (take (i + 1) items)
next_indexed make items i d within =
    let next : suc i ≡ i + 1 = omega arith in
    let first : 0 + length (take i items) ≡ i = omega (arith, length-take-le i items (omega (arith, within))) in
    ap (λ last. indexed make 0 (take i items) ++ last) (sym (append-nil (make i (get_or items i d))) ∙ ap (λ n. indexed make n (get_or items i d ∷ [])) (sym first))
    ∙ sym (indexed-append make 0 (take i items) (get_or items i d ∷ []))
    ∙ ap (indexed make 0) (sym (take-suc items i d within) ∙ ap (λ n. take n items) next)

-- what is made of all
pub all_indexed : {X : Type 0} (make : ℕ → Choice → List X) (items : List Choice) (i : ℕ) → length items ≤ i → indexed make 0 (take i items) ≡ indexed make 0 items
all_indexed make items i end = ap (indexed make 0) (take_all i items end)

-- ---- the names of methods

abbrev pub names : ℕ → Choice → Constants
names number choice = Some (name_constant number) ∷ []

names_length : (number : ℕ) (chosen : List Choice) → length (indexed names number chosen) ≡ length chosen
names_length number [] = refl
names_length number (choice ∷ chosen) = ap suc (names_length (suc number) chosen)

pub few_constants : (pool : Constants) (chosen : List Choice) (i : ℕ) → pool ≡ work_constants ++ indexed names 0 (take i chosen) → i < length chosen → length chosen ≤ 1000 → length pool + 1 ≤ 65535
few_constants pool chosen i is within few =
    let all : length pool ≡ 30 + length (indexed names 0 (take i chosen)) = ap length is ∙ length-append work_constants (indexed names 0 (take i chosen)) in
    omega (arith, all, names_length 0 (take i chosen), length-take-le i chosen (omega (arith, within)), within, few)
