use Rattle.std.specs.Prelude.{◌≡◌, ◌-◌, ◌≤◌, refl, ℕ, zero, suc, List, [], ◌∷◌, ◌++◌, length, take, drop, reverse}
use Rattle.std.proofs.Common.{arith, ap, sym, ◌∙◌, subst}
use Rattle.std.proofs.lemmas.List.{take-append-drop, reverse-append, length-reverse, length-drop, drop_at, take_at}
use Rattle.class_model.specs.declared.frame.VType.{VType}
use Rattle.machine_values.specs.Heaps.{Heap}
use Rattle.machine_values.specs.declared.value.Value.{Value}
use Rattle.member_link.specs.Machine.Programs.{Program}
use Rattle.member_link.specs.RowScope.{RowScope}
use Rattle.member_link.specs.Rows.Operands.{Need, AllFit, topmost, under, lowest_of}
use Rattle.typed_runs.specs.Conforming.{AllConform, no_values, and_value}

-- ---- a stack whose top is first, and the same with its top last

pub reversed : {A : Type 0} (n : ℕ) (xs : List A) → reverse xs ≡ reverse (drop n xs) ++ reverse (take n xs)
reversed n xs = sym (ap reverse (take-append-drop n xs)) ∙ reverse-append (take n xs) (drop n xs)

pub below_length : {A : Type 0} (n : ℕ) (xs : List A) → length (reverse (drop n xs)) ≡ length xs - n
below_length n xs = length-reverse (drop n xs) ∙ length-drop n xs

pub top_is : {A : Type 0} (n : ℕ) (xs : List A) → drop (length xs - n) (reverse xs) ≡ reverse (take n xs)
top_is n xs = ap (drop (length xs - n)) (reversed n xs) ∙ drop_at (reverse (drop n xs)) (reverse (take n xs)) (length xs - n) (below_length n xs)

pub below_is : {A : Type 0} (n : ℕ) (xs : List A) → take (length xs - n) (reverse xs) ≡ reverse (drop n xs)
below_is n xs = ap (take (length xs - n)) (reversed n xs) ∙ take_at (reverse (drop n xs)) (reverse (take n xs)) (length xs - n) (below_length n xs)

-- ---- values one by one

pub as_many : {P : Program} {s : RowScope} {h : Heap} {ts : List VType} {vs : List Value} → AllConform P s h ts vs → length ts ≡ length vs
as_many no_values = refl
as_many (and_value one others) = ap suc (as_many others)

pub conform_drop : {P : Program} {s : RowScope} {h : Heap} {ts : List VType} {vs : List Value} (n : ℕ) → AllConform P s h ts vs → AllConform P s h (drop n ts) (drop n vs)
conform_drop zero all = all
conform_drop (suc n) no_values = no_values
conform_drop (suc n) (and_value one others) = conform_drop n others

pub conform_take : {P : Program} {s : RowScope} {h : Heap} {ts : List VType} {vs : List Value} (n : ℕ) → AllConform P s h ts vs → AllConform P s h (take n ts) (take n vs)
conform_take zero all = no_values
conform_take (suc n) no_values = no_values
conform_take (suc n) (and_value one others) = and_value one (conform_take n others)

pub conform_append : {P : Program} {s : RowScope} {h : Heap} {ts us : List VType} {vs ws : List Value} → AllConform P s h ts vs → AllConform P s h us ws → AllConform P s h (ts ++ us) (vs ++ ws)
conform_append no_values more = more
conform_append (and_value one others) more = and_value one (conform_append others more)

-- ---- operands

-- the topmost values of a stack, and those under them
pub record Operands (P : Program) (s : RowScope) (h : Heap) (types : List VType) (stack : List Value) (n : ℕ) : Type 0 where
  pub enough : n ≤ length stack
  pub values : AllConform P s h (topmost n types) (reverse (take n stack))
  pub rest : AllConform P s h (under n types) (reverse (drop n stack))

pub fit_length : (s : RowScope) (needs : List Need) (types : List VType) → AllFit s needs types → length needs ≡ length types
fit_length s [] [] fit = refl
fit_length s (n ∷ ns) (t ∷ ts) fit = ap suc (fit_length s ns ts fit.1)
fit_length s [] (t ∷ ts) fit = absurd fit
fit_length s (n ∷ ns) [] fit = absurd fit

pub operands : {P : Program} {s : RowScope} {h : Heap} (r : RowScope) (needs : List Need) (types : List VType) (stack : List Value)
    → AllFit r needs (topmost (length needs) types) → AllConform P s h types (reverse stack) → Operands P s h types stack (length needs)
operands {P = P} {s = s} {h = h} r needs types stack fit all =
    let n : ℕ = length needs in
    let many : length types ≡ length stack = as_many all ∙ length-reverse stack in
    let same : length needs ≡ length types - (length types - n) = fit_length r needs _ fit ∙ length-drop (length types - n) types in
    record {
      enough = omega (arith, many, same);
      values = subst (λ vs. AllConform P s h (topmost n types) vs) (ap (λ k. drop (k - n) (reverse stack)) many ∙ top_is n stack) (conform_drop (length types - n) all);
      rest = subst (λ vs. AllConform P s h (under n types) vs) (ap (λ k. take (k - n) (reverse stack)) many ∙ below_is n stack) (conform_take (length types - n) all);
    }

pub lowest_is : (n : ℕ) (stack : List VType) (t : VType) (ts : List VType) → topmost n stack ≡ t ∷ ts → lowest_of n stack ≡ t
lowest_is n stack t ts is = rw is refl
