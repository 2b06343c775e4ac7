-- Collected counts as the counts of all known references.
use Rattle.std.proofs.Common.{◌≡◌, ◌≢◌, ℕ, zero, suc, ◌+◌, ◌-◌, ◌<◌, ◌≤◌, ◌==◌, Bool, true, false, cond, nat_eq, List, [], ◌∷◌, ◌++◌, length, map, replicate, slice_get, if◌then◌else◌, Option, Some, None, unwrap_or, refl, sym, ap, subst, ◌∙◌, zero-add, arith, eqb-true, eq-eqb, ne_eqb}
use Rattle.std.proofs.lemmas.Grind.{common_steps}
use Rattle.std.proofs.lemmas.Cmp.{nat_cmp_total}
use Rattle.std.proofs.lemmas.List.Elements.{recursion_from_All}
use Rattle.std.proofs.lemmas.Map.Keys.{sorted_head, sorted_tail}
use Rattle.std.proofs.lemmas.Map.Views.{All-found}
use Rattle.std.proofs.lemmas.Option.{same_Some, slice_get_within}
use Rattle.std.specs.BTreeMap.{BTreeMap, IsOrdered, get, is_at}
use Rattle.std.specs.List.{AllByRecursion}
use Rattle.std.specs.List.Sorted.{IsStrictlySortedBy}
use Rattle.std.specs.Map.{keys_of, lookup}
use Rattle.std.specs.Ordering.{is_eq, nat_cmp}
use Rattle.std.specs.declared.cmp.Ordering.TheVariants.{Less}
use Rattle.class_model.specs.Laws.Lists.{AllByRecursion-weaker}
use Rattle.machine_values.specs.Counts.{all_counts, AreHeld}
use Rattle.machine_values.specs.declared.count_list.HeldCount.{HeldCount}
use Rattle.machine_values.specs.Heaps.{Heap, monitor_count}
use Rattle.machine_step.specs.Inner.Counting.{Collects, held_of}
use Rattle.machine_step.specs.Inner.Monitors.{AreHeld as HeldMonitors}
use Rattle.machine_step.proofs.Firsts.{eq-sym}

-- the order of numbers tells them apart
is-at : (x y : ℕ) → is_eq (nat_cmp x y) ≡ nat_eq x y
is-at x y = grind (arith, common_steps)

less : (x y : ℕ) → nat_cmp x y ≡ Less → x < y
less x y is = grind (arith, common_steps)

-- ---- sorted entries are held counts

abbrev IsGood : ℕ → ℕ × ℕ → Type 0
IsGood len entry = (entry.0 < len) × (0 < entry.1)

above : (number : ℕ) (entries : List (ℕ × ℕ)) → AllByRecursion (λ (key : ℕ). nat_cmp number key ≡ Less) (keys_of entries) → AllByRecursion (λ (entry : ℕ × ℕ). suc number ≤ entry.0) entries
above number [] all = tt
above number (entry ∷ entries) all = (let h = less number entry.0 all.0 in omega arith, above number entries all.1)

entries-held : (from len : ℕ) (entries : List (ℕ × ℕ)) → IsStrictlySortedBy nat_cmp (keys_of entries) → AllByRecursion (IsGood len) entries → AllByRecursion (λ (entry : ℕ × ℕ). from ≤ entry.0) entries → AreHeld from len (map held_of entries)
entries-held from len [] sorted good least = tt
entries-held from len (entry ∷ entries) sorted good least =
    (least.0, (good.0.0, (good.0.1, entries-held (suc entry.0) len entries (sorted_tail nat_cmp entry.0 (keys_of entries) sorted) good.1 (above entry.0 entries (sorted_head nat_cmp entry.0 (keys_of entries) sorted)))))

from-zero : (entries : List (ℕ × ℕ)) → AllByRecursion (λ (entry : ℕ × ℕ). 0 ≤ entry.0) entries
from-zero [] = tt
from-zero (entry ∷ entries) = (omega arith, from-zero entries)

pub collected-held : (heap : Heap) (known seen : List ℕ) (counts : BTreeMap ℕ ℕ) → Collects heap known seen counts → IsOrdered nat_cmp counts → AreHeld 0 (length known) (map held_of counts.entries)
collected-held heap known seen counts collects ordered =
    entries-held 0 (length known) counts.entries ordered
    (AllByRecursion-weaker (λ (entry : ℕ × ℕ). get nat_cmp counts entry.0 ≡ Some entry.1) (IsGood (length known)) good counts.entries
    (recursion_from_All (λ (entry : ℕ × ℕ). get nat_cmp counts entry.0 ≡ Some entry.1) counts.entries (All-found nat_cmp_total counts ordered)))
    (from-zero counts.entries)
  where
    good : (entry : ℕ × ℕ) → get nat_cmp counts entry.0 ≡ Some entry.1 → IsGood (length known) entry
    good entry is = let found = collects.sound entry.0 entry.1 is in (slice_get_within known entry.0 found.0 found.1, found.3)

-- ---- and give all counts

abbrev count_in : List HeldCount → ℕ → ℕ
count_in [] number = 0
count_in (first ∷ others) number = if first.number == number then first.count else count_in others number

count_in-lookup : (entries : List (ℕ × ℕ)) (number : ℕ) → count_in (map held_of entries) number ≡ unwrap_or (lookup (is_at (nat_cmp number)) entries) 0
count_in-lookup [] number = refl
count_in-lookup (entry ∷ entries) number =
    by (nat_eq entry.0 number) (sym (is-at number entry.0 ∙ eq-sym number entry.0)) (count_in-lookup entries number)
  where
    by : (here : Bool) → here ≡ is_eq (nat_cmp number entry.0)
        → count_in (map held_of entries) number ≡ unwrap_or (lookup (is_at (nat_cmp number)) entries) 0
        → (if here then entry.1 else count_in (map held_of entries) number) ≡ unwrap_or (cond (is_eq (nat_cmp number entry.0)) (Some entry.1) (lookup (is_at (nat_cmp number)) entries)) 0
    by true is others = rw (← is) refl
    by false is others = rw (← is) others

-- a number below those that are held
count_in-below : (from len : ℕ) (held : List HeldCount) → AreHeld from len held → (number : ℕ) → number < from → count_in held number ≡ 0
count_in-below from len [] are number below = refl
count_in-below from len (first ∷ others) are number below =
    rw (ne_eqb first.number number (λ e. let low = are.0 in omega arith)) (count_in-below (suc first.number) len others are.1.1.1 number (let low = are.0 in omega arith))

one-more : (m n : ℕ) → m ≡ suc n → replicate {A = ℕ} m 0 ≡ 0 ∷ replicate n 0
one-more m n is = ap (λ (k : ℕ). replicate {A = ℕ} k 0) is

-- a list whose counts these are
record Gives (f : ℕ → ℕ) (from : ℕ) (references : List ℕ) (held : List HeldCount) : Type 0 where
  same : (place reference : ℕ) → slice_get references place ≡ Some reference → count_in held (from + place) ≡ f reference

rest-gives : (f : ℕ → ℕ) (from first : ℕ) (references : List ℕ) (held : List HeldCount) → Gives f from (first ∷ references) held → Gives f (suc from) references held
rest-gives f from first references held gives = record {
  same = λ place reference is.
      let e : suc from + place ≡ from + suc place = omega arith in
      ap (λ (k : ℕ). count_in held k) e ∙ gives.same (suc place) reference is;
}

first-gives : (f : ℕ → ℕ) (from first : ℕ) (references : List ℕ) (held : List HeldCount) → Gives f from (first ∷ references) held → f first ≡ count_in held from
first-gives f from first references held gives =
    let e : from ≡ from + 0 = omega arith in
    sym (ap (λ (k : ℕ). count_in held k) e ∙ gives.same 0 first refl)

other-gives : (f : ℕ → ℕ) (from : ℕ) (references : List ℕ) (one : HeldCount) (held : List HeldCount) → one.number < from → Gives f from references (one ∷ held) → Gives f from references held
other-gives f from references one held below gives = record {
  same = λ place reference is.
      let apart : nat_eq one.number (from + place) ≡ false = ne_eqb one.number (from + place) (λ e. omega arith) in
      sym (ap (λ (b : Bool). if b then one.count else count_in held (from + place)) apart) ∙ gives.same place reference is;
}

same-counts : (f : ℕ → ℕ) (from to : ℕ) (references : List ℕ) (held : List HeldCount) → to ≡ from + length references → AreHeld from to held → Gives f from references held → all_counts from to held ≡ map f references
same-counts f from to [] [] long are gives = let none : to - from ≡ 0 = omega arith in ap (λ (k : ℕ). replicate {A = ℕ} k 0) none
same-counts f from to [] (one ∷ held) long are gives = absurd (let low = are.0 in let high = are.1.0 in omega arith)
same-counts f from to (first ∷ references) [] long are gives =
    one-more (to - from) (to - suc from) (omega arith)
    ∙ ap (λ (k : ℕ). k ∷ replicate {A = ℕ} (to - suc from) 0) (sym (first-gives f from first references [] gives))
    ∙ ap (λ (all : List ℕ). f first ∷ all) (same-counts f (suc from) to references [] (omega arith) tt (rest-gives f from first references [] gives))
same-counts f from to (first ∷ references) (one ∷ held) long are gives =
    by (same-counts f (suc from) to references held (omega arith)) (same-counts f (suc from) to references (one ∷ held) (omega arith)) (nat_eq one.number from) refl
  where
    rest : Gives f (suc from) references (one ∷ held)
    rest = rest-gives f from first references (one ∷ held) gives

    by : (AreHeld (suc from) to held → Gives f (suc from) references held → all_counts (suc from) to held ≡ map f references)
        → (AreHeld (suc from) to (one ∷ held) → Gives f (suc from) references (one ∷ held) → all_counts (suc from) to (one ∷ held) ≡ map f references)
        → (here : Bool) → nat_eq one.number from ≡ here → all_counts from to (one ∷ held) ≡ map f (first ∷ references)
    by behind before true is =
        let e : one.number ≡ from = eqb-true one.number from is in
        let none : one.number - from ≡ 0 = omega arith in
        let same : one.count ≡ f first = sym (first-gives f from first references (one ∷ held) gives ∙ ap (λ (b : Bool). if b then one.count else count_in held from) is) in
        let are' : AreHeld (suc from) to held = subst (λ (k : ℕ). AreHeld (suc k) to held) e are.1.1.1 in
        ap (λ (k : ℕ). replicate {A = ℕ} k 0 ++ one.count ∷ all_counts (suc one.number) to held) none
        ∙ ap (λ (k : ℕ). k ∷ all_counts (suc one.number) to held) same
        ∙ ap (λ (k : ℕ). f first ∷ all_counts (suc k) to held) e
        ∙ ap (λ (all : List ℕ). f first ∷ all) (behind are' (other-gives f (suc from) references one held (omega arith) rest))
    by behind before false apart =
        let ne : one.number ≢ from = λ e. let both : false ≡ true = sym apart ∙ eq-eqb one.number from e in cc in
        let low = are.0 in
        let least : suc from ≤ one.number = omega arith in
        let are' : AreHeld (suc from) to (one ∷ held) = (least, are.1) in
        let same : 0 ≡ f first = sym (first-gives f from first references (one ∷ held) gives ∙ count_in-below (suc from) to (one ∷ held) are' from (omega arith)) in
        ap (λ (all : List ℕ). all ++ one.count ∷ all_counts (suc one.number) to held) (one-more (one.number - from) (one.number - suc from) (omega arith))
        ∙ ap (λ (k : ℕ). k ∷ all_counts (suc from) to (one ∷ held)) same
        ∙ ap (λ (all : List ℕ). f first ∷ all) (before are' rest)

-- the counts of all known references
pub collected-counts : (heap : Heap) (known seen : List ℕ) (counts : BTreeMap ℕ ℕ) → Collects heap known seen counts → HeldMonitors heap seen → IsOrdered nat_cmp counts
    → all_counts 0 (length known) (map held_of counts.entries) ≡ map (monitor_count heap) known
collected-counts heap known seen counts collects monitors ordered =
    same-counts (monitor_count heap) 0 (length known) known (map held_of counts.entries) (omega arith) (collected-held heap known seen counts collects ordered)
    (record { same = λ place reference there. ap (λ (k : ℕ). count_in (map held_of counts.entries) k) (zero-add place) ∙ count_in-lookup counts.entries place ∙ by reference place there (get nat_cmp counts place) refl })
  where
    none : (reference place : ℕ) → slice_get known place ≡ Some reference → get nat_cmp counts place ≡ None → (count : ℕ) → monitor_count heap reference ≡ count → 0 ≡ count
    none reference place there lost zero is = refl
    none reference place there lost (suc count) is =
        let some : 0 < monitor_count heap reference = omega arith in
        absurd (let both : None ≡ Some (monitor_count heap reference) = sym lost ∙ collects.complete place reference there some (monitors.held reference some) in cc)

    by : (reference place : ℕ) → slice_get known place ≡ Some reference → (found : Option ℕ) → get nat_cmp counts place ≡ found → unwrap_or found 0 ≡ monitor_count heap reference
    by reference place there None is = none reference place there is (monitor_count heap reference) refl
    by reference place there (Some count) is =
        let found = collects.sound place count is in
        let same : found.0 ≡ reference = same_Some _ _ (sym found.1 ∙ there) in
        found.2 ∙ ap (λ (r : ℕ). monitor_count heap r) same
