-- Counts of arrays of arrays, and the elements that are made by them.
use Rattle.std.proofs.Common.{◌≡◌, ◌+◌, ◌-◌, ◌*◌, ◌≤◌, ◌<◌, nat_lt, get_or, drop, add-one, ℕ, suc, pos, negsuc, false, List, [], ◌∷◌, ◌++◌, length, Some, refl, ap, sym, ◌∙◌, append_assoc, arith}
use Rattle.std.proofs.Math.Nat.{mul-add, mul_assoc}
use Rattle.std.proofs.Math.Seq.{drop-cons}
use Rattle.std.proofs.lemmas.Bool.{le-ltb}
use Rattle.class_tree.specs.Headers.{Name}
use Rattle.machine_values.specs.declared.value.Value.{Value}
use Rattle.machine_values.specs.declared.value.Value.TheVariants.{Int, Long, Float, Double, Null, Ref}
use Rattle.machine_values.specs.Heaps.{Heap, Made}
use Rattle.member_link.specs.Machine.Completions.{gives}
use Rattle.member_link.specs.Machine.Worlds.{Memory}
use Rattle.machine_step.specs.Completing.{Completes}
use Rattle.machine_step.specs.declared.completed.Completed.TheVariants.{Gives}
use Rattle.member_link.specs.Machine.ArraySteps.{Counts, arrays_of_counts, MadeElements, all_counts, array_with, arrays_made, counts_of, is_too_long, made_times, most_elements, negative_count, nested, no_counts}
use Rattle.machine_step.specs.Inner.NestedArrays.{IsMade, IsMadeTo, elements_before, elements_of, made_elements}

-- ---- counts

-- a count is found for each operand
pub counts_len : (operands : List Value) (counts : List ℕ) → counts_of operands ≡ all_counts counts → length counts ≡ length operands
counts_len [] counts is = let none : counts ≡ [] = cc in ap length none
counts_len (Int (pos count) ∷ left) counts is = by (counts_of left) refl (counts_len left)
  where
    by : (others : Counts) → counts_of left ≡ others → ((more : List ℕ) → counts_of left ≡ all_counts more → length more ≡ length left)
        → length counts ≡ suc (length left)
    by (all_counts others) e behind =
        let same : all_counts (count ∷ others) ≡ all_counts counts = rw e at is in
        let split : counts ≡ count ∷ others = cc in
        ap length split ∙ ap suc (behind others e)
    by negative_count e behind = let other : negative_count ≡ all_counts counts = rw e at is in cc
    by no_counts e behind = let other : no_counts ≡ all_counts counts = rw e at is in cc
counts_len (Int (negsuc n) ∷ left) counts is = by (counts_of left) refl
  where
    by : (others : Counts) → counts_of left ≡ others → length counts ≡ suc (length left)
    by (all_counts others) e = let other : negative_count ≡ all_counts counts = rw e at is in cc
    by negative_count e = let other : negative_count ≡ all_counts counts = rw e at is in cc
    by no_counts e = let other : no_counts ≡ all_counts counts = rw e at is in cc
counts_len (Long number ∷ left) counts is = cc
counts_len (Float bits ∷ left) counts is = cc
counts_len (Double bits ∷ left) counts is = cc
counts_len (Null ∷ left) counts is = cc
counts_len (Ref reference ∷ left) counts is = cc

-- ---- how many arrays

pub arrays_more : (count : ℕ) (counts : List ℕ) → arrays_made (count ∷ counts) ≡ 1 + count * arrays_made counts
arrays_more count [] = omega arith
arrays_more count (next ∷ counts) = refl

spread : (made product count others : ℕ) → made + product * (1 + count * others) ≡ made + product + product * count * others
spread made product count others = rw (mul_assoc product count others) (omega (arith, mul-add product 1 (count * others)))

-- one count more
pub made_more : (counts : List ℕ) (made product at count : ℕ) → IsMadeTo counts made product at (drop at counts) → at < length counts → count ≡ get_or counts at 0
    → product * count ≤ most_elements → IsMadeTo counts (made + product) (product * count) (at + 1) (drop (at + 1) counts)
made_more counts made product at count before there is short =
    let left = drop (at + 1) counts in
    let split : drop at counts ≡ count ∷ left = rw (add-one, is) (drop-cons counts at 0 there) in
    let few : nat_lt most_elements (product * count) ≡ false = le-ltb most_elements (product * count) short in
    record {
      fits = before.fits ∙ (ap (is_too_long product) split ∙ rw few refl);
      same = before.same ∙ (ap (λ (others : List ℕ). made + product * arrays_made others) split ∙ (ap (λ (more : ℕ). made + product * more) (arrays_more count left) ∙ spread made product count (arrays_made left)));
      short = short;
      few = omega (arith, before.few, before.short);
    }

-- ---- elements

pub nested_with : (desc : Name) (count : ℕ) (counts : List ℕ) (heap : Heap)
    → nested desc count counts heap ≡ array_with desc count (elements_of desc count counts heap)
nested_with desc count [] heap = refl
nested_with desc count (next ∷ counts) heap = refl

-- an element is made
pub element_made : (make : Heap → Made) (values : List Value) (left : ℕ) (heap : Heap)
    → elements_before values (made_times make (suc left) heap)
    ≡ elements_before (values ++ Ref (make heap).reference ∷ []) (made_times make left (make heap).heap)
element_made make values left heap =
    let others = made_times make left (make heap).heap in
    ap (λ (all : List Value). record { heap = others.heap; values = all }) (sym (append_assoc values (Ref (make heap).reference ∷ []) others.values))

-- after it is put behind the others
pub elements_more : (make : Heap → Made) (whole : MadeElements) (values new : List Value) (heap after : Heap) (at left : ℕ)
    → whole ≡ elements_before values (made_times make left heap) → 0 < left → after ≡ (make heap).heap → at ≡ (make heap).reference → new ≡ values ++ Ref at ∷ []
    → whole ≡ elements_before new (made_times make (left - 1) after)
elements_more make whole values new heap after at left before some after_is at_is new_is =
    let more : left ≡ suc (left - 1) = omega arith in
    let made = make heap in
    before
    ∙ (ap (λ (n : ℕ). elements_before values (made_times make n heap)) more
    ∙ (element_made make values (left - 1) heap
    ∙ (ap (λ (r : ℕ). elements_before (values ++ Ref r ∷ []) (made_times make (left - 1) made.heap)) (sym at_is)
    ∙ (ap (λ (h : Heap). elements_before (values ++ Ref at ∷ []) (made_times make (left - 1) h)) (sym after_is)
    ∙ ap (λ (all : List Value). elements_before all (made_times make (left - 1) after)) (sym new_is)))))

-- an array of elements that were made
pub array_made : (desc : Name) (count : ℕ) (rest : List ℕ) (heap inner : Heap) (values : List Value)
    → made_elements inner values ≡ elements_of desc count rest heap
    → array_with desc count (made_elements inner values) ≡ nested desc count rest heap
array_made desc count rest heap inner values is = ap (array_with desc count) is ∙ sym (nested_with desc count rest heap)

-- ---- the completion

pub arrays_given : (before after : Memory) (operands : List Value) (desc : Name) (counts rest : List ℕ) (count made at : ℕ)
    → counts ≡ count ∷ rest → IsMade counts made
    → after ≡ record before { heap = (nested desc count rest before.heap).heap; allocations = before.allocations + made }
    → at ≡ (nested desc count rest before.heap).reference
    → Completes before after operands (Gives (Some (Ref at))) (arrays_of_counts before desc (all_counts counts))
arrays_given before after operands desc counts rest count made at split is_made after_is at_is =
    let fits : is_too_long 1 (count ∷ rest) ≡ false = ap (is_too_long 1) (sym split) ∙ is_made.fits in
    let amount : arrays_made (count ∷ rest) ≡ made = ap arrays_made (sym split) ∙ is_made.same in
    let arrays = nested desc count rest before.heap in
    let memory : record before { heap = arrays.heap; allocations = before.allocations + arrays_made (count ∷ rest) } ≡ after =
    ap (λ (n : ℕ). record before { heap = arrays.heap; allocations = before.allocations + n }) amount ∙ sym after_is
    in
    record {
      same =
          ap (λ (all : List ℕ). arrays_of_counts before desc (all_counts all)) split
          ∙ (rw fits (ap (λ (m : Memory). gives m (Ref arrays.reference ∷ [])) memory ∙ ap (λ (r : ℕ). gives after (Ref r ∷ [])) (sym at_is)));
      keeps = tt;
    }
