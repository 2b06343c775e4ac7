-- The virtual objects that are left where one more is made.
use Rattle.std.proofs.Common.{◌≡◌, ◌==◌, ◌+◌, ◌≤◌, ℕ, zero, suc, Bool, true, false, List, [], ◌∷◌, filter, length, slice_get, Some, refl, sym, ap, subst, ◌∙◌, arith}
use Rattle.std.specs.List.{AllByRecursion}
use Rattle.std.proofs.lemmas.Bool.{eq-eqb, false≢true}
use Rattle.std.proofs.lemmas.Option.{none-some, same_Some}
use Rattle.plan_flow.specs.Laws.OpenEdges.{still_in}
use Rattle.machine_values.specs.declared.object.Object.{Object}
use Rattle.same_runs.specs.Laws.Apart.{AreAmong}
use Rattle.virtual_state.specs.Sites.{has}
use Rattle.written_runs.specs.Inner.MadeObjects.{left_of}
use Rattle.written_runs.specs.Inner.Standing.{apart, entered}
use Rattle.written_runs.specs.Laws.LessVirtual.{is_left, left_of_site, was_in}
use Rattle.written_runs.specs.VirtualObjects.{AreApart, HasVirtual, IsOther, Virtual, Virtuals}

-- ---- sums

abbrev total : (Virtual → ℕ) → Virtuals → ℕ
total weight [] = 0
total weight (one ∷ others) = weight one + total weight others

total_one : (virtuals : Virtuals) → total (λ virtual. 1) virtuals ≡ length virtuals
total_one [] = refl
total_one (one ∷ others) = let rest = total_one others in omega (arith, rest)

total_entered : (virtuals : Virtuals) → total (λ virtual. virtual.object.monitor) virtuals ≡ entered virtuals
total_entered [] = refl
total_entered (one ∷ others) = let rest = total_entered others in omega (arith, rest)

module _ (weight : Virtual → ℕ) (fewer more : Virtual → Bool) (passes : (one : Virtual) → fewer one ≡ true → more one ≡ true) where
  less : (virtuals : Virtuals) → total weight (filter fewer virtuals) ≤ total weight (filter more virtuals)
  less [] = omega arith
  less (one ∷ others) = by (fewer one) (more one) refl refl (less others) where
    by : (few many : Bool) → fewer one ≡ few → more one ≡ many → total weight (filter fewer others) ≤ total weight (filter more others)
        → total weight (filter fewer (one ∷ others)) ≤ total weight (filter more (one ∷ others))
    by true true is is_also rest = rw (is, is_also) (omega (arith, rest))
    by true false is is_also rest = absurd (false≢true (sym is_also ∙ passes one is))
    by false true is is_also rest = rw (is, is_also) (omega (arith, rest))
    by false false is is_also rest = rw (is, is_also) rest

  -- one that is in the longer list alone
  one_less : (virtuals : Virtuals) (number : ℕ) (one : Virtual) → slice_get virtuals number ≡ Some one → fewer one ≡ false → more one ≡ true
      → total weight (filter fewer virtuals) + weight one ≤ total weight (filter more virtuals)
  one_less [] number one is gone stays = absurd (none-some one is)
  one_less (first ∷ others) zero one is gone stays =
      let same = same_Some first one is in
      let first_gone : fewer first ≡ false = ap fewer same ∙ gone in
      let first_stays : more first ≡ true = ap more same ∙ stays in
      let rest = less others in
      let equal : weight first ≡ weight one = ap weight same in
      rw (first_gone, first_stays) (omega (arith, rest, equal))
  one_less (first ∷ others) (suc number) one is gone stays =
      by (fewer first) (more first) refl refl (one_less others number one is gone stays) where
        by : (few many : Bool) → fewer first ≡ few → more first ≡ many
            → total weight (filter fewer others) + weight one ≤ total weight (filter more others)
            → total weight (filter fewer (first ∷ others)) + weight one ≤ total weight (filter more (first ∷ others))
        by true true here here_also rest = rw (here, here_also) (omega (arith, rest))
        by true false here here_also rest = absurd (false≢true (sym here_also ∙ passes first here))
        by false true here here_also rest = rw (here, here_also) (omega (arith, rest))
        by false false here here_also rest = rw (here, here_also) rest

-- ---- one object more is made

module _ (frame site : ℕ) (done : List ℕ) (virtuals : Virtuals) (virtual : Virtual) (has_it : HasVirtual virtuals frame site virtual)
    (unmade : has done site ≡ false) where
  abbrev before : Virtuals
  before = left_of frame done virtuals

  abbrev after : Virtuals
  after = left_of frame (site ∷ done) virtuals

  still_left : (one : Virtual) → is_left frame (site ∷ done) one ≡ true → is_left frame done one ≡ true
  still_left one is = by (one.frame == frame) (site == one.site) refl refl is where
    by : (same same_site : Bool) → (one.frame == frame) ≡ same → (site == one.site) ≡ same_site
        → is_left frame (site ∷ done) one ≡ true
        → is_left frame done one ≡ true
    by false b e e_also told = rw (e) refl
    by true true e e_also told = absurd (false≢true (sym (rw (e, e_also) refl) ∙ told))
    by true false e e_also told = sym (rw (e, e_also) refl) ∙ told

  is_gone : is_left frame (site ∷ done) virtual ≡ false
  is_gone =
      rw (
        eq-eqb virtual.frame frame has_it.of_frame,
        eq-eqb site virtual.site (sym has_it.of_site),
      ) refl

  was_left : is_left frame done virtual ≡ true
  was_left =
      let none : has done virtual.site ≡ false = ap (has done) has_it.of_site ∙ unmade in
      rw (eq-eqb virtual.frame frame has_it.of_frame, none) refl

  pub fewer_left : length after + 1 ≤ length before
  fewer_left =
      let counted = one_less (λ one. 1) (is_left frame (site ∷ done)) (is_left frame done) still_left virtuals has_it.number virtual
      has_it.is_there is_gone was_left in
      let one = total_one after in
      let other = total_one before in
      omega (arith, counted, one, other)

  pub fewer_entered : entered after + virtual.object.monitor ≤ entered before
  fewer_entered =
      let counted = one_less (λ one. one.object.monitor) (is_left frame (site ∷ done)) (is_left frame done) still_left virtuals has_it.number
      virtual has_it.is_there is_gone was_left in
      let one = total_entered after in
      let other = total_entered before in
      omega (arith, counted, one, other)

  -- what is apart then was apart, and is no such reference
  abbrev Item : Type 0
  Item = ℕ × Object

  abbrev item_of : Virtual → Item
  item_of one = (one.reference, one.object)

  got : (list : Virtuals) (number : ℕ) (one : Virtual) → slice_get list number ≡ Some one → slice_get (apart list) number ≡ Some (item_of one)
  got [] number one is = absurd (none-some one is)
  got (first ∷ list) zero one is = ap (λ (v : Virtual). Some (item_of v)) (same_Some first one is)
  got (first ∷ list) (suc number) one is = got list number one is

  pub is_apart : (number : ℕ) × (slice_get (apart before) number ≡ Some (virtual.reference, virtual.object))
  is_apart =
      let there = left_of_site frame site done virtuals virtual unmade has_it in
      (there.number, got before there.number virtual there.is_there)

  each_among : (list : Virtuals) → ((number : ℕ) (one : Virtual) → slice_get list number ≡ Some one
      → (place : ℕ) × (slice_get before place ≡ Some one))
      → AreAmong (apart list) (apart before)
  each_among [] all = tt
  each_among (first ∷ list) all =
      let there = all 0 first refl in
      ((there.0, got before there.0 first there.1), each_among list (λ number one is. all (suc number) one is))

  pub among : AreAmong (apart after) (apart before)
  among = each_among after (λ number one is.
      let was = was_in (is_left frame (site ∷ done)) virtuals number one is in
      still_in (is_left frame done) virtuals was.number one was.is_there (still_left one was.passes))

  -- two objects of a list that are not the same have other references
  other_reference : (list : Virtuals) → AreApart list → (number place : ℕ) (one other : Virtual)
      → slice_get list number ≡ Some one
      → slice_get list place ≡ Some other
      → one.reference ≡ other.reference
      → one ≡ other
  other_reference [] are number place one other is is_also same = absurd (none-some one is)
  other_reference (first ∷ list) are zero zero one other is is_also same = sym (same_Some first one is) ∙ same_Some first other is_also
  other_reference (first ∷ list) are zero (suc place) one other is is_also same =
      absurd ((subst (λ (v : Virtual). IsOther v other) (same_Some first one is) (in_list list place other are.0 is_also)).reference same) where
        in_list : (items : Virtuals) (n : ℕ) (it : Virtual) → AllByRecursion (IsOther first) items → slice_get items n ≡ Some it → IsOther first it
        in_list [] n it all there = absurd (none-some it there)
        in_list (head ∷ items) zero it all there = subst (IsOther first) (same_Some head it there) all.0
        in_list (head ∷ items) (suc n) it all there = in_list items n it all.1 there
  other_reference (first ∷ list) are (suc number) zero one other is is_also same =
      absurd ((subst (λ (v : Virtual). IsOther v one) (same_Some first other is_also) (in_list list number one are.0 is)).reference (sym same)) where
        in_list : (items : Virtuals) (n : ℕ) (it : Virtual) → AllByRecursion (IsOther first) items → slice_get items n ≡ Some it → IsOther first it
        in_list [] n it all there = absurd (none-some it there)
        in_list (head ∷ items) zero it all there = subst (IsOther first) (same_Some head it there) all.0
        in_list (head ∷ items) (suc n) it all there = in_list items n it all.1 there
  other_reference (first ∷ list) are (suc number) (suc place) one other is is_also same =
      other_reference list are.1 number place one other is is_also same

  each_differs : (list : Virtuals) → ((number : ℕ) (one : Virtual) → slice_get list number ≡ Some one → virtual.reference ≡ one.reference → ⊥)
      → AllByRecursion (λ (item : Item). virtual.reference ≡ item.0 → ⊥) (apart list)
  each_differs [] all = tt
  each_differs (first ∷ list) all = (all 0 first refl, each_differs list (λ number one is. all (suc number) one is))

  pub others_differ : AreApart virtuals → AllByRecursion (λ (item : Item). virtual.reference ≡ item.0 → ⊥) (apart after)
  others_differ are = each_differs after (λ number one is same.
      let was = was_in (is_left frame (site ∷ done)) virtuals number one is in
      let equal = other_reference virtuals are has_it.number was.number virtual one has_it.is_there was.is_there same in
      false≢true (sym is_gone ∙ ap (is_left frame (site ∷ done)) equal ∙ was.passes))
