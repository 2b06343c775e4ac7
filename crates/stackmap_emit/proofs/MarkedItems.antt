-- Items are marked one after the other.
use Rattle.std.proofs.Common.{◌≡◌, ◌==◌, ◌||◌, ◌+◌, ◌<◌, ◌≤◌, ◌⊎◌, ℕ, zero, suc, Bool, true, false, List, [], ◌∷◌, drop, get_or, length, map, replicate, slice_set, refl, sym, ap, ◌∙◌, inl, inr, arith}
use Rattle.std.specs.List.{list_any}
use Rattle.std.proofs.lemmas.Bool.{eq-eqb, ne_eqb}
use Rattle.std.proofs.lemmas.List.{drop_all, length-replicate}
use Rattle.code_layout.specs.declared.emitted.Catch.{Catch}
use Rattle.code_layout.specs.declared.emitted.EmitItem.{EmitItem}
use Rattle.class_model.specs.Instructions.{targets}
use Rattle.class_model.specs.declared.instr.Pair.{Pair}
use Rattle.stackmap_emit.specs.Inner.Marks.{AreLed, IsMarked, IsMarkedBut, are_targets, catches_lead, item_leads, items_lead, pairs_lead}

-- ---- Booleans

or_false : (b : Bool) → (b || false) ≡ b
or_false true = refl
or_false false = refl

or_again : (a b c : Bool) → ((a || b) || c) ≡ (a || (b || c))
or_again true b c = refl
or_again false b c = refl

same_or_other : (one other : ℕ) → (one ≡ other) ⊎ (one ≡ other → ⊥)
same_or_other zero zero = inl refl
same_or_other zero (suc other) = inr (λ same. absurd (omega (arith, same)))
same_or_other (suc one) zero = inr (λ same. absurd (omega (arith, same)))
same_or_other (suc one) (suc other) = elim (same_or_other one other) [
  | inl same ↦ inl (ap suc same)
  | inr differ ↦ inr (λ same. differ (omega (arith, same)))
]

-- ---- one item

set_many : (marks : List Bool) (at : ℕ) → length (slice_set marks at true) ≡ length marks
set_many [] zero = refl
set_many [] (suc at) = refl
set_many (mark ∷ marks) zero = refl
set_many (mark ∷ marks) (suc at) = ap suc (set_many marks at)

set_here : (marks : List Bool) (at : ℕ) → at < length marks → get_or (slice_set marks at true) at false ≡ true
set_here [] at inside = absurd (omega (arith, inside))
set_here (mark ∷ marks) zero inside = refl
set_here (mark ∷ marks) (suc at) inside = set_here marks at (omega (arith, inside))

set_other : (marks : List Bool) (at place : ℕ) → (at ≡ place → ⊥) → get_or (slice_set marks at true) place false ≡ get_or marks place false
set_other [] zero place differ = refl
set_other [] (suc at) place differ = refl
set_other (mark ∷ marks) zero zero differ = absurd (differ refl)
set_other (mark ∷ marks) zero (suc place) differ = refl
set_other (mark ∷ marks) (suc at) zero differ = refl
set_other (mark ∷ marks) (suc at) (suc place) differ = set_other marks at place (λ same. differ (ap suc same))

or_true : (b : Bool) → (b || true) ≡ true
or_true true = refl
or_true false = refl

pub is_set : (marks : List Bool) (at : ℕ) → IsMarked (λ (place : ℕ). at == place) marks (slice_set marks at true)
is_set marks at = record { many = set_many marks at; each = each } where
  each : (place : ℕ) → place < length marks
      → get_or (slice_set marks at true) place false ≡ (get_or marks place false || (at == place))
  each place inside = elim (same_or_other at place) [
    | inl same ↦
        rw (sym same) (rw (eq-eqb at at refl) (set_here marks at (omega (arith, inside, same)) ∙ sym (or_true (get_or marks at false))))
    | inr differ ↦ rw (ne_eqb at place differ) (set_other marks at place differ ∙ sym (or_false (get_or marks place false)))
  ]

pub is_past : (marks : List Bool) (at : ℕ) → length marks ≤ at → IsMarked (λ (place : ℕ). at == place) marks marks
is_past marks at past = record { many = refl; each = each } where
  each : (place : ℕ) → place < length marks → get_or marks place false ≡ (get_or marks place false || (at == place))
  each place inside = rw (ne_eqb at place (λ same. absurd (omega (arith, past, inside, same)))) (sym (or_false (get_or marks place false)))

-- ---- items one after the other

pub all_left : (whole : ℕ → Bool) (marks : List Bool) → IsMarkedBut whole whole marks marks
all_left whole marks = record { many = refl; each = λ at inside. refl }

pub fewer_left : (by left more whole : ℕ → Bool) (one two three : List Bool)
    → IsMarkedBut more whole one two
    → ((at : ℕ) → more at ≡ (by at || left at))
    → IsMarked by two three
    → IsMarkedBut left whole one three
fewer_left by left more whole one two three before is marked = record {
  many = marked.many ∙ before.many;
  each = λ at inside.
      ap (λ (b : Bool). b || left at) (marked.each at (omega (arith, inside, before.many)))
      ∙ or_again (get_or two at false) (by at) (left at)
      ∙ ap (λ (b : Bool). get_or two at false || b) (sym (is at))
      ∙ before.each at inside;
}

pub none_left : (left whole : ℕ → Bool) (one two : List Bool)
    → IsMarkedBut left whole one two
    → ((at : ℕ) → left at ≡ false)
    → IsMarked whole one two
none_left left whole one two before none = record {
  many = before.many;
  each = λ at inside.
      sym (or_false (get_or two at false))
      ∙ ap (λ (b : Bool). get_or two at false || b) (sym (none at))
      ∙ before.each at inside;
}

pub marked_both : (one other whole : ℕ → Bool) (a b c : List Bool)
    → IsMarked one a b
    → IsMarked other b c
    → ((at : ℕ) → whole at ≡ (one at || other at))
    → IsMarked whole a c
marked_both one other whole a b c first second is = record {
  many = second.many ∙ first.many;
  each = λ at inside.
      second.each at (omega (arith, inside, first.many))
      ∙ ap (λ (mark : Bool). mark || other at) (first.each at inside)
      ∙ or_again (get_or a at false) (one at) (other at)
      ∙ ap (λ (mark : Bool). get_or a at false || mark) (sym (is at));
}

pub marked_same : (one other : ℕ → Bool) (a b : List Bool) → IsMarked one a b → ((at : ℕ) → other at ≡ one at) → IsMarked other a b
marked_same one other a b first is = record {
  many = first.many;
  each = λ at inside. first.each at inside ∙ ap (λ (mark : Bool). get_or a at false || mark) (sym (is at));
}

-- ---- what is left of a list

module _ {A : Type 0} (test : A → ℕ → Bool) where
  abbrev pub any : List A → ℕ → Bool
  any items at = list_any (λ (one : A). test one at) items

  pub one_less : (items : List A) (index : ℕ) (one : A) → drop index items ≡ one ∷ drop (index + 1) items → (at : ℕ)
      → any (drop index items) at ≡ (test one at || any (drop (index + 1) items) at)
  one_less items index one is at = rw is refl

  pub none_more : (items : List A) (index : ℕ) → length items ≤ index → (at : ℕ) → any (drop index items) at ≡ false
  none_more items index past at = rw (drop_all index items past) refl

-- ---- handlers and items

pub catches_same : (catches : List Catch) (at : ℕ)
    → list_any (λ (catch : ℕ × ℕ). catch.0 == at) (map (λ (catch : Catch). (catch.to, catch.catch_type)) catches) ≡ catches_lead catches at
catches_same [] at = refl
catches_same (catch ∷ catches) at = ap (λ (b : Bool). (catch.to == at) || b) (catches_same catches at)

pub item_both : (item : EmitItem) (at : ℕ) → item_leads item at ≡ (are_targets (targets item.instr) at || catches_lead item.catches at)
item_both item at = ap (λ (b : Bool). are_targets (targets item.instr) at || b) (catches_same item.catches at)

pub pairs_same : (pairs : List Pair) (at : ℕ) → are_targets (map (λ (pair : Pair). pair.to) pairs) at ≡ pairs_lead pairs at
pairs_same [] at = refl
pairs_same (pair ∷ pairs) at = ap (λ (b : Bool). (pair.to == at) || b) (pairs_same pairs at)

blank : (count at : ℕ) → get_or (replicate count false) at false ≡ false
blank zero zero = refl
blank zero (suc at) = refl
blank (suc count) zero = refl
blank (suc count) (suc at) = blank count at

pub led_from : (items : List EmitItem) (old led : List Bool) → old ≡ replicate (length items) false → IsMarked (items_lead items) old led → AreLed items led
led_from items old led is marked = λ at inside.
    let many : length old ≡ length items = ap length is ∙ length-replicate (length items) false in
    marked.each at (omega (arith, inside, many))
    ∙ ap (λ (b : Bool). b || items_lead items at) (ap (λ (marks : List Bool). get_or marks at false) is ∙ blank (length items) at)
