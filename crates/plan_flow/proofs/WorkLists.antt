-- Points in a sorted set, as a list.
use Rattle.std.proofs.Common.{◌≡◌, ℕ, ◌+◌, ◌==◌, nat_lt, Bool, true, false, cond, List, [], ◌∷◌, ◌++◌, length, IsTrue, refl, sym, subst, inl, inr, ◌⊎◌, arith}
use Rattle.std.specs.BTreeSet.{insert_key}
use Rattle.std.specs.Ordering.{nat_cmp, match_ordering}
use Rattle.std.specs.declared.cmp.Ordering.{Ordering}
use Rattle.std.specs.declared.cmp.Ordering.TheVariants.{Less, Equal, Greater}
use Rattle.std.proofs.lemmas.Bool.{or_left, or_right, or_cases, eq-eqb, eqb-true, false≢true}
use Rattle.plan_flow.specs.Inner.Reaching.{HasListed}
use Rattle.virtual_state.specs.Sites.{has}

has_itself : (at : ℕ) (list : List ℕ) → IsTrue (has (at ∷ list) at)
has_itself at list = or_left (at == at) (has list at) (eq-eqb at at refl)

only_first : (at : ℕ) (list : List ℕ) (other : ℕ) → IsTrue (has (at ∷ list) other) → (at ≡ other) ⊎ IsTrue (has list other)
only_first at list other there = elim (or_cases (at == other) (has list other) there) [
  | inl here ↦ inl (eqb-true at other here)
  | inr behind ↦ inr behind
]

pub equal_numbers : (one other : ℕ) → nat_cmp one other ≡ Equal → one ≡ other
equal_numbers one other is = by (nat_lt one other) (one == other) refl is where
  by : (less same : Bool) → (one == other) ≡ same → cond less Less (cond same Equal Greater) ≡ Equal → one ≡ other
  by true same equal none = absurd cc
  by false true equal some = eqb-true one other equal
  by false false equal none = absurd cc

pub inserted : (list : List ℕ) (at : ℕ) → HasListed list (insert_key nat_cmp list at) at
inserted [] at = record {
  here = has_itself at [];
  others = λ other there. or_right (at == other) false there;
  only = only_first at [];
  more = omega arith;
}
inserted (first ∷ list) at = by (nat_cmp at first) refl (inserted list at) where
  by :
      (order : Ordering)
      → nat_cmp at first ≡ order
      → HasListed list (insert_key nat_cmp list at) at
      → HasListed (first ∷ list) (match_ordering order (at ∷ first ∷ list) (first ∷ list) (first ∷ insert_key nat_cmp list at)) at
  by Less is rest = record {
    here = has_itself at (first ∷ list);
    others = λ other there. or_right (at == other) (has (first ∷ list) other) there;
    only = only_first at (first ∷ list);
    more = omega arith;
  }
  by Equal is rest = record {
    here = subst (λ (n : ℕ). IsTrue (has (first ∷ list) n)) (sym (equal_numbers at first is)) (has_itself first list);
    others = λ other there. there;
    only = λ other there. inr there;
    more = omega arith;
  }
  by Greater is rest = record {
    here = or_right (first == at) (has (insert_key nat_cmp list at) at) rest.here;
    others = λ other there. elim (or_cases (first == other) (has list other) there) [
      | inl here ↦ or_left (first == other) (has (insert_key nat_cmp list at) other) here
      | inr behind ↦ or_right (first == other) (has (insert_key nat_cmp list at) other) (rest.others other behind)
    ];
    only = λ other there. elim (or_cases (first == other) (has (insert_key nat_cmp list at) other) there) [
      | inl here ↦ inr (or_left (first == other) (has list other) here)
      | inr behind ↦ elim (rest.only other behind) [
        | inl same ↦ inl same
        | inr old ↦ inr (or_right (first == other) (has list other) old)
      ]
    ];
    more = let more = rest.more in omega (arith, more);
  }

-- ---- two lists

has_front : (front back : List ℕ) (at : ℕ) → IsTrue (has front at) → IsTrue (has (front ++ back) at)
has_front [] back at there = absurd (false≢true there)
has_front (first ∷ front) back at there = elim (or_cases (first == at) (has front at) there) [
  | inl here ↦ or_left (first == at) (has (front ++ back) at) here
  | inr rest ↦ or_right (first == at) (has (front ++ back) at) (has_front front back at rest)
]

has_back : (front back : List ℕ) (at : ℕ) → IsTrue (has back at) → IsTrue (has (front ++ back) at)
has_back [] back at there = there
has_back (first ∷ front) back at there = or_right (first == at) (has (front ++ back) at) (has_back front back at there)

has_either : (front back : List ℕ) (at : ℕ) → IsTrue (has (front ++ back) at) → IsTrue (has front at) ⊎ IsTrue (has back at)
has_either [] back at there = inr there
has_either (first ∷ front) back at there = elim (or_cases (first == at) (has (front ++ back) at) there) [
  | inl here ↦ inl (or_left (first == at) (has front at) here)
  | inr rest ↦ elim (has_either front back at rest) [
    | inl in_front ↦ inl (or_right (first == at) (has front at) in_front)
    | inr in_back ↦ inr in_back
  ]
]

length_both : (front back : List ℕ) → length (front ++ back) ≡ length front + length back
length_both [] back = omega arith
length_both (first ∷ front) back = let rest = length_both front back in omega (arith, rest)

pub listed_front : (front more back : List ℕ) (at : ℕ) → HasListed front more at → HasListed (front ++ back) (more ++ back) at
listed_front front more back at listed = record {
  here = has_front more back at listed.here;
  others = λ other there. elim (has_either front back other there) [
    | inl in_front ↦ has_front more back other (listed.others other in_front)
    | inr in_back ↦ has_back more back other in_back
  ];
  only = λ other there. elim (has_either more back other there) [
    | inr in_back ↦ inr (has_back front back other in_back)
    | inl in_front ↦ elim (listed.only other in_front) [
      | inl same ↦ inl same
      | inr old ↦ inr (has_front front back other old)
    ]
  ];
  more = let one = length_both front back in let two = length_both more back in let few = listed.more in omega (arith, one, two, few);
}

pub listed_back : (front back more : List ℕ) (at : ℕ) → HasListed back more at → HasListed (front ++ back) (front ++ more) at
listed_back front back more at listed = record {
  here = has_back front more at listed.here;
  others = λ other there. elim (has_either front back other there) [
    | inl in_front ↦ has_front front more other in_front
    | inr in_back ↦ has_back front more other (listed.others other in_back)
  ];
  only = λ other there. elim (has_either front more other there) [
    | inl in_front ↦ inr (has_front front back other in_front)
    | inr in_back ↦ elim (listed.only other in_back) [
      | inl same ↦ inl same
      | inr old ↦ inr (has_back front back other old)
    ]
  ];
  more = let one = length_both front back in let two = length_both front more in let few = listed.more in omega (arith, one, two, few);
}
