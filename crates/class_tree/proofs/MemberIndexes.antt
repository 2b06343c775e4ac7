-- Members by an index: what a search for a name and a descriptor finds.
use Rattle.std.proofs.Common.{◌≡◌, ◌+◌, ◌<◌, ◌≤◌, ℕ, zero, suc, Bool, true, false, cond, List, [], ◌∷◌, ◌++◌, length, get_or, slice_get, bytes_eq, Contains, Some, None, option_map, refl, sym, ap, subst, ◌∙◌, ◌⊎◌, inl, inr, arith, true≢false}
use Rattle.std.proofs.lemmas.Bool.{cases_lt}
use Rattle.std.proofs.lemmas.Cmp.{nat_list_cmp_total, lists_total, tied_itself}
use Rattle.std.proofs.lemmas.List.{length_push}
use Rattle.std.proofs.lemmas.List.FromFn.{length-range_with_len, get_or-range_with_len}
use Rattle.std.proofs.lemmas.List.Sorted.{Contains-permutation, All-permutation, ranks_by, sorted_far, searchable_from_sorted}
use Rattle.std.proofs.lemmas.Map.Text.{is_eq-slice_cmp}
use Rattle.std.proofs.lemmas.Option.{slice_get_within, slice_get_cases, get_or_from_slice_get}
use Rattle.std.proofs.lemmas.Slice.Eq.{bytes_eq-Decides}
use Rattle.std.specs.Bool.{then_some}
use Rattle.std.specs.Cmp.{first_so, second_so, nat_cmp_is}
use Rattle.std.specs.Cmp.Lexicographic.{slice_cmp}
use Rattle.std.specs.List.{range_with_len}
use Rattle.std.specs.List.Sorted.{IsPartitionedBy, IsPartitionPoint}
use Rattle.std.specs.Ordering.{nat_cmp, is_lt, is_eq, ordering_then, ordering_reverse, ordering_index}
use Rattle.std.specs.declared.cmp.Ordering.{Ordering}
use Rattle.std.specs.declared.cmp.Ordering.TheVariants.{Less, Equal, Greater}
use Rattle.class_model.specs.declared.header.Header.{Header}
use Rattle.class_model.specs.declared.header.Member.{Member}
use Rattle.class_tree.specs.Headers.{Name, Headers, all_headers}
use Rattle.class_tree.specs.Laws.FirstPlaces.{Passes}
use Rattle.class_tree.specs.Inner.MemberIndex.{key_at, IsMemberIndex}
use Rattle.class_tree.specs.Names.{is_member}
use Rattle.class_tree.specs.Inner.Nodes.{indexes_of, AreMemberIndexes}
use Rattle.class_tree.specs.Order.{first_place, member_place, members_of}
use Rattle.class_tree.specs.declared.links.Links.{Links}
use Rattle.class_tree.specs.declared.members.MemberKind.{MemberKind}
use Rattle.class_tree.specs.declared.members.MemberKind.TheVariants.{Field, Method}
use Rattle.class_tree.proofs.FirstPlaces.{is_none}

-- ---- the first place that passes

earliest_later : {X : Type 0} (test : X → Bool) (x : X) (xs : List X) (place : ℕ) → (Passes test (x ∷ xs) 0 → ⊥) → first_place test xs ≡ Some place → first_place test (x ∷ xs) ≡ Some (suc place)
earliest_later test x xs place first later = by (test x) refl
  where
    by : (b : Bool) → test x ≡ b → cond b (Some 0) (option_map (λ at. at + 1) (first_place test xs)) ≡ Some (suc place)
    by true e = absurd (first (record { item = x; there = refl; passes = e }))
    by false e = rw later (ap Some (omega arith))

-- what passes where nothing before it does is the first
is_earliest : {X : Type 0} (test : X → Bool) (xs : List X) (place : ℕ) → Passes test xs place → ((at : ℕ) → at < place → Passes test xs at → ⊥) → first_place test xs ≡ Some place
is_earliest test [] place p none = absurd (cc p.there)
is_earliest test (x ∷ xs) zero p none = rw (let same : x ≡ p.item = cc p.there in ap test same ∙ p.passes) refl
is_earliest test (x ∷ xs) (suc place) p none =
    earliest_later test x xs place (none 0 (omega arith))
    (is_earliest test xs place (record { item = p.item; there = p.there; passes = p.passes }) (λ at before q. none (suc at) (omega arith) (record { item = q.item; there = q.there; passes = q.passes })))

none_from : {X : Type 0} (test : X → Bool) (xs : List X) → ((place : ℕ) → Passes test xs place → ⊥) → first_place test xs ≡ None
none_from {X} test xs none = is_none test xs (record { at = λ place item there. by place item there (test item) refl })
  where
    by : (place : ℕ) (item : X) → slice_get xs place ≡ Some item → (b : Bool) → test item ≡ b → b ≡ false
    by place item there false e = refl
    by place item there true e = absurd (none place (record { item = item; there = there; passes = e }))

-- ---- orders in parts

behind_same : (name desc : Ordering) → name ≡ Equal → desc ≡ Equal → is_lt (ordering_then name (ordering_then desc Greater)) ≡ false
behind_same name desc e f = rw (e, f) refl

before_same : (name desc place : Ordering) → name ≡ Equal → desc ≡ Equal → place ≡ Less → is_lt (ordering_then name (ordering_then desc (ordering_then (ordering_then place Equal) Equal))) ≡ true
before_same name desc place e f g = rw (e, f, g) refl

-- what is between two that are the same is the same
same_between : (name desc rest : Ordering) → is_lt (ordering_then name (ordering_then desc Greater)) ≡ false → is_lt (ordering_then (ordering_reverse name) (ordering_then (ordering_reverse desc) rest)) ≡ false → (name ≡ Equal) × (desc ≡ Equal)
same_between Less desc rest low high = absurd (true≢false low)
same_between Greater desc rest low high = absurd (true≢false high)
same_between Equal Less rest low high = absurd (true≢false low)
same_between Equal Greater rest low high = absurd (true≢false high)
same_between Equal Equal rest low high = (refl, refl)

-- what is no later than a lower one is lower
no_later : (low high : Ordering) → ordering_index low ≤ ordering_index high → is_lt high ≡ true → is_lt low ≡ true
no_later Less high h e = refl
no_later Equal Less h e = absurd (omega arith)
no_later Greater Less h e = absurd (omega arith)
no_later Equal Equal h e = e
no_later Greater Equal h e = e
no_later Equal Greater h e = e
no_later Greater Greater h e = e

same_text : (one other : Name) → slice_cmp nat_cmp one other ≡ Equal → one ≡ other
same_text one other e = (bytes_eq-Decides one other).0 (sym (is_eq-slice_cmp one other) ∙ ap is_eq e)

-- ---- a search

abbrev is_lower : List (List ℕ) → List (List ℕ) → Bool
is_lower key other = is_lt (slice_cmp (slice_cmp nat_cmp) key other)

-- a place stands before all that have this name and descriptor
abbrev pub is_before : Name → List ℕ → List Member → ℕ → Bool
is_before name desc members place = is_lower (key_at members place) (name ∷ desc ∷ [])

pub parted : (members : List Member) (index : List ℕ) → IsMemberIndex members index → (name desc : List ℕ) → IsPartitionedBy (is_before name desc members) index
parted members index is name desc = λ i j d low within before. no_later _ _ (searchable_from_sorted (lists_total nat_list_cmp_total) (key_at members) index (name ∷ desc ∷ []) is.sorted i j d low within) before

-- each place of an index is that of a member
pub place_within : (members : List Member) (index : List ℕ) → IsMemberIndex members index → (k place : ℕ) → slice_get index k ≡ Some place → place < length members
place_within members index is k place there =
    let len = length members in
    let all = All-permutation (λ (p : ℕ). p < len) (range_with_len 0 len) index is.places (λ i d within. omega (arith, get_or-range_with_len 0 len i d, length-range_with_len 0 len)) in
    subst (λ p. p < len) (get_or_from_slice_get index k place place there) (all k place (slice_get_within index k place there))

-- and each member stands in it
place_indexed : (members : List Member) (index : List ℕ) → IsMemberIndex members index → (place : ℕ) → place < length members → Contains index place
place_indexed members index is place within =
    let len = length members in
    Contains-permutation (range_with_len 0 len) index place is.places (place, omega (arith, length-range_with_len 0 len), get_or-range_with_len 0 len place place within ∙ omega arith)

-- what a member of this name and descriptor is sorted by
key_of_passing : (name desc : List ℕ) (members : List Member) (place : ℕ) → Passes (is_member name desc) members place → key_at members place ≡ name ∷ desc ∷ (place ∷ []) ∷ []
key_of_passing name desc members place p =
    let same_name : name ≡ p.item.name = (bytes_eq-Decides name p.item.name).0 (first_so (bytes_eq name p.item.name) (bytes_eq desc p.item.desc) p.passes) in
    let same_desc : desc ≡ p.item.desc = (bytes_eq-Decides desc p.item.desc).0 (second_so (bytes_eq name p.item.name) (bytes_eq desc p.item.desc) p.passes) in
    rw p.there cc

passes_same : (name desc : List ℕ) (member : Member) → member.name ≡ name → member.desc ≡ desc → is_member name desc member ≡ true
passes_same name desc member same_name same_desc = rw ((bytes_eq-Decides name member.name).1 (sym same_name), (bytes_eq-Decides desc member.desc).1 (sym same_desc)) refl

-- The places of an index before this point, and no others, stand before all that have this name and descriptor.
module _ (members : List Member) (index : List ℕ) (is : IsMemberIndex members index) (name desc : List ℕ) (point : ℕ) (parts : IsPartitionPoint (λ place. is_before name desc members place ≡ true) (λ place. is_before name desc members place ≡ false) index point) where
  passing_behind : (place : ℕ) → Passes (is_member name desc) members place → is_before name desc members place ≡ false
  passing_behind place p =
      subst (λ key. is_lower key (name ∷ desc ∷ []) ≡ false) (sym (key_of_passing name desc members place p))
      (behind_same (slice_cmp nat_cmp name name) (slice_cmp nat_cmp desc desc) (tied_itself nat_list_cmp_total name) (tied_itself nat_list_cmp_total desc))

  passing_from_point : (place : ℕ) → Passes (is_member name desc) members place → (k : ℕ) × (point ≤ k) × (k < length index) × (get_or index k place ≡ place)
  passing_from_point place p =
      let found = place_indexed members index is place (slice_get_within members place p.item p.there) in
      elim (cases_lt found.0 point) [
        | inl before ↦ absurd (true≢false (sym (subst (λ one. is_before name desc members one ≡ true) found.2 (parts.0 found.0 place (omega arith) before)) ∙ passing_behind place p))
        | inr behind ↦ (found.0, behind, found.1, found.2)
      ]

  not_earlier : (first : ℕ) → slice_get index point ≡ Some first → (place : ℕ) → Passes (is_member name desc) members place → is_lower (name ∷ desc ∷ (place ∷ []) ∷ []) (key_at members first) ≡ false
  not_earlier first there place p =
      let found = passing_from_point place p in
      let far = sorted_far (λ (one other : ℕ). is_lower (key_at members one) (key_at members other)) (ranks_by (lists_total nat_list_cmp_total) (key_at members)) index is.sorted point found.0 place found.1 found.2 in
      let at_place = subst (λ one. is_lower (key_at members one) (key_at members (get_or index point place)) ≡ false) found.3 far in
      let at_first = subst (λ other. is_lower (key_at members place) (key_at members other) ≡ false) (get_or_from_slice_get index point first place there) at_place in
      subst (λ key. is_lower key (key_at members first) ≡ false) (key_of_passing name desc members place p) at_first

  -- where the index ends at the point, no member has them
  pub none_at_end : length index ≤ point → member_place name desc members ≡ None
  none_at_end past = none_from (is_member name desc) members (λ place p. let found = passing_from_point place p in omega (arith, found.1, found.2))

  -- where the member at the point has them, it is the first
  found_at_point : (first : ℕ) (member : Member) → slice_get index point ≡ Some first → slice_get members first ≡ Some member → is_member name desc member ≡ true → member_place name desc members ≡ Some first
  found_at_point first member there inside passes =
      let p : Passes (is_member name desc) members first = record { item = member; there = inside; passes = passes } in
      is_earliest (is_member name desc) members first p (λ place before q.
      let late = subst (λ key. is_lower (name ∷ desc ∷ (place ∷ []) ∷ []) key ≡ false) (key_of_passing name desc members first p) (not_earlier first there place q) in
      true≢false (sym (before_same (slice_cmp nat_cmp name name) (slice_cmp nat_cmp desc desc) (nat_cmp place first) (tied_itself nat_list_cmp_total name) (tied_itself nat_list_cmp_total desc) (sym (nat_cmp_is place first Less before))) ∙ late))

  -- where it does not, no member has them
  none_at_point : (first : ℕ) (member : Member) → slice_get index point ≡ Some first → slice_get members first ≡ Some member → is_member name desc member ≡ false → member_place name desc members ≡ None
  none_at_point first member there inside fails = none_from (is_member name desc) members (λ place p.
      let key : key_at members first ≡ member.name ∷ member.desc ∷ (first ∷ []) ∷ [] = rw inside refl in
      let high = subst (λ key. is_lower (name ∷ desc ∷ (place ∷ []) ∷ []) key ≡ false) key (not_earlier first there place p) in
      let at_point = subst (λ one. is_before name desc members one ≡ false) (get_or_from_slice_get index point first first there) (parts.1 point first (omega arith) (slice_get_within index point first there)) in
      let low = subst (λ key. is_lower key (name ∷ desc ∷ []) ≡ false) key at_point in
      let same = same_between (slice_cmp nat_cmp member.name name) (slice_cmp nat_cmp member.desc desc) (ordering_then (slice_cmp nat_cmp (place ∷ []) (first ∷ [])) Equal) low (rw (← nat_list_cmp_total.antisymm name member.name, ← nat_list_cmp_total.antisymm desc member.desc) high) in
      true≢false (sym (passes_same name desc member (same_text member.name name same.0) (same_text member.desc desc same.1)) ∙ fails))

  -- where the index goes on, the member at the point tells
  pub answer_at_point : (first : ℕ) (member : Member) → slice_get index point ≡ Some first → slice_get members first ≡ Some member → then_some (is_member name desc member) first ≡ member_place name desc members
  answer_at_point first member there inside = by (is_member name desc member) refl
    where
      by : (b : Bool) → is_member name desc member ≡ b → then_some b first ≡ member_place name desc members
      by true e = sym (found_at_point first member there inside e)
      by false e = sym (none_at_point first member there inside e)

-- ---- an index of each class

-- indexes of the members of the first classes
pub record AreFirstIndexes (members : Header → List Member) (headers : List Header) (indexes : List (List ℕ)) : Type 0 where
  pub len : length indexes ≤ length headers
  pub each : (number : ℕ) (header : Header) (index : List ℕ) → slice_get headers number ≡ Some header → slice_get indexes number ≡ Some index → IsMemberIndex (members header) index

-- what stands in a list with one more item
one_more : {X : Type 0} (xs : List X) (x : X) (k : ℕ) (item : X) → slice_get (xs ++ x ∷ []) k ≡ Some item → (slice_get xs k ≡ Some item) ⊎ ((k ≡ length xs) × (x ≡ item))
one_more [] x zero item there = inr (refl, cc there)
one_more [] x (suc k) item there = absurd (cc there)
one_more (y ∷ ys) x zero item there = inl there
one_more (y ∷ ys) x (suc k) item there = elim (one_more ys x k item there) [
  | inl earlier ↦ inl earlier
  | inr last ↦ inr (omega arith, last.1)
]

pub another_indexed : (members : Header → List Member) (headers : List Header) (indexes : List (List ℕ)) (header : Header) (index : List ℕ) → AreFirstIndexes members headers indexes → slice_get headers (length indexes) ≡ Some header → IsMemberIndex (members header) index → AreFirstIndexes members headers (indexes ++ index ∷ [])
another_indexed members headers indexes header index first there is = record {
  len = omega (arith, length_push indexes index, slice_get_within headers (length indexes) header there);
  each = λ number other found at_other at_found. elim (one_more indexes index number found at_found) [
    | inl earlier ↦ first.each number other found at_other earlier
    | inr last ↦ let same : header ≡ other = cc (there, at_other, last.0) in subst (λ (h : Header). IsMemberIndex (members h) found) same (subst (IsMemberIndex (members header)) last.1 is)
  ];
}

pub all_indexed : (members : Header → List Member) (headers : Headers) (indexes : List (List ℕ)) → AreFirstIndexes members (all_headers headers) indexes → slice_get (all_headers headers) (length indexes) ≡ None → AreMemberIndexes members headers indexes
all_indexed members headers indexes first past = record {
  len = elim (slice_get_cases (all_headers headers) (length indexes)).1 [
    | inl there ↦ absurd (cc (there.2, past))
    | inr end ↦ omega (arith, end.0, first.len)
  ];
  each = first.each;
}

-- the indexes of fields and those of methods are all that is kept of members
pub both : (headers : Headers) (links : Links) → AreMemberIndexes (members_of Field) headers links.fields → AreMemberIndexes (members_of Method) headers links.methods → (kind : MemberKind) → AreMemberIndexes (members_of kind) headers (indexes_of kind links)
both headers links fields methods Field = fields
both headers links fields methods Method = methods
