-- Names that stand twice, as classes are taken off two lists in byte order of names.
use Rattle.std.proofs.Common.{◌≡◌, ◌+◌, ◌≤◌, ℕ, Bool, true, false, cond, bytes_eq, Option, Some, None, refl, sym, ap, subst, ◌∙◌, ◌⊎◌, inl, inr, Bor, arith, true≢false}
use Rattle.std.proofs.lemmas.Bool.{cases_lt}
use Rattle.std.proofs.lemmas.Cmp.{nat_list_cmp_total}
use Rattle.std.proofs.lemmas.Map.Text.{is_eq-slice_cmp}
use Rattle.std.proofs.lemmas.Slice.Eq.{bytes_eq-Decides}
use Rattle.std.specs.Cmp.Lexicographic.{slice_cmp}
use Rattle.std.specs.Option.{option_copied, option_eq}
use Rattle.std.specs.Ordering.{nat_cmp, is_eq, ordering_reverse}
use Rattle.std.specs.declared.cmp.Ordering.{Ordering}
use Rattle.std.specs.declared.cmp.Ordering.TheVariants.{Less, Equal, Greater}
use Rattle.class_tree.specs.Headers.{Name, Headers}
use Rattle.class_tree.specs.Trees.{AreHeadersInOrder, IsBefore, times}

-- once where the names are the same
abbrev pub once_if : Name → Name → ℕ
once_if name other = cond (bytes_eq name other) 1 0

-- once where it was taken last
abbrev pub once_last : Option Name → Name → ℕ
once_last None name = 0
once_last (Some last) name = once_if name last

-- Classes are left, and a class of a name was taken last. No name that was taken stands twice.
pub record AreLeft (headers rest : Headers) (last : Option Name) : Type 0 where
  pub folder : AreHeadersInOrder rest.folder
  pub library : AreHeadersInOrder rest.library
  pub there : (name : Name) → times name rest + once_last last name ≤ times name headers
  pub kept : (name : Name) → 2 ≤ times name headers → times name headers ≤ times name rest + once_last last name
  pub later : (low : Name) → last ≡ Some low → (name : Name) → IsBefore name low → times name rest ≡ 0

-- The first class of those that are left was taken off them.
pub record IsTaken (rest : Headers) (taken : Name) (others : Headers) : Type 0 where
  pub folder : AreHeadersInOrder others.folder
  pub library : AreHeadersInOrder others.library
  pub counts : (name : Name) → times name rest ≡ times name others + once_if name taken
  pub first : (name : Name) → IsBefore name taken → times name rest ≡ 0

at_most_once : (name other : Name) → once_if name other ≤ 1
at_most_once name other = by (bytes_eq name other)
  where
    by : (b : Bool) → cond b 1 0 ≤ 1
    by true = omega arith
    by false = omega arith

last_at_most_once : (last : Option Name) (name : Name) → once_last last name ≤ 1
last_at_most_once None name = omega arith
last_at_most_once (Some last) name = at_most_once name last

same_once : (name : Name) → once_if name name ≡ 1
same_once name = ap (λ (b : Bool). cond b 1 0) ((bytes_eq-Decides name name).1 refl)

-- a name is another, and does not count, or is the same
once_cases : (name other : Name) → (once_if name other ≡ 0) ⊎ (name ≡ other)
once_cases name other = by (bytes_eq name other) refl
  where
    by : (b : Bool) → bytes_eq name other ≡ b → (cond b 1 0 ≡ (0 + 0)) ⊎ (name ≡ other)
    by true e = inr ((bytes_eq-Decides name other).0 e)
    by false e = inl refl

-- none is left
pub none_left : (headers rest : Headers) (last : Option Name) → AreLeft headers rest last → ((name : Name) → times name rest ≡ 0) → (name : Name) → times name headers ≤ 1
none_left headers rest last left none name = elim (cases_lt (times name headers) 2) [
  | inl once ↦ omega arith
  | inr two ↦ omega (arith, left.kept name two, none name, last_at_most_once last name)
]

-- the last was taken again
pub stands_twice : (headers rest : Headers) (name : Name) (others : Headers) → AreLeft headers rest (Some name) → IsTaken rest name others → 2 ≤ times name headers
stands_twice headers rest name others left taken = omega (arith, left.there name, taken.counts name, same_once name)

pub none_twice_before : (headers rest : Headers) (name : Name) (others : Headers) → AreLeft headers rest (Some name) → IsTaken rest name others → (other : Name) → IsBefore other name → times other headers ≤ 1
none_twice_before headers rest name others left taken other before = elim (cases_lt (times other headers) 2) [
  | inl once ↦ omega arith
  | inr two ↦ omega (arith, left.kept other two, taken.first other before, at_most_once other name)
]

-- what was taken last stands before what is taken now
last_before : (rest : Headers) (low name : Name) (others : Headers) → IsTaken rest name others → ((earlier : Name) → IsBefore earlier low → times earlier rest ≡ 0) → (low ≡ name → ⊥) → IsBefore low name
last_before rest low name others taken later other = by (slice_cmp nat_cmp low name) refl
  where
    by : (order : Ordering) → slice_cmp nat_cmp low name ≡ order → order ≡ Less
    by Less e = refl
    by Equal e = absurd (other ((bytes_eq-Decides low name).0 (sym (is_eq-slice_cmp low name) ∙ ap is_eq e)))
    by Greater e =
        let before : IsBefore name low = nat_list_cmp_total.antisymm name low ∙ ap ordering_reverse e in
        absurd (omega (arith, later name before, taken.counts name, same_once name))

-- another was taken
pub another_left : (headers rest : Headers) (last : Option Name) (name : Name) (others : Headers) → AreLeft headers rest last → IsTaken rest name others → ((low : Name) → last ≡ Some low → low ≡ name → ⊥) → AreLeft headers others (Some name)
another_left headers rest last name others left taken other = record {
  folder = taken.folder;
  library = taken.library;
  there = λ each. omega (arith, left.there each, taken.counts each);
  kept = λ each two. still each two last refl (left.kept each two);
  later = λ low is each before. omega (arith, taken.first each (subst (IsBefore each) (cc is) before), taken.counts each);
}
  where
    still : (each : Name) → 2 ≤ times each headers → (before : Option Name) → last ≡ before → times each headers ≤ times each rest + once_last before each → times each headers ≤ times each others + once_if each name
    still each two None e kept = omega (arith, taken.counts each)
    still each two (Some low) e kept = elim (once_cases each low) [
      | inl none ↦ omega (arith, taken.counts each, none)
      | inr same ↦
          let before : IsBefore low name = last_before rest low name others taken (left.later low e) (other low e) in
          absurd (omega (arith, two, kept, at_most_once each low, taken.first each (subst (λ (n : Name). IsBefore n name) (sym same) before)))
    ]

-- what a comparison with the last says
pub same_last : (last : Option (Bor Name)) (name : Bor Name) → option_eq (λ one other. bytes_eq one.now other.now) last (Some name) ≡ true → option_copied last ≡ Some name.now
same_last None name e = absurd cc
same_last (Some last) name e = ap Some ((bytes_eq-Decides last.now name.now).0 e)

pub other_last : (last : Option (Bor Name)) (name : Bor Name) → option_eq (λ one other. bytes_eq one.now other.now) last (Some name) ≡ false → (low : Name) → option_copied last ≡ Some low → low ≡ name.now → ⊥
other_last None name e low is same = absurd cc
other_last (Some last) name e low is same =
    let equal : bytes_eq last.now name.now ≡ true = (bytes_eq-Decides last.now name.now).1 (cc (is, same)) in
    true≢false (sym equal ∙ e)
