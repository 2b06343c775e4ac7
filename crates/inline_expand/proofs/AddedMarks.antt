-- Marks that are added.
use Rattle.std.proofs.Common.{◌≡◌, ◌⊎◌, ◌↔◌, ◌+◌, ◌<◌, ◌≤◌, ℕ, Bool, true, false, List, length, get_or, slice_get, slice_set, get_or-set_other, get_or-set_same, Option, Some, refl, sym, ap, subst, ◌∙◌, inl, inr, arith}
use Rattle.std.proofs.lemmas.Bool.{cases_eq}
use Rattle.std.proofs.lemmas.Option.{same_Some}
use Rattle.std.proofs.Math.ListN.{length-set}
use Rattle.class_model.specs.declared.class_file.ClassFile.{ClassFile}
use Rattle.class_tree.specs.Headers.{Headers}
use Rattle.inline_expand.specs.Inner.StoreWords.{Adds, StoredBefore, StoresFrom}

pub adds_none : (Holds : ℕ → Type 0) (marks : List Bool) → ((number : ℕ) → number < length marks → ¬ Holds number) → Adds Holds marks marks
adds_none Holds marks none = record {
  len = refl;
  each = λ number within. (λ is. inl is, λ either. elim either [ inl is ↦ is | inr holds ↦ absurd (none number within holds) ]);
}

pub adds_same : (P Q : ℕ → Type 0) (before after : List Bool) → ((number : ℕ) → P number ↔ Q number) → Adds P before after → Adds Q before after
adds_same P Q before after same adds = record {
  len = adds.len;
  each = λ number within.
      let at = adds.each number within in (
        λ is. elim (at.0 is) [ inl old ↦ inl old | inr p ↦ inr ((same number).0 p) ],
        λ either. at.1 (elim either [ inl old ↦ inl old | inr q ↦ inr ((same number).1 q) ]),
      );
}

pub adds_then : (P Q : ℕ → Type 0) (before middle after : List Bool) → Adds P before middle → Adds Q middle after → Adds (λ number. P number ⊎ Q number) before after
adds_then P Q before middle after first then = record {
  len = then.len ∙ first.len;
  each = λ number within.
      let one = first.each number within in
      let other = then.each number (omega (arith, within, first.len)) in (
        λ is. elim (other.0 is) [
          | inl mid ↦ elim (one.0 mid) [ inl old ↦ inl old | inr p ↦ inr (inl p) ]
          | inr q ↦ inr (inr q)
        ],
        λ either. other.1 (elim either [
          | inl old ↦ inl (one.1 (inl old))
          | inr now ↦ elim now [ inl p ↦ inl (one.1 (inr p)) | inr q ↦ inr q ]
        ]),
      );
}

pub adds_one : (marks : List Bool) (found : ℕ) (option : Option ℕ) → option ≡ Some found → found < length marks
    → Adds (λ number. option ≡ Some number) marks (slice_set marks found true)
adds_one marks found option is within = record {
  len = length-set marks found true;
  each = λ number inside. elim (cases_eq number found) [
    | inl same ↦
        let at : get_or (slice_set marks found true) number false ≡ true = ap (λ (n : ℕ). get_or (slice_set marks found true) n false) same ∙ get_or-set_same marks found true false within in
        (λ _. inr (is ∙ ap Some (sym same)), λ _. at)
    | inr differ ↦
        let at : get_or (slice_set marks found true) number false ≡ get_or marks number false = get_or-set_other marks found number true false differ in
        (λ t. inl (sym at ∙ t), λ either. elim either [ inl old ↦ at ∙ old | inr here ↦ absurd (differ (sym (same_Some found number (sym is ∙ here)))) ])
  ];
}

pub adds_outside : (marks : List Bool) (found : ℕ) (option : Option ℕ) → option ≡ Some found → length marks ≤ found
    → Adds (λ number. option ≡ Some number) marks marks
adds_outside marks found option is beyond = adds_none (λ number. option ≡ Some number) marks
    (λ number within here. let same = same_Some found number (sym is ∙ here) in omega (arith, within, beyond, same))

-- one more number of which something may hold
pub adds_next : (P : ℕ → ℕ → Type 0) (i : ℕ) (before middle after : List Bool)
    → Adds (λ number. (index : ℕ) × (index < i) × P index number) before middle
    → Adds (P i) middle after
    → Adds (λ number. (index : ℕ) × (index < i + 1) × P index number) before after
adds_next P i before middle after earlier here =
    adds_same (λ number. ((index : ℕ) × (index < i) × P index number) ⊎ P i number) (λ number. (index : ℕ) × (index < i + 1) × P index number) before after
    (λ number. (
      λ either. elim either [
        | inl old ↦ (old.0, omega (arith, old.1), old.2)
        | inr now ↦ (i, omega arith, now)
      ],
      λ some. elim (cases_eq some.0 i) [
        | inl same ↦ inr (subst (λ (index : ℕ). P index number) same some.2)
        | inr differ ↦ inl (some.0, omega (arith, some.1, differ), some.2)
      ],
    ))
    (adds_then (λ number. (index : ℕ) × (index < i) × P index number) (P i) before middle after earlier here)

pub adds_start : (P : ℕ → ℕ → Type 0) (marks : List Bool) → Adds (λ number. (index : ℕ) × (index < 0) × P index number) marks marks
adds_start P marks = adds_none (λ number. (index : ℕ) × (index < 0) × P index number) marks (λ number within some. let less = some.1 in omega (arith, less))

-- one more class file of a folder
pub adds_file : (headers : Headers) (files : List ClassFile) (from : ℕ) (class : ClassFile) → slice_get files from ≡ Some class
    → (before middle after : List Bool)
    → Adds (StoredBefore headers files from) before middle
    → Adds (StoresFrom headers class from (length class.pool)) middle after
    → Adds (StoredBefore headers files (from + 1)) before after
adds_file headers files from class there before middle after earlier here =
    adds_same (λ number. StoredBefore headers files from number ⊎ StoresFrom headers class from (length class.pool) number) (StoredBefore headers files (from + 1)) before after
    (λ number. (
      λ either. elim either [
        | inl old ↦ record { from = old.from; before = omega (arith, old.before); class = old.class; there = old.there; stores = old.stores }
        | inr now ↦ record { from = from; before = omega arith; class = class; there = there; stores = now }
      ],
      λ some. elim (cases_eq some.from from) [
        | inl same ↦
            let is : some.class ≡ class = same_Some some.class class (sym some.there ∙ ap (slice_get files) same ∙ there) in
            inr (subst (λ (at : ℕ). StoresFrom headers class at (length class.pool) number) same (subst (λ (c : ClassFile). StoresFrom headers c some.from (length c.pool) number) is some.stores))
        | inr differ ↦ inl (record { from = some.from; before = omega (arith, some.before, differ); class = some.class; there = some.there; stores = some.stores })
      ],
    ))
    (adds_then (StoredBefore headers files from) (StoresFrom headers class from (length class.pool)) before middle after earlier here)

pub adds_no_file : (headers : Headers) (files : List ClassFile) (marks : List Bool) → Adds (StoredBefore headers files 0) marks marks
adds_no_file headers files marks = adds_none (StoredBefore headers files 0) marks (λ number within some. let less = some.before in omega (arith, less))
