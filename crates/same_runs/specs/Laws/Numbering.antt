-- What the library sees is the same in both runs: numbers of references, and what each shows where it appears first.
use Rattle.std.proofs.Common.{◌≡◌, ◌==◌, ℕ, suc, Bool, true, false, List, [], ◌∷◌, ◌++◌, map, length, Option, Some, None, refl, sym, ap, ◌∙◌}
use Rattle.std.proofs.lemmas.Bool.{eq-eqb, eqb-true, ne_eqb}
use Rattle.std.proofs.lemmas.Option.{none-some, same_Some}
use Rattle.machine_values.specs.Heaps.{Heap, constant_in, monitor_count}
use Rattle.machine_values.specs.declared.event.EventKind.{EventKind}
use Rattle.machine_values.specs.declared.event.Seen.{Seen}
use Rattle.machine_values.specs.declared.event.SeenRef.{SeenRef}
use Rattle.machine_values.specs.declared.object.Constant.{Constant}
use Rattle.machine_values.specs.declared.value.Value.{Value}
use Rattle.member_link.specs.Machine.Completions.{Asked}
use Rattle.member_link.specs.Machine.Programs.{Program}
use Rattle.member_link.specs.Machine.Showing.{Numbered, asked_kind, first_of, known_number, numbered, numbered_all, numbered_option, numbered_reference}
use Rattle.same_runs.specs.Renamings.{IsRenaming, Names, SameReferences, no_references, and_reference, SameUnit, no_value, has_value, SameValue, same_int, same_long, same_float, same_double, same_null, same_reference, SameValues, no_values, and_value}
use Rattle.same_runs.specs.SameCompletions.{SameAsked, same_call, same_dynamic, same_get, same_put, same_compute}
use Rattle.same_runs.specs.SameMemories.{Apart, SameHeaps}
use Rattle.same_runs.specs.SamePrograms.{SamePrograms}
use Rattle.same_runs.specs.Laws.Heaps.{same_monitor}
use Rattle.same_runs.specs.Laws.Shapes.{same_class_of}

-- ---- known references

known_same : {names : Names} → IsRenaming names → {ones others : List ℕ} → SameReferences names ones others → (reference named : ℕ)
    → names reference ≡ Some named
    → known_number others named ≡ known_number ones reference
known_same renaming no_references reference named is = refl
known_same {names = names} renaming (and_reference {reference = first} {named = first_named} here rest) reference named is =
    rw (test, known_same renaming rest reference named is) refl where
      test : (first_named == named) ≡ (first == reference)
      test = by (first == reference) refl where
        by : (b : Bool) → (first == reference) ≡ b → (first_named == named) ≡ (first == reference)
        by true e =
            let same_one : first_named ≡ named = same_Some first_named named (sym here ∙ ap names (eqb-true first reference e) ∙ is) in
            rw (e) (ap (λ (n : ℕ). n == named) same_one ∙ eq-eqb named named refl)
        by false e = rw (e) (ne_eqb first_named named (λ same_one.
            let one : first ≡ reference = renaming.once first reference named (here ∙ ap Some same_one) is in
            Rattle.std.proofs.lemmas.Bool.false≢true (sym e ∙ ap (λ (n : ℕ). n == reference) one ∙ eq-eqb reference reference refl)))

lengths_same : {names : Names} {ones others : List ℕ} → SameReferences names ones others → length others ≡ length ones
lengths_same no_references = refl
lengths_same (and_reference is rest) = ap suc (lengths_same rest)

one_more : {names : Names} {ones others : List ℕ} {reference named : ℕ} → SameReferences names ones others → names reference ≡ Some named
    → SameReferences names (ones ++ reference ∷ []) (others ++ named ∷ [])
one_more no_references is = and_reference is no_references
one_more (and_reference here rest) is = and_reference here (one_more rest is)

-- what is seen is the same, and the references that are known behind it
pub record SameNumbered (A : Type 0) (names : Names) (one other : Numbered A) : Type 0 where
  pub seen : other.seen ≡ one.seen
  pub known : SameReferences names one.known other.known

module _ {P Q : Program} {apart : Apart} {names : Names} {one other : Heap} (same : SamePrograms P Q) (heaps : SameHeaps apart names one other) where
  constant_same : (reference named : ℕ) → names reference ≡ Some named
      → constant_in other.constants named ≡ constant_in one.constants reference
  constant_same reference named is = by (constant_in one.constants reference) (constant_in other.constants named) refl refl where
    there : (constant : Constant) → constant_in other.constants named ≡ Some constant → constant_in one.constants reference ≡ Some constant
    there constant e =
        let was = heaps.kept constant named (heaps.own_also.has constant named e) in
        let same_one : was.0 ≡ reference = heaps.renaming.once was.0 reference named was.2 is in
        ap (constant_in one.constants) (sym same_one) ∙ heaps.own.is_of constant was.0 was.1

    by : (first second : Option Constant) → constant_in one.constants reference ≡ first → constant_in other.constants named ≡ second
        → constant_in other.constants named ≡ constant_in one.constants reference
    by None None e e_also = e_also ∙ sym e
    by (Some constant) second e e_also =
        heaps.own_also.is_of constant named (heaps.named constant reference named (heaps.own.has constant reference e) is) ∙ sym e
    by None (Some constant) e e_also = absurd (none-some constant (sym e ∙ there constant e_also))

  first_same : (reference named : ℕ) → names reference ≡ Some named → first_of Q other named ≡ first_of P one reference
  first_same reference named is =
      let old = heaps.objects reference named is in
      rw (old.2, old.3, constant_same reference named is, old.4.shape, same_class_of same old.0.shape) refl

  pub reference_numbered : {ones others : List ℕ} → SameReferences names ones others → (reference named : ℕ) → names reference ≡ Some named
      → SameNumbered SeenRef names (numbered_reference P one ones reference) (numbered_reference Q other others named)
  reference_numbered {ones = ones} {others = others} known reference named is = by (known_number ones reference) refl where
    by : (found : Option ℕ) → known_number ones reference ≡ found
        → SameNumbered SeenRef names (numbered_reference P one ones reference) (numbered_reference Q other others named)
    by (Some number) e = rw (e, known_same heaps.renaming known reference named is ∙ e) (record { seen = refl; known = known })
    by None e = rw (e, known_same heaps.renaming known reference named is ∙ e)
        (record { seen = rw (lengths_same known, first_same reference named is) refl; known = one_more known is })

  pub value_numbered : {ones others : List ℕ} {value also : Value} → SameReferences names ones others → SameValue names value also
      → SameNumbered Seen names (numbered P one ones value) (numbered Q other others also)
  value_numbered known same_int = record { seen = refl; known = known }
  value_numbered known same_long = record { seen = refl; known = known }
  value_numbered known same_float = record { seen = refl; known = known }
  value_numbered known same_double = record { seen = refl; known = known }
  value_numbered known same_null = record { seen = refl; known = known }
  value_numbered known (same_reference {reference = reference} {named = named} is) =
      let number = reference_numbered known reference named is in
      record { seen = rw (number.seen) refl; known = number.known }

  pub all_numbered : (ones others : List ℕ) {first second : List Value} → SameReferences names ones others → SameValues names first second
      → SameNumbered (List Seen) names (numbered_all P one ones first) (numbered_all Q other others second)
  all_numbered ones others known no_values = record { seen = refl; known = known }
  all_numbered ones others known (and_value {one = value} {other = also} is are) =
      let first = value_numbered known is in
      let rest = all_numbered (numbered P one ones value).known (numbered Q other others also).known first.known are in
      record { seen = rw (first.seen, rest.seen) refl; known = rest.known }

  pub option_numbered : {ones others : List ℕ} {value also : Option Value} → SameReferences names ones others → SameUnit names value also
      → SameNumbered (Option Seen) names (numbered_option P one ones value) (numbered_option Q other others also)
  option_numbered known no_value = record { seen = refl; known = known }
  option_numbered known (has_value is) =
      let number = value_numbered known is in
      record { seen = rw (number.seen) refl; known = number.known }

  pub asked_numbered : {ones others : List ℕ} {asked also : Asked} → SameReferences names ones others → SameAsked names asked also
      → SameNumbered EventKind names (asked_kind P one ones asked) (asked_kind Q other others also)
  asked_numbered known (same_call {method = method} are) =
      let number = all_numbered _ _ known are in record { seen = rw (number.seen) refl; known = number.known }
  asked_numbered known (same_dynamic are) =
      let number = all_numbered _ _ known are in record { seen = rw (number.seen) refl; known = number.known }
  asked_numbered known (same_get is) =
      let number = option_numbered known is in record { seen = rw (number.seen) refl; known = number.known }
  asked_numbered known (same_put is alike) =
      let receiver = option_numbered known is in
      let number = value_numbered receiver.known alike in
      record { seen = rw (receiver.seen, number.seen) refl; known = number.known }
  asked_numbered known (same_compute are) =
      let number = all_numbered _ _ known are in record { seen = rw (number.seen) refl; known = number.known }

  -- ---- monitors of known references

  pub monitors_same : {ones others : List ℕ} → SameReferences names ones others
      → map (monitor_count other) others ≡ map (monitor_count one) ones
  monitors_same no_references = refl
  monitors_same (and_reference {reference = reference} {named = named} is rest) = rw
      (same_monitor heaps reference named is, monitors_same rest) refl
