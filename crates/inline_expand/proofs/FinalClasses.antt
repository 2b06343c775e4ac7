-- The class of the folder of whose final field a constant is a reference.
use Rattle.std.proofs.Common.{◌≡◌, ◌≢◌, ◌⊎◌, ◌↔◌, ℕ, true, false, List, Option, Some, None, IsTrue, sym, ap, subst, ◌∙◌}
use Rattle.std.proofs.lemmas.Option.{none-some, same_Some}
use Rattle.class_model.specs.Members.{FINAL, has}
use Rattle.class_model.specs.Pool.{Constants, constant_at}
use Rattle.class_model.specs.declared.class_file.ClassFile.{ClassFile}
use Rattle.class_tree.specs.Headers.{Headers, Name}
use Rattle.class_tree.specs.Hierarchy.{IsHierarchy}
use Rattle.class_tree.specs.Order.{place_of}
use Rattle.class_tree.specs.declared.place.Place.TheVariants.{Folder}
use Rattle.member_link.specs.DeclaredMembers.{Declared}
use Rattle.member_link.specs.Fields.{FindsField}
use Rattle.member_link.specs.Found.{AreSame, IsField, IsFieldFound}
use Rattle.member_link.specs.References.{Reference}
use Rattle.member_link.specs.Signatures.{reference_of}
use Rattle.member_link.specs.declared.found.Found.{Found}
use Rattle.inline_expand.specs.Inner.StoreWords.{FindsFinal, IsFinalClass, StoresAt, is_stored_by}

abbrev FindsOne : Headers → Type 0
FindsOne headers = (class : Name) (name desc : List ℕ) (one other : Option Declared) → FindsField headers class name desc one → FindsField headers class name desc other → one ≡ other

pub no_reference : (headers : Headers) (pool : Constants) (index number : ℕ) → reference_of pool (constant_at pool index) ≡ None → ¬ FindsFinal headers pool index number
no_reference headers pool index number none f = none-some f.reference (sym none ∙ f.names)

module _ (headers : Headers) (hierarchy : IsHierarchy headers) (one_field : FindsOne headers) (pool : Constants) (index : ℕ) (reference : Reference) (names : reference_of pool (constant_at pool index) ≡ Some reference) where
  finds_same : {number : ℕ} → (f : FindsFinal headers pool index number) → FindsField headers reference.class reference.name reference.desc (Some f.field)
  finds_same f = subst (λ (r : Reference). FindsField headers r.class r.name r.desc (Some f.field)) (same_Some f.reference reference (sym f.names ∙ names)) f.finds

  pub none_found : (number : ℕ) (answer : IsField headers reference.class reference.name reference.desc None) → ¬ FindsFinal headers pool index number
  none_found number answer f = by answer.field answer.finds answer.same
    where
      by : (field : Option Declared) → FindsField headers reference.class reference.name reference.desc field → AreSame (IsFieldFound headers) None field → ⊥
      by None finds same = none-some f.field (one_field reference.class reference.name reference.desc None (Some f.field) finds (finds_same f))
      by (Some field) finds same = same

  pub one_found : (found : Found) (number : ℕ) → IsField headers reference.class reference.name reference.desc (Some found)
      → FindsFinal headers pool index number ↔ ((found.place ≡ Folder number) × IsTrue (has found.flags FINAL))
  one_found found number answer = by answer.field answer.finds answer.same
    where
      by : (field : Option Declared) → FindsField headers reference.class reference.name reference.desc field → AreSame (IsFieldFound headers) (Some found) field
          → FindsFinal headers pool index number ↔ ((found.place ≡ Folder number) × IsTrue (has found.flags FINAL))
      by None finds same = absurd same
      by (Some field) finds same =
          let stands = (hierarchy.of_place found.place same.header same.at).is_place in
          let placed : place_of headers field.class ≡ Some found.place = ap (place_of headers) (sym same.own_class) ∙ stands in (
            λ f.
                let is : f.field ≡ field = same_Some f.field field (one_field reference.class reference.name reference.desc (Some f.field) (Some field) (finds_same f) finds) in
                let at : place_of headers field.class ≡ Some (Folder number) = ap (λ (d : Declared). place_of headers d.class) (sym is) ∙ f.stands in (
                  same_Some found.place (Folder number) (sym placed ∙ at),
                  ap (λ (flags : ℕ). has flags FINAL) same.same_flags ∙ ap (λ (d : Declared). has d.member.flags FINAL) (sym is) ∙ f.is_final,
                ),
            λ both. record {
              reference = reference;
              names = names;
              field = field;
              finds = finds;
              is_final = ap (λ (flags : ℕ). has flags FINAL) (sym same.same_flags) ∙ both.1;
              stands = placed ∙ ap Some both.0;
            },
          )

-- ---- stores

module _ (headers : Headers) (class : ClassFile) (from index : ℕ) (result : Option ℕ) (final : IsFinalClass headers class.pool index result) where
  abbrev pub IsStoredFor : ℕ → Type 0
  IsStoredFor found = IsTrue (is_stored_by class false index) ⊎ (IsTrue (is_stored_by class true index) × (from ≢ found))

  pub stores_none : result ≡ None → (number : ℕ) → (let none : Option ℕ = None in none ≡ Some number) ↔ StoresAt headers class from index number
  stores_none none number = (
    λ is. absurd (none-some number is),
    λ s. absurd (none-some number (sym none ∙ (final number).1 s.finds)),
  )

  pub stores_there : (found : ℕ) → result ≡ Some found → IsStoredFor found → (number : ℕ) → (Some found ≡ Some number) ↔ StoresAt headers class from index number
  stores_there found is stored number = (
    λ same. record { finds = (final number).0 (is ∙ same); stored = subst IsStoredFor (same_Some found number same) stored },
    λ s. sym is ∙ (final number).1 s.finds,
  )

  pub stores_not : (found : ℕ) → result ≡ Some found → ¬ IsStoredFor found → (number : ℕ) → (let none : Option ℕ = None in none ≡ Some number) ↔ StoresAt headers class from index number
  stores_not found is never number = (
    λ same. absurd (none-some number same),
    λ s. absurd (never (subst IsStoredFor (sym (same_Some found number (sym is ∙ (final number).1 s.finds))) s.stored)),
  )
