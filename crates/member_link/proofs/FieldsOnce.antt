-- The look-up of a field finds one field.
use Rattle.std.proofs.Common.{◌≡◌, ◌∙◌, ℕ, List, [], ◌∷◌, Option, Some, None, refl, sym, ap, subst}
use Rattle.std.proofs.lemmas.Option.{none-some, same_Some}
use Rattle.class_model.specs.declared.header.Header.{Header}
use Rattle.class_model.specs.declared.header.Member.{Member}
use Rattle.class_tree.specs.Headers.{Name, Headers, class_named}
use Rattle.member_link.specs.DeclaredMembers.{Declared, declared_by, declared}
use Rattle.member_link.specs.Fields.{interfaces_and_super, FindsFirst, in_no_class, in_class, above_class, in_other_class, absent_class, FindsField}

-- What is found where the first of the classes is there and does not declare the field: the field that is found above it,
-- or where there is none, what is found in the other classes.
data FindsAbove (headers : Headers) (name desc : List ℕ) (header : Header) (classes : List Name) (found : Option Declared) : Type 0 where
  found_above : (field : Declared) → FindsFirst headers name desc (interfaces_and_super header) (Some field) → found ≡ Some field → FindsAbove headers name desc header classes found
  found_beside : FindsFirst headers name desc (interfaces_and_super header) None → FindsFirst headers name desc classes found → FindsAbove headers name desc header classes found

module _ (headers : Headers) (name desc : List ℕ) where
  finds_nothing : {found : Option Declared} → FindsFirst headers name desc [] found → None ≡ found
  finds_nothing in_no_class = refl

  finds_own : {class : Name} {classes : List Name} {found : Option Declared} → FindsFirst headers name desc (class ∷ classes) found → (header : Header) (member : Member) → class_named headers class ≡ Some header → declared name desc header.fields ≡ Some member → Some (declared_by class member) ≡ found
  finds_own (in_class class classes other own there declares) header member is has =
      let same = same_Some header other (sym is ∙ there) in
      ap (λ (m : Member). Some (declared_by class m)) (same_Some member own (sym has ∙ ap (λ (h : Header). declared name desc h.fields) same ∙ declares))
  finds_own (above_class class classes other field there lacks above) header member is has =
      let same = same_Some header other (sym is ∙ there) in
      absurd (none-some member (sym lacks ∙ ap (λ (h : Header). declared name desc h.fields) (sym same) ∙ has))
  finds_own (in_other_class class classes other found there lacks above beside) header member is has =
      let same = same_Some header other (sym is ∙ there) in
      absurd (none-some member (sym lacks ∙ ap (λ (h : Header). declared name desc h.fields) (sym same) ∙ has))
  finds_own (absent_class class classes found absent beside) header member is has = absurd (none-some header (sym absent ∙ is))

  finds_above : {class : Name} {classes : List Name} {found : Option Declared} → FindsFirst headers name desc (class ∷ classes) found → (header : Header) → class_named headers class ≡ Some header → declared name desc header.fields ≡ None → FindsAbove headers name desc header classes found
  finds_above (in_class class classes other own there declares) header is none =
      let same = same_Some header other (sym is ∙ there) in
      absurd (none-some own (sym none ∙ ap (λ (h : Header). declared name desc h.fields) same ∙ declares))
  finds_above (above_class class classes other field there lacks above) header is none =
      let same = same_Some other header (sym there ∙ is) in
      found_above field (subst (λ h. FindsFirst headers name desc (interfaces_and_super h) (Some field)) same above) refl
  finds_above (in_other_class class classes other found there lacks above beside) header is none =
      let same = same_Some other header (sym there ∙ is) in
      found_beside (subst (λ h. FindsFirst headers name desc (interfaces_and_super h) None) same above) beside
  finds_above (absent_class class classes found absent beside) header is none = absurd (none-some header (sym absent ∙ is))

  finds_beside : {class : Name} {classes : List Name} {found : Option Declared} → FindsFirst headers name desc (class ∷ classes) found → class_named headers class ≡ None → FindsFirst headers name desc classes found
  finds_beside (in_class class classes header own there declares) absent = absurd (none-some header (sym absent ∙ there))
  finds_beside (above_class class classes header field there lacks above) absent = absurd (none-some header (sym absent ∙ there))
  finds_beside (in_other_class class classes header found there lacks above beside) absent = absurd (none-some header (sym absent ∙ there))
  finds_beside (absent_class class classes found also beside) absent = beside

  pub first_once : {classes : List Name} {one other : Option Declared} → FindsFirst headers name desc classes one → FindsFirst headers name desc classes other → one ≡ other
  first_once in_no_class also = finds_nothing also
  first_once (in_class class classes header member there declares) also = finds_own also header member there declares
  first_once {other = other} (above_class class classes header field there lacks above) also =
      elim (finds_above also header there lacks) [
        | found_above second higher is ↦ first_once above higher ∙ sym is
        | found_beside higher beside ↦ absurd (none-some field (sym (first_once above higher)))
      ]
  first_once (in_other_class class classes header found there lacks above beside) also =
      elim (finds_above also header there lacks) [
        | found_above second higher is ↦ absurd (none-some second (first_once above higher))
        | found_beside higher others ↦ first_once beside others
      ]
  first_once (absent_class class classes found absent beside) also = first_once beside (finds_beside also absent)

pub field_once : (headers : Headers) (class : Name) (name desc : List ℕ) (one other : Option Declared) → FindsField headers class name desc one → FindsField headers class name desc other → one ≡ other
field_once headers class name desc one other is also = first_once headers name desc is also
