-- The first method upwards that counts is one, and the same for two ways to say which methods count.
use Rattle.std.proofs.Common.{◌≡◌, ◌↔◌, ℕ, List, Option, Some, None, refl, sym, ap, subst, ◌∙◌}
use Rattle.std.proofs.lemmas.Option.{none-some, same_Some}
use Rattle.class_model.specs.declared.header.Header.{Header}
use Rattle.class_model.specs.declared.header.Member.{Member}
use Rattle.class_tree.specs.Headers.{Name, Headers, class_named}
use Rattle.member_link.specs.DeclaredMembers.{Declared, declared_by, declared}
use Rattle.member_link.specs.Upwards.{IsPassedOver, FirstUpwards, in_itself, in_superclass, in_no_superclass, in_absent_class}

-- what is found upwards of a class that is there
record UpwardsOf (headers : Headers) (Counts : Declared → Type 0) (name desc : List ℕ) (class : Name) (header : Header) (found : Option Declared) : Type 0 where
  of_member : (member : Member) → declared name desc header.methods ≡ Some member → Counts (declared_by class member) → found ≡ Some (declared_by class member)
  of_superclass : (high : Name) → IsPassedOver Counts name desc class header → header.super_name ≡ Some high → FirstUpwards headers Counts name desc high found
  of_root : IsPassedOver Counts name desc class header → header.super_name ≡ None → found ≡ None

module _ (headers : Headers) (Counts : Declared → Type 0) (name desc : List ℕ) where
  of_own : {class : Name} {found : Option Declared} (own : Header) → class_named headers class ≡ Some own → UpwardsOf headers Counts name desc class own found → (header : Header) → class_named headers class ≡ Some header → UpwardsOf headers Counts name desc class header found
  of_own {class} {found} own own_is is header header_is = subst (λ h. UpwardsOf headers Counts name desc class h found) (same_Some own header (sym own_is ∙ header_is)) is

  upwards_of : {class : Name} {found : Option Declared} → FirstUpwards headers Counts name desc class found → (header : Header) → class_named headers class ≡ Some header → UpwardsOf headers Counts name desc class header found
  upwards_of (in_itself class own member own_is declares counts) = of_own own own_is (record {
    of_member = λ other other_declares other_counts. ap (λ m. Some (declared_by class m)) (same_Some member other (sym declares ∙ other_declares));
    of_superclass = λ high passed some. absurd (passed member declares counts);
    of_root = λ passed none. absurd (passed member declares counts);
  })
  upwards_of (in_superclass class high own found own_is passed some rest) = of_own own own_is (record {
    of_member = λ other declares counts. absurd (passed other declares counts);
    of_superclass = λ other other_passed other_some. subst (λ n. FirstUpwards headers Counts name desc n found) (same_Some high other (sym some ∙ other_some)) rest;
    of_root = λ other_passed none. absurd (none-some high (sym none ∙ some));
  })
  upwards_of (in_no_superclass class own own_is passed none) = of_own own own_is (record {
    of_member = λ other declares counts. absurd (passed other declares counts);
    of_superclass = λ high other_passed some. absurd (none-some high (sym none ∙ some));
    of_root = λ other_passed none. refl;
  })
  upwards_of (in_absent_class class absent) = λ header is. absurd (none-some header (sym absent ∙ is))

  nowhere_upwards : {class : Name} {found : Option Declared} → FirstUpwards headers Counts name desc class found → class_named headers class ≡ None → found ≡ None
  nowhere_upwards (in_itself class own member own_is declares counts) absent = absurd (none-some own (sym absent ∙ own_is))
  nowhere_upwards (in_superclass class high own found own_is passed some rest) absent = absurd (none-some own (sym absent ∙ own_is))
  nowhere_upwards (in_no_superclass class own own_is passed none) absent = refl
  nowhere_upwards (in_absent_class class own_absent) absent = refl

  -- what is found upwards is one
  pub upwards_once : {class : Name} {one other : Option Declared} → FirstUpwards headers Counts name desc class one → FirstUpwards headers Counts name desc class other → one ≡ other
  upwards_once (in_itself class header member is declares counts) other = sym ((upwards_of other header is).of_member member declares counts)
  upwards_once (in_superclass class high header found is passed some rest) other = upwards_once rest ((upwards_of other header is).of_superclass high passed some)
  upwards_once (in_no_superclass class header is passed none) other = sym ((upwards_of other header is).of_root passed none)
  upwards_once (in_absent_class class absent) other = sym (nowhere_upwards other absent)

  -- it is the same where the same methods count
  pub upwards_as : (Other : Declared → Type 0) → ((method : Declared) → Counts method ↔ Other method) → {class : Name} {found : Option Declared} → FirstUpwards headers Counts name desc class found → FirstUpwards headers Other name desc class found
  upwards_as Other same (in_itself class header member is declares counts) = in_itself class header member is declares ((same _).0 counts)
  upwards_as Other same (in_superclass class high header found is passed some rest) = in_superclass class high header found is (λ member declares counts. passed member declares ((same _).1 counts)) some (upwards_as Other same rest)
  upwards_as Other same (in_no_superclass class header is passed none) = in_no_superclass class header is (λ member declares counts. passed member declares ((same _).1 counts)) none
  upwards_as Other same (in_absent_class class absent) = in_absent_class class absent
