-- Programs that are the same answer the same of their classes, members and objects.
use Rattle.std.proofs.Common.{◌≡◌, ℕ, zero, suc, Bool, true, false, List, [], ◌∷◌, ◌++◌, map, slice_get, bytes_eq, Option, Some, None, option_map, if◌then◌else◌, refl, sym, ap, subst, ◌∙◌, ◌≢◌}
use Rattle.std.specs.List.{AllByRecursion}
use Rattle.std.proofs.lemmas.Bool.{and_parts}
use Rattle.std.proofs.lemmas.List.{map-append}
use Rattle.std.proofs.lemmas.Option.{none-some, same_Some}
use Rattle.std.proofs.lemmas.Slice.Eq.{bytes_eq-Decides}
use Rattle.class_model.specs.Members.{STATIC}
use Rattle.class_model.specs.Names.{init}
use Rattle.class_model.specs.declared.header.Header.{Header}
use Rattle.class_model.specs.declared.header.Member.{Member}
use Rattle.class_tree.specs.Headers.{Name, named}
use Rattle.member_link.specs.Machine.Programs.{Program, RunClass, RunMethod, header_named, folder_number, name_of_class, is_interface_named, member_of, first_member, field_of, method_of, has_flag, number_of_first}
use Rattle.member_link.specs.Machine.FieldSteps.{static_number}
use Rattle.member_link.specs.Machine.Worlds.{field_desc}
use Rattle.member_link.specs.References.{Reference}
use Rattle.same_runs.specs.SamePrograms.{SameFields, SameMethods, IsAdded, SameClass, SameClasses, SamePrograms}

-- ---- classes by number

-- a class of both, or of none
pub data SameAt (P : Program) : Option RunClass → Option RunClass → Type 0 where
  at_none : SameAt P None None
  at_both : {one other : RunClass} → SameClass P one other → SameAt P (Some one) (Some other)

pub class_at : (P : Program) (ones others : List RunClass) (number : ℕ) → SameClasses P ones others
    → SameAt P (slice_get ones number) (slice_get others number)
class_at P [] [] number same = at_none
class_at P [] (other ∷ others) number same = absurd same
class_at P (one ∷ ones) [] number same = absurd same
class_at P (one ∷ ones) (other ∷ others) zero same = at_both same.0
class_at P (one ∷ ones) (other ∷ others) (suc number) same = class_at P ones others number same.1

-- headers of one class
pub record SameHeader (one other : Header) : Type 0 where
  pub name : other.name ≡ one.name
  pub flags : other.flags ≡ one.flags
  pub superclass : other.super_name ≡ one.super_name
  pub interfaces : other.interfaces ≡ one.interfaces
  pub fields : SameFields one.fields other.fields
  pub found : (r : Reference) (member : Member)
      → first_member r one.methods ≡ Some member
      → first_member r other.methods ≡ Some member
  pub missing : (r : Reference)
      → first_member r one.methods ≡ None
      → r.name ≢ init
      → first_member r other.methods ≡ None

pub data SameNamed : Option Header → Option Header → Type 0 where
  named_none : SameNamed None None
  named_both : {one other : Header} → SameHeader one other → SameNamed (Some one) (Some other)

fields_themselves : (fields : List Member) → SameFields fields fields
fields_themselves [] = tt
fields_themselves (field ∷ fields) = (refl, refl, refl, fields_themselves fields)

header_itself : (header : Header) → SameHeader header header
header_itself header = record {
  name = refl;
  flags = refl;
  superclass = refl;
  interfaces = refl;
  fields = fields_themselves header.fields;
  found = λ r member is. is;
  missing = λ r none other. none;
}

library_named : (name : Name) (library : List Header) → SameNamed (named name library) (named name library)
library_named name [] = named_none
library_named name (header ∷ library) = by (bytes_eq name header.name) (library_named name library) where
  by : (b : Bool) → SameNamed (named name library) (named name library)
      → SameNamed (if b then Some header else named name library) (if b then Some header else named name library)
  by true rest = named_both (header_itself header)
  by false rest = rest

-- ---- methods by name

members : List RunMethod → List Member
members methods = map (λ method. method.member) methods

same_members : (ones others : List RunMethod) → SameMethods ones others → members others ≡ members ones
unfolding members
same_members [] [] same = refl
same_members [] (other ∷ others) same = absurd same
same_members (one ∷ ones) [] same = absurd same
same_members (one ∷ ones) (other ∷ others) same = rw (same.0, same_members ones others same.2) refl

first_before : (r : Reference) (member : Member) (xs ys : List Member) → first_member r xs ≡ Some member
    → first_member r (xs ++ ys) ≡ Some member
first_before r member [] ys is = absurd (none-some member is)
first_before r member (x ∷ xs) ys is = by (member_of r x) is (first_before r member xs ys) where
  by : (b : Bool) → (if b then Some x else first_member r xs) ≡ Some member
      → (first_member r xs ≡ Some member → first_member r (xs ++ ys) ≡ Some member)
      → (if b then Some x else first_member r (xs ++ ys)) ≡ Some member
  by true is rest = is
  by false is rest = rest is

first_behind : (r : Reference) (xs ys : List Member) → first_member r xs ≡ None → first_member r (xs ++ ys) ≡ first_member r ys
first_behind r [] ys none = refl
first_behind r (x ∷ xs) ys none = by (member_of r x) none (first_behind r xs ys) where
  by : (b : Bool) → (if b then Some x else first_member r xs) ≡ None
      → (first_member r xs ≡ None → first_member r (xs ++ ys) ≡ first_member r ys)
      → (if b then Some x else first_member r (xs ++ ys)) ≡ first_member r ys
  by true none rest = absurd (none-some x (sym none))
  by false none rest = rest none

-- an instance initialiser is no member of another name
pub no_init : (r : Reference) (member : Member) → r.name ≢ init → member.name ≡ init → member_of r member ≡ false
no_init r member other is = by (member_of r member) refl where
  by : (b : Bool) → member_of r member ≡ b → member_of r member ≡ false
  by false e = e
  by true e =
      let parts = and_parts (bytes_eq r.name member.name) (bytes_eq r.desc member.desc) e in
      absurd (other ((bytes_eq-Decides r.name member.name).0 parts.0 ∙ is))

none_added : (P : Program) (class : RunClass) (r : Reference) (added : List RunMethod) → AllByRecursion (IsAdded P class) added
    → r.name ≢ init → first_member r (members added) ≡ None
unfolding members
none_added P class r [] all other = refl
none_added P class r (method ∷ added) all other = rw
    (no_init r method.member other all.0.is_init, none_added P class r added all.1 other) refl

header_of_class : {P : Program} {one other : RunClass} → SameClass P one other → SameHeader one.header other.header
unfolding members
header_of_class {P = P} {one = one} {other = other} same = record {
  name = same.name;
  flags = same.flags;
  superclass = same.superclass;
  interfaces = same.interfaces;
  fields = same.fields;
  found = λ r member is.
      ap (first_member r) methods ∙ first_before r member one.header.methods (members same.added) is;
  missing = λ r none other.
      ap (first_member r) methods ∙ first_behind r one.header.methods (members same.added) none
      ∙ none_added P one r same.added same.are_added other;
} where
  methods : other.header.methods ≡ one.header.methods ++ members same.added
  methods =
      same.header_methods ∙ map-append (λ (method : RunMethod). method.member) same.same same.added
      ∙ ap (λ (old : List Member). old ++ members same.added) (same_members one.methods same.same same.are_same ∙ same.members)

pub headers_named : (P : Program) (name : Name) (library : List Header) (ones others : List RunClass) → SameClasses P ones others
    → SameNamed (named name (map (λ (class : RunClass). class.header) ones ++ library))
    (named name (map (λ (class : RunClass). class.header) others ++ library))
headers_named P name library [] [] same = library_named name library
headers_named P name library [] (other ∷ others) same = absurd same
headers_named P name library (one ∷ ones) [] same = absurd same
headers_named P name library (one ∷ ones) (other ∷ others) same =
    subst (λ (n : Name). SameNamed (named name (map (λ (class : RunClass). class.header) (one ∷ ones) ++ library))
    (if bytes_eq name n then Some other.header else named name (map (λ (class : RunClass). class.header) others ++ library)))
    (sym same.0.name)
    (by (bytes_eq name one.header.name) (headers_named P name library ones others same.1)) where
      by : (b : Bool)
          → SameNamed (named name (map (λ (class : RunClass). class.header) ones ++ library))
          (named name (map (λ (class : RunClass). class.header) others ++ library))
          → SameNamed (if b then Some one.header else named name (map (λ (class : RunClass). class.header) ones ++ library))
          (if b then Some other.header else named name (map (λ (class : RunClass). class.header) others ++ library))
      by true rest = named_both (header_of_class same.0)
      by false rest = rest

module _ {P Q : Program} (same : SamePrograms P Q) where
  pub at_number : (number : ℕ) → SameAt P (slice_get P.classes number) (slice_get Q.classes number)
  at_number number = class_at P P.classes Q.classes number same.classes

  pub same_name : (number : ℕ) → name_of_class Q number ≡ name_of_class P number
  same_name number = by (slice_get P.classes number) (slice_get Q.classes number) refl refl (at_number number) where
    by : (one other : Option RunClass) → slice_get P.classes number ≡ one → slice_get Q.classes number ≡ other → SameAt P one other
        → name_of_class Q number ≡ name_of_class P number
    by None None is is_also at_none = rw (is, is_also) refl
    by None (Some other) is is_also none = elim none [ ]
    by (Some one) None is is_also none = elim none [ ]
    by (Some one) (Some other) is is_also (at_both alike) = rw (is, is_also) alike.name

  numbers_same : (name : Name) (ones others : List RunClass) → SameClasses P ones others
      → number_of_first (λ (class : RunClass). bytes_eq name class.header.name) others
      ≡ number_of_first (λ (class : RunClass). bytes_eq name class.header.name) ones
  numbers_same name [] [] alike = refl
  numbers_same name [] (other ∷ others) alike = absurd alike
  numbers_same name (one ∷ ones) [] alike = absurd alike
  numbers_same name (one ∷ ones) (other ∷ others) alike = rw (alike.0.name, numbers_same name ones others alike.1) refl

  pub same_number : (name : Name) → folder_number Q name ≡ folder_number P name
  same_number name = numbers_same name P.classes Q.classes same.classes

  -- ---- classes by name

  pub same_header : (name : Name) → SameNamed (header_named P name) (header_named Q name)
  same_header name =
      subst (λ (library : List Header). SameNamed (header_named P name)
      (named name (map (λ (class : RunClass). class.header) Q.classes ++ library)))
      (sym same.library) (headers_named P name P.library P.classes Q.classes same.classes)

  pub same_interface : (name : Name) → is_interface_named Q name ≡ is_interface_named P name
  same_interface name = by (header_named P name) (header_named Q name) refl refl (same_header name) where
    by : (one other : Option Header) → header_named P name ≡ one → header_named Q name ≡ other → SameNamed one other
        → is_interface_named Q name ≡ is_interface_named P name
    by None None is is_also named_none = rw (is, is_also) refl
    by None (Some other) is is_also none = elim none [ ]
    by (Some one) None is is_also none = elim none [ ]
    by (Some one) (Some other) is is_also (named_both alike) = rw (is, is_also, alike.flags) refl

  pub same_method : (r : Reference) (member : Member) → method_of P r ≡ Some member → method_of Q r ≡ Some member
  same_method r member = by (header_named P r.class) (header_named Q r.class) refl refl (same_header r.class) where
    by : (one other : Option Header) → header_named P r.class ≡ one → header_named Q r.class ≡ other → SameNamed one other
        → method_of P r ≡ Some member → method_of Q r ≡ Some member
    by None None is is_also named_none found = absurd (none-some member (sym (rw (is) refl) ∙ found))
    by None (Some other) is is_also none found = elim none [ ]
    by (Some one) None is is_also none found = elim none [ ]
    by (Some one) (Some other) is is_also (named_both alike) found =
        let old : first_member r one.methods ≡ Some member = sym (rw (is) refl) ∙ found in
        rw (is_also) (alike.found r member old)

  pub same_no_method : (r : Reference) → r.name ≢ init → method_of P r ≡ None → method_of Q r ≡ None
  same_no_method r other_name = by (header_named P r.class) (header_named Q r.class) refl refl (same_header r.class) where
    by : (one other : Option Header) → header_named P r.class ≡ one → header_named Q r.class ≡ other → SameNamed one other
        → method_of P r ≡ None → method_of Q r ≡ None
    by None None is is_also named_none none = rw (is_also) refl
    by None (Some other) is is_also impossible none = elim impossible [ ]
    by (Some one) None is is_also impossible none = elim impossible [ ]
    by (Some one) (Some other) is is_also (named_both alike) none =
        let old : first_member r one.methods ≡ None = sym (rw (is) refl) ∙ none in
        rw (is_also) (alike.missing r old other_name)

  -- ---- fields

  first_static : (r : Reference) (ones others : List Member) → SameFields ones others
      → has_flag (first_member r others) STATIC ≡ has_flag (first_member r ones) STATIC
  first_static r [] [] alike = refl
  first_static r [] (other ∷ others) alike = absurd alike
  first_static r (one ∷ ones) [] alike = absurd alike
  first_static r (one ∷ ones) (other ∷ others) alike =
      ap (λ (b : Bool). has_flag (if b then Some other else first_member r others) STATIC) (rw (alike.0, alike.1) refl)
      ∙ by (member_of r one) (first_static r ones others alike.3) where
        by : (b : Bool) → has_flag (first_member r others) STATIC ≡ has_flag (first_member r ones) STATIC
            → has_flag (if b then Some other else first_member r others) STATIC
            ≡ has_flag (if b then Some one else first_member r ones) STATIC
        by true rest = alike.2
        by false rest = rest

  pub same_static_field : (r : Reference) → has_flag (field_of Q r) STATIC ≡ has_flag (field_of P r) STATIC
  same_static_field r = by (header_named P r.class) (header_named Q r.class) refl refl (same_header r.class) where
    by : (one other : Option Header) → header_named P r.class ≡ one → header_named Q r.class ≡ other → SameNamed one other
        → has_flag (field_of Q r) STATIC ≡ has_flag (field_of P r) STATIC
    by None None is is_also named_none = rw (is, is_also) refl
    by None (Some other) is is_also impossible = elim impossible [ ]
    by (Some one) None is is_also impossible = elim impossible [ ]
    by (Some one) (Some other) is is_also (named_both alike) = rw (is, is_also) (first_static r one.fields other.fields alike.fields)

  field_numbers : (r : Reference) (ones others : List Member) → SameFields ones others
      → number_of_first (member_of r) others ≡ number_of_first (member_of r) ones
  field_numbers r [] [] alike = refl
  field_numbers r [] (other ∷ others) alike = absurd alike
  field_numbers r (one ∷ ones) [] alike = absurd alike
  field_numbers r (one ∷ ones) (other ∷ others) alike = rw (alike.0, alike.1, field_numbers r ones others alike.3) refl

  pub same_static_number : (class : ℕ) (r : Reference) → static_number Q class r ≡ static_number P class r
  same_static_number class r = by (slice_get P.classes class) (slice_get Q.classes class) refl refl (at_number class) where
    by : (one other : Option RunClass) → slice_get P.classes class ≡ one → slice_get Q.classes class ≡ other → SameAt P one other
        → static_number Q class r ≡ static_number P class r
    by None None is is_also at_none = rw (is, is_also) refl
    by None (Some other) is is_also impossible = elim impossible [ ]
    by (Some one) None is is_also impossible = elim impossible [ ]
    by (Some one) (Some other) is is_also (at_both alike) = rw (is, is_also)
        (field_numbers r one.header.fields other.header.fields alike.fields)

  descs_same : (field : ℕ) (ones others : List Member) → SameFields ones others
      → option_map (λ (m : Member). m.desc) (slice_get others field) ≡ option_map (λ (m : Member). m.desc) (slice_get ones field)
  descs_same field [] [] alike = refl
  descs_same field [] (other ∷ others) alike = absurd alike
  descs_same field (one ∷ ones) [] alike = absurd alike
  descs_same zero (one ∷ ones) (other ∷ others) alike = rw (alike.1) refl
  descs_same (suc field) (one ∷ ones) (other ∷ others) alike = descs_same field ones others alike.3

  pub same_field_desc : (class field : ℕ) → field_desc Q class field ≡ field_desc P class field
  same_field_desc class field = by (slice_get P.classes class) (slice_get Q.classes class) refl refl (at_number class) where
    by : (one other : Option RunClass) → slice_get P.classes class ≡ one → slice_get Q.classes class ≡ other → SameAt P one other
        → field_desc Q class field ≡ field_desc P class field
    by None None is is_also at_none = rw (is, is_also) refl
    by None (Some other) is is_also impossible = elim impossible [ ]
    by (Some one) None is is_also impossible = elim impossible [ ]
    by (Some one) (Some other) is is_also (at_both alike) = rw (is, is_also)
        (at (slice_get one.header.fields field) (slice_get other.header.fields field) refl refl
        (descs_same field one.header.fields other.header.fields alike.fields)) where
          at : (m n : Option Member) → slice_get one.header.fields field ≡ m → slice_get other.header.fields field ≡ n
              → option_map (λ (m : Member). m.desc) (slice_get other.header.fields field)
              ≡ option_map (λ (m : Member). m.desc) (slice_get one.header.fields field)
              → field_desc (record Q { classes = other ∷ [] }) 0 field ≡ field_desc (record P { classes = one ∷ [] }) 0 field
          at None None is is_also e = rw (is, is_also) refl
          at None (Some n) is is_also e = let f : Some n.desc ≡ None = sym (rw (is_also) refl) ∙ e
              ∙ rw (is) refl in absurd (none-some n.desc (sym f))
          at (Some m) None is is_also e = let f : None ≡ Some m.desc = sym (rw (is_also) refl) ∙ e ∙ rw (is) refl in absurd (none-some m.desc f)
          at (Some m) (Some n) is is_also e = let f : Some n.desc ≡ Some m.desc = sym (rw (is_also) refl) ∙ e
              ∙ rw (is) refl in rw (is, is_also) (same_Some n.desc m.desc f)
