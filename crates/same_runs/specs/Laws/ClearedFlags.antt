-- A field in a program with flags cleared: it is that of the program before, less the flags that are cleared of it.
use Rattle.std.proofs.Common.{arith, ◌≡◌, ◌+◌, ℕ, zero, suc, Bool, true, false, List, [], ◌∷◌, ◌++◌, map, slice_get, bytes_eq, Option, Some, None, if◌then◌else◌, refl, subst}
use Rattle.class_model.specs.Members.{FINAL, has}
use Rattle.class_model.specs.declared.header.Header.{Header}
use Rattle.class_model.specs.declared.header.Member.{Member}
use Rattle.class_tree.specs.Headers.{Name, named}
use Rattle.member_link.specs.Machine.FieldSteps.{static_number}
use Rattle.member_link.specs.Machine.Programs.{Program, RunClass, field_of, first_member, folder_number, has_flag, header_named, member_of, number_of_first}
use Rattle.member_link.specs.Machine.Replaced.{Replacement, field_cleared, map_numbered, replaced, replaced_class}
use Rattle.member_link.specs.References.{Reference}
use Rattle.same_runs.specs.SamePrograms.{SameBar}
use Rattle.same_runs.specs.Laws.ReplacedPrograms.{final_stays}

-- ---- fields of a class

data FieldAlike (r : Replacement) (class number : ℕ) (field : Reference) (fields : List Member)
    : Option Member → Option Member → Type 0 where
  no_such_field : number_of_first (member_of field) fields ≡ None → FieldAlike r class number field fields None None
  such_field : {member : Member} (later : ℕ)
      → number_of_first (member_of field) fields ≡ Some later
      → FieldAlike r class number field fields (Some member) (Some (field_cleared r class (number + later) member))

fields_by : (r : Replacement) (class : ℕ) (field : Reference) (number : ℕ) (fields : List Member)
    → FieldAlike r class number field fields (first_member field fields)
    (first_member field (map_numbered (field_cleared r class) number fields))
fields_by r class field number [] = no_such_field refl
fields_by r class field number (member ∷ members) =
    by (member_of field member) refl (first_member field members)
    (first_member field (map_numbered (field_cleared r class) (suc number) members)) (fields_by r class field (suc number) members) where
      by : (b : Bool) → member_of field member ≡ b → (one other : Option Member) → FieldAlike r class (suc number) field members one other
          → FieldAlike r class number field (member ∷ members) (if b then Some member else one)
          (if b then Some (field_cleared r class number member) else other)
      by true e one other rest =
          subst (λ (n : ℕ). FieldAlike r class number field (member ∷ members) (Some member) (Some (field_cleared r class n member)))
          (omega arith) (such_field zero (rw (e) refl))
      by false e one other (no_such_field none) = no_such_field (rw (e, none) refl)
      by false e one other (such_field {member = found} later is) =
          subst (λ (n : ℕ). FieldAlike r class number field (member ∷ members) (Some found) (Some (field_cleared r class n found)))
          (omega arith) (such_field (suc later) (rw (e, is) refl))

-- ---- classes of the folder

data HeaderAlike (r : Replacement) (number : ℕ) (name : Name) (classes : List RunClass) : Option Header → Option Header → Type 0 where
  is_elsewhere : {found : Option Header}
      → number_of_first (λ class. bytes_eq name class.header.name) classes ≡ None
      → HeaderAlike r number name classes found found
  is_in_folder : {class : RunClass} (later : ℕ)
      → number_of_first (λ class. bytes_eq name class.header.name) classes ≡ Some later
      → slice_get classes later ≡ Some class
      → HeaderAlike r number name classes (Some class.header) (Some (replaced_class r (number + later) class).header)

headers_by : (r : Replacement) (name : Name) (library : List Header) (number : ℕ) (classes : List RunClass)
    → HeaderAlike r number name classes (named name (map (λ (class : RunClass). class.header) classes ++ library))
    (named name (map (λ (class : RunClass). class.header) (map_numbered (replaced_class r) number classes) ++ library))
headers_by r name library number [] = is_elsewhere refl
headers_by r name library number (class ∷ classes) =
    by (bytes_eq name class.header.name) refl (named name (map (λ (class : RunClass). class.header) classes ++ library))
    (named name (map (λ (class : RunClass). class.header) (map_numbered (replaced_class r) (suc number) classes) ++ library))
    (headers_by r name library (suc number) classes) where
      by : (b : Bool) → bytes_eq name class.header.name ≡ b → (one other : Option Header)
          → HeaderAlike r (suc number) name classes one other
          → HeaderAlike r number name (class ∷ classes) (if b then Some class.header else one)
          (if b then Some (replaced_class r number class).header else other)
      by true e one other rest =
          subst (λ (n : ℕ). HeaderAlike r number name (class ∷ classes) (Some class.header) (Some (replaced_class r n class).header))
          (omega arith) (is_in_folder zero (rw (e) refl) refl)
      by false e one other (is_elsewhere none) = is_elsewhere (rw (e, none) refl)
      by false e one other (is_in_folder {class = found} later is there) =
          subst (λ (n : ℕ). HeaderAlike r number name (class ∷ classes) (Some found.header) (Some (replaced_class r n found).header))
          (omega arith) (is_in_folder (suc later) (rw (e, is) refl) there)

-- ---- a field of the program

-- the field of a reference in both: not there or of the library, or less the flags that are cleared of its number
pub data IsCleared (P : Program) (r : Replacement) (field : Reference) : Option Member → Option Member → Type 0 where
  field_as_it_was : {found : Option Member} → folder_number P field.class ≡ None → IsCleared P r field found found
  field_of_none : IsCleared P r field None None
  field_less_flags : {member : Member} (class number : ℕ)
      → folder_number P field.class ≡ Some class
      → static_number P class field ≡ Some number
      → IsCleared P r field (Some member) (Some (field_cleared r class number member))

pub field_replaced : (P : Program) (r : Replacement) (field : Reference)
    → IsCleared P r field (field_of P field) (field_of (replaced P r) field)
field_replaced P r field = by (header_named P field.class) (header_named (replaced P r) field.class) refl refl
    (headers_by r field.class P.library zero P.classes) where
      in_class : (class : RunClass) (number : ℕ) → folder_number P field.class ≡ Some number → slice_get P.classes number ≡ Some class
          → (one other : Option Member) → FieldAlike r number zero field class.header.fields one other
          → IsCleared P r field one other
      in_class class number is there one other (no_such_field none) = field_of_none
      in_class class number is there one other (such_field {member = member} later found) =
          subst (λ (n : ℕ). IsCleared P r field (Some member) (Some (field_cleared r number n member)))
          (omega arith) (field_less_flags number later is (rw (there) found))

      by : (one other : Option Header) → header_named P field.class ≡ one → header_named (replaced P r) field.class ≡ other
          → HeaderAlike r zero field.class P.classes one other
          → IsCleared P r field (field_of P field) (field_of (replaced P r) field)
      by None other is is_also (is_elsewhere none) = rw (is, is_also) (field_as_it_was none)
      by (Some header) other is is_also (is_elsewhere none) = rw (is, is_also) (field_as_it_was none)
      by one other is is_also (is_in_folder {class = class} later found there) =
          rw (is, is_also)
          (subst (λ (n : ℕ). IsCleared P r field (first_member field class.header.fields)
          (first_member field (replaced_class r n class).header.fields))
          (omega arith)
          (in_class class later found there (first_member field class.header.fields)
          (first_member field (map_numbered (field_cleared r later) zero class.header.fields))
          (fields_by r later field zero class.header.fields)))

-- ---- final fields

-- a field of which the final flag is not cleared is final as it was
pub final_as_before : (P : Program) (r : Replacement) (field : Reference)
    → ((class number : ℕ)
    → folder_number P field.class ≡ Some class
    → static_number P class field ≡ Some number
    → has (r.cleared class number) FINAL ≡ false)
    → has_flag (field_of (replaced P r) field) FINAL ≡ has_flag (field_of P field) FINAL
final_as_before P r field kept = by (field_of P field) (field_of (replaced P r) field) (field_replaced P r field) where
  by : (one other : Option Member) → IsCleared P r field one other → has_flag other FINAL ≡ has_flag one FINAL
  by one other (field_as_it_was there) = refl
  by one other field_of_none = refl
  by one other (field_less_flags {member = member} class number is found) =
      final_stays member.flags (r.cleared class number) (kept class number is found)

-- Where no final flag is cleared, a store by the same initialiser is barred in both or in none.
pub bar_as_before : (P : Program) (r : Replacement) (ref : Reference) (initialises : Option Name)
    → ((class number : ℕ) → has (r.cleared class number) FINAL ≡ false)
    → SameBar P (replaced P r) ref initialises initialises
bar_as_before P r ref initialises kept = λ field is.
    rw (final_as_before P r field (λ class number is_class is_number. kept class number)) refl
