-- The classes of a program with other codes and cleared flags by their names; and that it is the same program but for these.
use Rattle.std.proofs.Common.{◌≡◌, ◌+◌, ℕ, zero, suc, Bool, true, false, List, [], ◌∷◌, ◌++◌, map, bytes_eq, Option, Some, None, option_map, if◌then◌else◌, refl, sym, ap, subst, ◌∙◌, arith}
use Rattle.std.specs.List.{AllByRecursion}
use Rattle.std.proofs.lemmas.List.{append-nil}
use Rattle.std.proofs.lemmas.Option.{same_Some}
use Rattle.class_model.specs.Descriptors.{type_of}
use Rattle.class_model.specs.declared.descriptor.Kind.TheVariants as kinds
use Rattle.class_model.specs.declared.header.Header.{Header}
use Rattle.class_model.specs.declared.header.Member.{Member}
use Rattle.class_tree.specs.Headers.{Name, class_named, named}
use Rattle.member_link.specs.Machine.Programs.{Program, RunClass, RunMethod, folder_number, headers_in, number_of_first, start_string, start_value, StartValue, StaticStart}
use Rattle.member_link.specs.Machine.Worlds.{field_desc}
use Rattle.member_link.specs.Machine.Replaced.{Replacement, field_cleared, map_numbered, replaced, replaced_class}
use Rattle.machine_values.specs.Values.{has_kind}
use Rattle.machine_values.specs.declared.value.Value.{Value}
use Rattle.machine_values.specs.declared.value.Value.TheVariants as values
use Rattle.class_model.specs.Laws.Lists.{AllByRecursion-weaker}
use Rattle.same_runs.specs.Laws.NoInitLinks.{links_no_init}
use Rattle.same_runs.specs.Laws.ReplacedPrograms.{ReplacesAlike, replaced_same}
use Rattle.same_runs.specs.SamePrograms.{IsAdded, IsNoReference, IsPlainStart, SamePrograms}
use Rattle.typed_runs.specs.TypedPrograms.{FitsStart, IsTypedProgram, IsTypedStart, Typings}

-- ---- a class by its name

-- the fields of a class of the folder, by its number counted from one, less the flags that are cleared; those of another class are as they were
abbrev pub fields_in : Replacement → ℕ → Option ℕ → List Member → List Member
fields_in r from None fields = fields
fields_in r from (Some number) fields = map_numbered (field_cleared r (from + number)) zero fields

module _ (r : Replacement) (none : (class : ℕ) → r.added class ≡ []) where
  cleared_header : (number : ℕ) (class : RunClass) (own : Header) → class.header ≡ own
      → (replaced_class r number class).header ≡ record own { fields = fields_in r number (Some zero) own.fields }
  cleared_header number class own is =
      let none_more : class.header.methods ++ map (λ (method : RunMethod). method.member) (r.added number) ≡ class.header.methods =
      ap (λ (more : List RunMethod). class.header.methods ++ map (λ (method : RunMethod). method.member) more) (none number)
      ∙ append-nil class.header.methods in
      let here : number ≡ number + 0 = omega arith in
      subst (λ (x : Header). (replaced_class r number class).header ≡ record x { fields = fields_in r number (Some zero) x.fields }) is
      (λ i. record class.header {
        fields = map_numbered (field_cleared r (here i)) zero class.header.fields;
        methods = none_more i;
      })

  -- counted from a later class
  later_fields : (number : ℕ) (found : Option ℕ) (fields : List Member)
      → fields_in r (suc number) found fields ≡ fields_in r number (option_map suc found) fields
  later_fields number None fields = refl
  later_fields number (Some k) fields =
      let here : suc number + k ≡ number + suc k = omega arith in
      ap (λ (n : ℕ). map_numbered (field_cleared r n) zero fields) here

  named_in : (name : Name) (library : List Header) (number : ℕ) (classes : List RunClass) (own : Header)
      → named name (map (λ (class : RunClass). class.header) classes ++ library) ≡ Some own
      → named name (map (λ (class : RunClass). class.header) (map_numbered (replaced_class r) number classes) ++ library)
      ≡ Some (record own { fields = fields_in r number (number_of_first (λ (class : RunClass). bytes_eq name class.header.name) classes) own.fields })
  named_in name library number [] own is = is
  named_in name library number (class ∷ classes) own is = by (bytes_eq name class.header.name) is (named_in name library (suc number) classes own) where
    by : (b : Bool)
        → (if b then Some class.header else named name (map (λ (class : RunClass). class.header) classes ++ library)) ≡ Some own
        → (named name (map (λ (class : RunClass). class.header) classes ++ library) ≡ Some own
        → named name (map (λ (class : RunClass). class.header) (map_numbered (replaced_class r) (suc number) classes) ++ library)
        ≡ Some (record own {
          fields = fields_in r (suc number) (number_of_first (λ (class : RunClass). bytes_eq name class.header.name) classes) own.fields;
        }))
        → (if b then Some (replaced_class r number class).header
        else named name (map (λ (class : RunClass). class.header) (map_numbered (replaced_class r) (suc number) classes) ++ library))
        ≡ Some (record own {
          fields = fields_in r number
              (if b then Some zero
              else option_map suc (number_of_first (λ (class : RunClass). bytes_eq name class.header.name) classes)) own.fields;
        })
    by true e later = ap Some (cleared_header number class own (same_Some class.header own e))
    by false e later =
        later e
        ∙ ap (λ (fields : List Member). Some (record own { fields = fields }))
        (later_fields number (number_of_first (λ (class : RunClass). bytes_eq name class.header.name) classes) own.fields)

  pub class_in : (P : Program) (name : Name) (header : Header) → class_named (headers_in P) name ≡ Some header
      → class_named (headers_in (replaced P r)) name ≡ Some (record header { fields = fields_in r 0 (folder_number P name) header.fields })
  class_in P name header is = named_in name P.library zero P.classes header is

-- ---- the same program but for codes and flags

plain_value : (value : Value) → has_kind kinds.Ref value ≡ false → IsNoReference value
plain_value (values.Ref reference) is = let no : true ≡ false = is in cc
plain_value (values.Int number) is = tt
plain_value (values.Long number) is = tt
plain_value (values.Float bits) is = tt
plain_value (values.Double bits) is = tt
plain_value values.Null is = tt

module _ {P : Program} {T : Typings} (typed : IsTypedProgram P T) (r : Replacement) (none : (class : ℕ) → r.added class ≡ []) where
  plain_start : (number : ℕ) (start : StaticStart) → IsTypedStart P number start → IsPlainStart start
  plain_start number start is = by start.value is where
    by : (value : StartValue) → FitsStart (type_of (field_desc P number start.field)) value
        → IsPlainStart (record { field = start.field; value = value })
    by (start_value value) fits = plain_value value fits.1
    by (start_string text) fits = tt

  replaces_alike : ReplacesAlike P r
  replaces_alike = record {
    no_init = links_no_init (headers_in P) P.links typed.links;
    members = λ number class is. (typed.classes number class is).methods;
    plain_starts = λ number class is.
        AllByRecursion-weaker (IsTypedStart P number) IsPlainStart (plain_start number) class.starts (typed.classes number class is).starts;
    are_added = λ number class is. subst (AllByRecursion (IsAdded P class)) (sym (none number)) tt;
    of_interface = λ number class is interface. none number;
  }

  pub same_program : SamePrograms P (replaced P r)
  same_program = replaced_same replaces_alike
