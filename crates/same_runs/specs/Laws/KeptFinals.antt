-- Stores of methods' own code into final fields, in a folder's program and in one with other codes and flags cleared: they are barred in both, or in none.
use Rattle.std.proofs.Common.{◌≡◌, ◌&&◌, not, ℕ, zero, suc, Bool, true, false, List, [], ◌∷◌, bytes_eq, slice_get, Option, Some, None, option_map, IsTrue, if◌then◌else◌, refl, sym, ap, subst, ◌∙◌}
use Rattle.std.specs.Prelude.{option_and_then}
use Rattle.std.proofs.lemmas.Bool.{false≢true}
use Rattle.std.proofs.lemmas.Option.{none-some, same_Some, slice_get-map}
use Rattle.std.proofs.lemmas.Slice.Eq.{bytes_eq-Decides}
use Rattle.class_model.specs.Header.{header_of}
use Rattle.class_model.specs.Members.{FINAL, STATIC, has}
use Rattle.class_model.specs.Pool.{constant_at}
use Rattle.class_model.specs.declared.class_file.MethodAt.{MethodAt}
use Rattle.class_model.specs.declared.header.Header.{Header}
use Rattle.class_model.specs.declared.header.Member.{Member}
use Rattle.class_model.specs.declared.instr.Instr.TheVariants.{PutField, PutStatic}
use Rattle.class_model.specs.declared.instr.Placed.{Placed}
use Rattle.class_tree.specs.Headers.{Classes, Headers, Name, headers_of}
use Rattle.class_tree.specs.Hierarchy.{IsHierarchy}
use Rattle.class_tree.specs.Laws.Headers.{own_name}
use Rattle.member_link.specs.DeclaredMembers.{Declared, declared}
use Rattle.member_link.specs.Fields.{FindsField}
use Rattle.member_link.specs.Machine.Classes.{program_of}
use Rattle.member_link.specs.Machine.Codes.{initialises}
use Rattle.member_link.specs.Machine.FieldSteps.{is_barred, static_number}
use Rattle.member_link.specs.Machine.Links.{AreLinksOf, reference_to}
use Rattle.member_link.specs.Machine.Programs.{Links, Program, RunClass, field_of, first_member, folder_number, has_flag, headers_in, member_of, number_of_first}
use Rattle.member_link.specs.Machine.Replaced.{Replacement, replaced}
use Rattle.member_link.specs.References.{Reference}
use Rattle.member_link.specs.Scope.{Scope, instructions, is_clinit, is_init, scope_at}
use Rattle.member_link.specs.Signatures.{reference_of}
use Rattle.same_runs.specs.ClearedFields.{IsInstanceField}
use Rattle.same_runs.specs.SamePrograms.{SameBar}
use Rattle.same_runs.specs.Laws.CallWork.{class_named_first}
use Rattle.same_runs.specs.Laws.ClearedFlags.{final_as_before}
use Rattle.same_runs.specs.Laws.FoundMembers.{FieldLaws, field_there}
use Rattle.same_runs.specs.Laws.InstrOps.{OwnBars}
use Rattle.same_runs.specs.Laws.Scopes.{program_headers}

-- ---- what is asked of flags that are cleared, and of stores into static fields

-- no method's own code stores into the field, but the instance initialisers of its class
pub record KeepsField (classes : Classes) (field : Declared) : Type 0 where
  pub stores : (at : MethodAt) (s : Scope) (number : ℕ) (placed : Placed) (index : ℕ) (reference : Reference)
      → scope_at classes at ≡ Some s
      → slice_get (instructions s) number ≡ Some placed
      → placed.instr ≡ PutField index
      → reference_of s.class.pool (constant_at s.class.pool index) ≡ Some reference
      → FindsField (headers_of classes) reference.class reference.name reference.desc (Some field)
      → IsTrue (is_init s) × ((header_of s.class).name ≡ field.class)

-- The final flag of such a field, of an instance, may be cleared.
pub record MayClear (classes : Classes) (class number : ℕ) : Type 0 where
  pub field : Declared
  pub is_field : IsInstanceField (headers_of classes) class number field
  pub keeps : KeepsField classes field

pub record ClearsKept (classes : Classes) (r : Replacement) : Type 0 where
  pub each : (class number : ℕ) → IsTrue (has (r.cleared class number) FINAL) → MayClear classes class number

-- a field that a method's own code stores into as a static one is static
pub record StoresStatics (classes : Classes) (at : MethodAt) : Type 0 where
  pub each : (s : Scope) (number : ℕ) (placed : Placed) (index : ℕ) (reference : Reference) (field : Declared)
      → scope_at classes at ≡ Some s
      → slice_get (instructions s) number ≡ Some placed
      → placed.instr ≡ PutStatic index
      → reference_of s.class.pool (constant_at s.class.pool index) ≡ Some reference
      → FindsField (headers_of classes) reference.class reference.name reference.desc (Some field)
      → IsTrue (has field.member.flags STATIC)

-- ---- members by number

member_numbered : (r : Reference) (members : List Member) (number : ℕ) → number_of_first (member_of r) members ≡ Some number
    → first_member r members ≡ slice_get members number
member_numbered r [] number is = absurd (none-some number is)
member_numbered r (first ∷ members) number is =
    by (member_of r first) refl (number_of_first (member_of r) members) is (member_numbered r members) where
      by : (b : Bool) → member_of r first ≡ b → (found : Option ℕ) → (if b then Some zero else option_map suc found) ≡ Some number
          → ((number : ℕ) → found ≡ Some number → first_member r members ≡ slice_get members number)
          → first_member r (first ∷ members) ≡ slice_get (first ∷ members) number
      by true e found is rest = rw (e) (ap (slice_get (first ∷ members)) (same_Some zero number is))
      by false e None is rest = absurd (none-some number is)
      by false e (Some later) is rest = rw (e) (rest later refl ∙ ap (slice_get (first ∷ members)) (same_Some (suc later) number is))

-- ---- inside the initialiser of the field's class

abbrev pub inside : Reference → Option Name → Bool
inside field None = false
inside field (Some class) = bytes_eq class field.class

pub barred : (P : Program) (field : Reference) (one : Option Name) → is_barred P field one ≡ (has_flag (field_of P field) FINAL && not (inside field one))
barred P field None = refl
barred P field (Some class) = refl

-- the code is that of an initialiser of the field's class, or of another method
pub inside_is : (is : Bool) (own : Header) (field : Reference) → inside field (initialises is own) ≡ true → (is ≡ true) × (own.name ≡ field.class)
inside_is true own field within = (refl, (bytes_eq-Decides own.name field.class).0 within)
inside_is false own field within = absurd (false≢true within)

is_inside : (is : Bool) (own : Header) (field : Reference) → is ≡ true → own.name ≡ field.class → inside field (initialises is own) ≡ true
is_inside true own field init same = (bytes_eq-Decides own.name field.class).1 same
is_inside false own field init same = absurd (false≢true init)

not_true : (b : Bool) → ¬ IsTrue b → b ≡ false
not_true true other = absurd (other refl)
not_true false other = refl

pub never : (b : Bool) → (b && false) ≡ false
never true = refl
never false = refl

-- ---- the field that a store finds

pub record FieldFound (classes : Classes) (reference field : Reference) : Type 0 where
  pub found : Declared
  pub finds : FindsField (headers_of classes) reference.class reference.name reference.desc (Some found)
  pub same : reference_to found ≡ field

-- it stands at its numbers
pub record StandsAtNumbers (classes : Classes) (found : Declared) (class number : ℕ) : Type 0 where
  pub header : Header
  pub of_folder : slice_get (headers_of classes).folder class ≡ Some header
  pub declares : slice_get header.fields number ≡ Some found.member
  pub of_class : found.class ≡ header.name

module _ (classes : Classes) (links : Links) (laws : FieldLaws) (hierarchy : IsHierarchy (headers_of classes))
    (linked : AreLinksOf (headers_of classes) links) where
  abbrev P : Program
  P = program_of classes links

  pub field_found : (reference field : Reference) → links.field reference ≡ Some field → FieldFound classes reference field
  field_found reference field is =
      let link = linked.field reference in
      by link.found link.finds (sym link.same ∙ is) where
        by : (found : Option Declared) → FindsField (headers_of classes) reference.class reference.name reference.desc found
            → option_map reference_to found ≡ Some field
            → FieldFound classes reference field
        by None finds is = absurd (none-some field is)
        by (Some found) finds is = record { found = found; finds = finds; same = same_Some (reference_to found) field is }

  module _ {reference field : Reference} (f : FieldFound classes reference field) where
    -- the program's field is that one
    pub field_is : field_of P field ≡ Some f.found.member
    field_is =
        subst (λ (r : Reference). field_of P r ≡ Some f.found.member) f.same
        (field_there laws P (subst IsHierarchy (sym (program_headers classes links)) hierarchy) reference f.found
        (subst (λ (all : Headers). FindsField all reference.class reference.name reference.desc (Some f.found)) (sym (program_headers classes links)) f.finds))

    pub stands_at_numbers : (class number : ℕ) → folder_number P field.class ≡ Some class → static_number P class field ≡ Some number
        → StandsAtNumbers classes f.found class number
    stands_at_numbers class number is_class is_number =
        let named = class_named_first field.class classes.library P.classes class is_class in
        let found = named.0 in
        let in_class : static_number P class field ≡ number_of_first (member_of field) found.header.fields = rw (named.1) refl in
        record {
          header = found.header;
          of_folder =
              ap (λ (all : Headers). slice_get all.folder class) (sym (program_headers classes links))
              ∙ slice_get-map (λ (class : RunClass). class.header) P.classes class
              ∙ ap (option_map (λ (class : RunClass). class.header)) named.1;
          declares =
              sym (member_numbered field found.header.fields number (sym in_class ∙ is_number))
              ∙ sym (ap (option_and_then (λ (header : Header). first_member field header.fields)) named.2)
              ∙ field_is;
          of_class = ap (λ (r : Reference). r.class) f.same ∙ sym (own_name (headers_in P) field.class found.header named.2);
        }

  -- the field of these numbers is that one
  pub same_field : {found field : Declared} {class number : ℕ} → StandsAtNumbers classes found class number
      → IsInstanceField (headers_of classes) class number field
      → found ≡ field
  same_field {found = found} {field = field} stands is =
      let header = same_Some stands.header is.header (sym stands.of_folder ∙ is.of_folder) in
      let here = subst (λ (h : Header). slice_get h.fields _ ≡ Some found.member) header stands.declares in
      let member = same_Some found.member field.member (sym here ∙ is.declared) in
      let class = stands.of_class ∙ ap (λ (h : Header). h.name) header ∙ sym is.of_class in
      λ i. record { class = class i; member = member i }

  -- ---- where flags are cleared

  module _ (r : Replacement) (clears : ClearsKept classes r) where
    abbrev Q : Program
    Q = replaced P r

    -- a field is final as it was, where it is none of those that are cleared
    kept_unless : {reference field : Reference} (f : FieldFound classes reference field)
        → ((class number : ℕ) (c : MayClear classes class number) → c.field ≡ f.found → ⊥)
        → has_flag (field_of Q field) FINAL ≡ has_flag (field_of P field) FINAL
    kept_unless {field = field} f other =
        final_as_before P r field (λ class number is_class is_number.
        not_true (has (r.cleared class number) FINAL) (λ cleared.
        let c = clears.each class number cleared in
        other class number c (sym (same_field (stands_at_numbers f class number is_class is_number) c.is_field))))

    -- no flag of a static field is cleared
    pub static_final : {reference field : Reference} (f : FieldFound classes reference field) → IsTrue (has f.found.member.flags STATIC)
        → has_flag (field_of Q field) FINAL ≡ has_flag (field_of P field) FINAL
    static_final f static =
        kept_unless f (λ class number c same.
        false≢true (sym c.is_field.instance ∙ subst (λ (d : Declared). IsTrue (has d.member.flags STATIC)) (sym same) static))

    -- outside of an initialiser of the field's class the final flag of a field that a method stores into is not cleared
    pub final_kept : {reference field : Reference} (f : FieldFound classes reference field) (at : MethodAt) (s : Scope) (number : ℕ) (placed : Placed)
        (index : ℕ)
        → scope_at classes at ≡ Some s
        → slice_get (instructions s) number ≡ Some placed
        → placed.instr ≡ PutField index
        → reference_of s.class.pool (constant_at s.class.pool index) ≡ Some reference
        → inside field (initialises (is_init s) (header_of s.class)) ≡ false
        → has_flag (field_of Q field) FINAL ≡ has_flag (field_of P field) FINAL
    final_kept {reference = reference} {field = field} f at s number placed index scope is stores names none =
        kept_unless f (λ class cleared c same.
        let finds = subst (λ (d : Declared). FindsField (headers_of classes) reference.class reference.name reference.desc (Some d)) (sym same) f.finds in
        let within = c.keeps.stores at s number placed index reference scope is stores names finds in
        false≢true (sym none
        ∙ is_inside (is_init s) (header_of s.class) field within.0
        (within.1 ∙ ap (λ (d : Declared). d.class) same ∙ ap (λ (r : Reference). r.class) f.same)))

    own_bar : (at : MethodAt) (s : Scope) (number : ℕ) (placed : Placed) (index : ℕ) (reference : Reference)
        → scope_at classes at ≡ Some s
        → slice_get (instructions s) number ≡ Some placed
        → placed.instr ≡ PutField index
        → reference_of s.class.pool (constant_at s.class.pool index) ≡ Some reference
        → SameBar P Q reference (initialises (is_init s) (header_of s.class)) (initialises (is_init s) (header_of s.class))
    own_bar at s number placed index reference scope is stores names field found =
        barred Q field one ∙ by (inside field one) refl ∙ sym (barred P field one) where
          one : Option Name
          one = initialises (is_init s) (header_of s.class)

          by : (within : Bool) → inside field one ≡ within
              → (has_flag (field_of Q field) FINAL && not (inside field one)) ≡ (has_flag (field_of P field) FINAL && not (inside field one))
          by true e = rw (e) (never (has_flag (field_of Q field) FINAL) ∙ sym (never (has_flag (field_of P field) FINAL)))
          by false e =
              ap (λ (final : Bool). final && not (inside field one))
              (final_kept (field_found reference field found) at s number placed index scope is stores names e)

    -- What a method's own code stores is barred in both programs, or in none.
    module _ (at : MethodAt) (statics : StoresStatics classes at) where
      own_static_bar : (s : Scope) (number : ℕ) (placed : Placed) (index : ℕ) (reference : Reference)
          → scope_at classes at ≡ Some s
          → slice_get (instructions s) number ≡ Some placed
          → placed.instr ≡ PutStatic index
          → reference_of s.class.pool (constant_at s.class.pool index) ≡ Some reference
          → SameBar P Q reference (initialises (is_clinit s) (header_of s.class)) (initialises (is_clinit s) (header_of s.class))
      own_static_bar s number placed index reference scope is stores names field found =
          let one = initialises (is_clinit s) (header_of s.class) in
          let f = field_found reference field found in
          barred Q field one
          ∙ ap (λ (final : Bool). final && not (inside field one))
          (static_final f (statics.each s number placed index reference f.found scope is stores names f.finds))
          ∙ sym (barred P field one)

      pub own_bars : OwnBars classes P Q at
      own_bars = record {
        fields = λ s number placed index reference scope is stores names. own_bar at s number placed index reference scope is stores names;
        statics = λ s number placed index reference scope is stores names. own_static_bar s number placed index reference scope is stores names;
      }
