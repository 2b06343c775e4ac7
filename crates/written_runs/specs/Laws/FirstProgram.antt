-- What the first program is, beside its codes: its objects have the layouts of the folder's classes, its classes are numbered, and where the classes of
-- sites begin nothing runs.
use Rattle.std.proofs.Common.{◌≡◌, ℕ, Bool, true, List, [], ◌∷◌, map, bytes_eq, slice_get, Option, Some, None, refl, sym, ap, ◌∙◌}
use Rattle.std.proofs.lemmas.Option.{none-some}
use Rattle.class_model.specs.Descriptors.{kind_of, type_of}
use Rattle.class_model.specs.declared.class_file.MethodAt.{MethodAt}
use Rattle.class_model.specs.declared.descriptor.FieldType.{FieldType}
use Rattle.class_model.specs.declared.header.Header.{Header}
use Rattle.class_model.specs.declared.header.Member.{Member}
use Rattle.class_tree.specs.Headers.{Headers, Name, headers_of, named}
use Rattle.class_tree.specs.Hierarchy.{IsHierarchy}
use Rattle.class_tree.specs.Layouts.{instance_fields}
use Rattle.class_tree.specs.Order.{first_place, place_of}
use Rattle.class_tree.specs.declared.place.Place.TheVariants.{Folder}
use Rattle.expanded_code.specs.Candidates.{IsCandidate}
use Rattle.expanded_code.specs.Laws.QuietInert.{clinit_of, none_declared_above}
use Rattle.flow_code.specs.declared.point.Site.{Site}
use Rattle.machine_values.specs.Values.{blank_of_kind, blank_values}
use Rattle.machine_values.specs.declared.value.Value.{Value}
use Rattle.member_link.specs.FieldConstructors.{field_types}
use Rattle.member_link.specs.Laws.FirstNumbers.{number_is_place, number_of_mapped}
use Rattle.member_link.specs.Laws.FolderClasses.{class_of_folder, folder_index}
use Rattle.member_link.specs.Laws.FolderNumbers.{number_at, number_of_place}
use Rattle.member_link.specs.Laws.ProgramHeaders.{folder_headers}
use Rattle.member_link.specs.Machine.Layouts.{slot_number, slot_number_in}
use Rattle.member_link.specs.Machine.Programs.{RunClass, folder_number, headers_in, name_of_class, place_of_method}
use Rattle.member_link.specs.References.{Reference}
use Rattle.plan_flow.specs.PlanScope.{is_of_library}
use Rattle.plan_flow.specs.Written.WrittenPrograms.{WrittenMethod}
use Rattle.same_runs.specs.Laws.FirstBeginnings.{folder_name}
use Rattle.same_runs.specs.Laws.Layouts.{same_blanks, same_slot}
use Rattle.same_runs.specs.Laws.Methods.{same_no_place}
use Rattle.same_runs.specs.Laws.Programs.{same_name, same_number}
use Rattle.same_runs.specs.Laws.Scopes.{program_headers}
use Rattle.same_runs.specs.SameMemories.{IsInert}
use Rattle.written_runs.specs.Inner.PlannedFrames.{scope_in}
use Rattle.written_runs.specs.Inner.Setup.{IsSetup, Setup, first}
use Rattle.written_runs.specs.Laws.OwnOperations.{site_is_candidate}
use Rattle.written_runs.specs.Laws.SameBoth.{own, own_same}

module _ {u : Setup} (is : IsSetup u) where
  -- ---- layouts

  pub slots_in_first : (class : Name) (field : Reference) → slot_number (first u) class field ≡ slot_number_in (headers_of u.classes) class field
  slots_in_first class field =
      same_slot (own_same is) class field
      ∙ ap (λ (headers : Headers). slot_number_in headers class field) (program_headers u.classes u.links)

  pub blanks_in_first : (class : Name)
      → blank_values (instance_fields (headers_in (first u)) class)
      ≡ map (λ (type : FieldType). blank_of_kind (kind_of type)) (field_types (headers_of u.classes) class)
  blanks_in_first class =
      same_blanks (own_same is) class
      ∙ ap (λ (headers : Headers). blank_values (instance_fields headers class)) (program_headers u.classes u.links)
      ∙ through (instance_fields (headers_of u.classes) class) where
        through : (fields : List Member)
            → blank_values fields
            ≡ map (λ (type : FieldType). blank_of_kind (kind_of type)) (map (λ (field : Member). type_of field.desc) fields)
        through [] = refl
        through (field ∷ fields) = ap (λ (values : List Value). blank_of_kind (kind_of (type_of field.desc)) ∷ values) (through fields)

  -- ---- classes of the folder

  -- a class of the folder has a number
  number_in_first : (class : Name) (header : Header) → named class (headers_of u.classes).folder ≡ Some header
      → (number : ℕ) × (folder_number (first u) class ≡ Some number)
  number_in_first class header found = (of_folder.0, same_number (own_same is) class ∙ numbered_own) where
    of_folder : (index : ℕ)
        × (slice_get (headers_of u.classes).folder index ≡ Some header)
        × (place_of (headers_of u.classes) class ≡ Some (Folder index))
    of_folder = folder_index (headers_of u.classes) class header found

    named_so : Header → Bool
    named_so header = bytes_eq class header.name

    numbered_own : folder_number (own u) class ≡ Some of_folder.0
    numbered_own =
        number_of_mapped named_so (λ (class : RunClass). class.header) (own u).classes
        ∙ number_is_place named_so (map (λ (class : RunClass). class.header) (own u).classes)
        ∙ ap (first_place named_so) (folder_headers u.links (headers_of u.classes) u.classes.folder)
        ∙ sym (number_of_place (headers_of u.classes) class)
        ∙ ap number_at of_folder.2

  -- one without a number is the library's
  pub of_library : (w : WrittenMethod) (field : Reference)
      → folder_number (first u) field.class ≡ None
      → is_of_library (scope_in u w) field ≡ true
  of_library w field none = by (named field.class (headers_of u.classes).folder) refl where
    by : (found : Option Header) → named field.class (headers_of u.classes).folder ≡ found → is_of_library (scope_in u w) field ≡ true
    by None e = rw (e) refl
    by (Some header) e = let numbered = number_in_first field.class header e in absurd (none-some numbered.0 (sym none ∙ numbered.1))

  -- ---- classes of sites

  module _ (hierarchy : IsHierarchy (headers_of u.classes)) where
    -- where a quiet class of the folder begins, nothing runs
    inert_in_first : (class : Name) (number : ℕ) → IsCandidate u.classes class
        → folder_number (first u) class ≡ Some number
        → IsInert (first u) number
    inert_in_first class number candidate numbered above below = rw (none) refl where
      in_own : (of : ℕ) → name_of_class (first u) of ≡ name_of_class (own u) of
      in_own of = same_name (own_same is) of

      named_so : name_of_class (own u) number ≡ class
      named_so = sym (in_own number) ∙ folder_name (first u) class number numbered

      none_own : place_of_method (own u) (clinit_of (name_of_class (own u) above)) ≡ None
      none_own =
          none_declared_above u.classes u.links hierarchy is.linked class candidate.header number
          (class_of_folder (headers_of u.classes) class candidate.header candidate.found) named_so candidate.quiet above
          (ap (λ (low : Name). u.links.below low (name_of_class (own u) above)) (sym (in_own number))
          ∙ ap (u.links.below (name_of_class (first u) number)) (sym (in_own above)) ∙ below)

      none : place_of_method (first u) (clinit_of (name_of_class (first u) above)) ≡ None
      none =
          ap (λ (name : Name). place_of_method (first u) (clinit_of name)) (in_own above)
          ∙ same_no_place (own_same is) (clinit_of (name_of_class (own u) above)) (λ same. absurd cc) none_own

    pub site_class : (at : MethodAt) (w : WrittenMethod) (number : ℕ) (site : Site)
        → u.written at ≡ Some w
        → slice_get w.flat.sites number ≡ Some site
        → (class : ℕ) × (folder_number (first u) site.class ≡ Some class) × IsInert (first u) class
    site_class at w number site written there = (
      found.0,
      found.1,
      inert_in_first site.class found.0 candidate found.1,
    ) where
      candidate : IsCandidate u.classes site.class
      candidate = site_is_candidate is at w number site written there

      found : (number : ℕ) × (folder_number (first u) site.class ≡ Some number)
      found = number_in_first site.class candidate.header candidate.found
