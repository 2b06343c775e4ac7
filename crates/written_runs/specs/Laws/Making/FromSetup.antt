-- What make code asks of the setup, from the setup.
use Rattle.std.proofs.Common.{◌≡◌, ◌≢◌, ℕ, List, length, Some, sym, ap, ◌∙◌}
use Rattle.std.proofs.lemmas.List.{length-map}
use Rattle.class_model.specs.declared.header.Member.{Member}
use Rattle.class_tree.specs.Headers.{Headers, Name, headers_of}
use Rattle.class_tree.specs.Hierarchy.{IsHierarchy}
use Rattle.class_tree.specs.Laws.Headers.{own_name}
use Rattle.class_tree.specs.Layouts.{instance_fields}
use Rattle.class_tree.specs.Names.{object}
use Rattle.expanded_code.specs.Candidates.{IsCandidate}
use Rattle.machine_values.specs.Values.{blank_value}
use Rattle.machine_values.specs.declared.value.Value.{Value}
use Rattle.member_link.specs.Laws.FolderClasses.{class_of_folder, folder_index}
use Rattle.member_link.specs.Machine.Classes.{program_of}
use Rattle.member_link.specs.Machine.Programs.{folder_number, headers_in, name_of_class}
use Rattle.same_runs.specs.Laws.FirstBeginnings.{folder_name}
use Rattle.same_runs.specs.Laws.Layouts.{same_blanks}
use Rattle.written_runs.specs.Inner.MadeObjects.{MakesObjects}
use Rattle.written_runs.specs.Inner.Setup.{IsSetup, Setup, second}
use Rattle.written_runs.specs.Laws.AddedConstructors.{AddsToCandidates, first_second_same, own_second_same}
use Rattle.written_runs.specs.Laws.ConstructorTexts.{ReadsParameters}
use Rattle.written_runs.specs.Laws.FolderFacts.{not_object}
use Rattle.written_runs.specs.Laws.KnownConstructors.{constructs, own_headers}
use Rattle.written_runs.specs.Laws.Making.Asked.{MakingLaws}
use Rattle.written_runs.specs.Laws.Making.Whole.{makes_objects}
use Rattle.written_runs.specs.Laws.SameBoth.{begin_alike}
use Rattle.written_runs.specs.Laws.WrittenCodes.{written_code_at}

module _ (u : Setup) (setup : IsSetup u) (hierarchy : IsHierarchy (headers_of u.classes)) (adds : AddsToCandidates u)
    (reads : ReadsParameters) where
  own : headers_in (program_of u.classes u.links) ≡ headers_of u.classes
  own = own_headers u setup hierarchy adds reads

  -- ---- candidates

  no_object : (class : Name) → IsCandidate u.classes class → class ≢ object
  no_object class candidate same =
      let at = folder_index (headers_of u.classes) class candidate.header candidate.found in
      not_object u.classes setup.tree at.0 candidate.header at.1
      (own_name (headers_of u.classes) class candidate.header (class_of_folder (headers_of u.classes) class candidate.header candidate.found) ∙ same)

  as_many : (class : Name) (number : ℕ) → folder_number (second u) class ≡ Some number
      → length (instance_fields (headers_in (second u)) (name_of_class (second u) number)) ≡ length (instance_fields (headers_of u.classes) class)
  as_many class number is =
      ap (λ (name : Name). length (instance_fields (headers_in (second u)) name)) (folder_name (second u) class number is)
      ∙ sym (length-map (instance_fields (headers_in (second u)) class) (λ (field : Member). blank_value field.desc))
      ∙ ap (λ (values : List Value). length values) (same_blanks (own_second_same u setup hierarchy adds) class)
      ∙ length-map (instance_fields (headers_in (program_of u.classes u.links)) class) (λ (field : Member). blank_value field.desc)
      ∙ ap (λ (headers : Headers). length (instance_fields headers class)) own

  -- ---- the whole

  pub making_laws : MakingLaws u
  making_laws = record {
    is_setup = setup;
    same = first_second_same u setup hierarchy adds;
    alike = begin_alike setup hierarchy adds;
    constructs = constructs u setup hierarchy adds reads;
    code = written_code_at u setup;
    proper = no_object;
    blanks = as_many;
  }

  -- Make code makes the objects.
  pub setup_makes_objects : MakesObjects u
  setup_makes_objects = makes_objects u making_laws
