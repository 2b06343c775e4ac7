-- What the fields of new objects hold at first, by the place of the class.
use Rattle.std.proofs.Common.{◌≡◌, ℕ, slice_get, Option, Some, None, Result, IfOk, sym, ap, ◌∙◌}
use Rattle.std.proofs.lemmas.Result.{IfOk-weaker}
use Rattle.class_model.specs.declared.header.Header.{Header}
use Rattle.class_tree.specs.Headers.{Name, Classes, Headers, headers_of}
use Rattle.class_tree.specs.Hierarchy.{IsHierarchy}
use Rattle.class_tree.specs.Layouts.{instance_fields}
use Rattle.class_tree.specs.Order.{place_of}
use Rattle.class_tree.specs.declared.place.Place.{Place}
use Rattle.class_tree.specs.declared.place.Place.TheVariants.{Folder}
use Rattle.machine_heap.specs.Blanks.{blank_object}
use Rattle.machine_values.specs.Values.{blank_values}
use Rattle.member_link.specs.Machine.Programs.{Program, folder_number, name_of_class}
use Rattle.member_link.specs.TreePrograms.{IsProgram}
use Rattle.member_link.specs.RunOps.{IsNewOp, blanks_of}
use Rattle.member_link.specs.declared.run_op.NewOp.{NewOp}
use Rattle.member_link.specs.Laws.ProgramHeaders.{headers_are, name_at_number, number_by_place}
use Rattle.member_link.specs.Laws.FolderNumbers.{number_at}

module _ (classes : Classes) (hierarchy : IsHierarchy (headers_of classes)) (name : Name) (class : ℕ) (at : place_of (headers_of classes) name ≡ Some (Folder class)) where
  header_there : (header : Header) × (slice_get (headers_of classes).folder class ≡ Some header)
  header_there = let stands = hierarchy.placed name (Folder class) at in (stands.0, stands.1.at)

  pub blanks_are : (P : Program) → IsProgram classes P → blank_object (headers_of classes) class ≡ blanks_of P (Some class)
  blanks_are P is =
      let there = header_there in
      rw there.1
      (ap (λ (name : Name). blank_values (instance_fields (headers_of classes) name)) (name_at_number classes P is class there.0 there.1)
      ∙ ap (λ (headers : Headers). blank_values (instance_fields headers (name_of_class P class))) (sym (headers_are classes P is)))

-- a class that is none of the folder
module _ (classes : Classes) (name : Name) where
  pub external_is :
      {E : Type 0} (found : Option Place) (r : Result NewOp E)
      → place_of (headers_of classes) name ≡ found
      → number_at found ≡ None
      → IfOk r (λ op. (P : Program) → folder_number P name ≡ None → IsNewOp P op)
      → IfOk r (λ op. (P : Program) → IsProgram classes P → IsNewOp P op)
  external_is found r at none new =
      IfOk-weaker r (λ op. (P : Program) → folder_number P name ≡ None → IsNewOp P op) (λ op. (P : Program) → IsProgram classes P → IsNewOp P op)
      (λ op resolved P is. resolved P (sym (number_by_place classes P is name found at) ∙ none)) new
