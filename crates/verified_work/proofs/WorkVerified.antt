-- Generated work verifies with its library.
use Rattle.std.proofs.Common.{◌++◌, ℕ, suc, List, [], ◌∷◌, Option, Some}
use Rattle.std.specs.List.{AllByRecursion}
use Rattle.class_model.specs.Pool.{Constants}
use Rattle.class_model.specs.declared.class_file.Method.{Method}
use Rattle.class_model.specs.declared.frame.Frame.{Frame}
use Rattle.class_model.specs.declared.header.Member.{Member}
use Rattle.class_tree.specs.Headers.{IsClassFile, IsLibraryClass}
use Rattle.flow_code.specs.TypedFrames.{FolderFrames}
use Rattle.type_rules.specs.Verified.{AreTypedMethods, IsVerified, TypesFolder}
use Rattle.work_gen.specs.BaseLibrary.{base_headers}
use Rattle.work_gen.specs.Generated.{generated_folder, indexed, name_constant, work, work_constants, work_method, work_methods}
use Rattle.work_gen.specs.declared.choices.Choice.{Choice}
use Rattle.verified_work.proofs.WorkHeaders.{headers}
use Rattle.verified_work.proofs.WorkLinks.{is_linked}
use Rattle.verified_work.proofs.WorkSteps.{classes_of, methods_of}
use Rattle.verified_work.proofs.WorkTree.{is_tree}
use Rattle.verified_work.proofs.WorkTypes.{init_typed, kind_frames, kind_typed, point_frames, y_typed}
use Rattle.verified_work.proofs.WorkUses.{UseLaws}

-- the frames of each generated method
abbrev work_frames : List Choice → List (Option (List Frame))
work_frames [] = []
work_frames (choice ∷ left) = Some (kind_frames choice.kind) ∷ work_frames left

methods_typed : UseLaws → (methods : List Member) (more : Constants) (class_methods : List Method) (number : ℕ) (left : List Choice)
    → AreTypedMethods (headers methods) (record (work []) { pool = work_constants ++ more; methods = class_methods }) (indexed (λ n choice. work_method n choice ∷ []) number left) (work_frames left)
methods_typed laws methods more class_methods number [] = tt
methods_typed laws methods more class_methods number (choice ∷ left) =
    (kind_typed laws methods more class_methods number choice choice.kind, methods_typed laws methods more class_methods (suc number) left)

abbrev frames_of : List Choice → FolderFrames
frames_of chosen = work_frames chosen ∷ point_frames ∷ []

types_folder : UseLaws → (chosen : List Choice) → TypesFolder (classes_of chosen) (frames_of chosen)
types_folder laws chosen =
    let methods = methods_of chosen in (
      methods_typed laws methods (indexed (λ number choice. Some (name_constant number) ∷ []) 0 chosen) (work_methods chosen) 0 chosen,
      ((init_typed laws methods, (y_typed laws methods, tt)), tt),
    )

pub is_verified : UseLaws → (chosen : List Choice) → AllByRecursion IsClassFile (generated_folder chosen) → AllByRecursion IsLibraryClass base_headers → IsVerified (classes_of chosen)
is_verified laws chosen files are = record {
  tree = is_tree chosen files are;
  linked = is_linked laws chosen;
  typed = frames_of chosen;
  types = types_folder laws chosen;
}
