-- What is known of a written folder by the laws of the crates below, where the folder verifies: its methods' flat codes are ready, its classes have
-- grown, and the field constructors that are added are new.
use Rattle.std.specs.Prelude.{◌≡◌, ℕ, List, [], ◌∷◌, length, slice_get, Some, None, option_map}
use Rattle.class_model.specs.Header.{header_of}
use Rattle.class_model.specs.Names.{init}
use Rattle.class_model.specs.Pool.{Constants}
use Rattle.class_model.specs.declared.class_file.ClassFile.{ClassFile}
use Rattle.class_model.specs.declared.class_file.Method.{Method}
use Rattle.class_model.specs.declared.class_file.MethodAt.{MethodAt}
use Rattle.class_rewrite.specs.Laws.OneWriting.{HaveOne}
use Rattle.class_rewrite.specs.Optimised.{with_folder}
use Rattle.class_rewrite.specs.Rewriting.Folders.{IsClassWritten, IsFolderWritten, IsMade, IsPoolBefore}
use Rattle.class_rewrite.specs.Rewriting.Methods.{Rewriting}
use Rattle.class_tree.specs.Headers.{headers_of}
use Rattle.class_tree.specs.Hierarchy.{IsHierarchy}
use Rattle.expanded_code.specs.CandidateSites.{HasCandidateSites}
use Rattle.expanded_code.specs.ExpandAnswers.{IsExpanded}
use Rattle.expanded_runs.specs.CarriedConstants.{CarriesConstants}
use Rattle.flow_code.specs.FlatCode.{FlatCode}
use Rattle.making_code.specs.Constants.{grow}
use Rattle.making_code.specs.ConstructorCode.{IsConstructorMethod}
use Rattle.making_code.specs.FieldConstructor.{constructor_method_needs}
use Rattle.member_link.specs.DeclaredMembers.{declared}
use Rattle.member_link.specs.Machine.Classes.{program_of}
use Rattle.member_link.specs.Machine.Programs.{RunMethod}
use Rattle.member_link.specs.Machine.Replaced.{Replacement, replaced}
use Rattle.member_link.specs.Scope.{Scope, scope_at}
use Rattle.plan_flow.specs.ReadyForPlans.{IsReadyForPlans}
use Rattle.plan_flow.specs.Written.WrittenPrograms.{WrittenMethod, plan_scope}
use Rattle.same_runs.specs.Flats.{Flats}
use Rattle.same_runs.specs.ReadyCode.{IsReadyCode}
use Rattle.type_rules.specs.Grown.{AreGrownHeaders, IsGrownClass}
use Rattle.typed_flats.specs.FlatTypings.{flat_typings}
use Rattle.typed_flats.specs.TypedReplacements.{all_typed_in}
use Rattle.typed_runs.specs.FolderTypings.{HasFlatTypings, HasTypings}
use Rattle.typed_runs.specs.TypedPrograms.{IsTypedProgram, Typings}
use Rattle.written_files.specs.FieldConstructors.{IsConstructorIn}
use Rattle.written_runs.specs.Inner.Setup.{IsSetup, Setup}
use Rattle.written_runs.specs.Laws.AddedConstructors.{AddsToCandidates}

-- The flat code of a method that is rewritten can be written.
pub record IsReadyHost (r : Rewriting) (at : MethodAt) (one : WrittenMethod) : Type 0 where
  pub scope : Scope
  pub is_scope : scope_at r.classes at ≡ Some scope
  pub code : IsReadyCode r.classes scope one.flat
  pub for_plans : IsReadyForPlans (plan_scope r.classes r.links one)
  pub sites : HasCandidateSites r.classes one.flat

-- the flat codes of the methods that are rewritten
abbrev pub flats_written : (r : Rewriting) (files : List ClassFile) → IsFolderWritten r files → Flats
flats_written r files w at = option_map (λ (one : WrittenMethod). one.flat) (w.written at)

-- the program in which these methods run their flat codes, typed by their points, and the one in which they run what is written
abbrev pub setup_of : (r : Rewriting) (files : List ClassFile) → IsFolderWritten r files → Replacement → Typings → Setup
setup_of r files w flats typings = record {
  classes = r.classes;
  links = r.links;
  constructor = r.constructor;
  written = w.written;
  flats = flats_written r files w;
  r = flats;
  s = w.s;
  typings = all_typed_in (replaced (program_of r.classes r.links) flats)
      (flat_typings r.classes (flats_written r files w) typings);
}

pub record IsReadyFolder (r : Rewriting) (files : List ClassFile) (w : IsFolderWritten r files)
    : Type 0 where
  pub hierarchy : IsHierarchy (headers_of r.classes)
  pub one : HaveOne r
  -- the program of the folder
  pub typings : Typings
  pub typed : IsTypedProgram (program_of r.classes r.links) typings
  pub has_typings : HasTypings r.typed typings
  -- methods that are rewritten
  pub ready : (at : MethodAt) (one : WrittenMethod)
      → w.written at ≡ Some one
      → IsReadyHost r at one
  pub carries : (at : MethodAt) (flat : FlatCode)
      → IsExpanded r.classes r.typed at flat
      → CarriesConstants r.classes flat
  -- the program with their flat codes, and field constructors
  pub flats : Replacement
  pub setup : IsSetup (setup_of r files w flats typings)
  pub flat_typings_are : HasFlatTypings (flats_written r files w)
      (setup_of r files w flats typings).typings
  pub adds : AddsToCandidates (setup_of r files w flats typings)
  pub free : (class : ℕ) (file : ClassFile) (method : RunMethod)
      → slice_get r.classes.folder class ≡ Some file
      → w.s.added class ≡ method ∷ []
      → declared init (r.constructor (header_of file).name) (header_of file).methods ≡ None
  pub constructors : (class : ℕ) (file also : ClassFile) (method : Method) (pool : Constants)
      → slice_get r.classes.folder class ≡ Some file
      → IsClassWritten r w.written w.s class file also
      → IsMade r w.written (header_of file).name
      → IsPoolBefore r class file (length file.methods) pool
      → grow 65535 pool (constructor_method_needs (headers_of r.classes) r.constructor (header_of file).name)
      ≡ Some also.pool
      → (is : IsConstructorMethod (headers_of r.classes) r.constructor (header_of file).name
      also.pool method)
      → IsConstructorIn (headers_of r.classes) r.constructor file
      (record {
        headers = headers_of (with_folder r.classes files);
        class = also;
        method = method;
        part = is.part;
      })
  -- classes of the written folder
  pub grown : (class : ℕ) (file also : ClassFile)
      → slice_get r.classes.folder class ≡ Some file
      → IsClassWritten r w.written w.s class file also
      → IsGrownClass file also
  pub headers : AreGrownHeaders (headers_of r.classes) (headers_of (with_folder r.classes files))
