-- A folder fails first in one place, and one that is verified in none.
use Rattle.std.proofs.Common.{◌≡◌, List, sym, subst}
use Rattle.class_model.specs.declared.class_file.ClassFile.{ClassFile}
use Rattle.class_model.specs.declared.header.Header.{Header}
use Rattle.class_tree.specs.Headers.{Classes, Headers, headers_of}
use Rattle.class_tree.specs.Trees.{IsArranged, IsTree}
use Rattle.flow_code.specs.TypedFrames.{FolderFrames}
use Rattle.pea_top.proofs.OneLinkProblem.{TreeLaws}
use Rattle.pea_top.specs.Verifying.{AreVerified, IsTypeFailure}
use Rattle.type_rules.specs.Verified.{AreTypedClasses}
use Rattle.verify_folder.specs.Verifying.{Failure, ClassesFail}

-- what verify_folder says of a folder
pub record TypeLaws : Type 0 where
  pub none : (headers : Headers) (classes : List ClassFile) (typed : FolderFrames) (failure : Failure) → ClassesFail headers classes failure → ¬ AreTypedClasses headers classes typed
  pub one : (headers : Headers) (classes : List ClassFile) (one other : Failure) → ClassesFail headers classes one → ClassesFail headers classes other → one ≡ other

module _ (trees : TreeLaws) (laws : TypeLaws) (folder : List ClassFile) (library : List Header) where
  -- the folder fails in any arrangement, since there is one
  fails_at : (classes : Classes) (failure : Failure) → IsArranged folder library classes → IsTree classes → IsTypeFailure folder library failure → ClassesFail (headers_of classes) classes.folder failure
  fails_at classes failure arranged tree h =
      let same = trees.arranged folder library classes h.classes arranged tree.in_order h.arranged in
      subst (λ (at : Classes). ClassesFail (headers_of at) at.folder failure) (sym same) h.fails

  pub one_type_failure : (one other : Failure) → IsTypeFailure folder library one → IsTypeFailure folder library other → one ≡ other
  one_type_failure one other h i = laws.one (headers_of h.classes) h.classes.folder one other h.fails (fails_at h.classes other h.arranged h.tree i)

  pub verified_no_failure : (failure : Failure) → AreVerified folder library → ¬ IsTypeFailure folder library failure
  verified_no_failure failure found h =
      laws.none (headers_of found.classes) found.classes.folder found.verified.typed failure (fails_at found.classes failure found.arranged found.verified.tree h) found.verified.types
