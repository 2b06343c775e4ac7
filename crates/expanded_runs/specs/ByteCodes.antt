-- Codes that are bytes, as those of class files that were read are.
use Rattle.std.specs.Prelude.{◌≡◌, Some}
use Rattle.class_model.specs.Cutting.{IsBytes}
use Rattle.class_model.specs.declared.class_file.MethodAt.{MethodAt}
use Rattle.class_tree.specs.Headers.{Classes}
use Rattle.member_link.specs.Scope.{Scope, scope_at}

-- the code of each method of the folder
pub record HaveByteCodes (classes : Classes) : Type 0 where
  pub each : (at : MethodAt) (scope : Scope)
      → scope_at classes at ≡ Some scope
      → IsBytes scope.part.code
