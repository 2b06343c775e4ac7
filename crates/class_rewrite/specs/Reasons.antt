-- Why a method of a folder has no flat code with its callees. It is this project's profile.
use Rattle.std.specs.Prelude.{Err}
use Rattle.class_model.specs.declared.class_file.MethodAt.{MethodAt}
use Rattle.class_tree.specs.Headers.{Classes}
use Rattle.expanded_code.specs.ExpandAnswers.{AnswersExpanded}
use Rattle.flow_code.specs.TypedFrames.{FolderFrames}
use Rattle.flow_code.specs.declared.reason.KeptFault.TheVariants.{Kept}
use Rattle.flow_code.specs.declared.reason.Reason.{Reason}

-- The method is kept for a reason for which it has no flat code with its callees in place of their calls: the first of Host, Float, Expanded,
-- NoSite and Wide that holds of it.
abbrev pub IsNotExpanded : Classes → FolderFrames → MethodAt → Reason → Type 0
IsNotExpanded classes typed at reason = AnswersExpanded classes typed at (Err (Kept reason))
