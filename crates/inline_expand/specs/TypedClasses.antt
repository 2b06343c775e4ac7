-- A folder with its library, and the frames of its methods.
use Rattle.class_tree.specs.Headers.{Classes}
use Rattle.flow_code.specs.TypedFrames.{FolderFrames}

pub record TypedClasses : Type 0 where
  pub classes : Classes
  pub typed : FolderFrames
