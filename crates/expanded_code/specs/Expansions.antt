-- What becomes of each instruction where callees stand in place of their calls. It is this project's profile.
use Rattle.std.specs.Prelude.{List, [], ◌∷◌}
use Rattle.class_model.specs.declared.class_file.MethodAt.{MethodAt}
use Rattle.class_model.specs.declared.frame.Frame.{Frame}
use Rattle.class_model.specs.declared.instr.Placed.{Placed}
use Rattle.class_tree.specs.Headers.{Name, Classes}
use Rattle.expanded_code.specs.Sites.{HasFrames, IsReplaced, IsSite}
use Rattle.flow_code.specs.TypedFrames.{FolderFrames}
use Rattle.member_link.specs.Scope.{Scope, instructions}

-- a method in flat code: its numbers, its code and the frames that type it
pub record Coded : Type 0 where
  pub at : MethodAt
  pub scope : Scope
  pub frames : List Frame

-- The instructions of a method in order: each stays as it is, or makes the object of a candidate site, or is replaced by a callee, whose own
-- instructions come first.
pub data Expansion : Type 0 where
  no_more : Expansion
  stays : Expansion → Expansion
  site : Name → Expansion → Expansion
  replaced : Coded → Expansion → Expansion → Expansion

-- the instructions of a method behind a chain of callees
pub data Expands (classes : Classes) (typed : FolderFrames) (host : MethodAt)
    : List MethodAt → MethodAt → List Placed → Expansion
    → Type 0 where
  expands_none : (chain : List MethodAt) (from : MethodAt)
      → Expands classes typed host chain from [] no_more
  expands_stays : (chain : List MethodAt) (from : MethodAt) (placed : Placed)
      (instrs : List Placed) (more : Expansion)
      → ((callee : MethodAt) → ¬ IsReplaced classes typed host chain from placed.at callee)
      → ((class : Name) → ¬ IsSite classes typed host chain from placed.at class)
      → Expands classes typed host chain from instrs more
      → Expands classes typed host chain from (placed ∷ instrs) (stays more)
  expands_site : (chain : List MethodAt) (from : MethodAt) (placed : Placed)
      (instrs : List Placed) (class : Name) (more : Expansion)
      → IsSite classes typed host chain from placed.at class
      → Expands classes typed host chain from instrs more
      → Expands classes typed host chain from (placed ∷ instrs) (site class more)
  expands_replaced : (chain : List MethodAt) (from : MethodAt) (placed : Placed)
      (instrs : List Placed) (callee : Coded) (inner more : Expansion)
      → IsReplaced classes typed host chain from placed.at callee.at
      → HasFrames classes typed callee.at callee.scope callee.frames
      → Expands classes typed host (callee.at ∷ chain) callee.at (instructions callee.scope) inner
      → Expands classes typed host chain from instrs more
      → Expands classes typed host chain from (placed ∷ instrs) (replaced callee inner more)
