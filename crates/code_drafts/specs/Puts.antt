-- What code that writes instructions without constants does.
use Rattle.std.specs.Prelude.{◌≡◌, ◌++◌, ℕ, List, [], map}
use Rattle.class_model.specs.Pool.{Constants}
use Rattle.class_model.specs.declared.instr.Instr.{Instr}
use Rattle.class_tree.specs.Headers.{Classes, Name}
use Rattle.code_drafts.specs.Drafts.{Keeps}
use Rattle.code_drafts.specs.Emits.{Kept}
use Rattle.flow_code.specs.FlatCode.{FlatCode}
use Rattle.making_code.specs.Items.{WInstr, WItem, item}
use Rattle.member_link.specs.Machine.Programs.{Links}
use Rattle.plan_flow.specs.PlanScope.{scope_of}
use Rattle.plan_flow.specs.Written.WrittenConstants.{code_needs, indexed_instr, instr_needs}

-- an instruction is written so in each pool, and needs no constant
pub record IsPut (flat : FlatCode) (one : WInstr) (instr : Instr) : Type 0 where
  pub is : (classes : Classes) (links : Links) (constructor : Name → List ℕ) (pool : Constants)
      → indexed_instr (scope_of classes links flat) constructor pool one ≡ instr
  pub needless : (classes : Classes) (links : Links) (constructor : Name → List ℕ)
      → instr_needs (scope_of classes links flat) constructor one ≡ []

-- these items were written, behind whatever was, and they need no constant
pub record PutsItems (flat : FlatCode) (items : List WItem) (before after : Kept) : Type 0 where
  pub keeps : (classes : Classes) (links : Links) (constructor : Name → List ℕ)
      (pool : Constants) (front : List WItem)
      → Keeps (scope_of classes links flat) constructor pool front before.is_long before.items
      → Keeps (scope_of classes links flat) constructor pool (front ++ items)
      after.is_long after.items
  pub needless : (classes : Classes) (links : Links) (constructor : Name → List ℕ)
      → code_needs (scope_of classes links flat) constructor items ≡ []

-- the same of instructions that do not jump and that no handler catches
abbrev pub Puts : FlatCode → List WInstr → Kept → Kept → Type 0
Puts flat instrs before after = PutsItems flat (map item instrs) before after

-- once the rest is written, all is
pub record PutsRest (flat : FlatCode) (before : Kept) (all : List WInstr) (now : Kept)
    (rest : List WInstr)
    : Type 0 where
  pub goes_on : (after : Kept) → Puts flat rest now after → Puts flat all before after
