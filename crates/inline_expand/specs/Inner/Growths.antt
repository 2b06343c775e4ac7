-- How the expansion of a host is made, step by step.
use Rattle.std.specs.Prelude.{◌≡◌, ◌+◌, ◌<◌, ℕ, zero, suc, List, [], ◌∷◌, length, slice_get, Option, Some, None}
use Rattle.std.specs.List.{AllByRecursion}
use Rattle.class_model.specs.declared.class_file.MethodAt.{MethodAt}
use Rattle.class_model.specs.declared.instr.Placed.{Placed}
use Rattle.class_tree.specs.Headers.{Name, Classes}
use Rattle.expanded_code.specs.Expanded.{points_of}
use Rattle.expanded_code.specs.Expansions.{Expands, Expansion, no_more, replaced, site, stays}
use Rattle.expanded_code.specs.Sites.{HasFrames, IsReplaced, IsSite}
use Rattle.flow_code.specs.TypedFrames.{FolderFrames}
use Rattle.inline_expand.specs.Inner.Steps.{Callee, callees_of, coded_of, expansion_by}
use Rattle.inline_expand.specs.Inner.Walks.{AreRight}
use Rattle.inline_expand.specs.declared.coded.CodedMethod.{CodedMethod}
use Rattle.inline_expand.specs.declared.expansions.Body.{Body}
use Rattle.inline_expand.specs.declared.expansions.Growth.{Growth}
use Rattle.inline_expand.specs.declared.expansions.HostBodies.{HostBodies}
use Rattle.inline_expand.specs.declared.expansions.Step.{Step}
use Rattle.inline_expand.specs.declared.expansions.Step.TheVariants as steps
use Rattle.inline_expand.specs.declared.ready.HostClass.{HostClass}
use Rattle.member_link.specs.Scope.{instructions}

-- how many instructions are left in their place: no more than there are points
abbrev pub kept_in : Expansion → ℕ
kept_in no_more = zero
kept_in (stays more) = suc (kept_in more)
kept_in (site class more) = suc (kept_in more)
kept_in (replaced callee inner more) = kept_in inner + kept_in more

-- ---- bodies

-- it is the body of the method of its numbers, with a step for each instruction
pub record IsWhole (classes : Classes) (typed : FolderFrames) (body : Body) : Type 0 where
  pub stands : HasFrames classes typed body.at body.host body.frames.now
  pub steps : length body.steps ≡ length (instructions body.host)

pub record MayGrow (class : HostClass) (growth : Growth) : Type 0 where
  pub right : AreRight class.tree.now class.typed.now class.number growth.verdicts
  pub whole : AllByRecursion (IsWhole class.tree.now class.typed.now) growth.bodies.items

-- the bodies that there were mean the same
pub record HasGrown (class : HostClass) (before after : Growth) : Type 0 where
  pub grown : MayGrow class after
  pub same : (number : ℕ) (callee : Callee)
      → slice_get (callees_of before.bodies.items) number ≡ Some callee
      → slice_get (callees_of after.bodies.items) number ≡ Some callee

-- ---- steps

-- a callee's instructions are expanded, in one number of places
pub record IsBuilt (classes : Classes) (typed : FolderFrames) (host : MethodAt)
    (chain : List MethodAt) (callee : Callee) (before after : ℕ)
    : Type 0 where
  pub frames : HasFrames classes typed callee.coded.at callee.coded.scope callee.coded.frames
  pub expands : Expands classes typed host (callee.coded.at ∷ chain) callee.coded.at
      (instructions callee.coded.scope) callee.inner
  pub counted : (inner : Expansion)
      → Expands classes typed host (callee.coded.at ∷ chain) callee.coded.at
      (instructions callee.coded.scope) inner
      → kept_in inner + after ≡ before

-- what becomes of an instruction
abbrev pub IsStep : Classes → FolderFrames → MethodAt → List MethodAt → MethodAt → ℕ → List Callee → ℕ → ℕ → Step → Type 0
IsStep classes typed host chain from at callees before after steps.Stays =
    ((callee : MethodAt) → ¬ IsReplaced classes typed host chain from at callee)
    × ((class : Name) → ¬ IsSite classes typed host chain from at class)
    × (before ≡ suc after)
IsStep classes typed host chain from at callees before after (steps.Site class) =
    IsSite classes typed host chain from at class × (before ≡ suc after)
IsStep classes typed host chain from at callees before after (steps.Replaced number) =
    (callee : Callee)
    × (slice_get callees number ≡ Some callee)
    × IsReplaced classes typed host chain from at callee.coded.at
    × ((other : MethodAt)
    → IsReplaced classes typed host chain from at other
    → other ≡ callee.coded.at)
    × IsBuilt classes typed host chain callee before after

abbrev pub IsStepFound : Classes → FolderFrames → MethodAt → List MethodAt → MethodAt → Placed → Growth → Growth → Option Step → Type 0
IsStepFound classes typed host chain from placed before after (Some step) =
    IsStep classes typed host chain from placed.at (callees_of after.bodies.items) before.left
    after.left step
IsStepFound classes typed host chain from placed before after None =
    (instrs : List Placed) (expansion : Expansion)
    → Expands classes typed host chain from (placed ∷ instrs) expansion
    → before.left < kept_in expansion

-- the body of a callee
abbrev pub IsBodyFound : Classes → FolderFrames → MethodAt → List MethodAt → CodedMethod → Growth → Growth → Option Step → Type 0
IsBodyFound classes typed host chain callee before after (Some (steps.Replaced number)) =
    (inner : Expansion)
    × (slice_get (callees_of after.bodies.items) number
    ≡ Some (record {
      coded = record { at = callee.at; scope = callee.host; frames = callee.frames.now };
      inner = inner;
    }))
    × IsBuilt classes typed host chain (record {
      coded = record { at = callee.at; scope = callee.host; frames = callee.frames.now };
      inner = inner;
    }) before.left after.left
IsBodyFound classes typed host chain callee before after (Some step) = ⊥
IsBodyFound classes typed host chain callee before after None =
    (inner : Expansion)
    → Expands classes typed host (callee.at ∷ chain) callee.at (instructions callee.host) inner
    → before.left < kept_in inner

-- ---- all instructions of a method

pub record AreSteps (classes : Classes) (typed : FolderFrames) (host : MethodAt)
    (chain : List MethodAt) (method : CodedMethod) (before after : Growth) (steps : List Step)
    : Type 0 where
  pub long : length steps ≡ length (instructions method.host)
  pub expands : Expands classes typed host chain method.at (instructions method.host)
      (expansion_by (callees_of after.bodies.items) steps)
  pub counted : (expansion : Expansion)
      → Expands classes typed host chain method.at (instructions method.host) expansion
      → kept_in expansion + after.left ≡ before.left

abbrev pub AreStepsFound : Classes → FolderFrames → MethodAt → List MethodAt → CodedMethod → Growth → Growth → Option (List Step) → Type 0
AreStepsFound classes typed host chain method before after (Some steps) =
    AreSteps classes typed host chain method before after steps
AreStepsFound classes typed host chain method before after None =
    (expansion : Expansion)
    → Expands classes typed host chain method.at (instructions method.host) expansion
    → before.left < kept_in expansion

-- ---- the host

pub record IsHostExpansion (classes : Classes) (typed : FolderFrames) (host : CodedMethod)
    (bodies : HostBodies)
    : Type 0 where
  pub coded : coded_of bodies.body
      ≡ record { at = host.at; scope = host.host; frames = host.frames.now }
  pub whole : IsWhole classes typed bodies.body
  pub callees : AllByRecursion (IsWhole classes typed) bodies.callees.items
  pub expands : Expands classes typed host.at [] host.at (instructions host.host)
      (expansion_by (callees_of bodies.callees.items) bodies.body.steps)

abbrev pub IsExpansionFound : Classes → FolderFrames → CodedMethod → ℕ → Option HostBodies → Type 0
IsExpansionFound classes typed host most (Some bodies) =
    IsHostExpansion classes typed host bodies
IsExpansionFound classes typed host most None =
    (expansion : Expansion)
    → Expands classes typed host.at [] host.at (instructions host.host) expansion
    → most < points_of None (instructions host.host) expansion
