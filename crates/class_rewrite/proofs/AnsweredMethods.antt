-- What becomes of a method, by whether it has a flat code with its callees in place of their calls.
use Rattle.std.proofs.Common.{◌≡◌, ◌≢◌, ℕ, List, Result, Ok, Err, IfOk, refl, sym, subst}
use Rattle.class_model.specs.Pool.{Constants}
use Rattle.class_model.specs.declared.class_file.MethodAt.{MethodAt}
use Rattle.class_model.specs.declared.memory.NoMemory.{NoMemory}
use Rattle.class_rewrite.specs.Inner.Outcomes.{IsOutcome}
use Rattle.class_rewrite.specs.Inner.VerifiedFolders.{IsVerifiedFolder}
use Rattle.class_rewrite.specs.Inner.WrittenCodes.{IsFlatOf}
use Rattle.class_rewrite.specs.Rewriting.Methods.{HasReasonIn, rewriting_of}
use Rattle.class_rewrite.specs.declared.outcome.Outcome.{Outcome}
use Rattle.class_rewrite.specs.declared.outcome.Outcome.TheVariants as outcomes
use Rattle.class_tree.specs.Headers.{Classes, Name}
use Rattle.expanded_code.specs.ExpandAnswers.{AnswersExpanded}
use Rattle.flow_code.specs.FlatCode.{FlatCode}
use Rattle.flow_code.specs.TypedFrames.{FolderFrames}
use Rattle.flow_code.specs.declared.reason.KeptFault.TheVariants as faults
use Rattle.flow_code.specs.declared.reason.Reason.{Reason}
use Rattle.flow_code.specs.declared.reason.Reason.TheVariants as reasons
use Rattle.inline_expand.specs.TypedClasses.{TypedClasses}
use Rattle.member_link.specs.Machine.Programs.{Links}
use Rattle.pool_edit.specs.Edits.{Edit}

-- a reason before a plan
record IsEarly (classes : Classes) (typed : FolderFrames) (at : MethodAt) (reason : Reason) : Type 0 where
  has : (links : Links) (constructor : Name → List ℕ) (pool : Constants) → HasReasonIn (rewriting_of classes typed links constructor) at pool reason
  kept : reason ≢ reasons.Rewritten

early : (classes : Classes) (typed : FolderFrames) (at : MethodAt) (reason : Reason) → AnswersExpanded classes typed at (Err (faults.Kept reason))
    → IsEarly classes typed at reason
early classes typed at reasons.Host is = record { has = λ links constructor pool. is; kept = λ same. absurd cc }
early classes typed at reasons.Float is = record { has = λ links constructor pool. is; kept = λ same. absurd cc }
early classes typed at reasons.Expanded is = record { has = λ links constructor pool. is; kept = λ same. absurd cc }
early classes typed at reasons.NoSite is = record { has = λ links constructor pool. is; kept = λ same. absurd cc }
early classes typed at reasons.Wide is = record { has = λ links constructor pool. is; kept = λ same. absurd cc }
early classes typed at reasons.NoGain is = absurd is
early classes typed at reasons.Long is = absurd is
early classes typed at reasons.PoolFull is = absurd is
early classes typed at reasons.Rewritten is = absurd is

-- the method has no flat code
pub kept_outcome : (of now : TypedClasses) → of ≡ now → (at : MethodAt) (reason : Reason) (edit : Edit)
    → AnswersExpanded of.classes of.typed at (Err (faults.Kept reason))
    → IsOutcome now.classes now.typed at edit edit (outcomes.Kept reason)
kept_outcome of now same at reason edit is =
    let one = early of.classes of.typed at reason is in
    subst (λ (x : TypedClasses). IsOutcome x.classes x.typed at edit edit (outcomes.Kept reason)) same
    (record { each = λ links constructor are gives. record { has = one.has links constructor _; kept = one.kept; same = refl } })

ok_mapped : (result : Result Outcome NoMemory) (P Q : Outcome → Type 0) → IfOk result P → ((outcome : Outcome) → P outcome → Q outcome) → IfOk result Q
ok_mapped (Ok outcome) P Q has then = then outcome has
ok_mapped (Err fault) P Q has then = tt

-- it has one
pub flat_outcome : (of now : TypedClasses) (tree : Classes) → of ≡ now → tree ≡ of.classes → IsVerifiedFolder of → (at : MethodAt) (flat : FlatCode)
    → AnswersExpanded of.classes of.typed at (Ok flat)
    → (result : Result Outcome NoMemory) (before after : Edit)
    → IfOk result (λ outcome. (typed : FolderFrames) (at : MethodAt) → IsFlatOf tree typed at flat → IsOutcome tree typed at before after outcome)
    → IfOk result (IsOutcome now.classes now.typed at before after)
flat_outcome of now tree same tree_is verified at flat is result before after has =
    subst (λ (x : TypedClasses). IfOk result (IsOutcome x.classes x.typed at before after)) same
    (ok_mapped result
    (λ outcome. (typed : FolderFrames) (at : MethodAt) → IsFlatOf tree typed at flat → IsOutcome tree typed at before after outcome)
    (IsOutcome of.classes of.typed at before after) has
    (λ outcome one.
    subst (λ (classes : Classes). IsOutcome classes of.typed at before after outcome) tree_is
    (one of.typed at
    (subst (λ (classes : Classes). IsFlatOf classes of.typed at flat) (sym tree_is) (record { folder = verified; is = is })))))
