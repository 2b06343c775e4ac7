-- A method has one reason, of those that hold before a plan is made.
use Rattle.std.proofs.Common.{◌≡◌, Ok, refl, subst}
use Rattle.class_model.specs.declared.class_file.MethodAt.{MethodAt}
use Rattle.class_rewrite.specs.Reasons.{IsNotExpanded}
use Rattle.class_tree.specs.Headers.{Classes}
use Rattle.expanded_code.specs.ExpandAnswers.{AnswersExpanded, HasNoSite, IsExpanded, IsTooLong, IsWide}
use Rattle.flow_code.specs.FlatCode.{FlatCode}
use Rattle.flow_code.specs.TypedFrames.{FolderFrames}
use Rattle.flow_code.specs.declared.reason.Reason.{Reason}
use Rattle.flow_code.specs.declared.reason.Reason.TheVariants as reasons

-- the method has a flat code
abbrev pub HasFlatCode : Classes → FolderFrames → MethodAt → Type 0
HasFlatCode classes typed at = (flat : FlatCode) × AnswersExpanded classes typed at (Ok flat)

-- a reason that holds before a plan is made; NoGain stands for all that may hold behind it
abbrev pub HasEarlyReason : Classes → FolderFrames → MethodAt → Reason → Type 0
HasEarlyReason classes typed at reasons.Host = IsNotExpanded classes typed at reasons.Host
HasEarlyReason classes typed at reasons.Float = IsNotExpanded classes typed at reasons.Float
HasEarlyReason classes typed at reasons.Expanded = IsNotExpanded classes typed at reasons.Expanded
HasEarlyReason classes typed at reasons.NoSite = IsNotExpanded classes typed at reasons.NoSite
HasEarlyReason classes typed at reasons.Wide = IsNotExpanded classes typed at reasons.Wide
HasEarlyReason classes typed at reasons.NoGain = HasFlatCode classes typed at
HasEarlyReason classes typed at reasons.Long = ⊥
HasEarlyReason classes typed at reasons.PoolFull = ⊥
HasEarlyReason classes typed at reasons.Rewritten = ⊥

module _ (classes : Classes) (typed : FolderFrames) (at : MethodAt) (same : (one other : FlatCode) → IsExpanded classes typed at one → IsExpanded classes typed at other → one ≡ other) where
  pub one_reason : (one other : Reason) → HasEarlyReason classes typed at one → HasEarlyReason classes typed at other → one ≡ other
  one_reason reasons.Host reasons.Host h i = refl
  one_reason reasons.Host reasons.Float h i = absurd (i.0 h)
  one_reason reasons.Host reasons.Expanded h i = absurd (i.0.host h)
  one_reason reasons.Host reasons.NoSite h i = absurd (i.0.host h)
  one_reason reasons.Host reasons.Wide h i = absurd (i.0.host h)
  one_reason reasons.Host reasons.NoGain h i = absurd (i.1.0.host h)
  one_reason reasons.Float reasons.Host h i = absurd (h.0 i)
  one_reason reasons.Float reasons.Float h i = refl
  one_reason reasons.Float reasons.Expanded h i = absurd (i.0.no_float h.1)
  one_reason reasons.Float reasons.NoSite h i = absurd (i.0.no_float h.1)
  one_reason reasons.Float reasons.Wide h i = absurd (i.0.no_float h.1)
  one_reason reasons.Float reasons.NoGain h i = absurd (i.1.0.no_float h.1)
  one_reason reasons.Expanded reasons.Host h i = absurd (h.0.host i)
  one_reason reasons.Expanded reasons.Float h i = absurd (h.0.no_float i.1)
  one_reason reasons.Expanded reasons.Expanded h i = refl
  one_reason reasons.Expanded reasons.NoSite h i = absurd (i.3 (subst IsTooLong (same h.1 i.1 h.2 i.2) h.3))
  one_reason reasons.Expanded reasons.Wide h i = absurd (i.3 (subst IsTooLong (same h.1 i.1 h.2 i.2) h.3))
  one_reason reasons.Expanded reasons.NoGain h i = absurd (i.1.2 (subst IsTooLong (same h.1 i.0 h.2 i.1.1) h.3))
  one_reason reasons.NoSite reasons.Host h i = absurd (h.0.host i)
  one_reason reasons.NoSite reasons.Float h i = absurd (h.0.no_float i.1)
  one_reason reasons.NoSite reasons.Expanded h i = absurd (h.3 (subst IsTooLong (same i.1 h.1 i.2 h.2) i.3))
  one_reason reasons.NoSite reasons.NoSite h i = refl
  one_reason reasons.NoSite reasons.Wide h i = absurd (i.4 (subst HasNoSite (same h.1 i.1 h.2 i.2) h.4))
  one_reason reasons.NoSite reasons.NoGain h i = absurd (i.1.3 (subst HasNoSite (same h.1 i.0 h.2 i.1.1) h.4))
  one_reason reasons.Wide reasons.Host h i = absurd (h.0.host i)
  one_reason reasons.Wide reasons.Float h i = absurd (h.0.no_float i.1)
  one_reason reasons.Wide reasons.Expanded h i = absurd (h.3 (subst IsTooLong (same i.1 h.1 i.2 h.2) i.3))
  one_reason reasons.Wide reasons.NoSite h i = absurd (h.4 (subst HasNoSite (same i.1 h.1 i.2 h.2) i.4))
  one_reason reasons.Wide reasons.Wide h i = refl
  one_reason reasons.Wide reasons.NoGain h i = absurd (i.1.4 (subst IsWide (same h.1 i.0 h.2 i.1.1) h.5))
  one_reason reasons.NoGain reasons.Host h i = absurd (h.1.0.host i)
  one_reason reasons.NoGain reasons.Float h i = absurd (h.1.0.no_float i.1)
  one_reason reasons.NoGain reasons.Expanded h i = absurd (h.1.2 (subst IsTooLong (same i.1 h.0 i.2 h.1.1) i.3))
  one_reason reasons.NoGain reasons.NoSite h i = absurd (h.1.3 (subst HasNoSite (same i.1 h.0 i.2 h.1.1) i.4))
  one_reason reasons.NoGain reasons.Wide h i = absurd (h.1.4 (subst IsWide (same i.1 h.0 i.2 h.1.1) i.5))
  one_reason reasons.NoGain reasons.NoGain h i = refl
  one_reason reasons.Long other h i = absurd h
  one_reason reasons.PoolFull other h i = absurd h
  one_reason reasons.Rewritten other h i = absurd h
  one_reason one reasons.Long h i = absurd i
  one_reason one reasons.PoolFull h i = absurd i
  one_reason one reasons.Rewritten h i = absurd i
