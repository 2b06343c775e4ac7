-- How the flat code of a host is answered, step by step.
use Rattle.std.specs.Prelude.{◌≡◌, Bool, true, false, length, None, Result, Ok, Err}
use Rattle.std.specs.List.{AllByRecursion}
use Rattle.class_model.specs.declared.class_file.MethodAt.{MethodAt}
use Rattle.class_model.specs.declared.instr.Instr.{Instr}
use Rattle.class_model.specs.declared.instr.Instr.TheVariants.{FloatAsk}
use Rattle.class_tree.specs.Headers.{Classes, headers_of}
use Rattle.expanded_code.specs.Candidates.{IsCandidate}
use Rattle.expanded_code.specs.ExpandAnswers.{HasFloat, HasNoSite, IsNoHost, IsOpenHost, IsTooLong, IsWide}
use Rattle.expanded_code.specs.Expanded.{expanded, points_of}
use Rattle.flow_code.specs.FlatCode.{FlatCode, IsFlat}
use Rattle.flow_code.specs.TypedFrames.{FolderFrames}
use Rattle.flow_code.specs.declared.point.Site.{Site}
use Rattle.flow_code.specs.declared.reason.KeptFault.{KeptFault}
use Rattle.flow_code.specs.declared.reason.KeptFault.TheVariants as faults
use Rattle.flow_code.specs.declared.reason.Reason.TheVariants as reasons
use Rattle.inline_expand.specs.Inner.Coded.{Stands}
use Rattle.inline_expand.specs.Inner.Measures.{host_expansion}
use Rattle.inline_expand.specs.Inner.Steps.{IsBody, coded_of}
use Rattle.inline_expand.specs.declared.coded.CodedMethod.{CodedMethod}
use Rattle.inline_expand.specs.declared.expansions.HostBodies.{HostBodies}
use Rattle.member_link.specs.Scope.{instructions}

-- arithmetic of float or double
abbrev pub asks_float : Instr → Bool
asks_float (FloatAsk opcode) = true
asks_float instr = false

-- the method is a host without such arithmetic, or why it is none
abbrev pub IsHostFound : Classes → FolderFrames → MethodAt → Result CodedMethod KeptFault → Type 0
IsHostFound classes typed at (Ok method) =
    (method.at ≡ at) × Stands classes typed method × IsOpenHost classes at
IsHostFound classes typed at (Err (faults.Kept reasons.Host)) = IsNoHost classes at
IsHostFound classes typed at (Err (faults.Kept reasons.Float)) =
    (¬ IsNoHost classes at) × HasFloat classes at
IsHostFound classes typed at (Err (faults.Kept reason)) = ⊥
IsHostFound classes typed at (Err faults.NoMemory) = Unit {0}

-- the flat code of a host with its callees
abbrev pub whole_of : HostBodies → FlatCode
whole_of bodies = expanded (coded_of bodies.body) (host_expansion bodies.callees.items bodies.body)

-- Frames type the host and its callees, and their flat code is well formed, with a point for each that is counted; each of its
-- sites is of a candidate class.
pub record IsWholeCode (classes : Classes) (bodies : HostBodies) : Type 0 where
  pub headers : bodies.body.host.headers ≡ headers_of classes
  pub host : IsBody bodies.body
  pub callees : AllByRecursion IsBody bodies.callees.items
  pub flat : IsFlat (whole_of bodies)
  pub long : length (whole_of bodies).points
      ≡ points_of None (instructions bodies.body.host) (host_expansion bodies.callees.items bodies.body)
  pub sites : AllByRecursion (λ (site : Site). IsCandidate classes site.class)
      (whole_of bodies).sites

-- it is answered, or the first reason why it is kept
abbrev pub AnswersWhole : FlatCode → Result FlatCode KeptFault → Type 0
AnswersWhole whole (Ok flat) =
    (flat ≡ whole) × (¬ IsTooLong whole) × (¬ HasNoSite whole) × (¬ IsWide whole)
AnswersWhole whole (Err (faults.Kept reasons.Expanded)) = IsTooLong whole
AnswersWhole whole (Err (faults.Kept reasons.NoSite)) = (¬ IsTooLong whole) × HasNoSite whole
AnswersWhole whole (Err (faults.Kept reasons.Wide)) =
    (¬ IsTooLong whole) × (¬ HasNoSite whole) × IsWide whole
AnswersWhole whole (Err (faults.Kept reason)) = ⊥
AnswersWhole whole (Err faults.NoMemory) = Unit {0}
