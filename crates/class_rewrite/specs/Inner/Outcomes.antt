-- What becomes of a method, as the code answers it.
use Rattle.std.specs.Prelude.{◌≡◌, ◌≢◌, ℕ, List, bytes_eq, slice_get, Some, IsTrue}
use Rattle.std.specs.List.{list_any}
use Rattle.class_model.specs.Members.{FINAL, PRIVATE, has}
use Rattle.class_model.specs.declared.class_file.MethodAt.{MethodAt}
use Rattle.class_model.specs.declared.header.Member.{Member}
use Rattle.class_rewrite.specs.Rewriting.Lines.{HasNumbers}
use Rattle.class_rewrite.specs.Rewriting.Methods.{HasReasonIn, IsRewritten, Rewriting, Rewritten, rewriting_of}
use Rattle.class_rewrite.specs.declared.outcome.FieldAt.{FieldAt}
use Rattle.class_rewrite.specs.declared.outcome.Outcome.{Outcome}
use Rattle.class_rewrite.specs.declared.outcome.Outcome.TheVariants as outcomes
use Rattle.class_rewrite.specs.declared.outcome.RewrittenMethod.{RewrittenMethod}
use Rattle.class_rewrite.specs.declared.report.Line.{Line}
use Rattle.class_tree.specs.Headers.{Classes, Name, headers_of}
use Rattle.class_tree.specs.Layouts.{chain}
use Rattle.flow_code.specs.TypedFrames.{FolderFrames}
use Rattle.flow_code.specs.declared.point.Site.{Site}
use Rattle.flow_code.specs.declared.reason.Reason.{Reason}
use Rattle.flow_code.specs.declared.reason.Reason.TheVariants as reasons
use Rattle.making_code.specs.Items.{WItem, makes}
use Rattle.member_link.specs.Machine.Links.{AreLinksOf}
use Rattle.member_link.specs.Machine.Programs.{Links}
use Rattle.member_link.specs.References.{Reference}
use Rattle.plan_flow.specs.Written.WrittenPrograms.{GivesConstructors, IsFieldOf, StoresField, UsesField, WrittenMethod, items_of, plan_scope}
use Rattle.pool_edit.specs.Edits.{Continues, Edit, grown}

-- ---- what written code asks of the folder

-- the written code makes objects of a class
pub record MakesHere (r : Rewriting) (one : WrittenMethod) (class : Name) : Type 0 where
  pub number : ℕ
  pub item : WItem
  pub is_item : slice_get (items_of r.classes r.links one) number ≡ Some item
  pub makes_it : item.instr ≡ makes class

-- it stores into a final field of the chain of a class of its sites
pub record ClearsFinalHere (r : Rewriting) (one : WrittenMethod) (class number : ℕ) : Type 0 where
  pub field : Reference
  pub member : Member
  pub is_field : IsFieldOf r.classes class number field member
  pub final : IsTrue (has member.flags FINAL)
  pub of : ℕ
  pub site : Site
  pub is_site : slice_get one.flat.sites of ≡ Some site
  pub of_chain : IsTrue (list_any (bytes_eq field.class) (chain (headers_of r.classes) site.class))
  pub place : ℕ
  pub item : WItem
  pub is_item : slice_get (items_of r.classes r.links one) place ≡ Some item
  pub stored : StoresField (plan_scope r.classes r.links one) field item.instr

-- written code of a method of another class reads a private field, or stores into it
pub record OpensPrivateHere (r : Rewriting) (at : MethodAt) (one : WrittenMethod)
    (class number : ℕ)
    : Type 0 where
  pub field : Reference
  pub member : Member
  pub is_field : IsFieldOf r.classes class number field member
  pub private : IsTrue (has member.flags PRIVATE)
  pub other : at.class ≢ class
  pub place : ℕ
  pub item : WItem
  pub is_item : slice_get (items_of r.classes r.links one) place ≡ Some item
  pub used : UsesField (plan_scope r.classes r.links one) field item.instr

-- these are exactly the names of which something holds
pub record AreNamesOf (Is : Name → Type 0) (names : List Name) : Type 0 where
  pub each : (place : ℕ) (name : Name) → slice_get names place ≡ Some name → Is name
  pub all : (name : Name) → Is name → (place : ℕ) × (slice_get names place ≡ Some name)

-- and the fields of which something holds, by the number of the class and their own
pub record AreFieldsOf (Is : ℕ → ℕ → Type 0) (fields : List FieldAt) : Type 0 where
  pub each : (place : ℕ) (at : FieldAt) → slice_get fields place ≡ Some at → Is at.class at.field
  pub all : (class number : ℕ)
      → Is class number
      → (place : ℕ) × (slice_get fields place ≡ Some (record { class = class; field = number }))

-- ---- what becomes of a method

-- the line of a method that is rewritten so
abbrev pub line_of : MethodAt → RewrittenMethod → Line
line_of at method = record {
  at = at;
  reason = reasons.Rewritten;
  sites = method.sites;
  news = method.news;
  enters = method.enters;
  bytes = method.bytes;
}

-- The method is kept, and the pool is as it was.
pub record IsKeptFor (r : Rewriting) (at : MethodAt) (before after : Edit) (reason : Reason)
    : Type 0 where
  pub has : HasReasonIn r at (grown before) reason
  pub kept : reason ≢ reasons.Rewritten
  pub same : after ≡ before

-- The method is rewritten so, and the pool has grown by what its code and its frames need.
pub record IsRewrittenTo (r : Rewriting) (at : MethodAt) (before after : Edit)
    (method : RewrittenMethod)
    : Type 0 where
  pub w : Rewritten
  pub is : IsRewritten r at (grown before) w
  pub pool : grown after ≡ w.pool
  pub continues : Continues before after
  pub part : method.part ≡ w.part
  pub numbers : HasNumbers r w (line_of at method)
  pub made : AreNamesOf (MakesHere r w.one) method.made
  pub finals : AreFieldsOf (ClearsFinalHere r w.one) method.finals
  pub privates : AreFieldsOf (OpensPrivateHere r at w.one) method.privates

abbrev pub IsOutcomeBy : Rewriting → MethodAt → Edit → Edit → Outcome → Type 0
IsOutcomeBy r at before after (outcomes.Kept reason) = IsKeptFor r at before after reason
IsOutcomeBy r at before after (outcomes.Rewritten method) = IsRewrittenTo r at before after method

-- What becomes of a method, whatever links and descriptors of field constructors are meant: there are one of each.
pub record IsOutcome (classes : Classes) (typed : FolderFrames) (at : MethodAt)
    (before after : Edit) (outcome : Outcome)
    : Type 0 where
  pub each :
      (links : Links) (constructor : Name → List ℕ)
      → AreLinksOf (headers_of classes) links
      → GivesConstructors classes constructor
      → IsOutcomeBy (rewriting_of classes typed links constructor) at before after outcome
