-- What is known of a folder while its methods are decided, one after the other.
use Rattle.std.specs.Prelude.{◌≡◌, ◌⊎◌, ◌<◌, ◌++◌, ◌∷◌, ℕ, zero, List, [], length, slice_get, take, Some}
use Rattle.class_model.specs.declared.class_file.ClassFile.{ClassFile}
use Rattle.class_model.specs.declared.class_file.Method.{Method}
use Rattle.class_model.specs.declared.class_file.MethodAt.{MethodAt}
use Rattle.class_rewrite.specs.Inner.Outcomes.{AreFieldsOf, AreNamesOf, ClearsFinalHere, IsOutcome, MakesHere, OpensPrivateHere, line_of}
use Rattle.class_rewrite.specs.Reports.{AreLines, class_methods_from, methods_from}
use Rattle.class_rewrite.specs.Rewriting.Folders.{AreMethodsWritten, IsPoolBefore, IsRewrittenAt, with_part}
use Rattle.class_rewrite.specs.Rewriting.Methods.{Rewriting, Rewritten, rewriting_of}
use Rattle.class_rewrite.specs.declared.decided.Decided.{Decided}
use Rattle.class_rewrite.specs.declared.decided.Draft.{Draft}
use Rattle.class_rewrite.specs.declared.outcome.Outcome.{Outcome}
use Rattle.class_rewrite.specs.declared.outcome.Outcome.TheVariants as outcomes
use Rattle.class_rewrite.specs.declared.report.Line.{Line}
use Rattle.class_tree.specs.Headers.{Classes, Name, headers_of}
use Rattle.class_tree.specs.Trees.{IsTree}
use Rattle.flow_code.specs.TypedFrames.{FolderFrames}
use Rattle.member_link.specs.Machine.Links.{AreLinksOf}
use Rattle.member_link.specs.Machine.Programs.{Links}
use Rattle.plan_flow.specs.Written.WrittenPrograms.{GivesConstructors, WrittenMethod}
use Rattle.pool_edit.specs.Edits.{Edit, grown}

-- a tree, with links and with descriptors of its field constructors
pub record HasRules (classes : Classes) : Type 0 where
  pub tree : IsTree classes
  pub links : Links
  pub are_links : AreLinksOf (headers_of classes) links
  pub constructor : Name → List ℕ
  pub gives : GivesConstructors classes constructor

-- ---- what follows from what becomes of a method

-- its line
abbrev pub line_for : MethodAt → Outcome → Line
line_for at (outcomes.Kept reason) = record {
  at = at;
  reason = reason;
  sites = 0;
  news = 0;
  enters = 0;
  bytes = 0;
}
line_for at (outcomes.Rewritten method) = line_of at method

-- what is written of it
abbrev pub method_for : Outcome → Method → Method
method_for (outcomes.Kept reason) method = method
method_for (outcomes.Rewritten written) method =
    record method { attrs = with_part written.part method.attrs }

-- what is known then
abbrev pub decided_for : MethodAt → Outcome → Decided → Decided
decided_for at (outcomes.Kept reason) known =
    record known { report = known.report ++ line_for at (outcomes.Kept reason) ∷ [] }
decided_for at (outcomes.Rewritten method) known = record {
  report = known.report ++ line_for at (outcomes.Rewritten method) ∷ [];
  made = known.made ++ method.made;
  finals = known.finals ++ method.finals;
  privates = known.privates ++ method.privates;
}

-- A method is decided: what is written of it, what its class's pool is then, and what is known then.
pub record IsMethodDecided (classes : Classes) (typed : FolderFrames) (at : MethodAt)
    (method : Method) (old new : Edit) (before known : Decided) (written : Method)
    : Type 0 where
  pub outcome : Outcome
  pub is : IsOutcome classes typed at old new outcome
  pub known_is : known ≡ decided_for at outcome before
  pub written_is : written ≡ method_for outcome method

-- ---- the methods before one

-- one before those of a class of this number from a number on, by the numbers of classes and then by their own
abbrev pub IsBefore : MethodAt → ℕ → ℕ → Type 0
IsBefore at class method = (at.class < class) ⊎ ((at.class ≡ class) × (at.method < method))

-- one of them is rewritten, and its code asks for something
pub record IsAsked (r : Rewriting) (Asks : MethodAt → WrittenMethod → Type 0) (class method : ℕ)
    : Type 0 where
  pub at : MethodAt
  pub before : IsBefore at class method
  pub w : Rewritten
  pub is : IsRewrittenAt r at w
  pub asks : Asks at w.one

-- what their codes ask of the folder
pub record AreGathered (r : Rewriting) (class method : ℕ) (known : Decided) : Type 0 where
  pub made : AreNamesOf (λ name. IsAsked r (λ at one. MakesHere r one name) class method)
      known.made
  pub finals : AreFieldsOf
      (λ of number. IsAsked r (λ at one. ClearsFinalHere r one of number) class method)
      known.finals
  pub privates : AreFieldsOf
      (λ of number. IsAsked r (λ at one. OpensPrivateHere r at one of number) class method)
      known.privates

-- ---- the methods of a class

-- the first so many of them
pub record AreDecided (r : Rewriting) (class : ℕ) (file : ClassFile) (count : ℕ) (pool : Edit)
    (methods : List Method) (before known : Decided)
    : Type 0 where
  pub pool_before : IsPoolBefore r class file count (grown pool)
  pub are_methods : AreMethodsWritten r class zero (take count file.methods) methods
  pub lines : List Line
  pub report : known.report ≡ before.report ++ lines
  pub are_lines : AreLines r (methods_from class zero (take count file.methods)) lines
  pub gathered : AreGathered r class 0 before → AreGathered r class count known

-- whatever links and descriptors of field constructors are meant
pub record AreAllDecided (classes : Classes) (typed : FolderFrames) (class : ℕ)
    (file : ClassFile) (count : ℕ) (pool : Edit) (methods : List Method) (before known : Decided)
    : Type 0 where
  pub each :
      (links : Links) (constructor : Name → List ℕ)
      → AreLinksOf (headers_of classes) links
      → GivesConstructors classes constructor
      → AreDecided (rewriting_of classes typed links constructor) class file count pool methods before
      known

-- ---- the classes

-- what is written of a class, but for what the whole folder decides: its field constructor and the flags of fields
pub record IsDraft (r : Rewriting) (class : ℕ) (file : ClassFile) (draft : Draft) : Type 0 where
  pub pool : IsPoolBefore r class file (length file.methods) draft.pool
  pub methods : AreMethodsWritten r class zero file.methods draft.methods

-- of the first so many classes
pub record AreDrafts (r : Rewriting) (count : ℕ) (drafts : List Draft) (known : Decided)
    : Type 0 where
  pub len : length drafts ≡ count
  pub each : (number : ℕ) (file : ClassFile) (draft : Draft)
      → slice_get r.classes.folder number ≡ Some file
      → slice_get drafts number ≡ Some draft
      → IsDraft r number file draft
  pub lines : AreLines r (class_methods_from zero (take count r.classes.folder)) known.report
  pub gathered : AreGathered r count 0 known

pub record AreDraftsOf (classes : Classes) (typed : FolderFrames) (count : ℕ) (drafts : List Draft)
    (known : Decided)
    : Type 0 where
  pub each :
      (links : Links) (constructor : Name → List ℕ)
      → AreLinksOf (headers_of classes) links
      → GivesConstructors classes constructor
      → AreDrafts (rewriting_of classes typed links constructor) count drafts known
