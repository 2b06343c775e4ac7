-- Words that definitions ask for are the same, or differ; and what a hierarchy answers.
use Rattle.std.proofs.Common.{◌≡◌, Option, IsFalse, refl, ap, inl, inr}
use Rattle.std.proofs.lemmas.Bool.{cases_eq}
use Rattle.class_model.specs.Laws.Decisions.{Decision, both, denied, is_false, mapped}
use Rattle.class_model.specs.declared.class_file.MethodAt.{MethodAt}
use Rattle.class_model.specs.declared.frame.VType.{VType}
use Rattle.class_model.specs.declared.frame.VType.TheVariants.{Double, Float, Int, Long, Null, Object, Top, Uninit, UninitThis}
use Rattle.class_model.specs.declared.header.Member.{Member}
use Rattle.class_tree.specs.Headers.{Headers, Name, class_named}
use Rattle.class_tree.specs.Laws.Decided.{same_bytes}
use Rattle.class_tree.specs.Names.{is_interface}
use Rattle.expanded_code.specs.Callees.{IsClass}
use Rattle.expanded_code.specs.Laws.Searches.{some_decided}
use Rattle.inline_expand.proofs.Walking.{same_method}
use Rattle.member_link.specs.DeclaredMembers.{Declared}
use Rattle.member_link.specs.Fields.{FindsField}
use Rattle.member_link.specs.Methods.{FindsMethod}
use Rattle.member_link.specs.References.{Reference}
use Rattle.member_link.specs.Selection.{Choice, Selects}
use Rattle.member_link.specs.SpecialStart.{StartsSpecial}
use Rattle.member_link.specs.declared.selection.CallForm.{CallForm}

-- ---- what a hierarchy answers

pub record HasAnswers (headers : Headers) : Type 0 where
  pub field : Reference → Option Declared
  pub field_is : (r : Reference) → FindsField headers r.class r.name r.desc (field r)
  pub method : Reference → Option Declared
  pub method_is : (r : Reference) → FindsMethod headers r.class r.name r.desc (method r)
  pub select : Name → Declared → CallForm → Choice
  pub select_is : (receiver : Name) (resolved : Declared) (form : CallForm) → Selects headers receiver resolved form (select receiver resolved form)
  pub start : Name → Name → Name
  pub start_is : (current named : Name) → StartsSpecial headers current named (start current named)

-- ---- what is the same

pub same_type : (one other : VType) → Decision (one ≡ other)
same_type Top Top = inl refl
same_type Int Int = inl refl
same_type Float Float = inl refl
same_type Long Long = inl refl
same_type Double Double = inl refl
same_type Null Null = inl refl
same_type UninitThis UninitThis = inl refl
same_type (Object one) (Object other) = mapped (λ e. ap Object e) (λ e. cc) (same_bytes one other)
same_type (Uninit one) (Uninit other) = mapped (λ e. ap Uninit e) (λ e. cc) (cases_eq one other)
same_type one other = inr (λ e. absurd cc)

pub same_member : (one other : Member) → Decision (one ≡ other)
same_member one other =
    mapped (λ e. made one other e.0 e.1.0 e.1.1)
    (λ (e : one ≡ other). (ap (λ (m : Member). m.flags) e, (ap (λ (m : Member). m.name) e, ap (λ (m : Member). m.desc) e)))
    (both (cases_eq one.flags other.flags) (both (same_bytes one.name other.name) (same_bytes one.desc other.desc))) where
      made : (one other : Member) → one.flags ≡ other.flags → one.name ≡ other.name → one.desc ≡ other.desc → one ≡ other
      made one other flags name desc i = record { flags = flags i; name = name i; desc = desc i }

pub same_reference : (one other : Reference) → Decision (one ≡ other)
same_reference one other =
    mapped (λ e. made one other e.0 e.1.0 e.1.1)
    (λ (e : one ≡ other). (ap (λ (r : Reference). r.class) e, (ap (λ (r : Reference). r.name) e, ap (λ (r : Reference). r.desc) e)))
    (both (same_bytes one.class other.class) (both (same_bytes one.name other.name) (same_bytes one.desc other.desc))) where
      made : (one other : Reference) → one.class ≡ other.class → one.name ≡ other.name → one.desc ≡ other.desc → one ≡ other
      made one other class name desc i = record { class = class i; name = name i; desc = desc i }

pub at_other : (one other : MethodAt) → Decision (¬ (one ≡ other))
at_other one other = denied (same_method one other)

-- ---- classes

pub class_decided : (headers : Headers) (name : Name) → Decision (IsClass headers name)
class_decided headers name =
    mapped (λ some. record { header = some.item; found = some.is; no_interface = some.holds })
    (λ class. record { item = class.header; is = class.found; holds = class.no_interface })
    (some_decided (class_named headers name) (λ header. IsFalse (is_interface header)) (λ header is. is_false (is_interface header)))
