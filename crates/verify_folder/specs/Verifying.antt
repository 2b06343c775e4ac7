-- How a folder fails first, and what verification answers.
use Rattle.std.specs.Prelude.{◌≡◌, ◌⊎◌, ℕ, List, [], ◌∷◌, take, slice_get, Option, Some, None, Result, Ok, Err}
use Rattle.class_model.specs.Header.{header_of}
use Rattle.class_model.specs.declared.class_file.ClassFile.{ClassFile}
use Rattle.class_model.specs.declared.class_file.Method.{Method}
use Rattle.class_model.specs.declared.class_file.MethodAt.{MethodAt}
use Rattle.class_model.specs.declared.frame.Frame.{Frame}
use Rattle.class_model.specs.declared.header.Header.{Header}
use Rattle.class_model.specs.declared.header.Member.{Member}
use Rattle.class_tree.specs.Headers.{Name, Classes, Headers, headers_of}
use Rattle.flow_code.specs.TypedFrames.{FolderFrames}
use Rattle.member_link.specs.Scope.{Scope, scope_at, scope_of}
use Rattle.type_rules.specs.Typed.{IsFirstFailure}
use Rattle.type_rules.specs.Verified.{AreTypedClasses, AreTypedMethods, TypesFolder, TypesMethod}
use Rattle.type_rules.specs.declared.fault.TypeRule.{TypeRule}
use Rattle.type_rules.specs.declared.fault.VerifyFault.{VerifyFault}
use Rattle.type_rules.specs.declared.fault.VerifyFault.TheVariants as faults

-- ---- a method

-- where a folder fails first: a class, its method, an offset and a rule
pub record Failure : Type 0 where
  pub class : Name
  pub method : Member
  pub offset : ℕ
  pub rule : TypeRule

-- a method with code fails, which is this member of its class's header
abbrev pub MethodFails : Option Scope → Header → Member → Failure → Type 0
MethodFails None header member failure = ⊥
MethodFails (Some s) header member failure =
    (failure.class ≡ header.name)
    × (failure.method ≡ member)
    × IsFirstFailure s failure.offset failure.rule

-- ---- the methods of a class, each a member of the class's header

abbrev pub MethodsFail : Headers → ClassFile → List Method → List Member → Failure → Type 0
MethodsFail headers class (method ∷ methods) (member ∷ members) failure =
    MethodFails (scope_of headers class method) (header_of class) member failure
    ⊎ (((frames : Option (List Frame)) × TypesMethod (scope_of headers class method) frames)
    × MethodsFail headers class methods members failure)
MethodsFail headers class methods members failure = ⊥

-- ---- the classes of a folder

abbrev pub ClassesFail : Headers → List ClassFile → Failure → Type 0
ClassesFail headers [] failure = ⊥
ClassesFail headers (class ∷ classes) failure =
    MethodsFail headers class class.methods (header_of class).methods failure
    ⊎ (((typed : List (Option (List Frame))) × AreTypedMethods headers class class.methods typed)
    × ClassesFail headers classes failure)

-- ---- what verification answers

abbrev pub failure_of : Name → Member → ℕ → TypeRule → Failure
failure_of class method offset rule =
    record { class = class; method = method; offset = offset; rule = rule }

-- of a method, which is this member of its class's header
abbrev pub MethodVerifies :
    Option Scope → Header → Member → Result (List Frame) VerifyFault → Type 0
MethodVerifies scope header member (Ok frames) = TypesMethod scope (Some frames)
MethodVerifies scope header member (Err (faults.Unverified class method offset rule)) =
    MethodFails scope header member (failure_of class method offset rule)
MethodVerifies scope header member (Err faults.NoMemory) = Unit {0}

-- of the method at its numbers
abbrev pub VerifiesAs : Classes → MethodAt → Result (List Frame) VerifyFault → Type 0
VerifiesAs classes at result =
    (s : Scope) (member : Member)
    → scope_at classes at ≡ Some s
    → slice_get (header_of s.class).methods at.method ≡ Some member
    → MethodVerifies (Some s) (header_of s.class) member result

-- of a folder
abbrev pub FolderVerifies : Classes → Result FolderFrames VerifyFault → Type 0
FolderVerifies classes (Ok typed) = TypesFolder classes typed
FolderVerifies classes (Err (faults.Unverified class method offset rule)) =
    ClassesFail (headers_of classes) classes.folder (failure_of class method offset rule)
FolderVerifies classes (Err faults.NoMemory) = Unit {0}

-- of a folder, whose frames are not kept
abbrev pub FolderIsTyped : Classes → Result Unit VerifyFault → Type 0
FolderIsTyped classes (Ok done) = (typed : FolderFrames) × TypesFolder classes typed
FolderIsTyped classes (Err (faults.Unverified class method offset rule)) =
    ClassesFail (headers_of classes) classes.folder (failure_of class method offset rule)
FolderIsTyped classes (Err faults.NoMemory) = Unit {0}

-- ---- a folder, class by class

-- frames of the first so many classes type them
abbrev pub TypesFirst : Classes → ℕ → FolderFrames → Type 0
TypesFirst classes count typed =
    AreTypedClasses (headers_of classes) (take count classes.folder) typed

-- frames type the first so many classes
abbrev pub AreFirstTyped : Classes → ℕ → Type 0
AreFirstTyped classes count = (typed : FolderFrames) × TypesFirst classes count typed

-- what verifying the first so many classes answers: these are their frames, or the folder fails first in one of them
abbrev pub FirstVerify : Classes → ℕ → FolderFrames → Result Unit VerifyFault → Type 0
FirstVerify classes count typed (Ok done) = TypesFirst classes count typed
FirstVerify classes count typed (Err fault) = FolderVerifies classes (Err fault)

-- the same, where their frames are not kept
abbrev pub FirstAreTyped : Classes → ℕ → Result Unit VerifyFault → Type 0
FirstAreTyped classes count (Ok done) = AreFirstTyped classes count
FirstAreTyped classes count (Err fault) = FolderIsTyped classes (Err fault)
