-- The conditions of a callee, as the code decides them.
use Rattle.std.specs.Prelude.{◌≡◌, ◌≤◌, ℕ, List, [], drop, length, slice_get, Some, IsTrue, IsFalse}
use Rattle.std.specs.List.{AllByRecursion}
use Rattle.class_model.specs.Descriptors.{parameters_of}
use Rattle.class_model.specs.Members.{has, STATIC}
use Rattle.class_model.specs.Methods.{this_units}
use Rattle.class_model.specs.Names.{init}
use Rattle.class_model.specs.Pool.{constant_at}
use Rattle.class_model.specs.declared.class_file.ClassFile.{ClassFile}
use Rattle.class_model.specs.declared.frame.Frame.{Frame}
use Rattle.class_model.specs.declared.instr.Placed.{Placed}
use Rattle.class_tree.specs.Headers.{Name, Headers}
use Rattle.expanded_code.specs.Callees.{IsPlain, LeavesResult, NamesInitialiser, NamesOpen, SayAtMost, own_name}
use Rattle.expanded_code.specs.Quiet.{IsQuiet}
use Rattle.inline_expand.specs.Inner.KnownFrames.{AreWithoutThis}
use Rattle.member_link.specs.Machine.Performing.{SYNCHRONIZED}
use Rattle.member_link.specs.References.{Reference}
use Rattle.member_link.specs.Scope.{Scope, instructions, is_init, own_descriptor}
use Rattle.member_link.specs.Signatures.{reference_of}

pub record HasForm (host : ClassFile) (s : Scope) : Type 0 where
  pub version : s.class.major ≡ host.major
  pub short : length s.part.code ≤ 64
  pub no_handlers : s.part.handlers ≡ []
  pub no_monitor : IsFalse (has s.method.flags SYNCHRONIZED)

abbrev pub ArePlain : Scope → List Placed → Type 0
ArePlain s instrs = AllByRecursion (λ placed. IsPlain s placed.instr) instrs

abbrev pub NameInitialisers : Scope → List Placed → Type 0
NameInitialisers s instrs = AllByRecursion (λ placed. NamesInitialiser s placed.instr) instrs

abbrev pub ReturnAlone : List Placed → List Frame → Type 0
ReturnAlone instrs frames =
    (number : ℕ) (placed : Placed) (frame : Frame)
    → slice_get instrs number ≡ Some placed
    → slice_get frames number ≡ Some frame
    → LeavesResult placed.instr frame

pub record HasPlainCode (s : Scope) (frames : List Frame) : Type 0 where
  pub plain : ArePlain s (instructions s)
  pub special : NameInitialisers s (instructions s)
  pub returns : ReturnAlone (instructions s) frames

-- no frame has an uninitialised this, if the method is no instance initialiser
abbrev pub HasOwnThis : Scope → List Frame → Type 0
HasOwnThis s frames = IsFalse (is_init s) → AreWithoutThis frames

-- what is asked of a method's code alone, but for the version of the host's class
pub record StandsAlone (host : ClassFile) (s : Scope) (frames : List Frame) : Type 0 where
  pub form : HasForm host s
  pub plain : HasPlainCode s frames
  pub own_this : HasOwnThis s frames

-- the member that a constant refers to is named as an instance initialiser
abbrev pub IsInitialiserAt : Scope → ℕ → Type 0
IsInitialiserAt s index =
    (reference : Reference)
    → reference_of s.class.pool (constant_at s.class.pool index) ≡ Some reference
    → reference.name ≡ init

abbrev pub AreOpen : Scope → Name → List Placed → Type 0
AreOpen s host instrs = AllByRecursion (λ placed. NamesOpen s host placed.instr) instrs

abbrev pub TakesDeclared : Headers → Scope → List Frame → Type 0
TakesDeclared headers s frames =
    (first : Frame)
    → slice_get frames 0 ≡ Some first
    → SayAtMost headers (parameters_of (own_descriptor s))
    (drop (this_units s.method.flags) first.locals)

abbrev pub IsQuietIfStatic : Headers → Scope → Type 0
IsQuietIfStatic headers s = IsTrue (has s.method.flags STATIC) → IsQuiet headers (own_name s)
