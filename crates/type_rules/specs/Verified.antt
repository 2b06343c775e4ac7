-- What it means that a folder verifies.
use Rattle.std.specs.Prelude.{List, [], ◌∷◌, Option, Some, None}
use Rattle.class_model.specs.declared.class_file.ClassFile.{ClassFile}
use Rattle.class_model.specs.declared.class_file.Method.{Method}
use Rattle.class_model.specs.declared.frame.Frame.{Frame}
use Rattle.class_tree.specs.Headers.{Classes, Headers, headers_of}
use Rattle.class_tree.specs.Trees.{IsTree}
use Rattle.flow_code.specs.TypedFrames.{FolderFrames}
use Rattle.member_link.specs.Linked.{IsLinked}
use Rattle.member_link.specs.Scope.{Scope, scope_of}
use Rattle.type_rules.specs.Typed.{Typed}

-- the frames of a method with code type it, and one without has none
abbrev pub TypesMethod : Option Scope → Option (List Frame) → Type 0
TypesMethod (Some s) (Some frames) = Typed s frames
TypesMethod None None = Unit {0}
TypesMethod scope frames = ⊥

-- the methods of a class
abbrev pub AreTypedMethods : Headers → ClassFile → List Method → List (Option (List Frame)) → Type 0
AreTypedMethods headers class [] [] = Unit {0}
AreTypedMethods headers class (method ∷ methods) (frames ∷ others) =
    TypesMethod (scope_of headers class method) frames
    × AreTypedMethods headers class methods others
AreTypedMethods headers class methods typed = ⊥

-- the classes of a folder
abbrev pub AreTypedClasses : Headers → List ClassFile → FolderFrames → Type 0
AreTypedClasses headers [] [] = Unit {0}
AreTypedClasses headers (class ∷ classes) (typed ∷ others) =
    AreTypedMethods headers class class.methods typed × AreTypedClasses headers classes others
AreTypedClasses headers classes typed = ⊥

-- the frames type each method of the folder
abbrev pub TypesFolder : Classes → FolderFrames → Type 0
TypesFolder classes typed = AreTypedClasses (headers_of classes) classes.folder typed

-- a folder that verifies: with its library it is a hierarchy and linked, and frames type its methods
pub record IsVerified (classes : Classes) : Type 0 where
  pub tree : IsTree classes
  pub linked : IsLinked classes
  pub typed : FolderFrames
  pub types : TypesFolder classes typed
