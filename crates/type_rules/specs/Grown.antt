-- Classes that have grown as those of a written folder have: flags of private and final may be cleared of their fields, public instance
-- initialisers may be added behind their methods, and their constant pools may have more constants at the end. All else that look-up,
-- linking, typing and running read of them is as it was. It is this project's profile.
use Rattle.std.specs.Prelude.{◌≡◌, ℕ, suc, List, [], ◌∷◌, ◌++◌, Some, None, IsTrue, IsFalse}
use Rattle.std.specs.List.{AllByRecursion}
use Rattle.class_model.specs.Header.{header_of, method_member}
use Rattle.class_model.specs.Members.{has, PUBLIC, PROTECTED}
use Rattle.class_model.specs.Names.{init}
use Rattle.class_model.specs.Pool.{Constants}
use Rattle.class_model.specs.declared.class_file.ClassFile.{ClassFile}
use Rattle.class_model.specs.declared.class_file.Field.{Field}
use Rattle.class_model.specs.declared.class_file.Method.{Method}
use Rattle.class_model.specs.declared.header.Header.{Header}
use Rattle.class_model.specs.declared.header.Member.{Member}
use Rattle.class_tree.specs.Alike.{IsAlike}
use Rattle.class_tree.specs.Headers.{Classes, Headers, class_named}
use Rattle.member_link.specs.Bodies.{Body, BodyPoint}
use Rattle.member_link.specs.DeclaredMembers.{Declared, declared}
use Rattle.member_link.specs.Machine.Programs.{RunClass}
use Rattle.member_link.specs.Machine.Replaced.{Replacement, without_flags}
use Rattle.member_link.specs.RowScope.{RowScope}

-- ---- headers

-- a field may have lost flags of private and final, and no others
pub record IsOpened (old new : Member) : Type 0 where
  pub cleared : ℕ
  pub flags : new.flags ≡ without_flags old.flags cleared

abbrev pub AreOpened : List Member → List Member → Type 0
AreOpened [] [] = Unit {0}
AreOpened (old ∷ olds) (new ∷ news) = IsOpened old new × AreOpened olds news
AreOpened olds news = ⊥

-- an instance initialiser that is added: public, and of a descriptor of which the class had none
pub record IsNewInitialiser (old : Header) (method : Member) : Type 0 where
  pub is_init : method.name ≡ init
  pub is_public : IsTrue (has method.flags PUBLIC)
  pub no_protected : IsFalse (has method.flags PROTECTED)
  pub undeclared : declared init method.desc old.methods ≡ None

-- Look-up sees no difference but for the initialisers that are added; more of the fields may be used.
pub record IsGrownHeader (old new : Header) : Type 0 where
  pub alike : IsAlike old new
  pub opened : AreOpened old.fields new.fields
  pub initialisers : AllByRecursion (IsNewInitialiser old) alike.added

abbrev pub AreAllGrown : List Header → List Header → Type 0
AreAllGrown [] [] = Unit {0}
AreAllGrown (old ∷ olds) (new ∷ news) = IsGrownHeader old new × AreAllGrown olds news
AreAllGrown olds news = ⊥

-- the classes of a folder, with the same library
pub record AreGrownHeaders (old new : Headers) : Type 0 where
  pub folder : AreAllGrown old.folder new.folder
  pub library : new.library ≡ old.library

-- Each method that a replacement adds to one of these classes, from the number of the first on, is one that the class may get.
abbrev pub AddsNewInitialisers : Replacement → ℕ → List RunClass → Type 0
AddsNewInitialisers r number [] = Unit {0}
AddsNewInitialisers r number (class ∷ classes) =
    AllByRecursion (λ method. IsNewInitialiser class.header method.member) (r.added number)
    × AddsNewInitialisers r (suc number) classes

-- ---- what is found

-- the same member but for flags of private and final
pub record IsSameFound (old new : Declared) : Type 0 where
  pub class : new.class ≡ old.class
  pub name : new.member.name ≡ old.member.name
  pub desc : new.member.desc ≡ old.member.desc
  pub opened : IsOpened old.member new.member

-- a method that only the grown class has: an instance initialiser
pub record IsNewFound (old : Headers) (method : Declared) : Type 0 where
  pub header : Header
  pub of_class : class_named old method.class ≡ Some header
  pub is_new : IsNewInitialiser header method.member

-- ---- what rows read

-- the classes around an instruction and the current one have grown
pub record IsGrownScope (old new : RowScope) : Type 0 where
  pub headers : AreGrownHeaders old.headers new.headers
  pub own : IsGrownHeader old.own new.own
  pub rest : new ≡ record old { headers = new.headers; own = new.own }

-- and constants are read in another pool
pub record IsGrownOver (old new : RowScope) (pool grown : Constants) : Type 0 where
  pub headers : AreGrownHeaders old.headers new.headers
  pub own : IsGrownHeader old.own new.own
  pub of_pool : old.pool ≡ pool
  pub rest : new ≡ record old { headers = new.headers; own = new.own; pool = grown }

pub record IsGrownPoint (old new : BodyPoint) : Type 0 where
  pub scope : IsGrownScope old.scope new.scope
  pub rest : new ≡ record old { scope = new.scope }

abbrev pub AreGrownPoints : List BodyPoint → List BodyPoint → Type 0
AreGrownPoints [] [] = Unit {0}
AreGrownPoints (old ∷ olds) (new ∷ news) = IsGrownPoint old new × AreGrownPoints olds news
AreGrownPoints olds news = ⊥

-- the same body among the grown classes
pub record IsGrownBody (old new : Body) : Type 0 where
  pub scope : IsGrownScope old.scope new.scope
  pub points : AreGrownPoints old.points new.points
  pub rest : new ≡ record old { scope = new.scope; points = new.points }

-- ---- class files

-- a field of the same name, descriptor and attributes
pub record IsGrownField (old new : Field) : Type 0 where
  pub cleared : ℕ
  pub rest : new ≡ record old { flags = without_flags old.flags cleared }

abbrev pub AreGrownFields : List Field → List Field → Type 0
AreGrownFields [] [] = Unit {0}
AreGrownFields (old ∷ olds) (new ∷ news) = IsGrownField old new × AreGrownFields olds news
AreGrownFields olds news = ⊥

-- a method of the same flags, name and descriptor, whatever its code
pub record IsSameMethod (old new : Method) : Type 0 where
  pub rest : new ≡ record old { attrs = new.attrs }

abbrev pub AreSameMethods : List Method → List Method → Type 0
AreSameMethods [] [] = Unit {0}
AreSameMethods (old ∷ olds) (new ∷ news) = IsSameMethod old new × AreSameMethods olds news
AreSameMethods olds news = ⊥

-- The class file has the constants of the old one at the same indices, and perhaps more behind them; its fields may have lost flags; it
-- has the same methods, perhaps with other code, and perhaps instance initialisers behind them. All else is as it was.
pub record IsGrownClass (old new : ClassFile) : Type 0 where
  pub more : Constants
  pub pool : new.pool ≡ old.pool ++ more
  pub fields : AreGrownFields old.fields new.fields
  pub kept : List Method
  pub added : List Method
  pub methods : new.methods ≡ kept ++ added
  pub same : AreSameMethods old.methods kept
  pub initialisers : AllByRecursion
      (λ method. IsNewInitialiser (header_of old) (method_member new.pool method)) added
  pub rest : new ≡ record old { pool = new.pool; fields = new.fields; methods = new.methods }

abbrev pub AreAllGrownClasses : List ClassFile → List ClassFile → Type 0
AreAllGrownClasses [] [] = Unit {0}
AreAllGrownClasses (old ∷ olds) (new ∷ news) =
    IsGrownClass old new × AreAllGrownClasses olds news
AreAllGrownClasses olds news = ⊥

-- the classes of a folder, with the same library
pub record AreGrownClasses (old new : Classes) : Type 0 where
  pub folder : AreAllGrownClasses old.folder new.folder
  pub library : new.library ≡ old.library
