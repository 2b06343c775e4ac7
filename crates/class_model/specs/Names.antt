-- Names of classes, fields and methods (JVM Specification SE 8, 4.2.1 and 4.2.2), over the bytes of a text.
use Rattle.std.specs.Prelude.{◌≡◌, ◌≢◌, ◌⊎◌, ℕ, List, [], ◌∷◌, codes}
use Rattle.std.specs.List.{AllByRecursion, join_with_byte}
use Rattle.class_model.specs.Characters.{dot, slash, semicolon, less_sign, greater_sign, left_bracket}

-- A byte of an unqualified name is none of . ; [ and /
pub record IsNameByte (byte : ℕ) : Type 0 where
  pub no_dot : byte ≢ dot
  pub no_slash : byte ≢ slash
  pub no_semicolon : byte ≢ semicolon
  pub no_bracket : byte ≢ left_bracket

-- An unqualified name is one such byte or more.
pub record IsUnqualifiedName (name : List ℕ) : Type 0 where
  pub some : name ≢ []
  pub bytes : AllByRecursion IsNameByte name

-- A class name, in internal form, is one or more unqualified names joined by slashes.
pub record IsClassName (name : List ℕ) : Type 0 where
  pub parts : List (List ℕ)
  pub some : parts ≢ []
  pub unqualified : AllByRecursion IsUnqualifiedName parts
  pub joined : name ≡ join_with_byte slash parts

-- a byte is neither < nor >
pub record IsNoAngle (byte : ℕ) : Type 0 where
  pub no_less : byte ≢ less_sign
  pub no_greater : byte ≢ greater_sign

-- the names of instance and of class initialisers (2.9)
abbrev pub init : List ℕ
init = codes "<init>"

abbrev pub clinit : List ℕ
clinit = codes "<clinit>"

-- the name of a method that is no initialiser
pub record IsPlainMethodName (name : List ℕ) : Type 0 where
  pub unqualified : IsUnqualifiedName name
  pub no_angles : AllByRecursion IsNoAngle name

-- A method's name has no < or >, but for the names of initialisers.
abbrev pub IsMethodName : List ℕ → Type 0
IsMethodName name = (name ≡ init) ⊎ ((name ≡ clinit) ⊎ IsPlainMethodName name)

-- the first byte is not <
abbrev pub BeginsOtherwise : List ℕ → Type 0
BeginsOtherwise [] = Unit {0}
BeginsOtherwise (first ∷ rest) = first ≢ less_sign

-- A field's name; this project's profile refuses one that begins with <.
pub record IsFieldName (name : List ℕ) : Type 0 where
  pub unqualified : IsUnqualifiedName name
  pub otherwise : BeginsOtherwise name
