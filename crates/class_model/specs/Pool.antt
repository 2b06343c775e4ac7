-- The constant pool as a list by index (JVM Specification SE 8, 4.4). Index 0 has no constant, nor has the
-- second index of a long or double (4.4.5).
use Rattle.std.specs.Prelude.{◌≡◌, ℕ, ◌≤◌, List, [], ◌∷◌, length, slice_get, Option, Some, None}
use Rattle.std.specs.List.{flat_map}
use Rattle.class_model.specs.declared.pool.Const.{Const}
use Rattle.class_model.specs.declared.pool.Const.TheVariants.{Utf8, Integer, Float, Long, Double, Class, String, Fieldref, Methodref, InterfaceMethodref, NameAndType, MethodHandle, MethodType, InvokeDynamic}

-- the constants by index
abbrev pub Constants : Type 0
Constants = List (Option Const)

-- the entries of one constant
abbrev pub entries_of : Const → Constants
entries_of (Long number) = Some (Long number) ∷ None ∷ []
entries_of (Double bits) = Some (Double bits) ∷ None ∷ []
entries_of (Utf8 text) = Some (Utf8 text) ∷ []
entries_of (Integer number) = Some (Integer number) ∷ []
entries_of (Float bits) = Some (Float bits) ∷ []
entries_of (Class name) = Some (Class name) ∷ []
entries_of (String text) = Some (String text) ∷ []
entries_of (Fieldref class member) = Some (Fieldref class member) ∷ []
entries_of (Methodref class member) = Some (Methodref class member) ∷ []
entries_of (InterfaceMethodref class member) = Some (InterfaceMethodref class member) ∷ []
entries_of (NameAndType name descriptor) = Some (NameAndType name descriptor) ∷ []
entries_of (MethodHandle kind reference) = Some (MethodHandle kind reference) ∷ []
entries_of (MethodType descriptor) = Some (MethodType descriptor) ∷ []
entries_of (InvokeDynamic bootstrap member) = Some (InvokeDynamic bootstrap member) ∷ []

-- the entries of constants one after the other behind index 0, at most as many as two bytes count
pub record IsPool (pool : Constants) : Type 0 where
  pub constants : List Const
  pub all : pool ≡ None ∷ flat_map entries_of constants
  pub count : length pool ≤ 65535

abbrev join : Option (Option Const) → Option Const
join None = None
join (Some entry) = entry

-- the constant that an index names, if it names one
abbrev pub constant_at : Constants → ℕ → Option Const
constant_at pool index = join (slice_get pool index)
