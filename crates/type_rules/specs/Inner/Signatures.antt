-- The constants whose descriptors are read.
use Rattle.std.specs.Prelude.{◌⊎◌, ℕ, List, Option, Some}
use Rattle.class_model.specs.PoolChecks.{IsFieldDescriptor, IsMethodDescriptor}
use Rattle.class_model.specs.declared.pool.Const.{Const}
use Rattle.class_model.specs.declared.pool.Const.TheVariants.{Methodref, InterfaceMethodref}

-- a method of a class or of an interface
abbrev pub IsCallable : Option Const → Type 0
IsCallable (Some (Methodref class member)) = Unit {0}
IsCallable (Some (InterfaceMethodref class member)) = Unit {0}
IsCallable other = ⊥

-- what stands beside a name in a class file
abbrev pub IsMemberDescriptor : List ℕ → Type 0
IsMemberDescriptor text = IsFieldDescriptor text ⊎ IsMethodDescriptor text
