-- Classes that are alike: they have the same names, name the same classes above them, and declare the same members, but for
-- the flags of fields, which no look-up reads, and for instance initialisers behind the other methods, which are found in the
-- named class alone (JVM Specification SE 8, 5.4.3.2 and 5.4.3.3).
use Rattle.std.specs.Prelude.{◌≡◌, List, [], ◌∷◌, ◌++◌}
use Rattle.std.specs.List.{AllByRecursion}
use Rattle.class_model.specs.Names.{init}
use Rattle.class_model.specs.declared.header.Header.{Header}
use Rattle.class_model.specs.declared.header.Member.{Member}
use Rattle.class_tree.specs.Headers.{Headers}

-- fields of one name and descriptor
pub record IsFieldAlike (one other : Member) : Type 0 where
  pub same_name : other.name ≡ one.name
  pub same_desc : other.desc ≡ one.desc

abbrev pub AreFieldsAlike : List Member → List Member → Type 0
AreFieldsAlike [] [] = Unit {0}
AreFieldsAlike (one ∷ ones) (other ∷ others) = IsFieldAlike one other × AreFieldsAlike ones others
AreFieldsAlike ones others = ⊥

-- The other class may have more instance initialisers.
pub record IsAlike (one other : Header) : Type 0 where
  pub same_name : other.name ≡ one.name
  pub same_flags : other.flags ≡ one.flags
  pub same_super : other.super_name ≡ one.super_name
  pub same_interfaces : other.interfaces ≡ one.interfaces
  pub fields : AreFieldsAlike one.fields other.fields
  pub added : List Member
  pub methods : other.methods ≡ one.methods ++ added
  pub initialisers : AllByRecursion (λ method. method.name ≡ init) added

abbrev pub AreAllAlike : List Header → List Header → Type 0
AreAllAlike [] [] = Unit {0}
AreAllAlike (one ∷ ones) (other ∷ others) = IsAlike one other × AreAllAlike ones others
AreAllAlike ones others = ⊥

-- those of a folder and of its library, one by one
pub record AreAlike (one other : Headers) : Type 0 where
  pub folder : AreAllAlike one.folder other.folder
  pub library : AreAllAlike one.library other.library
