-- The first refused file of a command is one.
use Rattle.std.proofs.Common.{◌≡◌, sym, subst}
use Rattle.host_tree.specs.Host.{Bytes, Folder}
use Rattle.pea_top.specs.Answer.{Refusal, IsRefusedClass, IsRefusedHeader, IsRefused, IsFirstRefused, IsFirstOf, of_input, of_library}
use Rattle.pea_top.proofs.FolderNames.{one_name}

-- bytes are refused for one thing
pub record IsOneRefusal (Refused : Bytes → Refusal → Type 0) : Type 0 where
  pub one : (bytes : Bytes) (why other : Refusal) → Refused bytes why → Refused bytes other → why ≡ other

module _ {Refused : Bytes → Refusal → Type 0} (law : IsOneRefusal Refused) (folder : Folder) where
  -- a file is refused for one thing
  one_file : (name : Bytes) (why other : Refusal) → IsRefused Refused folder name why → IsRefused Refused folder name other → why ≡ other
  one_file name why other h i =
      let same : i.bytes ≡ h.bytes = cc (h.there, i.there) in
      law.one h.bytes why other h.refused (subst (λ (bytes : Bytes). Refused bytes other) same i.refused)

  -- a folder has one first file that is refused
  one_first : (name other_name : Bytes) (why other_why : Refusal) → IsFirstRefused Refused folder name why → IsFirstRefused Refused folder other_name other_why → (name ≡ other_name) × (why ≡ other_why)
  one_first name other_name why other_why h i =
      let same = one_name name other_name (λ before. i.none_before name before why h.refused) (λ before. h.none_before other_name before other_why i.refused) in
      (same, one_file name why other_why h.refused (subst (λ (n : Bytes). IsRefused Refused folder n other_why) (sym same) i.refused))

-- the first refused file of an input and a library is one
pub one_first_of : IsOneRefusal IsRefusedClass → IsOneRefusal IsRefusedHeader → (input library : Folder) (name other_name : Bytes) (why other_why : Refusal)
    → IsFirstOf input library name why → IsFirstOf input library other_name other_why → (name ≡ other_name) × (why ≡ other_why)
one_first_of classes headers input library name other_name why other_why (of_input h) (of_input i) = one_first classes input name other_name why other_why h i
one_first_of classes headers input library name other_name why other_why (of_input h) (of_library none i) = absurd (none name why h.refused)
one_first_of classes headers input library name other_name why other_why (of_library none h) (of_input i) = absurd (none other_name other_why i.refused)
one_first_of classes headers input library name other_name why other_why (of_library _ h) (of_library _ i) = one_first headers library name other_name why other_why h i
