-- What the class files of a folder are read as.
use Rattle.std.proofs.Common.{◌≡◌, ◌⊎◌, ℕ, ◌<◌, Bool, true, false, List, ◌∷◌, cond, bytes_eq, Some, is_some, IsTrue, inl, inr, refl, ap, ◌∙◌, subst, arith}
use Rattle.std.proofs.lemmas.Slice.Eq.{bytes_eq-Decides}
use Rattle.host_tree.specs.Host.{Bytes, Folder, times}
use Rattle.host_tree.specs.Laws.Names.{times-cons}
use Rattle.pea_top.specs.Answer.{Refusal, NoneRefused}
use Rattle.pea_top.specs.Folders.{AreReadAs, no_name, class_file, other_file, HasClassFiles, names_class_file}
use Rattle.pea_top.proofs.FolderNames.{one_list_of_names}

-- bytes are read as one value
pub record IsOneOf {X : Type 0} (Of : Bytes → X → Type 0) : Type 0 where
  pub one : (bytes : Bytes) (value other : X) → Of bytes value → Of bytes other → value ≡ other

-- where bytes are read as one value, the class files among names are read as one list of values
one_reading : {X : Type 0} {Of : Bytes → X → Type 0} {folder : Folder} {names : List Bytes} {values others : List X} → IsOneOf Of → AreReadAs Of folder names values → AreReadAs Of folder names others → values ≡ others
one_reading law no_name no_name = refl
one_reading {Of = Of} law (class_file name bytes names value values named there of rest) (class_file _ other_bytes _ other others _ other_there other_of other_rest) =
    let same : other_bytes ≡ bytes = cc (there, other_there) in
    let first : value ≡ other = law.one bytes value other of (subst (λ (b : Bytes). Of b other) same other_of) in
    cc (first, one_reading law rest other_rest)
one_reading law (class_file name bytes names value values named there of rest) (other_file _ _ others not_named other_rest) = absurd (not_named named)
one_reading law (other_file name names values not_named rest) (class_file _ bytes _ other others named there of other_rest) = absurd (not_named named)
one_reading law (other_file name names values not_named rest) (other_file _ _ others _ other_rest) = one_reading law rest other_rest

pub one_list_of_values : {X : Type 0} {Of : Bytes → X → Type 0} {folder : Folder} {values others : List X} → IsOneOf Of → HasClassFiles Of folder values → HasClassFiles Of folder others → values ≡ others
one_list_of_values {X} {Of} {folder} {values} {others} law h i =
    let names = one_list_of_names folder i.names h.names i.are_names h.are_names in
    one_reading law h.are_read (subst (λ (list : List Bytes). AreReadAs Of folder list others) names i.are_read)

-- a name that stands in a list is the first, or stands behind it
first_or_behind : (name first : Bytes) (names : List Bytes) → 0 < times name (first ∷ names) → (name ≡ first) ⊎ (0 < times name names)
first_or_behind name first names some = by (bytes_eq name first) refl
  where
    by : (same : Bool) → bytes_eq name first ≡ same → (name ≡ first) ⊎ (0 < times name names)
    by true e = inl ((bytes_eq-Decides name first).0 e)
    by false e = inr (omega (arith, some, times-cons name first names, ap {B = ℕ} (λ b. cond b 1 0) e))

-- a class file among names that are read is read as some value
module _ {X : Type 0} (Of : Bytes → X → Type 0) (folder : Folder) (name bytes : Bytes) (named : IsTrue (names_class_file name)) (there : folder name ≡ Some bytes) where
  some_value : {names : List Bytes} {values : List X} → AreReadAs Of folder names values → 0 < times name names → (value : X) × Of bytes value
  some_value no_name some = absurd (omega arith)
  some_value (class_file first its_bytes names value values _ its_there of rest) some =
      elim (first_or_behind name first names some) [
        | inl is ↦
            let same : its_bytes ≡ bytes = cc (is, there, its_there) in
            (value, subst (λ (b : Bytes). Of b value) same of)
        | inr behind ↦ some_value rest behind
      ]
  some_value (other_file first names values not_named rest) some =
      elim (first_or_behind name first names some) [
        | inl is ↦ absurd (not_named (subst (λ (n : Bytes). IsTrue (names_class_file n)) is named))
        | inr behind ↦ some_value rest behind
      ]

-- where bytes that are read are not refused, no file of a folder that is read is refused
pub none_refused : {X : Type 0} {Of : Bytes → X → Type 0} {folder : Folder} {values : List X} → (Refused : Bytes → Refusal → Type 0) → ((bytes : Bytes) (value : X) (why : Refusal) → Of bytes value → ¬ Refused bytes why)
    → HasClassFiles Of folder values → NoneRefused Refused folder
none_refused {X} {Of} {folder} Refused apart h name why refused =
    let once : times name h.names ≡ 1 = h.are_names.once name ∙ ap {B = ℕ} (λ o. cond (is_some o) 1 0) refused.there in
    let read = some_value Of folder name refused.bytes refused.named refused.there h.are_read (omega (arith, once)) in
    apart refused.bytes read.0 why read.1 refused.refused
