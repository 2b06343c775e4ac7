-- What is judged of a class of the folder, by what is judged of its superclass.
use Rattle.std.proofs.Common.{IfSome, List, None, Option, Some, ap, arith, get_or-set_other, get_or-set_same, inl, inr, length, map, option_map, refl, slice_get, slice_set, subst, sym, ℕ, ◌++◌, ◌<◌, ◌∙◌, ◌≡◌, ◌≢◌, ◌≤◌}
use Rattle.std.proofs.lemmas.List.{length-map}
use Rattle.std.proofs.lemmas.Option.{get_or_from_slice_get, same_Some, slice_get-get_or, slice_get-map, slice_get_cases, slice_get_past, slice_get_within}
use Rattle.std.proofs.Math.ListN.{length-set}
use Rattle.std.proofs.lemmas.Bool.{cases_eq}
use Rattle.class_model.specs.Header.{header_of}
use Rattle.class_model.specs.Laws.Lists.{none_behind}
use Rattle.class_model.specs.declared.class_file.ClassFile.{ClassFile}
use Rattle.class_model.specs.declared.header.Header.{Header}
use Rattle.class_tree.specs.Headers.{Classes, Headers, Name, class_named, headers_of, named}
use Rattle.class_tree.specs.Hierarchy.{IsHierarchy}
use Rattle.class_tree.specs.Names.{object}
use Rattle.class_tree.specs.Order.{place_of}
use Rattle.class_tree.specs.declared.place.Place.{Place}
use Rattle.class_tree.specs.declared.place.Place.TheVariants.{Folder}
use Rattle.expanded_code.specs.Laws.SuperChains.{has_superclass}
use Rattle.inline_expand.proofs.FolderNames.{in_folder_at, of_folder}
use Rattle.inline_expand.proofs.SoundClasses.{fields_are, sound_above, sound_fit, sound_free, sound_narrow, there_judged}
use Rattle.inline_expand.specs.Inner.CandidateWords.{AreKept, IsFileOf, IsFitAt, IsJudged, IsKept, IsSound, own_descs, units_of_all}
use Rattle.inline_expand.specs.declared.candidates.Judged.{Judged}
use Rattle.field_constructors.specs.Constructors.{field_descs}
use Rattle.member_link.specs.FieldConstructors.{HasFieldConstructor}

-- the class of a name stands in the folder
pub number_within : (classes : Classes) → IsHierarchy (headers_of classes) → (name : Name) (number : ℕ) → place_of (headers_of classes) name ≡ Some (Folder number) → number < length classes.folder
number_within classes hierarchy name number placed =
    let stands = hierarchy.placed name (Folder number) placed in
    let within = slice_get_within (map header_of classes.folder) number stands.0 stands.1.at in
    omega (arith, within, length-map classes.folder header_of)

-- what is judged of the superclass is that it is sound, and its fields are these
abbrev pub IsAboveSound : Classes → Name → List (List ℕ) → Type 0
IsAboveSound classes name above =
    (header : Header) (super : Name) → class_named (headers_of classes) name ≡ Some header → name ≢ object → header.super_name ≡ Some super → IsJudged classes super (Some above)

module _ (classes : Classes) (hierarchy : IsHierarchy (headers_of classes)) (outside : (header : Header) → named object (headers_of classes).folder ≡ Some header → ⊥)
    (name : Name) (number : ℕ) (placed : place_of (headers_of classes) name ≡ Some (Folder number))
    (file : ClassFile) (there : slice_get classes.folder number ≡ Some file) where
  pub header_named : named name (headers_of classes).folder ≡ Some (header_of file)
  header_named = in_folder_at (headers_of classes) name (Some (Folder number)) placed ∙ slice_get-map header_of classes.folder number ∙ ap (option_map header_of) there

  found : class_named (headers_of classes) name ≡ Some (header_of file)
  found = of_folder (headers_of classes) name (header_of file) header_named

  differ : name ≢ object
  differ same = outside (header_of file) (subst (λ (n : Name). named n (headers_of classes).folder ≡ Some (header_of file)) same header_named)

  up : (super : Name) × ((header_of file).super_name ≡ Some super)
  up = has_superclass (headers_of classes) hierarchy name (header_of file) found differ

  at : IsFileOf classes name number file
  at = record { placed = placed; there = there }

  -- the superclass is not sound
  pub not_above : ((header : Header) (super : Name) → class_named (headers_of classes) name ≡ Some header → name ≢ object → header.super_name ≡ Some super → ¬ IsSound classes super) → ¬ IsSound classes name
  not_above no_super sound = no_super (header_of file) up.0 found differ up.1 (sound_above classes hierarchy outside name up.0 (header_of file) header_named up.1 sound)

  module _ (above fields : List (List ℕ)) (judged : IsAboveSound classes name above) (are : fields ≡ above ++ own_descs (header_of file)) where
    super_judged : IsSound classes up.0 × (above ≡ field_descs (headers_of classes) up.0)
    super_judged = judged (header_of file) up.0 found differ up.1

    pub all_fields : fields ≡ field_descs (headers_of classes) name
    all_fields = fields_are classes hierarchy outside name up.0 (header_of file) header_named up.1 number file at above fields super_judged.1 are

    pub not_fit : ¬ IsFitAt classes name number file → ¬ IsSound classes name
    not_fit never sound = never (sound_fit classes hierarchy outside name up.0 (header_of file) header_named up.1 number file at above fields super_judged.1 are sound)

    pub not_narrow : ¬ (units_of_all fields ≤ 64) → ¬ IsSound classes name
    not_narrow never sound = never (sound_narrow classes hierarchy outside name up.0 (header_of file) header_named up.1 number file at above fields super_judged.1 are sound)

    pub not_free : ¬ HasFieldConstructor classes name → ¬ IsSound classes name
    not_free never sound = never (sound_free classes hierarchy outside name up.0 (header_of file) header_named up.1 number file at above fields super_judged.1 are sound)

    pub sound_there : IsFitAt classes name number file → units_of_all fields ≤ 64 → HasFieldConstructor classes name → IsJudged classes name (Some fields)
    sound_there fit narrow free = there_judged classes hierarchy outside name up.0 (header_of file) header_named up.1 number file at above fields super_judged.1 are super_judged.0 fit narrow free

-- a class file of the folder
pub file_there : (files : List ClassFile) (number : ℕ) → number < length files → (file : ClassFile) × (slice_get files number ≡ Some file)
file_there files number within = elim (slice_get_cases files number).1 [
  | inl here ↦ (here.0, here.2)
  | inr behind ↦ absurd (omega (arith, within, behind.0))
]

-- one name stands at a place
pub one_name : (headers : Headers) → IsHierarchy headers → (one other : Name) (place : Place) → place_of headers one ≡ Some place → place_of headers other ≡ Some place → one ≡ other
one_name headers hierarchy one other place is also =
    let first = hierarchy.placed one place is in
    let second = hierarchy.placed other place also in
    sym first.1.own_name ∙ ap (λ (h : Header). h.name) (same_Some first.0 second.0 (sym first.1.at ∙ second.1.at)) ∙ second.1.own_name

-- what is kept, with one more
pub kept_more : (classes : Classes) (judged : List Judged) (number : ℕ) (one : Judged) → number < length judged → AreKept classes judged
    → ((name : Name) → place_of (headers_of classes) name ≡ Some (Folder number) → IsKept classes name one)
    → AreKept classes (slice_set judged number one)
kept_more classes judged number one within kept here = λ name other placed. elim (cases_eq other number) [
  | inl same ↦
      let at : slice_get (slice_set judged number one) number ≡ Some one =
      slice_get-get_or (slice_set judged number one) number one (let long = length-set judged number one in omega (arith, long, within)) ∙ ap Some (get_or-set_same judged number one one within) in
      subst (λ (n : ℕ). IfSome (slice_get (slice_set judged number one) n) (IsKept classes name)) (sym same)
      (subst (λ (o : Option Judged). IfSome o (IsKept classes name)) (sym at) (here name (subst (λ (n : ℕ). place_of (headers_of classes) name ≡ Some (Folder n)) same placed)))
  | inr differ ↦ by name other differ placed (slice_get judged other) refl (kept name other placed)
] where
  by : (name : Name) (other : ℕ) → other ≢ number → place_of (headers_of classes) name ≡ Some (Folder other) → (found : Option Judged) → slice_get judged other ≡ found → IfSome found (IsKept classes name)
      → IfSome (slice_get (slice_set judged number one) other) (IsKept classes name)
  by name other differ placed None none was =
      let behind = none_behind judged other none in
      let long = length-set judged number one in
      let none' : slice_get (slice_set judged number one) other ≡ None = slice_get_past (slice_set judged number one) other (omega (arith, behind, long)) in
      subst (λ (o : Option Judged). IfSome o (IsKept classes name)) (sym none') tt
  by name other differ placed (Some found) is was =
      let low = slice_get_within judged other found is in
      let long = length-set judged number one in
      let at : slice_get (slice_set judged number one) other ≡ Some found =
      slice_get-get_or (slice_set judged number one) other found (omega (arith, low, long)) ∙ ap Some (get_or-set_other judged number other one found differ ∙ get_or_from_slice_get judged other found found is) in
      subst (λ (o : Option Judged). IfSome o (IsKept classes name)) (sym at) was
