-- A class of the folder that is quiet: where it begins in the folder's program, nothing runs.
use Rattle.std.specs.Prelude.{◌≡◌, ◌||◌, refl, ℕ, zero, suc, Bool, true, false, List, [], ◌∷◌, map, bytes_eq, codes, is_some, slice_get, Option, Some, None, option_map, IsTrue}
use Rattle.std.specs.List.{list_any}
use Rattle.std.proofs.Common.{ap, sym, subst, ◌∙◌}
use Rattle.std.proofs.lemmas.Option.{none-some, same_Some, slice_get-map}
use Rattle.class_model.specs.Header.{header_of, method_member}
use Rattle.class_model.specs.Names.{clinit}
use Rattle.class_model.specs.declared.class_file.ClassFile.{ClassFile}
use Rattle.class_model.specs.declared.header.Header.{Header}
use Rattle.class_model.specs.declared.header.Member.{Member}
use Rattle.class_tree.specs.Headers.{Name, Classes, class_named, headers_of, named}
use Rattle.class_tree.specs.Hierarchy.{IsHierarchy}
use Rattle.class_tree.specs.Laws.Above.{class_decides, hierarchy_is_sound, there_is_no_array}
use Rattle.expanded_code.specs.Quiet.{IsQuiet}
use Rattle.member_link.specs.Access.{IsAtOrBelow}
use Rattle.member_link.specs.Laws.FirstNumbers.{number_of_mapped}
use Rattle.member_link.specs.Machine.Beginnings.{initialiser_of}
use Rattle.member_link.specs.Machine.Classes.{program_of, run_class_of, run_method_of}
use Rattle.member_link.specs.Machine.Links.{AreLinksOf}
use Rattle.member_link.specs.Machine.Programs.{Links, RunClass, RunMethod, folder_number, member_of, name_of_class, number_of_first, place_of_method}
use Rattle.member_link.specs.References.{Reference}

-- the class initialiser that a class of a name may have
abbrev pub clinit_of : Name → Reference
clinit_of name = record { class = name; name = clinit; desc = codes "()V" }

-- a class of the folder by its number and by its name
record IsNumbered (files : List ClassFile) (name : Name) (n : ℕ) : Type 0 where
  file : ClassFile
  is : slice_get files n ≡ Some file
  found : named name (map header_of files) ≡ Some (header_of file)

number_named : (name : Name) (files : List ClassFile) (n : ℕ)
    → number_of_first (λ (file : ClassFile). bytes_eq name (header_of file).name) files ≡ Some n
    → IsNumbered files name n
number_named name [] n is = absurd (none-some n is)
number_named name (first ∷ files) n is =
    by (bytes_eq name (header_of first).name) refl (number_of_first (λ (file : ClassFile). bytes_eq name (header_of file).name) files) refl
    (λ k later. number_named name files k later) where
      by : (b : Bool) → bytes_eq name (header_of first).name ≡ b → (found : Option ℕ)
          → number_of_first (λ (file : ClassFile). bytes_eq name (header_of file).name) files ≡ found
          → ((k : ℕ) → number_of_first (λ (file : ClassFile). bytes_eq name (header_of file).name) files ≡ Some k → IsNumbered files name k)
          → IsNumbered (first ∷ files) name n
      by true e found f next =
          let here : zero ≡ n = same_Some zero n (rw e at is) in
          subst (IsNumbered (first ∷ files) name) here (record { file = first; is = refl; found = rw e refl })
      by false e None f next = absurd (none-some n (rw (e, f) at is))
      by false e (Some k) f next =
          let here : suc k ≡ n = same_Some (suc k) n (rw (e, f) at is) in
          let later = next k f in
          subst (IsNumbered (first ∷ files) name) here (record { file = later.file; is = later.is; found = rw e later.found })

or_first : (a b : Bool) → (a || b) ≡ false → a ≡ false
or_first true b is = is
or_first false b is = refl

or_second : (a b : Bool) → (a || b) ≡ false → b ≡ false
or_second true b is = absurd cc
or_second false b is = is

-- a class that declares no method of that name has no class initialiser
none_declared : (name : Name) (members : List Member) → list_any (λ (method : Member). bytes_eq clinit method.name) members ≡ false
    → number_of_first (member_of (clinit_of name)) members ≡ None
none_declared name [] none = refl
none_declared name (member ∷ members) none =
    let here = or_first (bytes_eq clinit member.name) (list_any (λ (method : Member). bytes_eq clinit method.name) members) none in
    let later =
    none_declared name members (or_second (bytes_eq clinit member.name) (list_any (λ (method : Member). bytes_eq clinit method.name) members) none) in
    rw (here, later) refl

module _ (classes : Classes) (links : Links) (hierarchy : IsHierarchy (headers_of classes)) (linked : AreLinksOf (headers_of classes) links) where
  -- no class initialiser is declared in a class at or above a quiet one
  none_above : (own name : Name) → IsQuiet (headers_of classes) own → IsAtOrBelow (headers_of classes) own name
      → place_of_method (program_of classes links) (clinit_of name) ≡ None
  none_above own name quiet above = by (folder_number (program_of classes links) name) refl where
    by : (found : Option ℕ) → folder_number (program_of classes links) name ≡ found
        → place_of_method (program_of classes links) (clinit_of name) ≡ None
    by None e = rw e refl
    by (Some n) e =
        let number =
        number_of_mapped (λ (class : RunClass). bytes_eq name class.header.name) (run_class_of links (headers_of classes)) classes.folder ∙ e in
        let numbered = number_named name classes.folder n number in
        let file = numbered.file in
        let class : slice_get (program_of classes links).classes n ≡ Some (run_class_of links (headers_of classes) file) =
        slice_get-map (run_class_of links (headers_of classes)) classes.folder n
        ∙ ap (option_map (run_class_of links (headers_of classes))) numbered.is in
        let none = quiet.no_initialiser name (header_of file) above numbered.found in
        let members = none_declared name (header_of file).methods none in
        let methods : number_of_first (λ (method : RunMethod). member_of (clinit_of name) method.member)
        (map (run_method_of links (headers_of classes) file) file.methods) ≡ None =
        sym (number_of_mapped (λ (method : RunMethod). member_of (clinit_of name) method.member) (run_method_of links (headers_of classes) file)
        file.methods)
        ∙ number_of_mapped (member_of (clinit_of name)) (method_member file.pool) file.methods ∙ members in
        rw (e, class, methods) refl

  -- so neither has one above it by its number
  pub none_declared_above : (own : Name) (header : Header) (number : ℕ)
      → class_named (headers_of classes) own ≡ Some header
      → name_of_class (program_of classes links) number ≡ own
      → IsQuiet (headers_of classes) own
      → (above : ℕ)
      → IsTrue (links.below (name_of_class (program_of classes links) number) (name_of_class (program_of classes links) above))
      → place_of_method (program_of classes links) (clinit_of (name_of_class (program_of classes links) above)) ≡ None
  none_declared_above own header number found named_so quiet above below =
      let sound = hierarchy_is_sound (headers_of classes) hierarchy in
      let name = name_of_class (program_of classes links) above in
      let sub = (linked.below own name).0 (subst (λ low. links.below low (name_of_class (program_of classes links) above) ≡ true) named_so below) in
      let flat = there_is_no_array (headers_of classes) sound hierarchy.no_array own (ap is_some found) in
      let up = (class_decides (headers_of classes) sound hierarchy.no_array own name flat).0 sub in
      none_above own name quiet up

  pub quiet_is_inert : (own : Name) (header : Header) (number : ℕ)
      → class_named (headers_of classes) own ≡ Some header
      → name_of_class (program_of classes links) number ≡ own
      → IsQuiet (headers_of classes) own
      → (above : ℕ)
      → IsTrue (links.below (name_of_class (program_of classes links) number) (name_of_class (program_of classes links) above))
      → initialiser_of (program_of classes links) above ≡ None
  quiet_is_inert own header number found named_so quiet above below =
      let none = none_declared_above own header number found named_so quiet above below in
      rw none refl
