-- The method that a class begins with is a class initialiser.
use Rattle.std.proofs.Common.{◌≡◌, ℕ, zero, suc, Bool, true, false, List, [], ◌∷◌, slice_get, bytes_eq, codes, Option, Some, None, is_some, option_map, if◌then◌else◌, refl, sym, ap, ◌∙◌}
use Rattle.std.proofs.lemmas.Bool.{and_parts}
use Rattle.std.proofs.lemmas.Option.{none-some, same_Some}
use Rattle.std.proofs.lemmas.Slice.Eq.{bytes_eq-Decides}
use Rattle.class_model.specs.Names.{clinit}
use Rattle.class_model.specs.declared.class_file.MethodAt.{MethodAt}
use Rattle.member_link.specs.Machine.Beginnings.{initialiser_of}
use Rattle.member_link.specs.Machine.Performing.{is_initialiser}
use Rattle.member_link.specs.Machine.Programs.{Program, RunClass, RunMethod, code_at, folder_number, member_of, name_of_class, number_of_first, place_of_method, run_method}
use Rattle.member_link.specs.References.{Reference}

abbrev is_method : Reference → RunMethod → Bool
is_method r method = member_of r method.member

-- the first that a test passes is there, and passes it
first_passes : {A : Type 0} (passes : A → Bool) (items : List A) (number : ℕ) (item : A) → number_of_first passes items ≡ Some number
    → slice_get items number ≡ Some item
    → passes item ≡ true
first_passes passes [] number item is there = absurd (none-some number is)
first_passes {A} passes (first ∷ items) number item is there = by (passes first) refl (number_of_first passes items) refl is
    (λ later. first_passes passes items later item) where
      by : (b : Bool) → passes first ≡ b → (found : Option ℕ) → number_of_first passes items ≡ found
          → (if b then Some zero else option_map suc (number_of_first passes items)) ≡ Some number
          → ((later : ℕ) → number_of_first passes items ≡ Some later → slice_get items later ≡ Some item → passes item ≡ true)
          → passes item ≡ true
      by true e found e_found here rest =
          let zero_is : zero ≡ number = same_Some zero number here in
          let same_one : first ≡ item = same_Some first item (ap (slice_get (first ∷ items)) zero_is ∙ there) in
          ap passes (sym same_one) ∙ e
      by false e None e_found here rest =
          let none : option_map suc (number_of_first passes items) ≡ None = rw (e_found) refl in
          absurd (none-some number (sym none ∙ here))
      by false e (Some later) e_found here rest =
          let number_is : suc later ≡ number = same_Some (suc later) number (sym (rw (e_found) refl) ∙ here) in
          rest later e_found (ap (slice_get (first ∷ items)) number_is ∙ there)

-- the method of a place has the name that was sought
place_named : (P : Program) (r : Reference) (at : MethodAt) (method : RunMethod) → place_of_method P r ≡ Some at
    → run_method P at ≡ Some method
    → bytes_eq r.name method.member.name ≡ true
place_named P r at method is there = by (folder_number P r.class) refl where
  by : (found : Option ℕ) → folder_number P r.class ≡ found → bytes_eq r.name method.member.name ≡ true
  by None where_ = absurd (none-some at (sym (rw (where_) refl) ∙ is))
  by (Some number) where_ = in_class (slice_get P.classes number) refl where
    in_class : (class : Option RunClass) → slice_get P.classes number ≡ class → bytes_eq r.name method.member.name ≡ true
    in_class None here = absurd (none-some at (sym (rw (where_, here) refl) ∙ is))
    in_class (Some class) here = found (number_of_first (is_method r) class.methods) refl where
      found : (at_number : Option ℕ) → number_of_first (is_method r) class.methods ≡ at_number → bytes_eq r.name method.member.name ≡ true
      found None e = absurd (none-some at (sym (rw (where_, here, e) refl) ∙ is))
      found (Some one) e =
          let place : record { class = number; method = one }
          ≡ at = same_Some (record { class = number; method = one }) at (sym (rw (where_, here, e) refl) ∙ is) in
          let ran : run_method P (record { class = number; method = one }) ≡ Some method = ap (run_method P) place ∙ there in
          let listed : slice_get class.methods one ≡ Some method = sym (rw (here) refl) ∙ ran in
          let passed = first_passes (is_method r) class.methods one method e listed in
          (and_parts (bytes_eq r.name method.member.name) (bytes_eq r.desc method.member.desc) passed).0

-- the method that a class begins with is an initialiser
pub initialiser_named : (P : Program) (class : ℕ) (at : MethodAt) (method : RunMethod) → initialiser_of P class ≡ Some at
    → run_method P at ≡ Some method
    → is_initialiser method ≡ true
initialiser_named P class at method is there =
    (bytes_eq-Decides method.member.name clinit).1
    (sym ((bytes_eq-Decides clinit method.member.name).0 (place_named P r at method (by (place_of_method P r) refl) there))) where
      r : Reference
      r = record { class = name_of_class P class; name = clinit; desc = codes "()V" }

      by : (place : Option MethodAt) → place_of_method P r ≡ place → place_of_method P r ≡ Some at
      by None none = absurd (none-some at (sym (rw (none) refl) ∙ is))
      by (Some place) found = coded (is_some (code_at P place)) refl where
        coded : (b : Bool) → is_some (code_at P place) ≡ b → place_of_method P r ≡ Some at
        coded false e = absurd (none-some at (sym (rw (found, e) refl) ∙ is))
        coded true e = found ∙ sym (rw (found, e) refl) ∙ is
