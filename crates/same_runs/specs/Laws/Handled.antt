-- The library may call no instance initialiser that was added.
use Rattle.std.proofs.Common.{◌≡◌, ℕ, zero, suc, Bool, true, false, List, [], ◌∷◌, slice_get, bytes_eq, Option, Some, None, option_map, if◌then◌else◌, refl, sym, ap, ◌∙◌}
use Rattle.std.specs.List.{AllByRecursion, list_any}
use Rattle.std.proofs.lemmas.Bool.{and_parts}
use Rattle.std.proofs.lemmas.Option.{none-some, same_Some}
use Rattle.std.proofs.lemmas.Slice.Eq.{bytes_eq-Decides}
use Rattle.class_model.specs.Names.{init}
use Rattle.class_model.specs.declared.class_file.MethodAt.{MethodAt}
use Rattle.class_tree.specs.Headers.{Name}
use Rattle.machine_values.specs.Heaps.{same_constant}
use Rattle.machine_values.specs.declared.object.Constant.TheVariants.{Handle}
use Rattle.member_link.specs.Machine.Acting.{NEW_INVOKE_SPECIAL, is_handled}
use Rattle.member_link.specs.Machine.Programs.{Program, RunClass, RunMethod, folder_number, member_of, number_of_first, place_of_method}
use Rattle.member_link.specs.References.{Reference}
use Rattle.same_runs.specs.SamePrograms.{IsAdded, SameClasses, SamePrograms}
use Rattle.same_runs.specs.Laws.Methods.{is_method, no_number}
use Rattle.same_runs.specs.Laws.Programs.{SameAt, at_none, at_both, at_number, same_number}

handled_in : Name → List ℕ → List RunClass → Bool
handled_in class desc classes = list_any
    (λ (found : RunClass). list_any (same_constant (Handle NEW_INVOKE_SPECIAL class init desc)) found.handles) classes

any_handled : (P : Program) (class : Name) (desc : List ℕ) (ones others : List RunClass) → SameClasses P ones others
    → handled_in class desc others ≡ handled_in class desc ones
unfolding handled_in
any_handled P class desc [] [] same = refl
any_handled P class desc [] (other ∷ others) same = absurd same
any_handled P class desc (one ∷ ones) [] same = absurd same
any_handled P class desc (one ∷ ones) (other ∷ others) same = rw (same.0.handles, any_handled P class desc ones others same.1) refl

pub same_handled : {P Q : Program} → SamePrograms P Q → (class : Name) (desc : List ℕ) → is_handled Q class desc ≡ is_handled P class desc
unfolding handled_in
same_handled {P = P} {Q = Q} same class desc = any_handled P class desc P.classes Q.classes same.classes

-- the class of a number has the name that was sought
named_so : (name : Name) (classes : List RunClass) (number : ℕ) (class : RunClass)
    → number_of_first (λ (class : RunClass). bytes_eq name class.header.name) classes ≡ Some number
    → slice_get classes number ≡ Some class → name ≡ class.header.name
named_so name [] number class found is = absurd (none-some number found)
named_so name (first ∷ classes) number class found is = by (bytes_eq name first.header.name) refl
    (number_of_first (λ (class : RunClass). bytes_eq name class.header.name) classes) refl found
    (λ n. named_so name classes n class) where
      by : (b : Bool) → bytes_eq name first.header.name ≡ b → (later : Option ℕ)
          → number_of_first (λ (class : RunClass). bytes_eq name class.header.name) classes ≡ later
          → (if b then Some zero else option_map suc (number_of_first (λ (class : RunClass). bytes_eq name class.header.name) classes))
          ≡ Some number
          → ((n : ℕ) → number_of_first (λ (class : RunClass). bytes_eq name class.header.name) classes ≡ Some n
          → slice_get classes n ≡ Some class → name ≡ class.header.name)
          → name ≡ class.header.name
      by true e later e_later found rest =
          let here : zero ≡ number = same_Some zero number found in
          let same_one : first ≡ class = same_Some first class (ap (slice_get (first ∷ classes)) here ∙ is) in
          (bytes_eq-Decides name first.header.name).0 e ∙ ap (λ (k : RunClass). k.header.name) same_one
      by false e None e_later found rest = let none : option_map suc
          (number_of_first (λ (class : RunClass). bytes_eq name class.header.name) classes)
          ≡ None = rw (e_later) refl in absurd (none-some number (sym none ∙ found))
      by false e (Some n) e_later found rest =
          let here : suc n ≡ number = same_Some (suc n) number (sym (rw (e_later) refl) ∙ found) in
          rest n e_later (ap (slice_get (first ∷ classes)) here ∙ is)

-- an added method that is found is not handled
added_found : (P : Program) (class : RunClass) (r : Reference) (added : List RunMethod) (number : ℕ)
    → AllByRecursion (IsAdded P class) added → number_of_first (is_method r) added ≡ Some number
    → is_handled P class.header.name r.desc ≡ false
added_found P class r [] number all found = absurd (none-some number found)
added_found P class r (method ∷ added) number all found = by (member_of r method.member) refl
    (number_of_first (is_method r) added) refl found (λ n. added_found P class r added n all.1) where
      by : (b : Bool) → member_of r method.member ≡ b → (later : Option ℕ) → number_of_first (is_method r) added ≡ later
          → (if b then Some zero else option_map suc (number_of_first (is_method r) added)) ≡ Some number
          → ((n : ℕ) → number_of_first (is_method r) added ≡ Some n → is_handled P class.header.name r.desc ≡ false)
          → is_handled P class.header.name r.desc ≡ false
      by true e later e_later found rest =
          let parts = and_parts (bytes_eq r.name method.member.name) (bytes_eq r.desc method.member.desc) e in
          ap (is_handled P class.header.name) ((bytes_eq-Decides r.desc method.member.desc).0 parts.1) ∙ all.0.unhandled
      by false e None e_later found rest = let none : option_map suc (number_of_first (is_method r) added)
          ≡ None = rw (e_later) refl in absurd (none-some number (sym none ∙ found))
      by false e (Some n) e_later found rest = rest n e_later

-- an instance initialiser that the second alone has is not handled
pub added_unhandled : {P Q : Program} → SamePrograms P Q → (r : Reference) (at : MethodAt) → place_of_method P r ≡ None
    → place_of_method Q r ≡ Some at → is_handled P r.class r.desc ≡ false
added_unhandled {P = P} {Q = Q} same r at none found = by (folder_number P r.class) refl where
  in_class : (number : ℕ) (class also : Option RunClass) → folder_number P r.class ≡ Some number → slice_get P.classes number ≡ class
      → slice_get Q.classes number ≡ also → SameAt P class also → is_handled P r.class r.desc ≡ false
  in_class number None None where_ here here_also at_none = absurd
      (none-some at (sym (rw (same_number same r.class, where_, here_also) refl) ∙ found))
  in_class number None (Some also) where_ here here_also impossible = elim impossible [ ]
  in_class number (Some class) None where_ here here_also impossible = elim impossible [ ]
  in_class number (Some class) (Some also) where_ here here_also (at_both alike) = in_added
      (number_of_first (is_method r) alike.added) refl where
        is_none : (found_in : Option ℕ) → number_of_first (is_method r) class.methods ≡ found_in
            → number_of_first (is_method r) class.methods ≡ None
        is_none None e = e
        is_none (Some method) e =
            let place : Some (record { class = number; method = method }) ≡ None = sym (rw (where_, here, e) refl) ∙ none in
            absurd (none-some (record { class = number; method = method }) (sym place))

        in_added : (found_in : Option ℕ) → number_of_first (is_method r) alike.added ≡ found_in → is_handled P r.class r.desc ≡ false
        in_added (Some method) e = ap (λ (name : Name). is_handled P name r.desc) (named_so r.class P.classes number class where_ here)
            ∙ added_found P class r alike.added method alike.are_added e
        in_added None e =
            let nothing = no_number r class.methods alike.same alike.added alike.are_same e
            (is_none (number_of_first (is_method r) class.methods) refl) in
            let place : place_of_method Q r ≡ None = rw (same_number same r.class, where_, here_also, alike.methods, nothing) refl in
            absurd (none-some at (sym place ∙ found))

  by : (found_number : Option ℕ) → folder_number P r.class ≡ found_number → is_handled P r.class r.desc ≡ false
  by None where_ = let place : place_of_method Q r
      ≡ None = rw (same_number same r.class, where_) refl in absurd (none-some at (sym place ∙ found))
  by (Some number) where_ = in_class number (slice_get P.classes number) (slice_get Q.classes number) where_ refl refl
      (at_number same number)
