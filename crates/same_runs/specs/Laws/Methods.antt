-- Programs that are the same have their methods at the same places, with code in both or in none.
use Rattle.std.proofs.Common.{◌≡◌, ℕ, zero, suc, Bool, true, false, List, [], ◌∷◌, ◌++◌, slice_get, is_some, Option, Some, None, option_map, if◌then◌else◌, refl, sym, ap, subst, ◌∙◌, ◌≢◌}
use Rattle.std.specs.List.{AllByRecursion}
use Rattle.std.proofs.lemmas.Option.{none-some, same_Some}
use Rattle.class_model.specs.Names.{init}
use Rattle.class_model.specs.declared.class_file.MethodAt.{MethodAt}
use Rattle.member_link.specs.Machine.Programs.{Program, RunClass, RunMethod, folder_number, member_of, number_of_first, place_of_method, run_method, code_run, code_at}
use Rattle.member_link.specs.References.{Reference}
use Rattle.same_runs.specs.SamePrograms.{IsAdded, SameMethods, SamePrograms}
use Rattle.same_runs.specs.Laws.Programs.{SameAt, at_none, at_both, at_number, no_init, same_number}

abbrev pub is_method : Reference → RunMethod → Bool
is_method r method = member_of r method.member

-- ---- numbers of methods

number_old : (r : Reference) (ones olds added : List RunMethod) (number : ℕ) → SameMethods ones olds
    → number_of_first (is_method r) ones ≡ Some number
    → number_of_first (is_method r) (olds ++ added) ≡ Some number
number_old r [] olds added number same is = absurd (none-some number is)
number_old r (one ∷ ones) [] added number same is = absurd same
number_old r (one ∷ ones) (old ∷ olds) added number same is =
    ap (λ (b : Bool). if b then Some zero else option_map suc (number_of_first (is_method r) (olds ++ added))) (ap (member_of r) same.0)
    ∙ by (member_of r one.member) (number_of_first (is_method r) ones) refl is (λ later. number_old r ones olds added later same.2) where
      by : (b : Bool) (found : Option ℕ) → number_of_first (is_method r) ones ≡ found
          → (if b then Some zero else option_map suc (number_of_first (is_method r) ones)) ≡ Some number
          → ((later : ℕ) → number_of_first (is_method r) ones ≡ Some later → number_of_first (is_method r) (olds ++ added) ≡ Some later)
          → (if b then Some zero else option_map suc (number_of_first (is_method r) (olds ++ added))) ≡ Some number
      by true found e is rest = is
      by false None e is rest = let none : option_map suc (number_of_first (is_method r) ones)
          ≡ None = rw (e) refl in absurd (none-some number (sym none ∙ is))
      by false (Some later) e is rest =
          let here : Some (suc later) ≡ Some number = sym (rw (e) refl) ∙ is in
          rw (rest later e) here

none_of_added : (P : Program) (class : RunClass) (r : Reference) (added : List RunMethod) → AllByRecursion (IsAdded P class) added
    → r.name ≢ init → number_of_first (is_method r) added ≡ None
none_of_added P class r [] all other = refl
none_of_added P class r (method ∷ added) all other = rw
    (no_init r method.member other all.0.is_init, none_of_added P class r added all.1 other) refl

pub no_number : (r : Reference) (ones olds added : List RunMethod) → SameMethods ones olds
    → number_of_first (is_method r) added ≡ None
    → number_of_first (is_method r) ones ≡ None
    → number_of_first (is_method r) (olds ++ added) ≡ None
no_number r [] [] added same none_added none = none_added
no_number r [] (old ∷ olds) added same none_added none = absurd same
no_number r (one ∷ ones) [] added same none_added none = absurd same
no_number r (one ∷ ones) (old ∷ olds) added same none_added none =
    ap (λ (b : Bool). if b then Some zero else option_map suc (number_of_first (is_method r) (olds ++ added))) (ap (member_of r) same.0)
    ∙ by (member_of r one.member) (number_of_first (is_method r) ones) refl none (no_number r ones olds added same.2 none_added) where
      by : (b : Bool) (found : Option ℕ) → number_of_first (is_method r) ones ≡ found
          → (if b then Some zero else option_map suc (number_of_first (is_method r) ones)) ≡ None
          → (number_of_first (is_method r) ones ≡ None → number_of_first (is_method r) (olds ++ added) ≡ None)
          → (if b then Some zero else option_map suc (number_of_first (is_method r) (olds ++ added))) ≡ None
      by true found e none rest = absurd (none-some zero (sym none))
      by false (Some later) e none rest = let some : option_map suc (number_of_first (is_method r) ones)
          ≡ Some (suc later) = rw (e) refl in absurd (none-some (suc later) (sym none ∙ some))
      by false None e none rest = rw (rest e) refl

-- ---- a method by its number

-- a method of both: the same member, with code in both or in none
pub record SameMethod (one other : RunMethod) : Type 0 where
  pub member : other.member ≡ one.member
  pub code : is_some (code_run other) ≡ is_some (code_run one)

method_old : (ones olds added : List RunMethod) (number : ℕ) (one : RunMethod) → SameMethods ones olds
    → slice_get ones number ≡ Some one
    → (other : RunMethod) × (slice_get (olds ++ added) number ≡ Some other) × SameMethod one other
method_old [] olds added number one same is = absurd (none-some one is)
method_old (first ∷ ones) [] added number one same is = absurd same
method_old (first ∷ ones) (old ∷ olds) added zero one same is =
    let here = same_Some first one is in
    (old, refl, subst (λ (m : RunMethod). SameMethod m old) here (record { member = same.0; code = same.1 }))
method_old (first ∷ ones) (old ∷ olds) added (suc number) one same is = method_old ones olds added number one same.2 is

module _ {P Q : Program} (same : SamePrograms P Q) where
  pub same_run_method : (at : MethodAt) (one : RunMethod) → run_method P at ≡ Some one
      → (other : RunMethod) × (run_method Q at ≡ Some other) × SameMethod one other
  same_run_method at one is = by (slice_get P.classes at.class) (slice_get Q.classes at.class) refl refl (at_number same at.class) where
    by : (class also : Option RunClass) → slice_get P.classes at.class ≡ class → slice_get Q.classes at.class ≡ also → SameAt P class also
        → (other : RunMethod) × (run_method Q at ≡ Some other) × SameMethod one other
    by None None here here_also at_none = absurd (none-some one (sym (rw (here) refl) ∙ is))
    by None (Some also) here here_also impossible = elim impossible [ ]
    by (Some class) None here here_also impossible = elim impossible [ ]
    by (Some class) (Some also) here here_also (at_both alike) =
        let old : slice_get class.methods at.method ≡ Some one = sym (rw (here) refl) ∙ is in
        let found = method_old class.methods alike.same alike.added at.method one alike.are_same old in
        (found.0, rw (here_also) (ap (λ (methods : List RunMethod). slice_get methods at.method) alike.methods ∙ found.1), found.2)

  -- a method has code in both or in none
  pub same_code : (at : MethodAt) (one : RunMethod) → run_method P at ≡ Some one → is_some (code_at Q at) ≡ is_some (code_at P at)
  same_code at one is =
      let found = same_run_method at one is in
      rw (is, found.1) found.2.code

  -- ---- places

  pub same_place : (r : Reference) (at : MethodAt) → place_of_method P r ≡ Some at → place_of_method Q r ≡ Some at
  same_place r at is = by (folder_number P r.class) refl where
    in_class : (number : ℕ) (class also : Option RunClass) → folder_number P r.class ≡ Some number → slice_get P.classes number ≡ class
        → slice_get Q.classes number ≡ also → SameAt P class also
        → place_of_method Q r ≡ Some at
    in_class number None None where_ here here_also at_none = absurd (none-some at (sym (rw (where_, here) refl) ∙ is))
    in_class number None (Some also) where_ here here_also impossible = elim impossible [ ]
    in_class number (Some class) None where_ here here_also impossible = elim impossible [ ]
    in_class number (Some class) (Some also) where_ here here_also (at_both alike) =
        found (number_of_first (is_method r) class.methods) refl where
          found : (at_number : Option ℕ) → number_of_first (is_method r) class.methods ≡ at_number → place_of_method Q r ≡ Some at
          found None e = absurd (none-some at (sym (rw (where_, here, e) refl) ∙ is))
          found (Some method) e =
              let place : Some (record { class = number; method = method }) ≡ Some at = sym (rw (where_, here, e) refl) ∙ is in
              let old = number_old r class.methods alike.same alike.added method alike.are_same e in
              rw (same_number same r.class, where_, here_also, alike.methods, old) place

    by : (found : Option ℕ) → folder_number P r.class ≡ found → place_of_method Q r ≡ Some at
    by None where_ = absurd (none-some at (sym (rw (where_) refl) ∙ is))
    by (Some number) where_ = in_class number (slice_get P.classes number) (slice_get Q.classes number) where_ refl refl
        (at_number same number)

  pub same_no_place : (r : Reference) → r.name ≢ init → place_of_method P r ≡ None → place_of_method Q r ≡ None
  same_no_place r other_name none = by (folder_number P r.class) refl where
    in_class : (number : ℕ) (class also : Option RunClass) → folder_number P r.class ≡ Some number → slice_get P.classes number ≡ class
        → slice_get Q.classes number ≡ also → SameAt P class also
        → place_of_method Q r ≡ None
    in_class number None None where_ here here_also at_none = rw (same_number same r.class, where_, here_also) refl
    in_class number None (Some also) where_ here here_also impossible = elim impossible [ ]
    in_class number (Some class) None where_ here here_also impossible = elim impossible [ ]
    in_class number (Some class) (Some also) where_ here here_also (at_both alike) =
        found (number_of_first (is_method r) class.methods) refl where
          found : (at_number : Option ℕ) → number_of_first (is_method r) class.methods ≡ at_number → place_of_method Q r ≡ None
          found (Some method) e =
              let place : Some (record { class = number; method = method }) ≡ None = sym (rw (where_, here, e) refl) ∙ none in
              absurd (none-some (record { class = number; method = method }) (sym place))
          found None e =
              rw (same_number same r.class, where_, here_also, alike.methods, no_number r class.methods alike.same alike.added alike.are_same (none_of_added P class r alike.added alike.are_added other_name) e) refl

    by : (found : Option ℕ) → folder_number P r.class ≡ found → place_of_method Q r ≡ None
    by None where_ = rw (same_number same r.class, where_) refl
    by (Some number) where_ = in_class number (slice_get P.classes number) (slice_get Q.classes number) where_ refl refl
        (at_number same number)

-- a place is that of a method
number_is : (r : Reference) (methods : List RunMethod) (number : ℕ) → number_of_first (is_method r) methods ≡ Some number
    → (method : RunMethod) × (slice_get methods number ≡ Some method)
number_is r [] number is = absurd (none-some number is)
number_is r (method ∷ methods) number is = by (member_of r method.member) (number_of_first (is_method r) methods) refl is
    (number_is r methods) where
      by : (b : Bool) (found : Option ℕ) → number_of_first (is_method r) methods ≡ found
          → (if b then Some zero else option_map suc (number_of_first (is_method r) methods)) ≡ Some number
          → ((later : ℕ) → number_of_first (is_method r) methods ≡ Some later → (one : RunMethod) × (slice_get methods later ≡ Some one))
          → (one : RunMethod) × (slice_get (method ∷ methods) number ≡ Some one)
      by true found e is rest = (method, ap (slice_get (method ∷ methods)) (sym (same_Some zero number is)))
      by false None e is rest = let none : option_map suc (number_of_first (is_method r) methods)
          ≡ None = rw (e) refl in absurd (none-some number (sym none ∙ is))
      by false (Some later) e is rest =
          let here : suc later ≡ number = same_Some (suc later) number (sym (rw (e) refl) ∙ is) in
          let found = rest later e in
          (found.0, ap (slice_get (method ∷ methods)) (sym here) ∙ found.1)

pub place_is : (P : Program) (r : Reference) (at : MethodAt) → place_of_method P r ≡ Some at
    → (method : RunMethod) × (run_method P at ≡ Some method)
place_is P r at is = by (folder_number P r.class) refl where
  by : (found : Option ℕ) → folder_number P r.class ≡ found → (method : RunMethod) × (run_method P at ≡ Some method)
  by None where_ = absurd (none-some at (sym (rw (where_) refl) ∙ is))
  by (Some number) where_ = in_class (slice_get P.classes number) refl where
    in_class : (class : Option RunClass) → slice_get P.classes number ≡ class → (method : RunMethod) × (run_method P at ≡ Some method)
    in_class None here = absurd (none-some at (sym (rw (where_, here) refl) ∙ is))
    in_class (Some class) here = found (number_of_first (is_method r) class.methods) refl where
      found : (at_number : Option ℕ) → number_of_first (is_method r) class.methods ≡ at_number
          → (method : RunMethod) × (run_method P at ≡ Some method)
      found None e = absurd (none-some at (sym (rw (where_, here, e) refl) ∙ is))
      found (Some method) e =
          let place : record { class = number; method = method }
          ≡ at = same_Some (record { class = number; method = method }) at (sym (rw (where_, here, e) refl) ∙ is) in
          let one = number_is r class.methods method e in
          (one.0, subst (λ (a : MethodAt). run_method P a ≡ Some one.0) place (rw (here) one.1))
