-- A method that is added at the end of a class is found there, where the class has none of its name and descriptor before.
use Rattle.std.proofs.Common.{◌≡◌, ℕ, zero, suc, Bool, true, false, List, [], ◌∷◌, ◌++◌, length, slice_get, Option, Some, None, option_map, if◌then◌else◌, refl, sym, ap, ◌∙◌}
use Rattle.std.proofs.lemmas.Option.{none-some, slice_get-map}
use Rattle.std.proofs.lemmas.Slice.Eq.{bytes_eq-Decides}
use Rattle.class_model.specs.declared.class_file.ClassFile.{ClassFile}
use Rattle.class_model.specs.declared.class_file.MethodAt.{MethodAt}
use Rattle.class_model.specs.declared.header.Member.{Member}
use Rattle.class_tree.specs.Headers.{Name, Classes, headers_of}
use Rattle.member_link.specs.Machine.Classes.{program_of, run_class_of}
use Rattle.member_link.specs.Machine.Programs.{Links, Program, RunClass, RunMethod, first_member, folder_number, member_of, number_of_first, place_of_method, run_method}
use Rattle.member_link.specs.Machine.Replaced.{Replacement, replaced, replaced_class}
use Rattle.member_link.specs.References.{Reference}
use Rattle.same_runs.specs.Laws.Methods.{is_method}
use Rattle.same_runs.specs.Laws.Numbered.{replaced_at}
use Rattle.same_runs.specs.Laws.Objects.{get_new}

-- ---- the class of a number

-- the class of a class file in a program in which codes are replaced and methods are added
pub class_replaced : (classes : Classes) (links : Links) (s : Replacement) (number : ℕ) (file : ClassFile)
    → slice_get classes.folder number ≡ Some file
    → slice_get (replaced (program_of classes links) s).classes number ≡ Some (replaced_class s number (run_class_of links (headers_of classes) file))
class_replaced classes links s number file is =
    replaced_at (program_of classes links) s number
    ∙ ap (option_map (replaced_class s number)) (slice_get-map (run_class_of links (headers_of classes)) classes.folder number
    ∙ ap (option_map (run_class_of links (headers_of classes))) is)

-- ---- the method

-- the last of a list is the first that passes where no other does
pub number_of_last : {A : Type 0} (passes : A → Bool) (xs : List A) (last : A) → number_of_first passes xs ≡ None → passes last ≡ true
    → number_of_first passes (xs ++ last ∷ []) ≡ Some (length xs)
number_of_last passes [] last none is = rw (is) refl
number_of_last {A = A} passes (x ∷ xs) last none is = by (passes x) (number_of_first passes xs) refl none
    (λ later. number_of_last passes xs last later is) where
      by : (b : Bool) (found : Option ℕ) → number_of_first passes xs ≡ found
          → (if b then Some zero else option_map suc (number_of_first passes xs)) ≡ None
          → (number_of_first passes xs ≡ None → number_of_first passes (xs ++ last ∷ []) ≡ Some (length xs))
          → (if b then Some zero else option_map suc (number_of_first passes (xs ++ last ∷ []))) ≡ Some (suc (length xs))
      by true found e none rest = absurd (none-some zero (sym none))
      by false None e none rest = ap (option_map suc) (rest e)
      by false (Some number) e none rest =
          absurd (none-some (suc number) (sym none ∙ ap (option_map suc) e))

-- a method that is the last of a class, and the first of its name and descriptor, is found and run
pub record FindsLast (Q : Program) (r : Reference) (at : MethodAt) (method : RunMethod) : Type 0 where
  pub is_place : place_of_method Q r ≡ Some at
  pub is_method : run_method Q at ≡ Some method

pub finds_last : (Q : Program) (r : Reference) (number : ℕ) (class : RunClass) (olds : List RunMethod) (method : RunMethod)
    → folder_number Q r.class ≡ Some number
    → slice_get Q.classes number ≡ Some class
    → class.methods ≡ olds ++ method ∷ []
    → number_of_first (is_method r) olds ≡ None
    → member_of r method.member ≡ true
    → FindsLast Q r (record { class = number; method = length olds }) method
finds_last Q r number class olds method of_folder there methods none is = record {
  is_place = rw (of_folder) (rw (there) (ap (option_map (λ (m : ℕ). record { class = number; method = m })) found));
  is_method = rw (there) (ap (λ (ms : List RunMethod). slice_get ms (length olds)) methods ∙ get_new olds method);
} where
  found : number_of_first (λ (one : RunMethod). member_of r one.member) class.methods ≡ Some (length olds)
  found = ap (number_of_first (is_method r)) methods ∙ number_of_last (is_method r) olds method none is

-- and its member is the first of the header's
pub first_of_last : (r : Reference) (olds : List Member) (last : Member) → first_member r olds ≡ None → member_of r last ≡ true
    → first_member r (olds ++ last ∷ []) ≡ Some last
first_of_last r [] last none is = rw (is) refl
first_of_last r (one ∷ olds) last none is = by (member_of r one) none (λ later. first_of_last r olds last later is) where
  by : (b : Bool) → (if b then Some one else first_member r olds) ≡ None
      → (first_member r olds ≡ None → first_member r (olds ++ last ∷ []) ≡ Some last)
      → (if b then Some one else first_member r (olds ++ last ∷ [])) ≡ Some last
  by true none rest = absurd (none-some one (sym none))
  by false none rest = rest none

-- an initialiser is one of its own name and descriptor
pub member_itself : (class : Name) (member : Member) → member_of (record { class = class; name = member.name; desc = member.desc }) member ≡ true
member_itself class member = rw ((bytes_eq-Decides member.name member.name).1 refl, (bytes_eq-Decides member.desc member.desc).1 refl) refl
