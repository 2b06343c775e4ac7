-- Items of a list by their numbers, and the methods of a program in which methods run other code.
use Rattle.std.proofs.Common.{◌≡◌, ◌+◌, ℕ, zero, suc, List, [], ◌∷◌, ◌++◌, length, slice_get, Option, Some, None, option_map, refl, sym, ap, ◌∙◌, arith}
use Rattle.std.specs.Prelude.{option_and_then}
use Rattle.std.proofs.lemmas.List.{append-nil}
use Rattle.std.proofs.lemmas.Option.{none-some}
use Rattle.class_model.specs.declared.class_file.MethodAt.{MethodAt}
use Rattle.member_link.specs.Machine.Programs.{Code, Program, RunClass, RunMethod, code_at, code_run, run_method}
use Rattle.member_link.specs.Machine.Replaced.{Replacement, map_numbered, method_replaced, replaced, replaced_class, with_body}
use Rattle.same_runs.specs.Laws.ReplacedPrograms.{body_is}

-- ---- items

pub slice_numbered : {A B : Type 0} (change : ℕ → A → B) (number : ℕ) (items : List A) (k : ℕ)
    → slice_get (map_numbered change number items) k ≡ option_map (change (number + k)) (slice_get items k)
slice_numbered change number [] k = refl
slice_numbered {A} {B} change number (item ∷ items) zero =
    let here : number ≡ number + 0 = omega arith in
    ap (λ (n : ℕ). let made : Option B = Some (change n item) in made) here
slice_numbered {A} {B} change number (item ∷ items) (suc k) =
    let here : suc number + k ≡ number + suc k = omega arith in
    slice_numbered change (suc number) items k ∙ ap (λ (n : ℕ). option_map (change n) (slice_get items k)) here

pub from_zero : {A B : Type 0} (change : ℕ → A → B) (items : List A) (k : ℕ)
    → slice_get (map_numbered change zero items) k ≡ option_map (change k) (slice_get items k)
from_zero change items k =
    slice_numbered change zero items k ∙ ap (λ (n : ℕ). option_map (change n) (slice_get items k)) (omega arith)

pub length_numbered : {A B : Type 0} (change : ℕ → A → B) (number : ℕ) (items : List A) → length (map_numbered change number items) ≡ length items
length_numbered change number [] = refl
length_numbered change number (item ∷ items) = ap suc (length_numbered change (suc number) items)

-- an item of the left of two lists
pub get_left : {A : Type 0} (xs ys : List A) (at : ℕ) (x : A) → slice_get xs at ≡ Some x → slice_get (xs ++ ys) at ≡ Some x
get_left [] ys at x is = absurd (none-some x is)
get_left (first ∷ xs) ys zero x is = is
get_left (first ∷ xs) ys (suc at) x is = get_left xs ys at x is

-- ---- methods with other codes

module _ (P : Program) (r : Replacement) where
  pub replaced_at : (number : ℕ) → slice_get (replaced P r).classes number ≡ option_map (replaced_class r number) (slice_get P.classes number)
  replaced_at number = from_zero (replaced_class r) P.classes number

  -- A method of the program is there still, whatever is added.
  pub still_runs : (at : MethodAt) (method : RunMethod) → run_method P at ≡ Some method
      → run_method (replaced P r) at ≡ Some (with_body method (r.body at))
  still_runs at method is =
      ap (option_and_then (λ (class : RunClass). slice_get class.methods at.method)) (replaced_at at.class)
      ∙ by (slice_get P.classes at.class) is where
        by : (class : Option RunClass) → option_and_then (λ (class : RunClass). slice_get class.methods at.method) class ≡ Some method
            → option_and_then (λ (class : RunClass). slice_get class.methods at.method) (option_map (replaced_class r at.class) class)
            ≡ Some (with_body method (r.body at))
        by None none = absurd (none-some method none)
        by (Some class) there =
            get_left (map_numbered (method_replaced r at.class) zero class.methods) (r.added at.class) at.method (with_body method (r.body at))
            (from_zero (method_replaced r at.class) class.methods at.method ∙ ap (option_map (method_replaced r at.class at.method)) there)

  -- where none is added
  module _ (none : (class : ℕ) → r.added class ≡ []) where
    pub methods_are : (number : ℕ) (class : RunClass)
        → (replaced_class r number class).methods ≡ map_numbered (method_replaced r number) zero class.methods
    methods_are number class =
        ap (λ (more : List RunMethod). map_numbered (method_replaced r number) zero class.methods ++ more) (none number)
        ∙ append-nil (map_numbered (method_replaced r number) zero class.methods)

    in_class : (at : MethodAt) (class : Option RunClass)
        → option_and_then (λ (class : RunClass). slice_get class.methods at.method) (option_map (replaced_class r at.class) class)
        ≡ option_map (λ (method : RunMethod). with_body method (r.body at))
        (option_and_then (λ (class : RunClass). slice_get class.methods at.method) class)
    in_class at None = refl
    in_class at (Some class) =
        ap (λ (all : List RunMethod). slice_get all at.method) (methods_are at.class class)
        ∙ from_zero (method_replaced r at.class) class.methods at.method

    pub replaced_run : (at : MethodAt) → run_method (replaced P r) at
        ≡ option_map (λ (method : RunMethod). with_body method (r.body at)) (run_method P at)
    replaced_run at =
        ap (option_and_then (λ (class : RunClass). slice_get class.methods at.method)) (replaced_at at.class)
        ∙ in_class at (slice_get P.classes at.class)

    -- the code that a method runs is the one that takes the place of its own, if one does
    pub replaced_code : (at : MethodAt) (body code : Code) → r.body at ≡ Some body → code_at (replaced P r) at ≡ Some code → code ≡ body
    replaced_code at body code is runs = by (run_method P at) (ap (option_and_then code_run) (sym (replaced_run at)) ∙ runs) where
      by : (method : Option RunMethod) → option_and_then code_run (option_map (λ (method : RunMethod). with_body method (r.body at)) method) ≡ Some code
          → code ≡ body
      by None none = absurd (none-some code none)
      by (Some method) some = body_is method body code (ap (λ (other : Option Code). code_run (with_body method other)) (sym is) ∙ some)
