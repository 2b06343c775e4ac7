use Rattle.std.specs.Prelude.{◌≡◌, refl, ℕ, Bool, true, false, List, bytes_eq, Some, option_map, option_and_then, slice_get}
use Rattle.std.proofs.Common.{ap, sym, ◌∙◌}
use Rattle.std.proofs.lemmas.Slice.Eq.{bytes_eq-Decides}
use Rattle.class_model.specs.declared.class_file.MethodAt.{MethodAt}
use Rattle.class_tree.specs.Headers.{Name}
use Rattle.member_link.specs.Machine.Acting.{begins_with_angle}
use Rattle.member_link.specs.Machine.Programs.{Program, RunClass, RunMethod, number_of_first, folder_number, name_of_class, member_of, place_of_method}
use Rattle.member_link.specs.References.{Reference}
use Rattle.typed_runs.proofs.BeginningSteps.{first_found, of_map}
use Rattle.typed_runs.proofs.Points.{of_chain}

-- ---- names

pub differ : (one other : List ℕ) → (one ≡ other → ⊥) → bytes_eq one other ≡ false
differ one other apart = by (bytes_eq one other) refl where
  by : (b : Bool) → bytes_eq one other ≡ b → bytes_eq one other ≡ false
  by true e = absurd (apart ((bytes_eq-Decides one other).0 e))
  by false e = e

-- a name that does not begin with < is none of the two that do
pub no_angle : (name other : List ℕ) → begins_with_angle name ≡ false → begins_with_angle other ≡ true → name ≡ other → ⊥
no_angle name other plain angle same = let no : true ≡ false = sym angle ∙ (sym (ap begins_with_angle same) ∙ plain) in cc

-- ---- the class of a method that is found

pub class_of_place : (P : Program) (r : Reference) (at : MethodAt) → place_of_method P r ≡ Some at
    → folder_number P r.class ≡ Some at.class
class_of_place P r at is =
    let c = of_chain (λ (number : ℕ). option_and_then (λ (class : RunClass). option_map
    (λ (method : ℕ). record { class = number; method = method }) (number_of_first (λ (m : RunMethod). member_of r m.member)
    class.methods)) (slice_get P.classes number))
    (folder_number P r.class) at is in
    let d = of_chain (λ (class : RunClass). option_map (λ (method : ℕ). record { class = c.0; method = method })
    (number_of_first (λ (m : RunMethod). member_of r m.member) class.methods)) (slice_get P.classes c.0) at c.2 in
    let m = of_map (λ (method : ℕ). record { class = c.0; method = method })
    (number_of_first (λ (m : RunMethod). member_of r m.member) d.0.methods) at d.2 in
    c.1 ∙ ap (λ (x : MethodAt). Some x.class) m.2

pub name_of_found : (P : Program) (name : Name) (n : ℕ) → folder_number P name ≡ Some n → name_of_class P n ≡ name
name_of_found P name n is =
    let f = first_found (λ (class : RunClass). bytes_eq name class.header.name) P.classes n is in
    let same : name_of_class P n ≡ f.item.header.name = rw f.is_there refl in
    same ∙ sym ((bytes_eq-Decides name f.item.header.name).0 f.passed)
