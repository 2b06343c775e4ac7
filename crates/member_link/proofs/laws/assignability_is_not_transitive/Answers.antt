use Rattle.std.proofs.Common.{◌≡◌, ℕ, List, [], ◌∷◌, ◌++◌, get_or, codes, None, refl, sym, ap, subst, ◌∙◌, inl, arith}
use Rattle.std.proofs.lemmas.Option.{none-some}
use Rattle.class_model.specs.declared.frame.VType.{VType}
use Rattle.class_model.specs.declared.frame.VType.TheVariants.{Object}
use Rattle.class_tree.specs.Headers.{Name, Headers, class_named}
use Rattle.class_tree.specs.Laws.Arrays.{not_below}
use Rattle.class_tree.specs.Names.{object}
use Rattle.class_tree.specs.Subtype.{IsArray, array, class, IsAboveArrays}
use Rattle.member_link.specs.Assignability.{IsNameAssignable, to_itself, to_interface, to_class_above, from_array, of_components, IsAssignable, to_same, to_top, from_null, of_names, int_array}
use Rattle.member_link.proofs.laws.assignability_is_not_transitive.Goals as goal

is_array : IsArray int_array
is_array = (codes "I", refl)

object_is_no_array : ¬ IsArray object
object_is_no_array is = let same : 106 ≡ 91 = ap (λ (bytes : List ℕ). get_or bytes 0 0) is.1 in omega (arith, same)

module _ (headers : Headers) (no_array : (name : Name) → IsArray name → class_named headers name ≡ None) where
  module _ (named : Name) (flat : ¬ IsArray named) (not_above : ¬ IsAboveArrays named) where
    no_name : {low high : Name} → IsNameAssignable headers low high → IsArray low → high ≡ named → ⊥
    no_name (to_itself name) is same = flat (subst IsArray same is)
    no_name (to_interface low high header flatter there is_interface) is same = absurd (flatter is)
    no_name (to_class_above low high below) is same = not_below headers no_array is below
    no_name (from_array low high deep above) is same = not_above (subst IsAboveArrays same above)
    no_name (of_components low high one other low_is (array _ deep) rest) is same = flat (subst IsArray same (other, refl))
    no_name (of_components low high one other low_is (class _) rest) is same = flat (subst IsArray same (76 ∷ other ++ 59 ∷ [], refl))

    no_type : {low high : VType} → IsAssignable headers low high → low ≡ Object int_array → high ≡ Object named → ⊥
    no_type (to_same type) from to = let same : int_array ≡ named = cc in flat (subst IsArray same is_array)
    no_type (to_top type) from to = absurd cc
    no_type (from_null name) from to = absurd cc
    no_type (of_names low high names) from to =
        let same : int_array ≡ low = cc in
        no_name names (subst IsArray same is_array) cc

pub returns : goal.returns
returns c = λ headers named header no_array there is_interface not_above. (
  of_names int_array object (from_array int_array object is_array (inl refl)),
  of_names object named (to_interface object named header object_is_no_array there is_interface),
  λ assignable. no_type headers no_array named (λ is. none-some header (sym (no_array named is) ∙ there)) not_above assignable refl refl,
)
