-- In programs that are the same objects are instances of the same classes, and conform to the same types.
use Rattle.std.proofs.Common.{◌≡◌, ℕ, List, [], ◌∷◌, Option, Some, None, refl, ap, ◌∙◌}
use Rattle.std.specs.List.{list_any}
use Rattle.class_tree.specs.Headers.{Name}
use Rattle.machine_values.specs.Values.{component_text}
use Rattle.machine_values.specs.declared.object.Shape.{Shape}
use Rattle.machine_values.specs.declared.object.Shape.TheVariants.{Folder, Array, External}
use Rattle.member_link.specs.Machine.Programs.{Links, Program}
use Rattle.member_link.specs.Machine.Shapes.{both_conform, class_conforms, class_of_shape, component_named, components_conform, is_instance, shape_conforms}
use Rattle.same_runs.specs.SamePrograms.{SamePrograms}
use Rattle.same_runs.specs.Laws.Programs.{same_interface, same_name}

module _ {P Q : Program} (same : SamePrograms P Q) where
  same_below : (low high : Name) → Q.links.below low high ≡ P.links.below low high
  same_below low high = ap (λ (links : Links). links.below low high) same.links

  pub same_class_of : (shape : Shape) → class_of_shape Q shape ≡ class_of_shape P shape
  same_class_of (Folder number) = same_name same number
  same_class_of (Array desc len) = refl
  same_class_of (External class also) = refl

  any_below : (also : List Name) (name : Name)
      → list_any (λ (interface : Name). Q.links.below interface name) also
      ≡ list_any (λ (interface : Name). P.links.below interface name) also
  any_below [] name = refl
  any_below (first ∷ also) name = rw (same_below first name, any_below also name) refl

  pub same_instance : (shape : Shape) (name : Name) → is_instance Q shape name ≡ is_instance P shape name
  same_instance (Folder number) name =
      ap (λ (low : Name). Q.links.below low name) (same_name same number) ∙ same_below (class_of_shape P (Folder number)) name
  same_instance (Array desc len) name = same_below desc name
  same_instance (External class also) name = rw (same_below class name, any_below also name) refl

  same_class_conforms : (low high : Name) → class_conforms Q low high ≡ class_conforms P low high
  same_class_conforms low high = rw (same_interface same high, same_below low high) refl

  same_both : (low high : Option Name) → both_conform Q low high ≡ both_conform P low high
  same_both None high = refl
  same_both (Some low) None = refl
  same_both (Some low) (Some high) = same_class_conforms low high

  same_components : (lows highs : List ℕ) → components_conform Q lows highs ≡ components_conform P lows highs
  same_components [] highs = refl
  same_components (low ∷ lows) [] = refl
  same_components (low ∷ lows) (high ∷ highs) =
      rw (same_both (component_named (low ∷ lows)) (component_named (high ∷ highs)), same_components lows highs) refl

  pub same_conforms : (shape : Shape) (name : Name) → shape_conforms Q shape name ≡ shape_conforms P shape name
  same_conforms (Folder number) name = rw (same_interface same name, same_instance (Folder number) name) refl
  same_conforms (Array desc len) name = rw
      (same_interface same name, same_below desc name, same_components (component_text desc) (component_text name)) refl
  same_conforms (External class also) name = rw (same_interface same name, same_instance (External class also) name) refl
