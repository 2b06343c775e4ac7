-- Values that conform to the parameters of a descriptor, which are cut off one by one.
use Rattle.std.proofs.Common.{◌≡◌, ◌==◌, ◌&&◌, ◌≤◌, ◌-◌, ℕ, zero, suc, Bool, true, false, List, [], ◌∷◌, length, take, drop, refl, sym, ap, ◌∙◌, arith, length-drop}
use Rattle.class_model.specs.Descriptors.{parameters_of, type_len, type_of, types_before}
use Rattle.class_model.specs.declared.descriptor.FieldType.{FieldType}
use Rattle.class_tree.specs.Headers.{Classes}
use Rattle.machine_values.specs.Heaps.{Heap}
use Rattle.machine_values.specs.declared.value.Value.{Value}
use Rattle.member_link.specs.Machine.Acting.{all_conform}
use Rattle.member_link.specs.Machine.Programs.{Program}
use Rattle.member_link.specs.Machine.Shapes.{value_conforms}
use Rattle.member_link.specs.Machine.Worlds.{World}
use Rattle.member_link.specs.Laws.Parameters.{none_before, not_true, one_before, shorter}
use Rattle.member_link.specs.Signatures.{begins_type}
use Rattle.member_link.specs.TreePrograms.{IsProgram}

-- those of the rest of the descriptor are left
pub record Left (classes : Classes) (heap : Heap) (desc rest : List ℕ) (values others : List Value) : Type 0 where
  pub left : ℕ
  pub enough : length rest ≤ left
  pub same :
      (P : Program) (w : World)
      → IsProgram classes P
      → w.memory.heap ≡ heap
      → all_conform P w (parameters_of desc) values ≡ all_conform P w (types_before left rest) others

pub all_left : (classes : Classes) (heap : Heap) (desc : List ℕ) (values : List Value) → Left classes heap desc (drop 1 desc) values values
all_left classes heap desc values =
    record { left = length desc; enough = omega (arith, length-drop {A = ℕ} 1 desc); same = λ P w program is. refl }

module _ (classes : Classes) (heap : Heap) (desc : List ℕ) (values : List Value) where
  -- the types of what is left
  next :
      (rest : List ℕ) (others : List Value)
      → begins_type rest ≡ true
      → Left classes heap desc rest values others
      → (left : ℕ)
      × (length (drop (type_len rest) rest) ≤ left)
      × ((P : Program) (w : World) → IsProgram classes P → w.memory.heap ≡ heap
      → all_conform P w (parameters_of desc) values
      ≡ all_conform P w (type_of (take (type_len rest) rest) ∷ types_before left (drop (type_len rest) rest)) others)
  next [] others begins at = absurd cc
  next (first ∷ rest) others begins at = by at.left at.enough at.same
    where
      by :
          (left : ℕ)
          → length (first ∷ rest) ≤ left
          → ((P : Program) (w : World) → IsProgram classes P → w.memory.heap ≡ heap
          → all_conform P w (parameters_of desc) values ≡ all_conform P w (types_before left (first ∷ rest)) others)
          → (more : ℕ)
          × (length (drop (type_len (first ∷ rest)) (first ∷ rest)) ≤ more)
          × ((P : Program) (w : World) → IsProgram classes P → w.memory.heap ≡ heap
          → all_conform P w (parameters_of desc) values
          ≡ all_conform P w (type_of (take (type_len (first ∷ rest)) (first ∷ rest)) ∷ types_before more (drop (type_len (first ∷ rest)) (first ∷ rest))) others)
      by zero enough same = absurd (omega arith)
      by (suc left) enough same = (
        left,
        (let smaller = shorter (first ∷ rest) begins in omega arith),
        λ P w program is.
            same P w program is
            ∙ ap (λ (types : List FieldType). all_conform P w types others) (one_before left first rest (not_true (first == 41) begins)),
      )

  -- none is left for a type
  pub too_few :
      (rest : List ℕ)
      → begins_type rest ≡ true
      → Left classes heap desc rest values []
      → (P : Program) (w : World)
      → IsProgram classes P
      → w.memory.heap ≡ heap
      → all_conform P w (parameters_of desc) values ≡ false
  too_few rest begins at P w program is = (next rest [] begins at).2 P w program is

  -- one does not conform
  pub not_one :
      (rest : List ℕ) (value : Value) (others : List Value)
      → begins_type rest ≡ true
      → ((P : Program) → IsProgram classes P → value_conforms P heap (type_of (take (type_len rest) rest)) value ≡ false)
      → Left classes heap desc rest values (value ∷ others)
      → (P : Program) (w : World)
      → IsProgram classes P
      → w.memory.heap ≡ heap
      → all_conform P w (parameters_of desc) values ≡ false
  not_one rest value others begins differs at P w program is =
      let found = next rest (value ∷ others) begins at in
      found.2 P w program is
      ∙ ap (λ (h : Heap). value_conforms P h (type_of (take (type_len rest) rest)) value && all_conform P w (types_before found.0 (drop (type_len rest) rest)) others) is
      ∙ ap (λ (b : Bool). b && all_conform P w (types_before found.0 (drop (type_len rest) rest)) others) (differs P program)

  -- one conforms
  pub one_more :
      (rest : List ℕ) (value : Value) (others : List Value)
      → begins_type rest ≡ true
      → ((P : Program) → IsProgram classes P → value_conforms P heap (type_of (take (type_len rest) rest)) value ≡ true)
      → Left classes heap desc rest values (value ∷ others)
      → Left classes heap desc (drop (type_len rest) rest) values others
  one_more rest value others begins conforms at =
      let found = next rest (value ∷ others) begins at in
      record {
        left = found.0;
        enough = found.1;
        same = λ P w program is.
            found.2 P w program is
            ∙ ap (λ (h : Heap). value_conforms P h (type_of (take (type_len rest) rest)) value && all_conform P w (types_before found.0 (drop (type_len rest) rest)) others) is
            ∙ ap (λ (b : Bool). b && all_conform P w (types_before found.0 (drop (type_len rest) rest)) others) (conforms P program);
      }

  -- no type is left
  pub none_left :
      (rest : List ℕ) (others : List Value)
      → begins_type rest ≡ false
      → Left classes heap desc rest values others
      → (P : Program) (w : World)
      → IsProgram classes P
      → w.memory.heap ≡ heap
      → all_conform P w (parameters_of desc) values ≡ all_conform P w [] others
  none_left rest others ends at P w program is =
      at.same P w program is
      ∙ ap (λ (types : List FieldType). all_conform P w types others) (none_before at.left rest ends)
