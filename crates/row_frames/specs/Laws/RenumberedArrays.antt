-- Instructions on arrays, behind frames whose uninitialised objects have other numbers.
use Rattle.std.proofs.Common.{◌≡◌, ◌-◌, ℕ, zero, suc, Bool, true, false, List, [], ◌∷◌, map, replicate, Option, Some, None, if◌then◌else◌, refl, ap, ◌∙◌}
use Rattle.std.specs.Prelude.{◌==◌, nat_lt}
use Rattle.class_model.specs.declared.descriptor.Kind.TheVariants as kinds
use Rattle.class_model.specs.declared.frame.Frame.{Frame}
use Rattle.class_model.specs.declared.frame.VType.{VType}
use Rattle.class_model.specs.declared.frame.VType.TheVariants as types
use Rattle.class_model.specs.declared.opcodes.TheConstants.{AALOAD, IALOAD, AASTORE, IASTORE}
use Rattle.class_tree.specs.Headers.{Name}
use Rattle.row_frames.specs.Laws.NumberedFrames.{numbered_type, numbered_frame}
use Rattle.row_frames.specs.Laws.RenumberedRows.{Moves, either_moves, no_row_moves, plain_moves}
use Rattle.row_frames.specs.Laws.RenumberedTypes.{lowest_same, numbered_need}
use Rattle.member_link.specs.Rows.ArrayRows.{Elements, array_load_row, array_store_row, component_type, elements_from, elements_load_row, elements_of, elements_store_row, length_row, made_row, need_of_value}
use Rattle.member_link.specs.Rows.Operands.{Need, array_among, of_kind, lowest_of}

module _ (number : ℕ → ℕ) where
  abbrev IsPlain : Option Elements → Type 0
  IsPlain None = Unit {0}
  IsPlain (Some e) = e.type ≡ numbered_type number e.type

  either_plain : (test : Bool) (found other : Option Elements) → IsPlain found → IsPlain other → IsPlain (if test then found else other)
  either_plain true found other is also = is
  either_plain false found other is also = also

  elements_plain : (n : ℕ) → IsPlain (elements_of n)
  elements_plain n =
      either_plain (n == 0) _ _ refl (either_plain (n == 1) _ _ refl (either_plain (n == 2) _ _ refl (either_plain (n == 3) _ _ refl
      (either_plain (n == 5) _ _ refl (either_plain (n == 6) _ _ refl (either_plain (n == 7) _ _ refl tt))))))

  from_plain : (first opcode : ℕ) → IsPlain (elements_from first opcode)
  from_plain first opcode = either_plain (nat_lt opcode first) None (elements_of (opcode - first)) tt (elements_plain (opcode - first))

  elements_load_moves : (f : Frame) (found : Option Elements) → IsPlain found
      → Moves number (elements_load_row f found) (elements_load_row (numbered_frame number f) found)
  elements_load_moves f None is = no_row_moves number f
  elements_load_moves f (Some e) is = plain_moves number f _ _ _ _ refl (ap (λ (type : VType). type ∷ []) is)

  component_same : (type : VType) → component_type (numbered_type number type) ≡ numbered_type number (component_type type)
  component_same (types.Object name) = refl
  component_same other = refl

  pub array_load_moves : (f : Frame) (opcode : ℕ) → Moves number (array_load_row f opcode) (array_load_row (numbered_frame number f) opcode)
  array_load_moves f opcode = either_moves number (opcode == AALOAD) _ _ _ _
      (plain_moves number f _ _ _ _ refl
      (ap (λ (type : VType). component_type type ∷ []) (lowest_same number 2 f.stack)
      ∙ ap (λ (type : VType). type ∷ []) (component_same (lowest_of 2 f.stack))))
      (elements_load_moves f (elements_from IALOAD opcode) (from_plain IALOAD opcode))

  value_need_same : (type : VType) → need_of_value type ≡ numbered_need number (need_of_value type)
  value_need_same types.Long = refl
  value_need_same types.Float = refl
  value_need_same types.Double = refl
  value_need_same other = refl

  elements_store_moves : (f : Frame) (found : Option Elements)
      → Moves number (elements_store_row f found) (elements_store_row (numbered_frame number f) found)
  elements_store_moves f None = no_row_moves number f
  elements_store_moves f (Some e) =
      plain_moves number f _ _ _ _
      (ap (λ (need : Need). array_among e.arrays ∷ of_kind kinds.Int ∷ need ∷ []) (value_need_same e.type)) refl

  pub array_store_moves : (f : Frame) (opcode : ℕ)
      → Moves number (array_store_row f opcode) (array_store_row (numbered_frame number f) opcode)
  array_store_moves f opcode =
      either_moves number (opcode == AASTORE) _ _ _ _ (plain_moves number f _ _ _ _ refl refl)
      (elements_store_moves f (elements_from IASTORE opcode))

  counts_same : (counts : ℕ) → replicate counts (of_kind kinds.Int) ≡ map (numbered_need number) (replicate counts (of_kind kinds.Int))
  counts_same zero = refl
  counts_same (suc counts) = ap (λ (needs : List Need). of_kind kinds.Int ∷ needs) (counts_same counts)

  pub made_moves : (f : Frame) (counts : ℕ) (name : Option Name)
      → Moves number (made_row f counts name) (made_row (numbered_frame number f) counts name)
  made_moves f counts None = no_row_moves number f
  made_moves f counts (Some name) = plain_moves number f _ _ _ _ (counts_same counts) refl

  pub length_moves : (f : Frame) → Moves number (length_row f) (length_row (numbered_frame number f))
  length_moves f = plain_moves number f _ _ _ _ refl refl
