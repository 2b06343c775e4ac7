-- Instructions on arrays in their place in flat code.
use Rattle.std.proofs.Common.{◌≡◌, ◌-◌, ℕ, zero, suc, Bool, true, false, List, [], ◌∷◌, replicate, Option, Some, None, if◌then◌else◌, refl, ap, ◌∙◌}
use Rattle.std.specs.Prelude.{◌==◌, nat_lt}
use Rattle.std.specs.List.{AllByRecursion}
use Rattle.class_model.specs.declared.descriptor.Kind.TheVariants as kinds
use Rattle.class_model.specs.declared.frame.Frame.{Frame}
use Rattle.class_model.specs.declared.frame.VType.{VType}
use Rattle.class_model.specs.declared.frame.VType.TheVariants as types
use Rattle.class_model.specs.declared.opcodes.TheConstants.{AALOAD, IALOAD, AASTORE, IASTORE}
use Rattle.class_tree.specs.Headers.{Name}
use Rattle.expanded_runs.proofs.Types.PlacedRows.{HasOperands, Moves, either_moves, has_enough, no_row_moves, plain_moves}
use Rattle.expanded_runs.proofs.Types.PlacedTypes.{IsKept, Place, lowest_same, placed_frame, placed_stack, placed_type}
use Rattle.member_link.specs.Rows.ArrayRows.{Elements, array_load_row, array_store_row, component_type, elements_from, elements_load_row, elements_of, elements_store_row, length_row, made_row, need_of_value}
use Rattle.member_link.specs.Rows.Operands.{AllFit, IsNullOr, array_of_references, of_kind, lowest_of, topmost}
use Rattle.member_link.specs.Rows.Row.{Row, plain}

module _ (p : Place) (f : Frame) where
  abbrev IsPlain : Option Elements → Type 0
  IsPlain None = Unit {0}
  IsPlain (Some e) = e.type ≡ placed_type p e.type

  either_plain : (test : Bool) (found other : Option Elements) → IsPlain found → IsPlain other → IsPlain (if test then found else other)
  either_plain true found other is also = is
  either_plain false found other is also = also

  elements_plain : (n : ℕ) → IsPlain (elements_of n)
  elements_plain n =
      either_plain (n == 0) _ _ refl (either_plain (n == 1) _ _ refl (either_plain (n == 2) _ _ refl (either_plain (n == 3) _ _ refl
      (either_plain (n == 5) _ _ refl (either_plain (n == 6) _ _ refl (either_plain (n == 7) _ _ refl tt))))))

  from_plain : (first opcode : ℕ) → IsPlain (elements_from first opcode)
  from_plain first opcode = either_plain (nat_lt opcode first) None (elements_of (opcode - first)) tt (elements_plain (opcode - first))

  elements_load_moves : (found : Option Elements) → IsPlain found → HasOperands p f (elements_load_row f found)
      → Moves p f (elements_load_row f found) (elements_load_row (placed_frame p f) found)
  elements_load_moves None is fit = no_row_moves p f fit
  elements_load_moves (Some e) is fit = plain_moves p f _ _ _ (tt, (tt, tt)) (ap (λ (type : VType). type ∷ []) is) fit

  component_same : (type : VType) → component_type type ≡ placed_type p (component_type type)
  component_same (types.Object name) = refl
  component_same other = refl

  -- null, or an array, stays what it is
  array_same : (IsKnown : Name → Type 0) (type : VType) → IsNullOr IsKnown type → placed_type p type ≡ type
  array_same IsKnown (types.Uninit at) is = absurd is
  array_same IsKnown types.UninitThis is = absurd is
  array_same IsKnown other is = refl

  abbrev references_load : Frame → Row
  references_load g = plain g (array_of_references ∷ of_kind kinds.Int ∷ []) (component_type (lowest_of 2 g.stack) ∷ [])

  references_load_moves : HasOperands p f (references_load f) → Moves p f (references_load f) (references_load (placed_frame p f))
  references_load_moves fit = plain_moves p f _ _ _ (tt, (tt, tt)) (ap (λ (type : VType). type ∷ []) element_same) fit where
    lowest : (entries : List VType) → topmost 2 f.stack ≡ entries → AllFit p.scope (array_of_references ∷ of_kind kinds.Int ∷ []) entries
        → placed_type p (lowest_of 2 f.stack) ≡ lowest_of 2 f.stack
    lowest [] are fits = absurd fits
    lowest (array ∷ entries) are fits = rw are (array_same _ array fits.0)

    element_same : component_type (lowest_of 2 (placed_stack p f.stack)) ≡ placed_type p (component_type (lowest_of 2 f.stack))
    element_same =
        ap component_type (lowest_same p 2 f.stack (has_enough p.scope (array_of_references ∷ of_kind kinds.Int ∷ []) f.stack fit)
        ∙ lowest (topmost 2 f.stack) refl fit)
        ∙ component_same (lowest_of 2 f.stack)

  pub array_load_moves : (opcode : ℕ) → HasOperands p f (array_load_row f opcode)
      → Moves p f (array_load_row f opcode) (array_load_row (placed_frame p f) opcode)
  array_load_moves opcode = either_moves p f (opcode == AALOAD) _ _ _ _ references_load_moves
      (elements_load_moves (elements_from IALOAD opcode) (from_plain IALOAD opcode))

  value_need_kept : (type : VType) → IsKept p (need_of_value type)
  value_need_kept types.Long = tt
  value_need_kept types.Float = tt
  value_need_kept types.Double = tt
  value_need_kept other = tt

  elements_store_moves : (found : Option Elements) → HasOperands p f (elements_store_row f found)
      → Moves p f (elements_store_row f found) (elements_store_row (placed_frame p f) found)
  elements_store_moves None fit = no_row_moves p f fit
  elements_store_moves (Some e) fit = plain_moves p f _ _ _ (tt, (tt, (value_need_kept e.type, tt))) refl fit

  pub array_store_moves : (opcode : ℕ) → HasOperands p f (array_store_row f opcode)
      → Moves p f (array_store_row f opcode) (array_store_row (placed_frame p f) opcode)
  array_store_moves opcode =
      either_moves p f (opcode == AASTORE) _ _ _ _ (λ fit. plain_moves p f _ _ _ (tt, (tt, (tt, tt))) refl fit)
      (elements_store_moves (elements_from IASTORE opcode))

  counts_kept : (counts : ℕ) → AllByRecursion (IsKept p) (replicate counts (of_kind kinds.Int))
  counts_kept zero = tt
  counts_kept (suc counts) = (tt, counts_kept counts)

  pub made_moves : (counts : ℕ) (name : Option Name) → HasOperands p f (made_row f counts name)
      → Moves p f (made_row f counts name) (made_row (placed_frame p f) counts name)
  made_moves counts None fit = no_row_moves p f fit
  made_moves counts (Some name) fit = plain_moves p f _ _ _ (counts_kept counts) refl fit

  pub length_moves : HasOperands p f (length_row f) → Moves p f (length_row f) (length_row (placed_frame p f))
  length_moves fit = plain_moves p f _ _ _ (tt, tt) refl fit
