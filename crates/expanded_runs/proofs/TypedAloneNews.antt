-- The class of a new is that of the new at its number in the flat code of a method by itself.
use Rattle.std.proofs.Common.{◌≡◌, ℕ, Bool, true, false, List, [], ◌∷◌, length, slice_get, Option, Some, None, if◌then◌else◌, refl, ap, ◌∙◌, arith}
use Rattle.std.specs.Prelude.{◌==◌, option_and_then}
use Rattle.class_model.specs.PoolChecks.{class_at}
use Rattle.class_model.specs.declared.class_file.MethodAt.{MethodAt}
use Rattle.class_model.specs.declared.frame.Frame.{Frame}
use Rattle.class_model.specs.declared.instr.Instr.{Instr}
use Rattle.class_model.specs.declared.instr.Instr.TheVariants.{Goto, Table, Lookup, New, If, If2, IfSame, IfNull}
use Rattle.class_model.specs.declared.instr.Placed.{Placed}
use Rattle.class_tree.specs.Headers.{Name, Classes}
use Rattle.expanded_code.specs.Alone.{alone_points, flat_alone, number_at, number_in}
use Rattle.expanded_runs.proofs.TypedAloneNumbers.{number_if}
use Rattle.flow_code.specs.declared.point.FlatInstr.{FlatInstr}
use Rattle.flow_code.specs.declared.point.FlatInstr.TheVariants.{Of}
use Rattle.flow_code.specs.declared.point.Point.{Point}
use Rattle.member_link.specs.Scope.{Scope, class_of_new, instructions}
use Rattle.member_link.specs.Targets.{with_targets}
use Rattle.same_runs.specs.Flats.{class_of_flat_new, pool_of}

module _ (classes : Classes) (s : Scope) (at : MethodAt) (pool_is : pool_of classes at.class ≡ s.class.pool) where
  abbrev made : Instr → Option Name
  made (New index) = class_at s.class.pool index
  made other = None

  abbrev new_among : ℕ → List Placed → Option Name
  new_among n [] = None
  new_among n (placed ∷ others) = if placed.at == n then made placed.instr else new_among n others

  abbrev flat_made : FlatInstr → Option Name
  flat_made (Of class (New index)) = class_at (pool_of classes class) index
  flat_made other = None

  made_same : (instr : Instr) → flat_made (Of at.class (with_targets (number_at s) instr)) ≡ made instr
  made_same (New index) = rw pool_is refl
  made_same (If opcode to) = refl
  made_same (If2 opcode to) = refl
  made_same (IfSame opcode to) = refl
  made_same (IfNull opcode to) = refl
  made_same (Goto to) = refl
  made_same (Table low other to) = refl
  made_same (Lookup other pairs) = refl
  made_same instr = refl

  abbrev made_at : List Placed → List Frame → ℕ → Option Name
  made_at instrs frames n = option_and_then (λ (point : Point). flat_made point.instr) (slice_get (alone_points s at.class instrs frames) n)

  same_new : (instrs : List Placed) (frames : List Frame) → length frames ≡ length instrs → (n : ℕ)
      → made_at instrs frames (number_in instrs n) ≡ new_among n instrs
  same_new [] [] same n = refl
  same_new [] (own ∷ frames) same n = refl
  same_new (placed ∷ instrs) [] same n = absurd (omega (arith, same))
  same_new (placed ∷ instrs) (own ∷ frames) same n = by (placed.at == n) refl (same_new instrs frames (omega (arith, same)) n) where
    by : (here : Bool) → (placed.at == n) ≡ here → made_at instrs frames (number_in instrs n) ≡ new_among n instrs
        → made_at (placed ∷ instrs) (own ∷ frames) (number_in (placed ∷ instrs) n) ≡
        (if here then made placed.instr else new_among n instrs)
    by true e below = ap (made_at (placed ∷ instrs) (own ∷ frames)) (number_if placed instrs n true e) ∙ made_same placed.instr
    by false e below = ap (made_at (placed ∷ instrs) (own ∷ frames)) (number_if placed instrs n false e) ∙ below

  pub new_is_same : (frames : List Frame) → length frames ≡ length (instructions s) → (n : ℕ)
      → class_of_flat_new classes (flat_alone s at frames) (number_at s n) ≡ class_of_new s n
  new_is_same frames same n = same_new (instructions s) frames same n

pub some_point : (f : Point → Option Name) (found : Option Point) (name : Name) → option_and_then f found ≡ Some name
    → (point : Point) × (found ≡ Some point)
some_point f None name is = absurd cc
some_point f (Some point) name is = (point, refl)
