-- The numbers of instructions by their offsets, and how many points stand for them.
use Rattle.std.proofs.Common.{◌≡◌, ◌==◌, ◌≤◌, ℕ, zero, suc, Bool, true, false, List, [], ◌∷◌, length, Option, Some, None, option_map, refl, sym, ap, subst, arith, if◌then◌else◌}
use Rattle.class_model.specs.declared.frame.Frame.{Frame}
use Rattle.class_model.specs.declared.instr.Placed.{Placed}
use Rattle.expanded_code.specs.Alone.{alone_points, number_in}
use Rattle.member_link.specs.Machine.Programs.{number_of_first}
use Rattle.member_link.specs.Scope.{Scope}

-- the number of the first behind so many, or behind them all
abbrev pub or_behind : ℕ → Option ℕ → ℕ
or_behind behind None = behind
or_behind behind (Some number) = number

-- the first that passes a test is one of them
first-within : {A : Type 0} (passes : A → Bool) (items : List A) → or_behind (length items) (number_of_first passes items) ≤ length items
first-within passes [] = omega arith
first-within passes (item ∷ items) = more (passes item) (number_of_first passes items) (first-within passes items) where
  more : (here : Bool) (found : Option ℕ) → or_behind (length items) found ≤ length items
      → or_behind (suc (length items)) (if here then Some zero else option_map suc found) ≤ suc (length items)
  more true found within = omega arith
  more false None within = omega arith
  more false (Some number) within = omega (arith, within)

-- the number of an instruction in these words
pub found-instr : (instrs : List Placed) (at : ℕ) (found : Option ℕ) → number_of_first (λ (placed : Placed). placed.at == at) instrs ≡ found → number_in instrs at ≡ or_behind (length instrs) found
found-instr instrs at None is = rw is refl
found-instr instrs at (Some number) is = rw is refl

pub number-within : (instrs : List Placed) (at : ℕ) → number_in instrs at ≤ length instrs
number-within instrs at =
    let found = number_of_first (λ (placed : Placed). placed.at == at) instrs in
    subst (λ (n : ℕ). n ≤ length instrs) (sym (found-instr instrs at found refl)) (first-within (λ (placed : Placed). placed.at == at) instrs)

-- each instruction has a point
pub length-alone : (s : Scope) (class : ℕ) (instrs : List Placed) (frames : List Frame) → length frames ≡ length instrs → length (alone_points s class instrs frames) ≡ length instrs
length-alone s class [] [] one-each = refl
length-alone s class [] (frame ∷ frames) one-each = absurd cc
length-alone s class (placed ∷ instrs) [] one-each = absurd cc
length-alone s class (placed ∷ instrs) (frame ∷ frames) one-each = ap suc (length-alone s class instrs frames (omega (arith, one-each)))
