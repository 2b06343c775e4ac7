-- Emitted code in its wide form: each conditional jump is the opposite one over a goto, which has 32 bits there (JVM Specification SE 8,
-- 6.5.goto_w). Only the jump inside a test for null stays. It is this project's profile.
use Rattle.std.specs.Prelude.{ℕ, ◌+◌, List, [], ◌∷◌, ◌++◌, map, slice_index_or, is_some, Bool, Option, Some, None, if◌then◌else◌}
use Rattle.class_model.specs.Instructions.{targets}
use Rattle.class_model.specs.declared.instr.Instr.{Instr}
use Rattle.class_model.specs.declared.instr.Instr.TheVariants.{Goto, Nop}
use Rattle.making_code.specs.Opposites.{opposite_instr}
use Rattle.member_link.specs.Targets.{with_targets}
use Rattle.code_layout.specs.Layout.{start_in}
use Rattle.code_layout.specs.declared.emitted.Catch.{Catch}
use Rattle.code_layout.specs.declared.emitted.EmitItem.{EmitItem}

-- the jump that is written over a goto in place of an item's instruction, if there is one
abbrev pub jump_over : EmitItem → Option Instr
jump_over item = if item.near then None else opposite_instr item.instr

-- ---- numbers

-- how many items it is written as
abbrev pub width : Option Instr → ℕ
width jump = if is_some jump then 2 else 1

-- the number of each item among those of the wide form
abbrev pub numbers_from : ℕ → List EmitItem → List ℕ
numbers_from number [] = []
numbers_from number (item ∷ items) =
    number ∷ numbers_from (number + width (jump_over item)) items

abbrev pub wide_numbers : List EmitItem → List ℕ
wide_numbers items = numbers_from 0 items

-- ---- items

abbrev pub renumbered_catch : (ℕ → ℕ) → Catch → Catch
renumbered_catch renumber catch =
    record { to = renumber catch.to; catch_type = catch.catch_type }

abbrev pub renumbered_catches : (ℕ → ℕ) → List Catch → List Catch
renumbered_catches renumber catches = map (renumbered_catch renumber) catches

-- the target of an instruction that has one
abbrev pub one_target : Instr → ℕ
one_target instr = slice_index_or (targets instr) 0 0

abbrev pub renumbered_item : (ℕ → ℕ) → EmitItem → EmitItem
renumbered_item renumber item = record {
  instr = with_targets renumber item.instr;
  near = item.near;
  catches = renumbered_catches renumber item.catches;
}

-- the opposite jump, which stands at a number, to behind the goto
abbrev pub over_item : (ℕ → ℕ) → ℕ → EmitItem → Instr → EmitItem
over_item renumber number item instr = record {
  instr = with_targets (λ _. number + 2) instr;
  near = Bool.false;
  catches = renumbered_catches renumber item.catches;
}

abbrev pub goto_item : (ℕ → ℕ) → EmitItem → EmitItem
goto_item renumber item =
    record { instr = Goto (renumber (one_target item.instr)); near = Bool.false; catches = [] }

-- what an item is written as whose first number this is
abbrev pub wide_item : (ℕ → ℕ) → ℕ → EmitItem → Option Instr → List EmitItem
wide_item renumber number item None = renumbered_item renumber item ∷ []
wide_item renumber number item (Some instr) =
    over_item renumber number item instr ∷ goto_item renumber item ∷ []

abbrev pub wide_from : (ℕ → ℕ) → ℕ → List EmitItem → List EmitItem
wide_from renumber number [] = []
wide_from renumber number (item ∷ items) =
    wide_item renumber number item (jump_over item)
    ++ wide_from renumber (number + width (jump_over item)) items

-- Where the last item is such a jump, which no code of a method ends with, a nop stands behind the goto: what the jump leads to.
abbrev pub nop_item : EmitItem
nop_item = record { instr = Nop; near = Bool.false; catches = [] }

abbrev pub nop_behind : Option Instr → List EmitItem
nop_behind jump = if is_some jump then nop_item ∷ [] else []

abbrev pub closing : List EmitItem → List EmitItem
closing [] = []
closing (item ∷ []) = nop_behind (jump_over item)
closing (item ∷ next ∷ items) = closing (next ∷ items)

-- The items of the wide form.
abbrev pub widened : List EmitItem → List EmitItem
widened items = wide_from (start_in (wide_numbers items)) 0 items ++ closing items
