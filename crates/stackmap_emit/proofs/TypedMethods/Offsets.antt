-- The offsets of items that are laid out one after the other: each item has its own, and numbers past the last have the end of the code.
use Rattle.std.proofs.Common.{◌≡◌, ◌==◌, ◌≤◌, ◌<◌, ◌+◌, ◌∙◌, ℕ, zero, suc, false, List, [], ◌∷◌, length, map, slice_index_or, refl, sym, arith}
use Rattle.std.specs.List.{AllByRecursion}
use Rattle.std.proofs.lemmas.Bool.{eq-eqb}
use Rattle.class_model.specs.Instructions.{targets}
use Rattle.class_model.specs.declared.instr.Instr.{Instr}
use Rattle.class_model.specs.declared.instr.Instr.TheVariants.{If, If2, IfSame, IfNull, Goto, Table, Lookup}
use Rattle.class_model.specs.declared.instr.Pair.{Pair}
use Rattle.code_layout.specs.Layout.{Spelled, end_from, len_of, placed_from, start_in, starts_from}
use Rattle.code_layout.specs.declared.emitted.EmitItem.{EmitItem}
use Rattle.member_link.specs.BodyTyping.{AreConsecutivePoints}
use Rattle.member_link.specs.Scope.{Scope}
use Rattle.member_link.specs.Targets.{pair_to, with_targets}
use Rattle.type_rules.specs.MethodBodies.{point_of}

-- ---- instructions with other targets

pairs_by : (one other : ℕ → ℕ) (pairs : List Pair) → AllByRecursion (λ (t : ℕ). one t ≡ other t) (map (λ (p : Pair). p.to) pairs)
    → map (pair_to one) pairs ≡ map (pair_to other) pairs
pairs_by one other [] same = refl
pairs_by one other (p ∷ pairs) same = rw (same.0, pairs_by one other pairs same.1) refl

numbers_by : (one other : ℕ → ℕ) (numbers : List ℕ) → AllByRecursion (λ (t : ℕ). one t ≡ other t) numbers → map one numbers ≡ map other numbers
numbers_by one other [] same = refl
numbers_by one other (t ∷ numbers) same = rw (same.0, numbers_by one other numbers same.1) refl

-- an instruction goes to the same places where two maps agree on its targets
pub targets_by : (one other : ℕ → ℕ) (instr : Instr) → AllByRecursion (λ (t : ℕ). one t ≡ other t) (targets instr)
    → with_targets one instr ≡ with_targets other instr
targets_by one other (If opcode to) same = rw (same.0) refl
targets_by one other (If2 opcode to) same = rw (same.0) refl
targets_by one other (IfSame opcode to) same = rw (same.0) refl
targets_by one other (IfNull opcode to) same = rw (same.0) refl
targets_by one other (Goto to) same = rw (same.0) refl
targets_by one other (Table low other_to to) same = rw (same.0, numbers_by one other to same.1) refl
targets_by one other (Lookup other_to pairs) same = rw (same.0, pairs_by one other pairs same.1) refl
targets_by one other instr same = refl

module _ (spelled : Spelled) where
  -- each item takes a byte at least
  abbrev pub TakeBytes : ℕ → List EmitItem → Type 0
  TakeBytes at [] = Unit {0}
  TakeBytes at (item ∷ items) = (0 < len_of spelled at item.instr) × TakeBytes (at + len_of spelled at item.instr) items

  -- the offset of the item of a number among these, or their end
  abbrev pub offset : ℕ → List EmitItem → ℕ → ℕ
  offset at items number = slice_index_or (starts_from spelled at items) number (end_from spelled at items)

  end_least : (at : ℕ) (items : List EmitItem) → at ≤ end_from spelled at items
  end_least at [] = omega arith
  end_least at (item ∷ items) = let rest = end_least (at + len_of spelled at item.instr) items in omega arith

  -- past the last item is the end
  pub offset_past : (at : ℕ) (items : List EmitItem) (number : ℕ) → length items ≤ number → offset at items number ≡ end_from spelled at items
  offset_past at [] zero past = refl
  offset_past at [] (suc number) past = refl
  offset_past at (item ∷ items) zero past = absurd (omega (arith, past))
  offset_past at (item ∷ items) (suc number) past = offset_past (at + len_of spelled at item.instr) items number (omega (arith, past))

  pub offset_least : (at : ℕ) (items : List EmitItem) (number : ℕ) → at ≤ offset at items number
  offset_least at [] zero = omega arith
  offset_least at [] (suc number) = omega arith
  offset_least at (item ∷ items) zero = omega arith
  offset_least at (item ∷ items) (suc number) =
      let rest = offset_least (at + len_of spelled at item.instr) items number in omega (arith, rest)

  -- among the items it is where the item starts
  pub offset_start : (at : ℕ) (items : List EmitItem) (number : ℕ) → number < length items
      → start_in (starts_from spelled at items) number ≡ offset at items number
  offset_start at [] number within = absurd (omega (arith, within))
  offset_start at (item ∷ items) zero within = refl
  offset_start at (item ∷ items) (suc number) within = offset_start (at + len_of spelled at item.instr) items number (omega (arith, within))

  unlike : (m n : ℕ) → m < n → (m == n) ≡ false
  unlike m n less = grind (arith)

  unlike_too : (m n : ℕ) → n < m → (m == n) ≡ false
  unlike_too m n less = grind (arith)

  next_same : (m n : ℕ) → (suc m == suc n) ≡ (m == n)
  next_same m n = grind (arith)

  -- no other number has the offset of an item
  pub offset_apart : (at : ℕ) (items : List EmitItem) → TakeBytes at items → (number other : ℕ) → number < length items
      → (offset at items other == offset at items number) ≡ (other == number)
  offset_apart at [] take number other within = absurd (omega (arith, within))
  offset_apart at (item ∷ items) take zero zero within = eq-eqb at at refl
  offset_apart at (item ∷ items) take zero (suc other) within =
      let low = offset_least (at + len_of spelled at item.instr) items other in
      let more = take.0 in
      unlike_too (offset at (item ∷ items) (suc other)) at (omega (arith, low, more)) ∙ sym (unlike_too (suc other) 0 (omega arith))
  offset_apart at (item ∷ items) take (suc number) zero within =
      let low = offset_least (at + len_of spelled at item.instr) items number in
      let more = take.0 in
      unlike at (offset at (item ∷ items) (suc number)) (omega (arith, low, more)) ∙ sym (unlike 0 (suc number) (omega arith))
  offset_apart at (item ∷ items) take (suc number) (suc other) within =
      offset_apart (at + len_of spelled at item.instr) items take.1 number other (omega (arith, within)) ∙ sym (next_same other number)

  -- ---- instructions in their places

  module _ (s : Scope) (place : ℕ → ℕ) where
    pub take_bytes : (at : ℕ) (items : List EmitItem) (end : ℕ)
        → AreConsecutivePoints at (map (point_of s) (placed_from spelled place at items)) end
        → TakeBytes at items
    take_bytes at [] end stand = tt
    take_bytes at (item ∷ items) end stand =
        let more = stand.1 in
        (omega (arith, more), take_bytes (at + len_of spelled at item.instr) items end stand.2)

    pub ends_there : (at : ℕ) (items : List EmitItem) (end : ℕ)
        → AreConsecutivePoints at (map (point_of s) (placed_from spelled place at items)) end
        → end_from spelled at items ≡ end
    ends_there at [] end stand = stand
    ends_there at (item ∷ items) end stand = ends_there (at + len_of spelled at item.instr) items end stand.2
