-- What is written of items so far.
use Rattle.std.proofs.Common.{◌≡◌, ℕ, zero, suc, ◌+◌, ◌≤◌, List, [], ◌∷◌, ◌++◌, length, refl, sym, ap, subst, ◌∙◌, append_assoc, arith, length-append}
use Rattle.member_link.specs.Targets.{with_targets}
use Rattle.code_layout.specs.Inner.Writing.{AreSpelled, IsAppended}
use Rattle.code_layout.specs.Layout.{Spelled, end_from, item_starts, len_of, placed_bytes, placed_from, placed_items, start_in, starts_from}
use Rattle.code_layout.specs.declared.emitted.EmitItem.{EmitItem}

-- these bytes, and then what is written of the items that are left
pub record IsWritten (spelled : Spelled) (items : List EmitItem) (starts : List ℕ) (code : List ℕ) (left : List EmitItem) : Type 0 where
  pub bytes : placed_bytes spelled (placed_items spelled items) ≡ code ++ placed_bytes spelled (placed_from spelled (start_in starts) (length code) left)
  pub end : end_from spelled 0 items ≡ end_from spelled (length code) left
  pub spells : AreSpelled spelled (placed_from spelled (start_in starts) (length code) left) → AreSpelled spelled (placed_items spelled items)

-- ---- places

module _ (spelled : Spelled) where
  -- items end where they start, or behind it
  pub end-least : (at : ℕ) (items : List EmitItem) → at ≤ end_from spelled at items
  end-least at [] = omega arith
  end-least at (item ∷ items) = let rest = end-least (at + len_of spelled at item.instr) items in omega arith

  -- and no item starts behind their end
  pub start-most : (at : ℕ) (items : List EmitItem) (most : ℕ) → end_from spelled at items ≤ most → (to : ℕ) → start_in (starts_from spelled at items) to ≤ most
  start-most at [] most fits zero = omega arith
  start-most at [] most fits (suc to) = omega arith
  start-most at (item ∷ items) most fits zero = let low = end-least (at + len_of spelled at item.instr) items in omega arith
  start-most at (item ∷ items) most fits (suc to) = start-most (at + len_of spelled at item.instr) items most fits to

  -- ---- from nothing to all

  pub written-none : (items : List EmitItem) (starts : List ℕ) → starts ≡ item_starts spelled items → IsWritten spelled items starts [] items
  written-none items starts are =
      subst (λ (s : List ℕ). IsWritten spelled items s [] items) (sym are) (record { bytes = refl; end = refl; spells = λ all. all })

  module _ (items : List EmitItem) (starts code after : List ℕ) (item : EmitItem) (left : List EmitItem)
      (kept : length (spelled (length code) (with_targets (start_in starts) item.instr)) ≡ len_of spelled (length code) item.instr)
      (added : IsAppended spelled (start_in starts) item.instr code after) where
    abbrev bytes : List ℕ
    bytes = spelled (length code) (with_targets (start_in starts) item.instr)

    abbrev next : ℕ
    next = length code + len_of spelled (length code) item.instr

    -- it ends where the next one starts
    pub appended-end : length after ≡ next
    appended-end = ap length added.bytes ∙ length-append code bytes ∙ ap (λ (n : ℕ). length code + n) kept

    -- one more item
    pub written-more : IsWritten spelled items starts code (item ∷ left) → IsWritten spelled items starts after left
    written-more written = record {
      bytes =
          written.bytes
          ∙ sym (append_assoc code bytes (placed_bytes spelled (placed_from spelled (start_in starts) next left)))
          ∙ ap (λ (all : List ℕ). all ++ placed_bytes spelled (placed_from spelled (start_in starts) next left)) (sym added.bytes)
          ∙ ap (λ (n : ℕ). after ++ placed_bytes spelled (placed_from spelled (start_in starts) n left)) (sym appended-end);
      end = written.end ∙ ap (λ (n : ℕ). end_from spelled n left) (sym appended-end);
      spells = λ rest. written.spells (added.spells, subst (λ (n : ℕ). AreSpelled spelled (placed_from spelled (start_in starts) n left)) appended-end rest);
    }
