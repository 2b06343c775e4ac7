-- Instructions that are written one after the other are read back.
use Rattle.std.proofs.Common.{◌≡◌, ℕ, zero, suc, ltb, ◌+◌, ◌≤◌, ◌<◌, Bool, true, false, ◌||◌, List, [], ◌∷◌, ◌++◌, length, map, slice_get, Some, Ok, refl, ap, subst, arith, length-append, IsTrue}
use Rattle.std.specs.List.{AllByRecursion}
use Rattle.std.proofs.lemmas.Bool.{eq-eqb}
use Rattle.std.proofs.Math.Seq.{drop-append_seam}
use Rattle.class_model.specs.Instructions.{CodeOf, IsSpelling, instr_at, instrs_at, is_start, targets}
use Rattle.class_model.specs.declared.instr.Instr.{Instr}
use Rattle.class_model.specs.declared.instr.Instr.TheVariants.{Nop, If, If2, IfSame, IfNull, Goto, Table, Lookup}
use Rattle.class_model.specs.declared.instr.Pair.{Pair}
use Rattle.class_model.specs.declared.instr.Placed.{Placed}
use Rattle.member_link.specs.Targets.{pair_to, with_targets}
use Rattle.code_layout.specs.Emitting.{IsEmitted, NamesItem}
use Rattle.code_layout.specs.Inner.Writing.{AreSpelled}
use Rattle.code_layout.specs.Layout.{Spelled, end_from, item_starts, len_of, placed_bytes, placed_from, placed_items, start_in, starts_from}
use Rattle.code_layout.specs.declared.emitted.EmitItem.{EmitItem}
use Rattle.code_layout.proofs.Kept.{KeepLens}
use Rattle.code_layout.proofs.Written.{end-least}

-- nothing is spells by no bytes
some-bytes : (at : ℕ) (instr : Instr) → IsSpelling at instr [] → ⊥
unfolding instr_at
some-bytes at instr spells =
    let e : (Nop, 1) ≡ (instr, 0) = let o : Ok (Nop, 1) ≡ Ok (instr, 0) = spells [] in cc in
    let n : true ≡ false = ap (λ (p : Instr × ℕ). ltb 0 p.1) e in cc

-- one instruction, and then others
reads-one : (left at : ℕ) (instr : Instr) (front rest : List ℕ) (others : List Placed) → IsSpelling at instr front → instrs_at left (at + length front) rest ≡ Ok others
    → instrs_at (suc left) at (front ++ rest) ≡ Ok (record { at = at; len = length front; instr = instr } ∷ others)
unfolding instrs_at
reads-one left at instr [] rest others spells behind = absurd (some-bytes at instr spells)
reads-one left at instr (byte ∷ front) rest others spells behind =
    rw (spells rest, drop-append_seam (byte ∷ front) rest, behind) refl

-- An instruction has a byte at least, so that a first number as large as the bytes are is enough.
pub some-len : (at : ℕ) (instr : Instr) (bytes : List ℕ) → IsSpelling at instr bytes → 0 < length bytes
some-len at instr [] spells = absurd (some-bytes at instr spells)
some-len at instr (byte ∷ bytes) spells = omega arith

-- what holds of the item of each number holds of all
pub all-items : (P : EmitItem → Type 0) (items : List EmitItem) → ((at : ℕ) (item : EmitItem) → slice_get items at ≡ Some item → P item) → AllByRecursion P items
all-items P [] each = tt
all-items P (item ∷ items) each = (each 0 item refl, all-items P items (λ at i is. each (suc at) i is))

module _ (spelled : Spelled) where
  -- all of them, if there are enough of the first number
  pub reads-all : (place : ℕ → ℕ) (most : ℕ) → KeepLens spelled place most → (left at : ℕ) (items : List EmitItem) → end_from spelled at items ≤ most → AreSpelled spelled (placed_from spelled place at items)
      → length (placed_bytes spelled (placed_from spelled place at items)) ≤ left → instrs_at left at (placed_bytes spelled (placed_from spelled place at items)) ≡ Ok (placed_from spelled place at items)
  unfolding instrs_at
  reads-all place most kept zero at [] fits spells enough = refl
  reads-all place most kept (suc left) at [] fits spells enough = refl
  reads-all place most kept zero at (item ∷ items) fits spells enough =
      let front = spelled at (with_targets place item.instr) in
      let rest = placed_bytes spelled (placed_from spelled place (at + len_of spelled at item.instr) items) in
      absurd (omega (arith, some-len at (with_targets place item.instr) front spells.0, length-append front rest))
  reads-all place most kept (suc left) at (item ∷ items) fits spells enough =
      let instr = with_targets place item.instr in
      let front = spelled at instr in
      let next = at + len_of spelled at item.instr in
      let rest = placed_bytes spelled (placed_from spelled place next items) in
      let low : at ≤ most = let l = end-least spelled next items in omega arith in
      let long : length front ≡ len_of spelled at item.instr = kept at item.instr low in
      let few : length rest ≤ left = omega (arith, some-len at instr front spells.0, length-append front rest) in
      let behind = reads-all place most kept left next items fits spells.1 few in
      let behind' : instrs_at left (at + length front) rest ≡ Ok (placed_from spelled place next items) = rw long behind in
      subst (λ (n : ℕ). instrs_at (suc left) at (front ++ rest) ≡ Ok (record { at = at; len = n; instr = instr } ∷ placed_from spelled place next items)) long
      (reads-one left at instr front rest (placed_from spelled place next items) spells.0 behind')

  -- ---- targets

  or_true : (x : Bool) → x || true ≡ true
  or_true true = refl
  or_true false = refl

  -- the start of an item is that of an instruction
  pub start-is : (place : ℕ → ℕ) (at : ℕ) (items : List EmitItem) (to : ℕ) → to < length items → is_start (placed_from spelled place at items) (start_in (starts_from spelled at items) to) ≡ true
  start-is place at [] to within = absurd (omega arith)
  start-is place at (item ∷ items) zero within = rw (eq-eqb at at refl) refl
  start-is place at (item ∷ items) (suc to) within =
      let next = at + len_of spelled at item.instr in
      rw (start-is place next items to (omega arith), or_true) refl

  module _ (instrs : List Placed) (place : ℕ → ℕ) (n : ℕ) (is : (to : ℕ) → to < n → IsTrue (is_start instrs (place to))) where
    abbrev Starts : List ℕ → Type 0
    Starts to = AllByRecursion (λ t. IsTrue (is_start instrs t)) to

    each-start : (to : List ℕ) → AllByRecursion (NamesItem n) to → Starts (map place to)
    each-start [] names = tt
    each-start (t ∷ to) names = (is t names.0, each-start to names.1)

    each-pair : (pairs : List Pair) → AllByRecursion (NamesItem n) (map (λ (p : Pair). p.to) pairs) → Starts (map (λ (p : Pair). p.to) (map (pair_to place) pairs))
    each-pair [] names = tt
    each-pair (p ∷ pairs) names = (is p.to names.0, each-pair pairs names.1)

    pub targets-start : (instr : Instr) → AllByRecursion (NamesItem n) (targets instr) → AllByRecursion (λ t. IsTrue (is_start instrs t)) (targets (with_targets place instr))
    targets-start (If opcode to) names = (is to names.0, tt)
    targets-start (If2 opcode to) names = (is to names.0, tt)
    targets-start (IfSame opcode to) names = (is to names.0, tt)
    targets-start (IfNull opcode to) names = (is to names.0, tt)
    targets-start (Goto to) names = (is to names.0, tt)
    targets-start (Table low other to) names = (is other names.0, each-start to names.1)
    targets-start (Lookup other pairs) names = (is other names.0, each-pair pairs names.1)
    targets-start instr names = names

    pub all-start : (at : ℕ) (items : List EmitItem) → AllByRecursion (λ item. AllByRecursion (NamesItem n) (targets item.instr)) items
        → AllByRecursion (λ p. AllByRecursion (λ t. IsTrue (is_start instrs t)) (targets p.instr)) (placed_from spelled place at items)
    all-start at [] names = tt
    all-start at (item ∷ items) names = (targets-start item.instr names.0, all-start (at + len_of spelled at item.instr) items names.1)

  -- ---- the code

  -- they are not empty
  some-code : (items : List EmitItem) (code : List ℕ) → 0 < length items → code ≡ placed_bytes spelled (placed_items spelled items) → AreSpelled spelled (placed_items spelled items) → 0 < length code
  some-code [] code some is spells = absurd (omega arith)
  some-code (item ∷ items) code some is spells =
      let place = start_in (item_starts spelled (item ∷ items)) in
      let front = spelled 0 (with_targets place item.instr) in
      omega (arith, some-len 0 (with_targets place item.instr) front spells.0, ap length is, length-append front (placed_bytes spelled (placed_from spelled place (0 + len_of spelled 0 item.instr) items)))

  -- bytes that are written of items in their short form are a code of their instructions
  pub laid-code : (items : List EmitItem) (code : List ℕ) → IsEmitted items → KeepLens spelled (start_in (item_starts spelled items)) (end_from spelled 0 items) → end_from spelled 0 items ≤ 65535 → code ≡ placed_bytes spelled (placed_items spelled items) → AreSpelled spelled (placed_items spelled items) → length code ≡ end_from spelled 0 items
      → CodeOf code (placed_items spelled items)
  laid-code items code emitted kept fits is spells long =
      let place = start_in (item_starts spelled items) in
      let names = all-items (λ item. AllByRecursion (NamesItem (length items)) (targets item.instr)) items (λ at item i. (emitted.each at item i).targets) in
      record {
        some = some-code items code emitted.some is spells;
        few = omega arith;
        covers = rw is (reads-all place (end_from spelled 0 items) kept (length (placed_bytes spelled (placed_items spelled items))) 0 items (omega arith) spells (omega arith));
        starts = all-start (placed_items spelled items) place (length items) (λ to within. start-is place 0 items to within) 0 items names;
      }
