-- The starts of blocks in the wide form, by the numbers of items there.
use Rattle.std.proofs.Common.{◌≡◌, ◌==◌, ◌+◌, ◌≤◌, ℕ, zero, suc, Bool, true, false, List, [], ◌∷◌, ◌++◌, length, drop, map, slice_index_or, Option, Some, None, is_some, refl, sym, ap, ◌∙◌, arith, flat_map, length-append, if◌then◌else◌}
use Rattle.std.specs.List.{AllByRecursion}
use Rattle.class_model.specs.Pool.{Constants}
use Rattle.class_model.specs.declared.instr.Instr.{Instr}
use Rattle.class_model.specs.declared.instr.Instr.TheVariants.{Nop, Const, Ldc, Ldc2, Load, Store, Iinc, ArrayLoad, ArrayStore, Shuffle, Pure, Divide, FloatAsk, If, If2, IfSame, IfNull, Goto, Table, Lookup, Return, GetStatic, PutStatic, GetField, PutField, Invoke, Dynamic, New, NewArray, NewRefArray, NewMulti, Length, Throw, Cast, InstanceOf, Enter, Leave}
use Rattle.class_tree.specs.Headers.{Name}
use Rattle.code_layout.specs.PlainItems.{plain_item, plain_items}
use Rattle.code_layout.specs.WideForm.{jump_over, numbers_from, wide_numbers, width}
use Rattle.code_layout.specs.declared.emitted.EmitItem.{EmitItem}
use Rattle.making_code.specs.IndexedItems.{IndexedItem}
use Rattle.making_code.specs.Items.{WInstr, WItem, carried, constructs, load, makes, plain, store}
use Rattle.making_code.specs.Opposites.{opposite_instr}
use Rattle.member_link.specs.Machine.Replaced.{map_numbered}
use Rattle.plan_flow.specs.PlanScope.{PlanScope}
use Rattle.plan_flow.specs.Written.Finish.{Finished, finished_items}
use Rattle.plan_flow.specs.Written.WrittenCode.{Form, block_items, jumping_to, short, target_number, wide, widened, written_items}
use Rattle.plan_flow.specs.Written.WrittenConstants.{carried_instr, indexed_instr, indexed_item, indexed_items, is_near, with_index}
use Rattle.stackmap_emit.specs.Inner.BlockTables.{AreStarts, form_number, renumbered, starts_in}
use Rattle.written_frames.specs.BlockStarts.{block_starts, start_of_block}
use Rattle.written_frames.specs.WideItems.{KeepsWidth, opposite_of}
use Rattle.written_frames.specs.declared.starts.BlockStart.{BlockStart}

-- ---- conditional jumps

abbrev jumps : Instr → Bool
jumps instr = is_some (opposite_instr instr)

jumps_with : (index : ℕ) (instr : Instr) → jumps (with_index index instr) ≡ jumps instr
jumps_with index Nop = refl
jumps_with index (Const imm) = refl
jumps_with index (Ldc old) = refl
jumps_with index (Ldc2 old) = refl
jumps_with index (Load kind local) = refl
jumps_with index (Store kind local) = refl
jumps_with index (Iinc local by) = refl
jumps_with index (ArrayLoad opcode) = refl
jumps_with index (ArrayStore opcode) = refl
jumps_with index (Shuffle opcode) = refl
jumps_with index (Pure opcode) = refl
jumps_with index (Divide opcode) = refl
jumps_with index (FloatAsk opcode) = refl
jumps_with index (If opcode to) = refl
jumps_with index (If2 opcode to) = refl
jumps_with index (IfSame opcode to) = refl
jumps_with index (IfNull opcode to) = refl
jumps_with index (Goto to) = refl
jumps_with index (Table low other to) = refl
jumps_with index (Lookup other pairs) = refl
jumps_with index (Return kind) = refl
jumps_with index (GetStatic old) = refl
jumps_with index (PutStatic old) = refl
jumps_with index (GetField old) = refl
jumps_with index (PutField old) = refl
jumps_with index (Invoke opcode old count) = refl
jumps_with index (Dynamic old) = refl
jumps_with index (New old) = refl
jumps_with index (NewArray code) = refl
jumps_with index (NewRefArray old) = refl
jumps_with index (NewMulti old dimensions) = refl
jumps_with index Length = refl
jumps_with index Throw = refl
jumps_with index (Cast old) = refl
jumps_with index (InstanceOf old) = refl
jumps_with index Enter = refl
jumps_with index Leave = refl

jumps_to : (numbers : List ℕ) (instr : Instr) → jumps (jumping_to numbers instr) ≡ jumps instr
jumps_to [] instr = refl
jumps_to (number ∷ numbers) Nop = refl
jumps_to (number ∷ numbers) (Const imm) = refl
jumps_to (number ∷ numbers) (Ldc old) = refl
jumps_to (number ∷ numbers) (Ldc2 old) = refl
jumps_to (number ∷ numbers) (Load kind local) = refl
jumps_to (number ∷ numbers) (Store kind local) = refl
jumps_to (number ∷ numbers) (Iinc local by) = refl
jumps_to (number ∷ numbers) (ArrayLoad opcode) = refl
jumps_to (number ∷ numbers) (ArrayStore opcode) = refl
jumps_to (number ∷ numbers) (Shuffle opcode) = refl
jumps_to (number ∷ numbers) (Pure opcode) = refl
jumps_to (number ∷ numbers) (Divide opcode) = refl
jumps_to (number ∷ numbers) (FloatAsk opcode) = refl
jumps_to (number ∷ numbers) (If opcode to) = refl
jumps_to (number ∷ numbers) (If2 opcode to) = refl
jumps_to (number ∷ numbers) (IfSame opcode to) = refl
jumps_to (number ∷ numbers) (IfNull opcode to) = refl
jumps_to (number ∷ numbers) (Goto to) = refl
jumps_to (number ∷ numbers) (Table low other to) = refl
jumps_to (number ∷ numbers) (Lookup other pairs) = refl
jumps_to (number ∷ numbers) (Return kind) = refl
jumps_to (number ∷ numbers) (GetStatic old) = refl
jumps_to (number ∷ numbers) (PutStatic old) = refl
jumps_to (number ∷ numbers) (GetField old) = refl
jumps_to (number ∷ numbers) (PutField old) = refl
jumps_to (number ∷ numbers) (Invoke opcode old count) = refl
jumps_to (number ∷ numbers) (Dynamic old) = refl
jumps_to (number ∷ numbers) (New old) = refl
jumps_to (number ∷ numbers) (NewArray code) = refl
jumps_to (number ∷ numbers) (NewRefArray old) = refl
jumps_to (number ∷ numbers) (NewMulti old dimensions) = refl
jumps_to (number ∷ numbers) Length = refl
jumps_to (number ∷ numbers) Throw = refl
jumps_to (number ∷ numbers) (Cast old) = refl
jumps_to (number ∷ numbers) (InstanceOf old) = refl
jumps_to (number ∷ numbers) Enter = refl
jumps_to (number ∷ numbers) Leave = refl

-- ---- widths

-- an item is as many in the wide form as the one that is written for it
abbrev pub AreAsWide : List EmitItem → List WItem → Type 0
AreAsWide [] [] = Unit {0}
AreAsWide [] (one ∷ others) = ⊥
AreAsWide (item ∷ items) [] = ⊥
AreAsWide (item ∷ items) (one ∷ others) = (width (jump_over item) ≡ length (widened one)) × AreAsWide items others

width_by : (one other : Option Instr) → is_some one ≡ is_some other → width one ≡ width other
width_by one other same = ap (λ (some : Bool). if some then 2 else 1) same

module _ (s : PlanScope) (constructor : Name → List ℕ) (pool : Constants) (form : Form) (blocks : List Finished) where
  instr_jumps : (instr : WInstr) → jumps (indexed_instr s constructor pool instr) ≡ is_some (opposite_of instr)
  instr_jumps (carried class instr) = by (class == s.flat.host.class) refl where
    by : (same : Bool) → (class == s.flat.host.class) ≡ same → jumps (carried_instr s pool class instr) ≡ jumps instr
    by true is = rw is refl
    by false is = rw is (jumps_with _ instr)
  instr_jumps (plain instr) = refl
  instr_jumps (load kind unit) = refl
  instr_jumps (store kind unit) = refl
  instr_jumps (makes class) = refl
  instr_jumps (constructs class) = refl

  as_wide : (number : ℕ) (item : EmitItem) (one : WItem)
      → plain_item item ≡ indexed_item s constructor pool form blocks number one
      → KeepsWidth one
      → width (jump_over item) ≡ length (widened one)
  as_wide number item one is keeps =
      ap (λ (found : IndexedItem). width (if found.near then None else opposite_instr found.instr)) is
      ∙ by (is_near one.targets)
      ∙ keeps where
        by : (near : Bool)
            → width (if near then None
            else opposite_instr (jumping_to (map (target_number form blocks number) one.targets) (indexed_instr s constructor pool one.instr)))
            ≡ width (if near then None else opposite_of one.instr)
        by true = refl
        by false =
            width_by _ _
            (jumps_to (map (target_number form blocks number) one.targets) (indexed_instr s constructor pool one.instr) ∙ instr_jumps one.instr)

  pub are_as_wide : (number : ℕ) (items : List EmitItem) (written : List WItem)
      → plain_items items ≡ map_numbered (indexed_item s constructor pool form blocks) number written
      → AllByRecursion KeepsWidth written
      → AreAsWide items written
  are_as_wide number [] [] is keep = tt
  are_as_wide number [] (one ∷ written) is keep = absurd cc
  are_as_wide number (item ∷ items) [] is keep = absurd cc
  are_as_wide number (item ∷ items) (one ∷ written) is keep =
      let first : plain_item item ≡ indexed_item s constructor pool form blocks number one = cc is in
      let rest : plain_items items ≡ map_numbered (indexed_item s constructor pool form blocks) (suc number) written = cc is in
      (as_wide number item one first keep.0, are_as_wide (suc number) items written rest keep.1)

-- ---- where items stand in the wide form

-- the number of an item, and the number behind the last one
abbrev pub place_from : ℕ → List EmitItem → ℕ → ℕ
place_from number items zero = number
place_from number [] (suc index) = number
place_from number (item ∷ items) (suc index) = place_from (number + width (jump_over item)) items index

place_number : (number end : ℕ) (items : List EmitItem) (index : ℕ) → index ≤ length items → end ≡ place_from number items (length items)
    → slice_index_or (numbers_from number items) index end ≡ place_from number items index
place_number number end [] zero inside is = is
place_number number end [] (suc index) inside is = absurd (omega (arith, inside))
place_number number end (item ∷ items) zero inside is = refl
place_number number end (item ∷ items) (suc index) inside is =
    place_number (number + width (jump_over item)) end items index (omega (arith, inside)) is

-- behind some items
pub place_behind : (number : ℕ) (items : List EmitItem) (count index : ℕ) → count ≤ length items
    → place_from number items (count + index) ≡ place_from (place_from number items count) (drop count items) index
place_behind number items zero index inside = ap (place_from number items) (omega arith)
place_behind number [] (suc count) index inside = absurd (omega (arith, inside))
place_behind number (item ∷ items) (suc count) index inside =
    let here : suc count + index ≡ suc (count + index) = omega arith in
    ap (place_from number (item ∷ items)) here
    ∙ place_behind (number + width (jump_over item)) items count index (omega (arith, inside))

-- the items of a block
abbrev pub wide_length : List WItem → ℕ
wide_length written = length (flat_map widened written)

wide_first : (one : WItem) (written : List WItem) → wide_length (one ∷ written) ≡ length (widened one) + wide_length written
wide_first one written = length-append (widened one) (flat_map widened written)

pub place_block : (number : ℕ) (items : List EmitItem) (left right : List WItem) → AreAsWide items (left ++ right)
    → place_from number items (length left) ≡ number + wide_length left
place_block number items [] right are = omega arith
place_block number [] (one ∷ left) right are = absurd are
place_block number (item ∷ items) (one ∷ left) right are =
    place_block (number + width (jump_over item)) items left right are.1 ∙ omega (arith, are.0, wide_first one left)

pub left_as_wide : (items : List EmitItem) (left right : List WItem) → AreAsWide items (left ++ right) → AreAsWide (drop (length left) items) right
left_as_wide items [] right are = are
left_as_wide [] (one ∷ left) right are = absurd are
left_as_wide (item ∷ items) (one ∷ left) right are = left_as_wide items left right are.1

pub as_many : (items : List EmitItem) (written : List WItem) → AreAsWide items written → length items ≡ length written
as_many [] [] are = refl
as_many [] (one ∷ written) are = absurd are
as_many (item ∷ items) [] are = absurd are
as_many (item ∷ items) (one ∷ written) are = ap suc (as_many items written are.1)

wide_starts_from : (place : ℕ → ℕ) (from number : ℕ) (items : List EmitItem) (blocks : List Finished)
    → AreAsWide items (written_items short blocks)
    → ((index : ℕ) → index ≤ length items → place (from + index) ≡ place_from number items index)
    → map (renumbered place) (block_starts from blocks) ≡ starts_in wide number blocks
wide_starts_from place from number items [] are places = refl
wide_starts_from place from number items (one ∷ others) are places =
    let here : place from ≡ number = ap place (omega arith) ∙ places 0 (omega arith) in
    let own = finished_items one in
    let all : length items ≡ length own + length (written_items short others) = as_many items _ are ∙ length-append own (written_items short others) in
    let next = number + length (block_items wide one) in
    let ends : place_from number items (length own) ≡ next = place_block number items own (written_items short others) are in
    let rest = wide_starts_from place (from + length own) next (drop (length own) items) others (left_as_wide items own (written_items short others) are)
    (λ index inside.
    let long : length (drop (length own) items) ≡ length (written_items short others) = as_many _ _ (left_as_wide items own (written_items short others) are) in
    ap place (omega arith) ∙ places (length own + index) (omega (arith, inside, all, long))
    ∙ place_behind number items (length own) index (omega (arith, all))
    ∙ ap (λ (n : ℕ). place_from n (drop (length own) items) index) ends) in
    ap (λ (n : ℕ). start_of_block n one ∷ map (renumbered place) (block_starts (from + length own) others)) here
    ∙ ap (λ (found : List BlockStart). start_of_block number one ∷ found) rest

wide_end : (number : ℕ) (items : List EmitItem) (written : List WItem) → AreAsWide items written
    → place_from number items (length items) ≡ number + wide_length written
wide_end number [] [] are = omega arith
wide_end number [] (one ∷ written) are = absurd are
wide_end number (item ∷ items) [] are = absurd are
wide_end number (item ∷ items) (one ∷ written) are =
    wide_end (number + width (jump_over item)) items written are.1 ∙ omega (arith, are.0, wide_first one written)

wide_written : (blocks : List Finished) → length (written_items wide blocks) ≡ wide_length (written_items short blocks)
wide_written [] = refl
wide_written (one ∷ others) =
    length-append (block_items wide one) (written_items wide others)
    ∙ ap (λ (n : ℕ). length (block_items wide one) + n) (wide_written others)
    ∙ sym (both (finished_items one) (written_items short others)) where
      both : (left right : List WItem) → wide_length (left ++ right) ≡ wide_length left + wide_length right
      both [] right = omega arith
      both (first ∷ left) right = wide_first first (left ++ right) ∙ omega (arith, both left right, wide_first first left)

-- ---- the starts of blocks

pub wide_starts : (end : ℕ) (items : List EmitItem) (starts : List BlockStart) (blocks : List Finished)
    → AreAsWide items (written_items short blocks)
    → starts ≡ block_starts 0 blocks
    → end ≡ length (written_items wide blocks)
    → AreStarts wide (form_number (Some (wide_numbers items)) end) starts blocks
wide_starts end items starts blocks are is ends =
    let last : end ≡ place_from 0 items (length items) =
    ends ∙ wide_written blocks ∙ sym (wide_end 0 items (written_items short blocks) are ∙ omega arith) in
    ap (map (renumbered (form_number (Some (wide_numbers items)) end))) is
    ∙ wide_starts_from (form_number (Some (wide_numbers items)) end) 0 0 items blocks are
    (λ index inside.
    ap (form_number (Some (wide_numbers items)) end) (plus index) ∙ place_number 0 end items index inside last) where
      plus : (index : ℕ) → 0 + index ≡ index
      plus index = omega arith

same_starts : (end number : ℕ) (blocks : List Finished)
    → map (renumbered (form_number None end)) (block_starts number blocks) ≡ starts_in short number blocks
same_starts end number [] = refl
same_starts end number (one ∷ others) =
    ap (λ (rest : List BlockStart). start_of_block number one ∷ rest) (same_starts end (number + length (finished_items one)) others)

pub short_starts : (end : ℕ) (starts : List BlockStart) (blocks : List Finished) → starts ≡ block_starts 0 blocks
    → AreStarts short (form_number None end) starts blocks
short_starts end starts blocks is = ap (map (renumbered (form_number None end))) is ∙ same_starts end 0 blocks

-- ---- how many items there are

numbered_many : {A B : Type 0} (f : ℕ → A → B) (number : ℕ) (items : List A) → length (map_numbered f number items) ≡ length items
numbered_many f number [] = refl
numbered_many f number (item ∷ items) = ap suc (numbered_many f (suc number) items)

plain_many : (items : List EmitItem) → length (plain_items items) ≡ length items
plain_many [] = refl
plain_many (item ∷ items) = ap suc (plain_many items)

pub items_many : (s : PlanScope) (constructor : Name → List ℕ) (pool : Constants) (form : Form) (blocks : List Finished) (items : List EmitItem)
    → plain_items items ≡ indexed_items s constructor pool form blocks
    → length items ≡ length (written_items form blocks)
items_many s constructor pool form blocks items is =
    sym (plain_many items) ∙ ap length is ∙ numbered_many (indexed_item s constructor pool form blocks) zero (written_items form blocks)
