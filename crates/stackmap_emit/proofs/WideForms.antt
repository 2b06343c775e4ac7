-- Emitted items that are made wide are those of the definition in the wide form.
use Rattle.std.proofs.Common.{◌≡◌, ◌==◌, ◌+◌, ◌<◌, ℕ, zero, suc, Bool, true, false, List, [], ◌∷◌, ◌++◌, length, drop, map, slice_get, slice_index_or, Option, Some, None, is_some, refl, sym, ap, subst, ◌∙◌, arith, flat_map, length-append, append-nil, append_assoc, if◌then◌else◌}
use Rattle.std.specs.List.{AllByRecursion}
use Rattle.std.proofs.lemmas.Bool.{eqb-true, false≢true}
use Rattle.std.proofs.lemmas.List.{length-map}
use Rattle.std.proofs.lemmas.Option.{none-some, same_Some}
use Rattle.class_model.specs.Instructions.{targets}
use Rattle.class_model.specs.Pool.{Constants}
use Rattle.class_model.specs.declared.instr.Imm.TheVariants as imms
use Rattle.class_model.specs.declared.instr.Instr.{Instr}
use Rattle.class_model.specs.declared.instr.Instr.TheVariants.{Nop, Const, Ldc, Ldc2, Load, Store, Iinc, ArrayLoad, ArrayStore, Shuffle, Pure, Divide, FloatAsk, If, If2, IfSame, IfNull, Goto, Table, Lookup, Return, GetStatic, PutStatic, GetField, PutField, Invoke, Dynamic, New, NewArray, NewRefArray, NewMulti, Length, Throw, Cast, InstanceOf, Enter, Leave}
use Rattle.class_model.specs.declared.instr.Pair.{Pair}
use Rattle.class_tree.specs.Headers.{Name}
use Rattle.code_layout.specs.Emitting.{HasInstr, IsEmitted, IsItem, JumpsNear, NamesItem}
use Rattle.code_layout.specs.Layout.{start_in}
use Rattle.code_layout.specs.PlainItems.{plain_item, plain_items}
use Rattle.code_layout.specs.WideForm as layout
use Rattle.code_layout.specs.WideForm.{goto_item, jump_over, numbers_from, one_target, over_item, renumbered_catch, renumbered_catches, renumbered_item, wide_from, wide_item, wide_numbers, width}
use Rattle.code_layout.specs.declared.emitted.Catch.{Catch}
use Rattle.code_layout.specs.declared.emitted.EmitItem.{EmitItem}
use Rattle.making_code.specs.IndexedItems.{IndexedItem}
use Rattle.making_code.specs.Items.{WCatch, WInstr, WItem, WTarget, ahead, carried, constructs, load, makes, plain, store, to_handler_pad, to_jump_pad, to_point}
use Rattle.making_code.specs.Opposites.{opposite, opposite_instr}
use Rattle.member_link.specs.Machine.Replaced.{map_numbered}
use Rattle.member_link.specs.Targets.{pair_to, with_targets}
use Rattle.plan_flow.specs.PlanScope.{PlanScope}
use Rattle.plan_flow.specs.Written.Blocks.{BlockOf}
use Rattle.plan_flow.specs.Written.Finish.{Finished, finished_items}
use Rattle.plan_flow.specs.Written.WrittenCode.{Form, block_items, jumping_to, over_goto, pairs_to, short, start_from, start_of, target_number, wide, widened, written_items}
use Rattle.plan_flow.specs.Written.WrittenConstants.{carried_instr, catch_index, indexed_instr, indexed_item, indexed_items, is_near, with_index}
use Rattle.stackmap_emit.proofs.WidePlaces.{AreAsWide, are_as_wide, as_many, left_as_wide, place_behind, place_block, place_from}
use Rattle.written_frames.specs.Laws.Turnings.{Turning, no_turn, turn_if, turn_if2, turn_null, turn_same, turning}
use Rattle.written_frames.specs.WideItems.{GoesWide, KeepsWidth, LeadsToBlock, opposite_of}

-- ---- instructions with other targets

pairs_placed : (place : ℕ → ℕ) (pairs : List Pair) (numbers : List ℕ)
    → map (pair_to place) (pairs_to pairs numbers) ≡ pairs_to pairs (map place numbers)
pairs_placed place [] numbers = refl
pairs_placed place (pair ∷ pairs) [] = refl
pairs_placed place (pair ∷ pairs) (number ∷ numbers) =
    ap (λ (rest : List Pair). record { key = pair.key; to = place number } ∷ rest) (pairs_placed place pairs numbers)

-- without targets
same_placed : (place : ℕ → ℕ) (instr : Instr) → 0 ≡ length (targets instr) → with_targets place instr ≡ instr
same_placed place Nop none = refl
same_placed place (Const imm) none = refl
same_placed place (Ldc index) none = refl
same_placed place (Ldc2 index) none = refl
same_placed place (Load kind local) none = refl
same_placed place (Store kind local) none = refl
same_placed place (Iinc local by) none = refl
same_placed place (ArrayLoad opcode) none = refl
same_placed place (ArrayStore opcode) none = refl
same_placed place (Shuffle opcode) none = refl
same_placed place (Pure opcode) none = refl
same_placed place (Divide opcode) none = refl
same_placed place (FloatAsk opcode) none = refl
same_placed place (If opcode to) none = absurd (omega (arith, none))
same_placed place (If2 opcode to) none = absurd (omega (arith, none))
same_placed place (IfSame opcode to) none = absurd (omega (arith, none))
same_placed place (IfNull opcode to) none = absurd (omega (arith, none))
same_placed place (Goto to) none = absurd (omega (arith, none))
same_placed place (Table low other to) none = absurd (omega (arith, none))
same_placed place (Lookup other pairs) none = absurd (omega (arith, none))
same_placed place (Return kind) none = refl
same_placed place (GetStatic index) none = refl
same_placed place (PutStatic index) none = refl
same_placed place (GetField index) none = refl
same_placed place (PutField index) none = refl
same_placed place (Invoke opcode index count) none = refl
same_placed place (Dynamic index) none = refl
same_placed place (New index) none = refl
same_placed place (NewArray code) none = refl
same_placed place (NewRefArray index) none = refl
same_placed place (NewMulti index dimensions) none = refl
same_placed place Length none = refl
same_placed place Throw none = refl
same_placed place (Cast index) none = refl
same_placed place (InstanceOf index) none = refl
same_placed place Enter none = refl
same_placed place Leave none = refl

-- with some
some_placed : (place : ℕ → ℕ) (number : ℕ) (numbers : List ℕ) (instr : Instr) → length (targets instr) ≡ suc (length numbers)
    → with_targets place (jumping_to (number ∷ numbers) instr) ≡ jumping_to (place number ∷ map place numbers) instr
some_placed place number numbers Nop many = absurd (omega (arith, many))
some_placed place number numbers (Const imm) many = absurd (omega (arith, many))
some_placed place number numbers (Ldc index) many = absurd (omega (arith, many))
some_placed place number numbers (Ldc2 index) many = absurd (omega (arith, many))
some_placed place number numbers (Load kind local) many = absurd (omega (arith, many))
some_placed place number numbers (Store kind local) many = absurd (omega (arith, many))
some_placed place number numbers (Iinc local by) many = absurd (omega (arith, many))
some_placed place number numbers (ArrayLoad opcode) many = absurd (omega (arith, many))
some_placed place number numbers (ArrayStore opcode) many = absurd (omega (arith, many))
some_placed place number numbers (Shuffle opcode) many = absurd (omega (arith, many))
some_placed place number numbers (Pure opcode) many = absurd (omega (arith, many))
some_placed place number numbers (Divide opcode) many = absurd (omega (arith, many))
some_placed place number numbers (FloatAsk opcode) many = absurd (omega (arith, many))
some_placed place number numbers (If opcode to) many = refl
some_placed place number numbers (If2 opcode to) many = refl
some_placed place number numbers (IfSame opcode to) many = refl
some_placed place number numbers (IfNull opcode to) many = refl
some_placed place number numbers (Goto to) many = refl
some_placed place number numbers (Table low other to) many = refl
some_placed place number numbers (Lookup other pairs) many = ap (Lookup (place number)) (pairs_placed place pairs numbers)
some_placed place number numbers (Return kind) many = absurd (omega (arith, many))
some_placed place number numbers (GetStatic index) many = absurd (omega (arith, many))
some_placed place number numbers (PutStatic index) many = absurd (omega (arith, many))
some_placed place number numbers (GetField index) many = absurd (omega (arith, many))
some_placed place number numbers (PutField index) many = absurd (omega (arith, many))
some_placed place number numbers (Invoke opcode index count) many = absurd (omega (arith, many))
some_placed place number numbers (Dynamic index) many = absurd (omega (arith, many))
some_placed place number numbers (New index) many = absurd (omega (arith, many))
some_placed place number numbers (NewArray code) many = absurd (omega (arith, many))
some_placed place number numbers (NewRefArray index) many = absurd (omega (arith, many))
some_placed place number numbers (NewMulti index dimensions) many = absurd (omega (arith, many))
some_placed place number numbers Length many = absurd (omega (arith, many))
some_placed place number numbers Throw many = absurd (omega (arith, many))
some_placed place number numbers (Cast index) many = absurd (omega (arith, many))
some_placed place number numbers (InstanceOf index) many = absurd (omega (arith, many))
some_placed place number numbers Enter many = absurd (omega (arith, many))
some_placed place number numbers Leave many = absurd (omega (arith, many))

placed_targets : (place : ℕ → ℕ) (numbers : List ℕ) (instr : Instr) → length (targets instr) ≡ length numbers
    → with_targets place (jumping_to numbers instr) ≡ jumping_to (map place numbers) instr
placed_targets place [] instr many = same_placed place instr (sym many)
placed_targets place (number ∷ numbers) instr many = some_placed place number numbers instr many

-- ---- places

place_below : (number end : ℕ) (items : List EmitItem) (index : ℕ) → index < length items
    → slice_index_or (numbers_from number items) index end ≡ place_from number items index
place_below number end [] index inside = absurd (omega (arith, inside))
place_below number end (item ∷ items) zero inside = refl
place_below number end (item ∷ items) (suc index) inside = place_below (number + width (jump_over item)) end items index (omega (arith, inside))

place_next : (number : ℕ) (items : List EmitItem) (index : ℕ) (item : EmitItem) → slice_get items index ≡ Some item
    → place_from number items (index + 1) ≡ place_from number items index + width (jump_over item)
place_next number [] index item is = absurd (none-some item is)
place_next number (first ∷ items) zero item is =
    let one : 0 + 1 ≡ suc zero = omega arith in
    ap (place_from number (first ∷ items)) one ∙ ap (λ (found : EmitItem). number + width (jump_over found)) (same_Some first item is)
place_next number (first ∷ items) (suc index) item is =
    let more : suc index + 1 ≡ suc (index + 1) = omega arith in
    ap (place_from number (first ∷ items)) more ∙ place_next (number + width (jump_over first)) items index item is

-- where a block starts
start_alike : (place : ℕ → ℕ) (is_it : BlockOf → Bool) (from number : ℕ) (items : List EmitItem) (blocks : List Finished)
    → AreAsWide items (written_items short blocks)
    → ((index : ℕ) → index < length items → place (from + index) ≡ place_from number items index)
    → start_from short is_it from blocks < from + length items
    → place (start_from short is_it from blocks) ≡ start_from wide is_it number blocks
start_alike place is_it from number items [] are places low =
    let none = as_many items [] are in absurd (omega (arith, low, none))
start_alike place is_it from number items (one ∷ others) are places low =
    by (is_it one.block.of) refl (λ more. start_alike place is_it (from + length (finished_items one)) (number + length (block_items wide one)) (drop (length (finished_items one)) items) others
    (left_as_wide items (finished_items one) (written_items short others) are)
    (λ index inside.
    ap place (omega arith) ∙ places (length (finished_items one) + index) (omega (arith, inside, all, rest_long))
    ∙ place_behind number items (length (finished_items one)) index (omega (arith, all))
    ∙ ap (λ (n : ℕ). place_from n (drop (length (finished_items one)) items) index) ends) more) where
      all : length items ≡ length (finished_items one) + length (written_items short others)
      all = as_many items _ are ∙ length-append (finished_items one) (written_items short others)

      rest_long : length (drop (length (finished_items one)) items) ≡ length (written_items short others)
      rest_long = as_many _ _ (left_as_wide items (finished_items one) (written_items short others) are)

      ends : place_from number items (length (finished_items one)) ≡ (number + length (block_items wide one))
      ends = place_block number items (finished_items one) (written_items short others) are

      by : (here : Bool) → is_it one.block.of ≡ here
          → (start_from short is_it (from + length (finished_items one)) others < (from + length (finished_items one)) + length (drop (length (finished_items one)) items)
          → place (start_from short is_it (from + length (finished_items one)) others) ≡ start_from wide is_it (number + length (block_items wide one)) others)
          → place (start_from short is_it from (one ∷ others)) ≡ start_from wide is_it number (one ∷ others)
      by true here rest =
          let first : start_from short is_it from (one ∷ others) ≡ from =
          ap (λ (b : Bool). if b then from else start_from short is_it (from + length (finished_items one)) others) here in
          let some : 0 < length items = omega (arith, low, first) in
          let plus : from ≡ from + 0 = omega arith in
          ap place first ∙ ap place plus ∙ places 0 some
          ∙ sym (ap (λ (b : Bool). if b then number else start_from wide is_it (number + length (block_items wide one)) others) here)
      by false here rest =
          let behind : start_from short is_it from (one ∷ others) ≡ start_from short is_it (from + length (finished_items one)) others =
          ap (λ (b : Bool). if b then from else start_from short is_it (from + length (finished_items one)) others) here in
          ap place behind
          ∙ rest (omega (arith, low, behind, all, rest_long))
          ∙ sym (ap (λ (b : Bool). if b then number else start_from wide is_it (number + length (block_items wide one)) others) here)

-- ---- lists

map_both : {A B : Type 0} (f : A → B) (left right : List A) → map f (left ++ right) ≡ map f left ++ map f right
map_both f [] right = refl
map_both {B = B} f (first ∷ left) right = ap (λ (rest : List B). f first ∷ rest) (map_both f left right)

numbered_both : {A B : Type 0} (f : ℕ → A → B) (number : ℕ) (left right : List A)
    → map_numbered f number (left ++ right) ≡ map_numbered f number left ++ map_numbered f (number + length left) right
numbered_both f number [] right = ap (λ (n : ℕ). map_numbered f n right) (omega arith)
numbered_both {B = B} f number (first ∷ left) right =
    let more : suc number + length left ≡ number + length (first ∷ left) = omega arith in
    ap (λ (rest : List B). f number first ∷ rest)
    (numbered_both f (suc number) left right
    ∙ ap (λ (n : ℕ). map_numbered f (suc number) left ++ map_numbered f n right) more)

first_same : {A : Type 0} (one other : A) (ones others : List A) → one ∷ ones ≡ other ∷ others → one ≡ other
first_same one other ones others same = cc same

rest_same : {A : Type 0} (one other : A) (ones others : List A) → one ∷ ones ≡ other ∷ others → ones ≡ others
rest_same one other ones others same = cc same

-- ---- one item

over_of : (one : WItem) (class : ℕ) (instr : Instr) → one.instr ≡ carried class instr → widened one ≡ over_goto one class (opposite_instr instr)
over_of one class instr told = rw told refl

-- an item that is one in the wide form
single : (one : WItem) → 1 ≡ length (widened one) → widened one ≡ one ∷ []
single one is = by one.instr refl where
  by_jump : (class : ℕ) (jump : Option Instr) → 1 ≡ length (over_goto one class jump) → over_goto one class jump ≡ one ∷ []
  by_jump class None same = refl
  by_jump class (Some instr) same = absurd (omega (arith, same))

  by : (instr : WInstr) → one.instr ≡ instr → widened one ≡ one ∷ []
  by (carried class instr) told =
      let over = over_of one class instr told in
      over ∙ by_jump class (opposite_instr instr) (is ∙ ap length over)
  by (plain instr) told = rw told refl
  by (load kind unit) told = rw told refl
  by (store kind unit) told = rw told refl
  by (makes class) told = rw told refl
  by (constructs class) told = rw told refl

near_is : (all : List WTarget) → is_near all ≡ true → all ≡ ahead 3 ∷ []
near_is [] is = absurd (false≢true is)
near_is (to_point to ∷ []) is = absurd (false≢true is)
near_is (to_jump_pad at number ∷ []) is = absurd (false≢true is)
near_is (to_handler_pad at number ∷ []) is = absurd (false≢true is)
near_is (ahead count ∷ []) is = ap (λ (n : ℕ). ahead n ∷ []) (eqb-true count 3 is)
near_is (to_point to ∷ other ∷ others) is = absurd (false≢true is)
near_is (to_jump_pad at number ∷ other ∷ others) is = absurd (false≢true is)
near_is (to_handler_pad at number ∷ other ∷ others) is = absurd (false≢true is)
near_is (ahead count ∷ other ∷ others) is = absurd (false≢true is)

module _ (s : PlanScope) (constructor : Name → List ℕ) (pool : Constants) (blocks : List Finished) (items : List EmitItem)
    (emitted : IsEmitted items)
    (same : plain_items items ≡ indexed_items s constructor pool short blocks)
    (all : AllByRecursion (GoesWide s constructor pool blocks) (written_items short blocks)) where
  abbrev place : ℕ → ℕ
  place = start_in (wide_numbers items)

  abbrev indexed : Form → ℕ → WItem → IndexedItem
  indexed form number one = indexed_item s constructor pool form blocks number one

  widths : (written : List WItem) → AllByRecursion (GoesWide s constructor pool blocks) written → AllByRecursion KeepsWidth written
  widths [] go = tt
  widths (one ∷ written) go = (go.0.width, widths written go.1)

  are_wide : AreAsWide items (written_items short blocks)
  are_wide = are_as_wide s constructor pool short blocks 0 items (written_items short blocks) same (widths (written_items short blocks) all)

  place_is : (index : ℕ) → index < length items → place index ≡ place_from 0 items index
  place_is index inside = place_below 0 0 items index inside

  -- ---- targets

  start_same : (is_it : BlockOf → Bool) → start_of short blocks is_it < length items → place (start_of short blocks is_it) ≡ start_of wide blocks is_it
  start_same is_it low =
      start_alike place is_it 0 0 items blocks are_wide
      (λ index inside. let zeroth : 0 + index ≡ index = omega arith in ap place zeroth ∙ place_is index inside) (omega (arith, low))

  long : length items ≡ length (written_items short blocks)
  long = as_many items (written_items short blocks) are_wide

  target_same : (from number : ℕ) (target : WTarget) → LeadsToBlock blocks target
      → place (target_number short blocks from target) ≡ target_number wide blocks number target
  target_same from number (to_point to) leads = start_same _ (omega (arith, leads, long))
  target_same from number (to_jump_pad at edge) leads = start_same _ (omega (arith, leads, long))
  target_same from number (to_handler_pad at handler) leads = start_same _ (omega (arith, leads, long))
  target_same from number (ahead count) leads = absurd leads

  targets_same : (from number : ℕ) (list : List WTarget) → AllByRecursion (LeadsToBlock blocks) list
      → map place (map (target_number short blocks from) list) ≡ map (target_number wide blocks number) list
  targets_same from number [] leads = refl
  targets_same from number (target ∷ list) leads =
      cc (target_same from number target leads.0, targets_same from number list leads.1)

  abbrev caught : Form → ℕ → List WCatch → List (ℕ × ℕ)
  caught form number catches = map (λ (catch : WCatch). (target_number form blocks number catch.to, catch_index pool catch.class)) catches

  abbrev plain_catches : List Catch → List (ℕ × ℕ)
  plain_catches catches = map (λ (catch : Catch). (catch.to, catch.catch_type)) catches

  catches_same : (from number : ℕ) (made : List Catch) (catches : List WCatch)
      → plain_catches made ≡ caught short from catches
      → AllByRecursion (λ (catch : WCatch). LeadsToBlock blocks catch.to) catches
      → plain_catches (renumbered_catches place made) ≡ caught wide number catches
  catches_same from number [] [] is leads = refl
  catches_same from number [] (catch ∷ catches) is leads = absurd (cc is)
  catches_same from number (one ∷ made) [] is leads = absurd (cc is)
  catches_same from number (one ∷ made) (catch ∷ catches) is leads =
      let first : (one.to, one.catch_type) ≡ (target_number short blocks from catch.to, catch_index pool catch.class) = first_same _ _ _ _ is in
      let to : one.to ≡ target_number short blocks from catch.to = ap (λ (pair : ℕ × ℕ). pair.0) first in
      let type : one.catch_type ≡ catch_index pool catch.class = ap (λ (pair : ℕ × ℕ). pair.1) first in
      let rest : plain_catches made ≡ caught short from catches = rest_same _ _ _ _ is in
      let here : place one.to ≡ target_number wide blocks number catch.to =
      ap place to ∙ target_same from number catch.to leads.0 in
      ap (λ (n : ℕ). (n, one.catch_type) ∷ plain_catches (renumbered_catches place made)) here
      ∙ ap (λ (n : ℕ). (target_number wide blocks number catch.to, n) ∷ plain_catches (renumbered_catches place made)) type
      ∙ ap (λ (found : List (ℕ × ℕ)). (target_number wide blocks number catch.to, catch_index pool catch.class) ∷ found)
      (catches_same from number made catches rest leads.1)

  -- ---- one item

  module _ (at : ℕ) (made : EmitItem) (one : WItem) (is_made : slice_get items at ≡ Some made)
      (is : plain_item made ≡ indexed short at one) (goes : GoesWide s constructor pool blocks one)
      (wide_is : width (jump_over made) ≡ length (widened one)) where
    abbrev number : ℕ
    number = place_from 0 items at

    abbrev numbers : List ℕ
    numbers = map (target_number short blocks at) one.targets

    abbrev own : Instr
    own = indexed_instr s constructor pool one.instr

    item : IsItem items at made
    item = emitted.each at made is_made

    instr_is : made.instr ≡ jumping_to numbers own
    instr_is = ap (λ (x : IndexedItem). x.instr) is

    near_same : made.near ≡ is_near one.targets
    near_same = ap (λ (x : IndexedItem). x.near) is

    many : length (targets own) ≡ length numbers
    many = goes.many ∙ sym (length-map one.targets (target_number short blocks at))

    catches_made : plain_catches (renumbered_catches place made.catches) ≡ caught wide number one.catches
    catches_made = catches_same at number made.catches one.catches (ap (λ (x : IndexedItem). x.catches) is) goes.handlers

    -- where the item stays one
    abbrev StaysSo : Type 0
    StaysSo = plain_item (renumbered_item place made) ≡ indexed wide number one

    stays : map place numbers ≡ map (target_number wide blocks number) one.targets → StaysSo
    stays led =
        let instr : with_targets place made.instr ≡ jumping_to (map (target_number wide blocks number) one.targets) own =
        ap (with_targets place) instr_is ∙ placed_targets place numbers own many ∙ ap (λ (list : List ℕ). jumping_to list own) led in
        cc (instr, near_same, catches_made)

    next_place : (index : ℕ) (instr : Instr) → HasInstr items index instr → opposite_instr instr ≡ None
        → place_from 0 items (index + 1) ≡ place_from 0 items index + 1
    next_place index instr has none =
        let jump : jump_over has.0 ≡ None = by has.0.near refl in
        place_next 0 items index has.0 has.1 ∙ ap (λ (found : Option Instr). place_from 0 items index + width found) jump where
          by : (near : Bool) → has.0.near ≡ near → jump_over has.0 ≡ None
          by true told = rw told refl
          by false told = rw (told, has.2) none

    -- the jump inside a test for null
    stays_near : is_near one.targets ≡ true → StaysSo
    stays_near near =
        let only = near_is one.targets near in
        let jumps : JumpsNear items at made.instr = item.near (near_same ∙ near) in
        let inside : at + 3 < length items = (subst (λ (instr : Instr). AllByRecursion (NamesItem (length items)) (targets instr)) jumps.jump item.targets).0 in
        let jump : jump_over made ≡ None =
        ap (λ (b : Bool). if b then None else opposite_instr made.instr) (near_same ∙ near) in
        let first = place_next 0 items at made is_made ∙ ap (λ (found : Option Instr). place_from 0 items at + width found) jump in
        let second = next_place (at + 1) (Const imms.Null) jumps.null refl in
        let third = next_place (at + 2) Throw jumps.throw refl in
        let one_more : at + 1 + 1 ≡ at + 2 = omega arith in
        let two_more : at + 2 + 1 ≡ at + 3 = omega arith in
        let second_is = ap (place_from 0 items) (sym one_more) ∙ second in
        let third_is = ap (place_from 0 items) (sym two_more) ∙ third in
        let goes_to : place (at + 3) ≡ number + 3 = place_is (at + 3) inside ∙ omega (arith, first, second_is, third_is) in
        stays
        (ap (λ (list : List WTarget). map place (map (target_number short blocks at) list)) only
        ∙ ap (λ (n : ℕ). n ∷ []) goes_to
        ∙ sym (ap (map (target_number wide blocks number)) only))

    stays_far : is_near one.targets ≡ false → StaysSo
    stays_far far = stays (targets_same at number one.targets (goes.leads far))

    one_item : jump_over made ≡ None
        → plain_items (wide_item place number made None) ≡ map_numbered (indexed wide) number (widened one)
    one_item none =
        let alone = single one (ap width (sym none) ∙ wide_is) in
        ap (λ (x : IndexedItem). x ∷ []) (by (is_near one.targets) refl)
        ∙ sym (ap (map_numbered (indexed wide) number) alone) where
          by : (near : Bool) → is_near one.targets ≡ near → StaysSo
          by true near = stays_near near
          by false far = stays_far far

    -- a conditional jump, which is the opposite one over a goto
    module _ (make : ℕ → ℕ → Instr) (class opcode to : ℕ) (is_instr : one.instr ≡ carried class (make opcode to))
        (jumps : (number opcode to : ℕ) (numbers : List ℕ) → jumping_to (number ∷ numbers) (make opcode to) ≡ make opcode number)
        (turns : (opcode to : ℕ) → opposite_instr (make opcode to) ≡ Some (make (opposite opcode) to))
        (leads : (opcode to : ℕ) → targets (make opcode to) ≡ to ∷ [])
        (puts : (f : ℕ → ℕ) (opcode to : ℕ) → with_targets f (make opcode to) ≡ make opcode (f to))
        (keeps : (index opcode to : ℕ) → with_index index (make opcode to) ≡ make opcode to)
        (far : is_near one.targets ≡ false) where
      own_is : (opcode number : ℕ) → carried_instr s pool class (make opcode number) ≡ make opcode number
      own_is opcode number = by (class == s.flat.host.class) refl where
        by : (b : Bool) → (class == s.flat.host.class) ≡ b → carried_instr s pool class (make opcode number) ≡ make opcode number
        by true told = rw told refl
        by false told = rw told (keeps _ opcode number)

      own_made : own ≡ make opcode to
      own_made = ap (indexed_instr s constructor pool) is_instr ∙ own_is opcode to

      one_target_only : (list : List WTarget) → length list ≡ 1 → (target : WTarget) × (list ≡ target ∷ [])
      one_target_only [] is = absurd (omega (arith, is))
      one_target_only (target ∷ []) is = (target, refl)
      one_target_only (target ∷ other ∷ list) is = absurd (omega (arith, is))

      only : (target : WTarget) × (one.targets ≡ target ∷ [])
      only = one_target_only one.targets (sym goes.many ∙ ap (λ (instr : Instr). length (targets instr)) own_made ∙ ap length (leads opcode to))

      abbrev reached : ℕ
      reached = target_number short blocks at only.0

      made_is : made.instr ≡ make opcode reached
      made_is =
          instr_is
          ∙ ap (λ (list : List WTarget). jumping_to (map (target_number short blocks at) list) own) only.1
          ∙ ap (jumping_to (reached ∷ [])) own_made
          ∙ jumps reached opcode to []

      abbrev turned : Instr
      turned = make (opposite opcode) reached

      jump_is : jump_over made ≡ Some turned
      jump_is =
          ap (λ (b : Bool). if b then None else opposite_instr made.instr) (near_same ∙ far)
          ∙ ap opposite_instr made_is ∙ turns opcode reached

      none : one.catches ≡ []
      none =
          goes.none_caught
          (ap (λ (b : Bool). is_some (if b then None else opposite_of one.instr)) far
          ∙ ap (λ (instr : WInstr). is_some (opposite_of instr)) is_instr ∙ ap is_some (turns opcode to))

      no_catches : plain_catches (renumbered_catches place made.catches) ≡ []
      no_catches = catches_made ∙ ap (caught wide number) none

      -- the item over the goto, and the goto
      abbrev over : WItem
      over = record { instr = carried class (make (opposite opcode) to); targets = ahead 2 ∷ []; catches = [] }

      abbrev leap : WItem
      leap = record { instr = plain (Goto 0); targets = one.targets; catches = [] }

      wide_made : widened one ≡ over ∷ leap ∷ []
      wide_made = over_of one class (make opcode to) is_instr ∙ ap (over_goto one class) (turns opcode to)

      over_same : plain_item (over_item place number made turned) ≡ indexed wide number over
      over_same =
          let instr : with_targets (λ _. number + 2) turned ≡ jumping_to ((number + 2) ∷ []) (carried_instr s pool class (make (opposite opcode) to)) =
          puts (λ _. number + 2) (opposite opcode) reached
          ∙ sym (ap (jumping_to ((number + 2) ∷ [])) (own_is (opposite opcode) to) ∙ jumps (number + 2) (opposite opcode) to []) in
          cc (instr, no_catches)

      goes_to : place reached ≡ target_number wide blocks (suc number) only.0
      goes_to = target_same at (suc number) only.0 (subst (AllByRecursion (LeadsToBlock blocks)) only.1 (goes.leads far)).0

      leap_same : plain_item (goto_item place made) ≡ indexed wide (suc number) leap
      leap_same =
          let to_is : one_target made.instr ≡ reached =
          ap one_target made_is ∙ ap (λ (list : List ℕ). slice_index_or list 0 0) (leads opcode reached) in
          let instr : Goto (place (one_target made.instr)) ≡ jumping_to (map (target_number wide blocks (suc number)) one.targets) (Goto 0) =
          ap (λ (n : ℕ). Goto (place n)) to_is ∙ ap Goto goes_to
          ∙ sym (ap (λ (list : List WTarget). jumping_to (map (target_number wide blocks (suc number)) list) (Goto 0)) only.1) in
          cc (instr, far)

      two_items : (plain_items (wide_item place number made (jump_over made)) ≡ map_numbered (indexed wide) number (widened one))
      two_items =
          ap (λ (jump : Option Instr). plain_items (wide_item place number made jump)) jump_is
          ∙ cc (over_same, leap_same)
          ∙ sym (ap (map_numbered (indexed wide) number) wide_made)

    -- whatever it is
    abbrev GoesOn : Type 0
    GoesOn = plain_items (wide_item place number made (jump_over made)) ≡ map_numbered (indexed wide) number (widened one)

    is_one : jump_over made ≡ None → GoesOn
    is_one none = ap (λ (jump : Option Instr). plain_items (wide_item place number made jump)) none ∙ one_item none

    far_of : (jump : Instr) → jump_over made ≡ Some jump → is_near one.targets ≡ false
    far_of jump told = by (is_near one.targets) refl where
      by : (near : Bool) → is_near one.targets ≡ near → is_near one.targets ≡ false
      by false is = is
      by true is =
          absurd (none-some jump (sym (ap (λ (b : Bool). if b then None else opposite_instr made.instr) (near_same ∙ is)) ∙ told))

    is_two : (jump : Instr) → jump_over made ≡ Some jump → GoesOn
    is_two jump some = of_instr one.instr refl where
      two : 2 ≡ length (widened one)
      two = ap width (sym some) ∙ wide_is

      far : is_near one.targets ≡ false
      far = far_of jump some

      alone : length (widened one) ≡ 1 → GoesOn
      alone is = absurd (omega (arith, two, is))

      of_jump : (class : ℕ) (instr : Instr) → one.instr ≡ carried class instr → Turning instr → GoesOn
      of_jump class instr told (no_turn none) =
          alone (ap length (over_of one class instr told ∙ ap (over_goto one class) none))
      of_jump class instr told (turn_if opcode to) =
          two_items If class opcode to told (λ number opcode to numbers. refl) (λ opcode to. refl) (λ opcode to. refl) (λ f opcode to. refl)
          (λ index opcode to. refl) far
      of_jump class instr told (turn_if2 opcode to) =
          two_items If2 class opcode to told (λ number opcode to numbers. refl) (λ opcode to. refl) (λ opcode to. refl) (λ f opcode to. refl)
          (λ index opcode to. refl) far
      of_jump class instr told (turn_same opcode to) =
          two_items IfSame class opcode to told (λ number opcode to numbers. refl) (λ opcode to. refl) (λ opcode to. refl) (λ f opcode to. refl)
          (λ index opcode to. refl) far
      of_jump class instr told (turn_null opcode to) =
          two_items IfNull class opcode to told (λ number opcode to numbers. refl) (λ opcode to. refl) (λ opcode to. refl) (λ f opcode to. refl)
          (λ index opcode to. refl) far

      of_instr : (instr : WInstr) → one.instr ≡ instr → GoesOn
      of_instr (carried class instr) told = of_jump class instr told (turning instr)
      of_instr (plain instr) told = alone (rw told refl)
      of_instr (load kind unit) told = alone (rw told refl)
      of_instr (store kind unit) told = alone (rw told refl)
      of_instr (makes class) told = alone (rw told refl)
      of_instr (constructs class) told = alone (rw told refl)

    goes_on : GoesOn
    goes_on = by (jump_over made) refl where
      by : (jump : Option Instr) → jump_over made ≡ jump → GoesOn
      by None none = is_one none
      by (Some jump) some = is_two jump some

  -- ---- all items

  from_item : (at : ℕ) (left : List EmitItem) (written : List WItem)
      → ((k : ℕ) → slice_get items (at + k) ≡ slice_get left k)
      → plain_items left ≡ map_numbered (indexed short) at written
      → AllByRecursion (GoesWide s constructor pool blocks) written
      → AreAsWide left written
      → plain_items (wide_from place (place_from 0 items at) left) ≡ map_numbered (indexed wide) (place_from 0 items at) (flat_map widened written)
  from_item at [] [] are is goes as_wide = refl
  from_item at [] (one ∷ written) are is goes as_wide = absurd (cc is)
  from_item at (made ∷ left) [] are is goes as_wide = absurd (cc is)
  from_item at (made ∷ left) (one ∷ written) are is goes as_wide =
      let number = place_from 0 items at in
      let first : plain_item made ≡ indexed short at one = cc is in
      let rest : plain_items left ≡ map_numbered (indexed short) (suc at) written = cc is in
      let here : at ≡ at + 0 = omega arith in
      let is_made : slice_get items at ≡ Some made = ap (slice_get items) here ∙ are 0 in
      let jump = jump_over made in
      let more : suc at ≡ at + 1 = omega arith in
      let next : place_from 0 items (suc at) ≡ number + width jump = ap (place_from 0 items) more ∙ place_next 0 items at made is_made in
      let behind = from_item (suc at) left written
      (λ k. let further : suc at + k ≡ at + suc k = omega arith in ap (slice_get items) further ∙ are (suc k)) rest goes.1 as_wide.1 in
      let long : number + width jump ≡ number + length (widened one) = ap (λ (n : ℕ). number + n) as_wide.0 in
      map_both plain_item (wide_item place number made jump) (wide_from place (number + width jump) left)
      ∙ ap (λ (items : List IndexedItem). items ++ plain_items (wide_from place (number + width jump) left)) (goes_on at made one is_made first goes.0 as_wide.0)
      ∙ ap (λ (n : ℕ). map_numbered (indexed wide) number (widened one) ++ plain_items (wide_from place n left)) (sym next)
      ∙ ap (λ (items : List IndexedItem). map_numbered (indexed wide) number (widened one) ++ items) behind
      ∙ ap (λ (n : ℕ). map_numbered (indexed wide) number (widened one) ++ map_numbered (indexed wide) n (flat_map widened written)) (next ∙ long)
      ∙ sym (numbered_both (indexed wide) number (widened one) (flat_map widened written))

  -- the items of blocks made wide are those that are made wide of the items of blocks
  widened_all : (list : List Finished) → flat_map widened (written_items short list) ≡ written_items wide list
  widened_all [] = refl
  widened_all (one ∷ others) = both (finished_items one) (written_items short others) ∙ ap (λ (items : List WItem). block_items wide one ++ items) (widened_all others) where
    both : (left right : List WItem) → flat_map widened (left ++ right) ≡ flat_map widened left ++ flat_map widened right
    both [] right = refl
    both (first ∷ left) right =
        ap (λ (items : List WItem). widened first ++ items) (both left right) ∙ sym (append_assoc (widened first) (flat_map widened left) (flat_map widened right))

  pub items_are_wide : layout.closing items ≡ [] → plain_items (layout.widened items) ≡ indexed_items s constructor pool wide blocks
  items_are_wide closes =
      ap (λ (behind : List EmitItem). plain_items (wide_from place 0 items ++ behind)) closes
      ∙ ap plain_items (append-nil (wide_from place 0 items))
      ∙ from_item 0 items (written_items short blocks) (λ k. ap (slice_get items) (omega arith)) same all are_wide
      ∙ ap (map_numbered (indexed wide) 0) (widened_all blocks)
