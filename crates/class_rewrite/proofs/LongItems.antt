-- Items that are too many make a code that is too long, in whichever form; and emitted items are those of the form in which they are laid out.
use Rattle.std.proofs.Common.{◌≡◌, ◌+◌, ◌++◌, ◌<◌, ◌≤◌, ◌⊎◌, ℕ, zero, suc, Bool, true, false, List, [], ◌∷◌, length, map, Option, Some, None, if◌then◌else◌, inl, inr, refl, sym, ap, subst, ◌∙◌, arith, length-append}
use Rattle.std.proofs.lemmas.Bool.{false≢true}
use Rattle.std.specs.Prelude.{is_some, nat_le}
use Rattle.std.specs.List.{AllByRecursion, flat_map}
use Rattle.class_model.specs.Pool.{Constants}
use Rattle.class_model.specs.declared.instr.Instr.{Instr}
use Rattle.class_rewrite.proofs.ItemBytes.{bytes_many}
use Rattle.class_rewrite.specs.Rewriting.Methods.{IsTooLong}
use Rattle.class_tree.specs.Headers.{Name}
use Rattle.code_drafts.specs.Counts.{AreTooMany, table_entries}
use Rattle.code_layout.specs.ChosenForm.{IsLong, IsWithin, chosen_items, chosen_len, chosen_spelled, is_short}
use Rattle.code_layout.specs.Layout.{end_from, table_len}
use Rattle.code_layout.specs.PlainItems.{plain_item, plain_items}
use Rattle.code_layout.specs.declared.emitted.Catch.{Catch}
use Rattle.code_layout.specs.declared.emitted.EmitItem.{EmitItem}
use Rattle.making_code.specs.IndexedItems.{IndexedItem}
use Rattle.making_code.specs.Items.{WCatch, WInstr, WItem, carried, constructs, load, makes, plain, store}
use Rattle.making_code.specs.Opposites.{opposite_instr}
use Rattle.member_link.specs.Machine.Replaced.{map_numbered}
use Rattle.plan_flow.specs.PlanScope.{PlanScope}
use Rattle.plan_flow.specs.Written.Finish.{Finished, finished_items}
use Rattle.plan_flow.specs.Written.WrittenCode.{Form, block_items, short, wide, widened, written_items}
use Rattle.plan_flow.specs.Written.WrittenConstants.{indexed_item, indexed_items}
use Rattle.stackmap_emit.specs.FramedItems.{form_of}
use Rattle.stackmap_emit.specs.PlacedFrames.{spelled_in}
use Rattle.written_frames.specs.WideItems.{GoesWide, KeepsWidth, jump_of}

-- ---- items that are emitted for given ones

abbrev emit_of : IndexedItem → EmitItem
emit_of one = record {
  instr = one.instr;
  near = one.near;
  catches = map {B = Catch} (λ (catch : ℕ × ℕ). record { to = catch.0; catch_type = catch.1 }) one.catches;
}

catches_back : (catches : List (ℕ × ℕ))
    → map {B = ℕ × ℕ} (λ (catch : Catch). (catch.to, catch.catch_type)) (map {B = Catch} (λ (catch : ℕ × ℕ). record { to = catch.0; catch_type = catch.1 }) catches)
    ≡ catches
catches_back [] = refl
catches_back (catch ∷ catches) = ap (λ (rest : List (ℕ × ℕ)). catch ∷ rest) (catches_back catches)

item_back : (one : IndexedItem) → plain_item (emit_of one) ≡ one
item_back one = ap (λ (catches : List (ℕ × ℕ)). record { instr = one.instr; near = one.near; catches = catches }) (catches_back one.catches)

items_back : (ones : List IndexedItem) → plain_items (map emit_of ones) ≡ ones
items_back [] = refl
items_back (one ∷ ones) =
    ap (λ (first : IndexedItem). first ∷ plain_items (map emit_of ones)) (item_back one)
    ∙ ap (λ (rest : List IndexedItem). one ∷ rest) (items_back ones)

-- there are items that are these plain ones
pub emitted_there : (ones : List IndexedItem) → (items : List EmitItem) × (plain_items items ≡ ones)
emitted_there ones = (map emit_of ones, items_back ones)

-- ---- as many items, and as many handlers

abbrev plain_entries : List IndexedItem → ℕ
plain_entries [] = 0
plain_entries (one ∷ ones) = length one.catches + plain_entries ones

mapped_many : {A B : Type 0} (f : A → B) (xs : List A) → length (map f xs) ≡ length xs
mapped_many f [] = refl
mapped_many f (x ∷ xs) = ap suc (mapped_many f xs)

table_plain : (items : List EmitItem) → table_len items ≡ plain_entries (plain_items items)
table_plain [] = refl
table_plain (item ∷ items) =
    let here = mapped_many {B = ℕ × ℕ} (λ (catch : Catch). (catch.to, catch.catch_type)) item.catches in
    let rest = table_plain items in omega (arith, here, rest)

module _ (s : PlanScope) (constructor : Name → List ℕ) (pool : Constants) (form : Form) (blocks : List Finished) where
  numbered_many : (number : ℕ) (ones : List WItem) → length (map_numbered (indexed_item s constructor pool form blocks) number ones) ≡ length ones
  numbered_many number [] = refl
  numbered_many number (one ∷ ones) = ap suc (numbered_many (suc number) ones)

  numbered_entries : (number : ℕ) (ones : List WItem) → plain_entries (map_numbered (indexed_item s constructor pool form blocks) number ones) ≡ table_entries ones
  numbered_entries number [] = refl
  numbered_entries number (one ∷ ones) =
      let here = mapped_many (λ (catch : ℕ × ℕ). catch) (indexed_item s constructor pool form blocks number one).catches in
      let same : length (indexed_item s constructor pool form blocks number one).catches ≡ length one.catches = mapped_many _ one.catches in
      let rest = numbered_entries (suc number) ones in omega (arith, same, rest)

  pub items_many : (items : List EmitItem) → plain_items items ≡ indexed_items s constructor pool form blocks → length items ≡ length (written_items form blocks)
  items_many items are = sym (mapped_many plain_item items) ∙ ap length are ∙ numbered_many zero (written_items form blocks)

  items_entries : (items : List EmitItem) → plain_items items ≡ indexed_items s constructor pool form blocks → table_len items ≡ table_entries (written_items form blocks)
  items_entries items are = table_plain items ∙ ap plain_entries are ∙ numbered_entries zero (written_items form blocks)

-- ---- the wide form

some_widened : (one : WItem) → 1 ≤ length (widened one)
some_widened one = by one.instr refl where
  over : (class : ℕ) (instr : Instr) → one.instr ≡ carried class instr → (found : Option Instr) → opposite_instr instr ≡ found → 1 ≤ length (widened one)
  over class instr is None none = rw (is, none) (omega arith)
  over class instr is (Some other) some = rw (is, some) (omega arith)

  by : (instr : WInstr) → one.instr ≡ instr → 1 ≤ length (widened one)
  by (carried class instr) is = over class instr is (opposite_instr instr) refl
  by (plain instr) is = rw (is) (omega arith)
  by (load kind unit) is = rw (is) (omega arith)
  by (store kind unit) is = rw (is) (omega arith)
  by (makes class) is = rw (is) (omega arith)
  by (constructs class) is = rw (is) (omega arith)

widened_many : (ones : List WItem) → length ones ≤ length (flat_map widened ones)
widened_many [] = omega arith
widened_many (one ∷ ones) =
    let some = some_widened one in
    let rest = widened_many ones in
    let both = length-append (widened one) (flat_map widened ones) in omega (arith, some, rest, both)

entries_both : (ones others : List WItem) → table_entries (ones ++ others) ≡ table_entries ones + table_entries others
entries_both [] others = omega arith
entries_both (one ∷ ones) others = let rest = entries_both ones others in omega (arith, rest)

blocks_many : (blocks : List Finished) → length (written_items short blocks) ≤ length (written_items wide blocks)
blocks_many [] = omega arith
blocks_many (one ∷ blocks) =
    let here = widened_many (finished_items one) in
    let rest = blocks_many blocks in
    let low = length-append (finished_items one) (written_items short blocks) in
    let high = length-append (flat_map widened (finished_items one)) (written_items wide blocks) in omega (arith, here, rest, low, high)

-- in whichever form there are at least as many as in the short one
form_many : (form : Form) (blocks : List Finished) → length (written_items short blocks) ≤ length (written_items form blocks)
form_many short blocks = omega arith
form_many wide blocks = blocks_many blocks

module _ (s : PlanScope) (constructor : Name → List ℕ) (pool : Constants) (blocks : List Finished) where
  abbrev Goes : WItem → Type 0
  Goes one = GoesWide s constructor pool blocks one

  -- a conditional jump that is written over a goto has no handler
  widened_entries : (one : WItem) → Goes one → table_entries (widened one) ≡ length one.catches
  widened_entries one goes = by one.instr refl where
    alone : widened one ≡ one ∷ [] → table_entries (widened one) ≡ length one.catches
    alone is = ap table_entries is ∙ omega arith

    none : is_some (jump_of one) ≡ true → table_entries (widened one) ≡ 0 → table_entries (widened one) ≡ length one.catches
    none jumps is = is ∙ sym (ap length (goes.none_caught jumps))

    over : (class : ℕ) (instr : Instr) → one.instr ≡ carried class instr → (found : Option Instr) → opposite_instr instr ≡ found
        → table_entries (widened one) ≡ length one.catches
    over class instr is None absent = alone (rw (is, absent) refl)
    over class instr is (Some other) some = two (is_some (jump_of one)) refl where
      long : length (widened one) ≡ 2
      long = rw (is, some) refl

      two : (jumps : Bool) → is_some (jump_of one) ≡ jumps → table_entries (widened one) ≡ length one.catches
      two true jumps = none jumps (rw (is, some) refl)
      two false jumps =
          let width : (if is_some (jump_of one) then 2 else 1) ≡ length (widened one) = goes.width in
          let one_item : 1 ≡ length (widened one) = subst (λ (b : Bool). (if b then 2 else 1) ≡ length (widened one)) jumps width in
          absurd (omega (arith, one_item, long))

    by : (instr : WInstr) → one.instr ≡ instr → table_entries (widened one) ≡ length one.catches
    by (carried class instr) is = over class instr is (opposite_instr instr) refl
    by (plain instr) is = alone (rw (is) refl)
    by (load kind unit) is = alone (rw (is) refl)
    by (store kind unit) is = alone (rw (is) refl)
    by (makes class) is = alone (rw (is) refl)
    by (constructs class) is = alone (rw (is) refl)

  all_entries : (ones : List WItem) → AllByRecursion Goes ones → table_entries (flat_map widened ones) ≡ table_entries ones
  all_entries [] all = refl
  all_entries (one ∷ ones) all =
      let here = widened_entries one all.0 in
      let rest = all_entries ones all.1 in
      let both = entries_both (widened one) (flat_map widened ones) in omega (arith, here, rest, both)

  first_of : (P : WItem → Type 0) (ones others : List WItem) → AllByRecursion P (ones ++ others) → AllByRecursion P ones × AllByRecursion P others
  first_of P [] others all = (tt, all)
  first_of P (one ∷ ones) others all = let rest = first_of P ones others all.1 in ((all.0, rest.0), rest.1)

  blocks_entries : (some : List Finished) → AllByRecursion Goes (written_items short some) → table_entries (written_items wide some) ≡ table_entries (written_items short some)
  blocks_entries [] all = refl
  blocks_entries (one ∷ some) all =
      let parts = first_of Goes (finished_items one) (written_items short some) all in
      let here = all_entries (finished_items one) parts.0 in
      let rest = blocks_entries some parts.1 in
      let low = entries_both (finished_items one) (written_items short some) in
      let high = entries_both (flat_map widened (finished_items one)) (written_items wide some) in omega (arith, here, rest, low, high)

  form_entries : (form : Form) → AllByRecursion Goes (written_items short blocks) → table_entries (written_items form blocks) ≡ table_entries (written_items short blocks)
  form_entries short all = refl
  form_entries wide all = blocks_entries blocks all

  -- too many items, or too many handlers, are too long a code in each form
  pub many_are_long : (form : Form) (items : List EmitItem)
      → AllByRecursion Goes (written_items short blocks)
      → plain_items items ≡ indexed_items s constructor pool form blocks
      → AreTooMany (written_items short blocks)
      → IsTooLong form items
  many_are_long form items all are (inl many) =
      let bytes = bytes_many form items in
      let count = items_many s constructor pool form blocks items are in
      let more = form_many form blocks in inl (omega (arith, many, bytes, count, more))
  many_are_long form items all are (inr many) =
      let count = items_entries s constructor pool form blocks items are in
      let same = form_entries form all in inr (omega (arith, many, count, same))

  -- ---- the form in which emitted items are laid out

  -- in it the exception table is as long
  chosen_entries : (emitted : List EmitItem)
      → AllByRecursion Goes (written_items short blocks)
      → plain_items emitted ≡ indexed_items s constructor pool short blocks
      → plain_items (chosen_items emitted) ≡ indexed_items s constructor pool (form_of emitted) blocks
      → table_len (chosen_items emitted) ≡ table_len emitted
  chosen_entries emitted all are chosen =
      items_entries s constructor pool (form_of emitted) blocks (chosen_items emitted) chosen
      ∙ form_entries (form_of emitted) all
      ∙ sym (items_entries s constructor pool short blocks emitted are)

  chosen_bytes : (emitted : List EmitItem) → end_from (spelled_in (form_of emitted)) 0 (chosen_items emitted) ≡ chosen_len emitted
  chosen_bytes emitted = by (is_short emitted) refl where
    by : (b : Bool) → is_short emitted ≡ b → end_from (spelled_in (form_of emitted)) 0 (chosen_items emitted) ≡ chosen_len emitted
    by true is = rw (is) refl
    by false is = rw (is) refl

  pub long_is_long : (emitted : List EmitItem)
      → AllByRecursion Goes (written_items short blocks)
      → plain_items emitted ≡ indexed_items s constructor pool short blocks
      → plain_items (chosen_items emitted) ≡ indexed_items s constructor pool (form_of emitted) blocks
      → IsLong emitted
      → IsTooLong (form_of emitted) (chosen_items emitted)
  long_is_long emitted all are chosen (inl long) = inl (subst (λ (n : ℕ). 65535 < n) (sym (chosen_bytes emitted)) long)
  long_is_long emitted all are chosen (inr long) = inr (subst (λ (n : ℕ). 65535 < n) (sym (chosen_entries emitted all are chosen)) long)

  pub within_is_short : (emitted : List EmitItem)
      → AllByRecursion Goes (written_items short blocks)
      → plain_items emitted ≡ indexed_items s constructor pool short blocks
      → plain_items (chosen_items emitted) ≡ indexed_items s constructor pool (form_of emitted) blocks
      → IsWithin emitted
      → IsTooLong (form_of emitted) (chosen_items emitted)
      → ⊥
  within_is_short emitted all are chosen within (inl long) =
      let bytes = chosen_bytes emitted in
      let most = within.code in omega (arith, long, bytes, most)
  within_is_short emitted all are chosen within (inr long) =
      let same = chosen_entries emitted all are chosen in
      let most = within.table in omega (arith, long, same, most)
