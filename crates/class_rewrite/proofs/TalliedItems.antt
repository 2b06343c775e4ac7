-- Objects of sites that written items make, in each form, are those among what the items make and enter.
use Rattle.std.proofs.Common.{if◌then◌else◌, ◌≡◌, ℕ, Bool, false, List, [], ◌∷◌, Option, Some, None, refl, ap, ◌∙◌, arith, flat_map}
use Rattle.class_model.specs.declared.instr.Instr.{Instr}
use Rattle.class_model.specs.declared.instr.Instr.TheVariants.{Nop, Const, Ldc, Ldc2, Load, Store, Iinc, ArrayLoad, ArrayStore, Shuffle, Pure, Divide, FloatAsk, If, If2, IfSame, IfNull, Goto, Table, Lookup, Return, GetStatic, PutStatic, GetField, PutField, Invoke, Dynamic, New, NewArray, NewRefArray, NewMulti, Length, Throw, Cast, InstanceOf, Enter, Leave}
use Rattle.class_rewrite.proofs.Tallies.{tally, tally_both}
use Rattle.class_tree.specs.Headers.{Name}
use Rattle.code_drafts.specs.ItemPlaces.{Naming}
use Rattle.code_drafts.specs.Laws.WrittenPlaces.{carried_places, plain_places, winstr_places, witem_places}
use Rattle.making_code.specs.Items.{WInstr, WItem, carried, constructs, load, makes, plain, store}
use Rattle.making_code.specs.Opposites.{opposite_instr}
use Rattle.plan_flow.specs.Written.Finish.{Finished, finished_items}
use Rattle.plan_flow.specs.Written.Places.{Place, enters_monitor, makes_object}
use Rattle.plan_flow.specs.Written.WrittenCode.{Form, block_items, in_form, short, wide, widened, written_items}

-- a new of the flat code counts for nothing
abbrev pub none_named : Naming
none_named class index = None

module _ (on : Name → Bool) where
  -- an object of a site is made, of a class that passes a test
  abbrev pub on_makes : WInstr → Bool
  on_makes (makes class) = on class
  on_makes (constructs class) = false
  on_makes (carried class instr) = false
  on_makes (plain instr) = false
  on_makes (load kind unit) = false
  on_makes (store kind unit) = false

  abbrev pub on_item : WItem → Bool
  on_item one = on_makes one.instr

  abbrev pub on_place : Place → Bool
  on_place (makes_object class) = on class
  on_place enters_monitor = false

  -- ---- what items make

  carried_none : (class : ℕ) (instr : Instr) → tally on_place (carried_places none_named class instr) ≡ 0
  carried_none class Nop = refl
  carried_none class (Const imm) = refl
  carried_none class (Ldc index) = refl
  carried_none class (Ldc2 index) = refl
  carried_none class (Load kind local) = refl
  carried_none class (Store kind local) = refl
  carried_none class (Iinc local by) = refl
  carried_none class (ArrayLoad opcode) = refl
  carried_none class (ArrayStore opcode) = refl
  carried_none class (Shuffle opcode) = refl
  carried_none class (Pure opcode) = refl
  carried_none class (Divide opcode) = refl
  carried_none class (FloatAsk opcode) = refl
  carried_none class (If opcode to) = refl
  carried_none class (If2 opcode to) = refl
  carried_none class (IfSame opcode to) = refl
  carried_none class (IfNull opcode to) = refl
  carried_none class (Goto to) = refl
  carried_none class (Table low other to) = refl
  carried_none class (Lookup other pairs) = refl
  carried_none class (Return kind) = refl
  carried_none class (GetStatic index) = refl
  carried_none class (PutStatic index) = refl
  carried_none class (GetField index) = refl
  carried_none class (PutField index) = refl
  carried_none class (Invoke opcode index count) = refl
  carried_none class (Dynamic index) = refl
  carried_none class (New index) = refl
  carried_none class (NewArray code) = refl
  carried_none class (NewRefArray index) = refl
  carried_none class (NewMulti index dimensions) = refl
  carried_none class Length = refl
  carried_none class Throw = refl
  carried_none class (Cast index) = refl
  carried_none class (InstanceOf index) = refl
  carried_none class Enter = refl
  carried_none class Leave = refl

  plain_none : (instr : Instr) → tally on_place (plain_places instr) ≡ 0
  plain_none Nop = refl
  plain_none (Const imm) = refl
  plain_none (Ldc index) = refl
  plain_none (Ldc2 index) = refl
  plain_none (Load kind local) = refl
  plain_none (Store kind local) = refl
  plain_none (Iinc local by) = refl
  plain_none (ArrayLoad opcode) = refl
  plain_none (ArrayStore opcode) = refl
  plain_none (Shuffle opcode) = refl
  plain_none (Pure opcode) = refl
  plain_none (Divide opcode) = refl
  plain_none (FloatAsk opcode) = refl
  plain_none (If opcode to) = refl
  plain_none (If2 opcode to) = refl
  plain_none (IfSame opcode to) = refl
  plain_none (IfNull opcode to) = refl
  plain_none (Goto to) = refl
  plain_none (Table low other to) = refl
  plain_none (Lookup other pairs) = refl
  plain_none (Return kind) = refl
  plain_none (GetStatic index) = refl
  plain_none (PutStatic index) = refl
  plain_none (GetField index) = refl
  plain_none (PutField index) = refl
  plain_none (Invoke opcode index count) = refl
  plain_none (Dynamic index) = refl
  plain_none (New index) = refl
  plain_none (NewArray code) = refl
  plain_none (NewRefArray index) = refl
  plain_none (NewMulti index dimensions) = refl
  plain_none Length = refl
  plain_none Throw = refl
  plain_none (Cast index) = refl
  plain_none (InstanceOf index) = refl
  plain_none Enter = refl
  plain_none Leave = refl

  instr_same : (instr : WInstr) → tally on_place (winstr_places none_named instr) ≡ (if on_makes instr then 1 else 0)
  instr_same (carried class instr) = carried_none class instr
  instr_same (plain instr) = plain_none instr
  instr_same (load kind unit) = refl
  instr_same (store kind unit) = refl
  instr_same (constructs class) = refl
  instr_same (makes class) = omega arith

  pub items_same : (items : List WItem) → tally on_place (witem_places none_named items) ≡ tally on_item items
  items_same [] = refl
  items_same (one ∷ items) =
      let both = tally_both on_place (winstr_places none_named one.instr) (witem_places none_named items) in
      let here = instr_same one.instr in
      let rest = items_same items in
      omega (arith, both, here, rest)

  -- ---- the wide form

  wide_same : (one : WItem) → tally on_item (widened one) ≡ (if on_makes one.instr then 1 else 0)
  wide_same one = by one.instr refl where
    alone : widened one ≡ one ∷ [] → tally on_item (widened one) ≡ (if on_makes one.instr then 1 else 0)
    alone is = ap (tally on_item) is ∙ omega arith

    by : (instr : WInstr) → one.instr ≡ instr → tally on_item (widened one) ≡ (if on_makes one.instr then 1 else 0)
    by (carried class instr) is = over (opposite_instr instr) refl where
      over : (other : Option Instr) → opposite_instr instr ≡ other → tally on_item (widened one) ≡ (if on_makes one.instr then 1 else 0)
      over None none = alone (rw (is, none) refl)
      over (Some other) some = rw (is, some) refl
    by (plain instr) is = alone (rw (is) refl)
    by (load kind unit) is = alone (rw (is) refl)
    by (store kind unit) is = alone (rw (is) refl)
    by (makes class) is = alone (rw (is) refl)
    by (constructs class) is = alone (rw (is) refl)

  form_same : (form : Form) (items : List WItem) → tally on_item (in_form form items) ≡ tally on_item items
  form_same short items = refl
  form_same wide [] = refl
  form_same wide (one ∷ items) =
      let both = tally_both on_item (widened one) (flat_map widened items) in
      let here = wide_same one in
      let rest = form_same wide items in
      omega (arith, both, here, rest)

  pub written_same : (form : Form) (blocks : List Finished) → tally on_item (written_items form blocks) ≡ tally on_item (written_items short blocks)
  written_same form [] = refl
  written_same form (block ∷ blocks) =
      let both = tally_both on_item (block_items form block) (written_items form blocks) in
      let also = tally_both on_item (block_items short block) (written_items short blocks) in
      let here = form_same form (finished_items block) in
      let rest = written_same form blocks in
      omega (arith, both, also, here, rest)
