-- A Code that has the bytes and the exception table of items that are laid out passes what a class file asks of one, where the operands of the items
-- fit, their catch types are classes, and the frames that it states are read.
use Rattle.std.proofs.Common.{◌≡◌, ◌⊎◌, ◌≤◌, ◌<◌, ◌+◌, ◌*◌, ◌==◌, ◌||◌, ◌&&◌, ◌∙◌, nat_lt, ℕ, zero, suc, Bool, true, false, List, [], ◌∷◌, ◌++◌, length, map, slice_get, Some, IfSome, Result, Ok, refl, sym, ap, subst, arith}
use Rattle.std.specs.List.{AllByRecursion, list_all}
use Rattle.std.specs.Prelude.{IsTrue}
use Rattle.std.proofs.lemmas.Bool.{eq-eqb}
use Rattle.std.proofs.lemmas.Bool.Decides.{nat_tests}
use Rattle.class_model.specs.Checks.{AllHold, Fault, asked_of}
use Rattle.class_model.specs.Code.{OperandFits, handlers_checks, in_table, inners_checks, jump_checks, operand_checks, stack_map_table}
use Rattle.class_model.specs.Frames.{Setting, stack_map_table_at}
use Rattle.class_model.specs.Instructions.{decoded, is_start, targets}
use Rattle.class_model.specs.Laws.Checks.{both_hold}
use Rattle.class_model.specs.Methods.{Home, entry_of, instructions_checks, part_checks, placed_at, units_at_call}
use Rattle.class_model.specs.Pool.{Constants}
use Rattle.class_model.specs.PoolChecks.{IsClassAt, utf8_at}
use Rattle.class_model.specs.declared.class_file.CodePart.{CodePart}
use Rattle.class_model.specs.declared.class_file.Handler.{Handler}
use Rattle.class_model.specs.declared.class_file.InnerAttr.{InnerAttr}
use Rattle.class_model.specs.declared.class_file.Method.{Method}
use Rattle.class_model.specs.declared.frame.Frame.{Frame}
use Rattle.class_model.specs.declared.frame.PlacedFrame.{PlacedFrame}
use Rattle.class_model.specs.declared.instr.Instr.{Instr}
use Rattle.class_model.specs.declared.instr.Instr.TheVariants.{If, If2, IfSame, IfNull, Goto, Table, Lookup}
use Rattle.class_model.specs.declared.instr.Placed.{Placed}
use Rattle.code_bytes.specs.Consecutive.{AreConsecutive}
use Rattle.code_layout.specs.Emitting.{IsEmitted, IsItem, NamesItem}
use Rattle.code_layout.specs.Layout.{IsLaid, Spelled, len_of, placed_from, placed_items, range_of, ranges_from, start_in, starts_from}
use Rattle.code_layout.specs.declared.emitted.Catch.{Catch}
use Rattle.code_layout.specs.declared.emitted.EmitItem.{EmitItem}
use Rattle.code_layout.specs.declared.laid.Laid.{Laid}
use Rattle.member_link.specs.Targets.{with_targets}

-- ---- jumps

all_starts : (code : List Placed) (to : List ℕ) → AllByRecursion (λ to. IsTrue (is_start code to)) to → list_all (is_start code) to ≡ true
all_starts code [] all = refl
all_starts code (to ∷ others) all = rw (all.0) (all_starts code others all.1)

jumps_hold : (start : ℕ) (code instrs : List Placed) → AllByRecursion (λ p. AllByRecursion (λ to. IsTrue (is_start code to)) (targets p.instr)) instrs
    → AllHold (jump_checks start code instrs)
jumps_hold start code [] all = tt
jumps_hold start code (p ∷ instrs) all = (all_starts code (targets p.instr) all.0, jumps_hold start code instrs all.1)

-- ---- operands

-- they do not depend on targets
operand_same : (pool : Constants) (major locals : ℕ) (place : ℕ → ℕ) (instr : Instr) → OperandFits pool major locals instr
    → OperandFits pool major locals (with_targets place instr)
operand_same pool major locals place (If opcode to) fits = tt
operand_same pool major locals place (If2 opcode to) fits = tt
operand_same pool major locals place (IfSame opcode to) fits = tt
operand_same pool major locals place (IfNull opcode to) fits = tt
operand_same pool major locals place (Goto to) fits = tt
operand_same pool major locals place (Table low other to) fits = tt
operand_same pool major locals place (Lookup other pairs) fits = tt
operand_same pool major locals place instr fits = fits

-- what is asked of items in a class: their operands fit, and their catch types are classes
pub record IsCheckedItem (pool : Constants) (major locals : ℕ) (item : EmitItem) : Type 0 where
  pub operand : OperandFits pool major locals item.instr
  pub catches : AllByRecursion (λ (catch : Catch). (catch.catch_type ≡ 0) ⊎ IsClassAt pool catch.catch_type) item.catches

module _ (pool : Constants) (major locals : ℕ) (spelled : Spelled) (place : ℕ → ℕ) where
  operands_hold : (start at : ℕ) (items : List EmitItem) → AllByRecursion (IsCheckedItem pool major locals) items
      → AllHold (operand_checks start pool major locals (placed_from spelled place at items))
  operands_hold start at [] all = tt
  operands_hold start at (item ∷ items) all =
      (operand_same pool major locals place item.instr all.0.operand, operands_hold start (at + len_of spelled at item.instr) items all.1)

-- ---- starts of items

or_right : (a b : Bool) → b ≡ true → (a || b) ≡ true
or_right true b e = refl
or_right false b e = e

or_left : (a b : Bool) → a ≡ true → (a || b) ≡ true
or_left true b e = refl
or_left false b e = absurd cc

module _ (spelled : Spelled) (place : ℕ → ℕ) where
  -- an item of a number starts where its instruction does
  item_starts : (at : ℕ) (items : List EmitItem) (number : ℕ) → number < length items
      → is_start (placed_from spelled place at items) (start_in (starts_from spelled at items) number) ≡ true
  item_starts at [] number less = absurd (omega (arith, less))
  item_starts at (item ∷ items) zero less = or_left (at == at) _ (eq-eqb at at refl)
  item_starts at (item ∷ items) (suc number) less =
      or_right (at == start_in (starts_from spelled (at + len_of spelled at item.instr) items) number) _
      (item_starts (at + len_of spelled at item.instr) items number (omega (arith, less)))

  module _ (pool : Constants) (code : List Placed) (len many : ℕ) (starts : (to : ℕ) → NamesItem many to → is_start code (place to) ≡ true) where
    -- the entries of one item
    catches_hold : (start end at : ℕ) (catches : List Catch) → start < end → is_start code start ≡ true → (is_start code end || (end == len)) ≡ true
        → AllByRecursion (λ (catch : Catch). NamesItem many catch.to) catches
        → AllByRecursion (λ (catch : Catch). (catch.catch_type ≡ 0) ⊎ IsClassAt pool catch.catch_type) catches
        → (others : List Handler) → ((at : ℕ) → AllHold (handlers_checks pool code len at others))
        → AllHold (handlers_checks pool code len at (map (range_of place start end) catches ++ others))
    catches_hold start end at [] less first last names types others rest = rest at
    catches_hold start end at (catch ∷ catches) less first last names types others rest = (
      record { some = less; start = first; end = last; at = starts catch.to names.0 },
      (types.0, catches_hold start end (at + 8) catches less first last names.1 types.1 others rest),
    )

    -- the items from an offset on, whose instructions are at the end of the code
    ranges_hold : (at : ℕ) (items : List EmitItem) → AreConsecutive at (placed_from spelled place at items) len
        → ((to : ℕ) → is_start (placed_from spelled place at items) to ≡ true → is_start code to ≡ true)
        → AllByRecursion (λ (item : EmitItem). AllByRecursion (λ (catch : Catch). NamesItem many catch.to) item.catches) items
        → AllByRecursion (λ (item : EmitItem). AllByRecursion (λ (catch : Catch). (catch.catch_type ≡ 0) ⊎ IsClassAt pool catch.catch_type) item.catches) items
        → (table : ℕ) → AllHold (handlers_checks pool code len table (ranges_from spelled place at items))
    ranges_hold at [] stand inside names types table = tt
    ranges_hold at (item ∷ items) stand inside names types table =
        let size = len_of spelled at item.instr in
        let next = at + size in
        let more = stand.1 in
        catches_hold at next table item.catches (omega (arith, more)) (inside at (or_left (at == at) _ (eq-eqb at at refl))) (last items refl)
        names.0 types.0 (ranges_from spelled place next items)
        (ranges_hold next items stand.2 (λ to is. inside to (or_right (at == to) _ is)) names.1 types.1) where
          last : (rest : List EmitItem) → items ≡ rest → (is_start code (at + len_of spelled at item.instr) || ((at + len_of spelled at item.instr) == len)) ≡ true
          last [] none =
              or_right (is_start code (at + len_of spelled at item.instr)) _
              (eq-eqb (at + len_of spelled at item.instr) len
              (subst (λ (is : List EmitItem). AreConsecutive (at + len_of spelled at item.instr) (placed_from spelled place (at + len_of spelled at item.instr) is) len) none stand.2))
          last (one ∷ rest) some =
              let next = at + len_of spelled at item.instr in
              or_left (is_start code next) _ (inside next (or_right (at == next) _
              (subst (λ (is : List EmitItem). is_start (placed_from spelled place next is) next ≡ true) (sym some) (or_left (next == next) _ (eq-eqb next next refl)))))

-- ---- the attributes

-- There is none, or a StackMapTable that is named so and read.
pub data AreReadAttrs (s : Setting) (entry : Frame) : List InnerAttr → Type 0 where
  none_there : AreReadAttrs s entry []
  one_there : (attr : InnerAttr) (frames : List PlacedFrame)
      → utf8_at s.pool attr.name ≡ Some stack_map_table
      → stack_map_table_at s entry attr.bytes ≡ Ok frames
      → AreReadAttrs s entry (attr ∷ [])

inners_hold : (s : Setting) (entry : Frame) (at : ℕ) (attrs : List InnerAttr) → AreReadAttrs s entry attrs → AllHold (inners_checks s entry false at attrs)
inners_hold s entry at _ none_there = tt
inners_hold s entry at _ (one_there attr frames name read) =
    rw (name) (refl, (refl, subst (λ (r : Result (List PlacedFrame) Fault). AllHold (asked_of (in_table at r) (λ frames. []) ++ [])) (sym read) tt))

-- ---- the whole

module _ (home : Home) (method : Method) (part : CodePart) (spelled : Spelled) (items : List EmitItem) (laid : Laid) where
  abbrev instrs : List Placed
  instrs = placed_items spelled items

  pub record IsLaidPart : Type 0 where
    pub emitted : IsEmitted items
    pub is_laid : IsLaid spelled items laid
    pub code : part.code ≡ laid.code
    pub handlers : part.handlers ≡ laid.handlers
    pub checked : AllByRecursion (IsCheckedItem home.pool home.major part.max_locals) items
    pub units : IfSome (utf8_at home.pool method.desc) (λ text. units_at_call method.flags text ≤ part.max_locals)
    pub attrs : AreReadAttrs (record { pool = home.pool; max_locals = part.max_locals; max_stack = part.max_stack; code = instrs }) (entry_of home method part) part.attrs

  pub part_holds : IsLaidPart → AreConsecutive 0 instrs (length part.code) → (at : ℕ) → AllHold (part_checks home method at part)
  part_holds is stand at =
      let some : 0 < length part.code = subst (λ (code : List ℕ). 0 < length code) (sym is.code) is.is_laid.decodes.some in
      let few : length part.code ≤ 65535 = subst (λ (code : List ℕ). length code ≤ 65535) (sym is.code) is.is_laid.decodes.few in
      let decodes : decoded part.code ≡ Ok instrs = ap decoded is.code ∙ is.is_laid.decodes.covers in
      let place = start_in (starts_from spelled 0 items) in
      let table = at + 14 + length part.code + 2 in
      let names = each_item 0 items (λ number item there. subst (λ (n : ℕ). IsItem items n item) (omega arith) (is.emitted.each number item there)) in
      let ranges = ranges_hold spelled place home.pool instrs (length part.code) (length items) (λ to less. item_starts spelled place 0 items to less)
      0 items stand (λ to is. is) names (types_of items is.checked) table in (
        lengths (length part.code) some few,
        (
          is.units,
          subst (λ (r : Result (List Placed) Fault). AllHold (asked_of (placed_at (at + 14) r) (instructions_checks home method at part))) (sym decodes)
              (both_hold (jump_checks (at + 14) instrs instrs ++ operand_checks (at + 14) home.pool home.major part.max_locals instrs ++ handlers_checks home.pool instrs (length part.code) table part.handlers) _
              (both_hold (jump_checks (at + 14) instrs instrs ++ operand_checks (at + 14) home.pool home.major part.max_locals instrs) _
              (both_hold (jump_checks (at + 14) instrs instrs) _ (jumps_hold (at + 14) instrs instrs is.is_laid.decodes.starts)
              (operands_hold home.pool home.major part.max_locals spelled place (at + 14) 0 items is.checked))
              (subst (λ (list : List Handler). AllHold (handlers_checks home.pool instrs (length part.code) table list)) (sym (is.handlers ∙ is.is_laid.handlers)) ranges))
              (inners_hold _ (entry_of home method part) (table + 8 * length part.handlers + 2) part.attrs is.attrs)),
        ),
      ) where
        lengths : (n : ℕ) → 0 < n → n ≤ 65535 → (nat_lt 0 n && nat_lt n 65536) ≡ true
        lengths n some few = grind (arith, nat_tests)

        types_of : (all : List EmitItem) → AllByRecursion (IsCheckedItem home.pool home.major part.max_locals) all
            → AllByRecursion (λ (item : EmitItem). AllByRecursion (λ (catch : Catch). (catch.catch_type ≡ 0) ⊎ IsClassAt home.pool catch.catch_type) item.catches) all
        types_of [] h = tt
        types_of (item ∷ all) h = (h.0.catches, types_of all h.1)

        each_item : (from : ℕ) (rest : List EmitItem) → ((number : ℕ) (item : EmitItem) → slice_get rest number ≡ Some item → IsItem items (from + number) item)
            → AllByRecursion (λ (item : EmitItem). AllByRecursion (λ (catch : Catch). NamesItem (length items) catch.to) item.catches) rest
        each_item from [] each = tt
        each_item from (item ∷ rest) each = (
          (each 0 item refl).catches,
          each_item (suc from) rest (λ number one there. subst (λ (n : ℕ). IsItem items n one) (omega arith) (each (suc number) one there)),
        )
