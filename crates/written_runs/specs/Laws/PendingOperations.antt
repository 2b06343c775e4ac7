-- A planned frame that waits for the library asks for the same in both runs: its instruction is written as it is, or in the wide form as the opposite jump,
-- for which nothing waits.
use Rattle.std.proofs.Common.{◌≡◌, ◌&&◌, nat_le, ℕ, Bool, true, false, List, [], ◌∷◌, slice_get, Option, Some, None, if◌then◌else◌, refl, sym, ap, subst, ◌∙◌}
use Rattle.std.specs.List.{flat_map}
use Rattle.std.proofs.lemmas.Option.{none-some, same_Some}
use Rattle.class_model.specs.Pool.{Constants}
use Rattle.class_model.specs.declared.class_file.ClassFile.{ClassFile}
use Rattle.class_model.specs.declared.instr.Instr.{Instr}
use Rattle.class_model.specs.declared.instr.Instr.TheVariants.{Goto, If, If2, IfNull, IfSame, Nop}
use Rattle.class_model.specs.declared.opcodes.TheConstants.{IFEQ, IFLE, IFNONNULL, IFNULL, IF_ACMPEQ, IF_ACMPNE, IF_ICMPEQ, IF_ICMPLE}
use Rattle.class_tree.specs.Headers.{Classes, Name}
use Rattle.flow_code.specs.FlatCode.{FlatCode}
use Rattle.making_code.specs.Items.{WInstr, WItem, ahead, carried, plain}
use Rattle.member_link.specs.Machine.Acting.{pending_of}
use Rattle.member_link.specs.Machine.Codes.{if_between, instr_op}
use Rattle.member_link.specs.Machine.Ops.{Op, jump_by_int, jump_by_ints, jump_by_null, jump_by_references, meaningless}
use Rattle.member_link.specs.Machine.Programs.{Links}
use Rattle.member_link.specs.RowScope.{RowScope}
use Rattle.member_link.specs.Scope.{Scope, row_scope}
use Rattle.plan_flow.specs.PlanScope.{pool_of, scope_of}
use Rattle.plan_flow.specs.Written.Finish.{Finished, finished_items}
use Rattle.making_code.specs.Opposites.{opposite, opposite_instr}
use Rattle.plan_flow.specs.Written.WrittenCode.{Form, block_items, jumping_to, short, wide, widened, written_op}
use Rattle.same_runs.specs.Flats.{pool_of as pool_of_flat}

-- ---- nothing waits for a jump

between_none : (low high opcode : ℕ) (op : Op) → pending_of op ≡ None → pending_of (if_between low high opcode op) ≡ None
between_none low high opcode op none = by (nat_le low opcode && nat_le opcode high) where
  by : (b : Bool) → pending_of (if b then op else meaningless) ≡ None
  by true = none
  by false = refl

module _ (links : Links) (number : ℕ → ℕ) (s : RowScope) where
  if_none : (opcode to : ℕ) → pending_of (instr_op links number s (If opcode to)) ≡ None
  if_none opcode to = between_none IFEQ IFLE opcode (jump_by_int opcode (number to)) refl

  if2_none : (opcode to : ℕ) → pending_of (instr_op links number s (If2 opcode to)) ≡ None
  if2_none opcode to = between_none IF_ICMPEQ IF_ICMPLE opcode (jump_by_ints opcode (number to)) refl

  if_same_none : (opcode to : ℕ) → pending_of (instr_op links number s (IfSame opcode to)) ≡ None
  if_same_none opcode to = between_none IF_ACMPEQ IF_ACMPNE opcode (jump_by_references opcode (number to)) refl

  if_null_none : (opcode to : ℕ) → pending_of (instr_op links number s (IfNull opcode to)) ≡ None
  if_null_none opcode to = between_none IFNULL IFNONNULL opcode (jump_by_null opcode (number to)) refl

  -- a conditional jump has an opposite, and nothing waits for either
  has_opposite : (instr other : Instr) → opposite_instr instr ≡ Some other → pending_of (instr_op links number s instr) ≡ None
  has_opposite (If opcode to) other is = if_none opcode to
  has_opposite (If2 opcode to) other is = if2_none opcode to
  has_opposite (IfSame opcode to) other is = if_same_none opcode to
  has_opposite (IfNull opcode to) other is = if_null_none opcode to
  has_opposite instr other is = absurd (none-some other is)

-- where it jumps does not matter
module _ (links : Links) (one other : ℕ → ℕ) (s : RowScope) where
  targets_aside : (numbers : List ℕ) (instr : Instr)
      → pending_of (instr_op links one s (jumping_to numbers instr)) ≡ pending_of (instr_op links other s instr)
  targets_aside [] (If opcode to) = if_none links one s opcode to ∙ sym (if_none links other s opcode to)
  targets_aside [] (If2 opcode to) = if2_none links one s opcode to ∙ sym (if2_none links other s opcode to)
  targets_aside [] (IfSame opcode to) = if_same_none links one s opcode to ∙ sym (if_same_none links other s opcode to)
  targets_aside [] (IfNull opcode to) = if_null_none links one s opcode to ∙ sym (if_null_none links other s opcode to)
  targets_aside [] instr = refl
  targets_aside (number ∷ numbers) (If opcode to) = if_none links one s opcode number ∙ sym (if_none links other s opcode to)
  targets_aside (number ∷ numbers) (If2 opcode to) = if2_none links one s opcode number ∙ sym (if2_none links other s opcode to)
  targets_aside (number ∷ numbers) (IfSame opcode to) = if_same_none links one s opcode number ∙ sym (if_same_none links other s opcode to)
  targets_aside (number ∷ numbers) (IfNull opcode to) = if_null_none links one s opcode number ∙ sym (if_null_none links other s opcode to)
  targets_aside (number ∷ numbers) instr = refl

-- the opposite of a conditional jump is one
opposite_again : (links : Links) (number : ℕ → ℕ) (s : RowScope) (numbers : List ℕ) (instr other : Instr) → opposite_instr instr ≡ Some other
    → pending_of (instr_op links number s (jumping_to numbers other)) ≡ None
opposite_again links number s numbers (If opcode to) other is =
    targets_aside links number number s numbers other
    ∙ ap (λ (found : Instr). pending_of (instr_op links number s found)) (sym (same_Some _ other is)) ∙ if_none links number s (opposite opcode) to
opposite_again links number s numbers (If2 opcode to) other is =
    targets_aside links number number s numbers other
    ∙ ap (λ (found : Instr). pending_of (instr_op links number s found)) (sym (same_Some _ other is)) ∙ if2_none links number s (opposite opcode) to
opposite_again links number s numbers (IfSame opcode to) other is =
    targets_aside links number number s numbers other
    ∙ ap (λ (found : Instr). pending_of (instr_op links number s found)) (sym (same_Some _ other is)) ∙ if_same_none links number s (opposite opcode) to
opposite_again links number s numbers (IfNull opcode to) other is =
    targets_aside links number number s numbers other
    ∙ ap (λ (found : Instr). pending_of (instr_op links number s found)) (sym (same_Some _ other is)) ∙ if_null_none links number s (opposite opcode) to
opposite_again links number s numbers instr other is = absurd (none-some other is)

-- neither how deep the stack may be nor what is new matters
scope_aside : (links : Links) (number : ℕ → ℕ) (s : RowScope) (room : ℕ) (new : ℕ → Option Name) (instr : Instr)
    → instr_op links number (record s { max_stack = room; new_class = new }) instr ≡ instr_op links number s instr
scope_aside links number s room new Nop = refl
scope_aside links number s room new instr = refl

-- a class has one list of constants
one_pool : (classes : Classes) (links : Links) (flat : FlatCode) (class : ℕ) → pool_of (scope_of classes links flat) class ≡ pool_of_flat classes class
one_pool classes links flat class = by (slice_get classes.folder class) refl where
  by : (file : Option ClassFile) → slice_get classes.folder class ≡ file → pool_of (scope_of classes links flat) class ≡ pool_of_flat classes class
  by None is = rw (is) refl
  by (Some file) is = rw (is) refl

-- ---- the first item of an instruction that is written as it is

-- the instruction itself, or its opposite
pub data IsCarriedAs (class : ℕ) (instr : Instr) : WInstr → Type 0 where
  carried_itself : IsCarriedAs class instr (carried class instr)
  carried_opposite : (other : Instr) → opposite_instr instr ≡ Some other → IsCarriedAs class instr (carried class other)

pub record BeginsCarried (form : Form) (one : Finished) (class : ℕ) (instr : Instr) : Type 0 where
  pub item : WItem
  pub tail : List WItem
  pub items : block_items form one ≡ item ∷ tail
  pub is_carried : IsCarriedAs class instr item.instr

pub begins_carried : (form : Form) (one : Finished) (class : ℕ) (instr : Instr) (item : WItem) (tail : List WItem)
    → finished_items one ≡ item ∷ tail
    → item.instr ≡ carried class instr
    → BeginsCarried form one class instr
begins_carried short one class instr item tail items is = record {
  item = item;
  tail = tail;
  items = items;
  is_carried = subst (IsCarriedAs class instr) (sym is) carried_itself;
}
begins_carried wide one class instr item tail items is = by (opposite_instr instr) refl where
  by : (opposite : Option Instr) → opposite_instr instr ≡ opposite → BeginsCarried wide one class instr
  by None none = record {
    item = item;
    tail = flat_map widened tail;
    items = ap (flat_map widened) items ∙ rw (is) (rw (none) refl);
    is_carried = subst (IsCarriedAs class instr) (sym is) carried_itself;
  }
  by (Some other) some = record {
    item = record { instr = carried class other; targets = ahead 2 ∷ []; catches = [] };
    tail = record { instr = plain (Goto 0); targets = item.targets; catches = [] } ∷ flat_map widened tail;
    items = ap (flat_map widened) items ∙ rw (is) (rw (some) refl);
    is_carried = carried_opposite other some;
  }

-- ---- what waits for it

module _ (classes : Classes) (links : Links) (flat : FlatCode) (host : Scope) (constructor : Name → List ℕ) (number : ℕ → ℕ) (room : ℕ) (new : ℕ → Option Name)
    (numbers : List ℕ) (class : ℕ) (instr : Instr) where
  abbrev scope : RowScope
  scope = record (row_scope host) { pool = pool_of_flat classes class }

  pooled : (other : Instr)
      → pending_of (written_op (scope_of classes links flat) host constructor numbers (carried class other))
      ≡ pending_of (instr_op links (λ at. at) scope (jumping_to numbers other))
  pooled other =
      ap (λ (pool : Constants). pending_of (instr_op links (λ at. at) (record (row_scope host) { pool = pool }) (jumping_to numbers other)))
      (one_pool classes links flat class)

  aside : pending_of (instr_op links number scope instr)
      ≡ pending_of (instr_op links number (record (row_scope host) { max_stack = room; new_class = new; pool = pool_of_flat classes class }) instr)
  aside = sym (ap pending_of (scope_aside links number scope room new instr))

  pub pends_alike : {written : WInstr} → IsCarriedAs class instr written
      → pending_of (written_op (scope_of classes links flat) host constructor numbers written)
      ≡ pending_of (instr_op links number (record (row_scope host) { max_stack = room; new_class = new; pool = pool_of_flat classes class }) instr)
  pends_alike carried_itself = pooled instr ∙ targets_aside links (λ at. at) number scope numbers instr ∙ aside
  pends_alike (carried_opposite other some) =
      pooled other ∙ opposite_again links (λ at. at) scope numbers instr other some ∙ sym (has_opposite links number scope instr other some) ∙ aside
