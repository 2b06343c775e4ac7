use Rattle.std.proofs.Common.{◌≡◌, ◌≤◌, count_by, take}
use Rattle.code_layout.specs.declared.emitted.EmitItem.{EmitItem}
use Rattle.making_code.specs.CountedItems.{is_enter}
use Rattle.class_rewrite.proofs.entered.count_enters.Given as goal

abbrev pub invariant-loop-item : goal.invariant-loop-item
invariant-loop-item l = record {
  counted : l.count ≡ count_by (λ (item : EmitItem). is_enter item.instr) (take l.item-index l.items);
  few : l.count ≤ l.item-index;
}
