use Rattle.std.proofs.Common.{◌≡◌, ◌+◌, ℕ, Some, suc, drop, ap, ◌∙◌, sym, subst, arith}
use Rattle.std.proofs.lemmas.Option.{slice_get-get_or}
use Rattle.class_model.specs.Laws.Lists.{drop_item}
use Rattle.member_link.specs.RowScope.{RowScope}
use Rattle.code_layout.specs.declared.emitted.EmitItem.{EmitItem}
use Rattle.stackmap_emit.proofs.WalkedItems.{walked_next}
use Rattle.stackmap_emit.proofs.walk.Walk.over.Goals as goal
use Rattle.stackmap_emit.specs.Inner.Walking.{AreWalkedTo, Steps, reads_of}

pub loop-number-preserved : goal.loop-number-preserved
loop-number-preserved c =
    let items = c.args.items.now in
    let number = c.loop-number.number in
    let item = c.index-items-number.result in
    let is = slice_get-get_or items number item c.loop-number-test.true ∙ ap (λ (one : EmitItem). Some one) (sym c.index-items-number.is) in
    let next : suc number ≡ number + 1 = omega arith in
    subst (λ (n : ℕ). AreWalkedTo (reads_of c.args.self.now) c.args.entry.now items n c.in_ok-flow.flow (drop (number + 1) items) c.step.new.made) next
    (walked_next (reads_of c.args.self.now) c.args.entry.now items number c.loop-number.flow c.in_ok-flow.flow item (drop (number + 1) items)
    c.loop-number.made c.step.new.made (drop_item items number item is) c.loop-number.invariant
    (subst (λ (one : EmitItem). (s : RowScope) → s.pool ≡ c.args.self.now.pool.now → s.own.name ≡ c.args.self.now.own.now
    → Steps (reads_of c.args.self.now) s number one.instr c.loop-number.flow c.loop-number.made c.in_ok-flow.flow c.step.new.made)
    (sym c.index-items-number.is) c.in_ok-flow.ensures))
