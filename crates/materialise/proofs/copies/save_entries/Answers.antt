use Rattle.std.proofs.Common.{◌≡◌, ◌+◌, ℕ, [], ◌∷◌, map, drop, get_or, slice_get, Some, ap}
use Rattle.std.proofs.lemmas.Option.{slice_get-get_or}
use Rattle.class_model.specs.declared.descriptor.Kind.TheVariants as kinds
use Rattle.class_model.specs.declared.instr.Instr.TheVariants.{Store}
use Rattle.making_code.specs.Items.{WInstr}
use Rattle.making_code.specs.MakeCode.{save}
use Rattle.materialise.proofs.CodeLaws.{mapped_end, mapped_from, writes_all, writes_more, writes_one}
use Rattle.materialise.proofs.copies.save_entries.Goals as goal
use Rattle.materialise.specs.Inner.StackWords.{entry_meant}
use Rattle.materialise.specs.declared.stack.StackEntry.{StackEntry}
use Rattle.virtual_state.specs.declared.slot.Slot.TheVariants.{Plain}

abbrev saving_of : StackEntry → WInstr
saving_of entry = save (entry_meant entry)

pub loop-entry-preserved : goal.loop-entry-preserved
loop-entry-preserved c =
    let saved = c.args.saved.now in
    let at = c.loop-entry.entry-index in
    let none : StackEntry = record { place = 0; below = 0; kind = kinds.Int; slot = Plain } in
    let entry = get_or saved at none in
    let there : slice_get saved at ≡ Some entry = slice_get-get_or saved at none c.loop-entry-test.true in
    writes_more c.args.units.now c.args.instrs.now.items c.loop-entry.instrs.items c.push.new.self.items (map saving_of saved) (saving_of entry ∷ [])
    (map saving_of (drop (at + 1) saved)) (map saving_of (drop at saved)) c.loop-entry.invariant (mapped_from saving_of saved at entry there)
    (writes_one c.args.units.now c.loop-entry.instrs.items c.push.new.self.items (saving_of entry) (Store entry.kind c.scratch.result) c.in_ok-push.ensures.items
    (λ class_of constructor_of. ap (λ (unit : ℕ). Store entry.kind unit) c.scratch.ensures))

pub returns : goal.returns
returns c =
    let saved = c.args.saved.now in
    writes_all c.args.units.now c.args.instrs.now.items c.loop-entry.instrs.items (map saving_of saved) (map saving_of (drop c.loop-entry.entry-index saved)) c.loop-entry.invariant
    (mapped_end saving_of saved c.loop-entry.entry-index c.loop-entry-test.false)
