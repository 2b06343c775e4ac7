use Rattle.std.proofs.Common.{◌≡◌, ◌+◌, ℕ, List, drop, get_or, slice_get, Some}
use Rattle.std.specs.List.{flat_map}
use Rattle.std.proofs.lemmas.Option.{slice_get-get_or}
use Rattle.class_model.specs.declared.descriptor.Kind.TheVariants as kinds
use Rattle.making_code.specs.Items.{WInstr}
use Rattle.making_code.specs.MakeCode.{load_entry}
use Rattle.materialise.proofs.CodeLaws.{joined_end, joined_from, writes_all, writes_more}
use Rattle.materialise.proofs.copies.load_entries.Goals as goal
use Rattle.materialise.specs.Inner.StackWords.{entry_meant}
use Rattle.materialise.specs.declared.stack.StackEntry.{StackEntry}
use Rattle.virtual_state.specs.declared.slot.Slot.TheVariants.{Plain}

abbrev loading_of : List ℕ → StackEntry → List WInstr
loading_of sites entry = load_entry sites (entry_meant entry)

pub loop-entry-preserved : goal.loop-entry-preserved
loop-entry-preserved c =
    let entries = c.args.entries.now in
    let of = loading_of c.args.sites.now in
    let at = c.loop-entry.entry-index in
    let none : StackEntry = record { place = 0; below = 0; kind = kinds.Int; slot = Plain } in
    let entry = get_or entries at none in
    let there : slice_get entries at ≡ Some entry = slice_get-get_or entries at none c.loop-entry-test.true in
    writes_more c.args.units.now c.args.instrs.now.items c.loop-entry.instrs.items c.load_stack_entry.new.instrs.items (flat_map of entries) (of entry)
    (flat_map of (drop (at + 1) entries)) (flat_map of (drop at entries)) c.loop-entry.invariant (joined_from of entries at entry there) c.in_ok-load_stack_entry.ensures

pub returns : goal.returns
returns c =
    let entries = c.args.entries.now in
    let of = loading_of c.args.sites.now in
    writes_all c.args.units.now c.args.instrs.now.items c.loop-entry.instrs.items (flat_map of entries) (flat_map of (drop c.loop-entry.entry-index entries)) c.loop-entry.invariant
    (joined_end of entries c.loop-entry.entry-index c.loop-entry-test.false)
