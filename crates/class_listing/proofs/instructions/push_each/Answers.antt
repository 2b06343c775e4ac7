-- Each instruction is read at its offset, and their lines are those of the code.
use Rattle.std.proofs.Common.{◌++◌, ℕ, List, take_all, ap, sym, ◌∙◌, arith}
use Rattle.std.specs.List.{flat_map}
use Rattle.class_model.specs.declared.instr.Placed.{Placed}
use Rattle.class_listing.specs.Inner.ListingTexts.{placed_text}
use Rattle.class_listing.proofs.ReadInstrs.{IsReadAt, all_read, one_of}
use Rattle.class_listing.proofs.WholeTexts.{instrs_are}
use Rattle.class_listing.proofs.instructions.push_each.Goals as goal

pub push_placed-requires : goal.push_placed-requires
push_placed-requires c =
    (one_of (IsReadAt c.args.code.now) _ _ _ (all_read c.args.code.now c.args.instrs.now c.requires) c.loop-placed-test.true c.placed-item.is).read

pub returns : goal.returns
returns c =
    let code = c.args.code.now in
    let instrs = c.args.instrs.now in
    let old = c.args.out.now.items in
    let all = take_all c.loop-placed.placed-index instrs (omega (arith, c.loop-placed-test.false)) in
    c.loop-placed.invariant
    ∙ ap (λ (t : List ℕ). old ++ t)
    (ap (λ (l : List Placed). flat_map (placed_text code) l) all ∙ sym (instrs_are code instrs c.requires))
