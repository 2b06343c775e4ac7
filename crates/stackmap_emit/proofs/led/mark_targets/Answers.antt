use Rattle.std.proofs.Common.{◌==◌, ◌||◌, ℕ, Bool, List, ap, ◌∙◌, rules}
use Rattle.class_model.specs.Instructions.{targets}
use Rattle.class_model.specs.declared.instr.Instr.{Instr}
use Rattle.class_model.specs.declared.instr.Pair.{Pair}
use Rattle.stackmap_emit.proofs.MarkedItems.{marked_both, pairs_same}
use Rattle.stackmap_emit.proofs.led.mark_targets.Goals as goal
use Rattle.stackmap_emit.specs.Inner.Marks.{are_targets, pairs_lead}

pub returns-in-Lookup : goal.returns-in-Lookup
returns-in-Lookup c =
    let other = c.in-Lookup.other in
    let pairs = c.in-Lookup.pairs in
    let listed = c.as_slice-in-Lookup.result.now in
    marked_both (λ (at : ℕ). other == at) (pairs_lead listed) (are_targets (targets c.args.instr.now)) _ _ _ c.mark-in-Lookup.ensures c.mark_pairs.ensures
    (λ (at : ℕ).
    ap (λ (instr : Instr). are_targets (targets instr) at) c.in-Lookup.is
    ∙ ap (λ (b : Bool). (other == at) || b) (pairs_same pairs at)
    ∙ ap (λ (list : List Pair). (other == at) || pairs_lead list at) (search rules))
