use Rattle.std.proofs.Common.{List, ◌++◌, ap, sym, ◌∙◌}
use Rattle.std.proofs.lemmas.List.{append-nil}
use Rattle.class_model.specs.declared.frame.VType.{VType}
use Rattle.map_frames.specs.Writing.{types_bytes}
use Rattle.map_frames.proofs.EntriesOfUnits.{no_entries}
use Rattle.map_frames.proofs.type_writing.push_entries.Goals as goal

pub returns : goal.returns
returns c =
    let out = c.loop-entry.out.items in
    sym (append-nil out)
    ∙ sym (ap (λ (types : List VType). out ++ types_bytes c.args.classes.now types) (no_entries c.loop-entry.rest.now c.in_default.ensures.none))
    ∙ c.loop-entry.invariant.0
