use Rattle.std.proofs.Common.{subst, ◌∙◌}
use Rattle.expanded_runs.proofs.ByteCodes.{AreByteCodes, have_byte_codes}
use Rattle.expanded_runs.proofs.byte_codes.codes_of_a_tree_are_bytes.Goals as goal

pub returns : goal.returns
returns c = have_byte_codes c.args.tree.now (subst AreByteCodes (c.as_slice.ensures ∙ c.folder.ensures.same) c.have_byte_codes.ensures)
