use Rattle.std.proofs.Common.{sym}
use Rattle.class_model.proofs.LocalParts.{put-top}
use Rattle.class_model.proofs.local_types.put.Goals as goal

pub returns-in-Top-None-clause-ok : goal.returns-in-Top-None-clause-ok
returns-in-Top-None-clause-ok c = rw c.in-Top-None.is-0 (put-top _ _ (sym (rw c.as_slice.ensures.value at c.in-Top-None.ensures)))
