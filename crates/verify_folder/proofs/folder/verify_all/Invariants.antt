use Rattle.verify_folder.specs.Verifying.{TypesFirst}
use Rattle.verify_folder.proofs.folder.verify_all.Given as goal

abbrev pub invariant-loop-place : goal.invariant-loop-place
invariant-loop-place l = TypesFirst l.tree l.place l.typed
