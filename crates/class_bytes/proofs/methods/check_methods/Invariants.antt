use Rattle.std.proofs.Common.{◌+◌, [], drop}
use Rattle.class_model.specs.ClassOf.{methods_checks}
use Rattle.class_bytes.specs.Inner.Cut.{home_seen, methods_of}
use Rattle.class_bytes.specs.Inner.Parts.{methods_len}
use Rattle.class_bytes.proofs.Members.{MembersChecked, method_kind}
use Rattle.class_bytes.proofs.methods.check_methods.Given as goal

abbrev pub invariant-loop-method : goal.invariant-loop-method
invariant-loop-method l =
    MembersChecked l.home.pool.now (method_kind (home_seen l.home)) (methods_checks (home_seen l.home) [] l.at (methods_of l.methods)) (l.at + methods_len (methods_of l.methods)) l.signatures l.place (drop l.method-index l.methods)
