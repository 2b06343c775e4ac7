use Rattle.std.proofs.Common.{drop}
use Rattle.std.specs.Option.{option_copied}
use Rattle.class_model.specs.Laws.Checks.{Remain}
use Rattle.type_rules.specs.Checks.{target_checks}
use Rattle.type_rules.specs.MethodBodies.{body_of}
use Rattle.verify_folder.proofs.typing.Typing.check_each.Given as goal

abbrev pub invariant-loop-to : goal.invariant-loop-to
invariant-loop-to l = Remain (target_checks (body_of l.self) (option_copied l.behind) l.targets) (target_checks (body_of l.self) (option_copied l.behind) (drop l.to-index l.targets))
