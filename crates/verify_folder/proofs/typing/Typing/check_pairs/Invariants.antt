use Rattle.std.proofs.Common.{drop, map}
use Rattle.std.specs.Option.{option_copied}
use Rattle.class_model.specs.Laws.Checks.{Remain}
use Rattle.type_rules.specs.Checks.{target_checks}
use Rattle.type_rules.specs.MethodBodies.{body_of}
use Rattle.verify_folder.proofs.typing.Typing.check_pairs.Given as goal

abbrev pub invariant-loop-pair : goal.invariant-loop-pair
invariant-loop-pair l = Remain (target_checks (body_of l.self) (option_copied l.behind) (map (λ pair. pair.to) l.pairs)) (target_checks (body_of l.self) (option_copied l.behind) (map (λ pair. pair.to) (drop l.pair-index l.pairs)))
