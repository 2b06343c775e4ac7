-- The names of the rules of types, as they are printed.
use Rattle.std.specs.Prelude.{ℕ, List, codes}
use Rattle.type_rules.specs.declared.fault.TypeRule.{TypeRule}
use Rattle.type_rules.specs.declared.fault.TypeRule.TheVariants as rules

-- the name of a rule of types
abbrev pub type_rule_name : TypeRule → List ℕ
type_rule_name rules.CatchType = codes "CatchType"
type_rule_name rules.NoFrame = codes "NoFrame"
type_rule_name rules.Mismatch = codes "Mismatch"
type_rule_name rules.Handler = codes "Handler"
type_rule_name rules.Stack = codes "Stack"
type_rule_name rules.Local = codes "Local"
type_rule_name rules.Depth = codes "Depth"
type_rule_name rules.Kind = codes "Kind"
type_rule_name rules.Target = codes "Target"
type_rule_name rules.FallsOff = codes "FallsOff"
