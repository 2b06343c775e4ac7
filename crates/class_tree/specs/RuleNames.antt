-- The names of the rules of linking, as they are printed.
use Rattle.std.specs.Prelude.{ℕ, List, codes}
use Rattle.class_tree.specs.declared.fault.LinkRule.{LinkRule}
use Rattle.class_tree.specs.declared.fault.LinkRule.TheVariants as rules

-- the name of a rule of linking
abbrev pub link_rule_name : LinkRule → List ℕ
link_rule_name rules.Duplicate = codes "Duplicate"
link_rule_name rules.Missing = codes "Missing"
link_rule_name rules.Circle = codes "Circle"
link_rule_name rules.FinalSuper = codes "FinalSuper"
link_rule_name rules.LibraryLeans = codes "LibraryLeans"
link_rule_name rules.KindOfSuper = codes "KindOfSuper"
link_rule_name rules.NoMember = codes "NoMember"
link_rule_name rules.NoAccess = codes "NoAccess"
link_rule_name rules.WrongForm = codes "WrongForm"
link_rule_name rules.FinalOverridden = codes "FinalOverridden"
