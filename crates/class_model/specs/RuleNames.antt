-- The names of the rules of the class file grammar, as they are printed.
use Rattle.std.specs.Prelude.{ℕ, List, codes}
use Rattle.class_model.specs.declared.fault.FileRule.{FileRule}
use Rattle.class_model.specs.declared.fault.FileRule.TheVariants as rules

-- the name of a rule
abbrev pub file_rule_name : FileRule → List ℕ
file_rule_name rules.Short = codes "Short"
file_rule_name rules.Magic = codes "Magic"
file_rule_name rules.Tag = codes "Tag"
file_rule_name rules.Text = codes "Text"
file_rule_name rules.Extra = codes "Extra"
file_rule_name rules.Index = codes "Index"
file_rule_name rules.Name = codes "Name"
file_rule_name rules.Descriptor = codes "Descriptor"
file_rule_name rules.Flags = codes "Flags"
file_rule_name rules.Twice = codes "Twice"
file_rule_name rules.NoCode = codes "NoCode"
file_rule_name rules.HasCode = codes "HasCode"
file_rule_name rules.Constant = codes "Constant"
file_rule_name rules.Attribute = codes "Attribute"
file_rule_name rules.CodeLength = codes "CodeLength"
file_rule_name rules.Locals = codes "Locals"
file_rule_name rules.Opcode = codes "Opcode"
file_rule_name rules.Operand = codes "Operand"
file_rule_name rules.Jump = codes "Jump"
file_rule_name rules.Range = codes "Range"
file_rule_name rules.FrameKind = codes "FrameKind"
file_rule_name rules.FrameType = codes "FrameType"
file_rule_name rules.FrameSize = codes "FrameSize"
file_rule_name rules.FramePlace = codes "FramePlace"
