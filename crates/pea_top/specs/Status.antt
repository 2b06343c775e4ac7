-- How calls end: the ways, their exit statuses, and the lines of refusals.
use Rattle.std.specs.Prelude.{ℕ, Bool, true, false, [], ◌++◌, codes, decimal}
use Rattle.class_model.specs.RuleNames.{file_rule_name}
use Rattle.class_tree.specs.RuleNames.{link_rule_name}
use Rattle.host_tree.specs.Host.{Bytes}
use Rattle.host_tree.specs.declared.call.HostCall.{HostCall}
use Rattle.type_rules.specs.RuleNames.{type_rule_name}
use Rattle.pea_top.specs.Lines.{line, printed_text}
use Rattle.pea_top.specs.declared.status.Status.{Status}
use Rattle.pea_top.specs.declared.status.Status.TheVariants.{Done, Usage, Malformed, Version, Unlinked, Unverified, BadScript, Absent, HostFault, NoMemory}

-- a refusal: its code, and what is printed of it, which is its code, its name and its fields
pub record RefusalText : Type 0 where
  pub code : ℕ
  pub text : Bytes

-- The ways in which a call ends. Of a refusal a line is printed, and nothing is written.
pub data Ending : Type 0 where
  completed : Ending
  refused : RefusalText → Ending
  failed : HostCall → Ending
  out_of_memory : Ending

-- How a call with this status ended. All that is said of statuses but for their causes is said of endings.
abbrev pub ending : Status → Ending
ending Done = completed
ending Usage = refused (record { code = 1; text = codes "1 Usage" })
ending (Malformed name at rule) = refused (record {
  code = 2;
  text = codes "2 Malformed " ++ printed_text name ++ codes " " ++ decimal at ++ codes " " ++ file_rule_name rule;
})
ending (Version name major minor) = refused (record {
  code = 3;
  text = codes "3 Version " ++ printed_text name ++ codes " " ++ decimal major ++ codes " " ++ decimal minor;
})
ending (Unlinked class member rule) = refused (record {
  code = 4;
  text = codes "4 Unlinked " ++ printed_text class ++ codes " " ++ printed_text member.name ++ codes " " ++ printed_text member.desc ++ codes " " ++ link_rule_name rule;
})
ending (Unverified class method offset rule) = refused (record {
  code = 5;
  text =
      codes "5 Unverified " ++ printed_text class ++ codes " " ++ printed_text method.name
      ++ codes " " ++ printed_text method.desc ++ codes " " ++ decimal offset ++ codes " "
      ++ type_rule_name rule;
})
ending (BadScript line) =
    refused (record { code = 7; text = codes "7 BadScript " ++ decimal line })
ending (Absent name) =
    refused (record { code = 12; text = codes "12 Absent " ++ printed_text name })
ending (HostFault call) = failed call
ending NoMemory = out_of_memory

abbrev pub code_of : Ending → ℕ
code_of completed = 0
code_of (refused refusal) = refusal.code
code_of (failed call) = 6
code_of out_of_memory = 9

-- the exit status of the process
abbrev pub status_code : Status → ℕ
status_code status = code_of (ending status)

abbrev pub is_refused : Ending → Bool
is_refused completed = false
is_refused (refused refusal) = true
is_refused (failed call) = false
is_refused out_of_memory = false

-- what is printed of a refusal; of other endings nothing is
abbrev pub line_of : Ending → Bytes
line_of completed = []
line_of (refused refusal) = line (codes "refused " ++ refusal.text)
line_of (failed call) = []
line_of out_of_memory = []

abbrev pub refusal_line : Status → Bytes
refusal_line status = line_of (ending status)
