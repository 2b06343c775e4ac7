-- What reading the script of a run gives.
use Rattle.std.specs.Prelude.{◌≡◌, List, [], Some, None, Result, Ok, Err}
use Rattle.host_tree.specs.Host.{Bytes, Files}
use Rattle.host_tree.specs.declared.call.HostCall.TheVariants as calls
use Rattle.machine_values.specs.declared.action.Action.{Action}
use Rattle.script_text.specs.Scripts.{IsFirstOutside, lines_of}
use Rattle.pea_top.specs.Answer.{IsScriptThere}
use Rattle.pea_top.specs.Words.{Task, Run, Both}
use Rattle.pea_top.specs.declared.script.ScriptStop.{ScriptStop}
use Rattle.pea_top.specs.declared.script.ScriptStop.TheVariants.{Absent, Fault, Outside, NoMemory}
use Rattle.pea_top.specs.declared.status.Status.{Status}
use Rattle.pea_top.specs.declared.status.Status.TheVariants as statuses

-- why a script is not read: it is not there, or this is its first line outside the grammar
abbrev pub IsScriptStop : Files → Bytes → ScriptStop → Type 0
IsScriptStop files script (Absent name) = (name ≡ script) × (files [] script ≡ None)
IsScriptStop files script Fault = Unit {0}
IsScriptStop files script (Outside line bytes) =
    (files [] script ≡ Some bytes) × IsFirstOutside (lines_of bytes) line
IsScriptStop files script NoMemory = Unit {0}

-- the actions of the script that is there, or why it is not read
abbrev pub IsScriptOrWhy : Files → Bytes → Result (List Action) ScriptStop → Type 0
IsScriptOrWhy files script (Ok actions) = IsScriptThere files script actions
IsScriptOrWhy files script (Err stop) = IsScriptStop files script stop

-- why what is to be done is not made: the script is not read, or memory ran out
abbrev pub IsTaskStop : Task → Files → ScriptStop → Type 0
IsTaskStop (Run script steps) files stop = IsScriptStop files script stop
IsTaskStop (Both script steps) files stop = IsScriptStop files script stop
IsTaskStop task files NoMemory = Unit {0}
IsTaskStop task files stop = ⊥

-- the status of a command whose script is not read
abbrev pub script_status : ScriptStop → Status
script_status (Absent name) = statuses.Absent name
script_status Fault = statuses.HostFault calls.Read
script_status (Outside line bytes) = statuses.BadScript line
script_status NoMemory = statuses.NoMemory
