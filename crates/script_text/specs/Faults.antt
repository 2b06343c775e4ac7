-- Why bytes are no script.
use Rattle.script_text.specs.PrintedTexts.{Bytes}
use Rattle.script_text.specs.Scripts.{IsFirstOutside, lines_of}
use Rattle.script_text.specs.declared.scripts.ScriptFault.{ScriptFault}
use Rattle.script_text.specs.declared.scripts.ScriptFault.TheVariants.{BadScript, NoMemory}

-- A bad script names its first line outside the grammar. Of memory nothing is said.
abbrev pub IsFaultOf : Bytes → ScriptFault → Type 0
IsFaultOf bytes (BadScript line) = IsFirstOutside (lines_of bytes) line
IsFaultOf bytes NoMemory = Unit {0}
