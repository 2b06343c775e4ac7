-- The counts above zero, as they are kept.
use Rattle.machine_values.specs.declared.count_list.HeldCount.{HeldCount}
use Rattle.script_text.specs.Events.{held_word}
use Rattle.script_text.specs.PrintedTexts.{Bytes}

abbrev pub held_listed : HeldCount → Bytes
held_listed held = held_word held.number held.count
