-- What was appended so far is printed of the names before the index, and these are texts.
use Rattle.std.proofs.Common.{◌≡◌, ◌++◌, take, map}
use Rattle.std.specs.List.{AllByRecursion}
use Rattle.class_model.specs.ModifiedUtf8.{IsText}
use Rattle.script_text.specs.Events.{spaced}
use Rattle.script_text.specs.PrintedTexts.{printed_text}
use Rattle.script_text.proofs.printed_scripts.push_names.Given as goal

abbrev pub invariant-loop-name : goal.invariant-loop-name
invariant-loop-name l = record {
  printed : l.line.items ≡ l.initial.line.items ++ spaced (map printed_text (take l.name-index l.names));
  texts : AllByRecursion IsText (take l.name-index l.names);
}
