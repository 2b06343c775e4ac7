-- The printed events of a run and its end: this project's profile.
use Rattle.std.specs.Prelude.{◌==◌, ℕ, suc, List, [], ◌∷◌, ◌++◌, codes, map, decimal, Option, None, Some, if◌then◌else◌}
use Rattle.std.specs.Fmt.{signed_decimal}
use Rattle.std.specs.List.{flat_map}
use Rattle.machine_values.specs.declared.event.End.{End}
use Rattle.machine_values.specs.declared.event.End.TheVariants.{Stopped, Waits, Running, LibraryFault, InitThrew, ArrayTooLong, Stuck}
use Rattle.machine_values.specs.declared.event.Event.{Event}
use Rattle.machine_values.specs.declared.event.EventKind.{EventKind}
use Rattle.machine_values.specs.declared.event.EventKind.TheVariants as kinds
use Rattle.machine_values.specs.declared.event.First.{First}
use Rattle.machine_values.specs.declared.event.Seen.{Seen}
use Rattle.machine_values.specs.declared.event.Seen.TheVariants.{Int, Long, Float, Double, Null, Ref}
use Rattle.machine_values.specs.declared.event.SeenRef.{SeenRef}
use Rattle.machine_values.specs.declared.event.Shown.{Shown}
use Rattle.machine_values.specs.declared.object.Constant.{Constant}
use Rattle.machine_values.specs.declared.object.Constant.TheVariants.{Str, Class, MethodType, Handle}
use Rattle.script_text.specs.Characters.{line_feed, space, quote}
use Rattle.script_text.specs.PrintedTexts.{Bytes, printed_text, hex_text}

-- ---- values

abbrev pub constant_text : Constant → Bytes
constant_text (Str text) = codes "str:" ++ printed_text text
constant_text (Class name) = codes "class:" ++ printed_text name
constant_text (MethodType desc) = codes "type:" ++ printed_text desc
constant_text (Handle kind class name desc) =
    codes "handle:" ++ decimal kind ++ codes ":" ++ printed_text class ++ codes ":"
    ++ printed_text name ++ codes ":" ++ printed_text desc

-- a quotation mark and the constant, if there is one
abbrev pub quoted_constant : Option Constant → Bytes
quoted_constant None = []
quoted_constant (Some constant) = quote ∷ constant_text constant

-- the interfaces that the class of an object of the library also implements
abbrev pub also_text : List Bytes → Bytes
also_text names = flat_map (λ (name : Bytes). codes "+" ++ printed_text name) names

-- what is printed of a reference where it appears first
abbrev pub first_text : Option First → Bytes
first_text None = []
first_text (Some first) =
    codes "=" ++ printed_text first.class ++ also_text first.also ++ quoted_constant first.constant

abbrev pub reference_text : SeenRef → Bytes
reference_text reference = codes "r:" ++ decimal reference.number ++ first_text reference.first

abbrev pub seen_text : Seen → Bytes
seen_text (Int number) = codes "i:" ++ signed_decimal number
seen_text (Long number) = codes "l:" ++ signed_decimal number
seen_text (Float bits) = codes "f:" ++ hex_text 8 bits
seen_text (Double bits) = codes "d:" ++ hex_text 16 bits
seen_text Null = codes "null"
seen_text (Ref reference) = reference_text reference

-- ---- events

-- words, each behind a space
abbrev pub spaced : List Bytes → Bytes
spaced words = flat_map (λ (word : Bytes). space ∷ word) words

-- the word of a value, if there is one
abbrev pub seen_words : Option Seen → List Bytes
seen_words None = []
seen_words (Some seen) = seen_text seen ∷ []

-- the kind of an event and its fields
abbrev pub kind_words : EventKind → List Bytes
kind_words (kinds.Call class name desc values) =
    codes "call" ∷ printed_text class ∷ printed_text name ∷ printed_text desc
    ∷ map seen_text values
kind_words (kinds.Dynamic class bootstrap name desc values) =
    codes "dynamic" ∷ printed_text class ∷ decimal bootstrap ∷ printed_text name
    ∷ printed_text desc ∷ map seen_text values
kind_words (kinds.Get class name desc receiver) =
    codes "get" ∷ printed_text class ∷ printed_text name ∷ printed_text desc
    ∷ seen_words receiver
kind_words (kinds.Put class name desc receiver value) =
    codes "put" ∷ printed_text class ∷ printed_text name ∷ printed_text desc
    ∷ (seen_words receiver ++ seen_text value ∷ [])
kind_words (kinds.Float opcode values) = codes "float" ∷ decimal opcode ∷ map seen_text values
kind_words (kinds.Result value) = codes "result" ∷ seen_words value
kind_words (kinds.Threw reference) = codes "threw" ∷ reference_text reference ∷ []
kind_words (kinds.Got value) = codes "got" ∷ seen_text value ∷ []
kind_words (kinds.Length len) = codes "length" ∷ (codes "i:" ++ decimal len) ∷ []
kind_words (kinds.Made reference) = codes "made" ∷ reference_text reference ∷ []

-- a known reference whose monitor is entered, and how often
abbrev pub held_word : ℕ → ℕ → Bytes
held_word number count = codes "r:" ++ decimal number ++ codes "*" ++ decimal count

-- of the known references from a number on, by their counts
abbrev pub held_words : ℕ → List ℕ → List Bytes
held_words number [] = []
held_words number (count ∷ counts) =
    if count == 0 then held_words (suc number) counts
    else held_word number count ∷ held_words (suc number) counts

-- nothing where no monitor is entered
abbrev pub held_text : List Bytes → Bytes
held_text [] = []
held_text (word ∷ words) = codes " ; held" ++ spaced (word ∷ words)

abbrev pub event_line : ℕ → Event → Bytes
event_line number event =
    decimal number ++ spaced (kind_words event.kind) ++ codes " ; a=" ++ decimal event.allocations
    ++ codes " m=" ++ decimal event.entries ++ held_text (held_words 0 event.monitors)
    ++ line_feed ∷ []

-- events are counted from a number on
abbrev pub event_lines : ℕ → List Event → Bytes
event_lines number [] = []
event_lines number (event ∷ events) = event_line number event ++ event_lines (suc number) events

-- ---- the end

abbrev pub end_name : End → Bytes
end_name Stopped = codes "Stopped"
end_name Waits = codes "Waits"
end_name Running = codes "Running"
end_name (LibraryFault action) = codes "LibraryFault " ++ decimal action
end_name InitThrew = codes "InitThrew"
end_name ArrayTooLong = codes "ArrayTooLong"
end_name Stuck = codes "Stuck"

abbrev pub end_line : End → Bytes
end_line end = codes "end " ++ end_name end ++ line_feed ∷ []

-- all that is printed of a run
abbrev pub events_text : Shown → Bytes
events_text shown = event_lines 0 shown.events ++ end_line shown.end
