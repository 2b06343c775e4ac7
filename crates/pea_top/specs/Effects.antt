-- What a call leaves of the files, and what it prints.
use Rattle.std.specs.Prelude.{◌≡◌, ◌≢◌, ℕ, ◌⊎◌, List, ◌++◌, length, sum_by, Some, None, IsSome}
use Rattle.class_model.specs.ClassOf.{ClassOf}
use Rattle.class_model.specs.Header.{HeaderOf}
use Rattle.class_model.specs.declared.class_file.ClassFile.{ClassFile}
use Rattle.class_model.specs.declared.header.Header.{Header}
use Rattle.class_listing.specs.Listings.{listing}
use Rattle.class_rewrite.specs.declared.folder.Optimised.{Optimised}
use Rattle.class_tree.specs.Headers.{Classes}
use Rattle.class_tree.specs.Trees.{IsArranged}
use Rattle.host_tree.specs.Host.{Bytes, Folder, Files, SameFiles, IsPrefixPrinted}
use Rattle.host_tree.specs.declared.call.HostCall.TheVariants as calls
use Rattle.member_link.specs.TreePrograms.{IsProgram}
use Rattle.machine_values.specs.declared.action.Action.{Action}
use Rattle.member_link.specs.Machine.Programs.{Program}
use Rattle.member_link.specs.Machine.Runs.{shown_after}
use Rattle.machine_values.specs.declared.event.End.TheVariants as ends
use Rattle.machine_values.specs.declared.event.Shown.{Shown}
use Rattle.script_text.specs.Events.{events_text}
use Rattle.pea_top.specs.Words.{Word, Task, Optimise, Verify, Plan, Run, Both, Command, OnFolder, Listing, Generated, Spells}
use Rattle.pea_top.specs.Folders.{IsBytesBefore, AreNames, AreReadAs, HasClassFiles}
use Rattle.pea_top.specs.Lines.{verified_line}
use Rattle.pea_top.specs.Both.{AreBothShown, both_text}
use Rattle.pea_top.specs.Generating.{IsGeneratedText}
use Rattle.pea_top.specs.Optimising.{AreOptimised, IsOptimisedLine, IsPlanText, PutsOptimised}
use Rattle.pea_top.specs.Status.{Ending, completed, refused, failed, out_of_memory, line_of, refusal_line}
use Rattle.pea_top.specs.Answer.{CanDo, IsAnswer, IsScriptThere}
use Rattle.pea_top.specs.declared.status.Status.{Status}

-- The output has its old files with these put in, and every other root is as before.
pub record ArePut (final : Folder) (output : Bytes) (old new : Files) : Type 0 where
  pub put : (name bytes : Bytes) → final name ≡ Some bytes → new output name ≡ Some bytes
  pub kept : (name : Bytes) → final name ≡ None → new output name ≡ old output name
  pub others : (root name : Bytes) → root ≢ output → new root name ≡ old root name

-- The write of one name failed: the names before it have their final bytes, of that one nothing is said,
-- and all else is as before.
pub record ArePartlyPut (final : Folder) (output : Bytes) (old new : Files) : Type 0 where
  pub failing : Bytes
  pub is_written : IsSome (final failing)
  pub before :
      (name bytes : Bytes)
      → IsBytesBefore name failing
      → final name ≡ Some bytes
      → new output name ≡ Some bytes
  pub after : (name : Bytes) → IsBytesBefore failing name → new output name ≡ old output name
  pub kept :
      (name : Bytes) → final name ≡ None → name ≢ failing → new output name ≡ old output name
  pub others : (root name : Bytes) → root ≢ output → new root name ≡ old root name

-- the files after a command that was done
abbrev pub DoneFiles : Command → Files → Files → Type 0
DoneFiles (OnFolder input library (Optimise output)) old new =
    PutsOptimised (λ final. ArePut final output old new) (old input) (old library)
DoneFiles command old new = SameFiles old new

-- the files after a command of which a write failed; only optimising writes any
abbrev pub PartFiles : Command → Files → Files → Type 0
PartFiles (OnFolder input library (Optimise output)) old new =
    PutsOptimised (λ final. ArePartlyPut final output old new) (old input) (old library)
PartFiles command old new = ⊥

-- for the command that the words spell
pub record LeavesDone (words : List Word) (old new : Files) : Type 0 where
  pub command : Command
  pub spelled : Spells command words
  pub files : DoneFiles command old new

pub record LeavesPart (words : List Word) (old new : Files) : Type 0 where
  pub command : Command
  pub spelled : Spells command words
  pub files : PartFiles command old new

-- how many methods these have together
abbrev pub method_count : List ClassFile → ℕ
method_count classes = sum_by (λ class. length class.methods) classes

-- the run does not end stuck, whatever the library does
abbrev pub IsNeverStuck : Program → List Action → ℕ → Type 0
IsNeverStuck program actions steps = (shown_after program actions steps).end ≢ ends.Stuck

-- the text of what these class files show, with the headers of the library and by the script, in at most so many steps
pub record IsRunText (files : Files) (script library : Word) (steps : ℕ) (classes : List ClassFile)
    (text : Bytes)
    : Type 0 where
  pub headers : List Header
  pub headers_read : HasClassFiles HeaderOf (files library) headers
  pub actions : List Action
  pub is_script : IsScriptThere files script actions
  pub tree : Classes
  pub arranged : IsArranged classes headers tree
  pub program : Program
  pub is_program : IsProgram tree program
  pub is : text ≡ events_text (shown_after program actions steps)
  pub not_stuck : IsNeverStuck program actions steps

-- the texts of what these class files show, and of what their written folder shows, with the headers of the library and by the script, in at
-- most so many steps each
pub record IsBothText (files : Files) (input script library : Word) (steps : ℕ) (text : Bytes)
    : Type 0 where
  pub tree : Classes
  pub optimised : Optimised
  pub are : AreOptimised (files input) (files library) tree optimised
  pub actions : List Action
  pub is_script : IsScriptThere files script actions
  pub before : Shown
  pub after : Shown
  pub shown : AreBothShown tree optimised.classes actions steps before after
  pub is : text ≡ both_text before after

-- what is printed where a task was done, over so many files of its folder, of which these are its class files
abbrev pub IsTaskText : Word → Word → Task → Files → ℕ → List ClassFile → Bytes → Type 0
IsTaskText input library (Optimise output) files count classes text =
    IsOptimisedLine (files input) (files library) count (length classes) text
IsTaskText input library Verify files count classes text =
    text ≡ verified_line (length classes) (method_count classes)
IsTaskText input library Plan files count classes text =
    IsPlanText (files input) (files library) text
IsTaskText input library (Run script steps) files count classes text =
    IsRunText files script library steps classes text
IsTaskText input library (Both script steps) files count classes text =
    IsBothText files input script library steps text

-- the same, over the files of the folder
pub record IsFolderText (input library : Word) (task : Task) (files : Files) (text : Bytes)
    : Type 0 where
  pub names : List Bytes
  pub of_input : AreNames (files input) names
  pub classes : List ClassFile
  pub are_read : AreReadAs ClassOf (files input) names classes
  pub is : IsTaskText input library task files (length names) classes text

-- the listing of the class file of this name
pub record IsListingText (folder : Folder) (name text : Bytes) : Type 0 where
  pub bytes : Bytes
  pub there : folder name ≡ Some bytes
  pub class : ClassFile
  pub is_class : ClassOf bytes class
  pub is : text ≡ listing class

-- what is printed of a command that was done
abbrev pub IsDoneText : Command → Files → Bytes → Type 0
IsDoneText (OnFolder input library task) files text = IsFolderText input library task files text
IsDoneText (Listing input name) files text = IsListingText (files input) name text
IsDoneText (Generated number size) files text = IsGeneratedText number size text

-- what is printed of the command that the words spell
pub record IsSummary (words : List Word) (files : Files) (line : Bytes) : Type 0 where
  pub command : Command
  pub spelled : Spells command words
  pub is : IsDoneText command files line

-- all of the summary was printed
pub record PrintsSummary (words : List Word) (files : Files) (old new : Bytes) : Type 0 where
  pub line : Bytes
  pub is_line : IsSummary words files line
  pub printed : new ≡ old ++ line

-- a prefix of the summary was printed
pub record PrintsPart (words : List Word) (files : Files) (old new : Bytes) : Type 0 where
  pub line : Bytes
  pub is_line : IsSummary words files line
  pub prefix : IsPrefixPrinted line old new

-- the line of a refusal was printed, or, where the count of failed prints rose, a prefix of it
abbrev pub PrintsLine : Bytes → Type 0 → Bytes → Bytes → Type 0
PrintsLine line PrintRose old new = (new ≡ old ++ line) ⊎ (PrintRose × IsPrefixPrinted line old new)

-- What a call leaves and has printed where memory ran out, one of four: nothing; of a refusal a prefix of its line; where the
-- command can be done, some of its files, or all of them and a prefix of the summary.
pub data Unfinished (words : List Word) (old new : Files) (before after : Bytes) : Type 0 where
  before_work : SameFiles old new → after ≡ before → Unfinished words old new before after
  in_refusal :
      (answer : Status)
      → IsAnswer words old answer
      → SameFiles old new
      → IsPrefixPrinted (refusal_line answer) before after
      → Unfinished words old new before after
  in_writes :
      CanDo words old
      → LeavesPart words old new
      → after ≡ before
      → Unfinished words old new before after
  in_print :
      CanDo words old → LeavesDone words old new → PrintsPart words old before after
      → Unfinished words old new before after

-- the files after a call that ended in this way, and what it printed
abbrev pub Leaves : List Word → Files → Files → Type 0 → Bytes → Bytes → Ending → Type 0
Leaves words old new PrintRose before after completed =
    LeavesDone words old new × PrintsSummary words old before after
Leaves words old new PrintRose before after (refused refusal) =
    SameFiles old new × PrintsLine (line_of (refused refusal)) PrintRose before after
Leaves words old new PrintRose before after (failed calls.List) =
    SameFiles old new × (after ≡ before)
Leaves words old new PrintRose before after (failed calls.Read) =
    SameFiles old new × (after ≡ before)
Leaves words old new PrintRose before after (failed calls.Write) =
    LeavesPart words old new × (after ≡ before)
Leaves words old new PrintRose before after (failed calls.Print) =
    LeavesDone words old new × PrintsPart words old before after
Leaves words old new PrintRose before after out_of_memory = Unfinished words old new before after

-- the task writes files
abbrev pub WritesTask : Task → Type 0
WritesTask (Optimise output) = Unit {0}
WritesTask task = ⊥

-- the command writes files
abbrev pub IsWriting : Command → Type 0
IsWriting (OnFolder input library task) = WritesTask task
IsWriting (Listing input name) = ⊥
IsWriting (Generated number size) = ⊥

-- the words spell no command that writes
abbrev pub SpellNoWrite : List Word → Type 0
SpellNoWrite words = (command : Command) → Spells command words → ¬ IsWriting command

-- the command reads folders
abbrev pub IsOnFolder : Command → Type 0
IsOnFolder (OnFolder input library task) = Unit {0}
IsOnFolder (Listing input name) = ⊥
IsOnFolder (Generated number size) = ⊥

-- the words spell no command that reads folders
abbrev pub SpellNoFolder : List Word → Type 0
SpellNoFolder words = (command : Command) → Spells command words → ¬ IsOnFolder command
