-- What is decided of a command, step by step, and what a call then leaves and prints.
use Rattle.std.specs.Prelude.{◌≡◌, ℕ, List, length}
use Rattle.class_model.specs.Header.{HeaderOf}
use Rattle.class_model.specs.declared.class_file.ClassFile.{ClassFile}
use Rattle.class_model.specs.declared.header.Header.{Header}
use Rattle.class_tree.specs.Headers.{Classes}
use Rattle.class_tree.specs.Trees.{IsArranged, IsTree}
use Rattle.host_tree.specs.Host.{Bytes, Files, SameFiles}
use Rattle.member_link.specs.TreePrograms.{IsProgram}
use Rattle.machine_values.specs.declared.action.Action.{Action}
use Rattle.member_link.specs.Machine.Programs.{Program}
use Rattle.member_link.specs.Machine.Runs.{shown_after}
use Rattle.script_text.specs.Events.{events_text}
use Rattle.type_rules.specs.Verified.{IsVerified}
use Rattle.pea_top.specs.Answer.{HasCause, IsScriptThere}
use Rattle.pea_top.specs.Effects.{IsNeverStuck, method_count, Leaves}
use Rattle.pea_top.specs.Folders.{HasClassFiles}
use Rattle.pea_top.specs.Inner.Reading.{AreGoodFiles}
use Rattle.pea_top.specs.Lines.{verified_line}
use Rattle.pea_top.specs.Status.{Ending, completed, refused, failed, out_of_memory, ending}
use Rattle.pea_top.specs.Words.{Word, Task, Optimise, Verify, Plan, Run, Both}
use Rattle.pea_top.specs.declared.folder.NamedFile.{NamedFile}
use Rattle.pea_top.specs.declared.status.Status.{Status}
use Rattle.pea_top.specs.declared.work.Work.{Work}
use Rattle.pea_top.specs.declared.work.Work.TheVariants as works

-- the files of a folder and the headers of its library
pub record AreInput (input library : Word) (old : Files) (files : List NamedFile)
    (classes : List ClassFile) (headers : List Header)
    : Type 0 where
  pub good : AreGoodFiles (old input) files classes
  pub headers_read : HasClassFiles HeaderOf (old library) headers

-- what is left to do of a task, whose folder has these class files
abbrev pub IsWork : Task → Files → List ClassFile → Work → Type 0
IsWork (Optimise output) old classes (works.Optimise folder names) = folder.now ≡ output
IsWork Verify old classes (works.Print line) =
    line.items ≡ verified_line (length classes) (method_count classes)
IsWork Plan old classes works.Plan = Unit {0}
IsWork (Run script steps) old classes (works.Run actions most) =
    IsScriptThere old script actions × (most ≡ steps)
IsWork (Both script steps) old classes (works.Both actions most) =
    IsScriptThere old script actions × (most ≡ steps)
IsWork task old classes work = ⊥

-- the work writes files
abbrev pub WritesFiles : Work → Type 0
WritesFiles (works.Optimise folder names) = Unit {0}
WritesFiles work = ⊥

-- the text of what a program of these classes shows by these actions, in at most so many steps
pub record IsShown (tree : Classes) (actions : List Action) (steps : ℕ) (text : Bytes) : Type 0 where
  pub program : Program
  pub is_program : IsProgram tree program
  pub is : text ≡ events_text (shown_after program actions steps)
  pub not_stuck : IsNeverStuck program actions steps

-- what was read for a task, and what is left to do
pub record IsPrepared (input library : Word) (task : Task) (old : Files) (files : List NamedFile)
    (classes : List ClassFile) (headers : List Header) (work : Work)
    : Type 0 where
  pub read : AreInput input library old files classes headers
  pub is_work : IsWork task old classes work

-- these files with their class files and headers, which are the hierarchy
pub record AreArranged (input library : Word) (task : Task) (old : Files) (files : List NamedFile)
    (tree : Classes) (work : Work)
    : Type 0 where
  pub classes : List ClassFile
  pub headers : List Header
  pub prepared : IsPrepared input library task old files classes headers work
  pub arranged : IsArranged classes headers tree
  pub is_tree : IsTree tree

-- all is decided: the task can be done
pub record AreReady (input library : Word) (task : Task) (old : Files) (files : List NamedFile)
    (tree : Classes) (work : Work)
    : Type 0 where
  pub classes : List ClassFile
  pub headers : List Header
  pub prepared : IsPrepared input library task old files classes headers work
  pub arranged : IsArranged classes headers tree
  pub verified : IsVerified tree

-- a status, with its cause, the files that it leaves and what was printed
pub record IsOutcome (words : List Word) (old new : Files) (PrintRose : Type 0)
    (before after : Bytes) (status : Status)
    : Type 0 where
  pub cause : HasCause words old status
  pub left : Leaves words old new PrintRose before after (ending status)

-- Before the line of a refusal is printed: nothing was written or printed. Other endings have left what they leave.
abbrev pub Stands : List Word → Files → Files → Bytes → Bytes → Ending → Type 0
Stands words old new before after completed = Leaves words old new ⊥ before after completed
Stands words old new before after (refused refusal) = SameFiles old new × (after ≡ before)
Stands words old new before after (failed call) = Leaves words old new ⊥ before after (failed call)
Stands words old new before after out_of_memory = Leaves words old new ⊥ before after out_of_memory

-- a status, with its cause and what stands before its line is printed
pub record IsStop (words : List Word) (old new : Files) (before after : Bytes) (status : Status)
    : Type 0 where
  pub cause : HasCause words old status
  pub stands : Stands words old new before after (ending status)
