-- What stands where linking or verifying stops a command, and what was then explained.
use Rattle.std.proofs.Common.{◌≡◌, List, [], None, Some, Err, refl, sym, subst, inr}
use Rattle.class_model.specs.declared.class_file.ClassFile.{ClassFile}
use Rattle.class_model.specs.declared.header.Header.{Header}
use Rattle.class_tree.specs.Headers.{Classes}
use Rattle.class_tree.specs.Trees.{IsArranged, IsTree}
use Rattle.class_tree.specs.declared.fault.LinkFault.{LinkFault}
use Rattle.class_tree.specs.declared.fault.LinkFault.TheVariants as links
use Rattle.host_tree.specs.Host.{Bytes, Files, SameFiles}
use Rattle.host_tree.specs.declared.call.HostCall.TheVariants.{Read}
use Rattle.member_link.specs.Linked.{IsLinked}
use Rattle.type_rules.specs.declared.fault.VerifyFault.{VerifyFault}
use Rattle.type_rules.specs.declared.fault.VerifyFault.TheVariants as failures
use Rattle.verify_folder.specs.Verifying.{FolderIsTyped}
use Rattle.pea_top.specs.Answer.{AreRead, HasScript, script_of}
use Rattle.pea_top.specs.Inner.Deciding.{IsStop}
use Rattle.pea_top.specs.Inner.Linking.{link_status}
use Rattle.pea_top.specs.Inner.Linking.{IsLinkFault}
use Rattle.pea_top.specs.Inner.Scripts.{IsTaskStop, IsScriptStop, script_status}
use Rattle.pea_top.specs.Inner.Verifying.{verify_status}
use Rattle.pea_top.specs.Words.{Word, Task, Optimise, Verify, Plan, Run, Both, OnFolder, Spells}
use Rattle.pea_top.specs.declared.script.ScriptStop.{ScriptStop}
use Rattle.pea_top.specs.declared.script.ScriptStop.TheVariants as scripts
use Rattle.pea_top.specs.declared.status.Status.TheVariants.{Unlinked, Unverified, BadScript, Absent}
use Rattle.pea_top.proofs.Outcomes.{stop_no_memory, stop_refused, stop_failed}

module _ (words : List Word) (input library : Word) (task : Task) (spelled : Spells (OnFolder input library task) words) (old new : Files) (before after : Bytes) (same : SameFiles old new) (none : after ≡ before)
    (classes : List ClassFile) (headers : List Header) (read : AreRead (old input) (old library) classes headers) (script : HasScript task old) where
  pub stop_linking : (fault : LinkFault) → IsLinkFault classes headers fault → IsStop words old new before after (link_status fault)
  stop_linking (links.Unlinked class member rule) first =
      stop_refused words old new before after same none (Unlinked class member rule) refl
      (record { command = OnFolder input library task; spelled = spelled; is = record { classes = classes; headers = headers; read = read; script = script; first = first } })
  stop_linking links.NoMemory first = stop_no_memory words old new before after same none

  pub stop_verifying : (tree : Classes) → IsArranged classes headers tree → IsTree tree → IsLinked tree → (fault : VerifyFault) → FolderIsTyped tree (Err fault) → IsStop words old new before after (verify_status fault)
  stop_verifying tree arranged is_tree linked (failures.Unverified class method offset rule) fails =
      stop_refused words old new before after same none (Unverified class method offset rule) refl
      (record {
        command = OnFolder input library task;
        spelled = spelled;
        is = record {
          classes = classes;
          headers = headers;
          read = read;
          script = script;
          first = record { classes = tree; arranged = arranged; tree = is_tree; linked = linked; fails = fails };
        };
      })
  stop_verifying tree arranged is_tree linked failures.NoMemory fails = stop_no_memory words old new before after same none

-- what is to be done was not made
module _ (words : List Word) (old new : Files) (before after : Bytes) (same : SameFiles old new) (none : after ≡ before) (classes : List ClassFile) (headers : List Header) where
  stop_script : (input library : Word) (task : Task) (script : Word) → script_of task ≡ Some script → Spells (OnFolder input library task) words → AreRead (old input) (old library) classes headers → (stop : ScriptStop) → IsScriptStop old script stop
      → IsStop words old new before after (script_status stop)
  stop_script input library task script named spelled read (scripts.Absent name) is =
      let at_name : (script_of task ≡ Some name) × (old [] name ≡ None) = subst (λ (missing : Bytes). (script_of task ≡ Some missing) × (old [] missing ≡ None)) (sym is.0) (named, is.1) in
      stop_refused words old new before after same none (Absent name) refl
      (record { command = OnFolder input library task; spelled = spelled; is = record { classes = classes; headers = headers; read = read; named = at_name.0; absent = at_name.1 } })
  stop_script input library task script named spelled read scripts.Fault is = stop_failed words old new before after same none Read (inr refl)
  stop_script input library task script named spelled read (scripts.Outside line bytes) is =
      stop_refused words old new before after same none (BadScript line) refl
      (record { command = OnFolder input library task; spelled = spelled; is = record { classes = classes; headers = headers; read = read; script = script; named = named; bytes = bytes; there = is.0; outside = is.1 } })
  stop_script input library task script named spelled read scripts.NoMemory is = stop_no_memory words old new before after same none

  pub stop_making : (input library : Word) (task : Task) → Spells (OnFolder input library task) words → AreRead (old input) (old library) classes headers → (stop : ScriptStop) → IsTaskStop task old stop → IsStop words old new before after (script_status stop)
  stop_making input library (Optimise output) spelled read (scripts.Absent name) never = absurd never
  stop_making input library (Optimise output) spelled read scripts.Fault never = absurd never
  stop_making input library (Optimise output) spelled read (scripts.Outside line bytes) never = absurd never
  stop_making input library (Optimise output) spelled read scripts.NoMemory is = stop_no_memory words old new before after same none
  stop_making input library Verify spelled read (scripts.Absent name) never = absurd never
  stop_making input library Verify spelled read scripts.Fault never = absurd never
  stop_making input library Verify spelled read (scripts.Outside line bytes) never = absurd never
  stop_making input library Verify spelled read scripts.NoMemory is = stop_no_memory words old new before after same none
  stop_making input library Plan spelled read (scripts.Absent name) never = absurd never
  stop_making input library Plan spelled read scripts.Fault never = absurd never
  stop_making input library Plan spelled read (scripts.Outside line bytes) never = absurd never
  stop_making input library Plan spelled read scripts.NoMemory is = stop_no_memory words old new before after same none
  stop_making input library (Run script steps) spelled read stop is = stop_script input library (Run script steps) script refl spelled read stop is
  stop_making input library (Both script steps) spelled read stop is = stop_script input library (Both script steps) script refl spelled read stop is
