-- What the step that verifies answers.
use Rattle.std.specs.Prelude.{Option, None, Some, Result, Ok, Err}
use Rattle.class_tree.specs.Headers.{Classes}
use Rattle.flow_code.specs.TypedFrames.{FolderFrames}
use Rattle.pea_top.specs.declared.status.Status.{Status}
use Rattle.pea_top.specs.declared.status.Status.TheVariants as statuses
use Rattle.pea_top.specs.declared.work.Work.{Work}
use Rattle.pea_top.specs.declared.work.Work.TheVariants as works
use Rattle.type_rules.specs.Verified.{TypesFolder}
use Rattle.type_rules.specs.declared.fault.VerifyFault.{VerifyFault}
use Rattle.type_rules.specs.declared.fault.VerifyFault.TheVariants as faults
use Rattle.verify_folder.specs.Verifying.{FolderIsTyped}

-- the status of a command whose class files do not verify
abbrev pub verify_status : VerifyFault → Status
verify_status (faults.Unverified class method offset rule) =
    statuses.Unverified class method offset rule
verify_status faults.NoMemory = statuses.NoMemory

-- frames type the folder, and are kept but where only a line is to be printed
abbrev pub IsKept : Classes → Work → Option FolderFrames → Type 0
IsKept classes (works.Print line) kept = (typed : FolderFrames) × TypesFolder classes typed
IsKept classes work None = ⊥
IsKept classes work (Some typed) = TypesFolder classes typed

-- so it is, or the folder fails first in this
abbrev pub IsVerifiedFor : Classes → Work → Result (Option FolderFrames) VerifyFault → Type 0
IsVerifiedFor classes work (Ok kept) = IsKept classes work kept
IsVerifiedFor classes work (Err fault) = FolderIsTyped classes (Err fault)
