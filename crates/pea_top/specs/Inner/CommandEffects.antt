-- What writing files that were read leaves, and what is printed of it.
use Rattle.std.specs.Prelude.{◌≡◌, List, ◌++◌}
use Rattle.host_tree.specs.Host.{Bytes, Files, SameFiles, IsPrefixPrinted}
use Rattle.host_tree.specs.declared.call.HostCall.TheVariants as calls
use Rattle.pea_top.specs.Status.{Ending, completed, refused, failed, out_of_memory}
use Rattle.pea_top.specs.Inner.Writing.{Puts, PutsSome}
use Rattle.pea_top.specs.declared.folder.NamedFile.{NamedFile}

-- what is left where memory ran out
pub data WrittenSome (root : Bytes) (files : List NamedFile) (line : Bytes) (old new : Files)
    (before after : Bytes)
    : Type 0 where
  some_files :
      PutsSome root files old new
      → after ≡ before
      → WrittenSome root files line old new before after
  all_files :
      Puts root files old new → IsPrefixPrinted line before after
      → WrittenSome root files line old new before after

-- the files, and what was printed, after these were to be written under a root and then a line printed
abbrev pub LeavesWritten :
    Bytes → List NamedFile → Bytes → Files → Files → Bytes → Bytes → Ending → Type 0
LeavesWritten root files line old new before after completed =
    Puts root files old new × (after ≡ before ++ line)
LeavesWritten root files line old new before after (refused refusal) = ⊥
LeavesWritten root files line old new before after (failed calls.List) = ⊥
LeavesWritten root files line old new before after (failed calls.Read) = ⊥
LeavesWritten root files line old new before after (failed calls.Write) =
    PutsSome root files old new × (after ≡ before)
LeavesWritten root files line old new before after (failed calls.Print) =
    Puts root files old new × IsPrefixPrinted line before after
LeavesWritten root files line old new before after out_of_memory =
    WrittenSome root files line old new before after

-- the same where nothing is written
abbrev pub LeavesPrinted : Bytes → Files → Files → Bytes → Bytes → Ending → Type 0
LeavesPrinted line old new before after completed = SameFiles old new × (after ≡ before ++ line)
LeavesPrinted line old new before after (refused refusal) = ⊥
LeavesPrinted line old new before after (failed calls.List) = ⊥
LeavesPrinted line old new before after (failed calls.Read) = ⊥
LeavesPrinted line old new before after (failed calls.Write) = ⊥
LeavesPrinted line old new before after (failed calls.Print) =
    SameFiles old new × IsPrefixPrinted line before after
LeavesPrinted line old new before after out_of_memory =
    SameFiles old new × IsPrefixPrinted line before after
