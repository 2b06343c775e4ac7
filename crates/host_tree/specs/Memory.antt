-- What a host in memory holds.
use Rattle.std.specs.Prelude.{◌≡◌, ℕ, Bool, ◌==◌, List}
use Rattle.std.specs.List.{list_any}
use Rattle.host_tree.specs.declared.call.HostCall.{HostCall}
use Rattle.host_tree.specs.declared.memory.MemoryHost.{MemoryHost}
use Rattle.host_tree.specs.declared.progress.Progress.{Progress}
use Rattle.host_tree.specs.Faults.{count_of}
use Rattle.host_tree.specs.Host.{Bytes, Files}
use Rattle.host_tree.specs.Tree.{tree_files}

-- the bytes under each name of each root
abbrev pub stored : MemoryHost → Files
stored host = tree_files host.tree

-- the bytes printed so far
abbrev pub printed_by : MemoryHost → Bytes
printed_by host = host.printed.items

-- the explanations so far
abbrev pub explained_by : MemoryHost → Bytes
explained_by host = host.explained.items

-- the progress that was shown so far
abbrev pub shown_by : MemoryHost → List Progress
shown_by host = host.shown.items

-- how often calls of each kind have failed
abbrev pub faults_of : MemoryHost → HostCall → ℕ
faults_of host = count_of host.faults

-- whether the next call is one to refuse
abbrev pub is_refused : MemoryHost → Bool
is_refused host = list_any (λ number. number == host.next_call) host.fail

-- the number of the next call
abbrev pub next_call_of : MemoryHost → ℕ
next_call_of host = host.next_call

-- the numbers of the calls to refuse
abbrev pub refused_calls : MemoryHost → List ℕ
refused_calls host = host.fail

-- all but the files is as before
pub record SameButFiles (old new : MemoryHost) : Type 0 where
  pub printed : printed_by new ≡ printed_by old
  pub explained : explained_by new ≡ explained_by old
  pub shown : shown_by new ≡ shown_by old
  pub faults : (of : HostCall) → faults_of new of ≡ faults_of old of
  pub next_call : next_call_of new ≡ next_call_of old
  pub refused : refused_calls new ≡ refused_calls old
