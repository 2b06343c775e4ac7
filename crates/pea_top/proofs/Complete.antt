-- Each answer that words and files determine is given, where nothing stands in its way.
use Rattle.std.proofs.Common.{◌≡◌, ◌≢◌, ◌⊎◌, ℕ, List, inl, inr, refl, sym, ◌∙◌, subst}
use Rattle.host_tree.specs.Counts.{CountsOnly, Rose}
use Rattle.host_tree.specs.Host.{Files}
use Rattle.host_tree.specs.declared.call.HostCall.{HostCall}
use Rattle.host_tree.specs.declared.call.HostCall.TheVariants as calls
use Rattle.pea_top.specs.Answer.{CanDo, HasCause, IsAnswer}
use Rattle.pea_top.specs.Words.{Word}
use Rattle.pea_top.proofs.Outcomes.{Rose-before}
use Rattle.pea_top.specs.declared.status.Status.{Status}
use Rattle.pea_top.specs.declared.status.Status.TheVariants.{Done, Usage, Malformed, Version, Unlinked, Unverified, BadScript, Absent, HostFault, NoMemory}

-- words and files have one answer
abbrev OneAnswer : Type 0
OneAnswer = (words : List Word) (files : Files) (one other : Status) → IsAnswer words files one → IsAnswer words files other → one ≡ other

module _ (one_answer : OneAnswer) (words : List Word) (files : Files) where
  -- a refusal that words and files determine
  pub comes : (answer result : Status) → IsAnswer words files answer → answer ≢ Done → HasCause words files result → result ≢ HostFault calls.List → result ≢ HostFault calls.Read → (result ≡ answer) ⊎ (result ≡ NoMemory)
  comes answer Done is other cause no_list no_read = absurd (other (one_answer words files answer Done is cause))
  comes answer Usage is other cause no_list no_read = inl (one_answer words files Usage answer cause is)
  comes answer (Malformed name at rule) is other cause no_list no_read = inl (one_answer words files (Malformed name at rule) answer cause is)
  comes answer (Version name major minor) is other cause no_list no_read = inl (one_answer words files (Version name major minor) answer cause is)
  comes answer (Unlinked class member rule) is other cause no_list no_read = inl (one_answer words files (Unlinked class member rule) answer cause is)
  comes answer (Unverified class method offset rule) is other cause no_list no_read = inl (one_answer words files (Unverified class method offset rule) answer cause is)
  comes answer (BadScript line) is other cause no_list no_read = inl (one_answer words files (BadScript line) answer cause is)
  comes answer (Absent name) is other cause no_list no_read = inl (one_answer words files (Absent name) answer cause is)
  comes answer (HostFault calls.List) is other cause no_list no_read = absurd (no_list refl)
  comes answer (HostFault calls.Read) is other cause no_list no_read = absurd (no_read refl)
  comes answer (HostFault calls.Write) is other cause no_list no_read = absurd (other (one_answer words files answer Done is cause))
  comes answer (HostFault calls.Print) is other cause no_list no_read = absurd (other (one_answer words files answer Done is cause))
  comes answer NoMemory is other cause no_list no_read = inr refl

  -- a command that can be done
  pub done : (result : Status) → CanDo words files → HasCause words files result → ((call : HostCall) → result ≢ HostFault call) → (result ≡ Done) ⊎ (result ≡ NoMemory)
  done Done can cause no_fault = inl refl
  done Usage can cause no_fault = inl (one_answer words files Usage Done cause can)
  done (Malformed name at rule) can cause no_fault = inl (one_answer words files (Malformed name at rule) Done cause can)
  done (Version name major minor) can cause no_fault = inl (one_answer words files (Version name major minor) Done cause can)
  done (Unlinked class member rule) can cause no_fault = inl (one_answer words files (Unlinked class member rule) Done cause can)
  done (Unverified class method offset rule) can cause no_fault = inl (one_answer words files (Unverified class method offset rule) Done cause can)
  done (BadScript line) can cause no_fault = inl (one_answer words files (BadScript line) Done cause can)
  done (Absent name) can cause no_fault = inl (one_answer words files (Absent name) Done cause can)
  done (HostFault call) can cause no_fault = absurd (no_fault call refl)
  done NoMemory can cause no_fault = inr refl

list_not_print : calls.List ≢ calls.Print
list_not_print e = cc

read_not_print : calls.Read ≢ calls.Print
read_not_print e = cc

write_not_print : calls.Write ≢ calls.Print
write_not_print e = cc

-- a count that rose before the line of a refusal is printed rose in the call
rose_behind : (old mid new : HostCall → ℕ) → CountsOnly calls.Print mid new → (call : HostCall) → Rose (old call) (mid call) → Rose (old call) (new call)
rose_behind old mid new counts calls.Print rose = Rose-before rose counts.own
rose_behind old mid new counts calls.List rose = subst (Rose (old calls.List)) (sym (counts.others calls.List list_not_print)) rose
rose_behind old mid new counts calls.Read rose = subst (Rose (old calls.Read)) (sym (counts.others calls.Read read_not_print)) rose
rose_behind old mid new counts calls.Write rose = subst (Rose (old calls.Write)) (sym (counts.others calls.Write write_not_print)) rose

-- a fault that is answered is one of before the line of a refusal is printed
pub fault_behind : (old mid new : HostCall → ℕ) {result stop : Status} → (result ≡ stop) ⊎ (result ≡ NoMemory) → ((call : HostCall) → stop ≡ HostFault call → Rose (old call) (mid call)) → CountsOnly calls.Print mid new → (call : HostCall) → result ≡ HostFault call
    → Rose (old call) (new call)
fault_behind old mid new (inl same) fault counts call is = rose_behind old mid new counts call (fault call (sym same ∙ is))
fault_behind old mid new (inr none) fault counts call is = absurd (not_memory call (sym none ∙ is))
  where
    not_memory : (call : HostCall) → NoMemory ≢ HostFault call
    not_memory call e = cc
