-- A call of an instance initialiser does not look at the class at which its selection would start.
use Rattle.std.proofs.Common.{◌≡◌, Bool, true, false, List, [], is_some, bytes_eq, if◌then◌else◌, refl, ap}
use Rattle.std.proofs.lemmas.Slice.Eq.{bytes_eq-Decides}
use Rattle.class_model.specs.Members.{STATIC}
use Rattle.class_model.specs.Names.{init}
use Rattle.class_tree.specs.Headers.{Name}
use Rattle.machine_values.specs.declared.value.Value.{Value}
use Rattle.member_link.specs.Machine.CallSteps.{call_special_work, if_conforms, is_object_init, on_receiver, special_choice, with_receiver}
use Rattle.member_link.specs.Machine.Completions.{ends, gives}
use Rattle.member_link.specs.Machine.Programs.{Chosen, Program, has_flag, method_of}
use Rattle.member_link.specs.Machine.Worlds.{Memory, stuck}
use Rattle.member_link.specs.References.{Reference}

pub start_of_initialiser : (P : Program) (memory : Memory) (r : Reference) (from other : Name) (operands : List Value) → r.name ≡ init
    → call_special_work P memory r other operands ≡ call_special_work P memory r from operands
start_of_initialiser P memory r from other operands is = by (is_some (method_of P r)) refl where
  found : bytes_eq r.name init ≡ true
  found = (bytes_eq-Decides r.name init).1 is

  choice : special_choice P other r ≡ special_choice P from r
  choice = rw (found) refl

  by : (b : Bool) → is_some (method_of P r) ≡ b
      → call_special_work P memory r other operands ≡ call_special_work P memory r from operands
  by false e = rw (found, e) refl
  by true e =
      rw (found, e) (ap (λ (chosen : Chosen). if has_flag (method_of P r) STATIC then ends stuck
      else with_receiver P memory r.desc (if_conforms P r (λ shape. if is_object_init r then gives memory [] else on_receiver P shape r r chosen operands)) operands) choice)
