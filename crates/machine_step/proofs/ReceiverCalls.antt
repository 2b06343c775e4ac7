-- What calls on receivers come to in each case.
use Rattle.std.proofs.Common.{◌≡◌, ◌||◌, ℕ, true, false, List, [], Option, Some, None, refl, sym, ap, subst, ◌∙◌}
use Rattle.class_model.specs.Members.{STATIC}
use Rattle.class_tree.specs.Headers.{Name}
use Rattle.machine_values.specs.declared.object.Shape.{Shape}
use Rattle.machine_values.specs.declared.object.Shape.TheVariants.{Folder}
use Rattle.machine_values.specs.declared.value.Value.{Value}
use Rattle.member_link.specs.Machine.CallSteps.{call_found_special, call_interface_work, call_virtual_work, call_special_work, found_special, if_conforms, is_object_init, is_polymorphic, run_chosen, special_choice, special_on, with_receiver}
use Rattle.member_link.specs.Machine.Completions.{gives}
use Rattle.member_link.specs.Machine.Programs.{Program, has_flag, method_of}
use Rattle.member_link.specs.Machine.Shapes.{is_external, shape_conforms}
use Rattle.member_link.specs.Machine.Worlds.{Memory}
use Rattle.member_link.specs.References.{Reference}
use Rattle.member_link.specs.declared.selection.CallForm.{CallForm}
use Rattle.member_link.specs.declared.selection.CallForm.TheVariants.{Virtual, Interface, Special}
use Rattle.machine_step.specs.Completing.{Completes}
use Rattle.machine_step.specs.declared.completed.Completed.{Completed}
use Rattle.machine_step.specs.Inner.Receivers.{IsByReceiver, by_shape, call_work, takes_shape}
use Rattle.member_link.specs.RunOps.{is_nothing}
use Rattle.member_link.specs.RunOps.{HasParameters, IsFoundByReceiver, IsFoundSpecial, IsReceiverTarget, IsSpecialTarget, RunsSpecial, called, takes_receiver}
use Rattle.member_link.specs.declared.run_op.CallOp.{CallOp}
use Rattle.member_link.specs.declared.run_op.CallTarget.{CallTarget}
use Rattle.member_link.specs.declared.run_op.Callee.{Callee}
use Rattle.member_link.specs.declared.run_op.Callee.TheVariants.{Runs, Asks, Raises, Nothing}

-- ---- selection by the receiver's class, in both forms

pub work_is :
    (P : Program) (memory : Memory) (named : Reference) (form : CallForm) (values : List Value) (method : Reference)
    → P.links.method named ≡ Some method
    → has_flag (method_of P method) STATIC ≡ false
    → call_work P form memory named (P.links.method named) values
    ≡ with_receiver P memory named.desc (by_shape P form named method values) values
work_is P memory named form values method link of_object = rw link (rw of_object refl)

pub takes_same :
    (P : Program) (form : CallForm) (class : ℕ) (named : Name)
    → takes_receiver P form class named ≡ takes_shape P form (Folder class) named
takes_same P Virtual class named = refl
takes_same P Interface class named = refl
takes_same P Special class named = refl

-- ---- a method that is found

pub receiver_target :
    (P : Program) (form : CallForm) (op : CallOp) (target : CallTarget)
    → op.found ≡ Some target
    → IsFoundByReceiver P form op op.found
    → IsReceiverTarget P form op target
receiver_target P form op target is found = subst (IsFoundByReceiver P form op) is found

pub special_target :
    (P : Program) (op : CallOp) (from : Name) (target : CallTarget)
    → op.from ≡ Some from
    → op.found ≡ Some target
    → IsFoundSpecial P op op.from op.found
    → IsSpecialTarget P op from target
special_target P op from target starts is found =
    subst (IsFoundSpecial P op (Some from)) is
    (subst (λ (o : Option Name). IsFoundSpecial P op o op.found) starts found)

pub by_receiver :
    (P : Program) (form : CallForm) (op : CallOp) (target : CallTarget)
    → IsReceiverTarget P form op target
    → target.is_static ≡ false
    → IsByReceiver P form op.named target
by_receiver P form op target is static = record {
  of_object = sym is.found.static ∙ static;
  asked = is.found.asked;
  polymorphic = is.found.polymorphic;
  seen = is.seen;
}

-- ---- special calls

module _ (P : Program) (memory : Memory) (named : Reference) (from : Name) (values : List Value) (method : Reference) where
  pub special_is :
      found_special P named ≡ Some method
      → has_flag (method_of P method) STATIC ≡ false
      → call_special_work P memory named from values
      ≡ with_receiver P memory named.desc (if_conforms P named (special_on P memory named from method values)) values
  special_is found of_object =
      ap (λ (o : Option Reference). call_found_special P memory named from o values) found
      ∙ rw of_object refl

  module _ (shape : Shape) where
    pub conforming :
        shape_conforms P shape named.class ≡ true
        → if_conforms P named (special_on P memory named from method values) shape
        ≡ special_on P memory named from method values shape
    conforming conforms = rw conforms refl

    pub special_nothing :
        is_object_init method ≡ true
        → special_on P memory named from method values shape ≡ gives memory []
    special_nothing init = rw init refl

    pub special_runs :
        is_object_init method ≡ false
        → (is_external shape || is_polymorphic P named) ≡ false
        → special_on P memory named from method values shape ≡ run_chosen P (special_choice P from method) values
    special_runs init runs = rw init (rw runs refl)

module _ (P : Program) (from : Name) (target : CallTarget) where
  pub runs_nothing :
      (callee : Callee)
      → is_nothing callee ≡ true
      → RunsSpecial P from target (Some callee)
      → is_object_init target.method ≡ true
  runs_nothing (Runs at) nothing runs = absurd cc
  runs_nothing (Asks method) nothing runs = absurd cc
  runs_nothing (Raises throwable) nothing runs = absurd cc
  runs_nothing Nothing nothing runs = runs

  pub runs_something :
      (callee : Callee)
      → is_nothing callee ≡ false
      → RunsSpecial P from target (Some callee)
      → (is_object_init target.method ≡ false)
      × ((memory : Memory) (values : List Value)
      → run_chosen P (special_choice P from target.method) values ≡ called memory callee values)
  runs_something (Runs at) something runs = runs
  runs_something (Asks method) something runs = runs
  runs_something (Raises throwable) something runs = runs
  runs_something Nothing something runs = absurd cc

-- ---- each form is the definition's

pub virtual_is :
    (P : Program) (memory : Memory) (named : Reference) (link : Option Reference) (values : List Value)
    → call_work P Virtual memory named link values ≡ call_virtual_work P memory named link values
virtual_is P memory named None values = refl
virtual_is P memory named (Some found) values = refl

pub interface_is :
    (P : Program) (memory : Memory) (named : Reference) (link : Option Reference) (values : List Value)
    → call_work P Interface memory named link values ≡ call_interface_work P memory named link values
interface_is P memory named None values = refl
interface_is P memory named (Some found) values = refl

-- what a call comes to, by the operation that it is a call of
pub called_by :
    (P : Program) (form : CallForm) (memory : Memory) (values : List Value) (completed : Completed) (one other : CallOp)
    → one ≡ other
    → (HasParameters one
    → IsFoundByReceiver P form one one.found
    → Completes memory memory values completed (call_work P form memory one.named (P.links.method one.named) values))
    → HasParameters other × IsFoundByReceiver P form other other.found
    → Completes memory memory values completed (call_work P form memory other.named (P.links.method other.named) values)
called_by P form memory values completed one other same comes known =
    subst (λ (op : CallOp). HasParameters op → IsFoundByReceiver P form op op.found
    → Completes memory memory values completed (call_work P form memory op.named (P.links.method op.named) values)) same comes known.0 known.1
