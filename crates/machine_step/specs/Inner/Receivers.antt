-- Calls that select by the class of the receiver, in both forms: they differ in the test of the receiver, and in what happens where it fails.
use Rattle.std.specs.Prelude.{◌≡◌, Bool, false, List, Option, Some, None, IfSome, if◌then◌else◌}
use Rattle.class_model.specs.Members.{STATIC}
use Rattle.class_tree.specs.Headers.{Name}
use Rattle.machine_values.specs.declared.object.Shape.{Shape}
use Rattle.machine_values.specs.declared.value.Value.{Value}
use Rattle.member_link.specs.Machine.CallSteps.{as_asked, is_polymorphic, on_receiver, with_receiver}
use Rattle.member_link.specs.Machine.Completions.{Completion, raises, ends}
use Rattle.member_link.specs.Machine.Programs.{Program, has_flag, method_of}
use Rattle.member_link.specs.Machine.Shapes.{class_of_shape, is_instance, shape_conforms}
use Rattle.member_link.specs.Machine.Throwables.{incompatible_change}
use Rattle.member_link.specs.Machine.Worlds.{Memory, stuck}
use Rattle.member_link.specs.References.{Reference}
use Rattle.member_link.specs.declared.selection.CallForm.{CallForm}
use Rattle.member_link.specs.declared.selection.CallForm.TheVariants.{Interface}
use Rattle.member_link.specs.RunOps.{IsSeenCallee}
use Rattle.member_link.specs.declared.run_op.CallTarget.{CallTarget}

abbrev pub takes_shape : Program → CallForm → Shape → Name → Bool
takes_shape P Interface shape named = is_instance P shape named
takes_shape P form shape named = shape_conforms P shape named

-- where the receiver is not taken
abbrev pub refused : CallForm → Completion
refused Interface = raises incompatible_change
refused form = ends stuck

-- on an object of a shape
abbrev pub by_shape :
    Program → CallForm → Reference → Reference → List Value → Shape → Completion
by_shape P form named found values shape =
    if takes_shape P form shape named.class
    then on_receiver P shape named found (P.links.select (class_of_shape P shape) found form) values
    else refused form

abbrev pub call_work :
    Program → CallForm → Memory → Reference → Option Reference → List Value → Completion
call_work P form memory named None values = ends stuck
call_work P form memory named (Some found) values =
    if has_flag (method_of P found) STATIC then ends stuck
    else with_receiver P memory named.desc (by_shape P form named found values) values

-- what is known of a method that is found and not static
pub record IsByReceiver (P : Program) (form : CallForm) (named : Reference) (target : CallTarget)
    : Type 0 where
  pub of_object : has_flag (method_of P target.method) STATIC ≡ false
  pub asked : target.asked ≡ as_asked P named target.method
  pub polymorphic : target.is_polymorphic ≡ is_polymorphic P named
  pub seen : IfSome target.seen (IsSeenCallee P form named target.method)
