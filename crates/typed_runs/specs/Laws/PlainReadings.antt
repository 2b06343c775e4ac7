-- Which operations are read as they are in any case.
use Rattle.std.specs.Prelude.{◌≡◌, ◌≢◌, true, false, refl, IsFalse}
use Rattle.std.proofs.Common.{sym, ◌∙◌}
use Rattle.std.proofs.lemmas.Bool.{false≢true}
use Rattle.class_model.specs.declared.frame.Frame.{Frame}
use Rattle.class_tree.specs.Headers.{Name}
use Rattle.member_link.specs.Machine.CallSteps.{is_object_init}
use Rattle.member_link.specs.Machine.Ops.{Op, call_special, new_object}
use Rattle.member_link.specs.References.{Reference}
use Rattle.member_link.specs.Rows.Readings.{Reading, reads_itself, reads_object, reads_pop}
use Rattle.typed_runs.specs.TypedPoints.{MayBeRead}

-- no new, and no call of java/lang/Object.<init>
pub record IsPlainlyRead (op : Op) : Type 0 where
  pub no_new : (name : Name) → op ≢ new_object name
  pub no_init : (r : Reference) (from : Name) → op ≡ call_special r from → IsFalse (is_object_init r)

pub plainly_read : (reading : Reading) (frame : Frame) (op : Op) → MayBeRead reading frame op → IsPlainlyRead op → reading ≡ reads_itself
plainly_read reads_itself frame op read plain = refl
plainly_read (reads_object class) frame op read plain = absurd (plain.no_new class read)
plainly_read (reads_pop desc) frame op read plain =
    absurd (false≢true (sym (plain.no_init read.reference read.from read.calls) ∙ read.of_object))
