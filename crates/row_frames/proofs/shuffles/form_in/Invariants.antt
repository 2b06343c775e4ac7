use Rattle.std.proofs.Common.{◌≡◌, map, drop}
use Rattle.member_link.specs.Rows.ShuffleRows.{form_in}
use Rattle.row_frames.proofs.shuffles.form_in.Given as goal
use Rattle.row_frames.specs.Inner.Forms.{form_meant}

abbrev pub invariant-loop-form : goal.invariant-loop-form
invariant-loop-form l = form_in (map form_meant (drop l.form-index l.forms)) l.stack ≡ form_in (map form_meant l.forms) l.stack
