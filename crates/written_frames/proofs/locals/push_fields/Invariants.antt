use Rattle.written_frames.proofs.locals.push_fields.Given as goal
use Rattle.written_frames.specs.Inner.FieldUnits.{HasFields}

abbrev pub invariant-loop-field : goal.invariant-loop-field
invariant-loop-field l = HasFields l.fn.locals l.fields l.locals l.field-index
