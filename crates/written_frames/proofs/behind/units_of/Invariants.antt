use Rattle.std.proofs.Common.{◌≡◌, ◌+◌, drop}
use Rattle.class_model.specs.Descriptors.{parameter_units}
use Rattle.written_frames.proofs.behind.units_of.Given as goal

abbrev pub invariant-loop-field : goal.invariant-loop-field
invariant-loop-field l =
    l.units + parameter_units (drop l.field-index l.fields) ≡ parameter_units l.fields
