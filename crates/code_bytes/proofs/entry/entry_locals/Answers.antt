use Rattle.std.proofs.Common.{◌≡◌, ◌++◌, List, map, sym, subst, ◌∙◌}
use Rattle.std.specs.Prelude.{IfOk}
use Rattle.std.specs.Option.{option_copied}
use Rattle.class_model.specs.Code.{verification_type}
use Rattle.class_model.specs.Frames.{units_of_entries}
use Rattle.class_model.specs.PoolChecks.{utf8_at}
use Rattle.class_model.specs.declared.descriptor.FieldType.{FieldType}
use Rattle.code_bytes.specs.Entry.{this_entries}
use Rattle.code_bytes.proofs.entry.entry_locals.Goals as goal

pub returns : goal.returns
returns c =
    subst (λ (params : List FieldType). IfOk c.locals_of.result (λ locals. locals ≡ this_entries c.args.flags (utf8_at c.args.pool.now c.args.name) (option_copied c.args.class) ++ units_of_entries (map verification_type params)))
    (c.as_slice.ensures ∙ sym c.in_ok-descriptor.ensures.params) c.locals_of.ensures
