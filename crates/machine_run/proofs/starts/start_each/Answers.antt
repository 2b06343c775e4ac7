use Rattle.std.proofs.Common.{◌≡◌, List, length, slice_get, Some, refl, sym, subst}
use Rattle.std.proofs.lemmas.Option.{slice_get_read}
use Rattle.class_model.specs.declared.class_file.Field.{Field}
use Rattle.machine_run.proofs.BegunStarts.{desc_is, one_start_more}
use Rattle.machine_run.proofs.starts.start_each.Goals as goal

pub loop-number-preserved : goal.loop-number-preserved
loop-number-preserved c = λ P are.
    let fields = c.as_slice-fields.result.now in
    let number = c.loop-number.number in
    let field = c.index-fields-number.result in
    let at = slice_get_read fields (length fields) number field refl c.loop-number-test.true c.index-fields-number.is in
    one_start_more P c.args.class _ _ _ c.args.file.now.pool fields number field c.loop-number-test.true (sym c.index-fields-number.is)
    (c.loop-number.invariant P are)
    (c.in_ok-start_field.ensures P
    (desc_is P c.args.class c.args.file.now are number field (subst (λ (all : List Field). slice_get all number ≡ Some field) c.as_slice-fields.ensures at)))
