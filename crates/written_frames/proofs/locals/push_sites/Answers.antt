use Rattle.std.proofs.Common.{◌≡◌, ◌++◌, ◌∙◌, Bool, List, ap, length, refl, slice_get, Some}
use Rattle.std.proofs.lemmas.Option.{get_or_from_slice_get, slice_get_read}
use Rattle.class_model.specs.declared.descriptor.FieldType.{FieldType}
use Rattle.flow_code.specs.declared.point.Site.{Site}
use Rattle.making_code.specs.StateFrames.{field_types}
use Rattle.written_frames.proofs.FieldUnits.{site_next}
use Rattle.written_frames.proofs.locals.push_sites.Goals as goal

pub loop-number-preserved : goal.loop-number-preserved
loop-number-preserved c =
    let sites = c.args.sites.now in
    let number = c.loop-number.number in
    let site = c.index-sites-number.result in
    let there : slice_get sites number ≡ Some site = slice_get_read sites (length sites) number site refl c.loop-number-test.true c.index-sites-number.is in
    site_next c.args.state.now c.args.locals.now sites c.loop-number.locals c.push_site.new.locals number site there
    (c.in_ok-push_site.ensures
    ∙ ap (λ (fields : List FieldType). c.loop-number.locals ++ field_types c.present.result fields) c.as_slice-fields.ensures
    ∙ ap (λ (one : Site). c.loop-number.locals ++ field_types c.present.result one.fields) (get_or_from_slice_get sites number site site there)
    ∙ ap (λ (test : Bool). c.loop-number.locals ++ field_types test site.fields) c.present.ensures)
    c.loop-number.invariant
