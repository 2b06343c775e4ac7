use Rattle.written_files.proofs.WrittenClasses.KeptValues.{written_is}
use Rattle.written_files.proofs.class_laws.a_written_class_is_a_class_file.Goals as goal

pub returns : goal.returns
returns c = λ file also is w.
    let fits =
    written_is c.a_class_file_holds_over_a_grown_pool.ensures c.checks_do_not_depend_on_places.ensures.methods
    c.checks_do_not_depend_on_places.ensures.attrs file also (c.a_class_file_fits_its_items.ensures file is) w in
    c.a_value_is_the_class_file_of_its_bytes.ensures also fits.counts fits.numbers fits.value
