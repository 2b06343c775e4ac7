use Rattle.class_rewrite.proofs.AccessedItems.{AccessLaws, access_passes}
use Rattle.class_rewrite.proofs.access_laws.rewritten_items_may_use_what_they_name.Goals as goal

laws : goal.After-a_grown_class_has_a_grown_header → AccessLaws
laws c = record {
  items = c.written_items_may_use_what_they_name.ensures.rows;
  rows = c.rows_hold_among_grown_classes.ensures.held;
  usable = c.an_expanded_flat_code_names_what_the_host_may_use.ensures.code;
  header = c.a_grown_class_has_a_grown_header.ensures.class;
}

pub returns : goal.returns
returns c = λ r files w verified at v host now is state.
    access_passes (laws c) r files w verified (c.a_written_folder_is_ready.ensures r files w verified) at v host now is state
