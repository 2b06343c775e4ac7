use Rattle.class_tree.specs.Headers.{headers_of}
use Rattle.expanded_runs.proofs.Replacements.{has_replacement}
use Rattle.expanded_runs.proofs.laws.expanded_flat_codes_have_a_replacement.Goals as goal
use Rattle.member_link.specs.References.{Reference}

pub returns : goal.returns
returns c = λ classes typed links flats are_links expanded.
    has_replacement classes typed links flats
    (λ (r : Reference). c.a_look_up_finds_one_field.ensures (headers_of classes) r.class r.name r.desc) are_links expanded
