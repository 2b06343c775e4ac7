use Rattle.std.proofs.Common.{◌≡◌, ◌<◌, ℕ, length, drop, sym, ap, ◌∙◌, arith}
use Rattle.std.proofs.lemmas.List.{length-map}
use Rattle.class_model.specs.Header.{header_of}
use Rattle.class_tree.specs.Headers.{headers_of}
use Rattle.machine_heap.specs.Inner.Climbs.{blanks_up}
use Rattle.machine_heap.proofs.ClimbedFields.{blank_object_is}
use Rattle.machine_heap.proofs.blanks.blank_fields.Goals as goal

-- src/blanks.rt:33:1
pub returns : goal.returns
returns c =
    let headers = headers_of c.args.tree.now in
    let places = c.in_ok-places.places.items in
    let none : c.loop-left.left ≡ 0 = omega arith in
    let within : c.args.class < length headers.folder = omega (arith, length-map c.args.tree.now.folder header_of, c.requires) in
    c.loop-left.invariant.1 ∙ ap (λ (left : ℕ). blanks_up headers (drop left places)) none
    ∙ sym (blank_object_is headers c.a_tree_is_a_hierarchy.ensures c.args.class places within c.in_ok-places.ensures)
