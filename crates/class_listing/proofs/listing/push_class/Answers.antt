-- The parts one behind the other are the listing.
use Rattle.std.proofs.Common.{◌++◌, ℕ, List, ap, ◌∙◌}
use Rattle.std.specs.List.{flat_map}
use Rattle.class_model.specs.declared.class_file.Attr.{Attr}
use Rattle.class_model.specs.declared.class_file.Field.{Field}
use Rattle.class_model.specs.declared.class_file.Method.{Method}
use Rattle.class_listing.specs.Inner.ListingTexts.{entries_text, field_text, interface_text, method_text, tail_text}
use Rattle.class_listing.specs.Lines.{class_line, end_line, line_text}
use Rattle.class_listing.proofs.PushedTexts.{class_pushed}
use Rattle.class_listing.proofs.WholeTexts.{class_is}
use Rattle.class_listing.proofs.listing.push_class.Goals as goal

pub returns : goal.returns
returns c =
    let class = c.args.class.now in
    let before = c.args.out.now.items in
    let one = c.push_class_line.new.out.items in
    let two = c.push_constants.new.out.items in
    let three = c.push_interfaces.new.out.items in
    let four = c.push_fields.new.out.items in
    let five = c.push_methods.new.out.items in
    let six = c.push_tail.new.out.items in
    class_pushed before one two three four five six c.extend_from_slice.new.self.items
    (line_text (class_line class.major class.minor class.flags class.this_class class.super_class))
    (entries_text 0 class.pool)
    (flat_map interface_text class.interfaces)
    (flat_map field_text class.fields)
    (flat_map method_text class.methods)
    (tail_text class.attrs)
    (line_text end_line)
    c.in_ok-push_class_line.ensures
    c.in_ok-push_constants.ensures
    (c.in_ok-push_interfaces.ensures ∙ ap (λ (xs : List ℕ). two ++ flat_map interface_text xs) c.as_slice.ensures)
    (c.in_ok-push_fields.ensures ∙ ap (λ (xs : List Field). three ++ flat_map field_text xs) c.as_slice-2.ensures)
    (c.in_ok-push_methods.ensures ∙ ap (λ (xs : List Method). four ++ flat_map method_text xs) c.as_slice-3.ensures)
    (c.in_ok-push_tail.ensures ∙ ap (λ (xs : List Attr). five ++ tail_text xs) c.as_slice-4.ensures)
    c.in_ok-extend_from_slice.ensures.items
    ∙ ap (λ (t : List ℕ). before ++ t) (class_is class)
