-- The line, and the attributes behind it.
use Rattle.std.proofs.Common.{◌++◌, List, codes, ap, ◌∙◌}
use Rattle.std.proofs.lemmas.Result.{on_ok_weaker}
use Rattle.class_model.specs.declared.class_file.Attr.{Attr}
use Rattle.script_text.specs.Events.{spaced}
use Rattle.class_listing.specs.Inner.ListingTexts.{attrs_text}
use Rattle.class_listing.specs.Lines.{member_words}
use Rattle.class_listing.proofs.PushedTexts.{member_pushed}
use Rattle.class_listing.proofs.members.push_method.Goals as goal

pub returns : goal.returns
returns c =
    let member = c.args.method.now in
    let line = c.push_member.new.out.items in
    on_ok_weaker c.push_attributes.result
    (λ attrs. member_pushed c.args.out.now.items c.extend_from_slice.new.self.items line c.push_attributes.new.out.items (codes "method") (spaced (member_words member.flags member.name member.desc)) (attrs_text member.attrs) c.in_ok-extend_from_slice.ensures.items c.in_ok-push_member.ensures (attrs ∙ ap (λ (xs : List Attr). line ++ attrs_text xs) c.as_slice.ensures))
    c.push_attributes.ensures
