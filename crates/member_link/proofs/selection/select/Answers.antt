use Rattle.std.proofs.Common.{sym, ap, subst}
use Rattle.std.proofs.lemmas.Bool.{iff_false}
use Rattle.std.proofs.lemmas.Option.{none-some, same_Some}
use Rattle.class_model.specs.declared.header.Member.{Member}
use Rattle.class_tree.specs.Headers.{Name, headers_of}
use Rattle.member_link.specs.Selection.{Chooses, abstract_choice, choice_of, start_of}
use Rattle.member_link.specs.Inner.SelectionSteps.{CountsFrom, choice_by}
use Rattle.member_link.proofs.Selecting.{fixed_selects, chooses_selects, absent_chooses}
use Rattle.member_link.proofs.selection.select.Goals as goal

pub returns-in_default : goal.returns-in_default
returns-in_default c = λ method is. absurd (none-some method.member (c.in_default.ensures method is))

pub returns-then-is_fixed : goal.returns-then-is_fixed
returns-then-is_fixed c = λ method is.
    let headers = headers_of c.args.tree.now in
    let same = same_Some c.in-Some.method.now method.member (c.in-Some.ensures method is) in
    let fixed = (c.is_fixed.ensures method is.same_flags (ap (λ (m : Member). m.name) (sym same))).0 c.if-is_fixed.true in
    (choice_of method, fixed_selects headers c.args.receiver.now method c.args.form fixed, c.chosen.ensures headers method is)

pub returns-in-Some-start : goal.returns-in-Some-start
returns-in-Some-start c = λ method is.
    let headers = headers_of c.args.tree.now in
    let receiver = c.args.receiver.now in
    let same = same_Some c.in-Some.method.now method.member (c.in-Some.ensures method is) in
    let free = iff_false (c.is_fixed.ensures method is.same_flags (ap (λ (m : Member). m.name) (sym same))) c.if-is_fixed.false in
    let class = c.a_tree_is_a_hierarchy.ensures.placed (start_of receiver) c.in-Some-start.start (sym c.in-Some-start.ensures) in
    let chosen = c.choose.ensures class.0 method class.1.at is in
    let named = subst (λ (n : Name). Chooses headers (CountsFrom headers n method c.args.form) (choice_by c.args.form) n c.in-Some.method.now.name c.in-Some.method.now.desc chosen.0) class.1.own_name chosen.1 in
    let chooses = subst (λ (m : Member). Chooses headers (CountsFrom headers (start_of receiver) method c.args.form) (choice_by c.args.form) (start_of receiver) m.name m.desc chosen.0) same named in
    (chosen.0, chooses_selects headers receiver method c.args.form free chosen.0 chooses, chosen.2)

pub returns-in-None : goal.returns-in-None
returns-in-None c = λ method is.
    let headers = headers_of c.args.tree.now in
    let receiver = c.args.receiver.now in
    let same = same_Some c.in-Some.method.now method.member (c.in-Some.ensures method is) in
    let free = iff_false (c.is_fixed.ensures method is.same_flags (ap (λ (m : Member). m.name) (sym same))) c.if-is_fixed.false in
    let absent = c.a_tree_is_a_hierarchy.ensures.absent (start_of receiver) (sym c.in-None.ensures) in
    let chooses = absent_chooses headers (CountsFrom headers (start_of receiver) method c.args.form) (choice_by c.args.form) (start_of receiver) method.member.name method.member.desc absent in
    (abstract_choice, chooses_selects headers receiver method c.args.form free abstract_choice chooses, tt)
