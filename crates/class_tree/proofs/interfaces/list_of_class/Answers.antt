use Rattle.std.proofs.Common.{◌≡◌, ◌<◌, ◌∙◌, [], length, get_or, sym, ap, arith}
use Rattle.std.proofs.lemmas.List.{take_all}
use Rattle.std.proofs.lemmas.Option.{get_or_from_slice_get}
use Rattle.class_tree.specs.Inner.InterfaceNumbers.{with_number, with_numbers, with_lists}
use Rattle.class_tree.proofs.NewNumbers.{one_more_list, list_above, none_above}
use Rattle.class_tree.proofs.interfaces.list_of_class.Goals as goal
use Rattle.class_tree.proofs.interfaces.list_of_class.Goals.{in-Some+in_ok-append_new-2, in_default}

pub loop-number-preserved : goal.loop-number-preserved
loop-number-preserved c =
    let lists = c.args.lists.now in
    let at = c.loop-number.number-index in
    let number = get_or c.args.interfaces.now at 0 in
    let within : number < length lists = omega (arith, c.requires.interfaces at 0 c.loop-number-test.true, c.requires.lists.len) in
    let read : c.get.result.now ≡ get_or lists number [] = sym (get_or_from_slice_get lists number c.get.result.now [] c.get.ensures) in (
      c.in_ok-append_new.ensures.list
          ∙ ap (with_numbers c.push_new.new.list) read
          ∙ ap (λ list. with_numbers list (get_or lists number [])) (c.in_ok-push_new.ensures.list ∙ ap (λ list. with_number list number) c.loop-number.invariant.0)
          ∙ one_more_list lists c.args.interfaces.now at c.loop-number-test.true,
      c.in_ok-append_new.ensures.marks,
    )

pub returns-clause-list : goal.returns-clause-list
returns-clause-list c =
    let lists = c.args.lists.now in
    let walk = with_lists lists c.args.interfaces.now in
    let front : c.loop-number.list ≡ with_numbers [] walk = rw (take_all c.loop-number.number-index c.args.interfaces.now c.loop-number-test.false) at c.loop-number.invariant.0 in
    elim c.match-superclass.branch [
      | in-Some+in_ok-append_new-2 w ↦
          let number = w.in-Some.number in
          let within : number < length lists = omega (arith, rw w.in-Some.is at c.requires.superclass, c.requires.lists.len) in
          let read : w.get-in-Some.result.now ≡ get_or lists number [] = sym (get_or_from_slice_get lists number w.get-in-Some.result.now [] w.get-in-Some.ensures) in
          w.list-is ∙ w.in_ok-append_new-2.ensures.list ∙ ap (with_numbers c.loop-number.list) read ∙ ap (λ list. with_numbers list (get_or lists number [])) front ∙ list_above lists walk c.args.superclass number w.in-Some.is
      | in_default w ↦ w.list-is ∙ front ∙ none_above lists walk c.args.superclass w.in_default.is
    ]
