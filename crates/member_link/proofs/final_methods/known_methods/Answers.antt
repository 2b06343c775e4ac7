use Rattle.std.proofs.Common.{rules, ◌≡◌, length, sym, ap, subst, ◌∙◌, arith}
use Rattle.std.proofs.lemmas.List.{length-map}
use Rattle.class_model.specs.Header.{header_of}
use Rattle.class_tree.specs.Headers.{headers_of}
use Rattle.member_link.specs.Inner.FinalEnds.{AreKnown}
use Rattle.member_link.proofs.SweptMethods.{none_known, front_is}
use Rattle.member_link.proofs.final_methods.known_methods.Goals as goal
use Rattle.member_link.proofs.final_methods.known_methods.Goals.{In_ok-known, then-are_spans+in_ok-sweep, else-are_spans}

len_is : (c : In_ok-known) → c.len.result ≡ length (headers_of c.args.tree.now).folder
len_is c = c.len.ensures ∙ ap length c.folder.ensures.same ∙ sym (length-map c.args.tree.now.folder header_of)

none : (c : In_ok-known) → AreKnown (headers_of c.args.tree.now) c.in_ok-known.known.items
none c = none_known c.len.result (len_is c) (c.in_ok-known.ensures.items_if_clones_equal (λ y is. search rules))

pub sweep-requires-clause-known : goal.sweep-requires-clause-known
sweep-requires-clause-known c = subst (AreKnown (headers_of c.args.tree.now)) (sym c.as_mut_slice.ensures.value) (none (goal.at.sweep-requires-clause-known c).In_ok-known)

pub returns : goal.returns
returns c =
    let headers = headers_of c.args.tree.now in
    let here = (goal.at.returns c).In_ok-known in
    elim c.if-are_spans.branch [
      | then-are_spans+in_ok-sweep w ↦
          let known = w.sweep.new.known in
          let len = len_is here in
          let fits : length known ≡ c.in_ok-known.known.len = omega (arith, w.in_ok-sweep.ensures.len, len, c.in_ok-known.ensures.len) in
          rw w.known-is (subst (AreKnown headers) (sym (front_is known _ c.in_ok-known.known.len fits)) w.in_ok-sweep.ensures)
      | else-are_spans w ↦ rw w.known-is (none here)
    ]
