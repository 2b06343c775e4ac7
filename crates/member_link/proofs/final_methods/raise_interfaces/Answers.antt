use Rattle.std.proofs.Common.{◌≡◌, true, length, sym, ap, subst, ◌∙◌, arith}
use Rattle.std.specs.List.{All}
use Rattle.std.proofs.lemmas.Bool.{both_ways}
use Rattle.std.proofs.lemmas.List.{length-map}
use Rattle.std.proofs.lemmas.Option.{same_Some, none-some, slice_get_within}
use Rattle.class_model.specs.Header.{header_of}
use Rattle.class_model.specs.declared.header.Header.{Header}
use Rattle.class_tree.specs.Headers.{headers_of}
use Rattle.class_tree.specs.Names.{is_interface}
use Rattle.member_link.specs.Inner.FinalEnds.{IsRaised}
use Rattle.member_link.proofs.SweptMethods.{grows_same, interfaces_more}
use Rattle.member_link.proofs.final_methods.raise_interfaces.Goals as goal
use Rattle.member_link.proofs.final_methods.raise_interfaces.Goals.{in-Some+then-has+in_ok-raise_methods, in-Some+else-has, in_default}

pub loop-index-init : goal.loop-index-init
loop-index-init c = λ index none. absurd (omega (arith, none))

pub loop-index-preserved : goal.loop-index-preserved
loop-index-preserved c =
    let headers = headers_of c.args.tree.now in
    elim c.match-header.branch [
      | in-Some+then-has+in_ok-raise_methods w ↦
          rw w.ends-is (interfaces_more headers c.loop-index.index w.in_ok-raise_methods.ensures.grows c.loop-index.invariant (λ header at kind.
          let same = same_Some w.in-Some.header.now header (w.in-Some.ensures ∙ at) in
          subst (λ (h : Header). All (IsRaised w.raise_methods.new.ends.entries c.args.end) h.methods) same
          (subst (All (IsRaised w.raise_methods.new.ends.entries c.args.end)) w.as_slice.ensures w.in_ok-raise_methods.ensures.raised)))
      | in-Some+else-has w ↦
          rw w.ends-is (interfaces_more headers c.loop-index.index (grows_same c.loop-index.ends.entries) c.loop-index.invariant (λ header at kind.
          let same = same_Some w.in-Some.header.now header (w.in-Some.ensures ∙ at) in
          absurd (both_ways _ w.if-has.false (w.has.ensures ∙ subst (λ (h : Header). is_interface h ≡ true) (sym same) kind))))
      | in_default w ↦
          rw w.ends-is (interfaces_more headers c.loop-index.index (grows_same c.loop-index.ends.entries) c.loop-index.invariant (λ header at kind. absurd (none-some header (w.in_default.ensures ∙ at))))
    ]

pub returns : goal.returns
returns c = record {
  each = λ index header at kind.
      let folder = (headers_of c.args.tree.now).folder in
      let within = slice_get_within folder index header at in
      c.loop-index.invariant index (omega (arith, within, c.loop-index-test.false, c.len-index-end.ensures, ap length c.folder.ensures.same, length-map c.args.tree.now.folder header_of)) header at kind;
}
