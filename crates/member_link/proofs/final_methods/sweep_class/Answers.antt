use Rattle.std.proofs.Common.{◌≡◌, ◌+◌, ◌<◌, ℕ, length, get_or, slice_get, Some, IsTrue, sym, ap, subst, ◌∙◌, arith}
use Rattle.std.proofs.lemmas.Option.{get_or_from_slice_get, slice_get-get_or}
use Rattle.class_model.specs.declared.header.Member.{Member}
use Rattle.member_link.specs.DeclaredMembers.{is_inherited}
use Rattle.member_link.specs.Inner.FinalEnds.{package_key, text_key, IsFree, IsSweptFrom}
use Rattle.member_link.specs.Overriding.{package_of}
use Rattle.member_link.proofs.SpannedClasses.{one_more}
use Rattle.member_link.proofs.SweptMethods.{grows_same, grows_then, free_before, swept_more}
use Rattle.member_link.proofs.final_methods.sweep_class.Goals as goal
use Rattle.member_link.proofs.final_methods.sweep_class.Goals.{then-is_known+then-known-index, else-is_known}

pub loop-index-init : goal.loop-index-init
loop-index-init c = (grows_same c.args.ends.now.entries, omega arith, λ index member is none. absurd (omega (arith, none)), λ index none. absurd (omega (arith, none)))

pub loop-index-preserved : goal.loop-index-preserved
loop-index-preserved c =
    let start = c.args.ends.now.entries in
    let before = c.loop-index.ends.entries in
    let after = c.sweep_method.new.ends.entries in
    let methods = c.args.header.now.methods in
    let span = c.args.span in
    let at = c.loop-index.index in
    let home = package_key c.args.header.now.name in
    let one = c.index-as_slice-index.result in
    let home_is : c.package_key-home.result ≡ home = c.package_key-home.ensures ∙ ap (λ name. text_key (package_of name)) c.bytes.ensures.same in
    let same : (member : Member) → slice_get methods at ≡ Some member → one ≡ member = λ member is. c.index-as_slice-index.is ∙ get_or_from_slice_get c.as_slice.result.now at member one (ap (λ list. slice_get list at) c.as_slice.ensures ∙ is) in
    let swept : (index : ℕ) → index < at + 1 → (member : Member) → slice_get methods index ≡ Some member → IsSweptFrom start after home span member =
    one_more (λ index. (member : Member) → slice_get methods index ≡ Some member → IsSweptFrom start after home span member) at
    (λ index less member is. swept_more member (grows_same start) c.in_ok-is_known.ensures.grows (c.loop-index.invariant.3 index less member is))
    (λ member is. subst (IsSweptFrom start after home span) (same member is) (swept_more one c.loop-index.invariant.0 (grows_same after) (subst (λ home. IsSweptFrom before after home span one) home_is c.in_ok-is_known.ensures.swept))) in
    let grows = grows_then c.loop-index.invariant.0 c.in_ok-is_known.ensures.grows in
    elim c.if-is_known.branch [
      | then-is_known+then-known-index w ↦
          let free : (index : ℕ) → index < at + 1 → (member : Member) → slice_get methods index ≡ Some member → IsTrue (is_inherited member) → IsFree start home span member =
          one_more (λ index. (member : Member) → slice_get methods index ≡ Some member → IsTrue (is_inherited member) → IsFree start home span member) at
          (λ index less member is inherited. c.loop-index.invariant.2 index member is (omega (arith, less, w.if-known-index.true)) inherited)
          (λ member is inherited.
          subst (λ home. IsFree start home span member) home_is (free_before c.loop-index.invariant.0
          (subst (IsFree before c.package_key-home.result span) (same member is) (c.in_ok-is_known.ensures.known w.if-is_known.true (subst (λ m. IsTrue (is_inherited m)) (sym (same member is)) inherited))))) in
          rw w.known-is (grows, omega arith, λ index member is less. free index less member is, swept)
      | else-is_known w ↦ rw w.known-is (grows, omega (arith, c.loop-index.invariant.1), c.loop-index.invariant.2, swept)
    ]

pub returns-clause-swept : goal.returns-clause-swept
returns-clause-swept c = λ k d within.
    let methods = c.args.header.now.methods in
    c.loop-index.invariant.3 k (omega (arith, within, c.loop-index-test.false, ap length c.as_slice-index-end.ensures)) (get_or methods k d) (slice_get-get_or methods k d within)
