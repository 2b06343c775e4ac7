use Rattle.std.proofs.Common.{◌≡◌, ℕ, get_or, slice_get, Some, refl, sym, ap, subst, ◌∙◌, arith}
use Rattle.std.specs.List.{All}
use Rattle.std.proofs.lemmas.Option.{same_Some, none-some, slice_get_read, slice_get_within}
use Rattle.class_model.specs.declared.header.Header.{Header}
use Rattle.class_tree.specs.Headers.{Headers, headers_of}
use Rattle.class_tree.specs.Order.{header_at}
use Rattle.class_tree.specs.declared.place.Place.TheVariants.{Folder}
use Rattle.member_link.specs.Inner.FinalEnds.{IsSwept}
use Rattle.member_link.specs.Inner.Spans.{AreSpans}
use Rattle.member_link.specs.declared.spans.Span.{Span}
use Rattle.member_link.specs.declared.spans.Spans.{Spans}
use Rattle.member_link.proofs.SpannedClasses.{stands_apart}
use Rattle.member_link.proofs.SweptMethods.{grows_same, free_overrides_none, is_swept, known_set, next_swept}
use Rattle.member_link.proofs.final_methods.sweep_number.Goals as goal

pub returns-in_default-clause-swept : goal.returns-in_default-clause-swept
returns-in_default-clause-swept c =
    let numbered = slice_get_read c.args.spans.now.indices.items _ c.args.number c.index-index.result.now refl c.requires.number c.index-index.ensures in
    next_swept c.requires.spans c.requires.swept (grows_same c.args.ends.now.entries) c.index-index.result.now numbered (λ header span at is first. absurd (none-some header (c.in_default.ensures ∙ at)))

pub index-span-requires : goal.index-span-requires
index-span-requires c =
    let own = c.requires.spans.each c.index-index.result.now c.in-Some.header.now (sym c.in-Some.ensures) in
    omega (arith, slice_get_within c.args.spans.now.of_classes.items c.index-index.result.now own.span own.is, c.args.spans.now.of_classes.ok.0)

-- the span is that of the class
span_is : (headers : Headers) (spans : Spans) → AreSpans headers spans → (index : ℕ) (header : Header) (span : Span) → header_at headers (Folder index) ≡ Some header → span ≡ get_or spans.of_classes.items index span → slice_get spans.of_classes.items index ≡ Some span
span_is headers spans are index header span at is =
    let own = are.each index header at in
    slice_get_read spans.of_classes.items _ index span refl (slice_get_within spans.of_classes.items index own.span own.is) is

pub returns-then-span-number-clause-swept : goal.returns-then-span-number-clause-swept
returns-then-span-number-clause-swept c =
    let numbered = slice_get_read c.args.spans.now.indices.items _ c.args.number c.index-index.result.now refl c.requires.number c.index-index.ensures in
    next_swept c.requires.spans c.requires.swept (grows_same c.args.ends.now.entries) c.index-index.result.now numbered (λ header span at is first.
    let same : c.index-span.result.now ≡ span = same_Some c.index-span.result.now span (sym (span_is (headers_of c.args.tree.now) c.args.spans.now c.requires.spans c.index-index.result.now c.in-Some.header.now c.index-span.result.now (sym c.in-Some.ensures) c.index-span.ensures) ∙ is) in
    absurd (c.if-span-number.true (ap (λ (s : Span). s.first) same ∙ first)))

pub bounds-known-index : goal.bounds-known-index
bounds-known-index c =
    omega (arith, slice_get_within (headers_of c.args.tree.now).folder c.index-index.result.now c.in-Some.header.now (sym c.in-Some.ensures), c.requires.known.len)

pub returns-clause-swept : goal.returns-clause-swept
returns-clause-swept c =
    let headers = headers_of c.args.tree.now in
    let index = c.index-index.result.now in
    let own = c.index-span.result.now in
    let one = c.in-Some.header.now in
    let after = c.sweep_class.new.ends.entries in
    let numbered = slice_get_read c.args.spans.now.indices.items _ c.args.number index refl c.requires.number c.index-index.ensures in
    next_swept c.requires.spans c.requires.swept c.in_ok-known.ensures.grows index numbered (λ header span at is first.
    let same : own ≡ span = same_Some own span (sym (span_is (headers_of c.args.tree.now) c.args.spans.now c.requires.spans c.index-index.result.now c.in-Some.header.now c.index-span.result.now (sym c.in-Some.ensures) c.index-span.ensures) ∙ is) in
    let class : one ≡ header = same_Some one header (c.in-Some.ensures ∙ at) in
    subst (λ (h : Header). All (IsSwept headers after h.name span) h.methods) class
    (subst (λ (s : Span). All (IsSwept headers after one.name s) one.methods) same (λ k d within.
    is_swept headers (stands_apart c.args.tree.now c.requires.tree) c.a_tree_is_a_hierarchy.ensures c.args.spans.now c.requires.spans c.args.ends.now.entries c.args.number c.requires.swept index one (sym c.in-Some.ensures) own (span_is (headers_of c.args.tree.now) c.args.spans.now c.requires.spans c.index-index.result.now c.in-Some.header.now c.index-span.result.now (sym c.in-Some.ensures) c.index-span.ensures) c.if-span-number.false (get_or one.methods k d) {before = c.args.ends.now.entries} refl (c.in_ok-known.ensures.swept k d within))))

pub returns-clause-known : goal.returns-clause-known
returns-clause-known c =
    let headers = headers_of c.args.tree.now in
    let index = c.index-index.result.now in
    let header = c.in-Some.header.now in
    let at = sym c.in-Some.ensures in
    known_set c.requires.known index header c.in_ok-known.field-0 at (record {
      each = λ k member is less.
          free_overrides_none headers (stands_apart c.args.tree.now c.requires.tree) c.a_tree_is_a_hierarchy.ensures c.args.spans.now c.requires.spans c.args.ends.now.entries c.args.number c.requires.swept index header at c.index-span.result.now (span_is (headers_of c.args.tree.now) c.args.spans.now c.requires.spans c.index-index.result.now c.in-Some.header.now c.index-span.result.now (sym c.in-Some.ensures) c.index-span.ensures) c.if-span-number.false member (c.in_ok-known.ensures.known k member is less);
    })

pub offset_bounds-known-index : goal.offset_bounds-known-index
offset_bounds-known-index c =
    omega (arith, slice_get_within (headers_of c.args.tree.now).folder c.index-index.result.now c.in-Some.header.now (sym c.in-Some.ensures), c.requires.known.len)
