use Rattle.std.proofs.Common.{◌≡◌, ℕ, Bool, false, List, drop, length, replicate, sym, ap, subst, ◌∙◌, arith}
use Rattle.std.specs.List.{list_any}
use Rattle.class_model.specs.declared.class_file.Method.{Method}
use Rattle.inline_expand.proofs.Marks.{unmarked, written}
use Rattle.inline_expand.specs.Inner.StoreWords.{AreMarks, is_stored_by, stores_into}
use Rattle.inline_expand.proofs.final_stores.stored_fields.Goals as goal

pub returns : goal.returns
returns c =
    let count = length c.args.class.now.pool in
    let marks = c.mark_methods.new.marks in
    let items : c.as_mut_slice.result.now ≡ replicate count false =
    c.as_mut_slice.ensures.value ∙ c.in_ok-stored.ensures.items_if_clones_equal (λ y same. same) ∙ ap (λ (n : ℕ). replicate n false) (c.from.ensures ∙ c.count.ensures.count) in
    let first = subst (λ (m : List Bool). AreMarks m count (λ number. false)) (sym items) (unmarked count) in
    let done = c.in_ok-mark_methods.ensures count (λ number. false) first in
    let named = subst (λ (methods : List Method). AreMarks marks count (λ index. list_any (stores_into c.args.class.now c.args.of_initialisers index) methods)) c.as_slice-methods.ensures done in
    subst (λ (m : List Bool). AreMarks m count (is_stored_by c.args.class.now c.args.of_initialisers))
    (sym (written marks (drop (length marks) c.in_ok-stored.stored.items) c.in_ok-stored.stored.len (c.mark_methods.auto.marks ∙ ap length c.as_mut_slice.ensures.value ∙ omega (arith, c.in_ok-stored.stored.ok.0)))) named
