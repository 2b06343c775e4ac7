use Rattle.std.proofs.Common.{◌≡◌, ◌+◌, ℕ, List, Some, ap, length, refl, slice_get, sym, subst, ◌∙◌, arith}
use Rattle.std.proofs.lemmas.Option.{slice_get_read}
use Rattle.class_model.specs.declared.class_file.ClassFile.{ClassFile}
use Rattle.class_rewrite.proofs.DecidedClasses.{all_drafts_next, all_drafts_none}
use Rattle.class_rewrite.proofs.drafts.drafts_of.Goals as goal
use Rattle.class_rewrite.specs.Inner.Deciding.{AreAllDecided, AreDraftsOf, HasRules}
use Rattle.class_rewrite.specs.Laws.OneWriting.{HaveOne}
use Rattle.class_rewrite.specs.Rewriting.Methods.{Rewriting}
use Rattle.class_rewrite.specs.declared.decided.Draft.{Draft}
use Rattle.class_tree.specs.Trees.{IsTree}
use Rattle.inline_expand.specs.TypedClasses.{TypedClasses}
use Rattle.pool_edit.specs.Edits.{Edit, grown}

pub loop-number-init : goal.loop-number-init
loop-number-init c =
    let tree = c.args.tree.now in
    let typed = c.args.typed.now in
    let known = c.new-known.result in
    let one : (r : Rewriting) → r.classes ≡ tree → HaveOne r =
    λ r same. c.a_rewriting_has_one_answer.ensures r (subst IsTree (sym same) c.a_tree_has_rules.ensures.tree) in
    record {
      same = c.in_ok-rewriter.ensures;
      drafts = subst (λ (drafts : List Draft). AreDraftsOf tree typed 0 drafts known) (sym c.new-drafts.ensures.items)
          (all_drafts_none tree typed one known c.new-known.ensures.report c.new-known.ensures.made c.new-known.ensures.finals c.new-known.ensures.privates);
    }

pub draft_of-requires : goal.draft_of-requires
draft_of-requires c =
    let items = c.as_slice-class-items.result.now in
    let number = c.loop-number.number in
    let class = c.class-item.result in
    let there : slice_get c.args.tree.now.folder number ≡ Some class =
    subst (λ (list : List ClassFile). slice_get list number ≡ Some class) (c.as_slice-class-items.ensures ∙ c.folder.ensures.same)
    (slice_get_read items (length items) number class refl c.loop-number-test.true c.class-item.is) in
    record {
      rules = subst (λ (e : TypedClasses). HasRules e.classes) (sym c.loop-number.invariant.same) c.a_tree_has_rules.ensures;
      there = subst (λ (e : TypedClasses). slice_get e.classes.folder number ≡ Some class) (sym c.loop-number.invariant.same) there;
    }

pub loop-number-preserved : goal.loop-number-preserved
loop-number-preserved c =
    let tree = c.args.tree.now in
    let typed = c.args.typed.now in
    let items = c.as_slice-class-items.result.now in
    let number = c.loop-number.number in
    let class = c.class-item.result in
    let draft = c.in_ok-draft_of.field-0 in
    let one : (r : Rewriting) → r.classes ≡ tree → HaveOne r =
    λ r same. c.a_rewriting_has_one_answer.ensures r (subst IsTree (sym same) c.a_tree_has_rules.ensures.tree) in
    let there : slice_get tree.folder number ≡ Some class =
    subst (λ (list : List ClassFile). slice_get list number ≡ Some class) (c.as_slice-class-items.ensures ∙ c.folder.ensures.same)
    (slice_get_read items (length items) number class refl c.loop-number-test.true c.class-item.is) in
    let decided : (pool : Edit) × (grown pool ≡ draft.pool)
    × AreAllDecided tree typed number class (length class.methods) pool draft.methods c.loop-number.known c.draft_of.new.known =
    subst (λ (e : TypedClasses). (pool : Edit) × (grown pool ≡ draft.pool)
    × AreAllDecided e.classes e.typed number class (length class.methods) pool draft.methods c.loop-number.known c.draft_of.new.known)
    c.loop-number.invariant.same c.in_ok-draft_of.ensures.decided in
    record {
      same = c.draft_of.ensures.same ∙ c.loop-number.invariant.same;
      drafts = subst (λ (drafts : List Draft). AreDraftsOf tree typed (number + 1) drafts c.draft_of.new.known) (sym c.in_ok-push.ensures.items)
          (all_drafts_next tree typed one number class there c.loop-number.drafts.items c.loop-number.known c.draft_of.new.known c.loop-number.invariant.drafts
          decided.0 draft decided.1 decided.2);
    }

pub returns : goal.returns
returns c =
    let items = c.as_slice-class-items.result.now in
    let end = c.loop-number-test.false in
    let before = c.loop-number.auto.number-end in
    let done : c.loop-number.number ≡ length items = omega (arith, end, before) in
    subst (λ (n : ℕ). AreDraftsOf c.args.tree.now c.args.typed.now n c.loop-number.drafts.items c.loop-number.known)
    (done ∙ ap length (c.as_slice-class-items.ensures ∙ c.folder.ensures.same)) c.loop-number.invariant.drafts
