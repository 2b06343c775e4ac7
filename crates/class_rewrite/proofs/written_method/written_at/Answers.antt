use Rattle.std.proofs.Common.{◌≡◌, ◌≤◌, length, sym, subst}
use Rattle.class_rewrite.proofs.RewrittenMethods.{rewritten_to, with_its_part}
use Rattle.class_rewrite.proofs.written_method.written_at.Goals as goal
use Rattle.class_rewrite.specs.Inner.Meanings.{IsCode, IsEditOf, IsKnownCode, IsMeant, IsPart, Meaning, rewriting}
use Rattle.class_rewrite.specs.Inner.Outcomes.{IsRewrittenTo}
use Rattle.pool_edit.specs.Edits.{Continues, Edit}

pub with_part-method-requires-clause-narrow : goal.with_part-method-requires-clause-narrow
with_part-method-requires-clause-narrow c =
    (c.what_is_meant_can_be_written.ensures c.args.setting.now c.requires.known.m c.requires.known.meant).for_plans.narrow

pub with_part-method-requires-clause-items : goal.with_part-method-requires-clause-items
with_part-method-requires-clause-items c =
    let known : IsKnownCode c.args.setting.now c.args.pool.now c.args.code.now c.args.home.now c.in_ok-grown.grown = record {
      m = c.requires.known.m;
      meant = c.requires.known.meant;
      is_host = c.requires.is_host;
      before = c.requires.known.before;
      of_class = c.requires.known.of_class;
      is_code = c.requires.known.is_code;
      is_pool = c.in_ok-grown.ensures;
    } in
    (c.what_is_written_fits.ensures c.args.setting.now c.args.pool.now c.args.code.now c.args.home.now c.in_ok-grown.grown known).few

pub returns-clause-ok : goal.returns-clause-ok
returns-clause-ok c =
    let of = c.args.setting.now in
    let middle = c.args.pool.now in
    let code = c.args.code.now in
    let after = c.written_part-part.new.pool in
    with_its_part of code c.in_ok-grown.grown c.written_part-part.result c.with_part-method.result
    (λ part. (m : Meaning) (before : Edit)
    → IsMeant of m
    → IsEditOf of.classes m.at before
    → IsCode of before middle code
    → IsPart of m before middle after code part)
    (λ method. (m : Meaning) (before : Edit)
    → IsMeant of m
    → IsEditOf of.classes m.at before
    → IsCode of before middle code
    → Continues before middle
    → IsRewrittenTo (rewriting of m) m.at before after method)
    c.with_part-method.ensures.ok c.written_part-part.ensures.ok
    (λ part method is has m before meant edit is_code first.
    rewritten_to of m before middle after code c.in_ok-grown.grown part method meant c.in_ok-grown.ensures first c.written_part-part.ensures.more
    (has m before meant edit is_code) is)

pub returns-clause-kept : goal.returns-clause-kept
returns-clause-kept c = λ reason m before is meant edit is_code.
    c.written_part-part.ensures.kept reason m before (c.with_part-method.ensures.err reason is) meant edit is_code
