use Rattle.std.proofs.Common.{length, subst, sym, ap, ◌∙◌, eq-eqb}
use Rattle.std.proofs.lemmas.Bool.{eqb-true}
use Rattle.std.proofs.lemmas.List.{nil_from_length}
use Rattle.class_model.specs.ModifiedUtf8.{IsModifiedUtf8}
use Rattle.class_model.proofs.Units.{utf8_none, utf8_before, utf8_after, nothing_follows, follows_shorter}
use Rattle.class_model.proofs.text.is_modified_utf8.Goals as goal

pub returns : goal.returns
returns c =
    let rest = c.loop-after.rest.now in (
      λ t. c.loop-after.invariant.0 (subst IsModifiedUtf8 (sym (nil_from_length rest (eqb-true _ _ (sym c.is_empty.ensures ∙ t)))) utf8_none),
      λ m. c.is_empty.ensures ∙ eq-eqb _ _ (ap length (nothing_follows rest (λ after f. c.in_default.ensures.none f.0 after f.1 f.2) (c.loop-after.invariant.1 m))),
    )

pub loop-after-preserved : goal.loop-after-preserved
loop-after-preserved c =
    let follows = c.in-Some.ensures.some in
    (λ m. c.loop-after.invariant.0 (utf8_before _ _ follows m), λ m. utf8_after _ _ follows (c.loop-after.invariant.1 m))

pub loop-after-smaller : goal.loop-after-smaller
loop-after-smaller c = follows_shorter _ _ c.in-Some.ensures.some
