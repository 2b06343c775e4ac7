-- What is written of a method, by its Code and by what is counted and noted.
use Rattle.std.proofs.Common.{◌≡◌, ◌∙◌, ◌≤◌, arith, ℕ, List, count_by, length, Result, Ok, Err, IfOk, refl, sym, ap, subst}
use Rattle.class_model.specs.Pool.{Constants}
use Rattle.class_model.specs.declared.class_file.CodePart.{CodePart}
use Rattle.class_rewrite.proofs.LongItems.{items_many}
use Rattle.class_rewrite.proofs.WideEnters.{chosen_enters}
use Rattle.class_rewrite.specs.Inner.Meanings.{AreItemsOf, IsMeant, IsPart, Meaning, rewriting, scope}
use Rattle.class_rewrite.specs.Inner.Outcomes.{AreFieldsOf, AreNamesOf, ClearsFinalHere, IsRewrittenTo, MakesHere, OpensPrivateHere}
use Rattle.class_rewrite.specs.Inner.WrittenCodes.{IsMethodOf, IsOfPart, one_of}
use Rattle.class_rewrite.specs.declared.outcome.RewrittenMethod.{RewrittenMethod}
use Rattle.code_drafts.specs.Emits.{Writing}
use Rattle.code_emit.specs.declared.emitting.WrittenCode.{WrittenCode}
use Rattle.code_layout.specs.declared.emitted.EmitItem.{EmitItem}
use Rattle.flow_code.specs.declared.reason.KeptFault.{KeptFault}
use Rattle.making_code.specs.CountedItems.{is_enter, site_news}
use Rattle.materialise.specs.Laws.GrownEdits.{continues_both}
use Rattle.plan_flow.specs.Written.WrittenCode.{short, written_items}
use Rattle.plan_flow.specs.Written.WrittenPrograms.{WrittenMethod, items_of}
use Rattle.pool_edit.specs.Edits.{Continues, Edit, grown}
use Rattle.stackmap_emit.specs.FramedItems.{finished_by, form_of}

module _ (of : Writing) (m : Meaning) (before middle after : Edit) (code : WrittenCode) (pool : Constants) (part : CodePart) (method : RewrittenMethod)
    (meant : IsMeant of m) (is_pool : pool ≡ grown middle) (first : Continues before middle) (then : Continues middle after)
    (p : IsPart of m before middle after code part) (is : IsMethodOf of code pool part method) where
  here : WrittenMethod
  here = one_of of p.routes (form_of code.emitted)

  items_here : AreItemsOf of m p.routes pool code.emitted
  items_here = subst (λ (constants : Constants). AreItemsOf of m p.routes constants code.emitted) (sym is_pool) p.of_items

  few : length (written_items short (finished_by (scope of m) p.routes)) ≤ 65535
  few =
      let count = items_many (scope of m) m.constructor (grown middle) short (finished_by (scope of m) p.routes) code.emitted p.of_items.items_are in
      let most = is.few in omega (arith, count, most)

  pub rewritten_to : IsRewrittenTo (rewriting of m) m.at before after method
  rewritten_to =
      let made = is.made m meant in
      let used = is.used m p.routes meant items_here in
      let back = sym p.one in
      record {
        w = p.w;
        is = p.is;
        pool = sym p.pool;
        continues = continues_both before middle after first then;
        part = is.part_is ∙ sym p.part_is;
        numbers = record {
          sites = is.sites ∙ ap (λ (one : WrittenMethod). length one.flat.sites) back;
          news =
              made.counts p.routes (form_of code.emitted) p.of_items.routed few
              ∙ ap (λ (one : WrittenMethod). site_news (items_of of.classes m.links one)) back;
          enters =
              is.enters ∙ sym (chosen_enters code.emitted)
              ∙ ap (λ (items : List EmitItem). count_by (λ (item : EmitItem). is_enter item.instr) items) (sym p.items);
          bytes = is.bytes ∙ ap (λ (one : CodePart). length one.code) (sym p.part_is);
        };
        made =
            subst (λ (one : WrittenMethod). AreNamesOf (MakesHere (rewriting of m) one) method.made) back
            (made.names_are p.routes (form_of code.emitted) p.of_items.routed);
        finals =
            subst (λ (one : WrittenMethod). AreFieldsOf (ClearsFinalHere (rewriting of m) one) method.finals) back (used.finals_are (form_of code.emitted));
        privates =
            subst (λ (one : WrittenMethod). AreFieldsOf (OpensPrivateHere (rewriting of m) m.at one) method.privates) back
            (used.privates_are (form_of code.emitted));
      }

-- where there is a method, there is its Code
pub with_its_part : (of : Writing) (code : WrittenCode) (pool : Constants) (part : Result CodePart KeptFault) (result : Result RewrittenMethod KeptFault)
    (P : CodePart → Type 0) (Q : RewrittenMethod → Type 0)
    → IfOk result (IsOfPart of code pool part)
    → IfOk part P
    → ((part : CodePart) (method : RewrittenMethod) → IsMethodOf of code pool part method → P part → Q method)
    → IfOk result Q
with_its_part of code pool (Ok part) (Ok method) P Q is has then = then part method is has
with_its_part of code pool (Err fault) (Ok method) P Q is has then = absurd is
with_its_part of code pool part (Err fault) P Q is has then = tt
