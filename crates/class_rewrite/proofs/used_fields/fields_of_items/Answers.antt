use Rattle.std.proofs.Common.{◌≡◌, ◌++◌, ◌+◌, List, [], ◌∷◌, take, sym, ap, subst, ◌∙◌}
use Rattle.std.proofs.lemmas.List.{take_more}
use Rattle.class_rewrite.proofs.UsedLists.{of_more}
use Rattle.class_rewrite.specs.Inner.Outcomes.{AreFieldsOf}
use Rattle.class_rewrite.specs.Inner.UsedFields.{OfSome, StoresFinal, UsesPrivate}
use Rattle.code_layout.specs.declared.emitted.EmitItem.{EmitItem}
use Rattle.class_rewrite.proofs.used_fields.fields_of_items.Goals as goal

pub loop-item-preserved : goal.loop-item-preserved
loop-item-preserved c =
    let items = c.args.items.now in
    let here = c.loop-item.item-index in
    let item = c.item-item.result in
    let classes = c.args.setting.now.classes in
    let flat = c.args.setting.now.flat in
    let pool = c.args.pool.now in
    let more : take (here + 1) items ≡ take here items ++ item ∷ [] =
    take_more items here item c.loop-item-test.true ∙ ap (λ (one : EmitItem). take here items ++ one ∷ []) (sym c.item-item.is) in
    record {
      finals = subst (λ (all : List EmitItem). AreFieldsOf (OfSome (StoresFinal classes flat pool) all) c.note_instr.new.used.finals) (sym more)
          (of_more (StoresFinal classes flat pool) (take here items) item c.loop-item.used.finals c.note_instr.new.used.finals c.loop-item.invariant.finals c.in_ok-note_instr.ensures.finals);
      privates = subst (λ (all : List EmitItem). AreFieldsOf (OfSome (UsesPrivate classes flat pool) all) c.note_instr.new.used.privates) (sym more)
          (of_more (UsesPrivate classes flat pool) (take here items) item c.loop-item.used.privates c.note_instr.new.used.privates c.loop-item.invariant.privates c.in_ok-note_instr.ensures.privates);
    }
