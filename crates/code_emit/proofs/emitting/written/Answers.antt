use Rattle.std.proofs.Common.{rules, ◌≡◌, List, Global, Vec, option_map, sym, ap, subst, ◌∙◌}
use Rattle.std.specs.Result.{IsErrOf}
use Rattle.class_tree.specs.Headers.{Classes, headers_of}
use Rattle.code_drafts.specs.Counts.{AreItems}
use Rattle.code_drafts.specs.Drafts.{AreDrafted}
use Rattle.code_drafts.specs.Emits.{Kept as KeptOf}
use Rattle.code_drafts.specs.Laws.LedRoutes.{few_locals}
use Rattle.code_drafts.specs.declared.draft.DraftBlock.{DraftBlock}
use Rattle.code_drafts.specs.declared.draft.DraftItem.{DraftItem}
use Rattle.code_emit.proofs.EmittedLaws.{all_kept, are_emitted, emitted_for, kept_full, long_kept, none_kept, starts_for}
use Rattle.code_emit.proofs.emitting.written.Goals as goal
use Rattle.code_emit.specs.EmittedCode.{IsEmittedFor, IsKeptAs}
use Rattle.code_layout.specs.declared.emitted.EmitItem.{EmitItem}
use Rattle.flow_code.specs.FlatCode.{FlatCode}
use Rattle.flow_code.specs.declared.reason.KeptFault.TheVariants.{Kept}
use Rattle.flow_code.specs.declared.reason.Reason.TheVariants.{Long}
use Rattle.materialise.specs.MadeCode.{HasFewLocals}
use Rattle.member_link.specs.Machine.Links.{AreLinksOf}

abbrev items_of : Vec DraftItem Global → List DraftItem
items_of items = items.items

pub returns-in_err-write_blocks-clause-kept : goal.returns-in_err-write_blocks-clause-kept
returns-in_err-write_blocks-clause-kept c = λ reason is.
    let fails : IsErrOf c.write_blocks.result (Kept reason) = search rules in
    kept_full c.args.setting.now c.args.pool.now reason (c.write_blocks.ensures.full reason fails)

pub returns-in_default-clause-kept : goal.returns-in_default-clause-kept
returns-in_default-clause-kept c = λ reason is.
    let w = c.args.setting.now in
    let old = c.args.pool.now in
    let new = c.write_blocks.new.pool in
    let drafts = c.write_blocks.new.drafts in
    let all = all_kept w old new c.new-drafts.result drafts c.new-drafts.ensures c.in_ok-write_blocks.ensures.ok in
    let are = subst (λ (kept : KeptOf). AreItems kept.is_long kept.items (option_map items_of c.into_items.result)) c.into_parts-kept.ensures.kept c.into_items.ensures in
    let same : Long ≡ reason = cc in
    subst (IsKeptAs w.classes w.flat w.plan old) same
    (none_kept w old new drafts all (option_map items_of c.into_items.result) are (ap (option_map items_of) c.in_default.is))

pub number_blocks-requires-clause-few : goal.number_blocks-requires-clause-few
number_blocks-requires-clause-few c = λ at.
    subst (λ (flat : FlatCode). HasFewLocals flat at) (sym c.flat.ensures) (few_locals c.args.setting.now.flat at c.requires.narrow)

pub returns-in_err-items-clause-kept : goal.returns-in_err-items-clause-kept
returns-in_err-items-clause-kept c = λ reason is.
    let w = c.args.setting.now in
    let old = c.args.pool.now in
    let new = c.write_blocks.new.pool in
    let drafts = c.write_blocks.new.drafts in
    let fails : IsErrOf c.number_blocks.result (Kept reason) = search rules in
    let all = all_kept w old new c.new-drafts.result drafts c.new-drafts.ensures c.in_ok-write_blocks.ensures.ok in
    let are = subst (λ (kept : KeptOf). AreItems kept.is_long kept.items (option_map items_of c.into_items.result)) c.into_parts-kept.ensures.kept c.into_items.ensures in
    long_kept w old new drafts all (option_map items_of c.into_items.result) c.in-Some.items.items are (ap (option_map items_of) c.in-Some.is) reason
    (λ s constructor pool blocks same drafted means.
    c.number_blocks.ensures.long reason s constructor pool blocks fails (same ∙ sym c.flat.ensures)
    (subst (λ (list : Vec DraftBlock Global). AreDrafted blocks list.items) (sym c.into_parts-kept.ensures.blocks) drafted) means)

pub of-requires : goal.of-requires
of-requires c =
    let w = c.args.setting.now in
    let old = c.args.pool.now in
    let new = c.write_blocks.new.pool in
    let drafts = c.write_blocks.new.drafts in
    let all = all_kept w old new c.new-drafts.result drafts c.new-drafts.ensures c.in_ok-write_blocks.ensures.ok in
    let are = subst (λ (kept : KeptOf). AreItems kept.is_long kept.items (option_map items_of c.into_items.result)) c.into_parts-kept.ensures.kept c.into_items.ensures in
    let links = c.a_tree_has_links.ensures in
    are_emitted w old new drafts all (option_map items_of c.into_items.result) c.in-Some.items.items are (ap (option_map items_of) c.in-Some.is) c.in_ok-items.items c.in_ok-items.starts
    (λ s constructor pool blocks same drafted means.
    c.in_ok-items.ensures.ok s constructor pool blocks (same ∙ sym c.flat.ensures)
    (subst (λ (list : Vec DraftBlock Global). AreDrafted blocks list.items) (sym c.into_parts-kept.ensures.blocks) drafted) means)
    c.items_of_a_plan_are_emitted_code.ensures c.requires links.0
    (subst (λ (classes : Classes). AreLinksOf (headers_of classes) links.0) c.tree.ensures links.1)

pub returns-clause-ok : goal.returns-clause-ok
returns-clause-ok c =
    let w = c.args.setting.now in
    let old = c.args.pool.now in
    let new = c.write_blocks.new.pool in
    let drafts = c.write_blocks.new.drafts in
    let all = all_kept w old new c.new-drafts.result drafts c.new-drafts.ensures c.in_ok-write_blocks.ensures.ok in
    let are = subst (λ (kept : KeptOf). AreItems kept.is_long kept.items (option_map items_of c.into_items.result)) c.into_parts-kept.ensures.kept c.into_items.ensures in
    subst (λ (list : List EmitItem). IsEmittedFor w.classes w.flat w.plan old new list) (sym c.of.ensures)
    (emitted_for w old new drafts all (option_map items_of c.into_items.result) c.in-Some.items.items are (ap (option_map items_of) c.in-Some.is) c.in_ok-items.items c.in_ok-items.starts
    (λ s constructor pool blocks same drafted means.
    c.in_ok-items.ensures.ok s constructor pool blocks (same ∙ sym c.flat.ensures)
    (subst (λ (list : Vec DraftBlock Global). AreDrafted blocks list.items) (sym c.into_parts-kept.ensures.blocks) drafted) means))

pub returns-clause-starts : goal.returns-clause-starts
returns-clause-starts c =
    let w = c.args.setting.now in
    let old = c.args.pool.now in
    let new = c.write_blocks.new.pool in
    let drafts = c.write_blocks.new.drafts in
    let all = all_kept w old new c.new-drafts.result drafts c.new-drafts.ensures c.in_ok-write_blocks.ensures.ok in
    let are = subst (λ (kept : KeptOf). AreItems kept.is_long kept.items (option_map items_of c.into_items.result)) c.into_parts-kept.ensures.kept c.into_items.ensures in
    starts_for w old new drafts all (option_map items_of c.into_items.result) c.in-Some.items.items are (ap (option_map items_of) c.in-Some.is) c.in_ok-items.items c.in_ok-items.starts
    (λ s constructor pool blocks same drafted means.
    c.in_ok-items.ensures.ok s constructor pool blocks (same ∙ sym c.flat.ensures)
    (subst (λ (list : Vec DraftBlock Global). AreDrafted blocks list.items) (sym c.into_parts-kept.ensures.blocks) drafted) means)
