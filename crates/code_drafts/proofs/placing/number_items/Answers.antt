use Rattle.std.proofs.Common.{◌≡◌, ℕ, Bool, true, false, List, Global, Vec, length, sym, ap, subst, ◌∙◌}
use Rattle.code_drafts.proofs.EndLaws.{as_many_ends}
use Rattle.code_drafts.proofs.PartLaws.{all_numbered, too_long}
use Rattle.code_drafts.proofs.placing.number_items.Goals as goal
use Rattle.code_drafts.specs.Inner.Ends.{draft_ends}
use Rattle.code_drafts.specs.Inner.Parts.{Joins, parts_of, placed_drafts}
use Rattle.code_drafts.specs.declared.finishing.DraftEnd.{DraftEnd}
use Rattle.code_drafts.specs.declared.draft.DraftItem.{DraftItem}
use Rattle.code_layout.specs.PlainItems.{plain_items}
use Rattle.flow_code.specs.FlatCode.{FlatCode}

pub join-requires-clause-as_many : goal.join-requires-clause-as_many
join-requires-clause-as_many c =
    let is : c.as_slice.result.now ≡ draft_ends c.args.flat.now c.args.blocks.now = c.as_slice.ensures.value ∙ c.in_ok-ends.ensures in
    ap length is ∙ as_many_ends c.args.flat.now c.args.blocks.now

pub returns-then-not-fits : goal.returns-then-not-fits
returns-then-not-fits c = λ s constructor pool bs same drafted means.
    let blocks = c.args.blocks.now in
    let items = c.args.items.items in
    let is : c.as_slice.result.now ≡ draft_ends s.flat blocks =
    c.as_slice.ensures.value ∙ c.in_ok-ends.ensures ∙ ap (λ (f : FlatCode). draft_ends f blocks) (sym same) in
    too_long s constructor pool bs blocks items drafted means
    (subst (λ (ends : List DraftEnd). Joins (parts_of blocks ends items) c.join.new.joined false) is
    (subst (λ (fits : Bool). Joins (parts_of blocks c.as_slice.result.now items) c.join.new.joined fits) c.if-not-fits.true c.in_ok-fits.ensures))

pub returns : goal.returns
returns c = λ s constructor pool bs same drafted means.
    let blocks = c.args.blocks.now in
    let items = c.args.items.items in
    let joined = c.join.new.joined in
    let placed = c.in_ok-items.items in
    let is : c.as_slice.result.now ≡ draft_ends s.flat blocks =
    c.as_slice.ensures.value ∙ c.in_ok-ends.ensures ∙ ap (λ (f : FlatCode). draft_ends f blocks) (sym same) in
    let joins =
    subst (λ (ends : List DraftEnd). Joins (parts_of blocks ends items) joined true) is
    (subst (λ (fits : Bool). Joins (parts_of blocks c.as_slice.result.now items) joined fits) c.if-not-fits.false c.in_ok-fits.ensures) in
    let numbers =
    subst (λ (list : List DraftItem). plain_items placed ≡ placed_drafts joined.starts (length list) 0 list) c.as_slice-2.ensures
    c.in_ok-items.ensures in
    all_numbered s constructor pool bs blocks items joined (record { items = placed; firsts = c.into_firsts-firsts.result }) drafted means joins
    numbers
    (ap (λ (firsts : Vec ℕ Global). firsts.items) c.into_firsts-firsts.ensures)
