-- Instructions that are written one behind the other, without targets and handlers.
use Rattle.std.proofs.Common.{◌≡◌, ◌++◌, ◌+◌, ◌-◌, ◌<◌, ◌≤◌, ℕ, List, [], ◌∷◌, length, map, refl, sym, ap, subst, ◌∙◌, append_assoc, append-nil, arith}
use Rattle.class_model.specs.Pool.{Constants}
use Rattle.class_model.specs.declared.instr.Instr.{Instr}
use Rattle.class_tree.specs.Headers.{Name}
use Rattle.code_drafts.specs.Drafts.{Keeps, meaning, meant}
use Rattle.code_drafts.specs.Emits.{Kept}
use Rattle.code_drafts.specs.declared.draft.DraftCatch.{DraftCatch}
use Rattle.code_drafts.specs.declared.draft.DraftItem.{DraftItem}
use Rattle.code_drafts.specs.declared.draft.Target.{Target}
use Rattle.code_emit.specs.Inner.MadeItems.{PutsInstrs, alone}
use Rattle.making_code.specs.Items.{WItem}
use Rattle.plan_flow.specs.PlanScope.{PlanScope}

abbrev pub drafted : Instr → List Target → List DraftCatch → DraftItem
drafted instr targets catches = record { instr = instr; targets = targets; catches = catches }

-- what an item that is pushed does to those that are kept
abbrev pub Pushes : DraftItem → Kept → Kept → Type 0
Pushes item before after =
    (s : PlanScope) (constructor : Name → List ℕ) (pool : Constants) (items : List WItem) (one : WItem)
    → Keeps s constructor pool items before.is_long before.items
    → meaning item ≡ meant s constructor pool one
    → Keeps s constructor pool (items ++ one ∷ []) after.is_long after.items

puts_none : (kept : Kept) → PutsInstrs [] kept kept
puts_none kept = record { each = λ s constructor pool front items same before. by s constructor pool front items same before } where
  by : (s : PlanScope) (constructor : Name → List ℕ) (pool : Constants) (front items : List WItem)
      → map alone [] ≡ map (meant s constructor pool) items
      → Keeps s constructor pool front kept.is_long kept.items
      → Keeps s constructor pool (front ++ items) kept.is_long kept.items
  by s constructor pool front [] same before = subst (λ (list : List WItem). Keeps s constructor pool list kept.is_long kept.items) (sym (append-nil front)) before
  by s constructor pool front (item ∷ items) same before = absurd cc

puts_first : (instr : Instr) (instrs : List Instr) (targets : List Target) (catches : List DraftCatch) (before middle after : Kept)
    → targets ≡ []
    → catches ≡ []
    → Pushes (drafted instr targets catches) before middle
    → PutsInstrs instrs middle after
    → PutsInstrs (instr ∷ instrs) before after
puts_first instr instrs targets catches before middle after no_target no_catch pushes rest =
    record { each = λ s constructor pool front items same kept. by s constructor pool front items same kept } where
      alone_is : meaning (drafted instr targets catches) ≡ alone instr
      alone_is =
          ap (λ (list : List Target). meaning (drafted instr list catches)) no_target
          ∙ ap (λ (list : List DraftCatch). meaning (drafted instr [] list)) no_catch

      by : (s : PlanScope) (constructor : Name → List ℕ) (pool : Constants) (front items : List WItem)
          → map alone (instr ∷ instrs) ≡ map (meant s constructor pool) items
          → Keeps s constructor pool front before.is_long before.items
          → Keeps s constructor pool (front ++ items) after.is_long after.items
      by s constructor pool front [] same kept = absurd cc
      by s constructor pool front (one ∷ items) same kept =
          let here : alone instr ≡ meant s constructor pool one = cc in
          let others : map alone instrs ≡ map (meant s constructor pool) items = cc in
          subst (λ (list : List WItem). Keeps s constructor pool list after.is_long after.items) (append_assoc front (one ∷ []) items)
          (rest.each s constructor pool (front ++ one ∷ []) items others
          (pushes s constructor pool front one kept (alone_is ∙ here)))

-- once the rest is written, all is
pub record InstrsLeft (all : List Instr) (before now : Kept) (rest : List Instr) (left : ℕ) : Type 0 where
  pub goes_on : (after : Kept) → PutsInstrs rest now after → PutsInstrs all before after
  pub many : length rest ≡ left

pub left_first : (all rest : List Instr) (before : Kept) (count : ℕ) → rest ≡ all → count ≡ length all → InstrsLeft all before before rest (count - 0)
left_first all rest before count same is = record {
  goes_on = λ after puts. subst (λ (list : List Instr). PutsInstrs list before after) same puts;
  many = let long = ap length same in omega (arith, long, is);
}

pub left_next : (all rest more : List Instr) (instr : Instr) (targets : List Target) (catches : List DraftCatch) (before now next : Kept) (count counter : ℕ)
    → InstrsLeft all before now rest (count - counter)
    → counter < count
    → rest ≡ instr ∷ more
    → targets ≡ []
    → catches ≡ []
    → Pushes (drafted instr targets catches) now next
    → InstrsLeft all before next more (count - (counter + 1))
left_next all rest more instr targets catches before now next count counter so_far low is no_target no_catch pushes = record {
  goes_on = λ after puts.
      so_far.goes_on after
      (subst (λ (list : List Instr). PutsInstrs list now after) (sym is) (puts_first instr more targets catches now next after no_target no_catch pushes puts));
  many = let long = ap length is in let many = so_far.many in omega (arith, long, many, low);
}

pub left_none : (all rest : List Instr) (before now : Kept) (left : ℕ) → InstrsLeft all before now rest left → rest ≡ [] → PutsInstrs all before now
left_none all rest before now left so_far is =
    so_far.goes_on now (subst (λ (list : List Instr). PutsInstrs list now now) (sym is) (puts_none now))

pub left_end : (all rest : List Instr) (before now : Kept) (count counter : ℕ) → InstrsLeft all before now rest (count - counter) → count ≤ counter → PutsInstrs all before now
left_end all rest before now count counter so_far high =
    left_none all rest before now (count - counter) so_far (by rest (let many = so_far.many in omega (arith, many, high))) where
      by : (list : List Instr) → length list ≡ 0 → list ≡ []
      by [] none = refl
      by (instr ∷ list) none = absurd (omega (arith, none))
