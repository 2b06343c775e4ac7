-- Instructions without constants that are written behind others, part by part.
use Rattle.std.proofs.Common.{◌≡◌, ℕ, List, [], ◌∷◌, ◌++◌, map, refl, sym, ap, subst, ◌∙◌, append_assoc, append-nil}
use Rattle.std.proofs.lemmas.Grind.{flat_map-append}
use Rattle.std.proofs.lemmas.List.{map-append}
use Rattle.class_model.specs.Pool.{Constants}
use Rattle.class_model.specs.declared.instr.Instr.{Instr}
use Rattle.class_tree.specs.Headers.{Name}
use Rattle.code_drafts.specs.Drafts.{Keeps, meaning, meant}
use Rattle.code_drafts.specs.Emits.{Kept}
use Rattle.code_drafts.specs.Puts.{IsPut, Puts, PutsItems, PutsRest}
use Rattle.code_drafts.specs.Inner.WrittenWords.{ahead_item}
use Rattle.code_drafts.specs.declared.draft.DraftCatch.{DraftCatch}
use Rattle.code_drafts.specs.declared.draft.DraftItem.{DraftItem}
use Rattle.code_drafts.specs.declared.draft.Target.{Target}
use Rattle.code_drafts.specs.declared.draft.Target.TheVariants as targets_kinds
use Rattle.flow_code.specs.FlatCode.{FlatCode}
use Rattle.making_code.specs.Constants.{Need}
use Rattle.making_code.specs.Items.{WInstr, WItem, item, plain}
use Rattle.plan_flow.specs.PlanScope.{PlanScope, scope_of}
use Rattle.plan_flow.specs.Written.WrittenConstants.{code_needs, indexed_instr, item_needs}

-- ---- one instruction

abbrev drafted : Instr → List Target → List DraftCatch → DraftItem
drafted instr targets catches = record { instr = instr; targets = targets; catches = catches }

alone_means : (s : PlanScope) (constructor : Name → List ℕ) (pool : Constants) (one : WInstr) (instr : Instr) (targets : List Target) (catches : List DraftCatch)
    → indexed_instr s constructor pool one ≡ instr
    → targets ≡ []
    → catches ≡ []
    → meaning (drafted instr targets catches) ≡ meant s constructor pool (item one)
alone_means s constructor pool one instr targets catches is no_target no_catch =
    ap (λ (list : List Target). meaning (drafted instr list catches)) no_target
    ∙ ap (λ (list : List DraftCatch). meaning (drafted instr [] list)) no_catch
    ∙ ap (λ (i : Instr). meaning (drafted i [] [])) (sym is)

-- what a push of an item keeps
abbrev pub Pushes : DraftItem → Kept → Kept → Type 0
Pushes draft before after =
    (s : PlanScope) (constructor : Name → List ℕ) (pool : Constants) (items : List WItem) (one : WItem)
    → Keeps s constructor pool items before.is_long before.items
    → meaning draft ≡ meant s constructor pool one
    → Keeps s constructor pool (items ++ one ∷ []) after.is_long after.items

pub pushed_puts : (flat : FlatCode) (one : WInstr) (instr : Instr) (targets : List Target) (catches : List DraftCatch) (before after : Kept)
    → IsPut flat one instr
    → targets ≡ []
    → catches ≡ []
    → Pushes (drafted instr targets catches) before after
    → Puts flat (one ∷ []) before after
pushed_puts flat one instr targets catches before after put no_target no_catch pushes = record {
  keeps = λ classes links constructor pool front kept.
      pushes (scope_of classes links flat) constructor pool front (item one) kept
      (alone_means (scope_of classes links flat) constructor pool one instr targets catches (put.is classes links constructor pool) no_target no_catch);
  needless = λ classes links constructor. ap (λ (needs : List Need). (needs ++ []) ++ []) (put.needless classes links constructor);
}

pub plain_put : (flat : FlatCode) (instr : Instr) → IsPut flat (plain instr) instr
plain_put flat instr = record { is = λ classes links constructor pool. refl; needless = λ classes links constructor. refl }

-- ---- parts

pub puts_none : (flat : FlatCode) (before : Kept) → Puts flat [] before before
puts_none flat before = record {
  keeps = λ classes links constructor pool front kept.
      subst (λ (items : List WItem). Keeps (scope_of classes links flat) constructor pool items before.is_long before.items) (sym (append-nil front)) kept;
  needless = λ classes links constructor. refl;
}

pub puts_both : (flat : FlatCode) (before middle after : Kept) (front back : List WInstr)
    → Puts flat front before middle
    → Puts flat back middle after
    → Puts flat (front ++ back) before after
puts_both flat before middle after front back one other = record {
  keeps = λ classes links constructor pool items kept.
      subst (λ (list : List WItem). Keeps (scope_of classes links flat) constructor pool list after.is_long after.items)
      (append_assoc items (map item front) (map item back) ∙ ap (λ (list : List WItem). items ++ list) (sym (map-append item front back)))
      (other.keeps classes links constructor pool (items ++ map item front) (one.keeps classes links constructor pool items kept));
  needless = λ classes links constructor.
      let s = scope_of classes links flat in
      ap (code_needs s constructor) (map-append item front back)
      ∙ flat_map-append (item_needs s constructor) (map item front) (map item back)
      ∙ ap (λ (needs : List Need). needs ++ code_needs s constructor (map item back)) (one.needless classes links constructor)
      ∙ other.needless classes links constructor;
}

-- the same instructions by another name
pub puts_as : (flat : FlatCode) (before after : Kept) (instrs also : List WInstr) → instrs ≡ also → Puts flat instrs before after → Puts flat also before after
puts_as flat before after instrs also same puts = subst (λ (list : List WInstr). Puts flat list before after) same puts

-- ---- loops

pub rest_first : (flat : FlatCode) (before : Kept) (all : List WInstr) → PutsRest flat before all before all
rest_first flat before all = record { goes_on = λ after puts. puts }

pub rest_more : (flat : FlatCode) (before now after : Kept) (all items rest left : List WInstr)
    → PutsRest flat before all now left
    → left ≡ items ++ rest
    → Puts flat items now after
    → PutsRest flat before all after rest
rest_more flat before now after all items rest left so_far is puts = record {
  goes_on = λ end others.
      so_far.goes_on end (puts_as flat now end (items ++ rest) left (sym is) (puts_both flat now after end items rest puts others));
}

pub rest_all : (flat : FlatCode) (before now : Kept) (all left : List WInstr)
    → PutsRest flat before all now left
    → left ≡ []
    → Puts flat all before now
rest_all flat before now all left so_far is = so_far.goes_on now (puts_as flat now now [] left (sym is) (puts_none flat now))

-- ---- items that jump

pub items_both : (flat : FlatCode) (before middle after : Kept) (front back : List WItem)
    → PutsItems flat front before middle
    → PutsItems flat back middle after
    → PutsItems flat (front ++ back) before after
items_both flat before middle after front back one other = record {
  keeps = λ classes links constructor pool items kept.
      subst (λ (list : List WItem). Keeps (scope_of classes links flat) constructor pool list after.is_long after.items) (append_assoc items front back)
      (other.keeps classes links constructor pool (items ++ front) (one.keeps classes links constructor pool items kept));
  needless = λ classes links constructor.
      let s = scope_of classes links flat in
      flat_map-append (item_needs s constructor) front back
      ∙ ap (λ (needs : List Need). needs ++ code_needs s constructor back) (one.needless classes links constructor)
      ∙ other.needless classes links constructor;
}

pub pushed_ahead : (flat : FlatCode) (instr : Instr) (count : ℕ) (targets : List Target) (catches : List DraftCatch) (before after : Kept)
    → targets ≡ targets_kinds.Ahead count ∷ []
    → catches ≡ []
    → Pushes (drafted instr targets catches) before after
    → PutsItems flat (ahead_item instr count ∷ []) before after
pushed_ahead flat instr count targets catches before after leads no_catch pushes = record {
  keeps = λ classes links constructor pool front kept.
      pushes (scope_of classes links flat) constructor pool front (ahead_item instr count) kept
      (ap (λ (list : List Target). meaning (drafted instr list catches)) leads
      ∙ ap (λ (list : List DraftCatch). meaning (drafted instr (targets_kinds.Ahead count ∷ []) list)) no_catch);
  needless = λ classes links constructor. refl;
}
