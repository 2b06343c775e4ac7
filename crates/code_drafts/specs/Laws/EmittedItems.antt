-- Code whose items are those of a valid plan's blocks is emitted code.
use Rattle.std.proofs.Common.{◌≡◌, ◌<◌, ◌+◌, ℕ, zero, suc, Bool, false, List, [], ◌∷◌, length, map, slice_get, option_map, Some, refl, sym, ap, subst, ◌∙◌, arith}
use Rattle.std.specs.List.{AllByRecursion}
use Rattle.std.proofs.lemmas.Bool.{false≢true}
use Rattle.std.proofs.lemmas.List.{length-map}
use Rattle.std.proofs.lemmas.Option.{none-some, same_Some, slice_get-map}
use Rattle.class_model.specs.Instructions.{targets}
use Rattle.class_model.specs.Pool.{Constants}
use Rattle.class_model.specs.declared.instr.Imm.TheVariants as imms
use Rattle.class_model.specs.declared.instr.Instr.{Instr}
use Rattle.class_model.specs.declared.instr.Instr.TheVariants.{Const, IfNull, Throw}
use Rattle.class_tree.specs.Headers.{Name}
use Rattle.code_layout.specs.Emitting.{IsEmitted, IsItem, NamesItem}
use Rattle.code_layout.specs.PlainItems.{plain_item, plain_items}
use Rattle.code_layout.specs.declared.emitted.Catch.{Catch}
use Rattle.code_layout.specs.declared.emitted.EmitItem.{EmitItem}
use Rattle.code_drafts.specs.FlatForms.{AreFormed}
use Rattle.code_drafts.specs.Laws.Forms.{jumping_form, jumping_targets}
use Rattle.code_drafts.specs.Laws.GoodBlocks.{Each, IsFar, blocks_good}
use Rattle.code_drafts.specs.Laws.ReachedStarts.{LeadsSome, StartsSome, finished, reached_point, reached_starts}
use Rattle.code_drafts.specs.Laws.WrittenItems.{IsDone, IsWrittenAt, finished_done, is_far, is_near, near_jump, starts_within, written_at}
use Rattle.making_code.specs.IndexedItems.{IndexedItem}
use Rattle.making_code.specs.Items.{WCatch, WItem, WTarget, ahead, item, plain, to_handler_pad, to_jump_pad, to_point}
use Rattle.member_link.specs.Machine.Replaced.{map_numbered}
use Rattle.member_link.specs.Targets.{HasForm}
use Rattle.plan_flow.specs.PlanScope.{PlanScope}
use Rattle.plan_flow.specs.Plans.{IsValid, Plan}
use Rattle.plan_flow.specs.Written.Blocks.{BlockOf, blocks_of}
use Rattle.plan_flow.specs.Written.Finish.{Finished}
use Rattle.plan_flow.specs.Written.Routes.{IsRouted, Routes}
use Rattle.plan_flow.specs.Written.WrittenCode.{jumping_to, short, start_of, target_number, written_items}
use Rattle.plan_flow.specs.Written.WrittenConstants.{catch_index, indexed_instr, indexed_item, indexed_items}
use Rattle.plan_flow.specs.Written.WrittenConstants as constants

-- ---- lists

numbered_from : {A B : Type 0} (change : ℕ → A → B) (first : ℕ) (items : List A) (at : ℕ) (made : B)
    → slice_get (map_numbered change first items) at ≡ Some made
    → (one : A) × (slice_get items at ≡ Some one) × (made ≡ change (first + at) one)
numbered_from change first [] at made is = absurd (none-some made is)
numbered_from {B = B} change first (one ∷ items) zero made is = (
  one,
  refl,
  let zeroth : first ≡ first + 0 = omega arith in sym (same_Some _ made is) ∙ ap (λ (n : ℕ). change n one) zeroth,
)
numbered_from change first (one ∷ items) (suc at) made is =
    let rest = numbered_from change (suc first) items at made is in
    let further : suc first + at ≡ first + suc at = omega arith in
    (rest.0, rest.1, rest.2 ∙ ap (λ (n : ℕ). change n rest.0) further)

numbered_to : {A B : Type 0} (change : ℕ → A → B) (first : ℕ) (items : List A) (at : ℕ) (one : A)
    → slice_get items at ≡ Some one
    → slice_get (map_numbered change first items) at ≡ Some (change (first + at) one)
numbered_to change first [] at one is = absurd (none-some one is)
numbered_to {B = B} change first (head ∷ items) zero one is =
    let zeroth : first ≡ first + 0 = omega arith in
    ap (λ (x : _). Some (change first x)) (same_Some head one is) ∙ ap (λ (n : ℕ). Some (change n one)) zeroth
numbered_to change first (head ∷ items) (suc at) one is =
    let further : suc first + at ≡ first + suc at = omega arith in
    numbered_to change (suc first) items at one is ∙ ap (λ (n : ℕ). Some (change n one)) further

numbered_length : {A B : Type 0} (change : ℕ → A → B) (first : ℕ) (items : List A) → length (map_numbered change first items) ≡ length items
numbered_length change first [] = refl
numbered_length change first (one ∷ items) = ap suc (numbered_length change (suc first) items)

plain_at : (items : List EmitItem) (at : ℕ) (made : IndexedItem)
    → slice_get (plain_items items) at ≡ Some made
    → (one : EmitItem) × (slice_get items at ≡ Some one) × (plain_item one ≡ made)
plain_at [] at made is = absurd (none-some made is)
plain_at (one ∷ items) zero made is = (one, refl, same_Some (plain_item one) made is)
plain_at (one ∷ items) (suc at) made is = plain_at items at made is

catches_within : (count : ℕ) (catches : List Catch) (numbers : List (ℕ × ℕ))
    → map (λ (catch : Catch). (catch.to, catch.catch_type)) catches ≡ numbers
    → AllByRecursion (λ (number : ℕ × ℕ). NamesItem count number.0) numbers
    → AllByRecursion (λ (catch : Catch). NamesItem count catch.to) catches
catches_within count [] numbers is all = tt
catches_within count (catch ∷ catches) [] is all = absurd (cc is)
catches_within count (catch ∷ catches) (number ∷ numbers) is all = (
  subst (λ (n : ℕ). NamesItem count n) (sym (ap (λ (pair : ℕ × ℕ). pair.0) (first_same _ number _ numbers is))) all.0,
  catches_within count catches numbers (rest_same _ number _ numbers is) all.1,
) where
  first_same : (one other : ℕ × ℕ) (ones others : List (ℕ × ℕ)) → one ∷ ones ≡ other ∷ others → one ≡ other
  first_same one other ones others same = cc same

  rest_same : (one other : ℕ × ℕ) (ones others : List (ℕ × ℕ)) → one ∷ ones ≡ other ∷ others → ones ≡ others
  rest_same one other ones others same = cc same

-- ---- numbers of targets

module _ (s : PlanScope) (plan : Plan) (routes : Routes) (valid : IsValid s plan) (routed : IsRouted s plan routes) (formed : AreFormed s.flat) where
  abbrev all : List Finished
  all = finished s routes

  abbrev written : List WItem
  written = written_items short (finished s routes)

  pub done : Each (IsDone s routes) (finished s routes)
  done = finished_done s routes (blocks_of s routes) (blocks_good s plan routes valid routed formed)

  starts_inside : (is_it : BlockOf → Bool)
      → StartsSome s routes is_it
      → start_of short (finished s routes) is_it < length (written_items short (finished s routes))
  starts_inside is_it some =
      subst (λ (n : ℕ). n < length (written_items short (finished s routes))) (sym some.starts)
      (starts_within s routes (finished s routes) some.number some.block done some.is_there)

  pub leads_inside : (number : ℕ) (target : WTarget) → LeadsSome s routes target
      → target_number short (finished s routes) number target < length (written_items short (finished s routes))
  leads_inside number (to_point to) leads = starts_inside _ leads
  leads_inside number (to_jump_pad at edge) leads = starts_inside _ leads
  leads_inside number (to_handler_pad at handler) leads = starts_inside _ leads
  leads_inside number (ahead count) leads = absurd leads

  all_inside : (number : ℕ) (targets : List WTarget) → AllByRecursion (LeadsSome s routes) targets
      → AllByRecursion (NamesItem (length (written_items short (finished s routes)))) (map (target_number short (finished s routes) number) targets)
  all_inside number [] leads = tt
  all_inside number (target ∷ targets) leads = (leads_inside number target leads.0, all_inside number targets leads.1)

  caught_inside : (pool : Constants) (number : ℕ) (catches : List WCatch) → AllByRecursion (λ (catch : WCatch). LeadsSome s routes catch.to) catches
      → AllByRecursion (λ (pair : ℕ × ℕ). NamesItem (length (written_items short (finished s routes))) pair.0)
      (map (λ (catch : WCatch). (target_number short (finished s routes) number catch.to, catch_index pool catch.class)) catches)
  caught_inside pool number [] leads = tt
  caught_inside pool number (catch ∷ catches) leads = (leads_inside number catch.to leads.0, caught_inside pool number catches leads.1)

  far_is_not_near : (targets : List WTarget) → AllByRecursion (LeadsSome s routes) targets → constants.is_near targets ≡ false
  far_is_not_near [] leads = refl
  far_is_not_near (to_point to ∷ targets) leads = refl
  far_is_not_near (to_jump_pad at edge ∷ targets) leads = refl
  far_is_not_near (to_handler_pad at handler ∷ targets) leads = refl
  far_is_not_near (ahead count ∷ targets) leads = absurd leads.0

  -- ---- the items

  module _ (constructor : Name → List ℕ) (pool : Constants) (items : List EmitItem)
      (same : plain_items items ≡ indexed_items s constructor pool short (finished s routes)) where
    abbrev indexed : ℕ → WItem → IndexedItem
    indexed number one = indexed_item s constructor pool short (finished s routes) number one

    as_many : length items ≡ length (written_items short (finished s routes))
    as_many =
        sym (length-map items plain_item) ∙ ap length same
        ∙ numbered_length (indexed_item s constructor pool short (finished s routes)) 0 (written_items short (finished s routes))

    item_there : (at : ℕ) (one : WItem) → slice_get (written_items short (finished s routes)) at ≡ Some one
        → (made : EmitItem) × (slice_get items at ≡ Some made) × (plain_item made ≡ indexed (0 + at) one)
    item_there at one is =
        plain_at items at (indexed (0 + at) one)
        (ap (λ (found : List IndexedItem). slice_get found at) same
        ∙ numbered_to (indexed_item s constructor pool short (finished s routes)) 0 (written_items short (finished s routes)) at one is)

    far_item : (at : ℕ) (made : EmitItem) (one : WItem) → plain_item made ≡ indexed (0 + at) one → IsFar s routes one → IsItem items at made
    far_item at made one is far = record {
      form =
          subst HasForm (sym instr_is)
          (jumping_form numbers (indexed_instr s constructor pool one.instr) many (far.fits.form constructor pool));
      targets =
          subst (λ (count : ℕ). AllByRecursion (NamesItem count) (targets made.instr)) (sym as_many)
          (subst (λ (to : List ℕ). AllByRecursion (NamesItem (length (written_items short (finished s routes)))) to)
          (sym (ap targets instr_is ∙ jumping_targets numbers (indexed_instr s constructor pool one.instr) many))
          (all_inside (0 + at) one.targets far.targets));
      catches =
          subst (λ (count : ℕ). AllByRecursion (λ (catch : Catch). NamesItem count catch.to) made.catches) (sym as_many)
          (catches_within (length (written_items short (finished s routes))) made.catches _ (ap (λ (x : IndexedItem). x.catches) is)
          (caught_inside pool (0 + at) one.catches far.catches));
      near = λ told. absurd (false≢true (sym (ap (λ (x : IndexedItem). x.near) is ∙ far_is_not_near one.targets far.targets) ∙ told));
    } where
      numbers : List ℕ
      numbers = map (target_number short (finished s routes) (0 + at)) one.targets

      instr_is : made.instr ≡ jumping_to (map (target_number short (finished s routes) (0 + at)) one.targets)
          (indexed_instr s constructor pool one.instr)
      instr_is = ap (λ (x : IndexedItem). x.instr) is

      many : length (targets (indexed_instr s constructor pool one.instr))
          ≡ length (map (target_number short (finished s routes) (0 + at)) one.targets)
      many = far.fits.many constructor pool ∙ sym (length-map one.targets (target_number short (finished s routes) (0 + at)))

    near_item : (at : ℕ) (made : EmitItem) (one thrown : WItem) → plain_item made ≡ indexed (0 + at) one
        → one ≡ near_jump
        → slice_get (written_items short (finished s routes)) (at + 1) ≡ Some (item (plain (Const imms.Null)))
        → slice_get (written_items short (finished s routes)) (at + 2) ≡ Some thrown
        → thrown.instr ≡ plain Throw
        → thrown.targets ≡ []
        → at + 3 < length (written_items short (finished s routes))
        → IsItem items at made
    near_item at made one thrown is jumps null throws throw_instr no_targets within = record {
      form = subst HasForm (sym instr_is) (refl, omega arith);
      targets =
          subst (λ (instr : Instr). AllByRecursion (NamesItem (length items)) (targets instr)) (sym instr_is)
          (let many = as_many in omega (arith, within, many), tt);
      catches =
          catches_within (length items) made.catches []
          (ap (λ (x : IndexedItem). x.catches) is ∙ ap (λ (w : WItem). (indexed (0 + at) w).catches) jumps) tt;
      near = λ told. record {
        jump = instr_is;
        null = let there = item_there (at + 1) (item (plain (Const imms.Null))) null in (there.0, there.1, ap (λ (x : IndexedItem). x.instr) there.2);
        throw =
            let there = item_there (at + 2) thrown throws in
            (there.0, there.1, ap (λ (x : IndexedItem). x.instr) there.2 ∙ rw (throw_instr, no_targets) refl);
      };
    } where
      zeroth : 0 + at + 3 ≡ at + 3
      zeroth = omega arith

      instr_is : made.instr ≡ IfNull 199 (at + 3)
      instr_is =
          ap (λ (x : IndexedItem). x.instr) is ∙ ap (λ (w : WItem). (indexed (0 + at) w).instr) jumps
          ∙ ap (λ (n : ℕ). IfNull 199 n) zeroth

    by_kind : (at : ℕ) (made : EmitItem) (one : WItem) → plain_item made ≡ indexed (0 + at) one
        → IsWrittenAt s routes (written_items short (finished s routes)) at one
        → IsItem items at made
    by_kind at made one is (is_far far) = far_item at made one is far
    by_kind at made one is (is_near thrown jumps null throws throw_instr no_targets within) =
        near_item at made one thrown is jumps null throws throw_instr no_targets within

    -- The items are emitted code.
    pub items_are_emitted : IsEmitted items
    items_are_emitted = record {
      some =
          let reached = reached_point s plan routes valid routed 0 valid.start valid.is_start in
          let start = reached_starts s routes 0 reached in
          let low = starts_within s routes (finished s routes) start.number start.block done start.is_there in
          let many = as_many in omega (arith, low, many);
      each = λ at made is.
          let found = numbered_from (indexed_item s constructor pool short (finished s routes)) 0 (written_items short (finished s routes)) at
          (plain_item made)
          (sym (ap (λ (list : List IndexedItem). slice_get list at) same) ∙ slice_get-map plain_item items at ∙ ap (option_map plain_item) is) in
          by_kind at made found.0 found.2 (written_at s routes (finished s routes) at found.0 done found.1);
    }
