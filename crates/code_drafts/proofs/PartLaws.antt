-- The parts that drafts are joined from are the finished blocks, and their items with numbers are those of the written code.
use Rattle.std.proofs.Common.{◌≡◌, ◌+◌, ◌≤◌, ◌<◌, ℕ, suc, Bool, true, List, [], ◌∷◌, ◌++◌, drop, length, map, take, Some, None, unwrap_or, if◌then◌else◌, slice_get, append-nil, arith, refl, sym, ap, subst, ◌∙◌}
use Rattle.std.specs.List.{flat_map}
use Rattle.std.proofs.lemmas.List.{drop_all, length-map, length-take-le, map-append}
use Rattle.std.proofs.lemmas.Option.{slice_get_within}
use Rattle.class_model.specs.Laws.Lists.{take_item}
use Rattle.class_model.specs.declared.instr.Pair.{Pair}
use Rattle.class_model.specs.Pool.{Constants}
use Rattle.class_tree.specs.Headers.{Name}
use Rattle.code_drafts.proofs.EndLaws.{ends_same}
use Rattle.code_drafts.specs.Drafts.{AreDrafted, Meant, all_items, catch_of, kind_of, meaning, meant, meant_catch, target_of}
use Rattle.code_drafts.specs.Inner.Ends.{AreEnded, IsEnded, draft_ends, end_meant}
use Rattle.code_drafts.specs.Numbering.{IsNumbered, block_firsts}
use Rattle.code_drafts.specs.Inner.Parts.{Joins, Part, draft_number, end_drafts, firsts_in, leads, leads_to, part_items, parts_of, placed_catch, placed_draft, placed_drafts, start_at, start_in}
use Rattle.code_drafts.specs.declared.draft.DraftBlock.{DraftBlock}
use Rattle.code_drafts.specs.declared.draft.DraftCatch.{DraftCatch}
use Rattle.code_drafts.specs.declared.draft.DraftItem.{DraftItem}
use Rattle.code_drafts.specs.declared.draft.Target.{Target}
use Rattle.code_drafts.specs.declared.draft.Target.TheVariants as targets
use Rattle.code_drafts.specs.declared.finishing.DraftEnd.{DraftEnd}
use Rattle.code_drafts.specs.declared.finishing.DraftEnd.TheVariants.{Goto, Nop, Nothing}
use Rattle.code_drafts.specs.declared.numbers.Starts.{Starts}
use Rattle.code_drafts.specs.declared.placing.Joined.{Joined}
use Rattle.code_drafts.specs.declared.placing.Numbered.{Numbered}
use Rattle.code_layout.specs.PlainItems.{plain_item, plain_items}
use Rattle.code_layout.specs.declared.emitted.EmitItem.{EmitItem}
use Rattle.flow_code.specs.FlatCode.{FlatCode}
use Rattle.making_code.specs.IndexedItems.{IndexedItem}
use Rattle.making_code.specs.Items.{WCatch, WItem, WTarget}
use Rattle.member_link.specs.Machine.Replaced.{map_numbered}
use Rattle.plan_flow.specs.PlanScope.{PlanScope}
use Rattle.plan_flow.specs.Written.Blocks.{Block}
use Rattle.plan_flow.specs.Written.Finish.{End, Finished, end_items, finish, finished_items}
use Rattle.plan_flow.specs.Written.WrittenCode.{jumping_to, pairs_to, short, start_from, target_number, written_items}
use Rattle.plan_flow.specs.Written.WrittenConstants.{catch_index, indexed_item, is_near}

-- ---- lists

-- what two lists are seen as, from the front
pub split_same : {A B C : Type 0} (f : A → C) (g : B → C) (items : List A) (front back : List B)
    → map f items ≡ map g (front ++ back)
    → (map f (take (length front) items) ≡ map g front) × (map f (drop (length front) items) ≡ map g back)
split_same f g items [] back same = (refl, same)
split_same f g [] (one ∷ front) back same = absurd cc
split_same f g (item ∷ items) (one ∷ front) back same =
    let both = split_same f g items front back (ap (drop 1) same) in
    let here : f item ≡ g one = cc in (
      ap (λ (c : _). c ∷ map f (take (length front) items)) here ∙ ap (λ (cs : List _). g one ∷ cs) both.0,
      both.1,
    )

pub mapped_same : {A B C : Type 0} (f : A → C) (g : B → C) (h : A → B) → ((x : A) → f x ≡ g (h x)) → (xs : List A) → map f xs ≡ map g (map h xs)
mapped_same f g h same [] = refl
mapped_same {C = C} f g h same (x ∷ xs) =
    ap (λ (c : C). c ∷ map f xs) (same x) ∙ ap (λ (cs : List C). g (h x) ∷ cs) (mapped_same f g h same xs)

module _ (s : PlanScope) (constructor : Name → List ℕ) (pool : Constants) where
  -- ---- parts

  pub record IsPart (one : Finished) (part : Part) : Type 0 where
    pub of : kind_of part.of ≡ one.block.of
    pub items : map meaning part.items ≡ map (meant s constructor pool) (finished_items one)

  abbrev pub AreParts : List Finished → List Part → Type 0
  AreParts [] [] = Unit {0}
  AreParts (one ∷ others) (part ∷ parts) = IsPart one part × AreParts others parts
  AreParts blocks parts = ⊥

  -- the items of blocks without their ends
  abbrev pub bare_items : List Finished → List WItem
  bare_items blocks = flat_map (λ (one : Finished). one.block.items) blocks

  pub end_same : (end : DraftEnd) → map meaning (end_drafts end) ≡ map (meant s constructor pool) (end_items (end_meant end))
  end_same Nothing = refl
  end_same (Goto to) = refl
  end_same Nop = refl

  pub part_same : (one : Finished) (draft : DraftBlock) (end : DraftEnd) (items : List DraftItem) (rest : List WItem) → IsEnded one draft end
      → map meaning items ≡ map (meant s constructor pool) (one.block.items ++ rest)
      → (map meaning (take draft.count items ++ end_drafts end) ≡ map (meant s constructor pool) (finished_items one))
      × (map meaning (drop draft.count items) ≡ map (meant s constructor pool) rest)
  part_same one draft end items rest is same =
      let m = meant s constructor pool in
      let both = split_same meaning m items one.block.items rest same in
      let front : map meaning (take draft.count items) ≡ map m one.block.items =
      ap (λ (n : ℕ). map meaning (take n items)) is.block.count ∙ both.0 in
      let last : map meaning (end_drafts end) ≡ map m (end_items one.end) =
      end_same end ∙ ap (λ (e : End). map m (end_items e)) is.end in (
        map-append meaning (take draft.count items) (end_drafts end)
            ∙ ap (λ (list : List Meant). list ++ map meaning (end_drafts end)) front
            ∙ ap (λ (list : List Meant). map m one.block.items ++ list) last
            ∙ sym (map-append m one.block.items (end_items one.end)),
        ap (λ (n : ℕ). map meaning (drop n items)) is.block.count ∙ both.1,
      )

  pub parts_same : (blocks : List Finished) (drafts : List DraftBlock) (ends : List DraftEnd) (items : List DraftItem) → AreEnded blocks drafts ends
      → map meaning items ≡ map (meant s constructor pool) (bare_items blocks)
      → AreParts blocks (parts_of drafts ends items)
  parts_same [] [] [] items all same = tt
  parts_same [] [] (end ∷ ends) items all same = elim all [ ]
  parts_same [] (draft ∷ drafts) ends items all same = elim all [ ]
  parts_same (one ∷ others) [] ends items all same = elim all [ ]
  parts_same (one ∷ others) (draft ∷ drafts) [] items all same = elim all [ ]
  parts_same (one ∷ others) (draft ∷ drafts) (end ∷ ends) items all same =
      let both = part_same one draft end items (bare_items others) all.0 same in (
        record { of = all.0.block.of; items = both.0 },
        parts_same others drafts ends (drop draft.count items) all.1 both.1,
      )

  -- ---- their items

  pub items_same : (blocks : List Finished) (parts : List Part) → AreParts blocks parts
      → map meaning (part_items parts) ≡ map (meant s constructor pool) (written_items short blocks)
  items_same [] [] all = refl
  items_same [] (part ∷ parts) all = elim all [ ]
  items_same (one ∷ others) [] all = elim all [ ]
  items_same (one ∷ others) (part ∷ parts) all =
      let m = meant s constructor pool in
      map-append meaning part.items (part_items parts)
      ∙ ap (λ (list : List Meant). list ++ map meaning (part_items parts)) all.0.items
      ∙ ap (λ (list : List Meant). map m (finished_items one) ++ list) (items_same others parts all.1)
      ∙ sym (map-append m (finished_items one) (written_items short others))

  pub as_long : (drafts : List DraftItem) (items : List WItem) → map meaning drafts ≡ map (meant s constructor pool) items
      → length drafts ≡ length items
  as_long drafts items same =
      sym (length-map drafts meaning) ∙ ap length same ∙ length-map items (meant s constructor pool)

  -- ---- where they begin

  if_same : (one other : Bool) (number start more : ℕ) → one ≡ other → start ≡ more
      → (if one then number else start) ≡ (if other then number else more)
  if_same one other number start more a b =
      ap (λ (x : Bool). if x then number else start) a ∙ ap (λ (n : ℕ). if other then number else n) b

  pub starts_same : (to : Target) (number : ℕ) (blocks : List Finished) (parts : List Part) → AreParts blocks parts
      → start_in to number parts ≡ start_from short (leads to) number blocks
  starts_same to number [] [] all = refl
  starts_same to number [] (part ∷ parts) all = elim all [ ]
  starts_same to number (one ∷ others) [] all = elim all [ ]
  starts_same to number (one ∷ others) (part ∷ parts) all =
      if_same (leads_to to part.of) (leads to one.block.of) number (start_in to (number + length part.items) parts) (start_from short (leads to)
      (number + length (finished_items one)) others)
      (ap (leads to) all.0.of)
      (ap (λ (n : ℕ). start_in to (number + n) parts) (as_long part.items (finished_items one) all.0.items)
      ∙ starts_same to (number + length (finished_items one)) others parts all.1)

  pub firsts_same : (number : ℕ) (blocks : List Finished) (parts : List Part) → AreParts blocks parts
      → firsts_in number parts ≡ block_firsts number blocks
  firsts_same number [] [] all = refl
  firsts_same number [] (part ∷ parts) all = elim all [ ]
  firsts_same number (one ∷ others) [] all = elim all [ ]
  firsts_same number (one ∷ others) (part ∷ parts) all =
      ap (λ (n : ℕ). number ∷ firsts_in (number + n) parts) (as_long part.items (finished_items one) all.0.items)
      ∙ ap (λ (firsts : List ℕ). number ∷ firsts) (firsts_same (number + length (finished_items one)) others parts all.1)

  -- ---- items with numbers

  module _ (blocks : List Finished) (starts : Starts) (total : ℕ) where
    -- where blocks begin is known
    pub record AreKnown : Type 0 where
      pub known : (to : Target) → unwrap_or (start_at starts to) total ≡ start_from short (leads to) 0 blocks

    pub number_same : (number : ℕ) (to : Target) → AreKnown → draft_number starts total number to ≡ target_number short blocks number (target_of to)
    number_same number (targets.Point to) all = all.known (targets.Point to)
    number_same number (targets.JumpPad at edge) all = all.known (targets.JumpPad at edge)
    number_same number (targets.HandlerPad at handler) all = all.known (targets.HandlerPad at handler)
    number_same number (targets.Ahead count) all = refl

    abbrev catch_numbered : (WTarget → ℕ) → WTarget × ℕ → ℕ × ℕ
    catch_numbered numbered catch = (numbered catch.0, catch.1)

    -- an item by what it means
    abbrev placed_meant : (WTarget → ℕ) → Meant → IndexedItem
    placed_meant numbered m = record {
      instr = jumping_to (map numbered m.targets) m.instr;
      near = is_near m.targets;
      catches = map (catch_numbered numbered) m.catches;
    }

    pub placed_same : (number : ℕ) (item : DraftItem) (one : WItem) → AreKnown
        → meaning item ≡ meant s constructor pool one
        → placed_draft (draft_number starts total number) item ≡ indexed_item s constructor pool short blocks number one
    placed_same number item one all same =
        let f = draft_number starts total number in
        let g = target_number short blocks number in
        let t : map f item.targets ≡ map g (map target_of item.targets) = mapped_same f g target_of (λ to. number_same number to all) item.targets in
        let c : map (placed_catch f) item.catches ≡ map (catch_numbered g) (map catch_of item.catches) =
        mapped_same (placed_catch f) (catch_numbered g) catch_of (λ (catch : DraftCatch). ap (λ (n : ℕ). (n, catch.class)) (number_same number
        catch.to all)) item.catches in
        let first : placed_draft f item ≡ placed_meant g (meaning item) =
        ap (λ (numbers : List ℕ). record {
          instr = jumping_to numbers item.instr;
          near = is_near (map target_of item.targets);
          catches = map
              (placed_catch f) item.catches;
        }) t
        ∙ ap (λ (catches : List (ℕ × ℕ)). record {
          instr = jumping_to (map g (map target_of item.targets)) item.instr;
          near = is_near (map
              target_of item.targets);
          catches = catches;
        }) c in
        let last : map (λ (catch : WCatch). (g catch.to, catch_index pool catch.class)) one.catches ≡ map (catch_numbered g) (map (meant_catch
        pool) one.catches) =
        mapped_same (λ (catch : WCatch). (g catch.to, catch_index pool catch.class)) (catch_numbered g) (meant_catch pool) (λ catch. refl)
        one.catches in
        first ∙ ap (placed_meant g) same
        ∙ ap (λ (catches : List (ℕ × ℕ)). record {
          instr = jumping_to (map g one.targets) (meant s constructor pool one).instr;
          near = is_near
              one.targets;
          catches = catches;
        }) (sym last)

    pub all_placed : (number : ℕ) (items : List DraftItem) (all : List WItem) → AreKnown
        → map meaning items ≡ map (meant s constructor pool) all
        → placed_drafts starts total number items ≡ map_numbered (indexed_item s constructor pool short blocks) number all
    all_placed number [] [] known same = refl
    all_placed number [] (one ∷ all) known same = absurd cc
    all_placed number (item ∷ items) [] known same = absurd cc
    all_placed number (item ∷ items) (one ∷ all) known same =
        let here : meaning item ≡ meant s constructor pool one = cc in
        ap (λ (placed : IndexedItem). placed ∷ placed_drafts starts total (suc number) items) (placed_same number item one known here)
        ∙ ap (λ (placed : List IndexedItem). indexed_item s constructor pool short blocks number one ∷ placed) (all_placed (suc number) items all
        known (ap (drop 1) same))

  -- ---- the whole

  pub bare_same : (flat : FlatCode) (blocks : List Block) → bare_items (finish flat blocks) ≡ all_items blocks
  bare_same flat [] = refl
  bare_same flat (block ∷ blocks) = ap (λ (items : List WItem). block.items ++ items) (bare_same flat blocks)

  pub whole_parts : (blocks : List Block) (drafts : List DraftBlock) (items : List DraftItem) → AreDrafted blocks drafts
      → map meaning items ≡ map (meant s constructor pool) (all_items blocks)
      → AreParts (finish s.flat blocks) (parts_of drafts (draft_ends s.flat drafts) items)
  whole_parts blocks drafts items drafted same =
      parts_same (finish s.flat blocks) drafts (draft_ends s.flat drafts) items (ends_same s.flat blocks drafts drafted)
      (same ∙ ap (map (meant s constructor pool)) (sym (bare_same s.flat blocks)))

  pub too_long : (blocks : List Block) (drafts : List DraftBlock) (items : List DraftItem) → AreDrafted blocks drafts
      → map meaning items ≡ map (meant s constructor pool) (all_items blocks)
      → 65535 < length (part_items (parts_of drafts (draft_ends s.flat drafts) items))
      → IsNumbered s constructor pool blocks None
  too_long blocks drafts items drafted same long =
      let parts = parts_of drafts (draft_ends s.flat drafts) items in
      subst (λ (n : ℕ). 65535 < n)
      (as_long (part_items parts) (written_items short (finish s.flat blocks)) (items_same (finish s.flat blocks) parts (whole_parts blocks drafts
      items drafted same))) long

  pub all_numbered : (blocks : List Block) (drafts : List DraftBlock) (items : List DraftItem) (joined : Joined) (numbered : Numbered)
      → AreDrafted blocks drafts
      → map meaning items ≡ map (meant s constructor pool) (all_items blocks)
      → Joins (parts_of drafts (draft_ends s.flat drafts) items) joined true
      → plain_items numbered.items ≡ placed_drafts joined.starts (length joined.items) 0 joined.items
      → numbered.firsts.items ≡ joined.firsts.items
      → IsNumbered s constructor pool blocks (Some numbered)
  all_numbered blocks drafts items joined numbered drafted same joins is firsts =
      let ended = finish s.flat blocks in
      let parts = parts_of drafts (draft_ends s.flat drafts) items in
      let all : AreParts ended parts = whole_parts blocks drafts items drafted same in
      let meant_so : map meaning joined.items ≡ map (meant s constructor pool) (written_items short ended) = ap (map meaning) joins.0
      ∙ items_same ended parts all in
      let known : AreKnown ended joined.starts (length joined.items) = record { known = λ to. joins.3 to ∙ starts_same to 0 ended parts all } in (
        subst (λ (n : ℕ). n ≤ 65535) (as_long joined.items (written_items short ended) meant_so) joins.1,
        is ∙ all_placed ended joined.starts (length joined.items) 0 joined.items (written_items short ended) known meant_so,
        firsts ∙ joins.2 ∙ firsts_same 0 ended parts all,
      )

-- ---- items that are placed one by one

pub one_placed : (starts : Starts) (total number : ℕ) (items : List DraftItem) (item : DraftItem)
    → placed_drafts starts total number (items ++ item ∷ [])
    ≡ placed_drafts starts total number items ++ placed_draft (draft_number starts total (number + length items)) item ∷ []
one_placed starts total number [] item = ap (λ (n : ℕ). placed_draft (draft_number starts total n) item ∷ []) (omega arith)
one_placed starts total number (first ∷ items) item =
    let next : suc number + length items ≡ number + length (first ∷ items) = omega arith in
    ap (λ (placed : List IndexedItem). placed_draft (draft_number starts total number) first ∷ placed)
    (one_placed starts total (suc number) items item
    ∙ ap (λ (n : ℕ). placed_drafts starts total (suc number) items ++ placed_draft (draft_number starts total n) item ∷ []) next)

pub item_placed : (starts : Starts) (total : ℕ) (items : List DraftItem) (at : ℕ) (item : DraftItem) (now after : List EmitItem) (placed : EmitItem)
    → slice_get items at ≡ Some item
    → plain_items now ≡ placed_drafts starts total 0 (take at items)
    → plain_item placed ≡ placed_draft (draft_number starts total at) item
    → after ≡ now ++ placed ∷ []
    → plain_items after ≡ placed_drafts starts total 0 (take (at + 1) items)
item_placed starts total items at item now after placed is so_far one pushed =
    let within : at < length items = slice_get_within items at item is in
    let long : 0 + length (take at items) ≡ at = omega (arith, length-take-le at items (omega (arith, within))) in
    ap plain_items pushed
    ∙ map-append plain_item now (placed ∷ [])
    ∙ ap (λ (list : List IndexedItem). list ++ plain_item placed ∷ []) so_far
    ∙ ap (λ (last : IndexedItem). placed_drafts starts total 0 (take at items) ++ last ∷ []) (one
    ∙ ap (λ (n : ℕ). placed_draft (draft_number starts total n) item) (sym long))
    ∙ sym (one_placed starts total 0 (take at items) item)
    ∙ ap (placed_drafts starts total 0) (sym (take_item items at item is))

-- ---- targets of switches

pub no_numbers : (pairs : List Pair) → pairs_to pairs [] ≡ []
no_numbers [] = refl
no_numbers (pair ∷ pairs) = refl

pub pairs_end : (pairs : List Pair) (numbers : List ℕ) (at : ℕ) (made : List Pair) → length numbers ≤ at
    → made ++ pairs_to (drop at pairs) (drop at numbers) ≡ pairs_to pairs numbers
    → made ≡ pairs_to pairs numbers
pairs_end pairs numbers at made past so_far =
    sym (append-nil made)
    ∙ ap (λ (list : List Pair). made ++ list) (sym (ap (pairs_to (drop at pairs)) (drop_all at numbers past) ∙ no_numbers (drop at pairs)))
    ∙ so_far
