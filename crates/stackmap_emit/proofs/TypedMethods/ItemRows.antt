-- The row of an item holds in the method that has it laid out, and leaves the frame by offsets.
use Rattle.std.proofs.Common.{◌≡◌, ◌==◌, ◌++◌, ◌≤◌, ◌<◌, ◌+◌, ◌∙◌, ℕ, zero, suc, false, List, [], ◌∷◌, length, map, slice_get, Option, Some, None, option_map, option_and_then, if◌then◌else◌, refl, sym, ap, subst, arith}
use Rattle.std.proofs.lemmas.Bool.{eq-eqb}
use Rattle.std.proofs.lemmas.List.{length-map}
use Rattle.std.proofs.lemmas.Option.{none-some, slice_get_within}
use Rattle.class_model.specs.Frames.{depth, units}
use Rattle.class_model.specs.Pool.{Constants}
use Rattle.class_model.specs.PoolChecks.{class_at}
use Rattle.class_model.specs.declared.frame.Frame.{Frame}
use Rattle.class_model.specs.declared.frame.VType.{VType}
use Rattle.class_model.specs.declared.instr.Instr.{Instr}
use Rattle.class_model.specs.declared.instr.Instr.TheVariants.{Goto, Table, Lookup, New, If, If2, IfSame, IfNull}
use Rattle.class_model.specs.declared.instr.Placed.{Placed}
use Rattle.class_tree.specs.Headers.{Name}
use Rattle.code_layout.specs.Layout.{Spelled, len_of, placed_from, start_in, starts_from}
use Rattle.code_layout.specs.PlainItems.{plain_item, plain_items}
use Rattle.code_layout.specs.declared.emitted.EmitItem.{EmitItem}
use Rattle.making_code.specs.IndexedItems.{IndexedItem}
use Rattle.member_link.specs.Bodies.{CodeItem, item_instr, item_row}
use Rattle.member_link.specs.BodyTyping.{RowHolds}
use Rattle.member_link.specs.RowScope.{RowScope}
use Rattle.member_link.specs.Rows.Row.{access_aside, row_frame, stack_behind}
use Rattle.member_link.specs.Rows.Table.{row_of}
use Rattle.member_link.specs.Scope.{Scope, class_of_new, instructions, row_scope}
use Rattle.member_link.specs.Targets.{with_targets}
use Rattle.plan_flow.specs.Written.FramedCode.{items_scope, new_class_in}
use Rattle.row_frames.specs.Laws.NumberedFrames.{numbered_frame, numbered_type}
use Rattle.row_frames.specs.Laws.RenumberedMembers.{KeepsNews}
use Rattle.row_frames.specs.Laws.RenumberedRows.{Moves, frame_moves, operands_fit, stack_moves}
use Rattle.row_frames.specs.Laws.RenumberedTable.{row_moves}
use Rattle.row_frames.specs.Laws.RenumberedTypes.{units_same}
use Rattle.row_frames.specs.Laws.MorePools.{class_more}
use Rattle.stackmap_emit.proofs.TypedMethods.Offsets.{TakeBytes, offset, offset_apart, offset_least}
use Rattle.stackmap_emit.proofs.TypedMethods.RowsOverPools.{over, row_stays}

-- ---- the class of the new of an item

abbrev made : Constants → Instr → Option Name
made pool (New index) = class_at pool index
made pool other = None

made_more : (pool more : Constants) (instr : Instr) (class : Name) → made pool instr ≡ Some class → made (pool ++ more) instr ≡ Some class
made_more pool more (New index) class is = class_more pool more index class is
made_more pool more other class is = absurd (none-some class is)

abbrev made_by : Constants → Option IndexedItem → Option Name
made_by pool one = option_and_then (λ (one : IndexedItem). made pool one.instr) one

made_by_more : (pool more : Constants) (one : Option IndexedItem) (class : Name) → made_by pool one ≡ Some class
    → made_by (pool ++ more) one ≡ Some class
made_by_more pool more None class is = absurd (none-some class is)
made_by_more pool more (Some one) class is = made_more pool more one.instr class is

pub news_more : (pool more : Constants) (items : List IndexedItem) (number : ℕ) (class : Name) → new_class_in pool items number ≡ Some class
    → new_class_in (pool ++ more) items number ≡ Some class
news_more pool more items number class is = made_by_more pool more (slice_get items number) class is

there_by : (pool : Constants) (one : Option IndexedItem) (class : Name) → made_by pool one ≡ Some class
    → (item : IndexedItem) × (one ≡ Some item)
there_by pool None class is = absurd (none-some class is)
there_by pool (Some one) class is = (one, refl)

-- ---- and of the new at its offset

abbrev new_among : Constants → ℕ → List Placed → Option Name
new_among pool n [] = None
new_among pool n (placed ∷ others) = if placed.at == n then made pool placed.instr else new_among pool n others

made_targets : (pool : Constants) (place : ℕ → ℕ) (instr : Instr) → made pool (with_targets place instr) ≡ made pool instr
made_targets pool place (New index) = refl
made_targets pool place (If opcode to) = refl
made_targets pool place (If2 opcode to) = refl
made_targets pool place (IfSame opcode to) = refl
made_targets pool place (IfNull opcode to) = refl
made_targets pool place (Goto to) = refl
made_targets pool place (Table low other to) = refl
made_targets pool place (Lookup other pairs) = refl
made_targets pool place instr = refl

module _ (pool : Constants) (spelled : Spelled) (place : ℕ → ℕ) where
  unlike : (m n : ℕ) → m < n → (m == n) ≡ false
  unlike m n less = grind (arith)

  new_found : (at : ℕ) (items : List EmitItem) → TakeBytes spelled at items → (number : ℕ) → number < length items
      → new_among pool (offset spelled at items number) (placed_from spelled place at items)
      ≡ made_by pool (slice_get (plain_items items) number)
  new_found at [] take number within = absurd (omega (arith, within))
  new_found at (item ∷ items) take zero within = rw (eq-eqb at at refl) (made_targets pool place item.instr)
  new_found at (item ∷ items) take (suc number) within =
      let low = offset_least spelled (at + len_of spelled at item.instr) items number in
      let more = take.0 in
      let apart : (at == offset spelled at (item ∷ items) (suc number)) ≡ false =
      unlike at (offset spelled at (item ∷ items) (suc number)) (omega (arith, low, more)) in
      rw (apart) (new_found (at + len_of spelled at item.instr) items take.1 number (omega (arith, within)))

-- ---- depths

depth_same : (number : ℕ → ℕ) (types : List VType) → depth (map (numbered_type number) types) ≡ depth types
depth_same number [] = refl
depth_same number (type ∷ types) =
    joined (units (numbered_type number type)) (units type) _ _
    (ap (λ (all : List VType). length all) (units_same number type) ∙ length-map (units type) (numbered_type number)) (depth_same number types)
  where
    joined : (a b c d : List VType) → length a ≡ length b → length c ≡ length d → length (a ++ c) ≡ length (b ++ d)
    joined [] [] c d e f = f
    joined [] (y ∷ b) c d e f = absurd cc
    joined (x ∷ a) [] c d e f = absurd cc
    joined (x ∷ a) (y ∷ b) c d e f = ap suc (joined a b c d (let tails : length a ≡ length b = cc in tails) f)

-- ---- rows

-- What rows of grown classes keep, as a law of another crate says it.
pub record KeepsRows (old new : RowScope) : Type 0 where
  pub held : (before : Frame) (place : ℕ) (item : CodeItem)
      → RowHolds old before (access_aside (item_row old before place item))
      → RowHolds new before (access_aside (item_row new before place item))
  pub left : (before : Frame) (place : ℕ) (item : CodeItem)
      → row_frame before (item_row new before place item) ≡ row_frame before (item_row old before place item)

-- a method in whose class the items stand
pub record StandsIn (host s : Scope) (pool : Constants) (spelled : Spelled) (items : List EmitItem) : Type 0 where
  pub more : Constants
  pub has : s.class.pool ≡ pool ++ more
  pub take : TakeBytes spelled 0 items
  pub placed : instructions s ≡ placed_from spelled (start_in (starts_from spelled 0 items)) 0 items
  pub keeps : KeepsRows
      (record (items_scope host pool s.part.max_stack (plain_items items)) {
        pool = s.class.pool;
        new_class = new_class_in s.class.pool (plain_items items);
      })
      (items_scope s s.class.pool s.part.max_stack (plain_items items))

module _ (host s : Scope) (pool : Constants) (spelled : Spelled) (items : List EmitItem) (in_class : StandsIn host s pool spelled items) where
  abbrev number : ℕ → ℕ
  number = offset spelled 0 items

  abbrev place : ℕ → ℕ
  place = start_in (starts_from spelled 0 items)

  abbrev room : ℕ
  room = s.part.max_stack

  -- the scopes of rows: in the host, in the method by numbers, and by offsets
  abbrev host_scope : RowScope
  host_scope = items_scope host pool room (plain_items items)

  abbrev item_scope : RowScope
  item_scope = items_scope s s.class.pool room (plain_items items)

  new_at : (n : ℕ) → n < length items → class_of_new s (number n) ≡ new_class_in s.class.pool (plain_items items) n
  new_at n within =
      ap (new_among s.class.pool (number n)) in_class.placed
      ∙ new_found s.class.pool spelled place 0 items in_class.take n within

  within_items : (n : ℕ) (class : Name) → new_class_in s.class.pool (plain_items items) n ≡ Some class → n < length items
  within_items n class is =
      let found = there_by s.class.pool (slice_get (plain_items items) n) class is in
      subst (λ (many : ℕ). n < many) (length-map items plain_item) (slice_get_within (plain_items items) n found.0 found.1)

  keeps_news : KeepsNews number item_scope room (class_of_new s)
  keeps_news = record {
    apart = λ n class is other. offset_apart spelled 0 items in_class.take n other (within_items n class is);
    class_kept = λ n class is. new_at n (within_items n class is) ∙ is;
  }

  -- the row by numbers, in the method
  pub record Holds (n : ℕ) (instr : Instr) (f : Frame) : Type 0 where
    pub held : RowHolds item_scope f (access_aside (row_of item_scope f n instr))
    pub left : row_frame f (row_of item_scope f n instr) ≡ row_frame f (row_of host_scope f n instr)

  pub in_method : (n : ℕ) (instr : Instr) (f : Frame) → RowHolds host_scope f (access_aside (row_of host_scope f n instr)) → Holds n instr f
  in_method n instr f holds =
      let kept : (at : ℕ) (class : Name) → host_scope.new_class at ≡ Some class
      → new_class_in s.class.pool (plain_items items) at ≡ Some class =
      λ at class is. subst (λ (all : Constants). new_class_in all (plain_items items) at ≡ Some class) (sym in_class.has)
      (news_more pool in_class.more (plain_items items) at class is) in
      let stays = row_stays host_scope in_class.more (new_class_in s.class.pool (plain_items items)) kept f n instr holds in
      let grown : RowScope = record host_scope { pool = s.class.pool; new_class = new_class_in s.class.pool (plain_items items) } in
      let same : over host_scope in_class.more (new_class_in s.class.pool (plain_items items)) kept ≡ grown =
      ap (λ (all : Constants). record host_scope { pool = all; new_class = new_class_in s.class.pool (plain_items items) }) (sym in_class.has) in
      let there : RowHolds grown f (access_aside (row_of grown f n instr)) =
      subst (λ (t : RowScope). RowHolds t f (access_aside (row_of t f n instr))) same stays.0 in
      let left : row_frame f (row_of grown f n instr) ≡ row_frame f (row_of host_scope f n instr) =
      subst (λ (t : RowScope). row_frame f (row_of t f n instr) ≡ row_frame f (row_of host_scope f n instr)) same stays.1 in
      record {
        held = in_class.keeps.held f n (item_instr instr) there;
        left = in_class.keeps.left f n (item_instr instr) ∙ left;
      }

  -- and by offsets, where access passes
  pub record HoldsThere (n : ℕ) (instr : Instr) (f : Frame) : Type 0 where
    pub held : RowHolds (row_scope s) (numbered_frame number f) (row_of (row_scope s) (numbered_frame number f) (number n) (with_targets number instr))
    pub left : row_frame (numbered_frame number f) (row_of (row_scope s) (numbered_frame number f) (number n) (with_targets number instr))
        ≡ option_map (numbered_frame number) (row_frame f (row_of host_scope f n instr))

  pub holds_there : (n : ℕ) (instr : Instr) (f : Frame) → n < length items
      → RowHolds host_scope f (access_aside (row_of host_scope f n instr))
      → (row_of item_scope f n instr).access
      → HoldsThere n instr f
  holds_there n instr f within holds passes =
      let own = in_method n instr f holds in
      let row = row_of item_scope f n instr in
      let also = row_of (row_scope s) (numbered_frame number f) (number n) (with_targets number instr) in
      let moves : Moves number row also =
      row_moves number item_scope room (class_of_new s) keeps_news f n (λ other. offset_apart spelled 0 items in_class.take n other within) instr
      own.held.further in
      record {
        held = record {
          operands = operands_fit number f row also moves item_scope room (class_of_new s) own.held.operands;
          local = moves.local own.held.local;
          depth_fits =
              subst (λ (deep : ℕ). deep ≤ room)
              (sym (ap depth (stack_moves number f row also moves) ∙ depth_same number (stack_behind f row))) own.held.depth_fits;
          further = moves.further own.held.further;
          access = moves.access passes;
        };
        left = frame_moves number f row also moves ∙ ap (option_map (numbered_frame number)) own.left;
      }
