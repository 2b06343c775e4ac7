-- A method that is rewritten is typed in the class that is written of its class, by the frames of its items at their offsets.
use Rattle.std.proofs.Common.{◌≡◌, ◌≤◌, ◌<◌, ◌+◌, ◌∙◌, ℕ, zero, suc, nat_le, Bool, true, List, [], length, slice_get, Option, Some, if◌then◌else◌, refl, sym, ap, subst, arith}
use Rattle.std.proofs.lemmas.Option.{same_Some, slice_get_within}
use Rattle.class_model.specs.Laws.Lists.{at_index}
use Rattle.class_model.specs.declared.class_file.ClassFile.{ClassFile}
use Rattle.class_model.specs.declared.class_file.Method.{Method}
use Rattle.class_model.specs.declared.class_file.MethodAt.{MethodAt}
use Rattle.class_model.specs.declared.frame.Frame.{Frame}
use Rattle.class_rewrite.proofs.FolderPairs.{IsPair}
use Rattle.class_rewrite.proofs.ReadMajors.{states_frames}
use Rattle.class_rewrite.proofs.StackRoom.{framed_roomy, greatest_roomy}
use Rattle.class_rewrite.proofs.WrittenSettings.{setting, writing}
use Rattle.class_rewrite.proofs.WrittenScopes.{IsHosted, hosted, now_scope, numbered}
use Rattle.class_rewrite.specs.Inner.ReadyFolders.{IsReadyFolder}
use Rattle.class_rewrite.specs.Laws.GrownPools.{written_begins}
use Rattle.class_rewrite.specs.Laws.WrittenGrown.{added_begins}
use Rattle.class_rewrite.specs.Rewriting.Folders.{IsFolderWritten, IsPoolBefore, IsRewrittenAt}
use Rattle.class_rewrite.specs.Rewriting.Methods.{Rewriting, Rewritten}
use Rattle.class_rewrite.specs.Rewriting.Verifying.{IsMethodSound, IsOfVerified, laid_of}
use Rattle.class_tree.specs.Headers.{IsClassFile, headers_of}
use Rattle.code_layout.specs.Emitting.{IsEmitted}
use Rattle.code_layout.specs.Layout.{start_in}
use Rattle.code_layout.specs.PlainItems.{plain_items}
use Rattle.making_code.specs.Constants.{grow}
use Rattle.making_code.specs.IndexedItems.{IndexedItem}
use Rattle.making_code.specs.Laws.GrownPools.{Begins, begins_through}
use Rattle.member_link.specs.Bodies.{Body}
use Rattle.member_link.specs.BodyTyping.{HasFrames}
use Rattle.member_link.specs.Scope.{Scope}
use Rattle.plan_flow.specs.PlanScope.{PlanScope}
use Rattle.plan_flow.specs.Written.FramedCode.{IsFramed, body_of_items, greatest_of}
use Rattle.plan_flow.specs.Written.WrittenConstants.{indexed_items}
use Rattle.plan_flow.specs.Written.WrittenPrograms.{finished_of, plan_scope}
use Rattle.stackmap_emit.specs.FrameConstants.{table_needs}
use Rattle.stackmap_emit.specs.FramesAttribute.{IsFramesAttribute}
use Rattle.stackmap_emit.specs.PlacedFrames.{placed_frames, stated_from}
use Rattle.stackmap_emit.specs.TypedMethods.{AreWhole, HasLaidCode, IsGrownMethod, LaidCode, PassAccess, frames_by_offset, laid_body}
use Rattle.type_rules.specs.Typed.{Typed}
use Rattle.written_types.specs.Setting.{Setting}
use Rattle.written_types.specs.Writing.{Writing, body_in, items_in, points_in}

-- ---- laws of the crates below

pub record TypingLaws : Type 0 where
  pub laid : (w : LaidCode) (s : Scope) → IsGrownMethod w.host s → HasLaidCode w s → HasFrames (laid_body w s.part.max_stack) w.frames → PassAccess w s
      → AreWhole w
      → Typed s (frames_by_offset w)
  pub frames : (w : Writing) (state : ℕ → Option Frame) (frames : List Frame) → Setting w
      → IsFramed w.s.flat w.form w.blocks (items_in w) (body_in w state) frames
      → greatest_of (points_in w) frames ≤ w.max_stack
      → HasFrames (body_in w state) frames

module _ (r : Rewriting) (files : List ClassFile) (w : IsFolderWritten r files) (verified : IsOfVerified r) (ready : IsReadyFolder r files w)
    (class : ℕ) (file also : ClassFile) (pair : IsPair r files w class file also)
    (number : ℕ) (method : Method) (got : slice_get file.methods number ≡ Some method)
    (v : Rewritten) (is_at : IsRewrittenAt r (numbered r files w class file also pair number) v) where
  abbrev at : MethodAt
  at = record { class = class; method = number }

  abbrev s : PlanScope
  s = plan_scope r.classes r.links v.one

  pub found : IsHosted r files w class file also pair number method v
  found = hosted r files w class file also pair number method v got is_at

  abbrev host : Scope
  host = record { headers = headers_of r.classes; class = file; method = method; part = found.part }

  abbrev now : Scope
  now = now_scope r files w class file also pair method v.part

  is_file : IsClassFile file
  is_file = at_index IsClassFile r.classes.folder class file verified.tree.folder pair.there

  host_same : is_at.is.host ≡ host
  host_same = same_Some is_at.is.host host (sym is_at.is.is_host ∙ found.is.is_host)

  files_same : is_at.file ≡ file
  files_same = same_Some is_at.file file (sym is_at.is_file ∙ pair.there)

  before_it : IsPoolBefore r class file number is_at.pool
  before_it = subst (λ (f : ClassFile). IsPoolBefore r class f number is_at.pool) files_same is_at.before

  -- ---- the pool of the class begins with the one that the method leaves

  less : number < length file.methods
  less = slice_get_within file.methods number method got

  pub pool_in_class : Begins v.pool also.pool
  pool_in_class =
      let gap : (n : ℕ) × (length file.methods ≡ suc (number + n)) = behind number (length file.methods) less in
      let last : IsPoolBefore r class file (suc (number + gap.0)) pair.is.code_pool =
      subst (λ (n : ℕ). IsPoolBefore r class file n pair.is.code_pool) gap.1 pair.is.before_constructors in
      subst (Begins v.pool) (sym (ap (λ (c : ClassFile). c.pool) pair.is.is))
      (begins_through v.pool pair.is.code_pool pair.is.pool
      (written_begins r ready.one class file number is_at.pool v before_it is_at.is gap.0 (number + gap.0) pair.is.code_pool refl last)
      (added_begins r w.written file pair.is.code_pool pair.is.pool pair.is.added pair.is.adds)) where
        behind : (n count : ℕ) → n < count → (gap : ℕ) × (count ≡ suc (n + gap))
        behind n zero low = absurd (omega (arith, low))
        behind zero (suc count) low = (count, omega arith)
        behind (suc n) (suc count) low =
            let rest = behind n count (omega (arith, low)) in
            let same = rest.1 in
            (rest.0, omega (arith, same))

  -- ---- its items are typed by their numbers

  abbrev state : ℕ → Option Frame
  state = is_at.is.framed.state

  -- the body of some items, with so much room
  abbrev body : List IndexedItem → ℕ → Body
  body items room = body_of_items host v.one.flat v.code_pool room items state

  items_are : plain_items v.items ≡ indexed_items s r.constructor v.code_pool v.one.form (finished_of r.classes r.links v.one)
  items_are = is_at.is.coded.items

  body_is : v.body ≡ body (plain_items v.items) 0
  body_is =
      is_at.is.framed.body
      ∙ ap (λ (one : Scope). body_of_items one v.one.flat v.code_pool 0 (plain_items v.items) state) host_same

  framed : IsFramed v.one.flat v.one.form (finished_of r.classes r.links v.one) (plain_items v.items) (body (plain_items v.items) 0) v.frames
  framed =
      subst (λ (b : Body). IsFramed v.one.flat v.one.form (finished_of r.classes r.links v.one) (plain_items v.items) b v.frames) body_is
      is_at.is.framed.framed

  abbrev room : ℕ
  room = v.part.max_stack

  room_is : room ≡ greatest_of (body (plain_items v.items) 0).points v.frames
  room_is = is_at.is.max_stack ∙ ap (λ (b : Body). greatest_of b.points v.frames) body_is

  enough : greatest_of (body (plain_items v.items) room).points v.frames ≤ room
  enough =
      let same = greatest_roomy host v.one.flat v.code_pool (plain_items v.items) state 0 room v.frames in
      let is = room_is in
      omega (arith, same, is)

  abbrev IsTypedBy : List IndexedItem → Type 0
  IsTypedBy items = HasFrames (body items room) v.frames

  -- what typing asks of items
  record Fits (items : List IndexedItem) : Type 0 where
    framed : IsFramed v.one.flat v.one.form (finished_of r.classes r.links v.one) items (body items room) v.frames
    enough : greatest_of (body items room).points v.frames ≤ room

  fits : Fits (plain_items v.items)
  fits = record {
    framed = framed_roomy host v.one.flat v.code_pool (plain_items v.items) state 0 room v.one.form (finished_of r.classes r.links v.one) v.frames framed;
    enough = enough;
  }

  module _ (laws : TypingLaws) (emitted : IsEmitted v.items) where
    pub typed_items : HasFrames (body (plain_items v.items) room) v.frames
    typed_items =
        let wanted : List IndexedItem = indexed_items s r.constructor v.code_pool v.one.form (finished_of r.classes r.links v.one) in
        let here : Fits wanted = subst Fits items_are fits in
        subst IsTypedBy (sym items_are) (laws.frames (writing r v host v.one.form room) state v.frames
        (setting r files w verified ready at v is_at host found.is.is_host v.one.form room) here.framed here.enough)

    -- ---- the method has them laid out

    frames_stated : nat_le 50 is_at.is.host.class.major ≡ true
    frames_stated = ap (λ (one : Scope). nat_le 50 one.class.major) host_same ∙ states_frames file is_file

    stated_is : v.stated ≡ stated_from state 0 v.items
    stated_is = is_at.is.framed.stated ∙ ap (λ (b : Body). stated_from b.stated 0 v.items) body_is

    abbrev laid : LaidCode
    laid = laid_of host v state

    pub grown_method : IsGrownMethod host now
    grown_method = record {
      headers = ready.headers;
      is_class_file = is_file;
      class = ready.grown class file also pair.there pair.is;
      number = number;
      there = got;
      method = record { rest = refl };
    }

    pub laid_code : HasLaidCode laid now
    laid_code = record {
      emitted = emitted;
      laid = is_at.is.framed.laid;
      code = is_at.is.code;
      handlers = is_at.is.handlers;
      max_locals = is_at.is.max_locals;
      max_stack = room_is;
      pool = v.pool;
      grows = ap (λ (frames : List (Option Frame)). grow 64535 v.code_pool (table_needs frames)) (sym stated_is)
          ∙ sym (ap (λ (b : Bool). if b then grow 64535 v.code_pool (table_needs v.stated) else Some v.code_pool) frames_stated)
          ∙ is_at.is.grows;
      more = pool_in_class.more;
      has = pool_in_class.is;
      attrs = subst (λ (b : Body). IsFramesAttribute v.pool b.entry (placed_frames (start_in v.laid.starts) 0 (stated_from state 0 v.items)) v.part.attrs) body_is
          (subst (λ (frames : List (Option Frame)). IsFramesAttribute v.pool v.body.entry (placed_frames (start_in v.laid.starts) 0 frames) v.part.attrs) stated_is
          (subst (λ (b : Bool). IsFramesAttribute v.pool v.body.entry (if b then placed_frames (start_in v.laid.starts) 0 v.stated else []) v.part.attrs)
          frames_stated is_at.is.attrs));
    }

    -- The frames of the items type it.
    pub method_typed : IsMethodSound r at v host now → Typed now (frames_by_offset laid)
    method_typed sound = laws.laid laid now grown_method laid_code typed_items (sound.access is_at) (sound.whole is_at)
