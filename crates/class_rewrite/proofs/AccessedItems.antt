-- The items of a method that is rewritten may use the protected members that they name, in the class that is written.
use Rattle.std.proofs.Common.{◌≡◌, ◌≤◌, ℕ, zero, suc, Bool, true, false, List, [], ◌∷◌, bytes_eq, slice_get, Option, Some, None, refl, sym, ap, subst, ◌∙◌, arith}
use Rattle.std.specs.Prelude.{◌==◌}
use Rattle.std.proofs.lemmas.Option.{none-some, same_Some}
use Rattle.class_model.specs.Frames.{depth}
use Rattle.class_model.specs.Header.{header_of}
use Rattle.class_model.specs.Laws.Lists.{at_index}
use Rattle.class_model.specs.Names.{init}
use Rattle.class_model.specs.Pool.{Constants, constant_at}
use Rattle.class_model.specs.declared.class_file.ClassFile.{ClassFile}
use Rattle.class_model.specs.declared.class_file.MethodAt.{MethodAt}
use Rattle.class_model.specs.declared.frame.Frame.{Frame}
use Rattle.class_model.specs.declared.frame.VType.{VType}
use Rattle.class_model.specs.declared.header.Header.{Header}
use Rattle.class_model.specs.declared.instr.Instr.{Instr}
use Rattle.class_model.specs.declared.instr.Instr.TheVariants.{GetField, Invoke, PutField}
use Rattle.class_model.specs.declared.opcodes.TheConstants.{INVOKESPECIAL, INVOKESTATIC}
use Rattle.class_rewrite.proofs.FolderPairs.{IsPair}
use Rattle.class_rewrite.proofs.TypedRewriting.{pool_in_class}
use Rattle.class_rewrite.proofs.WrittenSettings.{rewritten, setting, writing}
use Rattle.class_rewrite.specs.Inner.ReadyFolders.{IsReadyFolder}
use Rattle.class_rewrite.specs.Laws.GrownPools.{rewritten_begins}
use Rattle.class_rewrite.specs.Optimised.{with_folder}
use Rattle.class_rewrite.specs.Rewriting.Folders.{IsFolderWritten}
use Rattle.class_rewrite.specs.Rewriting.Methods.{Rewriting, Rewritten}
use Rattle.class_rewrite.specs.Rewriting.Verifying.{IsOfVerified, IsWrittenIn, laid_of}
use Rattle.class_tree.specs.Headers.{Classes, Headers, IsClassFile, headers_of}
use Rattle.code_layout.specs.PlainItems.{plain_item, plain_items}
use Rattle.code_layout.specs.declared.emitted.EmitItem.{EmitItem}
use Rattle.expanded_code.specs.ExpandAnswers.{IsExpanded}
use Rattle.expanded_runs.specs.UsableNames.{IsUsableCode}
use Rattle.flow_code.specs.FlatCode.{FlatCode}
use Rattle.flow_code.specs.TypedFrames.{FolderFrames}
use Rattle.making_code.specs.IndexedItems.{IndexedItem}
use Rattle.making_code.specs.Laws.GrownPools.{Begins, begins_through}
use Rattle.member_link.specs.Bodies.{Body, CodeItem, asked_access, item_instr, item_row}
use Rattle.member_link.specs.BodyTyping.{RowHolds}
use Rattle.member_link.specs.Laws.Scopes.{scope_is_at}
use Rattle.member_link.specs.Linked.{IsLinked}
use Rattle.member_link.specs.References.{Reference}
use Rattle.member_link.specs.RowScope.{RowScope}
use Rattle.member_link.specs.Rows.MemberRows.{call_row, get_field_row, put_field_row}
use Rattle.member_link.specs.Rows.Operands.{AllFit, nothing, topmost}
use Rattle.member_link.specs.Rows.Row.{Row, stack_behind}
use Rattle.member_link.specs.Rows.Table.{row_of}
use Rattle.member_link.specs.Scope.{Scope, scope_at}
use Rattle.member_link.specs.Signatures.{reference_of}
use Rattle.plan_flow.specs.Written.FramedCode.{IsFramed, body_of_items}
use Rattle.row_frames.specs.Laws.MorePools.{reference_more}
use Rattle.stackmap_emit.specs.TypedMethods.{PassAccess, method_items}
use Rattle.type_rules.specs.Grown.{AreGrownHeaders, IsGrownClass, IsGrownHeader, IsGrownScope}
use Rattle.type_rules.specs.Verified.{TypesFolder}
use Rattle.written_types.specs.HeldRows.{RowFits}
use Rattle.written_types.specs.Laws.QuietRows.{initialiser_asks, initialiser_gives, instance_asks, instance_gives, row_quiet, special_gives, static_gives}
use Rattle.written_types.specs.Setting.{Setting}
use Rattle.written_types.specs.Writing.{Writing, body_in, items_in, scope_in}

-- ---- laws of the crates below

pub record AccessLaws : Type 0 where
  -- `written_items_may_use_what_they_name`
  pub items : (w : Writing) (state : ℕ → Option Frame) (frames : List Frame) → Setting w
      → IsFramed w.s.flat w.form w.blocks (items_in w) (body_in w state) frames
      → IsUsableCode w.s.classes w.host w.s.flat
      → (number : ℕ) (item : IndexedItem) (frame : Frame)
      → slice_get (items_in w) number ≡ Some item
      → slice_get frames number ≡ Some frame
      → RowFits (scope_in w) frame (row_of (scope_in w) frame number item.instr)
  -- `rows_hold_among_grown_classes`
  pub rows : (old new : RowScope) (before : Frame) (place : ℕ) (item : CodeItem) (asks : Bool) → IsGrownScope old new
      → RowHolds old before (asked_access asks (item_row old before place item))
      → RowHolds new before (asked_access asks (item_row new before place item))
  -- `an_expanded_flat_code_names_what_the_host_may_use`
  pub usable : (classes : Classes) (typed : FolderFrames) (at : MethodAt) (flat : FlatCode) (s : Scope) → IsLinked classes → TypesFolder classes typed
      → IsExpanded classes typed at flat
      → scope_at classes at ≡ Some s
      → IsUsableCode classes s flat
  -- `a_grown_class_has_a_grown_header`
  pub header : (old new : ClassFile) → IsClassFile old → IsGrownClass old new → IsGrownHeader (header_of old) (header_of new)

-- ---- a row among the grown classes, in a grown pool

no_value : (s : RowScope) (stack : List VType) → AllFit s (nothing ∷ []) stack → ⊥
no_value s [] fit = fit
no_value s (type ∷ stack) fit = fit.0

module _ (laws : AccessLaws) (s : RowScope) (headers : Headers) (own : Header) (pool : Constants) (grown : AreGrownHeaders s.headers headers)
    (own_grown : IsGrownHeader s.own own)
    (keeps : (index : ℕ) (r : Reference) → reference_of s.pool (constant_at s.pool index) ≡ Some r → reference_of pool (constant_at pool index) ≡ Some r)
    (f : Frame) (place : ℕ) where
  -- with the stack as deep as the row makes it
  abbrev over : Row → RowScope
  over row = record s { pool = pool; max_stack = depth (stack_behind f row) }

  abbrev new : Row → RowScope
  new row = record (over row) { headers = headers; own = own }

  no_deeper : (count : ℕ) → count ≤ count
  no_deeper count = omega arith

  among : (row : Row) (instr : Instr) → RowHolds (over row) f (row_of (over row) f place instr)
      → (row_of (new row) f place instr).access
  among row instr holds =
      (laws.rows (over row) (new row) f place (item_instr instr) true (record { headers = grown; own = own_grown; rest = refl }) holds).access

  module _ (other : RowScope) where
    abbrev last : RowScope
    last = record other { headers = headers; own = own; pool = pool }

    get_access : (index : ℕ) (found : Option Reference) → reference_of s.pool (constant_at s.pool index) ≡ found
        → RowFits s f (get_field_row s f found)
        → (row_of last f place (GetField index)).access
    get_access index None is fits = absurd (no_value s (topmost 1 f.stack) fits.operands)
    get_access index (Some r) is fits =
        subst (λ (found : Option Reference). (get_field_row last f found).access) (sym (keeps index r is))
        (subst (λ (found : Option Reference). (get_field_row (new (get_field_row s f (Some r))) f found).access) (keeps index r is)
        (among (get_field_row s f (Some r)) (GetField index)
        (subst (λ (found : Option Reference). RowHolds (over (get_field_row s f (Some r))) f (get_field_row (over (get_field_row s f (Some r))) f found))
        (sym (keeps index r is)) holds))) where
          holds : RowHolds (over (get_field_row s f (Some r))) f (get_field_row (over (get_field_row s f (Some r))) f (Some r))
          holds = record {
            operands = fits.operands;
            local = tt;
            depth_fits = no_deeper (depth (stack_behind f (get_field_row s f (Some r))));
            further = tt;
            access = fits.access;
          }

    put_access : (index : ℕ) (found : Option Reference) → reference_of s.pool (constant_at s.pool index) ≡ found
        → RowFits s f (put_field_row s f found)
        → (row_of last f place (PutField index)).access
    put_access index None is fits = absurd (no_value s (topmost 1 f.stack) fits.operands)
    put_access index (Some r) is fits =
        subst (λ (found : Option Reference). (put_field_row last f found).access) (sym (keeps index r is))
        (subst (λ (found : Option Reference). (put_field_row (new (put_field_row s f (Some r))) f found).access) (keeps index r is)
        (among (put_field_row s f (Some r)) (PutField index)
        (subst (λ (found : Option Reference). RowHolds (over (put_field_row s f (Some r))) f (put_field_row (over (put_field_row s f (Some r))) f found))
        (sym (keeps index r is)) holds))) where
          holds : RowHolds (over (put_field_row s f (Some r))) f (put_field_row (over (put_field_row s f (Some r))) f (Some r))
          holds = record {
            operands = fits.operands;
            local = tt;
            depth_fits = no_deeper (depth (stack_behind f (put_field_row s f (Some r))));
            further = fits.further;
            access = fits.access;
          }

    -- what a call asks among the classes before, it has by the tests of its opcode and its name
    call_same : (opcode : ℕ) (r : Reference) (t : RowScope)
        → (call_row (record t { headers = headers; own = own }) f opcode (Some r)).access
        → (call_row last f opcode (Some r)).access
    call_same opcode r t passes =
        by (opcode == INVOKESTATIC) (opcode == INVOKESPECIAL) (bytes_eq r.name init) refl refl refl where
          by : (static special initialises : Bool) → (opcode == INVOKESTATIC) ≡ static → (opcode == INVOKESPECIAL) ≡ special
              → bytes_eq r.name init ≡ initialises
              → (call_row last f opcode (Some r)).access
          by true special initialises first second third = static_gives last f opcode r first
          by false true true first second third =
              initialiser_gives last f opcode r first second third (initialiser_asks (record t { headers = headers; own = own }) f opcode r first second third passes)
          by false true false first second third = special_gives last f opcode r first second third
          by false false initialises first second third = instance_gives last f opcode r first second (instance_asks (record t { headers = headers; own = own }) f opcode r first second passes)

    call_access : (opcode index count : ℕ) (found : Option Reference) → reference_of s.pool (constant_at s.pool index) ≡ found
        → RowFits s f (call_row s f opcode found)
        → (row_of last f place (Invoke opcode index count)).access
    call_access opcode index count None is fits = absurd (no_value s (topmost 1 f.stack) fits.operands)
    call_access opcode index count (Some r) is fits =
        subst (λ (found : Option Reference). (call_row last f opcode found).access) (sym (keeps index r is))
        (call_same opcode r (new (call_row s f opcode (Some r)))
        (subst (λ (found : Option Reference). (call_row (new (call_row s f opcode (Some r))) f opcode found).access) (keeps index r is)
        (among (call_row s f opcode (Some r)) (Invoke opcode index count)
        (subst (λ (found : Option Reference). RowHolds (over (call_row s f opcode (Some r))) f (call_row (over (call_row s f opcode (Some r))) f opcode found))
        (sym (keeps index r is)) holds)))) where
          holds : RowHolds (over (call_row s f opcode (Some r))) f (call_row (over (call_row s f opcode (Some r))) f opcode (Some r))
          holds = record {
            operands = fits.operands;
            local = fits.local;
            depth_fits = no_deeper (depth (stack_behind f (call_row s f opcode (Some r))));
            further = fits.further;
            access = fits.access;
          }

    -- What an instruction asks of access it has among the grown classes.
    access_kept : (instr : Instr) → RowFits s f (row_of s f place instr) → (row_of last f place instr).access
    access_kept (GetField index) fits = get_access index (reference_of s.pool (constant_at s.pool index)) refl fits
    access_kept (PutField index) fits = put_access index (reference_of s.pool (constant_at s.pool index)) refl fits
    access_kept (Invoke opcode index count) fits = call_access opcode index count (reference_of s.pool (constant_at s.pool index)) refl fits
    access_kept instr fits = row_quiet last f place instr tt

-- ---- a method that is rewritten

plain_at : (items : List EmitItem) (number : ℕ) (item : EmitItem) → slice_get items number ≡ Some item
    → slice_get (plain_items items) number ≡ Some (plain_item item)
plain_at [] number item is = absurd (none-some item is)
plain_at (first ∷ items) zero item is = ap (λ (one : EmitItem). Some (plain_item one)) (same_Some first item is)
plain_at (first ∷ items) (suc number) item is = plain_at items number item is

module _ (laws : AccessLaws) (r : Rewriting) (files : List ClassFile) (w : IsFolderWritten r files) (verified : IsOfVerified r)
    (ready : IsReadyFolder r files w) (at : MethodAt) (v : Rewritten) (host now : Scope) (is : IsWrittenIn r files w at v host now) where
  abbrev own : Writing
  own = writing r v host v.one.form 0

  pair : IsPair r files w at.class host.class now.class
  pair = record { there = is.of_folder; now = is.class; is = is.written }

  framed : IsFramed v.one.flat v.one.form own.blocks (items_in own) (body_in own is.is.is.framed.state) v.frames
  framed =
      subst (λ (items : List IndexedItem). IsFramed v.one.flat v.one.form own.blocks items
      (body_of_items host v.one.flat v.code_pool 0 items is.is.is.framed.state) v.frames) is.is.is.coded.items
      (subst (λ (scope : Scope). IsFramed v.one.flat v.one.form own.blocks (plain_items v.items)
      (body_of_items scope v.one.flat v.code_pool 0 (plain_items v.items) is.is.is.framed.state) v.frames)
      (same_Some is.is.is.host host (sym is.is.is.is_host ∙ is.is_host))
      (subst (λ (body : Body). IsFramed v.one.flat v.one.form own.blocks (plain_items v.items) body v.frames) is.is.is.framed.body is.is.is.framed.framed))

  -- what the pool of its code refers to that of the class does
  begins : Begins v.code_pool now.class.pool
  begins =
      begins_through v.code_pool v.pool now.class.pool (rewritten_begins r at is.is.pool v is.is.is).1
      (pool_in_class r files w verified ready at.class host.class now.class pair at.method host.method is.of_method v is.is)

  referred : (index : ℕ) (reference : Reference) → reference_of v.code_pool (constant_at v.code_pool index) ≡ Some reference
      → reference_of now.class.pool (constant_at now.class.pool index) ≡ Some reference
  referred index reference refers =
      subst (λ (pool : Constants). reference_of pool (constant_at pool index) ≡ Some reference) (sym begins.is)
      (reference_more v.code_pool begins.more index reference refers)

  headers_grown : AreGrownHeaders host.headers now.headers
  headers_grown =
      subst (AreGrownHeaders host.headers) (sym is.headers)
      (subst (λ (old : Headers). AreGrownHeaders old (headers_of (with_folder r.classes files))) (sym (scope_is_at r.classes at host is.is_host).headers)
      ready.headers)

  own_grown : IsGrownHeader (header_of host.class) (header_of now.class)
  own_grown =
      laws.header host.class now.class (at_index IsClassFile r.classes.folder at.class host.class verified.tree.folder is.of_folder)
      (ready.grown at.class host.class now.class is.of_folder is.written)

  usable : IsUsableCode r.classes host v.one.flat
  usable =
      laws.usable r.classes r.typed at v.one.flat host verified.linked verified.types
      (rewritten r files w verified ready at v is.is host is.is_host).expanded is.is_host

  -- Each item may use the protected member that it names, in the class that is written.
  pub access_passes : (state : ℕ → Option Frame) → PassAccess (laid_of host v state) now
  access_passes state number item frame is_item is_frame =
      access_kept laws (scope_in own) now.headers (header_of now.class) now.class.pool headers_grown own_grown referred frame number
      (method_items (laid_of host v state) now) item.instr
      (laws.items own is.is.is.framed.state v.frames (setting r files w verified ready at v is.is host is.is_host v.one.form 0) framed usable number
      (plain_item item) frame
      (ap (λ (items : List IndexedItem). slice_get items number) (sym is.is.is.coded.items) ∙ plain_at v.items number item is_item) is_frame)
