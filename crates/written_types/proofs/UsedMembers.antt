-- An instruction that is written as it is may use the member that it names, as seen from the host: an instruction of the host's where its receiver
-- passes by its type, and one of a callee's since what it names is open.
use Rattle.std.proofs.Common.{◌≡◌, ◌+◌, ◌-◌, ℕ, suc, Bool, true, false, List, [], ◌∷◌, bytes_eq, drop, length, map, slice_get, Option, Some, None, refl, sym, ap, subst, ◌∙◌, inl, inr, arith, is_some}
use Rattle.std.specs.Prelude.{◌==◌}
use Rattle.std.proofs.lemmas.List.{drop-map, length-map}
use Rattle.std.proofs.lemmas.Option.{none-some, same_Some}
use Rattle.std.proofs.lemmas.Slice.Eq.{bytes_eq-Decides}
use Rattle.class_model.specs.Code.{verification_type}
use Rattle.class_model.specs.Descriptors.{parameters_of}
use Rattle.class_model.specs.Header.{header_of}
use Rattle.class_model.specs.Names.{init}
use Rattle.class_model.specs.Pool.{Constants, constant_at}
use Rattle.class_model.specs.declared.class_file.ClassFile.{ClassFile}
use Rattle.class_model.specs.declared.frame.Frame.{Frame}
use Rattle.class_model.specs.declared.frame.VType.{VType}
use Rattle.class_model.specs.declared.frame.VType.TheVariants as types
use Rattle.class_model.specs.declared.instr.Instr.{Instr}
use Rattle.class_model.specs.declared.instr.Instr.TheVariants.{GetField, Invoke, PutField}
use Rattle.class_model.specs.declared.opcodes.TheConstants.{INVOKESPECIAL, INVOKESTATIC}
use Rattle.class_tree.specs.Headers.{Headers, IsThere, headers_of}
use Rattle.class_tree.specs.Hierarchy.{IsHierarchy}
use Rattle.class_tree.specs.declared.place.Place.TheVariants.{Folder}
use Rattle.expanded_code.specs.Callees.{IsOpenFieldReference, IsOpenMethodReference}
use Rattle.expanded_runs.specs.UsableNames.{IsOfCallee, IsUsable, of_callee, of_host}
use Rattle.flow_code.specs.ReadTypes.{read_frame, read_type}
use Rattle.flow_code.specs.declared.point.FlatInstr.TheVariants.{Of}
use Rattle.flow_code.specs.declared.point.Point.{Point}
use Rattle.member_link.specs.Fields.{FindsField}
use Rattle.member_link.specs.Methods.{FindsMethod}
use Rattle.member_link.specs.References.{Reference}
use Rattle.member_link.specs.RowScope.{RowScope}
use Rattle.member_link.specs.Rows.MemberRows.{PassesField, PassesInitialiser, PassesMethod, PassesPut, argument_needs, call_row, get_field_row, put_field_row, receiver}
use Rattle.member_link.specs.Rows.Operands.{AllFit, Fits, Need, assignable_or_this, assignable_to, lowest_of, topmost, uninitialised}
use Rattle.member_link.specs.Rows.Readings.{reads_itself, row_by}
use Rattle.member_link.specs.Rows.Row.{Row, access_aside}
use Rattle.member_link.specs.Rows.Table.{row_of}
use Rattle.member_link.specs.Scope.{row_scope}
use Rattle.member_link.specs.Signatures.{field_type, reference_of}
use Rattle.plan_flow.specs.PlanScope.{member_of}
use Rattle.plan_flow.specs.Written.Routes.{Route}
use Rattle.plan_flow.specs.Written.Templates.{init_template, template}
use Rattle.plan_flow.specs.Written.WrittenConstants.{with_index}
use Rattle.same_runs.specs.Flats.{pool_of as flat_pool}
use Rattle.same_runs.specs.TypedFlats.{reading_of, reading_of_call}
use Rattle.virtual_state.specs.States.{State}
use Rattle.written_types.proofs.AgreeLists.{AgreeAt}
use Rattle.written_types.proofs.Given.{Given}
use Rattle.written_types.proofs.KeptCalls.{flat_scope}
use Rattle.written_types.proofs.KeptInvokes.{reads_as_it_is}
use Rattle.written_types.proofs.KeptMembers.{top_to_object}
use Rattle.written_types.proofs.KeptRows.{lowest_agrees}
use Rattle.written_types.proofs.KeptTable.{Meant}
use Rattle.written_types.proofs.OperandRows.{Fit, no_operand}
use Rattle.written_types.proofs.PassingMembers.{initialiser_written, open_field, open_initialiser, open_method, open_put, passes_written, put_written}
use Rattle.written_types.proofs.RowTable.{same_pool}
use Rattle.written_types.proofs.SiteFields.{SitesKnown}
use Rattle.written_types.proofs.StandingFrames.{Stands}
use Rattle.written_types.proofs.Starts.{scope_headers}
use Rattle.written_types.proofs.WrittenPool.{PoolLaws, host_class, own_pool}
use Rattle.written_types.proofs.WrittenTypes.{by_item, item_top}
use Rattle.written_types.specs.Inner.CarriedFrames.{AgreeIn}
use Rattle.written_types.specs.Laws.QuietRows.{initialiser_asks, initialiser_gives, instance_asks, instance_gives, row_quiet, special_gives, static_gives}
use Rattle.written_types.specs.Writing.{Writing, scope_in}

-- ---- the lowest operand

mapped_at : {A B : Type 0} (change : A → B) (items : List A) (number : ℕ) (item : A) → slice_get items number ≡ Some item
    → slice_get (map change items) number ≡ Some (change item)
mapped_at change [] number item is = absurd (none-some item is)
mapped_at change (first ∷ items) ℕ.zero item is = ap (λ (x : _). Some (change x)) (same_Some first item is)
mapped_at change (first ∷ items) (suc number) item is = mapped_at change items number item is

lowest_read : (w : Writing) (count : ℕ) (stack : List VType)
    → lowest_of count (map (read_type w.s.flat) stack) ≡ read_type w.s.flat (lowest_of count stack)
lowest_read w count stack = by (topmost count stack) refl where
  top_is : topmost count (map (read_type w.s.flat) stack) ≡ map (read_type w.s.flat) (topmost count stack)
  top_is =
      ap (λ (long : ℕ). drop (long - count) (map (read_type w.s.flat) stack)) (length-map stack (read_type w.s.flat))
      ∙ drop-map (read_type w.s.flat) (length stack - count) stack

  by : (ones : List VType) → topmost count stack ≡ ones
      → lowest_of count (map (read_type w.s.flat) stack) ≡ read_type w.s.flat (lowest_of count stack)
  by [] is = rw (top_is, is) refl
  by (one ∷ ones) is = rw (top_is, is) refl

lowest_fits : (sc : RowScope) (need : Need) (needs : List Need) (stack : List VType) → AllFit sc (need ∷ needs) (topmost (suc (length needs)) stack)
    → Fits sc need (lowest_of (suc (length needs)) stack)
lowest_fits sc need needs stack fit = by (topmost (suc (length needs)) stack) refl fit where
  by : (entries : List VType) → topmost (suc (length needs)) stack ≡ entries → AllFit sc (need ∷ needs) entries
      → Fits sc need (lowest_of (suc (length needs)) stack)
  by [] are fits = absurd fits
  by (type ∷ entries) are fits = rw are (fits.0)

-- ---- the host

module _ (w : Writing) (given : Given w) (laws : PoolLaws) where
  host_headers : w.host.headers ≡ headers_of w.s.classes
  host_headers = scope_headers w.s.classes w.s.flat.host w.host given.setting.ready.host

  host_hierarchy : IsHierarchy w.host.headers
  host_hierarchy = subst IsHierarchy (sym host_headers) given.hierarchy

  host_there : IsThere w.host.headers (header_of w.host.class).name
  host_there =
      subst (λ (headers : Headers). IsThere headers (header_of w.host.class).name) (sym host_headers)
      (ap is_some (given.hierarchy.of_place (Folder w.s.flat.host.class) (header_of w.host.class)
      (mapped_at header_of w.s.classes.folder w.s.flat.host.class w.host.class (host_class w given laws))).found)

  -- what an instruction of the host's own refers to
  host_reference : (class index : ℕ) (r : Reference) → class ≡ w.s.flat.host.class
      → reference_of (flat_pool w.s.classes class) (constant_at (flat_pool w.s.classes class) index) ≡ Some r
      → reference_of w.host.class.pool (constant_at w.host.class.pool index) ≡ Some r
  host_reference class index r own is =
      subst (λ (pool : Constants). reference_of pool (constant_at pool index) ≡ Some r)
      (ap (flat_pool w.s.classes) own ∙ sym (same_pool w.s w.s.flat.host.class) ∙ own_pool w given laws) is

  -- and one of a callee's
  callee_reference : (class index : ℕ) (r : Reference) (file : ClassFile) → slice_get w.s.classes.folder class ≡ Some file
      → reference_of (flat_pool w.s.classes class) (constant_at (flat_pool w.s.classes class) index) ≡ Some r
      → reference_of file.pool (constant_at file.pool index) ≡ Some r
  callee_reference class index r file there is = rw there at is

  field_open : (r : Reference) (headers : Headers) → headers ≡ headers_of w.s.classes → IsOpenFieldReference headers (header_of w.host.class).name r
      → IsOpenFieldReference w.host.headers (header_of w.host.class).name r
  field_open r headers same is_open =
      subst (λ (h : Headers). IsOpenFieldReference h (header_of w.host.class).name r) (same ∙ sym host_headers) is_open

  method_open : (r : Reference) (headers : Headers) → headers ≡ headers_of w.s.classes → IsOpenMethodReference headers (header_of w.host.class).name r
      → IsOpenMethodReference w.host.headers (header_of w.host.class).name r
  method_open r headers same is_open =
      subst (λ (h : Headers). IsOpenMethodReference h (header_of w.host.class).name r) (same ∙ sym host_headers) is_open

-- ---- an instruction

module _ (w : Writing) (given : Given w) (laws : PoolLaws) (reached : ℕ → Bool) (point : Point) (before : State) (rest : List VType) (g : Frame)
    (st : Stands w reached point.typed before rest g) (known : SitesKnown w.s) (at number : ℕ) (route : Route) (class new : ℕ) where
  abbrev f : Frame
  f = point.typed

  abbrev rf : Frame
  rf = read_frame w.s.flat f

  abbrev sc : RowScope
  sc = flat_scope w class

  abbrev own : RowScope
  own = row_scope w.host

  abbrev old : Constants
  old = flat_pool w.s.classes class

  abbrev flat_row : Instr → Row
  flat_row instr = row_by (reading_of w.s.classes w.s.flat at f (Of class instr)) rf (row_of sc rf at instr)

  abbrev Agree : Row → Type 0
  Agree row = AgreeIn (topmost (length row.takes) g.stack) (map (by_item w) (topmost (length row.takes) rf.stack))

  abbrev MayUse : Instr → Type 0
  MayUse instr = (row_of (scope_in w) g number (with_index new instr)).access

  abbrev Usable : Instr → Type 0
  Usable instr = IsUsable w.s.classes w.host w.s.flat point class instr

  abbrev type_of : ℕ → VType
  type_of count = lowest_of count f.stack

  -- the receiver as it is written
  receives : (count : ℕ) (need : Need) → (Fits sc need types.Top → ⊥) → Fits sc need (lowest_of count rf.stack)
      → AgreeIn (topmost count g.stack) (map (by_item w) (topmost count rf.stack))
      → lowest_of count g.stack ≡ by_item w (read_type w.s.flat (type_of count))
  receives count need refuses fits agree = by (lowest_agrees w reached f before rest g st known sc refl count agree) where
    by : AgreeAt (lowest_of count g.stack) (by_item w (lowest_of count rf.stack))
        → lowest_of count g.stack ≡ by_item w (read_type w.s.flat (type_of count))
    by (inl top) = absurd (refuses (subst (Fits sc need) (item_top w (lowest_of count rf.stack) top) fits))
    by (inr is) = is ∙ ap (by_item w) (lowest_read w count f.stack)

  -- ---- fields

  open_there : (index : ℕ) (r : Reference) (instr : Instr) → reference_of old (constant_at old index) ≡ Some r
      → (callee : IsOfCallee w.s.classes w.host class instr)
      → reference_of callee.scope.class.pool (constant_at callee.scope.class.pool index) ≡ Some r
  open_there index r instr is callee = callee_reference w given laws class index r callee.scope.class callee.file is

  get_passes : (index : ℕ) (r : Reference) → reference_of old (constant_at old index) ≡ Some r
      → lowest_of 1 g.stack ≡ by_item w (read_type w.s.flat (type_of 1))
      → Usable (GetField index)
      → PassesField (scope_in w) r (lowest_of 1 g.stack)
  get_passes index r is same (of_host usable) =
      subst (PassesField (scope_in w) r) (sym same)
      (passes_written (scope_in w) r w (FindsField (scope_in w).headers r.class r.name r.desc) (type_of 1)
      (subst (λ (found : Option Reference). (get_field_row own f found).access) (host_reference w given laws class index r usable.own is)
      (usable.access f 0 refl)))
  get_passes index r is same (of_callee usable) =
      open_field (scope_in w) (host_hierarchy w given laws) (host_there w given laws) r
      (field_open w given laws r usable.scope.headers usable.headers (usable.open_to r (open_there index r (GetField index) is usable)))
      (lowest_of 1 g.stack)

  put_passes : (index : ℕ) (r : Reference) → reference_of old (constant_at old index) ≡ Some r
      → lowest_of 2 g.stack ≡ by_item w (read_type w.s.flat (type_of 2))
      → Usable (PutField index)
      → PassesPut (scope_in w) r (lowest_of 2 g.stack)
  put_passes index r is same (of_host usable) =
      subst (PassesPut (scope_in w) r) (sym same)
      (put_written (scope_in w) r w (type_of 2)
      (subst (λ (found : Option Reference). (put_field_row own f found).access) (host_reference w given laws class index r usable.own is)
      (usable.access f 0 refl)))
  put_passes index r is same (of_callee usable) =
      open_put (scope_in w) (host_hierarchy w given laws) (host_there w given laws) r
      (field_open w given laws r usable.scope.headers usable.headers (usable.open_to r (open_there index r (PutField index) is usable)))
      (lowest_of 2 g.stack)

  -- ---- calls

  host_call : (opcode index count : ℕ) (r : Reference) → reference_of old (constant_at old index) ≡ Some r → class ≡ w.s.flat.host.class
      → (row_of own f 0 (Invoke opcode index count)).access
      → (call_row own f opcode (Some r)).access
  host_call opcode index count r is own_class passes =
      subst (λ (found : Option Reference). (call_row own f opcode found).access) (host_reference w given laws class index r own_class is) passes

  instance_passes : (opcode index count : ℕ) (r : Reference) → reference_of old (constant_at old index) ≡ Some r
      → (opcode == INVOKESTATIC) ≡ false
      → (opcode == INVOKESPECIAL) ≡ false
      → receiver g r.desc ≡ by_item w (read_type w.s.flat (receiver f r.desc))
      → Usable (Invoke opcode index count)
      → PassesMethod (scope_in w) r (receiver g r.desc)
  instance_passes opcode index count r is one two same (of_host usable) =
      subst (PassesMethod (scope_in w) r) (sym same)
      (passes_written (scope_in w) r w (FindsMethod (scope_in w).headers r.class r.name r.desc) (receiver f r.desc)
      (instance_asks own f opcode r one two (host_call opcode index count r is usable.own (usable.access f 0 refl))))
  instance_passes opcode index count r is one two same (of_callee usable) =
      open_method (scope_in w) (host_hierarchy w given laws) (host_there w given laws) r
      (method_open w given laws r usable.scope.headers usable.headers (usable.open_to r (open_there index r (Invoke opcode index count) is usable)))
      (receiver g r.desc)

  initialiser_passes : (opcode index count : ℕ) (r : Reference) → reference_of old (constant_at old index) ≡ Some r
      → (opcode == INVOKESTATIC) ≡ false
      → (opcode == INVOKESPECIAL) ≡ true
      → bytes_eq r.name init ≡ true
      → receiver g r.desc ≡ by_item w (read_type w.s.flat (receiver f r.desc))
      → Usable (Invoke opcode index count)
      → PassesInitialiser (scope_in w) r (receiver g r.desc)
  initialiser_passes opcode index count r is one two three same (of_host usable) =
      subst (PassesInitialiser (scope_in w) r) (sym same)
      (initialiser_written (scope_in w) r w (receiver f r.desc)
      (initialiser_asks own f opcode r one two three (host_call opcode index count r is usable.own (usable.access f 0 refl))))
  initialiser_passes opcode index count r is one two three same (of_callee usable) =
      open_initialiser (scope_in w) (host_hierarchy w given laws) (host_there w given laws) r
      (method_open w given laws r usable.scope.headers usable.headers (usable.open_to r (open_there index r (Invoke opcode index count) is usable)))
      ((bytes_eq-Decides r.name init).0 three) (receiver g r.desc)

  receiver_is : (desc : List ℕ) (need : Need) → (Fits sc need types.Top → ⊥)
      → AllFit sc (need ∷ argument_needs desc) (topmost (suc (length (argument_needs desc))) rf.stack)
      → AgreeIn (topmost (suc (length (argument_needs desc))) g.stack) (map (by_item w) (topmost (suc (length (argument_needs desc))) rf.stack))
      → receiver g desc ≡ by_item w (read_type w.s.flat (receiver f desc))
  receiver_is desc need refuses fit agree =
      subst (λ (count : ℕ). lowest_of count g.stack ≡ by_item w (read_type w.s.flat (type_of count)))
      (let many = length-map (parameters_of desc) (λ param. assignable_to (verification_type param)) in the_same (omega (arith, many)))
      (receives (suc (length (argument_needs desc))) need refuses (lowest_fits sc need (argument_needs desc) rf.stack fit) agree) where
        the_same : suc (length (argument_needs desc)) ≡ length (parameters_of desc) + 1 → suc (length (argument_needs desc)) ≡ length (parameters_of desc) + 1
        the_same e = e

  call_passes : (opcode index count : ℕ) (r : Reference) → reference_of old (constant_at old index) ≡ Some r
      → Agree (call_row sc rf opcode (Some r))
      → Fit sc rf (call_row sc rf opcode (Some r))
      → Usable (Invoke opcode index count)
      → (call_row (scope_in w) g opcode (Some r)).access
  call_passes opcode index count r is agree fit usable =
      by (opcode == INVOKESTATIC) (opcode == INVOKESPECIAL) (bytes_eq r.name init) refl refl refl where
        by : (static special initialises : Bool) → (opcode == INVOKESTATIC) ≡ static → (opcode == INVOKESPECIAL) ≡ special
            → bytes_eq r.name init ≡ initialises
            → (call_row (scope_in w) g opcode (Some r)).access
        by true special initialises one two three = static_gives (scope_in w) g opcode r one
        by false true true one two three =
            initialiser_gives (scope_in w) g opcode r one two three
            (initialiser_passes opcode index count r is one two three
            (receiver_is r.desc uninitialised (λ top. top) (rw (one, two, three) at fit) (rw (one, two, three) at agree)) usable)
        by false true false one two three = special_gives (scope_in w) g opcode r one two three
        by false false initialises one two three =
            instance_gives (scope_in w) g opcode r one two
            (instance_passes opcode index count r is one two
            (receiver_is r.desc (assignable_to (types.Object r.class)) (λ top. top_to_object r.class top) (rw (one, two) at fit) (rw (one, two) at agree)) usable)

  -- ---- the table

  pub instr_access : (instr : Instr) → template w.s at f before route class instr ≡ None → Meant old w.pool new instr
      → Agree (flat_row instr)
      → Fit sc rf (flat_row instr)
      → Usable instr
      → MayUse instr
  instr_access (GetField index) none meant agree fit usable = by (reference_of old (constant_at old index)) refl where
    by : (found : Option Reference) → reference_of old (constant_at old index) ≡ found → MayUse (GetField index)
    by None is = absurd (no_operand sc rf (rw is at fit))
    by (Some r) is =
        subst (λ (found : Option Reference). (get_field_row (scope_in w) g found).access) (sym (meant.member r is))
        (get_passes index r is (of_row (rw is at fit) (rw is at agree)) usable) where
          of_row : Fit sc rf (get_field_row sc rf (Some r)) → Agree (get_field_row sc rf (Some r))
              → lowest_of 1 g.stack ≡ by_item w (read_type w.s.flat (type_of 1))
          of_row fit agree =
              receives 1 (assignable_to (types.Object r.class)) (λ top. top_to_object r.class top)
              (lowest_fits sc (assignable_to (types.Object r.class)) [] rf.stack fit) agree
  instr_access (PutField index) none meant agree fit usable = by (reference_of old (constant_at old index)) refl where
    by : (found : Option Reference) → reference_of old (constant_at old index) ≡ found → MayUse (PutField index)
    by None is = absurd (no_operand sc rf (rw is at fit))
    by (Some r) is =
        subst (λ (found : Option Reference). (put_field_row (scope_in w) g found).access) (sym (meant.member r is))
        (put_passes index r is (of_row (rw is at fit) (rw is at agree)) usable) where
          no_top : Fits sc (assignable_or_this (types.Object r.class)) types.Top → ⊥
          no_top (inl top) = top_to_object r.class top
          no_top (inr this) = absurd cc

          of_row : Fit sc rf (put_field_row sc rf (Some r)) → Agree (put_field_row sc rf (Some r))
              → lowest_of 2 g.stack ≡ by_item w (read_type w.s.flat (type_of 2))
          of_row fit agree =
              receives 2 (assignable_or_this (types.Object r.class)) no_top
              (lowest_fits sc (assignable_or_this (types.Object r.class)) (assignable_to (field_type r.desc) ∷ []) rf.stack fit) agree
  instr_access (Invoke opcode index count) none meant agree fit usable = by (reference_of old (constant_at old index)) refl where
    by : (found : Option Reference) → reference_of old (constant_at old index) ≡ found → MayUse (Invoke opcode index count)
    by None is = absurd (no_operand sc rf (rw is at fit))
    by (Some r) is =
        subst (λ (found : Option Reference). (call_row (scope_in w) g opcode found).access) (sym (meant.member r is))
        (of_row (rw (is, reads) at agree) (rw (is, reads) at fit)) where
          named : member_of w.s class index ≡ Some r
          named = ap (λ (pool : Constants). reference_of pool (constant_at pool index)) (same_pool w.s class) ∙ is

          reads : reading_of_call w.s.flat f opcode (Some r) ≡ reads_itself
          reads =
              reads_as_it_is w reached f before rest g st known class opcode r
              (subst (λ (found : Option Reference). init_template w.s f before (opcode == INVOKESPECIAL) found ≡ None) named none)

          of_row : Agree (access_aside (call_row sc rf opcode (Some r))) → Fit sc rf (access_aside (call_row sc rf opcode (Some r)))
              → (call_row (scope_in w) g opcode (Some r)).access
          of_row agree fit = call_passes opcode index count r is agree fit usable
  instr_access instr none meant agree fit usable = row_quiet (scope_in w) g number (with_index new instr) tt
