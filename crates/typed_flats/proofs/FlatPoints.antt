-- The points of flat code that its typed points type, as points that their frames fit.
use Rattle.std.proofs.Common.{◌≡◌, ◌==◌, ◌&&◌, ◌+◌, ◌-◌, ℕ, zero, suc, Bool, true, false, List, [], ◌∷◌, drop, length, map, Option, Some, None, option_map, IfSome, is_some, refl, sym, ap, subst, ◌∙◌, arith, if◌then◌else◌, inl}
use Rattle.std.specs.List.{AllByRecursion}
use Rattle.std.proofs.lemmas.Bool.{and_parts}
use Rattle.std.proofs.lemmas.List.{length-map}
use Rattle.std.proofs.lemmas.Option.{slice_get-map, slice_get_within}
use Rattle.class_model.specs.Laws.Lists.{AllByRecursion-weaker, at_index}
use Rattle.class_model.specs.Descriptors.{parameters_of}
use Rattle.class_model.specs.Header.{method_member}
use Rattle.class_model.specs.Pool.{Constants, constant_at}
use Rattle.class_model.specs.PoolChecks.{class_at}
use Rattle.class_model.specs.declared.frame.Frame.{Frame}
use Rattle.class_model.specs.declared.frame.VType.{VType}
use Rattle.class_model.specs.declared.frame.VType.TheVariants as types
use Rattle.class_model.specs.declared.instr.Instr.{Instr}
use Rattle.class_model.specs.declared.instr.Instr.TheVariants as instrs
use Rattle.class_model.specs.declared.opcodes.TheConstants.{INVOKESPECIAL}
use Rattle.class_tree.specs.Headers.{Name, Classes, class_named, headers_of}
use Rattle.flow_code.specs.FlatCode.{FlatCode, point_at}
use Rattle.flow_code.specs.ReadTypes.{class_of_site, is_site_object, read_frame, read_type}
use Rattle.flow_code.specs.declared.handlers.FlatHandler.{FlatHandler}
use Rattle.flow_code.specs.declared.point.FlatInstr.{FlatInstr}
use Rattle.flow_code.specs.declared.point.FlatInstr.TheVariants.{NullTest, Of}
use Rattle.flow_code.specs.declared.point.Point.{Point as FlatPoint}
use Rattle.member_link.specs.Bodies.{catch_frame, item_falls_through, item_targets}
use Rattle.member_link.specs.BodyTyping.{MayGoTo, RowHolds}
use Rattle.member_link.specs.Machine.CallSteps.{is_object_init}
use Rattle.member_link.specs.Machine.Classes.{program_of}
use Rattle.member_link.specs.Machine.Codes.{call_op, instr_op, item_op, number_at, or_meaningless, renumbered, run_point, special_start}
use Rattle.member_link.specs.Machine.Ops.{Op, return_nothing}
use Rattle.member_link.specs.Machine.Programs.{Links, Program}
use Rattle.member_link.specs.References.{Reference}
use Rattle.member_link.specs.RowScope.{RowScope}
use Rattle.member_link.specs.Rows.MemberRows.{receiver}
use Rattle.member_link.specs.Rows.Operands.{IsInitialised, lowest_of, topmost}
use Rattle.member_link.specs.Rows.Readings.{reads_itself, reads_pop}
use Rattle.member_link.specs.Rows.Row.{row_frame}
use Rattle.member_link.specs.Scope.{Scope}
use Rattle.member_link.specs.Signatures.{reference_of}
use Rattle.same_runs.specs.FlatBodies.{caught_class}
use Rattle.same_runs.specs.Flats.{class_of_flat_new, flat_catch, flat_item, flat_point, flat_points, host_scope, instr_scope, pool_of}
use Rattle.same_runs.specs.ReadyCode.{IsReadyCode, IsReadyItem}
use Rattle.same_runs.specs.Laws.FlatRuns.{number_stays}
use Rattle.same_runs.specs.TypedFlats.{MayGoToPoint, TypesPoint, read_row, reading_of, reading_of_call, reading_of_new}
use Rattle.typed_flats.proofs.MovedClasses.{if_weaker}
use Rattle.typed_flats.specs.FlatTypings.{SitesAreNews, flat_typing}
use Rattle.typed_runs.specs.LinkedInstrs.{HoldsAsItIs, IsLinkedAt, LinksInstrs, new_named}
use Rattle.typed_runs.specs.TypedPoints.{IsLinkedOp, LeadsTo, LeadsToHandler, MayBeRead, TypedPoint, Typing, caught_name}

same_number : (a b : ℕ) → (a == b) ≡ true → a ≡ b
same_number a b is = search arith

-- ---- numbers of points stay

module _ (classes : Classes) (s : Scope) (flat : FlatCode) where
  -- ---- where control goes

  abbrev pub t : Typing
  t = flat_typing classes s flat

  goes_to : (number : ℕ) (frame : Frame) (found : Option FlatPoint) → point_at flat number ≡ found
      → MayGoTo (host_scope classes s flat) (Some frame) (option_map (λ (point : FlatPoint). read_frame flat point.typed) found)
      → LeadsTo (flat_typing classes s flat) number frame × (number_at (flat_points classes s flat) number ≡ number)
  goes_to number frame None e goes = absurd goes
  goes_to number frame (Some point) e goes = (
    record {
      to = read_frame flat point.typed;
      is_frame =
          slice_get-map (λ (p : FlatPoint). read_frame flat p.typed) flat.points number
          ∙ ap (option_map (λ (p : FlatPoint). read_frame flat p.typed)) e;
      assignable = goes;
    },
    number_stays classes s flat number (let there = slice_get_within flat.points number point e in omega (arith, there)),
  )

  pub goes_leads : (number : ℕ) (frame : Frame) → MayGoToPoint classes s flat (Some frame) number
      → LeadsTo (flat_typing classes s flat) number frame
  goes_leads number frame goes = (goes_to number frame (point_at flat number) refl goes).0

  numbered_leads : (number : ℕ) (frame : Frame) → MayGoToPoint classes s flat (Some frame) number
      → LeadsTo (flat_typing classes s flat) (number_at (flat_points classes s flat) number) frame
  numbered_leads number frame goes =
      let both = goes_to number frame (point_at flat number) refl goes in
      subst (λ (n : ℕ). LeadsTo (flat_typing classes s flat) n frame) (sym both.1) both.0

  target_leads : (frame : Option Frame) (number : ℕ) → MayGoToPoint classes s flat frame number
      → IfSome frame (LeadsTo (flat_typing classes s flat) (number_at (flat_points classes s flat) number))
  target_leads None number goes = tt
  target_leads (Some frame) number goes = numbered_leads number frame goes

  catch_is : (class : Option Name) → caught_class class ≡ Some (caught_name class)
  catch_is None = refl
  catch_is (Some class) = refl

  handlers_lead : (frame : Frame) (handlers : List FlatHandler)
      → AllByRecursion (λ (handler : FlatHandler). MayGoToPoint classes s flat (Some (catch_frame frame (caught_class handler.catch_class))) handler.to) handlers
      → AllByRecursion (LeadsToHandler (flat_typing classes s flat) frame)
      (map (renumbered (number_at (flat_points classes s flat))) (map flat_catch handlers))
  handlers_lead frame [] all = tt
  handlers_lead frame (handler ∷ handlers) all = (
    subst (λ (class : Option Name). LeadsTo (flat_typing classes s flat) (number_at (flat_points classes s flat) handler.to) (catch_frame frame class))
        (catch_is handler.catch_class) (numbered_leads handler.to (catch_frame frame (caught_class handler.catch_class)) all.0),
    handlers_lead frame handlers all.1,
  )

  -- ---- the class of a new

  abbrev pub new_of : FlatInstr → Option Name
  new_of (Of class instr) = new_named (pool_of classes class) instr
  new_of (NullTest local) = None

  pub new_at : (number : ℕ) (point : FlatPoint) → point_at flat number ≡ Some point → class_of_flat_new classes flat number ≡ new_of point.instr
  new_at number point there = by point.instr refl where
    by : (instr : FlatInstr) → point.instr ≡ instr → class_of_flat_new classes flat number ≡ new_of instr
    by (Of class instr) e = of_instr instr e where
      of_instr : (instr : Instr) → point.instr ≡ Of class instr → class_of_flat_new classes flat number ≡ new_named (pool_of classes class) instr
      of_instr (instrs.New index) e = rw there (rw e refl)
      of_instr instr e = rw there (rw e refl)
    by (NullTest local) e = rw there (rw e refl)

  -- ---- how it is read

  drop_map : (f : VType → VType) (n : ℕ) (xs : List VType) → drop n (map f xs) ≡ map f (drop n xs)
  drop_map f zero xs = refl
  drop_map f (suc n) [] = refl
  drop_map f (suc n) (x ∷ xs) = drop_map f n xs

  topmost_read : (count : ℕ) (stack : List VType) → topmost count (map (read_type flat) stack) ≡ map (read_type flat) (topmost count stack)
  topmost_read count stack =
      ap (λ (n : ℕ). drop (n - count) (map (read_type flat) stack)) (length-map stack (read_type flat))
      ∙ drop_map (read_type flat) (length stack - count) stack

  lowest_read : (count : ℕ) (stack : List VType) → lowest_of count (map (read_type flat) stack) ≡ read_type flat (lowest_of count stack)
  lowest_read count stack = by (topmost count stack) refl where
    by : (top : List VType) → topmost count stack ≡ top → lowest_of count (map (read_type flat) stack) ≡ read_type flat (lowest_of count stack)
    by [] e = rw (topmost_read count stack, e) refl
    by (first ∷ top) e = rw (topmost_read count stack, e) refl

  site_initialised : (type : VType) → is_site_object flat type ≡ true → IsInitialised (read_type flat type)
  site_initialised (types.Uninit at) is = by (class_of_site flat.sites at) refl where
    by : (found : Option Name) → class_of_site flat.sites at ≡ found → IsInitialised (read_type flat (types.Uninit at))
    by None e = let no : false ≡ true = sym (ap is_some e) ∙ is in cc
    by (Some class) e = rw e tt
  site_initialised type is = cc

  module _ (links : Links) (numbered : ℕ → ℕ) (sites : SitesAreNews classes flat) (number : ℕ) (point : FlatPoint)
      (there : point_at flat number ≡ Some point) where
    call_read : (class opcode : ℕ) (found : Option Reference)
        → MayBeRead (reading_of_call flat point.typed opcode found) (read_frame flat point.typed)
        (or_meaningless (option_map (call_op links (record (host_scope classes s flat) { pool = pool_of classes class }) opcode) found))
    call_read class opcode None = tt
    call_read class opcode (Some named) =
        by (opcode == INVOKESPECIAL && is_object_init named && is_site_object flat (receiver point.typed named.desc)) refl where
          scope : RowScope
          scope = record (host_scope classes s flat) { pool = pool_of classes class }

          by : (b : Bool) → (opcode == INVOKESPECIAL && is_object_init named && is_site_object flat (receiver point.typed named.desc)) ≡ b
              → MayBeRead (if b then reads_pop named.desc else reads_itself) (read_frame flat point.typed) (call_op links scope opcode named)
          by false e = tt
          by true e =
              let outer = and_parts (opcode == INVOKESPECIAL && is_object_init named) (is_site_object flat (receiver point.typed named.desc)) e in
              let inner = and_parts (opcode == INVOKESPECIAL) (is_object_init named) outer.0 in
              let special : opcode ≡ INVOKESPECIAL = same_number opcode INVOKESPECIAL inner.0 in
              record {
                reference = named;
                from = special_start links scope named.class;
                calls = ap (λ (o : ℕ). call_op links scope o named) special;
                of_object = inner.1;
                same_desc = refl;
                initialised =
                    subst IsInitialised (sym (lowest_read (length (parameters_of named.desc) + 1) point.typed.stack))
                    (site_initialised (receiver point.typed named.desc) outer.1);
              }

    new_read : (class index : ℕ) → point.instr ≡ Of class (instrs.New index) → (found : Option Name) → class_of_site flat.sites number ≡ found
        → MayBeRead (reading_of_new found) (read_frame flat point.typed) (instr_op links numbered (instr_scope classes s flat (Of class (instrs.New index))) (instrs.New index))
    new_read class index is None e = tt
    new_read class index is (Some name) e =
        let named : class_at (pool_of classes class) index ≡ Some name = sym (ap new_of is) ∙ sym (new_at number point there) ∙ sites number name e in
        rw named refl

    pub read_may : (instr : FlatInstr) → point.instr ≡ instr
        → MayBeRead (reading_of classes flat number point.typed instr) (read_frame flat point.typed)
        (item_op links numbered (instr_scope classes s flat instr) (flat_item instr))
    read_may (Of class (instrs.New index)) is = new_read class index is (class_of_site flat.sites number) refl
    read_may (Of class (instrs.Invoke opcode index count)) is =
        call_read class opcode (reference_of (pool_of classes class) (constant_at (pool_of classes class) index))
    read_may (Of class instr) is = tt
    read_may (NullTest local) is = tt

  -- ---- what linking says

  -- where a pool stands doesn't matter
  host_linked : (P : Program) (class place : ℕ) (op : Op) → IsLinkedOp P (record (host_scope classes s flat) { pool = pool_of classes class }) place op
      → IsLinkedOp P (host_scope classes s flat) place op
  host_linked P class place return_nothing is = is
  host_linked P class place op is = is

  as_it_is : (class number : ℕ) (frame : Frame) (instr : Instr)
      → RowHolds (instr_scope classes s flat (Of class instr)) (read_frame flat frame)
      (read_row classes s flat number (record { instr = Of class instr; typed = frame; handlers = [] }))
      → HoldsAsItIs (instr_scope classes s flat (Of class instr)) (read_frame flat frame) number instr
  as_it_is class number frame (instrs.New index) holds = tt
  as_it_is class number frame (instrs.Invoke opcode index count) holds = tt
  as_it_is class number frame instr holds = holds

  -- ---- a point

  module _ (links : Links) (instrs_linked : LinksInstrs (program_of classes links) classes)
      (own : class_named (headers_of classes) (host_scope classes s flat).own.name ≡ Some (host_scope classes s flat).own)
      (sites : SitesAreNews classes flat) (ready : IsReadyCode classes s flat) where
    is_linked : (number : ℕ) (point : FlatPoint) → point_at flat number ≡ Some point → (instr : FlatInstr) → point.instr ≡ instr
        → IsReadyItem classes flat.locals instr
        → RowHolds (instr_scope classes s flat instr) (read_frame flat point.typed)
        (read_row classes s flat number (record { instr = instr; typed = point.typed; handlers = [] }))
        → IsLinkedAt (program_of classes links) (instr_scope classes s flat instr) number
        (item_op links (number_at (flat_points classes s flat)) (instr_scope classes s flat instr) (flat_item instr))
    is_linked number point there (NullTest local) is item holds = record { linked = tt; call = tt }
    is_linked number point there (Of class instr) is item holds =
        let pool : pool_of classes class ≡ item.file.pool = rw item.there refl in
        instrs_linked.links class flat.locals number item.file (method_member s.class.pool s.method) instr
        (instr_scope classes s flat (Of class instr)) (read_frame flat point.typed) (number_at (flat_points classes s flat))
        item.there item.operand item.form (item.linked (method_member s.class.pool s.method)) pool own
        (new_at number point there ∙ ap new_of is ∙ ap (λ (p : Constants). new_named p instr) pool)
        (as_it_is class number point.typed instr holds)

    -- where a pool stands doesn't matter
    in_host : (number : ℕ) (instr : FlatInstr) (op : Op) → IsLinkedOp (program_of classes links) (instr_scope classes s flat instr) number op
        → IsLinkedOp (program_of classes links) (host_scope classes s flat) number op
    in_host number (NullTest local) op is = is
    in_host number (Of class instr) op is = host_linked (program_of classes links) class number op is

    pub flat_point_typed : (number : ℕ) (point : FlatPoint) → point_at flat number ≡ Some point
        → TypedPoint (program_of classes links) (flat_typing classes s flat) number
        (run_point links (number_at (flat_points classes s flat)) (flat_point classes s flat number point))
    flat_point_typed number point there =
        let types : TypesPoint classes s flat number point = ready.typed.points number point there in
        let item : IsReadyItem classes flat.locals point.instr =
        at_index (λ (p : FlatPoint). IsReadyItem classes flat.locals p.instr) flat.points number point ready.points there in
        let linked = is_linked number point there point.instr refl item types.row in
        record {
          frame = read_frame flat point.typed;
          is_frame =
              slice_get-map (λ (p : FlatPoint). read_frame flat p.typed) flat.points number
              ∙ ap (option_map (λ (p : FlatPoint). read_frame flat p.typed)) there;
          scope = instr_scope classes s flat point.instr;
          place = number;
          item = flat_item point.instr;
          numbered = number_at (flat_points classes s flat);
          is_op = refl;
          reads = record { headers = same_headers point.instr; news = same_news point.instr; own = inl (same_own point.instr) };
          reading = reading_of classes flat number point.typed point.instr;
          read = read_may links (number_at (flat_points classes s flat)) sites number point there point.instr refl;
          row = types.row;
          linked = in_host number point.instr _ linked.linked;
          call = linked.call;
          next =
              if_weaker (if item_falls_through (flat_item point.instr) then row_frame (read_frame flat point.typed) (read_row classes s flat number point) else None)
              (goes_leads (number + 1)) types.next;
          targets =
              AllByRecursion-weaker (MayGoToPoint classes s flat (row_frame (read_frame flat point.typed) (read_row classes s flat number point)))
              (λ target. IfSome (row_frame (read_frame flat point.typed) (read_row classes s flat number point))
              (LeadsTo (flat_typing classes s flat) (number_at (flat_points classes s flat) target)))
              (target_leads (row_frame (read_frame flat point.typed) (read_row classes s flat number point)))
              (item_targets (flat_item point.instr)) types.targets;
          handlers = handlers_lead (read_frame flat point.typed) point.handlers types.handlers;
        } where
          same_headers : (instr : FlatInstr) → (instr_scope classes s flat instr).headers ≡ (host_scope classes s flat).headers
          same_headers (Of class instr) = refl
          same_headers (NullTest local) = refl

          same_news : (instr : FlatInstr) (at : ℕ) → (instr_scope classes s flat instr).new_class at ≡ (host_scope classes s flat).new_class at
          same_news (Of class instr) at = refl
          same_news (NullTest local) at = refl

          same_own : (instr : FlatInstr) → (instr_scope classes s flat instr).own.name ≡ (host_scope classes s flat).own.name
          same_own (Of class instr) = refl
          same_own (NullTest local) = refl
