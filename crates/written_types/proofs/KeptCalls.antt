-- Rows of calls and of news that are written as they are.
use Rattle.std.proofs.Common.{◌≡◌, ◌≢◌, ◌+◌, ◌-◌, ◌<◌, ℕ, suc, Bool, true, false, List, [], ◌∷◌, ◌++◌, length, map, slice_get, Option, Some, None, if◌then◌else◌, refl, sym, ap, subst, ◌∙◌, inl, inr, arith}
use Rattle.std.specs.Prelude.{◌==◌}
use Rattle.std.specs.List.{AllByRecursion}
use Rattle.std.proofs.lemmas.List.{length-map, map-append}
use Rattle.class_model.specs.Code.{verification_type}
use Rattle.class_model.specs.Descriptors.{parameters_of}
use Rattle.class_model.specs.declared.descriptor.FieldType.{FieldType}
use Rattle.class_model.specs.declared.frame.Frame.{Frame}
use Rattle.class_model.specs.declared.frame.VType.{VType}
use Rattle.class_model.specs.declared.frame.VType.TheVariants as types
use Rattle.flow_code.specs.ReadTypes.{read_frame}
use Rattle.member_link.specs.References.{Reference}
use Rattle.member_link.specs.RowScope.{RowScope}
use Rattle.member_link.specs.Rows.MemberRows.{IsSpecialTarget, MayInitialise, PassesMethod, argument_needs, init_row, initialised_type, instance_row, receiver, result_types, special_row, static_row}
use Rattle.member_link.specs.Rows.Assigning.{IsAssignableIn}
use Rattle.member_link.specs.Rows.Operands.{AllFit, Fits, Need, assignable_to, lowest_of, topmost, under, uninitialised}
use Rattle.member_link.specs.Rows.Row.{Row, conditional, plain}
use Rattle.member_link.specs.Rows.Table.{new_row, without_older}
use Rattle.member_link.specs.Signatures.{result_of}
use Rattle.plan_flow.specs.PlanRows.{PlanRow, Source, no_change, plain_value}
use Rattle.plan_flow.specs.PlanSlots.{changed, slots_from}
use Rattle.plan_flow.specs.PlanTable.{held_from, held_locals, moving, operand, result_given}
use Rattle.same_runs.specs.Flats.{host_scope, pool_of as flat_pool}
use Rattle.virtual_state.specs.States.{State}
use Rattle.virtual_state.specs.declared.slot.Slot.{Slot}
use Rattle.written_types.proofs.AgreeLists.{AgreeAt, agree_joined}
use Rattle.written_types.proofs.BlockEnds.{topmost_none}
use Rattle.written_types.proofs.ChangedTypes.{Alike, HasOwnNew, IsOwnNew, NewsStand, all_own, entries_changed, initialised_alike, new_item, older_alike, own_changed}
use Rattle.written_types.proofs.KeptMembers.{type_steady}
use Rattle.written_types.proofs.KeptRows.{Goes, cut_of, kept, lowest_agrees}
use Rattle.written_types.proofs.NeedsKept.{AreSteady, fits_agreeing}
use Rattle.written_types.proofs.OperandRows.{Fit}
use Rattle.written_types.proofs.OwnUnits.{have_long}
use Rattle.written_types.proofs.PlainOperands.{IsNone, Sure, sure_none}
use Rattle.written_types.proofs.SiteFields.{SitesKnown}
use Rattle.written_types.proofs.Standing.{all_at, all_dropped, all_taken, kept_locals, under_have}
use Rattle.written_types.proofs.StandingFrames.{Cut, Follows, Stands, cut, held_same, moved, operands_fit}
use Rattle.written_types.proofs.WrittenTypes.{by_item, entry_types, item_top, own_types, steady_item, written_joined}
use Rattle.written_types.specs.Inner.CarriedFrames.{AgreeIn}
use Rattle.written_types.specs.Writing.{Writing, scope_in}

-- what the rows of a class's instructions read in the flat code
abbrev pub flat_scope : Writing → ℕ → RowScope
flat_scope w class = record (host_scope w.s.classes w.host w.s.flat) { pool = flat_pool w.s.classes class }

needs_long : (desc : List ℕ) → length (argument_needs desc) ≡ length (parameters_of desc)
needs_long desc = length-map (parameters_of desc) (λ param. assignable_to (verification_type param))

arguments_steady : (all : List FieldType) → AreSteady (map (λ param. assignable_to (verification_type param)) all)
arguments_steady [] = tt
arguments_steady (type ∷ all) = (type_steady type, arguments_steady all)

module _ (w : Writing) (reached : ℕ → Bool) (f : Frame) (before : State) (rest : List VType) (g : Frame) (st : Stands w reached f before rest g)
    (known : SitesKnown w.s) (class : ℕ) where
  abbrev rf : Frame
  rf = read_frame w.s.flat f

  abbrev sc : RowScope
  sc = flat_scope w class

  abbrev Follow : PlanRow → Row → Row → Type 0
  Follow p row written = Goes w reached f before rest g st known sc refl p row written

  -- a row of a call in a plan: so many operands, and its result
  pub record Calls (p : PlanRow) (count : ℕ) (desc : List ℕ) : Type 0 where
    pub still : p.change ≡ no_change
    pub locals_are : p.locals ≡ held_locals f
    pub stack_is : p.stack ≡ held_from (length f.locals) (length f.stack - count) ++ result_given (result_of desc)

  given_result : (result : Option FieldType) → AgreeIn (result_types result) (entry_types w (result_types result) (slots_from w.s before no_change (result_given result)))
  given_result None = tt
  given_result (Some type) = (inr (sym (steady_item w (verification_type type) (type_steady type))), tt)

  called : (p : PlanRow) (needs : List Need) (count : ℕ) (desc : List ℕ) (Further Access Wanted Passes : Type 0) → Calls p count desc
      → length needs ≡ count
      → AreSteady needs
      → Sure f before needs
      → AllFit sc needs (topmost (length needs) rf.stack)
      → (Cut w f before g (length needs) → Wanted)
      → Follow p (conditional rf needs (result_types (result_of desc)) Further Access) (conditional g needs (result_types (result_of desc)) Wanted Passes)
  called p needs count desc Further Access Wanted Passes calls many steady sure fit wanted =
      kept w reached f before rest g st known sc refl p needs count (result_given (result_of desc)) (result_types (result_of desc))
      (result_types (result_of desc)) Further Access Wanted Passes many (ap (changed w.s before) calls.still) calls.locals_are calls.stack_is steady sure fit
      (λ c. subst (λ (slots : List Slot). AgreeIn (result_types (result_of desc)) (entry_types w (result_types (result_of desc)) slots))
      (ap (λ (does : _). slots_from w.s before does (result_given (result_of desc))) (sym calls.still)) (given_result (result_of desc))) wanted

  pub static_kept : (p : PlanRow) (r : Reference) → Calls p (length (parameters_of r.desc)) r.desc
      → ((k : ℕ) → k < length (parameters_of r.desc) → IsNone before (operand f k))
      → Fit sc rf (static_row rf r)
      → Follow p (static_row rf r) (static_row g r)
  static_kept p r calls none fit =
      called p (argument_needs r.desc) (length (parameters_of r.desc)) r.desc (Unit {0}) (Unit {0}) (Unit {0}) (Unit {0}) calls (needs_long r.desc)
      (arguments_steady (parameters_of r.desc))
      (sure_none f before (argument_needs r.desc) (λ k less. none k (let many = needs_long r.desc in omega (arith, less, many)))) fit (λ c. tt)

  pub dynamic_called : (p : PlanRow) (desc : List ℕ) → Calls p (length (parameters_of desc)) desc
      → ((k : ℕ) → k < length (parameters_of desc) → IsNone before (operand f k))
      → AllFit sc (argument_needs desc) (topmost (length (argument_needs desc)) rf.stack)
      → Follow p (plain rf (argument_needs desc) (result_types (result_of desc))) (plain g (argument_needs desc) (result_types (result_of desc)))
  dynamic_called p desc calls none fit =
      called p (argument_needs desc) (length (parameters_of desc)) desc (Unit {0}) (Unit {0}) (Unit {0}) (Unit {0}) calls (needs_long desc)
      (arguments_steady (parameters_of desc))
      (sure_none f before (argument_needs desc) (λ k less. none k (let many = needs_long desc in omega (arith, less, many)))) fit (λ c. tt)

  receiver_agrees : (r : Reference)
      → AgreeAt (lowest_of (suc (length (argument_needs r.desc))) g.stack) (by_item w (lowest_of (suc (length (argument_needs r.desc))) rf.stack))
      → AgreeAt (receiver g r.desc) (by_item w (receiver rf r.desc))
  receiver_agrees r agrees =
      let many = needs_long r.desc in
      let count : suc (length (argument_needs r.desc)) ≡ length (parameters_of r.desc) + 1 = omega (arith, many) in
      subst (λ (n : ℕ). AgreeAt (lowest_of n g.stack) (by_item w (lowest_of n rf.stack))) count agrees

  -- on an object of a class
  object_kept : (p : PlanRow) (r : Reference) (Further Access Wanted Passes : Type 0) → Calls p (suc (length (parameters_of r.desc))) r.desc
      → ((k : ℕ) → k < suc (length (parameters_of r.desc)) → IsNone before (operand f k))
      → Fit sc rf (instance_row rf r Further Access)
      → (AgreeAt (receiver g r.desc) (by_item w (receiver rf r.desc)) → Wanted)
      → Follow p (instance_row rf r Further Access) (instance_row g r Wanted Passes)
  object_kept p r Further Access Wanted Passes calls none fit wanted =
      called p (assignable_to (types.Object r.class) ∷ argument_needs r.desc) (suc (length (parameters_of r.desc))) r.desc Further Access Wanted Passes calls
      (ap suc (needs_long r.desc)) (tt, arguments_steady (parameters_of r.desc))
      (sure_none f before (assignable_to (types.Object r.class) ∷ argument_needs r.desc)
      (λ k less. none k (let many = needs_long r.desc in omega (arith, less, many)))) fit
      (λ c. wanted (receiver_agrees r (lowest_agrees w reached f before rest g st known sc refl (suc (length (argument_needs r.desc))) c.top)))

  pub instance_kept : (p : PlanRow) (r : Reference) → Calls p (suc (length (parameters_of r.desc))) r.desc
      → ((k : ℕ) → k < suc (length (parameters_of r.desc)) → IsNone before (operand f k))
      → Fit sc rf (instance_row rf r (Unit {0}) (PassesMethod sc r (receiver rf r.desc)))
      → Follow p (instance_row rf r (Unit {0}) (PassesMethod sc r (receiver rf r.desc)))
      (instance_row g r (Unit {0}) (PassesMethod (scope_in w) r (receiver g r.desc)))
  instance_kept p r calls none fit =
      object_kept p r (Unit {0}) (PassesMethod sc r (receiver rf r.desc)) (Unit {0}) (PassesMethod (scope_in w) r (receiver g r.desc)) calls none fit
      (λ agrees. tt)

  pub special_kept : (p : PlanRow) (r : Reference) → Calls p (suc (length (parameters_of r.desc))) r.desc
      → ((k : ℕ) → k < suc (length (parameters_of r.desc)) → IsNone before (operand f k))
      → Fit sc rf (special_row sc rf r)
      → (special_row sc rf r).further
      → Follow p (special_row sc rf r) (special_row (scope_in w) g r)
  special_kept p r calls none fit further =
      object_kept p r (IsSpecialTarget sc r.class × IsAssignableIn sc.headers sc.major (receiver rf r.desc) (types.Object sc.own.name)) (Unit {0})
      (IsSpecialTarget (scope_in w) r.class
      × IsAssignableIn (scope_in w).headers (scope_in w).major (receiver g r.desc) (types.Object (scope_in w).own.name)) (Unit {0}) calls none fit
      (λ agrees. (
        further.0,
        fits_agreeing w sc (assignable_to (types.Object sc.own.name)) (receiver rf r.desc) (receiver g r.desc) tt further.1 agrees,
      ))

  -- ---- types that change

  abbrev slots : List Slot
  slots = slots_from w.s before no_change (held_locals f)

  -- what is left where types of locals and of the entries under the operands are changed
  left_changed : (change written : VType → VType) → Alike w reached change written → (p : PlanRow) (count : ℕ) (sources : List Source) (gives given : List VType)
      → p.change ≡ no_change
      → p.locals ≡ held_locals f
      → p.stack ≡ held_from (length f.locals) (length f.stack - count) ++ sources
      → Cut w f before g count
      → AgreeIn given (entry_types w gives (slots_from w.s before no_change sources))
      → AllByRecursion (λ type. type ≢ types.UninitThis) (map written g.locals)
      → Follows w before rest p (record { locals = map change rf.locals; stack = map change (under count rf.stack) ++ gives })
      (record { locals = map written g.locals; stack = map written (under count g.stack) ++ given })
  left_changed change written alike p count sources gives given still locals_are is c agree no_this = record {
    locals =
        subst (λ (found : List Slot). AgreeIn (map written g.locals) (own_types w (map change rf.locals) found ++ rest))
        (held_same w before no_change p.change 0 (length f.locals) ∙ ap (slots_from w.s before p.change) (sym locals_are))
        (own_changed w reached change written alike g.locals rf.locals slots rest
        (have_long w.s rf.locals slots (kept_locals w.s reached f before st.standing no_change)) (all_own w.s reached f.locals st.standing.locals) st.steady
        st.locals);
    stack = subst (AgreeIn (map written (under count g.stack) ++ given)) (sym whole)
        (agree_joined (map written (under count g.stack)) _ given _
        (entries_changed w reached change written alike (under count g.stack) (under count rf.stack) lower_slots under_long under_own c.lower) agree);
    no_this = no_this;
  } where
    lower_slots : List Slot
    lower_slots = slots_from w.s before no_change (held_from (length f.locals) (length f.stack - count))

    under_long : length (under count rf.stack) ≡ length lower_slots
    under_long = have_long w.s (under count rf.stack) lower_slots (under_have w.s reached f before st.standing no_change count)

    under_own : AllByRecursion (HasOwnNew w.s reached) (under count rf.stack)
    under_own = all_taken (HasOwnNew w.s reached) (length rf.stack - count) rf.stack (all_own w.s reached f.stack st.standing.stack)

    slots_are : slots_from w.s before p.change p.stack ≡ lower_slots ++ slots_from w.s before no_change sources
    slots_are =
        ap (λ (does : _). slots_from w.s before does p.stack) still
        ∙ ap (slots_from w.s before no_change) is
        ∙ map-append _ (held_from (length f.locals) (length f.stack - count)) sources

    whole : entry_types w (map change (under count rf.stack) ++ gives) (slots_from w.s before p.change p.stack)
        ≡ entry_types w (map change (under count rf.stack)) lower_slots ++ entry_types w gives (slots_from w.s before no_change sources)
    whole =
        ap (entry_types w (map change (under count rf.stack) ++ gives)) slots_are
        ∙ written_joined w (map change (under count rf.stack)) gives lower_slots (slots_from w.s before no_change sources)
        (length-map (under count rf.stack) change ∙ under_long)

  no_this_mapped : (written : VType → VType) → ((type : VType) → type ≢ types.UninitThis → written type ≢ types.UninitThis) → (all : List VType)
      → AllByRecursion (λ type. type ≢ types.UninitThis) all
      → AllByRecursion (λ type. type ≢ types.UninitThis) (map written all)
  no_this_mapped written stays [] none = tt
  no_this_mapped written stays (type ∷ all) none = (stays type none.0, no_this_mapped written stays all none.1)

  -- ---- news

  older_no_this : (at : ℕ) (type : VType) → type ≢ types.UninitThis → without_older at type ≢ types.UninitThis
  older_no_this at (types.Uninit other) none = by (other == at) where
    by : (b : Bool) → (if b then types.Top else types.Uninit other) ≢ types.UninitThis
    by true = λ is. absurd cc
    by false = λ is. absurd cc
  older_no_this at types.Top none = none
  older_no_this at types.Int none = none
  older_no_this at types.Float none = none
  older_no_this at types.Long none = none
  older_no_this at types.Double none = none
  older_no_this at types.Null none = none
  older_no_this at types.UninitThis none = none
  older_no_this at (types.Object name) none = none

  pub new_kept : NewsStand w reached → (at number : ℕ) → IsOwnNew w.s reached at → new_item w at ≡ number
      → AllByRecursion (λ type. type ≢ types.Uninit number) g.stack
      → Follow (moving f 0 (plain_value ∷ [])) (new_row rf at) (new_row g number)
  new_kept news at number own here fresh = record {
    fits = record {
      operands = subst (AllFit (scope_in w) []) (sym (topmost_none g.stack)) tt;
      local = tt;
      further = fresh;
      access = tt;
    };
    operands = c.top;
    goes = refl;
    unchanged = refl;
    follows = λ goes.
        subst (λ (n : ℕ). Follows w before rest (moving f 0 (plain_value ∷ []))
        (record { locals = map (without_older at) rf.locals; stack = under 0 rf.stack ++ types.Uninit at ∷ [] })
        (record { locals = map (without_older n) g.locals; stack = under 0 g.stack ++ types.Uninit n ∷ [] })) here left;
  } where
    c : Cut w f before g 0
    c = cut w reached f before rest g st 0 (omega arith) (λ k less. absurd (omega (arith, less)))

    same : Follows w before rest (moving f 0 (plain_value ∷ [])) (record { locals = rf.locals; stack = under 0 rf.stack ++ types.Uninit at ∷ [] })
        (record { locals = g.locals; stack = under 0 g.stack ++ types.Uninit (new_item w at) ∷ [] })
    same =
        moved w reached f before rest g st (moving f 0 (plain_value ∷ [])) 0 (plain_value ∷ []) (types.Uninit at ∷ []) (types.Uninit (new_item w at) ∷ [])
        refl refl c (inr refl, tt)

    left : Follows w before rest (moving f 0 (plain_value ∷ []))
        (record { locals = map (without_older at) rf.locals; stack = under 0 rf.stack ++ types.Uninit at ∷ [] })
        (record { locals = map (without_older (new_item w at)) g.locals; stack = under 0 g.stack ++ types.Uninit (new_item w at) ∷ [] })
    left = record {
      locals =
          own_changed w reached (without_older at) (without_older (new_item w at)) (older_alike w reached news at own) g.locals rf.locals slots rest
          (have_long w.s rf.locals slots (kept_locals w.s reached f before st.standing no_change)) (all_own w.s reached f.locals st.standing.locals)
          st.steady st.locals;
      stack = same.stack;
      no_this = no_this_mapped (without_older (new_item w at)) (older_no_this (new_item w at)) g.locals st.no_this;
    }

  -- ---- initialisers

  initialised_no_this : (r : Reference) (at : ℕ) (type : VType) → type ≢ types.UninitThis
      → initialised_type (scope_in w) r (types.Uninit at) type ≢ types.UninitThis
  initialised_no_this r at (types.Uninit other) none = by (other == at) where
    by : (b : Bool) → (if b then types.Object r.class else types.Uninit other) ≢ types.UninitThis
    by true = λ is. absurd cc
    by false = λ is. absurd cc
  initialised_no_this r at types.Top none = none
  initialised_no_this r at types.Int none = none
  initialised_no_this r at types.Float none = none
  initialised_no_this r at types.Long none = none
  initialised_no_this r at types.Double none = none
  initialised_no_this r at types.Null none = none
  initialised_no_this r at types.UninitThis none = none
  initialised_no_this r at (types.Object name) none = none

  -- the object that is initialised, in the flat code and as it is written
  record Receives (r : Reference) : Type 0 where
    at : ℕ
    is : receiver rf r.desc ≡ types.Uninit at
    own : IsOwnNew w.s reached at
    written : receiver g r.desc ≡ types.Uninit (new_item w at)

  receives : (r : Reference) → Fit sc rf (init_row sc rf r) → AgreeAt (receiver g r.desc) (by_item w (receiver rf r.desc)) → Receives r
  receives r fit agrees = by (receiver rf r.desc) refl uninit.0 uninit.1 where
    many : suc (length (argument_needs r.desc)) ≡ length (parameters_of r.desc) + 1
    many = let long = needs_long r.desc in omega (arith, long)

    uninit : Fits sc uninitialised (receiver rf r.desc) × HasOwnNew w.s reached (receiver rf r.desc)
    uninit = first (topmost (suc (length (argument_needs r.desc))) rf.stack) refl fit where
      first : (entries : List VType) → topmost (suc (length (argument_needs r.desc))) rf.stack ≡ entries
          → AllFit sc (uninitialised ∷ argument_needs r.desc) entries
          → Fits sc uninitialised (receiver rf r.desc) × HasOwnNew w.s reached (receiver rf r.desc)
      first [] are fits = absurd fits
      first (type ∷ entries) are fits =
          let lowest : receiver rf r.desc ≡ type = ap (λ (n : ℕ). lowest_of n rf.stack) (sym many) ∙ rw are refl in
          let new : HasOwnNew w.s reached type =
          all_at (HasOwnNew w.s reached) (topmost (suc (length (argument_needs r.desc))) rf.stack) 0 type
          (all_dropped (HasOwnNew w.s reached) (length rf.stack - suc (length (argument_needs r.desc))) rf.stack
          (all_own w.s reached f.stack st.standing.stack))
          (ap (λ (l : List VType). slice_get l 0) are) in
          (subst (Fits sc uninitialised) (sym lowest) fits.0, subst (HasOwnNew w.s reached) (sym lowest) new)

    by : (type : VType) → receiver rf r.desc ≡ type → Fits sc uninitialised (receiver rf r.desc) → HasOwnNew w.s reached (receiver rf r.desc) → Receives r
    by (types.Uninit at) is fits new = record {
      at = at;
      is = is;
      own = subst (HasOwnNew w.s reached) is new;
      written = same agrees;
    } where
      same : AgreeAt (receiver g r.desc) (by_item w (receiver rf r.desc)) → receiver g r.desc ≡ types.Uninit (new_item w at)
      same (inl top) = let no : types.Uninit at ≡ types.Top = sym is ∙ item_top w (receiver rf r.desc) top in absurd cc
      same (inr equal) = equal ∙ ap (by_item w) is
    by types.UninitThis is fits new = absurd (subst (HasOwnNew w.s reached) is new)
    by types.Top is fits new = absurd (subst (Fits sc uninitialised) is fits)
    by types.Int is fits new = absurd (subst (Fits sc uninitialised) is fits)
    by types.Float is fits new = absurd (subst (Fits sc uninitialised) is fits)
    by types.Long is fits new = absurd (subst (Fits sc uninitialised) is fits)
    by types.Double is fits new = absurd (subst (Fits sc uninitialised) is fits)
    by types.Null is fits new = absurd (subst (Fits sc uninitialised) is fits)
    by (types.Object name) is fits new = absurd (subst (Fits sc uninitialised) is fits)

  pub init_kept : NewsStand w reached → (p : PlanRow) (r : Reference) → Calls p (suc (length (parameters_of r.desc))) r.desc
      → ((k : ℕ) → k < length (parameters_of r.desc) → IsNone before (operand f k))
      → Fit sc rf (init_row sc rf r)
      → (init_row sc rf r).further
      → Follow p (init_row sc rf r) (init_row (scope_in w) g r)
  init_kept news p r calls none fit further = record {
    fits = record {
      operands = operands_fit w reached f before rest g st sc refl needs (tt, arguments_steady (parameters_of r.desc)) fit c;
      local = tt;
      further = subst (MayInitialise (scope_in w) r) (sym object.written)
          (news.classes object.at r.class object.own (subst (MayInitialise sc r) object.is further));
      access = tt;
    };
    operands = c.top;
    goes = refl;
    unchanged = ap (changed w.s before) calls.still;
    follows = λ goes.
        subst (λ (type : VType). Follows w before rest p
        (record {
          locals = map (initialised_type sc r type) rf.locals;
          stack = map (initialised_type sc r type) (under (length needs) rf.stack) ++ result_types (result_of r.desc);
        })
        (record {
          locals = map (initialised_type (scope_in w) r (receiver g r.desc)) g.locals;
          stack = map (initialised_type (scope_in w) r (receiver g r.desc)) (under (length needs) g.stack) ++ result_types (result_of r.desc);
        })) (sym object.is)
        (subst (λ (type : VType). Follows w before rest p
        (record {
          locals = map (initialised_type sc r (types.Uninit object.at)) rf.locals;
          stack = map (initialised_type sc r (types.Uninit object.at)) (under (length needs) rf.stack) ++ result_types (result_of r.desc);
        })
        (record {
          locals = map (initialised_type (scope_in w) r type) g.locals;
          stack = map (initialised_type (scope_in w) r type) (under (length needs) g.stack) ++ result_types (result_of r.desc);
        })) (sym object.written) left);
  } where
    needs : List Need
    needs = uninitialised ∷ argument_needs r.desc

    c : Cut w f before g (length needs)
    c =
        cut_of w reached f before rest g st known sc refl needs
        (inl tt, sure_none f before (argument_needs r.desc) (λ k less. none k (let many = needs_long r.desc in omega (arith, less, many)))) fit

    object : Receives r
    object =
        receives r fit
        (receiver_agrees r (lowest_agrees w reached f before rest g st known sc refl (suc (length (argument_needs r.desc))) c.top))

    left : Follows w before rest p
        (record {
          locals = map (initialised_type sc r (types.Uninit object.at)) rf.locals;
          stack = map (initialised_type sc r (types.Uninit object.at)) (under (length needs) rf.stack) ++ result_types (result_of r.desc);
        })
        (record {
          locals = map (initialised_type (scope_in w) r (types.Uninit (new_item w object.at))) g.locals;
          stack = map (initialised_type (scope_in w) r (types.Uninit (new_item w object.at))) (under (length needs) g.stack) ++ result_types (result_of r.desc);
        })
    left =
        left_changed (initialised_type sc r (types.Uninit object.at)) (initialised_type (scope_in w) r (types.Uninit (new_item w object.at)))
        (initialised_alike w reached news sc (scope_in w) r object.at object.own) p (length needs) (result_given (result_of r.desc))
        (result_types (result_of r.desc)) (result_types (result_of r.desc)) calls.still calls.locals_are
        (calls.stack_is ∙ ap (λ (n : ℕ). held_from (length f.locals) (length f.stack - n) ++ result_given (result_of r.desc)) (ap suc (sym (needs_long r.desc))))
        c (given_result (result_of r.desc))
        (no_this_mapped (initialised_type (scope_in w) r (types.Uninit (new_item w object.at))) (initialised_no_this r (new_item w object.at)) g.locals
        st.no_this)
