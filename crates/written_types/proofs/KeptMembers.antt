-- Rows of instructions on fields, objects and results that are written as they are.
use Rattle.std.proofs.Common.{◌≡◌, ◌≢◌, ◌-◌, ℕ, suc, Bool, false, List, [], ◌∷◌, length, map, slice_get, Option, Some, None, refl, sym, ap, subst, ◌∙◌, inl, inr}
use Rattle.class_model.specs.Code.{verification_type}
use Rattle.class_model.specs.declared.descriptor.FieldType.{FieldType}
use Rattle.class_model.specs.declared.descriptor.FieldType.TheVariants as field_types
use Rattle.class_model.specs.declared.descriptor.Kind.{Kind}
use Rattle.class_model.specs.declared.frame.Frame.{Frame}
use Rattle.class_model.specs.declared.frame.VType.{VType}
use Rattle.class_model.specs.declared.frame.VType.TheVariants as types
use Rattle.class_tree.specs.Headers.{Headers, Name}
use Rattle.class_tree.specs.Names.{throwable}
use Rattle.flow_code.specs.ReadTypes.{read_frame}
use Rattle.member_link.specs.Assignability.{IsAssignable, from_null, of_names, to_same, to_top}
use Rattle.member_link.specs.References.{Reference}
use Rattle.member_link.specs.RowScope.{RowScope}
use Rattle.member_link.specs.Rows.MemberRows.{MayPut, PassesField, PassesPut, get_field_row, get_static_row, put_field_row, put_static_row, return_row}
use Rattle.member_link.specs.Rows.Operands.{AllFit, Fits, Need, assignable_or_this, assignable_to, initialised, lowest_of, of_kind, topmost}
use Rattle.member_link.specs.Rows.Row.{Row}
use Rattle.member_link.specs.Rows.Table.{cast_row, throw_row}
use Rattle.member_link.specs.Signatures.{field_type}
use Rattle.plan_flow.specs.PlanRows.{PlanRow, from_field, from_place, plain_value, put_field}
use Rattle.plan_flow.specs.PlanSlots.{changed, field_of_slot, held, put_in}
use Rattle.plan_flow.specs.PlanTable.{cast_row as plan_cast, get_field_row as plan_get, held_locals, moving, operand, put_field_row as plan_put, throwing, value_stored}
use Rattle.virtual_state.specs.States.{State}
use Rattle.virtual_state.specs.declared.slot.Slot.{Slot}
use Rattle.virtual_state.specs.declared.slot.Slot.TheVariants.{Plain}
use Rattle.written_types.proofs.AgreeLists.{AgreeAt}
use Rattle.written_types.proofs.BlockEnds.{topmost_none}
use Rattle.written_types.proofs.KeptRows.{Goes, agree_one, cut_of, gives_none, gives_one, kept, lowest_agrees}
use Rattle.written_types.proofs.NeedsKept.{fits_agreeing}
use Rattle.written_types.proofs.OperandRows.{Fit, no_operand}
use Rattle.written_types.proofs.PlainOperands.{IsNone}
use Rattle.written_types.proofs.SiteFields.{SitesKnown}
use Rattle.written_types.proofs.Standing.{all_at, all_dropped}
use Rattle.written_types.proofs.StandingFrames.{Stands, held_plain, operands_fit}
use Rattle.written_types.proofs.WrittenTypes.{IsSteady, by_item, entry_types, item_top}
use Rattle.written_types.specs.FitsTypes.{HasItsNew}
use Rattle.written_types.specs.Inner.CarriedFrames.{AgreeIn}
use Rattle.written_types.specs.Writing.{Writing, scope_in}

-- ---- types

pub type_steady : (type : FieldType) → IsSteady (verification_type type)
type_steady field_types.Byte = tt
type_steady field_types.Char = tt
type_steady field_types.Short = tt
type_steady field_types.Bool = tt
type_steady field_types.Int = tt
type_steady field_types.Long = tt
type_steady field_types.Float = tt
type_steady field_types.Double = tt
type_steady (field_types.Named name) = tt

pub top_to_object : {headers : Headers} (name : Name) → IsAssignable headers types.Top (types.Object name) → ⊥
top_to_object {headers} name is = by is refl refl where
  by : {from to : VType} → IsAssignable headers from to → from ≡ types.Top → to ≡ types.Object name → ⊥
  by (to_same type) one other = let e = sym one ∙ other in absurd cc
  by (to_top type) one other = absurd cc
  by (from_null named) one other = absurd cc
  by (of_names low high names) one other = absurd cc

may_put : (sc : RowScope) (r : Reference) (type : VType) → type ≢ types.UninitThis → MayPut sc r type
may_put sc r (types.Uninit at) other = tt
may_put sc r types.Top other = tt
may_put sc r types.Int other = tt
may_put sc r types.Float other = tt
may_put sc r types.Long other = tt
may_put sc r types.Double other = tt
may_put sc r types.Null other = tt
may_put sc r types.UninitThis other = absurd (other refl)
may_put sc r (types.Object name) other = tt

pub item_no_this : (w : Writing) (reached : ℕ → Bool) (type : VType) → HasItsNew w.s reached type → by_item w type ≢ types.UninitThis
item_no_this w reached (types.Uninit at) new is = absurd cc
item_no_this w reached types.Top new is = absurd cc
item_no_this w reached types.Int new is = absurd cc
item_no_this w reached types.Float new is = absurd cc
item_no_this w reached types.Long new is = absurd cc
item_no_this w reached types.Double new is = absurd cc
item_no_this w reached types.Null new is = absurd cc
item_no_this w reached types.UninitThis new is = absurd new
item_no_this w reached (types.Object name) new is = absurd cc

-- ---- rows

module _ (w : Writing) (reached : ℕ → Bool) (f : Frame) (before : State) (rest : List VType) (g : Frame) (st : Stands w reached f before rest g)
    (known : SitesKnown w.s) (sc : RowScope) (same : (scope_in w).headers ≡ sc.headers) where
  abbrev rf : Frame
  rf = read_frame w.s.flat f

  abbrev Follow : PlanRow → Row → Row → Type 0
  Follow p row written = Goes w reached f before rest g st known sc same p row written

  abbrev pub Keeps : Option Reference → Option Reference → Type 0
  Keeps one other = (r : Reference) → one ≡ Some r → other ≡ Some r

  no_needs : AllFit sc [] (topmost 0 rf.stack)
  no_needs = subst (AllFit sc []) (sym (topmost_none rf.stack)) tt

  none_agree : AgreeIn (topmost 0 g.stack) (map (by_item w) (topmost 0 rf.stack))
  none_agree =
      subst (λ (types : List VType). AgreeIn types (map (by_item w) (topmost 0 rf.stack))) (sym (topmost_none g.stack))
      (subst (λ (types : List VType). AgreeIn [] (map (by_item w) types)) (sym (topmost_none rf.stack)) tt)

  -- ---- fields

  pub get_static_kept : (one other : Option Reference) → Keeps one other → Fit sc rf (get_static_row rf one)
      → Follow (moving f 0 (plain_value ∷ [])) (get_static_row rf one) (get_static_row g other)
  get_static_kept None other keeps fit = absurd (no_operand sc rf fit)
  get_static_kept (Some r) other keeps fit =
      rw (keeps r refl)
      (gives_one w reached f before rest g st known sc same _ [] 0 (field_type r.desc) refl refl refl refl (type_steady _) tt tt no_needs)

  pub put_static_kept : (one other : Option Reference) → Keeps one other → IsNone before (operand f 0) → Fit sc rf (put_static_row rf one)
      → Follow (record (throwing f 1 []) { asks = value_stored f }) (put_static_row rf one) (put_static_row g other)
  put_static_kept None other keeps none fit = absurd (no_operand sc rf fit)
  put_static_kept (Some r) other keeps none fit =
      rw (keeps r refl)
      (gives_none w reached f before rest g st known sc same _ (assignable_to (field_type r.desc) ∷ []) 1 refl refl refl refl (type_steady _, tt)
      (inr none, tt) fit)

  field_plain : (field : Reference) → IsNone before (operand f 0) → field_of_slot w.s before (held before (operand f 0)) field ≡ Plain
  field_plain field none = rw (held_plain before (operand f 0) none) refl

  pub get_field_kept : (one other found : Option Reference) → Keeps one other → IsNone before (operand f 0) → Fit sc rf (get_field_row sc rf one)
      → Follow (plan_get w.s f found) (get_field_row sc rf one) (get_field_row (scope_in w) g other)
  get_field_kept None other found keeps none fit = absurd (no_operand sc rf fit)
  get_field_kept (Some r) other None keeps none fit =
      rw (keeps r refl)
      (kept w reached f before rest g st known sc same (plan_get w.s f None) (assignable_to (types.Object r.class) ∷ []) 1 (plain_value ∷ [])
      (field_type r.desc ∷ []) (field_type r.desc ∷ []) (Unit {0}) (PassesField sc r (lowest_of 1 rf.stack)) (Unit {0})
      (PassesField (scope_in w) r (lowest_of 1 g.stack)) refl refl refl refl (tt, tt) (inr none, tt) fit
      (λ c. agree_one w reached f before rest g st known sc same (field_type r.desc) (type_steady _)) (λ c. tt))
  get_field_kept (Some r) other (Some field) keeps none fit =
      rw (keeps r refl)
      (kept w reached f before rest g st known sc same (plan_get w.s f (Some field)) (assignable_to (types.Object r.class) ∷ []) 1
      (from_field (operand f 0) field ∷ []) (field_type r.desc ∷ []) (field_type r.desc ∷ []) (Unit {0})
      (PassesField sc r (lowest_of 1 rf.stack)) (Unit {0}) (PassesField (scope_in w) r (lowest_of 1 g.stack)) refl refl refl refl (tt, tt) (inr none, tt)
      fit
      (λ c. subst (λ (slot : Slot). AgreeIn (field_type r.desc ∷ []) (entry_types w (field_type r.desc ∷ []) (slot ∷ []))) (sym (field_plain field none))
      (agree_one w reached f before rest g st known sc same (field_type r.desc) (type_steady _))) (λ c. tt))

  -- the object that is written into is no uninitialised this
  lowest_new : (need : Need) (needs : List Need) → AllFit sc (need ∷ needs) (topmost (suc (length needs)) rf.stack)
      → Fits sc need (lowest_of (suc (length needs)) rf.stack) × HasItsNew w.s reached (lowest_of (suc (length needs)) rf.stack)
  lowest_new need needs fit = by (topmost (suc (length needs)) rf.stack) refl fit where
    by : (entries : List VType) → topmost (suc (length needs)) rf.stack ≡ entries → AllFit sc (need ∷ needs) entries
        → Fits sc need (lowest_of (suc (length needs)) rf.stack) × HasItsNew w.s reached (lowest_of (suc (length needs)) rf.stack)
    by [] are fits = absurd fits
    by (type ∷ entries) are fits =
        let lowest : lowest_of (suc (length needs)) rf.stack ≡ type = rw are refl in
        let new : HasItsNew w.s reached type =
        all_at (HasItsNew w.s reached) (topmost (suc (length needs)) rf.stack) 0 type
        (all_dropped (HasItsNew w.s reached) (length rf.stack - suc (length needs)) rf.stack st.standing.stack)
        (ap (λ (l : List VType). slice_get l 0) are) in
        (subst (Fits sc need) (sym lowest) fits.0, subst (HasItsNew w.s reached) (sym lowest) new)

  pub put_field_kept : (one other found : Option Reference) → Keeps one other → IsNone before (operand f 0) → IsNone before (operand f 1)
      → Fit sc rf (put_field_row sc rf one)
      → Follow (plan_put w.s f found) (put_field_row sc rf one) (put_field_row (scope_in w) g other)
  put_field_kept None other found keeps value object fit = absurd (no_operand sc rf fit)
  put_field_kept (Some r) other found keeps value object fit = rw (keeps r refl) (by found) where
    lowest : Fits sc (assignable_or_this (types.Object r.class)) (lowest_of 2 rf.stack) × HasItsNew w.s reached (lowest_of 2 rf.stack)
    lowest = lowest_new (assignable_or_this (types.Object r.class)) (assignable_to (field_type r.desc) ∷ []) fit

    no_top : Fits sc (assignable_or_this (types.Object r.class)) types.Top → ⊥
    no_top (inl is) = top_to_object r.class is
    no_top (inr is) = absurd cc

    puts : AgreeAt (lowest_of 2 g.stack) (by_item w (lowest_of 2 rf.stack)) → MayPut (scope_in w) r (lowest_of 2 g.stack)
    puts (inl top) = absurd (no_top (subst (Fits sc (assignable_or_this (types.Object r.class))) (item_top w (lowest_of 2 rf.stack) top) lowest.0))
    puts (inr is) = may_put (scope_in w) r (lowest_of 2 g.stack) (λ this. item_no_this w reached (lowest_of 2 rf.stack) lowest.1 (sym is ∙ this))

    row : (p : PlanRow) → changed w.s before p.change ≡ [] → p.locals ≡ held_locals f → p.stack ≡ (moving f 2 []).stack
        → Follow p (put_field_row sc rf (Some r)) (put_field_row (scope_in w) g (Some r))
    row p still locals_are is =
        kept w reached f before rest g st known sc same p (assignable_or_this (types.Object r.class) ∷ assignable_to (field_type r.desc) ∷ []) 2 [] [] []
        (MayPut sc r (lowest_of 2 rf.stack)) (PassesPut sc r (lowest_of 2 rf.stack)) (MayPut (scope_in w) r (lowest_of 2 g.stack))
        (PassesPut (scope_in w) r (lowest_of 2 g.stack)) refl still locals_are is (tt, (type_steady _, tt)) (inr object, (inr value, tt)) fit
        (λ c. tt) (λ c. puts (lowest_agrees w reached f before rest g st known sc same 2 c.top))

    by : (field : Option Reference) → Follow (plan_put w.s f field) (put_field_row sc rf (Some r)) (put_field_row (scope_in w) g (Some r))
    by None = row (plan_put w.s f None) refl refl refl
    by (Some field) = row (plan_put w.s f (Some field)) put_nothing refl refl where
      put_nothing : changed w.s before (put_field (operand f 1) field (operand f 0)) ≡ []
      put_nothing = ap (λ (slot : Slot). put_in w.s before slot field (held before (operand f 0))) (held_plain before (operand f 1) object)

  -- ---- objects

  pub cast_kept : (one other : Option Name) → ((name : Name) → one ≡ Some name → other ≡ Some name) → IsNone before (operand f 0)
      → Fit sc rf (cast_row rf one)
      → Follow (plan_cast f one) (cast_row rf one) (cast_row g other)
  cast_kept None other keeps none fit = absurd (no_operand sc rf fit)
  cast_kept (Some name) other keeps none fit =
      rw (keeps name refl)
      (kept w reached f before rest g st known sc same (plan_cast f (Some name)) (initialised ∷ []) 1 (from_place (operand f 0) ∷ [])
      (types.Object name ∷ []) (types.Object name ∷ []) (Unit {0}) (Unit {0}) (Unit {0}) (Unit {0}) refl refl refl refl (tt, tt) (inr none, tt) fit
      (λ c. subst (λ (slot : Slot). AgreeIn (types.Object name ∷ []) (entry_types w (types.Object name ∷ []) (slot ∷ [])))
      (sym (held_plain before (operand f 0) none)) (inr refl, tt)) (λ c. tt))

  -- ---- ends

  pub throw_kept : (p : PlanRow) → changed w.s before p.change ≡ [] → IsNone before (operand f 0) → Fit sc rf (throw_row rf)
      → Follow p (throw_row rf) (throw_row g)
  throw_kept p still none fit =
      let c = cut_of w reached f before rest g st known sc same (assignable_to (types.Object throwable) ∷ []) (inr none, tt) fit in
      record {
        fits = record {
          operands = operands_fit w reached f before rest g st sc same (assignable_to (types.Object throwable) ∷ []) (tt, tt) fit c;
          local = tt;
          further = tt;
          access = tt;
        };
        operands = c.top;
        goes = refl;
        unchanged = still;
        follows = λ goes. absurd cc;
      }

  value_assignable : (type : FieldType) → AgreeAt (lowest_of 1 g.stack) (by_item w (lowest_of 1 rf.stack))
      → IsAssignable sc.headers (lowest_of 1 rf.stack) (verification_type type)
      → IsAssignable (scope_in w).headers (lowest_of 1 g.stack) (verification_type type)
  value_assignable type agrees is =
      subst (λ (headers : Headers). IsAssignable headers (lowest_of 1 g.stack) (verification_type type)) (sym same)
      (fits_agreeing w sc (assignable_to (verification_type type)) (lowest_of 1 rf.stack) (lowest_of 1 g.stack) (type_steady type) is agrees)

  pub return_kept : (p : PlanRow) → changed w.s before p.change ≡ [] → (scope_in w).result ≡ sc.result → (scope_in w).is_init ≡ false
      → (kind : Option Kind)
      → ((one : Kind) → kind ≡ Some one → IsNone before (operand f 0))
      → Fit sc rf (return_row sc rf kind)
      → (return_row sc rf kind).further
      → Follow p (return_row sc rf kind) (return_row (scope_in w) g kind)
  return_kept p still result no_init None none fit may = record {
    fits = record {
      operands = subst (AllFit (scope_in w) []) (sym (topmost_none g.stack)) tt;
      local = tt;
      further = record { no_result = result ∙ may.no_result; initialised = λ is. absurd (cc (sym no_init ∙ is)) };
      access = tt;
    };
    operands = none_agree;
    goes = refl;
    unchanged = still;
    follows = λ goes. absurd cc;
  }
  return_kept p still result no_init (Some kind) none fit may =
      let c = cut_of w reached f before rest g st known sc same (of_kind kind ∷ []) (inr (none kind refl), tt) fit in
      record {
        fits = record {
          operands = operands_fit w reached f before rest g st sc same (of_kind kind ∷ []) (tt, tt) fit c;
          local = tt;
          further = record {
            type = may.type;
            is_result = result ∙ may.is_result;
            same_kind = may.same_kind;
            assignable = λ is. value_assignable may.type (lowest_agrees w reached f before rest g st known sc same 1 c.top) (may.assignable is);
          };
          access = tt;
        };
        operands = c.top;
        goes = refl;
        unchanged = still;
        follows = λ goes. absurd cc;
      }
