-- What instructions on fields, calls, casts and monitors, and those that make objects, leave, with types.
use Rattle.std.proofs.Common.{◌≡◌, ℕ, zero, suc, Bool, true, false, List, [], ◌∷◌, ◌++◌, length, map, slice_get, Option, Some, None, option_and_then, option_map, if◌then◌else◌, IsTrue, refl, sym, ap, subst}
use Rattle.std.specs.Prelude.{◌==◌}
use Rattle.std.proofs.lemmas.Bool.{false≢true}
use Rattle.std.proofs.lemmas.Option.{none-some, same_Some}
use Rattle.class_model.specs.Frames.{is_wide}
use Rattle.class_model.specs.declared.frame.Frame.{Frame}
use Rattle.class_model.specs.declared.frame.VType.{VType}
use Rattle.class_model.specs.declared.frame.VType.TheVariants as types
use Rattle.class_tree.specs.Headers.{Headers, Name, headers_of}
use Rattle.flow_code.specs.ReadTypes.{class_of_site, read_frame}
use Rattle.flow_code.specs.declared.point.Site.{Site}
use Rattle.member_link.specs.Assignability.{IsAssignable, to_same}
use Rattle.member_link.specs.Machine.Programs.{number_of_first}
use Rattle.member_link.specs.References.{Reference}
use Rattle.member_link.specs.RowScope.{RowScope}
use Rattle.member_link.specs.Rows.MemberRows.{get_field_row, get_static_row, initialised_type, put_field_row, put_static_row}
use Rattle.member_link.specs.Rows.Operands.{AllFit, Need, assignable_or_this, assignable_to, topmost, under}
use Rattle.member_link.specs.Rows.Readings.{row_by}
use Rattle.member_link.specs.Rows.Row.{Row, plain}
use Rattle.member_link.specs.Rows.Table.{cast_row, new_row, without_older}
use Rattle.member_link.specs.Signatures.{field_type}
use Rattle.plan_flow.specs.Must.{AsksFor}
use Rattle.plan_flow.specs.PlanRows.{PlanRow, Position, enter_monitor, from_field, from_new, from_place, leave_monitor, no_change, object_not_below, plain_value}
use Rattle.plan_flow.specs.PlanScope.{PlanScope, is_site_below, site_at}
use Rattle.plan_flow.specs.PlanSlots.{field_of_slot, held}
use Rattle.plan_flow.specs.PlanTable.{cast_row as plan_cast, get_field_row as plan_get, held_locals, monitor_row, moving, new_row as plan_new, operand, positions, put_field_row as plan_put, throwing, value_stored}
use Rattle.same_runs.specs.TypedFlats.{reading_of_new}
use Rattle.virtual_state.specs.States.{State}
use Rattle.virtual_state.specs.declared.slot.Slot.TheVariants.{Virt}
use Rattle.written_types.proofs.FromClasses.{class_below}
use Rattle.written_types.proofs.OperandRows.{Fit, Leaves, gives_none, gives_plain, new_of_type, no_operand}
use Rattle.written_types.proofs.SiteFields.{SitesKnown, depth_have, field_has, linked_desc, new_have, put_have}
use Rattle.written_types.proofs.SlotTypes.{IsOpen, assigned_slot, changed_types, is_open_type, of_virtual, open_object, open_top}
use Rattle.written_types.proofs.Standing.{Left, Standing, all_mapped, kept_locals, left_by, moved, new_under, operand_has}
use Rattle.written_types.proofs.TwoUnits.{mapped_pairs}
use Rattle.written_types.specs.FitsTypes.{HasItsNew, HasType, IsOfType, IsReachedNew}

-- ---- sites by their points

-- the site of a point has the class by which its object is read
pub record IsSiteAt (sites : List Site) (at number : ℕ) : Type 0 where
  pub site : Site
  pub there : slice_get sites number ≡ Some site
  pub class : class_of_site sites at ≡ Some site.class

site_later : (first : Site) (sites : List Site) (at number : ℕ) → (first.at == at) ≡ false → IsSiteAt sites at number
    → IsSiteAt (first ∷ sites) at (suc number)
site_later first sites at number other is = record { site = is.site; there = is.there; class = rw other is.class }

pub site_of_point : (sites : List Site) (at number : ℕ) → number_of_first (λ site. site.at == at) sites ≡ Some number → IsSiteAt sites at number
site_of_point [] at number is = absurd (none-some number is)
site_of_point (first ∷ sites) at number is = by (first.at == at) refl is (λ n some. site_of_point sites at n some) where
  later : (first.at == at) ≡ false → (found : Option ℕ) → number_of_first (λ site. site.at == at) sites ≡ found
      → option_map suc found ≡ Some number
      → ((n : ℕ) → number_of_first (λ site. site.at == at) sites ≡ Some n → IsSiteAt sites at n)
      → IsSiteAt (first ∷ sites) at number
  later other None none is below = absurd (none-some number is)
  later other (Some n) some is below =
      subst (IsSiteAt (first ∷ sites) at) (same_Some (suc n) number is) (site_later first sites at n other (below n some))

  by : (b : Bool) → (first.at == at) ≡ b → (if b then Some zero else option_map suc (number_of_first (λ site. site.at == at) sites)) ≡ Some number
      → ((n : ℕ) → number_of_first (λ site. site.at == at) sites ≡ Some n → IsSiteAt sites at n)
      → IsSiteAt (first ∷ sites) at number
  by true here found below =
      subst (IsSiteAt (first ∷ sites) at) (same_Some zero number found) (record { site = first; there = refl; class = rw here refl })
  by false other found below = later other (number_of_first (λ site. site.at == at) sites) refl found below

pub no_site_of_point : (sites : List Site) (at : ℕ) → number_of_first (λ site. site.at == at) sites ≡ None → class_of_site sites at ≡ None
no_site_of_point [] at is = refl
no_site_of_point (first ∷ sites) at is = by (first.at == at) refl is (λ none. no_site_of_point sites at none) where
  later : (found : Option ℕ) → option_map suc found ≡ None → found ≡ None
  later None is = refl
  later (Some n) is = absurd (none-some (suc n) (sym is))

  by : (b : Bool) → (first.at == at) ≡ b → (if b then Some zero else option_map suc (number_of_first (λ site. site.at == at) sites)) ≡ None
      → (number_of_first (λ site. site.at == at) sites ≡ None → class_of_site sites at ≡ None)
      → class_of_site (first ∷ sites) at ≡ None
  by true here found below = absurd (none-some zero (sym found))
  by false other found below = rw other (below (later (number_of_first (λ site. site.at == at) sites) found))

-- ---- types that change

open_older : (s : PlanScope) (at : ℕ) (type : VType) → IsOpen s type → without_older at type ≡ type
open_older s at _ open_top = refl
open_older s at _ (open_object name) = refl

pub open_initialised : (s : PlanScope) (sc : RowScope) (r : Reference) (object type : VType) → IsOpen s type → initialised_type sc r object type ≡ type
open_initialised s sc r (types.Uninit at) _ open_top = refl
open_initialised s sc r (types.Uninit at) _ (open_object name) = refl
open_initialised s sc r types.UninitThis _ open_top = refl
open_initialised s sc r types.UninitThis _ (open_object name) = refl
open_initialised s sc r other type is = refl

module _ (s : PlanScope) (reached : ℕ → Bool) where
  older_new : (at : ℕ) (type : VType) → HasItsNew s reached type → HasItsNew s reached (without_older at type)
  older_new at (types.Uninit other) new = by (other == at) where
    by : (b : Bool) → HasItsNew s reached (if b then types.Top else types.Uninit other)
    by true = tt
    by false = new
  older_new at other new = new

  older_wide : (at : ℕ) (type : VType) → is_wide (without_older at type) ≡ is_wide type
  older_wide at (types.Uninit other) = by (other == at) where
    by : (b : Bool) → is_wide (if b then types.Top else types.Uninit other) ≡ false
    by true = refl
    by false = refl
  older_wide at other = refl

  module _ (sc : RowScope) (r : Reference) where
    pub initialised_new : (object type : VType) → HasItsNew s reached type → HasItsNew s reached (initialised_type sc r object type)
    initialised_new (types.Uninit at) (types.Uninit other) new = by (other == at) where
      by : (b : Bool) → HasItsNew s reached (if b then types.Object r.class else types.Uninit other)
      by true = tt
      by false = new
    initialised_new (types.Uninit at) other new = new
    initialised_new types.UninitThis types.UninitThis new = tt
    initialised_new types.UninitThis other new = new
    initialised_new object type new = new

    pub initialised_wide : (object type : VType) → is_wide (initialised_type sc r object type) ≡ is_wide type
    initialised_wide (types.Uninit at) (types.Uninit other) = by (other == at) where
      by : (b : Bool) → is_wide (if b then types.Object r.class else types.Uninit other) ≡ false
      by true = refl
      by false = refl
    initialised_wide (types.Uninit at) other = refl
    initialised_wide types.UninitThis types.UninitThis = refl
    initialised_wide types.UninitThis other = refl
    initialised_wide object type = refl

    pub initialised_top : (object : VType) → initialised_type sc r object types.Top ≡ types.Top
    initialised_top (types.Uninit at) = refl
    initialised_top types.UninitThis = refl
    initialised_top object = refl

-- ---- rows

module _ (s : PlanScope) (reached : ℕ → Bool) (f : Frame) (before : State) (st : Standing s reached f before) (sc : RowScope)
    (known : SitesKnown s) (headers_are : sc.headers ≡ headers_of s.classes) where
  abbrev rf : Frame
  rf = read_frame s.flat f

  abbrev Goes : PlanRow → Row → Type 0
  Goes p row = Leaves s reached f before st sc p row

  plain_given : (p : PlanRow) (count : ℕ) (type : VType) → p.change ≡ no_change → p.locals ≡ held_locals f
      → p.stack ≡ (moving f count (plain_value ∷ [])).stack
      → HasItsNew s reached type
      → Left s reached before p rf.locals (under count rf.stack ++ type ∷ []) true
  plain_given = gives_plain s reached f before st sc

  none_given : (p : PlanRow) (count : ℕ) → p.change ≡ no_change → p.locals ≡ held_locals f → p.stack ≡ (moving f count []).stack
      → Left s reached before p rf.locals (under count rf.stack ++ []) true
  none_given = gives_none s reached f before st sc

  -- ---- fields

  pub get_static_leaves : (r : Option Reference) → Fit sc rf (get_static_row rf r) → Goes (moving f 0 (plain_value ∷ [])) (get_static_row rf r)
  get_static_leaves None fit = absurd (no_operand sc rf fit)
  get_static_leaves (Some r) fit = plain_given _ 0 _ refl refl refl (new_of_type s reached _)

  pub put_static_leaves : (r : Option Reference) → Fit sc rf (put_static_row rf r)
      → Goes (record (throwing f 1 []) { asks = value_stored f }) (put_static_row rf r)
  put_static_leaves None fit = absurd (no_operand sc rf fit)
  put_static_leaves (Some r) fit = none_given _ 1 refl refl refl

  pub get_field_leaves : (r : Option Reference) → Fit sc rf (get_field_row sc rf r)
      → Goes (plan_get s f (option_and_then s.links.field r)) (get_field_row sc rf r)
  get_field_leaves None fit = absurd (no_operand sc rf fit)
  get_field_leaves (Some r) fit = by (s.links.field r) refl where
    by : (found : Option Reference) → s.links.field r ≡ found → Goes (plan_get s f found) (get_field_row sc rf (Some r))
    by None none = plain_given _ 1 _ refl refl refl (new_of_type s reached _)
    by (Some field) some =
        moved s reached f before st (plan_get s f (Some field)) 1 (from_field (operand f 0) field ∷ []) (field_type r.desc ∷ []) refl refl (
          subst (λ (desc : List ℕ). HasType s (field_type desc) (field_of_slot s before (held before (operand f 0)) field))
              (linked_desc s known r field some) (field_has s known before st.objects (held before (operand f 0)) field),
          tt,
        ) st.objects (new_of_type s reached _, tt)

  value_of : (r : Reference) (entries : List VType) → topmost 2 rf.stack ≡ entries
      → AllFit sc (assignable_or_this (types.Object r.class) ∷ assignable_to (field_type r.desc) ∷ []) entries
      → HasType s (field_type r.desc) (held before (operand f 0))
  value_of r [] are fit = absurd fit
  value_of r (object ∷ []) are fit = absurd fit.1
  value_of r (object ∷ value ∷ []) are fit =
      assigned_slot s known.hierarchy known.there value (field_type r.desc) (held before (operand f 0))
      (operand_has s reached f before st 2 1 0 value (ap length are) refl (ap (λ (l : List VType). slice_get l 1) are))
      (subst (λ (headers : Headers). IsAssignable headers value (field_type r.desc)) headers_are fit.1.0)
  value_of r (object ∷ value ∷ other ∷ entries) are fit = absurd fit.1.1

  pub put_field_leaves : (r : Option Reference) → Fit sc rf (put_field_row sc rf r)
      → Goes (plan_put s f (option_and_then s.links.field r)) (put_field_row sc rf r)
  put_field_leaves None fit = absurd (no_operand sc rf fit)
  put_field_leaves (Some r) fit = by (s.links.field r) refl where
    by : (found : Option Reference) → s.links.field r ≡ found → Goes (plan_put s f found) (put_field_row sc rf (Some r))
    by None none = none_given _ 2 refl refl refl
    by (Some field) some =
        moved s reached f before st (plan_put s f (Some field)) 2 [] [] refl refl tt
        (put_have s known before st.objects (held before (operand f 1)) (held before (operand f 0)) field
        (subst (λ (desc : List ℕ). HasType s (field_type desc) (held before (operand f 0))) (sym (linked_desc s known r field some))
        (value_of r (topmost 2 rf.stack) refl fit))) tt

  -- ---- objects

  older_of_type : (at : ℕ) (number : ℕ) (type : VType) → IsOfType s number type → IsOfType s number (without_older at type)
  older_of_type at number type is = subst (IsOfType s number) (sym (open_older s at type (is_open_type s is))) is

  pub new_leaves : (at index : ℕ) → IsReachedNew s reached at
      → Goes (plan_new f (site_at s.flat at))
      (row_by (reading_of_new (class_of_site s.flat.sites at)) rf (new_row rf at))
  new_leaves at index here = by (site_at s.flat at) refl where
    by : (found : Option ℕ) → site_at s.flat at ≡ found
        → Goes (plan_new f found) (row_by (reading_of_new (class_of_site s.flat.sites at)) rf (new_row rf at))
    by None none =
        rw (no_site_of_point s.flat.sites at none)
        (left_by s reached f before st (plan_new f None) 0 (plain_value ∷ []) (map (without_older at) rf.locals) (under 0 rf.stack)
        (types.Uninit at ∷ []) refl
        (changed_types s (without_older at) (older_of_type at) rf.locals _ (kept_locals s reached f before st no_change)) (λ have. have) (tt, tt) st.objects
        (all_mapped (HasItsNew s reached) (without_older at) (older_new s reached at) rf.locals st.locals) (new_under s reached f before st 0)
        (here, tt) (mapped_pairs (without_older at) (older_wide s reached at) refl rf.locals st.pairs))
    by (Some number) some =
        let is = site_of_point s.flat.sites at number some in
        rw (is.class)
        (moved s reached f before st (plan_new f (Some number)) 0 (from_new ∷ []) (types.Object is.site.class ∷ []) refl refl
        (record { site = is.site; there = is.there; assignable = to_same (types.Object is.site.class) }, tt)
        (new_have s known before st.objects number is.site is.there) (tt, tt))

  site_below : (name : Name) (number : ℕ) → IsTrue (is_site_below s number name) → IsOfType s number (types.Object name)
  site_below name number below = by (slice_get s.flat.sites number) refl where
    by : (found : Option Site) → slice_get s.flat.sites number ≡ found → IsOfType s number (types.Object name)
    by None none = absurd (false≢true (rw none at below))
    by (Some site) some =
        let is : IsTrue (s.links.below site.class name) = rw some at below in record {
          site = site;
          there = some;
          assignable =
              class_below (headers_of s.classes) known.hierarchy (known.there number site some) ((known.links.below site.class name).0 is);
        }

  pub cast_leaves : (name : Option Name) → Fit sc rf (cast_row rf name)
      → ((number : ℕ) (position : Position) (site : ℕ)
      → slice_get (positions (plan_cast f name)) number ≡ Some position
      → AsksFor s before position site
      → ⊥)
      → Goes (plan_cast f name) (cast_row rf name)
  cast_leaves None fit asks = absurd (no_operand sc rf fit)
  cast_leaves (Some name) fit asks =
      moved s reached f before st (plan_cast f (Some name)) 1 (from_place (operand f 0) ∷ []) (types.Object name ∷ []) refl refl
      (of_virtual s (types.Object name) (held before (operand f 0)) is, tt) st.objects (tt, tt) where
        is : (site : ℕ) → held before (operand f 0) ≡ Virt site → IsOfType s site (types.Object name)
        is site holds = by (is_site_below s site name) refl where
          by : (b : Bool) → is_site_below s site name ≡ b → IsOfType s site (types.Object name)
          by true below = site_below name site below
          by false above = absurd (asks 0 (object_not_below (operand f 0) name) site refl (holds, above))

  pub enter_leaves : (needs : List Need) → length needs ≡ 1 → Goes (monitor_row f (enter_monitor (operand f 0))) (plain rf needs [])
  enter_leaves needs long =
      subst (λ (n : ℕ). Left s reached before (monitor_row f (enter_monitor (operand f 0))) rf.locals (under n rf.stack ++ []) true) (sym long)
      (moved s reached f before st (monitor_row f (enter_monitor (operand f 0))) 1 [] [] refl refl tt
      (depth_have s known before st.objects (held before (operand f 0)) _) tt)

  pub leave_leaves : (needs : List Need) → length needs ≡ 1 → Goes (monitor_row f (leave_monitor (operand f 0))) (plain rf needs [])
  leave_leaves needs long =
      subst (λ (n : ℕ). Left s reached before (monitor_row f (leave_monitor (operand f 0))) rf.locals (under n rf.stack ++ []) true) (sym long)
      (moved s reached f before st (monitor_row f (leave_monitor (operand f 0))) 1 [] [] refl refl tt
      (depth_have s known before st.objects (held before (operand f 0)) _) tt)
