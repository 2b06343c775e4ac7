-- The place of a method in flat code, by its setting: its types, read, and what its rows read there.
use Rattle.flow_code.specs.ReadTypes.{class_of_site, read_frame, read_type}
use Rattle.std.proofs.Common.{◌≡◌, ◌≢◌, ◌+◌, ◌≤◌, ℕ, suc, false, List, [], ◌∷◌, ◌++◌, length, map, slice_get, replicate, zero, Option, Some, None, option_map, refl, sym, ap, subst, ◌∙◌, inl, inr, arith}
use Rattle.std.specs.Prelude.{◌==◌, ◌⊎◌}
use Rattle.std.proofs.lemmas.List.{length-map, map-append}
use Rattle.std.proofs.lemmas.Option.{none-some, same_Some, slice_get-map}
use Rattle.class_model.specs.Frames.{is_wide}
use Rattle.class_model.specs.Header.{header_of}
use Rattle.class_model.specs.declared.frame.Frame.{Frame}
use Rattle.class_model.specs.declared.frame.VType.{VType}
use Rattle.class_model.specs.declared.frame.VType.TheVariants as types
use Rattle.class_model.specs.declared.instr.Instr.{Instr}
use Rattle.class_tree.specs.Headers.{Name, Classes}
use Rattle.class_tree.specs.Subtype.{IsArray}
use Rattle.expanded_code.specs.Expanded.{Setting, class_of, overlaid, set_frame, set_type}
use Rattle.expanded_runs.proofs.Types.Blocks.{map_block}
use Rattle.expanded_runs.proofs.Types.PlacedLocals.{HasBlock}
use Rattle.expanded_runs.proofs.Types.PlacedMembers.{HasThis, IsWithout, KeepsNews, SameMethod, of_method, of_none, of_site}
use Rattle.expanded_runs.proofs.Types.PlacedReads.{HasRoom}
use Rattle.expanded_runs.proofs.Types.PlacedThis.{IsWithoutThis}
use Rattle.expanded_runs.proofs.Types.PlacedTypes.{Place, flat_scope, new_type, placed_frame, placed_type, this_type}
use Rattle.flow_code.specs.FlatCode.{FlatCode}
use Rattle.flow_code.specs.FlatRoom.{deepest, stack_room}
use Rattle.flow_code.specs.declared.point.FlatInstr.TheVariants.{Of}
use Rattle.member_link.specs.Access.{IsAtOrBelow}
use Rattle.member_link.specs.Assignability.{IsAssignable, of_names, to_class_above, to_itself}
use Rattle.member_link.specs.Rows.MemberRows.{NoUninitThis}
use Rattle.member_link.specs.Rows.Row.{Row, row_frame}
use Rattle.member_link.specs.Scope.{Scope, class_of_new, is_clinit, is_init, own_descriptor, row_scope}
use Rattle.member_link.specs.Signatures.{result_of}
use Rattle.same_runs.specs.Flats.{class_of_flat_new, instr_scope, pool_of}

-- ---- what holds of a setting in the flat code of a host

-- It is that of the host, which is no instance initialiser.
pub record IsHostSetting (s : Scope) (t : Setting) : Type 0 where
  pub scope_is : t.coded.scope ≡ s
  pub no_init : is_init s ≡ false
  pub this : t.this ≡ types.UninitThis
  pub below_locals : NoUninitThis t.below.locals
  pub below_stack : NoUninitThis t.below.stack

-- It is that of an initialiser of the object of a candidate site, whose class is that of the initialiser or below it.
pub record IsSiteSetting (flat : FlatCode) (t : Setting) (class : Name) : Type 0 where
  pub new : ℕ
  pub this : t.this ≡ types.Uninit new
  pub site : class_of_site flat.sites new ≡ Some class
  pub at_or_below : IsAtOrBelow t.coded.scope.headers class (header_of t.coded.scope.class).name
  pub no_array : ¬ IsArray class
  pub no_array_above : ¬ IsArray (header_of t.coded.scope.class).name

-- The uninitialised object of a method, before an instruction of it: the host's stays what it is; that of an initialiser of a site's object
-- is the site's; or there is none.
pub data ThisIs (s : Scope) (flat : FlatCode) (t : Setting) (frame : Frame) (this : Option Name) : Type 0 where
  host_this : IsHostSetting s t → this ≡ None → ThisIs s flat t frame this
  site_this : (class : Name) → IsSiteSetting flat t class → this ≡ Some class → ThisIs s flat t frame this
  no_this_there : IsWithoutThis frame → this ≡ None → ThisIs s flat t frame this

-- It reads the headers of the host, a class of its version, and the constants of its own class. The number of a new is that of no other
-- offset; what is no site's keeps its class, and callers have no object of its number.
pub record StandsInFlat (classes : Classes) (s : Scope) (flat : FlatCode) (t : Setting) : Type 0 where
  pub headers : t.coded.scope.headers ≡ s.headers
  pub major : t.coded.scope.class.major ≡ s.class.major
  pub pool : pool_of classes (class_of t) ≡ t.coded.scope.class.pool
  pub apart : (at : ℕ) (class : Name) → class_of_new t.coded.scope at ≡ Some class → (other : ℕ)
      → (t.number other == t.number at) ≡ (other == at)
  pub class_kept : (at : ℕ) (class : Name) → class_of_new t.coded.scope at ≡ Some class
      → class_of_site flat.sites (t.number at) ≡ None
      → class_of_flat_new classes flat (t.number at) ≡ Some class
  pub below : (at : ℕ) (class : Name) → class_of_new t.coded.scope at ≡ Some class
      → class_of_site flat.sites (t.number at) ≡ None
      → IsWithout (types.Uninit (t.number at)) t.below.locals × IsWithout (types.Uninit (t.number at)) t.below.stack

-- The locals of a frame are there, and no value of two units stands across where they begin.
pub record HasUnits (t : Setting) (frame : Frame) : Type 0 where
  pub within : t.unit + length frame.locals ≤ length t.below.locals
  pub narrow : (before : ℕ) (type : VType)
      → t.unit ≡ suc before
      → slice_get t.below.locals before ≡ Some type
      → is_wide type ≡ false

-- No point has fewer entries than before an instruction and behind it: the stack has room.
pub record HasDepth (flat : FlatCode) (t : Setting) (frame : Frame) (row : Row) : Type 0 where
  pub here : length t.below.stack + length frame.stack ≤ deepest flat.points
  pub behind : (g : Frame) → row_frame frame row ≡ Some g → length t.below.stack + length g.stack ≤ deepest flat.points

-- ---- its place

abbrev pub place_of : Classes → Scope → FlatCode → Setting → Option Name → Place
place_of classes s flat t this = record {
  number = t.number;
  site = class_of_site flat.sites;
  this = this;
  unit = t.unit;
  below = read_frame flat t.below;
  scope = row_scope t.coded.scope;
  around = record {
    own = header_of s.class;
    is_init = is_init s;
    is_clinit = is_clinit s;
    result = result_of (own_descriptor s);
    room = stack_room flat;
    news = class_of_flat_new classes flat;
  };
}

module _ (flat : FlatCode) where
  -- ---- types that are read

  pub uninit_read : (at : ℕ) (site : Option Name) → class_of_site flat.sites at ≡ site → read_type flat (types.Uninit at) ≡ new_type site at
  uninit_read at None is = rw is refl
  uninit_read at (Some class) is = rw is refl

  wide_read : (type : VType) → is_wide (read_type flat type) ≡ is_wide type
  wide_read (types.Uninit at) = by (class_of_site flat.sites at) refl where
    by : (site : Option Name) → class_of_site flat.sites at ≡ site → is_wide (read_type flat (types.Uninit at)) ≡ false
    by None is = ap is_wide (uninit_read at None is)
    by (Some class) is = ap is_wide (uninit_read at (Some class) is)
  wide_read other = refl

  no_this_read : (type : VType) → type ≢ types.UninitThis → read_type flat type ≢ types.UninitThis
  no_this_read types.UninitThis not = absurd (not refl)
  no_this_read (types.Uninit at) not = by (class_of_site flat.sites at) refl where
    by : (site : Option Name) → class_of_site flat.sites at ≡ site → read_type flat (types.Uninit at) ≢ types.UninitThis
    by None is = λ e. let new : types.Uninit at ≡ types.UninitThis = sym (uninit_read at None is) ∙ e in absurd cc
    by (Some class) is = λ e. let new : types.Object class ≡ types.UninitThis = sym (uninit_read at (Some class) is) ∙ e in absurd cc
  no_this_read other not = not

  pub no_new_read : (number : ℕ) (type : VType) → type ≢ types.Uninit number → read_type flat type ≢ types.Uninit number
  no_new_read number (types.Uninit at) not = by (class_of_site flat.sites at) refl where
    by : (site : Option Name) → class_of_site flat.sites at ≡ site → read_type flat (types.Uninit at) ≢ types.Uninit number
    by None is = λ e. not (sym (uninit_read at None is) ∙ e)
    by (Some class) is = λ e. let new : types.Object class ≡ types.Uninit number = sym (uninit_read at (Some class) is) ∙ e in absurd cc
  no_new_read number other not = not

  pub all_read : (object : VType) → ((type : VType) → type ≢ object → read_type flat type ≢ object) → (entries : List VType)
      → IsWithout object entries → IsWithout object (map (read_type flat) entries)
  all_read object kept [] none = tt
  all_read object kept (entry ∷ entries) none = (kept entry none.0, all_read object kept entries none.1)

-- the callers of a host have none
pub tops_without : (count : ℕ) → NoUninitThis (replicate count types.Top)
tops_without zero = tt
tops_without (suc count) = (λ e. absurd cc, tops_without count)

module _ (classes : Classes) (s : Scope) (flat : FlatCode) (t : Setting) (this : Option Name) where
  abbrev p : Place
  p = place_of classes s flat t this

  -- ---- the frame of the place

  type_same : (type : VType) → (type ≡ types.UninitThis → read_type flat t.this ≡ this_type this)
      → read_type flat (set_type t type) ≡ placed_type p type
  type_same (types.Uninit at) same = uninit_read flat (t.number at) (class_of_site flat.sites (t.number at)) refl
  type_same types.UninitThis same = same refl
  type_same other same = refl

  -- an uninitialised this is read as it is in the place, or is not among them
  abbrev pub ReadsThis : List VType → Type 0
  ReadsThis entries = (read_type flat t.this ≡ this_type this) ⊎ NoUninitThis entries

  entries_same : (entries : List VType) → ReadsThis entries
      → map (read_type flat) (map (set_type t) entries) ≡ map (placed_type p) entries
  entries_same [] reads = refl
  entries_same (type ∷ entries) (inl same) = rw (type_same type (λ is. same), entries_same entries (inl same)) refl
  entries_same (type ∷ entries) (inr none) =
      rw (type_same type (λ is. absurd (none.0 is)), entries_same entries (inr none.1)) refl

  pub frame_same : (frame : Frame) → ReadsThis frame.locals → ReadsThis frame.stack
      → read_frame flat (set_frame t frame) ≡ placed_frame p frame
  frame_same frame locals stack = λ i. record {
    locals = (map_block (read_type flat) t.unit (map (set_type t) frame.locals) t.below.locals
        ∙ ap (λ (own : List VType). overlaid t.unit own (map (read_type flat) t.below.locals)) (entries_same frame.locals locals)) i;
    stack = (map-append (read_type flat) t.below.stack (map (set_type t) frame.stack)
        ∙ ap (λ (own : List VType). map (read_type flat) t.below.stack ++ own) (entries_same frame.stack stack)) i;
  }

  -- ---- what holds of the place

  module _ (stands : StandsInFlat classes s flat t) where
    pub scope_same : (instr : Instr) → instr_scope classes s flat (Of (class_of t) instr) ≡ flat_scope p
    scope_same instr = λ i. record {
      headers = sym stands.headers i;
      pool = stands.pool i;
      major = sym stands.major i;
      own = header_of s.class;
      is_init = is_init s;
      is_clinit = is_clinit s;
      result = result_of (own_descriptor s);
      max_stack = stack_room flat;
      new_class = class_of_flat_new classes flat;
    }

    pub place_keeps : KeepsNews p
    place_keeps = record {
      apart = stands.apart;
      class_kept = stands.class_kept;
      below = λ at class is none.
          let below = stands.below at class is none in (
            all_read flat _ (no_new_read flat (t.number at)) t.below.locals below.0,
            all_read flat _ (no_new_read flat (t.number at)) t.below.stack below.1,
          );
    }

  pub same_method : IsHostSetting s t → SameMethod p
  same_method host = record {
    own = ap (λ (x : Scope). header_of x.class) (sym host.scope_is);
    no_init = host.no_init;
    result = ap (λ (x : Scope). result_of (own_descriptor x)) (sym host.scope_is);
    below = (
      all_read flat types.UninitThis (no_this_read flat) t.below.locals host.below_locals,
      all_read flat types.UninitThis (no_this_read flat) t.below.stack host.below_stack,
    );
  }

  pub place_block : (frame : Frame) → HasUnits t frame → HasBlock p frame
  place_block frame units = record {
    within = omega (arith, units.within, length-map t.below.locals (read_type flat));
    narrow = λ before type is found. by before type is (slice_get t.below.locals before) refl
        (sym (slice_get-map (read_type flat) t.below.locals before) ∙ found);
  } where
    by : (before : ℕ) (type : VType) → t.unit ≡ suc before → (found : Option VType) → slice_get t.below.locals before ≡ found
        → option_map (read_type flat) found ≡ Some type → is_wide type ≡ false
    by before type is None there same = absurd (none-some type same)
    by before type is (Some own) there same =
        ap is_wide (sym (same_Some (read_type flat own) type same)) ∙ wide_read flat own ∙ units.narrow before own is there

  pub place_room : (frame : Frame) (row : Row) → HasDepth flat t frame row → HasRoom p frame row
  place_room frame row depth = record {
    most = deepest flat.points;
    room = refl;
    here = omega (arith, depth.here, length-map t.below.stack (read_type flat));
    behind = λ g is. omega (arith, depth.behind g is, length-map t.below.stack (read_type flat));
  }

  pub frame_read : (frame : Frame) → (read_type flat t.this ≡ this_type this) ⊎ IsWithoutThis frame
      → read_frame flat (set_frame t frame) ≡ placed_frame p frame
  frame_read frame (inl same) = frame_same frame (inl same) (inl same)
  frame_read frame (inr none) = frame_same frame (inr none.0) (inr none.1)

module _ (classes : Classes) (s : Scope) (flat : FlatCode) (t : Setting) (frame : Frame) where
  class_fits : (low high : Name) → IsAtOrBelow t.coded.scope.headers low high
      → IsAssignable t.coded.scope.headers (types.Object low) (types.Object high)
  class_fits low high (inl same) = subst (λ (name : Name). IsAssignable t.coded.scope.headers (types.Object low) (types.Object name)) same
      (of_names low low (to_itself low))
  class_fits low high (inr below) = of_names low high (to_class_above low high below)

  pub place_this : (this : Option Name) → ThisIs s flat t frame this → HasThis (place_of classes s flat t this) frame
  place_this this (host_this host none) = of_method (same_method classes s flat t this host) none
  place_this this (site_this class is this_is) =
      of_site class this_is (class_fits class (header_of t.coded.scope.class).name is.at_or_below)
  place_this this (no_this_there none no_site) = of_none none.0 none.1 no_site

  pub this_read : (this : Option Name) → ThisIs s flat t frame this
      → (read_type flat t.this ≡ this_type this) ⊎ (IsWithoutThis frame × (this ≡ None))
  this_read this (host_this host none) = inl (ap (read_type flat) host.this ∙ ap this_type (sym none))
  this_read this (site_this class is this_is) =
      inl (ap (read_type flat) is.this ∙ uninit_read flat is.new (Some class) is.site ∙ ap this_type (sym this_is))
  this_read this (no_this_there none no_site) = inr (none, no_site)
