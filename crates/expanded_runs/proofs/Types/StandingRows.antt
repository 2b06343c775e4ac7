-- The rows of the instructions that stay, of each method that stands in flat code, hold in their place.
use Rattle.std.proofs.Common.{◌≡◌, ◌≢◌, ◌==◌, ℕ, ◌∷◌, Bool, true, false, List, bytes_eq, slice_get, Option, Some, None, refl, sym, ap, subst, ◌∙◌, inl, inr}
use Rattle.std.proofs.lemmas.Bool.{eqb-true, false≢true}
use Rattle.std.proofs.lemmas.Option.{none-some}
use Rattle.std.proofs.lemmas.Slice.Eq.{bytes_eq-Decides}
use Rattle.class_model.specs.Frames.{is_wide}
use Rattle.class_model.specs.Laws.Lists.{at_index}
use Rattle.class_model.specs.Names.{init}
use Rattle.class_model.specs.declared.class_file.MethodAt.{MethodAt}
use Rattle.class_model.specs.declared.descriptor.Kind.{Kind}
use Rattle.class_model.specs.declared.frame.Frame.{Frame}
use Rattle.class_model.specs.declared.frame.VType.TheVariants as types
use Rattle.class_model.specs.declared.instr.Instr.{Instr}
use Rattle.class_model.specs.declared.instr.Instr.TheVariants.{Invoke, New, Return}
use Rattle.class_model.specs.declared.instr.Placed.{Placed}
use Rattle.class_model.specs.declared.opcodes.TheConstants.{INVOKESPECIAL}
use Rattle.class_tree.specs.Headers.{Classes, Name, headers_of}
use Rattle.expanded_code.specs.Callees.{NamesInitialiser}
use Rattle.expanded_code.specs.ExpandAnswers.{IsNoHost, is_initialiser}
use Rattle.expanded_code.specs.Expanded.{Setting, expanded, host_setting}
use Rattle.expanded_code.specs.Expansions.{Coded, Expansion}
use Rattle.expanded_runs.proofs.Runs.CallLaws.{CallLaws}
use Rattle.expanded_runs.proofs.Runs.CalleeLaws.{replaced_callee}
use Rattle.expanded_runs.proofs.Runs.Positions.{Standing, becomes, frames_of, inner_setting, inner_standing, instrs_of, scope_of, start_of}
use Rattle.expanded_runs.proofs.Runs.Setup.{IsSetup, Setup}
use Rattle.expanded_runs.proofs.Runs.Standings.{IsStanding, Stands, callee_stands, host_stands}
use Rattle.expanded_runs.proofs.Types.FlatParts.{IsOwn}
use Rattle.expanded_runs.proofs.Types.FlatPlaces.{IsHostSetting, StandsInFlat, ThisIs, host_this, no_this_there, site_this}
use Rattle.expanded_runs.proofs.Types.FlatRows.{FlatRow, NewStaysAt, SpecialStays, StaysInFlat, named_by}
use Rattle.expanded_runs.proofs.Types.FrameFacts.{FrameFacts}
use Rattle.expanded_runs.proofs.Types.NewsOfFrames.{names_news}
use Rattle.expanded_runs.proofs.Types.ObjectsApart.{NamesNews, callers_without, host_setting_is}
use Rattle.expanded_runs.proofs.Types.OwnPoints.{row_at, TypingLaws, own_headers, scope_headers}
use Rattle.expanded_runs.proofs.Types.PlacedMembers.{IsWithout}
use Rattle.expanded_runs.proofs.Types.RowConditions.{RowConditions, flat_row_by}
use Rattle.expanded_runs.proofs.Types.SiteObjects.{site_setting}
use Rattle.expanded_runs.proofs.Types.StackDepths.{has_depth}
use Rattle.expanded_runs.proofs.Types.StandingPlaces.{callee_here, new_apart, new_at, new_kept, numbers_apart, own_major, own_pool, start_number}
use Rattle.expanded_runs.proofs.Types.StandingUnits.{HasNarrowThis, folder_paired, has_units}
use Rattle.expanded_runs.proofs.Types.StayingCalls.{no_result, on_new, on_this}
use Rattle.expanded_runs.proofs.Types.ThisWithin.{NoThisStanding}
use Rattle.flow_code.specs.FlatCode.{FlatCode}
use Rattle.member_link.specs.References.{Reference}
use Rattle.member_link.specs.Scope.{Scope, class_of_new, instructions, is_init, scope_at}

module _ (u : Setup) (is_setup : IsSetup u) (call_laws : CallLaws) (laws : TypingLaws) (facts : FrameFacts u.classes u.typed)
    (host : Coded) (e : Expansion)
    (stands : (chain : List MethodAt) (p : Standing) → IsStanding host e chain p → Stands u.classes u.typed host e chain p)
    (s : Scope) (is_host : scope_at u.classes host.at ≡ Some s) (no_init : is_init s ≡ false) (outside : NoThisStanding host e) where
  -- uninitialised objects are those of news
  made : NamesNews u.classes u.typed
  made = names_news laws is_setup.types

  abbrev flat : FlatCode
  flat = expanded host e

  host_headers : s.headers ≡ headers_of u.classes
  host_headers = scope_headers u.classes host.at s is_host

  host_is : IsHostSetting s (host_setting host e)
  host_is = host_setting_is laws host e stands s is_host no_init

  -- a special call of what is no initialiser is of the host
  special_of_host : {chain : List MethodAt} {p : Standing} → IsStanding host e chain p → (k : ℕ) (placed : Placed)
      → slice_get (instrs_of p) k ≡ Some placed
      → (opcode index count : ℕ) → placed.instr ≡ Invoke opcode index count
      → opcode ≡ INVOKESPECIAL
      → (r : Reference) → named_by p.setting index ≡ Some r
      → bytes_eq r.name init ≡ false
      → IsHostSetting s p.setting
  special_of_host host_stands k placed is opcode index count instr special r named other = host_is
  special_of_host (callee_stands k placed frame g inner below at) j own is opcode index count instr special r named other =
      let known = callee_here laws host e stands s is_host below at in
      let may = (replaced_callee u g known.callee known.replaced).may in
      let names : NamesInitialiser g.scope own.instr =
      at_index (λ (x : Placed). NamesInitialiser g.scope x.instr) (instructions g.scope) j own may.special is in
      let call : NamesInitialiser g.scope (Invoke opcode index count) = subst (NamesInitialiser g.scope) instr names in
      absurd (false≢true (sym other ∙ (bytes_eq-Decides r.name init).1 (call special r named)))

  -- so is a return that stays
  return_of_host : {chain : List MethodAt} {p : Standing} → IsStanding host e chain p → (placed : Placed)
      → (p.setting.behind ≢ None → (kind : Option Kind) → placed.instr ≢ Return kind)
      → (kind : Option Kind) → placed.instr ≡ Return kind
      → IsHostSetting s p.setting
  return_of_host host_stands placed stays kind instr = host_is
  return_of_host (callee_stands k called frame g inner below at) placed stays kind instr =
      absurd (stays (λ none. none-some _ (sym none)) kind instr)

  -- the uninitialised object of a method
  record ThisHere (t : Setting) (frame : Frame) : Type 0 where
    this : Option Name
    is : ThisIs s (expanded host e) t frame this

  this_here : {chain : List MethodAt} {p : Standing} → IsStanding host e chain p → (k : ℕ) (frame : Frame) → slice_get (frames_of p) k ≡ Some frame
      → ThisHere p.setting frame
  this_here host_stands k frame has = record { this = None; is = host_this host_is refl }
  this_here (callee_stands {chain = chain} {p = p} k placed called g inner below at) j frame has = by (is_init g.scope) refl where
    by : (initialiser : Bool) → is_init g.scope ≡ initialiser → ThisHere (inner_setting p k placed called g inner) frame
    by true is =
        let site = site_setting u is_setup call_laws laws facts host e stands s is_host no_init (callee_stands k placed called g inner below at) is in
        record { this = Some site.0; is = site_this site.0 site.1 refl }
    by false is =
        let without = outside (g.at ∷ chain) (inner_standing p k placed called g inner) (callee_stands k placed called g inner below at) refl is j frame has in
        record { this = None; is = no_this_there without refl }

  pub narrow_this : (chain : List MethodAt) (p : Standing) → IsStanding host e chain p → (k : ℕ) (frame : Frame)
      → slice_get (frames_of p) k ≡ Some frame → HasNarrowThis p.setting frame
  narrow_this chain p standing k frame has = by (this_here standing k frame has) where
    of_this : (this : Option Name) → ThisIs s (expanded host e) p.setting frame this → HasNarrowThis p.setting frame
    of_this this (host_this host none) = inl (ap is_wide host.this)
    of_this this (site_this class is same) = inl (ap is_wide is.this)
    of_this this (no_this_there none same) = inr none.0

    by : ThisHere p.setting frame → HasNarrowThis p.setting frame
    by found = of_this found.this found.is

  module _ {chain : List MethodAt} {p : Standing} (standing : IsStanding host e chain p) where
    -- callers have no object of what a method makes
    news_apart : (at : ℕ) (class : Name) → class_of_new (scope_of p) at ≡ Some class
        → IsWithout (types.Uninit (p.setting.number at)) p.setting.below.locals × IsWithout (types.Uninit (p.setting.number at)) p.setting.below.stack
    news_apart at class makes =
        let new = new_at (scope_of p) at class makes in
        let number : p.setting.number at ≡ start_of p new.number =
        ap p.setting.number (sym new.offset) ∙ start_number laws host e stands s is_host standing new.number new.placed new.is in
        subst (λ (n : ℕ). IsWithout (types.Uninit n) p.setting.below.locals × IsWithout (types.Uninit n) p.setting.below.stack) (sym number)
        (callers_without laws host e stands s is_host no_init made standing new.number new.placed new.is)

    pub stands_in_flat : StandsInFlat u.classes s (expanded host e) p.setting
    stands_in_flat = record {
      headers = own_headers laws is_setup.types facts host e stands s host_headers standing;
      major = own_major laws host e stands s is_host standing;
      pool = own_pool laws host e stands s is_host standing;
      apart = λ at class makes. new_apart laws host e stands s is_host standing at class makes;
      class_kept = λ at class makes none. new_kept laws host e stands s is_host standing at class makes;
      below = λ at class makes none. news_apart at class makes;
    }

    module _ (k : ℕ) (placed : Placed) (frame : Frame) (is : slice_get (instrs_of p) k ≡ Some placed)
        (has : slice_get (frames_of p) k ≡ Some frame) (own : IsOwn (becomes p.expansion k))
        (no_return : p.setting.behind ≢ None → (kind : Option Kind) → placed.instr ≢ Return kind) where
      new_stays : NewStaysAt (expanded host e) p.setting placed.at
      new_stays = record {
        apart = numbers_apart laws host e stands s is_host standing k placed is;
        below = λ none.
            subst (λ (n : ℕ). IsWithout (types.Uninit n) p.setting.below.locals × IsWithout (types.Uninit n) p.setting.below.stack)
            (sym (start_number laws host e stands s is_host standing k placed is))
            (callers_without laws host e stands s is_host no_init made standing k placed is);
      }

      special_stays : (opcode index count : ℕ) → placed.instr ≡ Invoke opcode index count → (opcode == INVOKESPECIAL) ≡ true
          → (r : Reference) → named_by p.setting index ≡ Some r
          → SpecialStays s (expanded host e) p.setting frame r
      special_stays opcode index count instr special r named = record {
        on_new = on_new u is_setup call_laws laws facts host e stands s is_host no_init outside standing k placed frame is has own opcode index count
            instr special r named;
        on_this = λ named_init on site. on_this u is_setup call_laws laws facts host e stands s is_host no_init outside standing k placed frame is has
            own opcode index count instr special r named named_init on site;
        no_result = no_result u is_setup call_laws laws facts host e stands s is_host no_init outside standing k placed frame is has own opcode index
            count instr special r named;
        other = special_of_host standing k placed is opcode index count instr (eqb-true opcode INVOKESPECIAL special) r named;
      }

      stays_as : (instr : Instr) → placed.instr ≡ instr → StaysInFlat s (expanded host e) p.setting frame placed.at instr
      stays_as (Return kind) i = return_of_host standing placed no_return kind i
      stays_as (Invoke opcode index count) i = special_stays opcode index count i
      stays_as (New index) i = new_stays
      stays_as instr i = tt

      -- what is asked of an instruction that stays
      pub row_conditions : RowConditions u.classes s (expanded host e) p.setting placed frame
      row_conditions = record {
        stands = stands_in_flat;
        this = (this_here standing k frame has).this;
        this_is = (this_here standing k frame has).is;
        units = has_units facts (folder_paired laws is_setup.types) host e stands narrow_this standing k frame has;
        stays = stays_as placed.instr refl;
        depth = has_depth laws is_setup.types facts host e stands s host_headers standing k placed frame is has;
      }

  -- The rows of instructions that stay, as rows of points in flat code.
  pub flat_rows : (chain : List MethodAt) (p : Standing) → IsStanding host e chain p → (k : ℕ) (placed : Placed) (frame : Frame)
      → slice_get (instrs_of p) k ≡ Some placed
      → slice_get (frames_of p) k ≡ Some frame
      → IsOwn (becomes p.expansion k)
      → (p.setting.behind ≢ None → (kind : Option Kind) → placed.instr ≢ Return kind)
      → FlatRow u.classes s (expanded host e) p.setting frame placed.at placed.instr
  flat_rows chain p standing k placed frame is has own no_return =
      flat_row_by u.classes s (expanded host e) p.setting placed frame (row_conditions standing k placed frame is has own no_return)
      (row_at laws is_setup.types facts host e stands s host_headers standing k placed frame is has)

-- a host is no instance initialiser
pub host_no_init : (classes : Classes) (at : MethodAt) (s : Scope) → scope_at classes at ≡ Some s → ¬ IsNoHost classes at → is_init s ≡ false
host_no_init classes at s is host = by (is_init s) refl where
  by : (initialiser : Bool) → is_init s ≡ initialiser → is_init s ≡ false
  by true initialises = absurd (host (is_initialiser s is (inl initialises)))
  by false none = none
