-- An instruction before which no uninitialised this stands leaves none.
use Rattle.std.proofs.Common.{◌≡◌, ◌≢◌, ◌+◌, ℕ, List, [], ◌∷◌, ◌++◌, length, map, take, drop, Option, Some, None, option_map, refl, sym, ap, ◌∙◌}
use Rattle.std.proofs.lemmas.List.{append_cancel_left, append_cancel_right, length-map}
use Rattle.std.proofs.lemmas.Option.{same_Some}
use Rattle.class_model.specs.Descriptors.{parameters_of}
use Rattle.class_model.specs.declared.frame.Frame.{Frame}
use Rattle.class_model.specs.declared.frame.VType.{VType}
use Rattle.class_model.specs.declared.frame.VType.TheVariants as types
use Rattle.class_model.specs.declared.instr.Instr.{Instr}
use Rattle.class_model.specs.declared.instr.Instr.TheVariants.{Invoke, New, Return}
use Rattle.class_tree.specs.Headers.{Name}
use Rattle.class_tree.specs.Headers.{Headers}
use Rattle.expanded_code.specs.Expanded.{overlaid}
use Rattle.expanded_runs.proofs.Types.PlacedLocals.{HasBlock}
use Rattle.expanded_runs.proofs.Types.PlacedMembers.{IsNoSite, KeepsNews, SameMethod, no_this, of_none, of_site}
use Rattle.expanded_runs.proofs.Types.PlacedRows.{Moves, frame_moves}
use Rattle.expanded_runs.proofs.Types.PlacedTable.{Stays, placed_instr, row_moves}
use Rattle.expanded_runs.proofs.Types.PlacedTypes.{Place, flat_scope, placed_frame, placed_locals, placed_stack, placed_type, this_type}
use Rattle.member_link.specs.Assignability.{IsAssignable, from_null, of_names, to_same, to_top}
use Rattle.member_link.specs.BodyTyping.{RowHolds}
use Rattle.member_link.specs.References.{Reference}
use Rattle.member_link.specs.Rows.FrameAssignability.{AreAssignable, IsFrameAssignable}
use Rattle.member_link.specs.Rows.MemberRows.{NoUninitThis, receiver}
use Rattle.member_link.specs.Rows.Row.{Row, access_aside, row_frame}
use Rattle.member_link.specs.Rows.Table.{row_of}

-- a frame without an uninitialised this
abbrev pub IsWithoutThis : Frame → Type 0
IsWithoutThis f = NoUninitThis f.locals × NoUninitThis f.stack

-- ---- what it may stand for

this_only : {headers : Headers} {from to : VType} → IsAssignable headers from to → to ≡ types.UninitThis → from ≡ types.UninitThis
this_only (to_same type) is = is
this_only (to_top type) is = absurd cc
this_only (from_null name) is = absurd cc
this_only (of_names low high named) is = absurd cc

assigned_without : (headers : Headers) (entries to : List VType) → AreAssignable headers entries to → NoUninitThis entries
    → NoUninitThis to
assigned_without headers [] [] are none = tt
assigned_without headers [] (other ∷ to) are none = absurd are
assigned_without headers (type ∷ entries) [] are none = absurd are
assigned_without headers (type ∷ entries) (other ∷ to) are none =
    (λ is. none.0 (this_only are.0 is), assigned_without headers entries to are.1 none.1)

pub frame_without : (headers : Headers) (f to : Frame) → IsFrameAssignable headers f to → IsWithoutThis f → IsWithoutThis to
frame_without headers f to is none =
    (assigned_without headers f.locals to.locals is.locals none.0, assigned_without headers f.stack to.stack is.stack none.1)

-- ---- behind an instruction

module _ (p : Place) (f : Frame) (none : IsWithoutThis f) (no_site : p.this ≡ None) where
  -- the same place, with an uninitialised this that is read as one of the method's class
  abbrev other : Place
  other = record p { this = Some p.scope.own.name }

  -- a list is the same in both, if it has none, and has none, if it is the same in both
  same_type : (type : VType) → type ≢ types.UninitThis → placed_type other type ≡ placed_type p type
  same_type types.UninitThis not = absurd (not refl)
  same_type type not = refl

  same_entries : (entries : List VType) → NoUninitThis entries → map (placed_type other) entries ≡ map (placed_type p) entries
  same_entries [] none_there = refl
  same_entries (type ∷ entries) none_there = rw (same_type type none_there.0, same_entries entries none_there.1) refl

  apart_this : (this : Option Name) → this ≡ None → types.Object p.scope.own.name ≢ this_type this
  apart_this None is = λ e. absurd cc
  apart_this (Some name) is = absurd cc

  abbrev first_type : List VType → VType
  first_type [] = types.Top
  first_type (type ∷ entries) = type

  abbrev without_rest : List VType → List VType
  without_rest [] = []
  without_rest (type ∷ entries) = entries

  without_if : (entries : List VType) → map (placed_type other) entries ≡ map (placed_type p) entries → NoUninitThis entries
  without_if [] same = tt
  without_if (type ∷ entries) same = (
    λ is. apart_this p.this no_site
        (ap (placed_type other) (sym is) ∙ ap first_type same ∙ ap (placed_type p) is),
    without_if entries (ap without_rest same),
  )

  same_frame : placed_frame other f ≡ placed_frame p f
  same_frame =
      λ i. record {
        locals = overlaid p.unit (same_entries f.locals none.0 i) p.below.locals;
        stack = p.below.stack ++ same_entries f.stack none.1 i;
      }

  many : (own : List VType) → p.unit + length (map (placed_type other) own) ≡ p.unit + length (map (placed_type p) own)
  many own = ap (λ (n : ℕ). p.unit + n) (length-map own (placed_type other) ∙ sym (length-map own (placed_type p)))

  locals_without : (own : List VType) → placed_locals other own ≡ placed_locals p own → NoUninitThis own
  locals_without own same =
      let rest : List VType = drop (p.unit + length (map (placed_type p) own)) p.below.locals in
      let one : (take p.unit p.below.locals ++ map (placed_type other) own) ++ rest
      ≡ (take p.unit p.below.locals ++ map (placed_type p) own) ++ rest =
      ap (λ (n : ℕ). (take p.unit p.below.locals ++ map (placed_type other) own) ++ drop n p.below.locals) (sym (many own)) ∙ same in
      without_if own
      (append_cancel_left (take p.unit p.below.locals) (map (placed_type other) own) (map (placed_type p) own)
      (append_cancel_right (take p.unit p.below.locals ++ map (placed_type other) own)
      (take p.unit p.below.locals ++ map (placed_type p) own) rest one))

  stack_without : (own : List VType) → placed_stack other own ≡ placed_stack p own → NoUninitThis own
  stack_without own same =
      without_if own (append_cancel_left p.below.stack (map (placed_type other) own) (map (placed_type p) own) same)

  -- ---- what holds in the one place does so in the other

  other_method : SameMethod p → SameMethod other
  other_method same = record { own = same.own; no_init = same.no_init; result = same.result; below = same.below }

  other_news : KeepsNews p → KeepsNews other
  other_news keeps = record { apart = keeps.apart; class_kept = keeps.class_kept; below = keeps.below }

  other_no_site : (r : Reference) (object : VType) → receiver f r.desc ≡ object → IsNoSite p object → IsNoSite other object
  other_no_site r (types.Uninit at) is kept = kept
  other_no_site r types.UninitThis is kept = absurd (no_this p f (length (parameters_of r.desc) + 1) none.1 is)
  other_no_site r type is kept = tt

  other_stays : (at : ℕ) (instr : Instr) → Stays p f at instr → Stays other f at instr
  other_stays at (Return kind) stays = other_method stays
  other_stays at (Invoke opcode index count) stays = λ special. record {
    initialiser = λ r is is_init. other_no_site r (receiver f r.desc) refl ((stays special).initialiser r is is_init);
    special = λ r is not. other_method ((stays special).special r is not);
  }
  other_stays at (New index) stays = record {
    no_site = stays.no_site;
    apart = stays.apart;
    below_locals = stays.below_locals;
    below_stack = stays.below_stack;
  }
  other_stays at instr stays = tt

  module _ (block : HasBlock p f) (keeps : KeepsNews p) (at : ℕ) (instr : Instr) (stays : Stays p f at instr)
      (held : RowHolds p.scope f (access_aside (row_of p.scope f at instr))) where
    abbrev row : Row
    row = row_of p.scope f at instr

    abbrev also : Frame → Row
    also g = row_of (flat_scope p) g (p.number at) (placed_instr p instr)

    moves : Moves p f row (also (placed_frame p f))
    moves = row_moves p f block (of_none none.0 none.1 no_site) keeps at instr stays held.local held.further held.operands

    moves_other : Moves other f row (also (placed_frame other f))
    moves_other =
        row_moves other f (record { within = block.within; narrow = block.narrow }) (of_site p.scope.own.name refl (to_same _))
        (other_news keeps) at instr (other_stays at instr stays) held.local held.further held.operands

    pub none_behind : (g : Frame) → row_frame f row ≡ Some g → IsWithoutThis g
    none_behind g is =
        let one : row_frame (placed_frame p f) (also (placed_frame p f)) ≡ Some (placed_frame p g) =
        frame_moves p f row (also (placed_frame p f)) held.operands moves held.local ∙ ap (option_map (placed_frame p)) is in
        let two : row_frame (placed_frame other f) (also (placed_frame other f)) ≡ Some (placed_frame other g) =
        frame_moves other f row (also (placed_frame other f)) held.operands moves_other held.local
        ∙ ap (option_map (placed_frame other)) is in
        let same : placed_frame other g ≡ placed_frame p g =
        same_Some (placed_frame other g) (placed_frame p g)
        (sym two ∙ ap (λ (h : Frame). row_frame h (also h)) same_frame ∙ one) in
        (locals_without g.locals (ap (λ (h : Frame). h.locals) same), stack_without g.stack (ap (λ (h : Frame). h.stack) same))
