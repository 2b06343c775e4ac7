-- The points that store a callee's arguments are typed.
use Rattle.flow_code.specs.ReadTypes.{read_frame, read_type}
use Rattle.same_runs.specs.TypedFlats.{MayGoToPoint, TypesPoint}
use Rattle.std.proofs.Common.{◌≡◌, ◌≢◌, ◌+◌, ◌≤◌, ℕ, zero, suc, List, [], ◌∷◌, ◌++◌, length, map, reverse, slice_get, Some, option_map, refl, sym, ap, subst, ◌∙◌, arith, inl, inr, append-nil}
use Rattle.std.specs.List.{AllByRecursion}
use Rattle.std.proofs.lemmas.List.{append_assoc, length-append, length-map, length-reverse, map-append}
use Rattle.std.proofs.lemmas.Option.{none-some, same_Some}
use Rattle.class_model.specs.Frames.{units, units_of_entries}
use Rattle.class_model.specs.declared.descriptor.Kind.{Kind}
use Rattle.class_model.specs.declared.descriptor.Kind.TheVariants as kinds
use Rattle.class_model.specs.declared.frame.Frame.{Frame}
use Rattle.class_model.specs.declared.frame.VType.{VType}
use Rattle.class_model.specs.declared.frame.VType.TheVariants as types
use Rattle.class_model.specs.declared.instr.Instr.TheVariants.{Store}
use Rattle.class_tree.specs.Headers.{Classes}
use Rattle.expanded_code.specs.Expanded.{Argument, Setting, frame_behind_stores, frame_stored, overlaid, point_in, store_points}
use Rattle.expanded_runs.proofs.Runs.PositionLaws.{length_stores, slice_left}
use Rattle.expanded_runs.proofs.StackRoom.{no_deeper, two_each}
use Rattle.expanded_runs.proofs.Types.FlatParts.{InSecond, slice_either}
use Rattle.expanded_runs.proofs.Types.Handlers.{SameBefore}
use Rattle.expanded_runs.proofs.Types.OwnPoints.{itself}
use Rattle.expanded_runs.proofs.Types.PlainPoints.{goes_typed, read_there}
use Rattle.expanded_runs.proofs.Types.ReturnFrames.{lowest_back, topmost_back, under_back}
use Rattle.expanded_runs.proofs.Types.StoredUnits.{ArgumentsLaid, IsClear, clear_tops, last_reversed, later_tops, none_laid, one_more_laid, read_kind, some_units, stored_over, stored_read, stores_over}
use Rattle.expanded_runs.proofs.Types.Units.{TopsFrom, block_long, get_back, get_inside, get_outside, inside, outside, where_is}
use Rattle.flow_code.specs.FlatCode.{FlatCode, point_at}
use Rattle.flow_code.specs.declared.point.Point.{Point}
use Rattle.member_link.specs.Bodies.{caught_type}
use Rattle.member_link.specs.BodyTyping.{MayGoTo}
use Rattle.member_link.specs.Rows.LocalRows.{HasRoom, stored}
use Rattle.member_link.specs.Rows.Operands.{AllFit, IsOfKind, lowest_of, of_kind, topmost, under}
use Rattle.member_link.specs.Scope.{Scope}
use Rattle.same_runs.specs.FlatBodies.{caught_class}
use Rattle.same_runs.specs.Flats.{host_scope, instr_scope}

-- ---- units of arguments

-- a value's units are there
room_of : (kind : Kind) (type : VType) (unit : ℕ) (locals : List VType) → IsOfKind kind type → unit + length (units type) ≤ length locals
    → HasRoom kind locals unit
room_of kinds.Long type unit locals is fits = subst (λ (t : VType). unit + length (units t) ≤ length locals) is fits
room_of kinds.Double type unit locals is fits = subst (λ (t : VType). unit + length (units t) ≤ length locals) is fits
room_of kinds.Int type unit locals is fits = let some = some_units type in omega (arith, some, fits)
room_of kinds.Float type unit locals is fits = let some = some_units type in omega (arith, some, fits)
room_of kinds.Ref type unit locals is fits = let some = some_units type in omega (arith, some, fits)

unit_free : (type : VType) → type ≢ types.UninitThis → (n : ℕ) → slice_get (units type) n ≢ Some types.UninitThis
unit_free types.Long other zero is = absurd cc
unit_free types.Long other (suc zero) is = absurd cc
unit_free types.Long other (suc (suc n)) is = absurd (none-some types.UninitThis is)
unit_free types.Double other zero is = absurd cc
unit_free types.Double other (suc zero) is = absurd cc
unit_free types.Double other (suc (suc n)) is = absurd (none-some types.UninitThis is)
unit_free type other zero is = other (same_Some type types.UninitThis is)
unit_free type other (suc n) is = absurd (none-some types.UninitThis is)

-- none of these is an uninitialised this
abbrev pub AreFree : List VType → Type 0
AreFree entries = AllByRecursion (λ (type : VType). type ≢ types.UninitThis) entries

pub units_free : (entries : List VType) → AreFree entries → (n : ℕ) → slice_get (units_of_entries entries) n ≢ Some types.UninitThis
units_free [] free n is = absurd (none-some types.UninitThis is)
units_free (type ∷ more) free n is = elim (slice_either (units type) (units_of_entries more) n types.UninitThis is) [
  | inl here ↦ unit_free type free.0 n here
  | inr later ↦ units_free more free.1 later.behind later.there
]

points_more : (t : Setting) (at : ℕ) (frame : Frame) (ones : List Argument) (argument : Argument)
    → store_points t at frame (ones ++ argument ∷ [])
    ≡ store_points t at frame ones ++ point_in t at (frame_behind_stores frame ones) (Store argument.kind argument.unit) ∷ []
points_more t at frame [] argument = refl
points_more t at frame (one ∷ ones) argument =
    ap (λ (points : List Point). point_in t at frame (Store one.kind one.unit) ∷ points) (points_more t at (frame_stored frame one) ones argument)

-- ---- all stores of a call

-- What holds of each store, where control goes from it to the next, and from the last to what is behind.
module _ (flat : FlatCode) (t : Setting) (at : ℕ) (locals : List VType) (least : ℕ) (Goes : Frame → ℕ → Type 0) (Holds : ℕ → Point → Type 0)
    (itself_goes : (number : ℕ) (point : Point) → point_at flat number ≡ Some point → Goes point.typed number)
    (one_holds : (next : ℕ) (more : List VType) (number : ℕ) (below : List VType) (type : VType) (argument : Argument)
    → least ≤ next
    → next + length (units_of_entries more) ≤ length locals
    → AreFree more
    → IsOfKind argument.kind type
    → HasRoom argument.kind (overlaid next (units_of_entries more) locals) argument.unit
    → point_at flat number
    ≡ Some (point_in t at (record { locals = overlaid next (units_of_entries more) locals; stack = below ++ type ∷ [] })
    (Store argument.kind argument.unit))
    → Goes (record { locals = stored argument.unit type (overlaid next (units_of_entries more) locals); stack = below }) (number + 1)
    → Holds number
    (point_in t at (record { locals = overlaid next (units_of_entries more) locals; stack = below ++ type ∷ [] })
    (Store argument.kind argument.unit))) where
  -- All stores.
  pub stores_hold : (unit : ℕ) (args : List Argument) (entries below : List VType) → ArgumentsLaid unit args entries
      → least ≤ unit
      → unit + length (units_of_entries entries) ≤ length locals
      → IsClear unit locals
      → TopsFrom unit locals
      → AreFree entries
      → (number : ℕ)
      → ((n : ℕ) (point : Point)
      → slice_get (store_points t at (record { locals = locals; stack = below ++ entries }) (reverse args)) n ≡ Some point
      → point_at flat (number + n) ≡ Some point)
      → Goes (record { locals = overlaid unit (units_of_entries entries) locals; stack = below }) (number + length args)
      → (n : ℕ) (point : Point)
      → slice_get (store_points t at (record { locals = locals; stack = below ++ entries }) (reverse args)) n ≡ Some point
      → Holds (number + n) point
  stores_hold unit _ _ below none_laid behind fits clear tops none number there after n point is = absurd (none-some point is)
  stores_hold unit _ _ below (one_more_laid {argument = argument} {type = type} {others = others} {more = more} at_unit kind laid) behind fits clear tops
      none number there after n point is
      =
      let next = unit + length (units type) in
      let some = some_units type in
      let both : length (units type ++ units_of_entries more) ≡ length (units type) + length (units_of_entries more) =
      length-append (units type) (units_of_entries more) in
      let begin : List VType → Frame = λ stack. record { locals = locals; stack = stack } in
      let stack : below ++ type ∷ more ≡ (below ++ type ∷ []) ++ more = sym (append_assoc below (type ∷ []) more) in
      let fits_next : next + length (units_of_entries more) ≤ length locals = omega (arith, fits, both) in
      let clear_next = clear_tops unit next locals (omega (arith, some)) (omega (arith, fits, both)) tops in
      let tops_next = later_tops unit next locals (omega arith) tops in
      let rest = stores_over next others more locals (below ++ type ∷ []) laid fits_next clear_next tops_next in
      let now = overlaid next (units_of_entries more) locals in
      let own = point_in t at (record { locals = now; stack = below ++ type ∷ [] }) (Store argument.kind argument.unit) in
      let front = store_points t at (begin ((below ++ type ∷ []) ++ more)) (reverse others) in
      let list_is : store_points t at (begin (below ++ type ∷ more)) (reverse (argument ∷ others)) ≡ front ++ own ∷ [] =
      ap (store_points t at (begin (below ++ type ∷ more))) (last_reversed argument others)
      ∙ points_more t at (begin (below ++ type ∷ more)) (reverse others) argument
      ∙ ap (λ (l : List VType). store_points t at (begin l) (reverse others)
      ++ point_in t at (frame_behind_stores (begin l) (reverse others)) (Store argument.kind argument.unit)
      ∷ []) stack
      ∙ ap (λ (f : Frame). front ++ point_in t at f (Store argument.kind argument.unit) ∷ []) rest in
      let stands : (m : ℕ) (one : Point) → slice_get (front ++ own ∷ []) m ≡ Some one → point_at flat (number + m) ≡ Some one =
      λ m one one_is. there m one (subst (λ (points : List Point). slice_get points m ≡ Some one) (sym list_is) one_is) in
      let long : length front ≡ length others =
      length_stores t at (begin ((below ++ type ∷ []) ++ more)) (reverse others) ∙ length-reverse others in
      let here : point_at flat (number + length others) ≡ Some own =
      stands (length others) own
      (ap (slice_get (front ++ own ∷ [])) (omega (arith, long)) ∙ get_back front (own ∷ []) 0) in
      let into : Goes (record { locals = now; stack = below ++ type ∷ [] }) (number + length others) =
      itself_goes (number + length others) own here in
      let over : stored argument.unit type now ≡ overlaid unit (units type ++ units_of_entries more) locals =
      ap (λ (u : ℕ). stored u type now) at_unit ∙ stored_over unit type (units_of_entries more) locals (omega (arith, fits, both)) clear in
      let last : Goes (record { locals = stored argument.unit type now; stack = below }) (number + length others + 1) =
      subst (λ (m : ℕ). Goes (record { locals = stored argument.unit type now; stack = below }) m) (omega arith)
      (subst (λ (l : List VType). Goes (record { locals = l; stack = below }) (number + length (argument ∷ others))) (sym over) after) in
      let room : HasRoom argument.kind now argument.unit =
      subst (λ (u : ℕ). HasRoom argument.kind now u) (sym at_unit)
      (room_of argument.kind type unit now kind (omega (arith, fits, both, block_long next (units_of_entries more) locals fits_next))) in
      elim (slice_either front (own ∷ []) n point (subst (λ (points : List Point). slice_get points n ≡ Some point) list_is is)) [
        | inl before ↦
            stores_hold next others more (below ++ type ∷ []) laid (omega (arith, behind)) fits_next clear_next tops_next none.1 number
            (λ m one one_is. stands m one (slice_left front (own ∷ []) m one one_is)) into n point before
        | inr last_one ↦ by front own last_one
            (one_holds next more (number + length others) below type argument (omega (arith, behind)) fits_next none.1 kind room here last) long
      ]
    where
      by : (front : List Point) (own : Point) → InSecond (length front) n (own ∷ []) point
          → Holds (number + length others) own
          → length front ≡ length others
          → Holds (number + n) point
      by front own second typed long = whole second.behind second.there second.number_is where
        whole : (m : ℕ) → slice_get (own ∷ []) m ≡ Some point → n ≡ length front + m → Holds (number + n) point
        whole zero is same =
            let place : number + length others ≡ number + n = omega (arith, same, long) in
            subst (λ (k : ℕ). Holds k point) place
            (subst (Holds (number + length others)) (same_Some own point is) typed)
        whole (suc m) is same = absurd (none-some point is)

-- ---- the points

module _ (classes : Classes) (s : Scope) (flat : FlatCode) (t : Setting) (at : ℕ) (locals : List VType) (most : ℕ)
    (free : (n : ℕ) → most ≤ n → slice_get locals n ≢ Some types.UninitThis)
    (catches : (others : List VType) → SameBefore most locals others
    → AllByRecursion
    (λ handler. MayGoToPoint classes s flat
    (Some (record { locals = map (read_type flat) others; stack = caught_type (caught_class handler.catch_class) ∷ [] })) handler.to)
    (t.handlers at)) where
  -- a block behind the host's units
  pub same_over : (unit : ℕ) (entries : List VType) → most ≤ unit → unit + length (units_of_entries entries) ≤ length locals → AreFree entries
      → SameBefore most locals (overlaid unit (units_of_entries entries) locals)
  same_over unit entries behind fits none = record {
    long = block_long unit (units_of_entries entries) locals fits;
    same = λ n before. get_outside unit (units_of_entries entries) locals fits n (inl (omega (arith, before, behind)));
    no_this = λ n least is. elim (where_is unit (length (units_of_entries entries)) n) [
      | outside out ↦ free n least (sym (get_outside unit (units_of_entries entries) locals fits n out) ∙ is)
      | inside m place within ↦
          units_free entries none m
          (sym (get_inside unit (units_of_entries entries) locals fits m within)
          ∙ ap (slice_get (overlaid unit (units_of_entries entries) locals)) (sym place)
          ∙ is)
    ];
  }

  -- one store
  store_typed : (number : ℕ) (now below : List VType) (type : VType) (argument : Argument)
      → IsOfKind argument.kind type
      → HasRoom argument.kind now argument.unit
      → point_at flat number
      ≡ Some (point_in t at (record { locals = now; stack = below ++ type ∷ [] }) (Store argument.kind argument.unit))
      → MayGoToPoint classes s flat (Some (read_frame flat (record { locals = stored argument.unit type now; stack = below }))) (number + 1)
      → SameBefore most locals now
      → TypesPoint classes s flat number
      (point_in t at (record { locals = now; stack = below ++ type ∷ [] }) (Store argument.kind argument.unit))
  store_typed number now below type argument kind room there after same =
      let point = point_in t at (record { locals = now; stack = below ++ type ∷ [] }) (Store argument.kind argument.unit) in
      let read = map (read_type flat) (below ++ type ∷ []) in
      let split : read ≡ map (read_type flat) below ++ read_type flat type ∷ [] = map-append (read_type flat) below (type ∷ []) in
      let top : topmost 1 read ≡ read_type flat type ∷ [] =
      ap (topmost 1) split ∙ topmost_back (map (read_type flat) below) (read_type flat type ∷ []) in
      let lowest : lowest_of 1 read ≡ read_type flat type =
      ap (lowest_of 1) split ∙ lowest_back (map (read_type flat) below) (read_type flat type) in
      let left : under 1 read ++ [] ≡ map (read_type flat) below =
      append-nil (under 1 read) ∙ ap (under 1) split ∙ under_back (map (read_type flat) below) (read_type flat type ∷ []) in
      let fit : AllFit (instr_scope classes s flat point.instr) (of_kind argument.kind ∷ []) (topmost 1 read) =
      subst (AllFit (instr_scope classes s flat point.instr) (of_kind argument.kind ∷ [])) (sym top) (read_kind flat argument.kind type kind, tt) in
      let few = no_deeper flat.points number point.typed (ap (option_map (λ (p : Point). p.typed)) there) in
      let two = two_each (under 1 read ++ []) in
      let many = ap (λ (l : List VType). length l) left in
      let counted = length-map below (read_type flat) in
      let all = length-append below (type ∷ []) in
      goes_typed classes s flat number point (read_frame flat (record { locals = stored argument.unit type now; stack = below }))
      (record {
        operands = fit;
        local = room_read argument.kind room;
        depth_fits = omega (arith, few, two, many, counted, all);
        further = tt;
        access = tt;
      })
      (ap (λ (f : Frame). Some f) (λ i. record {
        locals =
            (ap (λ (one : VType). stored argument.unit one (map (read_type flat) now)) lowest ∙ stored_read flat argument.unit type now) i;
        stack = left i;
      }))
      after refl (catches now same)
    where
      room_read : (kind : Kind) → HasRoom kind now argument.unit → HasRoom kind (map (read_type flat) now) argument.unit
      room_read kinds.Long has = omega (arith, has, length-map now (read_type flat))
      room_read kinds.Double has = omega (arith, has, length-map now (read_type flat))
      room_read kinds.Int has = omega (arith, has, length-map now (read_type flat))
      room_read kinds.Float has = omega (arith, has, length-map now (read_type flat))
      room_read kinds.Ref has = omega (arith, has, length-map now (read_type flat))

  -- All stores.
  pub stores_typed : (unit : ℕ) (args : List Argument) (entries below : List VType) → ArgumentsLaid unit args entries
      → most ≤ unit
      → unit + length (units_of_entries entries) ≤ length locals
      → IsClear unit locals
      → TopsFrom unit locals
      → AreFree entries
      → (number : ℕ)
      → ((n : ℕ) (point : Point)
      → slice_get (store_points t at (record { locals = locals; stack = below ++ entries }) (reverse args)) n ≡ Some point
      → point_at flat (number + n) ≡ Some point)
      → MayGoToPoint classes s flat (Some (read_frame flat (record { locals = overlaid unit (units_of_entries entries) locals; stack = below })))
      (number + length args)
      → (n : ℕ) (point : Point)
      → slice_get (store_points t at (record { locals = locals; stack = below ++ entries }) (reverse args)) n ≡ Some point
      → TypesPoint classes s flat (number + n) point
  stores_typed unit args entries below laid behind fits clear tops none number there after n point is =
      stores_hold flat t at locals most (λ frame number. MayGoToPoint classes s flat (Some (read_frame flat frame)) number) (TypesPoint classes s flat)
      (λ number own here. subst (MayGoTo (host_scope classes s flat) (Some (read_frame flat own.typed)))
      (sym (read_there classes s flat number own own.typed here refl)) (itself s.headers (read_frame flat own.typed)))
      (λ next more number below type argument behind fits none kind room here after.
      store_typed number (overlaid next (units_of_entries more) locals) below type argument kind room here after (same_over next more behind fits none))
      unit args entries below laid behind fits clear tops none number there after n point is
