-- The typed points of flat code type it, if those of instructions that stay, of entries and of returns do.
use Rattle.same_runs.specs.TypedFlats.{MayGoToPoint, TypesFlat, TypesPoint}
use Rattle.std.proofs.Common.{◌≡◌, ◌≢◌, ◌==◌, ◌+◌, ℕ, zero, suc, Bool, true, false, List, [], ◌∷◌, ◌++◌, map, reverse, slice_get, Option, Some, None, if◌then◌else◌, refl, sym, ap, subst, ◌∙◌, arith, inl, inr}
use Rattle.std.specs.Prelude.{IsSome}
use Rattle.std.specs.List.{AllByRecursion, flat_map}
use Rattle.std.proofs.lemmas.Option.{none-some, same_Some}
use Rattle.class_model.specs.Laws.Lists.{at_index}
use Rattle.class_model.specs.PoolChecks.{class_at}
use Rattle.class_model.specs.declared.class_file.Handler.{Handler}
use Rattle.class_model.specs.declared.class_file.MethodAt.{MethodAt}
use Rattle.class_model.specs.declared.descriptor.Kind.{Kind}
use Rattle.class_model.specs.declared.frame.Frame.{Frame}
use Rattle.class_model.specs.declared.frame.VType.TheVariants as types
use Rattle.class_model.specs.declared.instr.Instr.{Instr}
use Rattle.class_model.specs.declared.instr.Instr.TheVariants.{Goto, Return}
use Rattle.class_model.specs.declared.instr.Placed.{Placed}
use Rattle.class_tree.specs.Headers.{Classes, Headers, Name, headers_of}
use Rattle.class_tree.specs.Names.{throwable}
use Rattle.expanded_code.specs.Alone.{handler_by}
use Rattle.expanded_code.specs.Expanded.{Argument, Narrowing, Setting, arguments, callee_of, expanded, frame_behind_stores, frame_stored, instr_points, own_narrowing, own_points, point_in, points_of_entry, return_points, set_frame, store_points, test_points, tests_receiver}
use Rattle.expanded_code.specs.Expansions.{Coded, Expansion}
use Rattle.expanded_runs.proofs.Runs.PositionLaws.{next_start, width}
use Rattle.expanded_runs.proofs.Runs.Positions.{Becomes, Standing, becomes, block_of, frames_of, host_standing, instrs_of, start_of}
use Rattle.expanded_runs.proofs.Runs.Standings.{IsStanding, Stands, callee_stands, host_stands}
use Rattle.expanded_runs.proofs.Types.FlatParts.{EntryPart, IsOwn, OwnPart, Part, own_remains, own_site, part_of}
use Rattle.expanded_runs.proofs.Types.FrameFacts.{FrameFacts}
use Rattle.expanded_runs.proofs.Types.Handlers.{handlers_typed, same_itself}
use Rattle.expanded_runs.proofs.Types.OwnPoints.{PlacedRow, TypingLaws, own_headers, own_point, own_point_typed, own_typed}
use Rattle.flow_code.specs.TypedFrames.{FolderFrames}
use Rattle.flow_code.specs.declared.handlers.FlatHandler.{FlatHandler}
use Rattle.flow_code.specs.declared.point.Point.{Point}
use Rattle.member_link.specs.Bodies.{BodyCaught}
use Rattle.member_link.specs.BodyTyping.{IsThrowable}
use Rattle.member_link.specs.Machine.Codes.{covers}
use Rattle.member_link.specs.Scope.{Scope}
use Rattle.same_runs.specs.FlatBodies.{caught_class, flat_entry, handlers_from}
use Rattle.type_rules.specs.Handlers.{caught, caught_in}
use Rattle.type_rules.specs.Verified.{TypesFolder}

-- ---- what each point has around it

abbrev pub HasHandlers : List FlatHandler → Point → Type 0
HasHandlers handlers point = point.handlers ≡ handlers

all_joined : {A : Type 0} (P : A → Type 0) (ones others : List A) → AllByRecursion P ones → AllByRecursion P others → AllByRecursion P (ones ++ others)
all_joined P [] others all also = also
all_joined P (one ∷ ones) others all also = (all.0, all_joined P ones others all.1 also)

returns_have : (t : Setting) (at : ℕ) (typed : Frame) (behind : ℕ) → AllByRecursion (HasHandlers (t.handlers at)) (return_points t at typed behind)
returns_have t at typed behind =
    all_joined (HasHandlers (t.handlers at))
    (map (λ (n : Narrowing). point_in t at (record typed { stack = typed.stack ++ n.above }) n.instr) (own_narrowing t.coded.scope))
    (point_in t at typed (Goto behind) ∷ []) (narrowed (own_narrowing t.coded.scope)) (refl, tt) where
      narrowed : (all : List Narrowing)
          → AllByRecursion (HasHandlers (t.handlers at))
          (map (λ (n : Narrowing). point_in t at (record typed { stack = typed.stack ++ n.above }) n.instr) all)
      narrowed [] = tt
      narrowed (n ∷ all) = (refl, narrowed all)

pub instr_have : (t : Setting) (placed : Placed) (frame : Frame) → AllByRecursion (HasHandlers (t.handlers placed.at)) (instr_points t placed frame)
instr_have t placed frame = by t.behind refl placed.instr refl where
  by : (behind : Option ℕ) → t.behind ≡ behind → (instr : Instr) → placed.instr ≡ instr
      → AllByRecursion (HasHandlers (t.handlers placed.at)) (instr_points t placed frame)
  by None b instr i = rw (b) (refl, tt)
  by (Some behind) b (Return kind) i = rw (b, i) (returns_have t placed.at (set_frame t frame) behind)
  by (Some behind) b instr i = rw (b, i) (refl, tt)

pub entry_have : (t : Setting) (at : ℕ) (frame : Frame) (callee : Scope) (unit : ℕ)
    → AllByRecursion (HasHandlers (t.handlers at)) (points_of_entry t at frame callee unit)
entry_have t at frame callee unit =
    all_joined (HasHandlers (t.handlers at)) (store_points t at frame (reverse (arguments callee unit)))
    (test_points t at (frame_behind_stores frame (reverse (arguments callee unit))) callee unit)
    (stored frame (reverse (arguments callee unit))) (tested _) where
      stored : (frame : Frame) (all : List Argument) → AllByRecursion (HasHandlers (t.handlers at)) (store_points t at frame all)
      stored frame [] = tt
      stored frame (argument ∷ others) = (refl, stored (frame_stored frame argument) others)

      tested : (frame : Frame) → AllByRecursion (HasHandlers (t.handlers at)) (test_points t at frame callee unit)
      tested frame = by (tests_receiver callee) refl where
        by : (tests : Bool) → tests_receiver callee ≡ tests → AllByRecursion (HasHandlers (t.handlers at)) (test_points t at frame callee unit)
        by true is = rw (is) (refl, tt)
        by false is = rw (is) tt

-- an instruction that stays has one point, and a return of a callee those of a return
pub remains_none : (t : Setting) (placed : Placed) (frame : Frame) → t.behind ≡ None → instr_points t placed frame ≡ own_point t placed frame ∷ []
remains_none t placed frame b = rw (b) refl

pub returns_some : (t : Setting) (placed : Placed) (frame : Frame) (behind : ℕ) (kind : Option Kind) → t.behind ≡ Some behind → placed.instr ≡ Return kind
    → instr_points t placed frame ≡ return_points t placed.at (set_frame t frame) behind
returns_some t placed frame behind kind b i = rw (b, i) refl

pub remains_some : (t : Setting) (placed : Placed) (frame : Frame) (behind : ℕ) → t.behind ≡ Some behind
    → ((kind : Option Kind) → placed.instr ≢ Return kind)
    → instr_points t placed frame ≡ own_point t placed frame ∷ []
remains_some t placed frame behind b other = by placed.instr refl where
  by : (instr : Instr) → placed.instr ≡ instr → instr_points t placed frame ≡ own_point t placed frame ∷ []
  by (Return kind) i = absurd (other kind i)
  by instr i = rw (b, i) refl

one_point : (t : Setting) (placed : Placed) (behind : ℕ) → t.behind ≡ Some behind → ((kind : Option Kind) → placed.instr ≢ Return kind)
    → own_points (callee_of t) placed.instr ≡ 1
one_point t placed behind b other = by placed.instr refl where
  by : (instr : Instr) → placed.instr ≡ instr → own_points (callee_of t) placed.instr ≡ 1
  by (Return kind) i = absurd (other kind i)
  by instr i = rw (b, i) refl

-- ---- what handlers catch

module _ (headers : Headers) where
  abbrev Throws : FlatHandler → Type 0
  Throws handler = IsThrowable headers (caught_class handler.catch_class)

  module _ (s : Scope) (number : ℕ → ℕ) (place : ℕ) where
    one_throws : (handler : Handler) → IsThrowable headers (caught s handler) → AllByRecursion Throws (handler_by s number handler)
    one_throws handler is = by (handler.catch_type == 0) refl (class_at s.class.pool handler.catch_type) refl where
      by : (any : Bool) → (handler.catch_type == 0) ≡ any → (class : Option Name) → class_at s.class.pool handler.catch_type ≡ class
          → AllByRecursion Throws (handler_by s number handler)
      by true any class named =
          rw (any) (subst (λ (b : Bool). IsThrowable headers (if b then Some throwable else class_at s.class.pool handler.catch_type)) any is, tt)
      by false any None named = rw (any, named) tt
      by false any (Some name) named =
          let one : IsThrowable headers (Some name) =
          subst (IsThrowable headers) named
          (subst (λ (b : Bool). IsThrowable headers (if b then Some throwable else class_at s.class.pool handler.catch_type)) any is) in
          rw (any, named) (one, tt)

    all_throw : (handlers : List Handler) → AllByRecursion (λ (entry : BodyCaught). IsThrowable headers entry.class) (map (caught_in s) handlers)
        → AllByRecursion Throws (flat_map (λ (handler : Handler). if covers handler place then handler_by s number handler else []) handlers)
    all_throw [] all = tt
    all_throw (handler ∷ handlers) all =
        all_joined Throws (if covers handler place then handler_by s number handler else [])
        (flat_map (λ (handler : Handler). if covers handler place then handler_by s number handler else []) handlers)
        (by (covers handler place)) (all_throw handlers all.1) where
          by : (around : Bool) → AllByRecursion Throws (if around then handler_by s number handler else [])
          by true = one_throws handler all.0
          by false = tt

  -- the table of flat code
  table_throws : (points : List Point) (number : ℕ)
      → ((n : ℕ) (point : Point) → slice_get points n ≡ Some point → AllByRecursion Throws point.handlers)
      → AllByRecursion (λ (entry : BodyCaught). IsThrowable headers entry.class) (handlers_from number points)
  table_throws [] number each = tt
  table_throws (point ∷ points) number each =
      all_joined (λ (entry : BodyCaught). IsThrowable headers entry.class)
      (map (λ (handler : FlatHandler). record { start = number; class = caught_class handler.catch_class }) point.handlers)
      (handlers_from (suc number) points) (own point.handlers (each 0 point refl)) (table_throws points (suc number) (λ n. each (suc n))) where
        own : (handlers : List FlatHandler) → AllByRecursion Throws handlers
            → AllByRecursion (λ (entry : BodyCaught). IsThrowable headers entry.class)
            (map (λ (handler : FlatHandler). record { start = number; class = caught_class handler.catch_class }) handlers)
        own [] all = tt
        own (handler ∷ handlers) all = (all.0, own handlers all.1)

-- ---- the whole

module _ (laws : TypingLaws) {classes : Classes} {typed : FolderFrames} (folder : TypesFolder classes typed) (facts : FrameFacts classes typed)
    (host : Coded) (e : Expansion) (stands : (chain : List MethodAt) (p : Standing) → IsStanding host e chain p → Stands classes typed host e chain p)
    (s : Scope) (headers : s.headers ≡ headers_of classes)
    (this_known : (chain : List MethodAt) (p : Standing) → IsStanding host e chain p → IsSome p.setting.behind → p.setting.this ≢ types.UninitThis) where
  -- What is asked of the rows of instructions that stay, and of the points of entries and returns.
  pub record TypesParts : Type 0 where
    pub rows : (chain : List MethodAt) (p : Standing) → IsStanding host e chain p → (k : ℕ) (placed : Placed) (frame : Frame)
        → slice_get (instrs_of p) k ≡ Some placed
        → slice_get (frames_of p) k ≡ Some frame
        → IsOwn (becomes p.expansion k)
        → (p.setting.behind ≢ None → (kind : Option Kind) → placed.instr ≢ Return kind)
        → PlacedRow classes s (expanded host e) p.setting (start_of p k) placed frame
    pub returns : (chain : List MethodAt) (p : Standing) → IsStanding host e chain p → (k : ℕ) (placed : Placed) (frame : Frame)
        → slice_get (instrs_of p) k ≡ Some placed
        → slice_get (frames_of p) k ≡ Some frame
        → IsOwn (becomes p.expansion k)
        → (behind : ℕ) → p.setting.behind ≡ Some behind
        → (kind : Option Kind) → placed.instr ≡ Return kind
        → (n : ℕ) (point : Point) → slice_get (return_points p.setting placed.at (set_frame p.setting frame) behind) n ≡ Some point
        → TypesPoint classes s (expanded host e) (start_of p k + n) point
    pub entries : (number : ℕ) (point : Point) → EntryPart host e number point → TypesPoint classes s (expanded host e) number point
    pub begins : MayGoToPoint classes s (expanded host e) (Some (flat_entry s (expanded host e))) 0

  module _ (parts : TypesParts) where
    -- an instruction that stays
    own_goes : {chain : List MethodAt} {p : Standing} (standing : IsStanding host e chain p) (k : ℕ) (placed : Placed) (frame : Frame)
        → (is : slice_get (instrs_of p) k ≡ Some placed)
        → (has : slice_get (frames_of p) k ≡ Some frame)
        → IsOwn (becomes p.expansion k)
        → (p.setting.behind ≢ None → (kind : Option Kind) → placed.instr ≢ Return kind)
        → own_points (callee_of p.setting) placed.instr ≡ 1
        → TypesPoint classes s (expanded host e) (start_of p k) (own_point p.setting placed frame)
    own_goes {chain} {p} standing k placed frame is has own stays count =
        own_point_typed laws folder facts host e stands s headers standing k placed frame is has
        (parts.rows chain p standing k placed frame is has own stays)
        (next_start (callee_of p.setting) p.first (instrs_of p) p.expansion k placed is ∙ ap (λ (n : ℕ). start_of p k + n) (wide (becomes p.expansion k) own ∙ count))
        (handlers_typed laws folder facts host e stands s headers this_known standing k placed frame is has (set_frame p.setting frame).locals
        (same_itself laws folder facts host e stands s headers this_known standing k frame has)) where
          wide : (b : Becomes) → IsOwn b → width (callee_of p.setting) placed b ≡ own_points (callee_of p.setting) placed.instr
          wide _ own_remains = refl
          wide _ own_site = refl

    own_typed_so : (number : ℕ) (point : Point) → OwnPart host e number point → TypesPoint classes s (expanded host e) number point
    own_typed_so number point part =
        subst (λ (n : ℕ). TypesPoint classes s (expanded host e) n point) (sym part.number_is)
        (by part.p.setting.behind refl part.placed.instr refl part.behind part.there) where
          alone : (n : ℕ)
              → (slice_get (own_point part.p.setting part.placed part.frame ∷ []) n ≡ Some point)
              → (part.p.setting.behind ≢ None → (kind : Option Kind) → part.placed.instr ≢ Return kind)
              → own_points (callee_of part.p.setting) part.placed.instr ≡ 1
              → TypesPoint classes s (expanded host e) (start_of part.p part.k + n) point
          alone zero there stays count =
              let here : start_of part.p part.k + 0 ≡ start_of part.p part.k = omega arith in
              subst (λ (n : ℕ). TypesPoint classes s (expanded host e) n point) (sym here)
              (subst (TypesPoint classes s (expanded host e) (start_of part.p part.k)) (same_Some (own_point part.p.setting part.placed part.frame) point there)
              (own_goes part.standing part.k part.placed part.frame part.is part.has_frame part.own stays count))
          alone (suc n) there stays count = absurd (none-some point there)

          by : (behind : Option ℕ) → part.p.setting.behind ≡ behind → (instr : Instr) → part.placed.instr ≡ instr
              → (n : ℕ) → slice_get (instr_points part.p.setting part.placed part.frame) n ≡ Some point
              → TypesPoint classes s (expanded host e) (start_of part.p part.k + n) point
          by None b instr i n there =
              alone n
              (subst (λ (points : List Point). slice_get points n ≡ Some point) (remains_none part.p.setting part.placed part.frame b) there)
              (λ some. absurd (some b)) (rw (b) refl)
          by (Some behind) b (Return kind) i n there =
              parts.returns part.chain part.p part.standing part.k part.placed part.frame part.is part.has_frame part.own behind b kind i n point
              (subst (λ (points : List Point). slice_get points n ≡ Some point)
              (returns_some part.p.setting part.placed part.frame behind kind b i) there)
          by (Some behind) b instr i n there =
              let other : (kind : Option Kind) → part.placed.instr ≢ Return kind =
              λ kind is. let e : instr ≡ Return kind = sym i ∙ is in cc in
              alone n
              (subst (λ (points : List Point). slice_get points n ≡ Some point)
              (remains_some part.p.setting part.placed part.frame behind b other) there)
              (λ some. other) (one_point part.p.setting part.placed behind b other)

    -- each part
    part_typed : (number : ℕ) (point : Point) → Part host e number point → TypesPoint classes s (expanded host e) number point
    part_typed number point (inl own) = own_typed_so number point own
    part_typed number point (inr entry) = parts.entries number point entry

    -- the handlers around what stands there catch throwables
    handlers_throw : {chain : List MethodAt} {p : Standing} → IsStanding host e chain p → (at : ℕ)
        → AllByRecursion (Throws s.headers) (p.setting.handlers at)
    handlers_throw host_stands at =
        all_throw s.headers host.scope _ at host.scope.part.handlers
        (subst (λ (h : Headers). AllByRecursion (λ (entry : BodyCaught). IsThrowable h entry.class) (map (caught_in host.scope) host.scope.part.handlers))
        (own_headers laws folder facts host e stands s headers host_stands)
        (own_typed laws folder facts host e stands s headers host_stands).has.catch_types)
    handlers_throw (callee_stands k placed frame g inner below is) at = handlers_throw below placed.at

    part_throws : (number : ℕ) (point : Point) → Part host e number point → AllByRecursion (Throws s.headers) point.handlers
    part_throws number point (inl own) =
        let handlers = at_index (HasHandlers (own.p.setting.handlers own.placed.at)) (instr_points own.p.setting own.placed own.frame) own.behind point
        (instr_have own.p.setting own.placed own.frame) own.there in
        subst (AllByRecursion (Throws s.headers)) (sym handlers) (handlers_throw own.standing own.placed.at)
    part_throws number point (inr entry) =
        let t = entry.p.setting in
        let handlers = at_index (HasHandlers (t.handlers entry.placed.at))
        (points_of_entry t entry.placed.at (set_frame t entry.frame) entry.g.scope (block_of entry.p entry.k)) entry.behind point
        (entry_have t entry.placed.at (set_frame t entry.frame) entry.g.scope (block_of entry.p entry.k)) entry.there in
        subst (AllByRecursion (Throws s.headers)) (sym handlers) (handlers_throw entry.standing entry.placed.at)

    -- The typed points type the flat code.
    pub types_flat : TypesFlat classes s (expanded host e)
    types_flat = record {
      catch_types = table_throws s.headers (expanded host e).points zero
          (λ n point is. part_throws n point (part_of host e (stands [] (host_standing host e) host_stands).fits n point is));
      entry = parts.begins;
      points = λ number point is. part_typed number point (part_of host e (stands [] (host_standing host e) host_stands).fits number point is);
    }
