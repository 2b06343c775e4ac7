-- The frame that a host begins with, with all units of its flat code, may stand for the first point of the flat code.
use Rattle.flow_code.specs.ReadTypes.{read_type}
use Rattle.same_runs.specs.TypedFlats.{MayGoToPoint}
use Rattle.std.proofs.Common.{◌≡◌, ◌+◌, ◌-◌, ◌≤◌, ◌++◌, ℕ, zero, suc, Bool, true, false, List, [], ◌∷◌, length, map, drop, replicate, slice_get, Option, Some, None, refl, sym, ap, subst, ◌∙◌, arith}
use Rattle.std.proofs.lemmas.List.{append_assoc, drop-replicate, length-append, length-map, length-replicate, map-append, replicate-append-replicate}
use Rattle.class_model.specs.Code.{verification_type}
use Rattle.class_model.specs.Descriptors.{parameters_of}
use Rattle.class_model.specs.Frames.{units, units_of_entries}
use Rattle.class_model.specs.Members.{STATIC, has, is_text}
use Rattle.class_model.specs.Methods.{home_of}
use Rattle.class_model.specs.Names.{init}
use Rattle.class_model.specs.PoolChecks.{text_or_empty, utf8_at}
use Rattle.class_model.specs.declared.class_file.CodePart.{CodePart}
use Rattle.class_model.specs.declared.class_file.MethodAt.{MethodAt}
use Rattle.class_model.specs.declared.descriptor.FieldType.{FieldType}
use Rattle.class_model.specs.declared.descriptor.FieldType.TheVariants as field_types
use Rattle.class_model.specs.declared.frame.Frame.{Frame}
use Rattle.class_model.specs.declared.frame.VType.{VType}
use Rattle.class_model.specs.declared.frame.VType.TheVariants as types
use Rattle.class_tree.specs.Headers.{Classes, Name, headers_of}
use Rattle.expanded_code.specs.Expanded.{Setting, expanded, host_setting, set_frame, set_type}
use Rattle.expanded_code.specs.Expansions.{Coded, Expansion}
use Rattle.expanded_runs.proofs.Runs.Positions.{Standing, host_standing}
use Rattle.expanded_runs.proofs.Runs.Standings.{IsStanding, Stands, host_stands}
use Rattle.expanded_runs.proofs.Types.Edges.{frame_kept, placed_frame}
use Rattle.expanded_runs.proofs.Types.EntryFrames.{this_of}
use Rattle.expanded_runs.proofs.Types.FrameFacts.{FrameFacts, frame_fits}
use Rattle.expanded_runs.proofs.Types.OwnPoints.{TypingLaws, goes_to}
use Rattle.expanded_runs.proofs.Types.Units.{as_long}
use Rattle.flow_code.specs.FlatCode.{FlatCode}
use Rattle.flow_code.specs.TypedFrames.{FolderFrames}
use Rattle.member_link.specs.Rows.FrameAssignability.{IsFrameAssignable}
use Rattle.member_link.specs.Scope.{Scope, own_descriptor}
use Rattle.same_runs.specs.FlatBodies.{flat_entry}
use Rattle.type_rules.specs.Stated.{entry}
use Rattle.type_rules.specs.Verified.{TypesFolder}

-- ---- the units that are listed where a method begins

abbrev listed_by : Bool → Scope → List VType
listed_by true s = units_of_entries (map verification_type (parameters_of (own_descriptor s)))
listed_by false s = this_of s ∷ units_of_entries (map verification_type (parameters_of (own_descriptor s)))

abbrev listed : Scope → List VType
listed s = listed_by (has s.method.flags STATIC) s

entry_is : (s : Scope) → (entry s).locals ≡ listed s ++ replicate (s.part.max_locals - length (listed s)) types.Top
entry_is s = by (has s.method.flags STATIC) refl (is_text init (Some (text_or_empty (utf8_at s.class.pool s.method.name)))) refl (home_of s.class).name refl where
  by : (static : Bool) → has s.method.flags STATIC ≡ static
      → (constructs : Bool) → is_text init (Some (text_or_empty (utf8_at s.class.pool s.method.name))) ≡ constructs
      → (name : Option Name) → (home_of s.class).name ≡ name
      → (entry s).locals ≡ listed s ++ replicate (s.part.max_locals - length (listed s)) types.Top
  by true static constructs is name named = rw (static) refl
  by false static true is name named = rw (static, is) refl
  by false static false is None named = rw (static, is, named) refl
  by false static false is (Some class) named = rw (static, is, named) refl

-- whatever the code is
this_part : (s : Scope) (part : CodePart) → this_of (record s { part = part }) ≡ this_of s
this_part s part = by (is_text init (Some (text_or_empty (utf8_at s.class.pool s.method.name)))) refl (home_of s.class).name refl where
  by : (constructs : Bool) → is_text init (Some (text_or_empty (utf8_at s.class.pool s.method.name))) ≡ constructs
      → (name : Option Name) → (home_of s.class).name ≡ name
      → this_of (record s { part = part }) ≡ this_of s
  by true is name named = rw (is) refl
  by false is None named = rw (is, named) refl
  by false is (Some class) named = rw (is, named) refl

listed_part : (s : Scope) (part : CodePart) → listed (record s { part = part }) ≡ listed s
listed_part s part = by (has s.method.flags STATIC) where
  by : (static : Bool) → listed_by static (record s { part = part }) ≡ listed_by static s
  by true = refl
  by false =
      ap (λ (type : VType). type ∷ units_of_entries (map verification_type (parameters_of (own_descriptor s)))) (this_part s part)

-- ---- they are read as they are

module _ (flat : FlatCode) (t : Setting) (this : t.this ≡ types.UninitThis) where
  abbrev read : List VType → List VType
  read entries = map (read_type flat) (map (set_type t) entries)

  unit_same : (type : FieldType) → map (read_type flat) (map (set_type t) (units (verification_type type))) ≡ units (verification_type type)
  unit_same (field_types.Named name) = refl
  unit_same field_types.Byte = refl
  unit_same field_types.Char = refl
  unit_same field_types.Short = refl
  unit_same field_types.Bool = refl
  unit_same field_types.Int = refl
  unit_same field_types.Long = refl
  unit_same field_types.Float = refl
  unit_same field_types.Double = refl

  both_same : (ones others : List VType) → map (read_type flat) (map (set_type t) ones) ≡ ones
      → map (read_type flat) (map (set_type t) others) ≡ others
      → map (read_type flat) (map (set_type t) (ones ++ others)) ≡ ones ++ others
  both_same ones others one other =
      ap (map (read_type flat)) (map-append (set_type t) ones others)
      ∙ map-append (read_type flat) (map (set_type t) ones) (map (set_type t) others)
      ∙ ap (λ (l : List VType). l ++ map (read_type flat) (map (set_type t) others)) one
      ∙ ap (λ (l : List VType). ones ++ l) other

  params_same : (params : List FieldType)
      → map (read_type flat) (map (set_type t) (units_of_entries (map verification_type params))) ≡ units_of_entries (map verification_type params)
  params_same [] = refl
  params_same (type ∷ params) =
      both_same (units (verification_type type)) (units_of_entries (map verification_type params)) (unit_same type) (params_same params)

  this_same : (s : Scope) → read_type flat (set_type t (this_of s)) ≡ this_of s
  this_same s = by (is_text init (Some (text_or_empty (utf8_at s.class.pool s.method.name)))) refl (home_of s.class).name refl where
    by : (constructs : Bool) → is_text init (Some (text_or_empty (utf8_at s.class.pool s.method.name))) ≡ constructs
        → (name : Option Name) → (home_of s.class).name ≡ name
        → read_type flat (set_type t (this_of s)) ≡ this_of s
    by true is name named = rw (is) (ap (read_type flat) this)
    by false is None named = rw (is, named) refl
    by false is (Some class) named = rw (is, named) refl

  listed_same : (s : Scope) → map (read_type flat) (map (set_type t) (listed s)) ≡ listed s
  listed_same s = by (has s.method.flags STATIC) where
    by : (static : Bool) → map (read_type flat) (map (set_type t) (listed_by static s)) ≡ listed_by static s
    by true = params_same (parameters_of (own_descriptor s))
    by false = λ i. this_same s i ∷ params_same (parameters_of (own_descriptor s)) i

  tops_same : (count : ℕ) → map (read_type flat) (map (set_type t) (replicate count types.Top)) ≡ replicate count types.Top
  tops_same zero = refl
  tops_same (suc count) = ap (λ (l : List VType). types.Top ∷ l) (tops_same count)

  read_tops : (count : ℕ) → map (read_type flat) (replicate count types.Top) ≡ replicate count types.Top
  read_tops zero = refl
  read_tops (suc count) = ap (λ (l : List VType). types.Top ∷ l) (read_tops count)

  entry_same : (s : Scope) → map (read_type flat) (map (set_type t) (entry s).locals) ≡ (entry s).locals
  entry_same s =
      ap (λ (l : List VType). map (read_type flat) (map (set_type t) l)) (entry_is s)
      ∙ both_same (listed s) (replicate (s.part.max_locals - length (listed s)) types.Top) (listed_same s)
      (tops_same (s.part.max_locals - length (listed s)))
      ∙ sym (entry_is s)

-- ---- the host

module _ (laws : TypingLaws) {classes : Classes} {typed : FolderFrames} (folder : TypesFolder classes typed) (facts : FrameFacts classes typed)
    (host : Coded) (e : Expansion) (stands : (chain : List MethodAt) (p : Standing) → IsStanding host e chain p → Stands classes typed host e chain p)
    (headers : host.scope.headers ≡ headers_of classes) where
  abbrev flat : FlatCode
  flat = expanded host e

  locals_same : (long : length (entry host.scope).locals ≡ host.scope.part.max_locals)
      → map (read_type (expanded host e)) (set_frame (host_setting host e) (entry host.scope)).locals ≡ (flat_entry host.scope (expanded host e)).locals
  locals_same long =
      let t = host_setting host e in
      let s = host.scope in
      let most = s.part.max_locals in
      let all = (expanded host e).locals in
      let own = map (set_type t) (entry s).locals in
      let rest : List VType = drop (0 + length own) (replicate all types.Top) in
      let count : 0 + length own ≡ most = omega (arith, length-map (entry s).locals (set_type t), long) in
      let few : length (listed s) ≤ most =
      omega (
        arith,
        long,
        ap length (entry_is s),
        length-append (listed s) (replicate (most - length (listed s)) types.Top),
        length-replicate (most - length (listed s)) types.Top,
      ) in
      let tops : map (read_type flat) rest ≡ replicate (all - most) types.Top =
      ap (λ (n : ℕ). map (read_type flat) (drop n (replicate all types.Top))) count
      ∙ ap (map (read_type flat)) (drop-replicate most all types.Top)
      ∙ read_tops flat t refl (all - most) in
      let sum : most - length (listed s) + (all - most) ≡ all - length (listed s) = omega (arith, few) in
      map-append (read_type flat) own rest
      ∙ ap (λ (l : List VType). l ++ map (read_type flat) rest) (entry_same flat t refl s)
      ∙ ap (λ (l : List VType). (entry s).locals ++ l) tops
      ∙ ap (λ (l : List VType). l ++ replicate (all - most) types.Top) (entry_is s)
      ∙ append_assoc (listed s) (replicate (most - length (listed s)) types.Top) (replicate (all - most) types.Top)
      ∙ ap (λ (l : List VType). listed s ++ l) (replicate-append-replicate (most - length (listed s)) (all - most) types.Top)
      ∙ ap (λ (n : ℕ). listed s ++ replicate n types.Top) sum
      ∙ ap (λ (l : List VType). l ++ replicate (all - length l) types.Top) (sym (listed_part s (record s.part { max_locals = all })))
      ∙ sym (entry_is (record s { part = record s.part { max_locals = all } }))

  -- It begins with its first point.
  pub host_begins : (first : Frame) → slice_get host.frames 0 ≡ Some first
      → MayGoToPoint classes host.scope (expanded host e) (Some (flat_entry host.scope (expanded host e))) 0
  host_begins first is =
      let t = host_setting host e in
      let st = stands [] (host_standing host e) host_stands in
      let entered = facts.entered host.at host.scope host.frames st.has first is in
      let long = as_long host.scope.headers (entry host.scope).locals first.locals entered.locals
      ∙ facts.long host.at host.scope host.frames st.has 0 first is in
      let fits = frame_fits facts host e stands host_stands 0 first is in
      let same = as_long host.scope.headers (entry host.scope).locals first.locals entered.locals in
      let kept = frame_kept flat t host.scope.headers (entry host.scope) first (omega (arith, fits, same)) entered in
      let frame_same : placed_frame flat t (entry host.scope) ≡ flat_entry host.scope flat =
      λ i. record { locals = locals_same long i; stack = [] } in
      goes_to laws folder facts host e stands host.scope headers host_stands 0 first is (flat_entry host.scope flat)
      (subst (λ (f : Frame). IsFrameAssignable host.scope.headers f (placed_frame flat t first)) frame_same kept)
