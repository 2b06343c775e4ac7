-- Types that an instruction changes: where what agrees is changed alike, it agrees.
use Rattle.std.proofs.Common.{◌≡◌, ◌==◌, ℕ, Bool, true, false, List, [], ◌∷◌, ◌++◌, length, map, Option, Some, None, if◌then◌else◌, refl, sym, ap, subst, ◌∙◌, inl, inr}
use Rattle.std.specs.List.{AllByRecursion}
use Rattle.std.proofs.lemmas.Bool.{eq-eqb, eqb-true}
use Rattle.class_model.specs.declared.frame.VType.{VType}
use Rattle.class_model.specs.declared.frame.VType.TheVariants as types
use Rattle.class_tree.specs.Headers.{Name}
use Rattle.flow_code.specs.ReadTypes.{class_of_site, read_type}
use Rattle.member_link.specs.References.{Reference}
use Rattle.member_link.specs.RowScope.{RowScope}
use Rattle.member_link.specs.Rows.MemberRows.{initialised_type}
use Rattle.member_link.specs.Rows.Table.{without_older}
use Rattle.plan_flow.specs.PlanScope.{PlanScope}
use Rattle.plan_flow.specs.Written.FramedCode.{is_of_point}
use Rattle.plan_flow.specs.Written.WrittenCode.{start_of}
use Rattle.same_runs.specs.Flats.{class_of_flat_new}
use Rattle.virtual_state.specs.declared.slot.Slot.{Slot}
use Rattle.virtual_state.specs.declared.slot.Slot.TheVariants.{Plain, Virt, Unusable}
use Rattle.written_types.proofs.AgreeLists.{AgreeAt}
use Rattle.written_types.proofs.WrittenTypes.{IsSteady, by_item, entry_types, item_top, own_types}
use Rattle.written_types.specs.FitsTypes.{HasItsNew, IsReachedNew}
use Rattle.written_types.specs.Inner.CarriedFrames.{AgreeIn}
use Rattle.written_types.specs.Writing.{Writing, scope_in}

-- ---- news that are written

-- a new that is reached, of no candidate site
pub record IsOwnNew (s : PlanScope) (reached : ℕ → Bool) (at : ℕ) : Type 0 where
  pub new : IsReachedNew s reached at
  pub no_site : class_of_site s.flat.sites at ≡ None

abbrev pub new_item : Writing → ℕ → ℕ
new_item w at = start_of w.form w.blocks (is_of_point at)

-- They stand at items of their own, which are news of the same classes.
pub record NewsStand (w : Writing) (reached : ℕ → Bool) : Type 0 where
  pub apart : (one other : ℕ) → IsOwnNew w.s reached one → IsOwnNew w.s reached other → new_item w one ≡ new_item w other → one ≡ other
  pub classes : (at : ℕ) (class : Name)
      → IsOwnNew w.s reached at
      → class_of_flat_new w.s.classes w.s.flat at ≡ Some class
      → (scope_in w).new_class (new_item w at) ≡ Some class

-- the same of a type that is read
abbrev pub HasOwnNew : PlanScope → (ℕ → Bool) → VType → Type 0
HasOwnNew s reached (types.Uninit at) = IsOwnNew s reached at
HasOwnNew s reached types.UninitThis = ⊥
HasOwnNew s reached type = Unit {0}

read_own : (s : PlanScope) (reached : ℕ → Bool) (type : VType) → HasItsNew s reached (read_type s.flat type)
    → HasOwnNew s reached (read_type s.flat type)
read_own s reached (types.Uninit at) new = by (class_of_site s.flat.sites at) refl where
  by : (found : Option (List ℕ)) → class_of_site s.flat.sites at ≡ found → HasOwnNew s reached (read_type s.flat (types.Uninit at))
  by None none =
      let is : read_type s.flat (types.Uninit at) ≡ types.Uninit at = rw none refl in
      subst (HasOwnNew s reached) (sym is) (record { new = subst (HasItsNew s reached) is new; no_site = none })
  by (Some class) some =
      let is : read_type s.flat (types.Uninit at) ≡ types.Object class = rw some refl in
      subst (HasOwnNew s reached) (sym is) tt
read_own s reached types.UninitThis new = new
read_own s reached types.Top new = tt
read_own s reached types.Int new = tt
read_own s reached types.Float new = tt
read_own s reached types.Long new = tt
read_own s reached types.Double new = tt
read_own s reached types.Null new = tt
read_own s reached (types.Object name) new = tt

pub all_own : (s : PlanScope) (reached : ℕ → Bool) (all : List VType) → AllByRecursion (HasItsNew s reached) (map (read_type s.flat) all)
    → AllByRecursion (HasOwnNew s reached) (map (read_type s.flat) all)
all_own s reached [] news = tt
all_own s reached (type ∷ all) news = (read_own s reached type news.0, all_own s reached all news.1)

-- ---- changes

-- A change of the flat code's types and one of those that are written.
pub record Alike (w : Writing) (reached : ℕ → Bool) (change written : VType → VType) : Type 0 where
  pub plain : (type one : VType) → HasOwnNew w.s reached type → AgreeAt one (by_item w type) → AgreeAt (written one) (by_item w (change type))
  pub steady : (type : VType) → IsSteady type → written type ≡ type

module _ (w : Writing) (reached : ℕ → Bool) (change written : VType → VType) (alike : Alike w reached change written) where
  rest_changed : (ones rest : List VType) → AllByRecursion IsSteady rest → AgreeIn ones rest → AgreeIn (map written ones) rest
  rest_changed [] [] steady agree = tt
  rest_changed [] (type ∷ rest) steady agree = absurd agree
  rest_changed (one ∷ ones) [] steady agree = absurd agree
  rest_changed (one ∷ ones) (type ∷ rest) steady agree = (by agree.0, rest_changed ones rest steady.1 agree.1) where
    by : AgreeAt one type → AgreeAt (written one) type
    by (inl top) = inl top
    by (inr same) = inr (ap written same ∙ alike.steady type steady.0)

  pub own_changed : (ones all : List VType) (slots : List Slot) (rest : List VType) → length all ≡ length slots
      → AllByRecursion (HasOwnNew w.s reached) all
      → AllByRecursion IsSteady rest
      → AgreeIn ones (own_types w all slots ++ rest)
      → AgreeIn (map written ones) (own_types w (map change all) slots ++ rest)
  own_changed ones [] [] rest long news steady agree = rest_changed ones rest steady agree
  own_changed ones [] (slot ∷ slots) rest long news steady agree = absurd cc
  own_changed ones (type ∷ all) [] rest long news steady agree = absurd cc
  own_changed [] (type ∷ all) (slot ∷ slots) rest long news steady agree = absurd agree
  own_changed (one ∷ ones) (type ∷ all) (Plain ∷ slots) rest long news steady agree = (
    alike.plain type one news.0 agree.0,
    own_changed ones all slots rest (let e : length all ≡ length slots = cc in e) news.1 steady agree.1,
  )
  own_changed (one ∷ ones) (type ∷ all) (Virt site ∷ slots) rest long news steady agree =
      (inl refl, own_changed ones all slots rest (let e : length all ≡ length slots = cc in e) news.1 steady agree.1)
  own_changed (one ∷ ones) (type ∷ all) (Unusable ∷ slots) rest long news steady agree =
      (inl refl, own_changed ones all slots rest (let e : length all ≡ length slots = cc in e) news.1 steady agree.1)

  pub entries_changed : (ones all : List VType) (slots : List Slot) → length all ≡ length slots
      → AllByRecursion (HasOwnNew w.s reached) all
      → AgreeIn ones (entry_types w all slots)
      → AgreeIn (map written ones) (entry_types w (map change all) slots)
  entries_changed [] [] [] long news agree = tt
  entries_changed (one ∷ ones) [] [] long news agree = absurd agree
  entries_changed ones [] (slot ∷ slots) long news agree = absurd cc
  entries_changed ones (type ∷ all) [] long news agree = absurd cc
  entries_changed [] (type ∷ all) (Plain ∷ slots) long news agree = absurd agree
  entries_changed (one ∷ ones) (type ∷ all) (Plain ∷ slots) long news agree = (
    alike.plain type one news.0 agree.0,
    entries_changed ones all slots (let e : length all ≡ length slots = cc in e) news.1 agree.1,
  )
  entries_changed ones (type ∷ all) (Virt site ∷ slots) long news agree =
      entries_changed ones all slots (let e : length all ≡ length slots = cc in e) news.1 agree
  entries_changed ones (type ∷ all) (Unusable ∷ slots) long news agree =
      entries_changed ones all slots (let e : length all ≡ length slots = cc in e) news.1 agree

-- what is named by an item, where numbers are those of news
module _ (w : Writing) (reached : ℕ → Bool) (news : NewsStand w reached) where
  same_test : (one other : ℕ) → IsOwnNew w.s reached one → IsOwnNew w.s reached other → (new_item w one == new_item w other) ≡ (one == other)
  same_test one other own also = by (one == other) refl where
    by : (b : Bool) → (one == other) ≡ b → (new_item w one == new_item w other) ≡ b
    by true is = ap (λ (n : ℕ). new_item w n == new_item w other) (eqb-true one other is) ∙ eq-eqb (new_item w other) (new_item w other) refl
    by false is = differs (new_item w one == new_item w other) refl where
      differs : (b : Bool) → (new_item w one == new_item w other) ≡ b → (new_item w one == new_item w other) ≡ false
      differs false not = not
      differs true same =
          absurd (cc (sym is ∙ eq-eqb one other (news.apart one other own also (eqb-true (new_item w one) (new_item w other) same))))

  -- a new leaves no older object
  pub older_alike : (at : ℕ) → IsOwnNew w.s reached at → Alike w reached (without_older at) (without_older (new_item w at))
  older_alike at own = record { plain = plain; steady = steady } where
    steady : (type : VType) → IsSteady type → without_older (new_item w at) type ≡ type
    steady (types.Uninit other) is = absurd is
    steady types.Top is = refl
    steady types.Int is = refl
    steady types.Float is = refl
    steady types.Long is = refl
    steady types.Double is = refl
    steady types.Null is = refl
    steady types.UninitThis is = refl
    steady (types.Object name) is = refl

    same : (type : VType) → HasOwnNew w.s reached type
        → AgreeAt (without_older (new_item w at) (by_item w type)) (by_item w (without_older at type))
    same (types.Uninit other) new = rw (same_test other at new own) (by (other == at)) where
      by : (b : Bool)
          → AgreeAt (if b then types.Top else types.Uninit (new_item w other)) (by_item w (if b then types.Top else types.Uninit other))
      by true = inl refl
      by false = inr refl
    same types.Top new = inr refl
    same types.Int new = inr refl
    same types.Float new = inr refl
    same types.Long new = inr refl
    same types.Double new = inr refl
    same types.Null new = inr refl
    same types.UninitThis new = inr refl
    same (types.Object name) new = inr refl

    plain : (type one : VType) → HasOwnNew w.s reached type → AgreeAt one (by_item w type)
        → AgreeAt (without_older (new_item w at) one) (by_item w (without_older at type))
    plain type one new (inl top) = inl (ap (λ (t : VType). by_item w (without_older at t)) (item_top w type top))
    plain type one new (inr is) =
        subst (λ (t : VType). AgreeAt (without_older (new_item w at) t) (by_item w (without_older at type))) (sym is) (same type new)

  -- an object is initialised
  pub initialised_alike : (sc other : RowScope) (r : Reference) (at : ℕ) → IsOwnNew w.s reached at
      → Alike w reached (initialised_type sc r (types.Uninit at)) (initialised_type other r (types.Uninit (new_item w at)))
  initialised_alike sc other r at own = record { plain = plain; steady = steady } where
    steady : (type : VType) → IsSteady type → initialised_type other r (types.Uninit (new_item w at)) type ≡ type
    steady (types.Uninit found) is = absurd is
    steady types.Top is = refl
    steady types.Int is = refl
    steady types.Float is = refl
    steady types.Long is = refl
    steady types.Double is = refl
    steady types.Null is = refl
    steady types.UninitThis is = refl
    steady (types.Object name) is = refl

    same : (type : VType) → HasOwnNew w.s reached type
        → AgreeAt (initialised_type other r (types.Uninit (new_item w at)) (by_item w type)) (by_item w (initialised_type sc r (types.Uninit at) type))
    same (types.Uninit found) new = rw (same_test found at new own) (by (found == at)) where
      by : (b : Bool)
          → AgreeAt (if b then types.Object r.class else types.Uninit (new_item w found))
          (by_item w (if b then types.Object r.class else types.Uninit found))
      by true = inr refl
      by false = inr refl
    same types.Top new = inr refl
    same types.Int new = inr refl
    same types.Float new = inr refl
    same types.Long new = inr refl
    same types.Double new = inr refl
    same types.Null new = inr refl
    same types.UninitThis new = inr refl
    same (types.Object name) new = inr refl

    plain : (type one : VType) → HasOwnNew w.s reached type → AgreeAt one (by_item w type)
        → AgreeAt (initialised_type other r (types.Uninit (new_item w at)) one) (by_item w (initialised_type sc r (types.Uninit at) type))
    plain type one new (inl top) = inl (ap (λ (t : VType). by_item w (initialised_type sc r (types.Uninit at) t)) (item_top w type top))
    plain type one new (inr is) =
        subst (λ (t : VType). AgreeAt (initialised_type other r (types.Uninit (new_item w at)) t) (by_item w (initialised_type sc r (types.Uninit at) type)))
        (sym is) (same type new)
