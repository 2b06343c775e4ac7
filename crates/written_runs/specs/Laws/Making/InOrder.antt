-- The objects of a set are made in the make order.
use Rattle.std.proofs.Common.{◌≡◌, ◌⊎◌, inl, inr, ◌==◌, ◌+◌, ℕ, zero, suc, Bool, true, false, not, List, [], ◌∷◌, filter, length, slice_get, Some, IsTrue, refl, sym, ap, subst, ◌∙◌}
use Rattle.std.specs.List.{flat_map, list_any}
use Rattle.std.proofs.lemmas.Bool.{eq-eqb, eqb-true, ne_eqb, false≢true}
use Rattle.std.proofs.lemmas.Option.{none-some, same_Some}
use Rattle.flow_code.specs.FlatCode.{FlatCode}
use Rattle.flow_code.specs.declared.point.Site.{Site}
use Rattle.machine_values.specs.declared.value.Value.{Value}
use Rattle.making_code.specs.Items.{WInstr}
use Rattle.making_code.specs.MakeCode.{Entry, make_object, make_one}
use Rattle.making_code.specs.MakeOrder.{ComesNext, IsMakeOrder, all_made, one_next}
use Rattle.member_link.specs.Machine.Worlds.{Memory}
use Rattle.plan_flow.specs.Written.WrittenPrograms.{WrittenMethod}
use Rattle.same_runs.specs.Laws.Names.{more_and_more, names_themselves}
use Rattle.same_runs.specs.Laws.Stored.{Units, equal_or}
use Rattle.same_runs.specs.Renamings.{Names}
use Rattle.virtual_state.specs.Laws.Objects.{found_present, found_site}
use Rattle.virtual_state.specs.Sites.{has}
use Rattle.virtual_state.specs.States.{State, is_virtual, names as named_in, object_of}
use Rattle.virtual_state.specs.declared.slot.Slot.{Slot}
use Rattle.virtual_state.specs.declared.slot.Slot.TheVariants.{Virt}
use Rattle.virtual_state.specs.declared.slot.VObject.{VObject}
use Rattle.written_runs.specs.Inner.MadeObjects.{StandAt}
use Rattle.written_runs.specs.Inner.Setup.{Setup}
use Rattle.written_runs.specs.Laws.Making.Asked.{MakingLaws}
use Rattle.written_runs.specs.Laws.Making.Held.{Midway, SavedEntries, Scene}
use Rattle.written_runs.specs.Laws.Making.One.{AreMade, SameLess, makes_one}
use Rattle.written_runs.specs.Laws.Making.Steps.{Doing, done_none, done_then, stand_behind, stand_first}
use Rattle.written_runs.specs.Laws.Making.Stores.{has_one}

-- ---- sets of sites

has_here : (site : ℕ) (sites : List ℕ) → IsTrue (has (site ∷ sites) site)
has_here site sites = rw (eq-eqb site site refl) refl

has_behind : (one : ℕ) (sites : List ℕ) (site : ℕ) → IsTrue (has sites site) → IsTrue (has (one ∷ sites) site)
has_behind one sites site is = by (one == site) refl where
  by : (b : Bool) → (one == site) ≡ b → IsTrue (has (one ∷ sites) site)
  by true e = rw (e) refl
  by false e = rw (e) is

-- the sites less one
abbrev less : ℕ → List ℕ → List ℕ
less site sites = filter (λ other. not (other == site)) sites

has_still : (site : ℕ) (sites : List ℕ) (other : ℕ) → IsTrue (has sites other) → (other ≡ site → ⊥) → IsTrue (has (less site sites) other)
has_still site [] other is differ = is
has_still site (one ∷ sites) other is differ =
    by (one == site) refl (one == other) refl (λ rest. has_still site sites other rest differ) where
      by : (gone : Bool) → (one == site) ≡ gone → (here : Bool) → (one == other) ≡ here
          → (IsTrue (has sites other) → IsTrue (has (less site sites) other))
          → IsTrue (has (less site (one ∷ sites)) other)
      by true e true e_also rest = absurd (differ (sym (eqb-true one other e_also) ∙ eqb-true one site e))
      by true e false e_also rest = rw (e) (rest (sym (rw (e_also) refl) ∙ is))
      by false e true e_also rest = rw (e) (rw (e_also) refl)
      by false e false e_also rest = rw (e) (rw (e_also) (rest (sym (rw (e_also) refl) ∙ is)))

-- what is left was there, and is another one
record WasOther (site : ℕ) (sites : List ℕ) (other : ℕ) : Type 0 where
  pub was : IsTrue (has sites other)
  pub differs : other ≡ site → ⊥

has_less : (site : ℕ) (sites : List ℕ) (other : ℕ) → IsTrue (has (less site sites) other) → WasOther site sites other
has_less site [] other is = absurd (false≢true is)
has_less site (one ∷ sites) other is = by (one == site) refl (has_less site sites other) where
  behind : WasOther site sites other → WasOther site (one ∷ sites) other
  behind rest = record { was = has_behind one sites other rest.was; differs = rest.differs }

  by : (gone : Bool) → (one == site) ≡ gone → (IsTrue (has (less site sites) other) → WasOther site sites other) → WasOther site (one ∷ sites) other
  by true e rest = behind (rest (sym (rw (e) refl) ∙ is))
  by false e rest = elim (has_one one (less site sites) other (sym (rw (e) refl) ∙ is)) [
    | inl same ↦ record {
      was = subst (λ (n : ℕ). IsTrue (has (one ∷ sites) n)) same (has_here one sites);
      differs = λ equal. false≢true (sym e ∙ eq-eqb one site (same ∙ equal));
    }
    | inr later ↦ behind (rest later)
  ]

-- a site of a list that passes a test
any_of : (test : ℕ → Bool) (sites : List ℕ) (site : ℕ) → IsTrue (has sites site) → IsTrue (test site) → IsTrue (list_any test sites)
any_of test [] site is passes = absurd (false≢true is)
any_of test (one ∷ sites) site is passes = elim (has_one one sites site is) [
  | inl same ↦ let here : test one ≡ true = ap test same ∙ passes in rw (here) refl
  | inr later ↦ by (test one) refl (any_of test sites site later passes)
] where
  by : (b : Bool) → test one ≡ b → IsTrue (list_any test sites) → IsTrue (list_any test (one ∷ sites))
  by true e rest = rw (e) refl
  by false e rest = rw (e) rest

-- slots that hold a virtual object name its site
pub named_at : (slots : List Slot) (number site : ℕ) → slice_get slots number ≡ Some (Virt site) → IsTrue (named_in slots site)
named_at [] number site is = absurd (none-some (Virt site) is)
named_at (slot ∷ slots) zero site is =
    let here : is_virtual site slot ≡ true = ap (is_virtual site) (same_Some slot (Virt site) is) ∙ eq-eqb site site refl in
    rw (here) refl
named_at (slot ∷ slots) (suc number) site is = by (is_virtual site slot) refl (named_at slots number site is) where
  by : (b : Bool) → is_virtual site slot ≡ b → IsTrue (named_in slots site) → IsTrue (named_in (slot ∷ slots) site)
  by true e rest = rw (e) refl
  by false e rest = rw (e) rest

-- the make code of a site
make_one_is : (flat : FlatCode) (state : State) (site : ℕ) (told : VObject) (one : Site)
    → object_of state.objects site ≡ Some told
    → slice_get flat.sites site ≡ Some one
    → make_one flat state site ≡ make_object flat told one
make_one_is flat state site told one is is_site = rw (is, is_site) refl

-- ---- all

module _ {u : Setup} {w : WrittenMethod} (laws : MakingLaws u) (d : Doing u w) (s : Scene u w) (is_written : u.written d.at ≡ Some w)
    (saved : List Entry) (saved_values : List Value) where
  -- the objects of the set, and no others
  pub record AreAllMade (names : Names) (instrs : List WInstr) (place steps : ℕ) (memory : Memory) (units : Units) (stack : List Value)
      : Type 0 where
    pub all : List ℕ
    pub covers : (site : ℕ) → IsTrue (has s.made site) → IsTrue (has all site)
    pub sound : (site : ℕ) → IsTrue (has all site) → IsTrue (has s.made site)
    pub made : AreMade laws d s is_written saved saved_values names all instrs place steps memory units stack

  -- those that are made already, and those that are left
  pub record AreSplit (done left : List ℕ) : Type 0 where
    pub either : (site : ℕ) → IsTrue (has s.made site) → IsTrue (has done site) ⊎ IsTrue (has left site)
    pub within : (site : ℕ) → IsTrue (has left site) → IsTrue (has s.made site)
    pub fresh : (site : ℕ) → IsTrue (has left site) → has done site ≡ false
    pub sound : (site : ℕ) → IsTrue (has done site) → IsTrue (has s.made site)

  split_less : (site : ℕ) (done left : List ℕ) → IsTrue (has left site) → AreSplit done left → AreSplit (site ∷ done) (less site left)
  split_less site done left here split = record {
    either = λ other among. elim (split.either other among) [
      | inl old ↦ inl (has_behind site done other old)
      | inr later ↦ elim (equal_or other site) [
        | inl same ↦ inl (subst (λ (n : ℕ). IsTrue (has (site ∷ done) n)) (sym same) (has_here site done))
        | inr differ ↦ inr (has_still site left other later differ)
      ]
    ];
    within = λ other later. split.within other (has_less site left other later).was;
    fresh = λ other later.
        let was = has_less site left other later in
        rw (ne_eqb site other (λ same. was.differs (sym same))) (split.fresh other was.was);
    sound = λ other among. elim (has_one site done other among) [
      | inl same ↦ split.within other (subst (λ (n : ℕ). IsTrue (has left n)) same here)
      | inr old ↦ split.sound other old
    ];
  }

  -- behind the object that comes next
  record MadeNext (names : Names) (done left : List ℕ) (site place steps : ℕ) (memory : Memory) (units : Units) (stack : List Value)
      : Type 0 where
    pub one : AreMade laws d s is_written saved saved_values names (site ∷ done) (make_one w.flat s.state site) place steps memory units stack
    pub split : AreSplit (site ∷ done) (less site left)

  makes_next : (names : Names) (done left : List ℕ) (site place steps : ℕ) (memory : Memory) (units : Units) (stack : List Value)
      → ComesNext s.state.objects left site
      → AreSplit done left
      → Midway s names done (λ unit. ⊥) (λ of number. ⊥) units
      → SavedEntries w.flat names units saved saved_values
      → SameLess s names done memory
      → StandAt u w place (make_one w.flat s.state site)
      → MadeNext names done left site place steps memory units stack
  makes_next names done left site place steps memory units stack next split midway entries memories stand = record {
    one =
        subst (λ (n : ℕ). AreMade laws d s is_written saved saved_values names (n ∷ done) (make_one w.flat s.state site) place steps memory units stack)
        is_of made;
    split = split_less site done left next.left_over split;
  } where
    found : (told : VObject) × (object_of s.state.objects site ≡ Some told)
    found = found_present s.state.objects site (s.is_made.present site (split.within site next.left_over))

    is_of : found.0.site ≡ site
    is_of = found_site s.state.objects site found.0 found.1

    there : object_of s.state.objects found.0.site ≡ Some found.0
    there = ap (object_of s.state.objects) is_of ∙ found.1

    code_is : make_one w.flat s.state site ≡ make_object w.flat found.0 (s.tells.objects found.0.site found.0 there).site
    code_is =
        make_one_is w.flat s.state site found.0 (s.tells.objects found.0.site found.0 there).site found.1
        (ap (slice_get w.flat.sites) (sym is_of) ∙ (s.tells.objects found.0.site found.0 there).is_site)

    left_over : IsTrue (has left found.0.site)
    left_over = subst (λ (n : ℕ). IsTrue (has left n)) (sym is_of) next.left_over

    ready : list_any (named_in found.0.fields) left ≡ false
    ready = sym (rw (found.1) refl) ∙ next.ready

    named_done : (number other : ℕ) → slice_get found.0.fields number ≡ Some (Virt other) → IsTrue (has done other)
    named_done number other slot = elim (split.either other among) [
      | inl old ↦ old
      | inr later ↦ absurd (false≢true (sym ready ∙ any_of (named_in found.0.fields) left other later named))
    ] where
      named : IsTrue (named_in found.0.fields other)
      named = named_at found.0.fields number other slot

      among : IsTrue (has s.made other)
      among =
          s.is_made.closed found.0.site other (record { object = found.0; there = there; named = named })
          (split.within found.0.site left_over)

    made : AreMade laws d s is_written saved saved_values names (found.0.site ∷ done) (make_one w.flat s.state site) place steps memory units stack
    made =
        subst (λ (instrs : List WInstr). AreMade laws d s is_written saved saved_values names (found.0.site ∷ done) instrs place steps memory units
        stack) (sym code_is)
        (makes_one laws d s is_written saved saved_values names done place steps memory units stack found.0 there (split.fresh found.0.site left_over)
        named_done midway entries memories (subst (StandAt u w place) code_is stand))

  pub makes_all : (names : Names) (done : List ℕ) {left order : List ℕ} (place steps : ℕ) (memory : Memory) (units : Units) (stack : List Value)
      → IsMakeOrder s.state.objects left order
      → AreSplit done left
      → Midway s names done (λ unit. ⊥) (λ of number. ⊥) units
      → SavedEntries w.flat names units saved saved_values
      → SameLess s names done memory
      → StandAt u w place (flat_map (make_one w.flat s.state) order)
      → AreAllMade names (flat_map (make_one w.flat s.state) order) place steps memory units stack
  makes_all names done place steps memory units stack all_made split midway entries memories stand = record {
    all = done;
    covers = λ site among. elim (split.either site among) [ inl old ↦ old | inr none ↦ absurd (false≢true none) ];
    sound = split.sound;
    made = record {
      more = names;
      grows = names_themselves names;
      later = memory;
      after = units;
      done = done_none d place steps memory units stack;
      midway = midway;
      entries = entries;
      memories = memories;
    };
  }
  makes_all names done place steps memory units stack (one_next left order site next rest) split midway entries memories stand =
      let step = makes_next names done left site place steps memory units stack next split midway entries memories
      (stand_first (make_one w.flat s.state site) (flat_map (make_one w.flat s.state) order) stand) in
      let others = makes_all step.one.more (site ∷ done) (place + length (make_one w.flat s.state site))
      step.one.done.then_steps step.one.later step.one.after stack rest step.split step.one.midway step.one.entries step.one.memories
      (stand_behind (make_one w.flat s.state site) (flat_map (make_one w.flat s.state) order) stand) in
      record {
        all = others.all;
        covers = others.covers;
        sound = others.sound;
        made = record {
          more = others.made.more;
          grows = more_and_more step.one.grows others.made.grows;
          later = others.made.later;
          after = others.made.after;
          done = done_then d step.one.done others.made.done;
          midway = others.made.midway;
          entries = others.made.entries;
          memories = others.made.memories;
        };
      }
