-- What goes together behind a turn where some virtual objects are left behind: those of frames that stand no longer, and those that a frame's next state
-- has not.
use Rattle.std.proofs.Common.{◌≡◌, ◌≤◌, ◌<◌, ◌++◌, nat_le, ℕ, suc, Bool, true, false, List, [], ◌∷◌, filter, length, reverse, slice_get, Some, refl, sym, ap, subst, ◌∙◌, arith}
use Rattle.std.specs.List.{AllByRecursion}
use Rattle.std.proofs.lemmas.Bool.{le-leb, leb-true}
use Rattle.std.proofs.lemmas.List.{length-reverse, reverse-append}
use Rattle.plan_flow.specs.Laws.OpenEdges.{still_in}
use Rattle.machine_values.specs.Frames.{MethodState}
use Rattle.machine_values.specs.Heaps.{Heap}
use Rattle.machine_values.specs.declared.frame.RunFrame.{RunFrame}
use Rattle.machine_values.specs.declared.frame.RunFrame.TheVariants.{Method}
use Rattle.member_link.specs.Machine.Worlds.{Memory}
use Rattle.plan_flow.specs.Written.WrittenPrograms.{WrittenMethod}
use Rattle.same_runs.specs.Laws.Apart.{with_apart}
use Rattle.same_runs.specs.Laws.Objects.{get_before, get_old}
use Rattle.same_runs.specs.Renamings.{Names, NamesMore}
use Rattle.same_runs.specs.SameMemories.{SameMemories, StaysApart}
use Rattle.same_runs.specs.SameWorlds.{Comparison, Compares}
use Rattle.written_runs.specs.Laws.LessVirtual.{WasIn, still_apart, was_in}
use Rattle.written_runs.specs.Inner.PlannedFrames.{Known}
use Rattle.written_runs.specs.Inner.Setup.{Setup, first}
use Rattle.written_runs.specs.Inner.Standing.{HasNone, SameTop, Stands, apart, comparison, entered}
use Rattle.written_runs.specs.Laws.StandingMore.{SameBelow, stands_more}
use Rattle.written_runs.specs.VirtualObjects.{AreApart, Virtual, Virtuals}

-- ---- fewer virtual objects

-- some of the objects, in their order
pub record AreFewer (virtuals left : Virtuals) : Type 0 where
  pub keeps : Virtual → Bool
  pub is : left ≡ filter keeps virtuals

-- one that is left was there
pub was_before : {virtuals left : Virtuals} (fewer : AreFewer virtuals left) (number : ℕ) (virtual : Virtual)
    → slice_get left number ≡ Some virtual
    → WasIn fewer.keeps virtuals virtual
was_before {virtuals = virtuals} fewer number virtual is =
    was_in fewer.keeps virtuals number virtual (ap (λ (list : Virtuals). slice_get list number) (sym fewer.is) ∙ is)

pub fewer_are_apart : {virtuals left : Virtuals} → AreFewer virtuals left → AreApart virtuals → AreApart left
fewer_are_apart {virtuals = virtuals} fewer are = subst AreApart (sym fewer.is) (still_apart fewer.keeps virtuals are)

count_fewer : (test : Virtual → Bool) (virtuals : Virtuals) → length (filter test virtuals) ≤ length virtuals
count_fewer test [] = omega arith
count_fewer test (one ∷ virtuals) = by (test one) refl (count_fewer test virtuals) where
  by : (kept : Bool)
      → test one ≡ kept
      → length (filter test virtuals) ≤ length virtuals
      → length (filter test (one ∷ virtuals)) ≤ length (one ∷ virtuals)
  by true told less = rw (told) (omega (arith, less))
  by false told less = rw (told) (omega (arith, less))

entered_fewer : (test : Virtual → Bool) (virtuals : Virtuals) → entered (filter test virtuals) ≤ entered virtuals
entered_fewer test [] = omega arith
entered_fewer test (one ∷ virtuals) = by (test one) refl (entered_fewer test virtuals) where
  by : (kept : Bool)
      → test one ≡ kept
      → entered (filter test virtuals) ≤ entered virtuals
      → entered (filter test (one ∷ virtuals)) ≤ entered (one ∷ virtuals)
  by true told less = rw (told) (omega (arith, less))
  by false told less = rw (told) (omega (arith, less))

apart_fewer : (names : Names) (heap : Heap) (test : Virtual → Bool) (virtuals : Virtuals)
    → AllByRecursion (StaysApart names heap) (apart virtuals)
    → AllByRecursion (StaysApart names heap) (apart (filter test virtuals))
apart_fewer names heap test [] all = tt
apart_fewer names heap test (one ∷ virtuals) all = by (test one) refl (apart_fewer names heap test virtuals all.1) where
  by : (kept : Bool)
      → test one ≡ kept
      → AllByRecursion (StaysApart names heap) (apart (filter test virtuals))
      → AllByRecursion (StaysApart names heap) (apart (filter test (one ∷ virtuals)))
  by true told rest = rw (told) (all.0, rest)
  by false told rest = rw (told) rest

-- memories are the same less the objects that are left behind
pub memories_fewer : (u : Setup) (known : Known) {virtuals left : Virtuals} {names : Names} {one other : Memory}
    → AreFewer virtuals left
    → SameMemories (first u) (comparison u virtuals known).allocated (comparison u virtuals known).entered (apart virtuals) names [] one other
    → SameMemories (first u) (comparison u left known).allocated (comparison u left known).entered (apart left) names [] one other
memories_fewer u known {virtuals = virtuals} {left = left} {names = names} {one = one} {other = other} fewer same =
    subst (λ (some : Virtuals). SameMemories (first u) (comparison u some known).allocated (comparison u some known).entered (apart some)
    names [] one other) (sym fewer.is) (record {
      heaps = with_apart same.heaps (apart_fewer names one.heap fewer.keeps virtuals same.heaps.stays);
      statics = same.statics;
      allocations = let counts = count_fewer fewer.keeps virtuals in let less = same.allocations in omega (arith, counts, less);
      entries = let counts = entered_fewer fewer.keeps virtuals in let less = same.entries in omega (arith, counts, less);
    })

-- ---- whose they are

-- an object is of the frame of a method that is rewritten
pub record HasOwner (u : Setup) (ones : List RunFrame) (virtual : Virtual) : Type 0 where
  pub f : MethodState
  pub one : WrittenMethod
  pub is_there : slice_get (reverse ones) virtual.frame ≡ Some (Method f)
  pub is_written : u.written f.at ≡ Some one

-- each object is of one of the frames
pub record AllOwned (u : Setup) (virtuals : Virtuals) (ones : List RunFrame) : Type 0 where
  pub owner : (number : ℕ) (virtual : Virtual) → slice_get virtuals number ≡ Some virtual → HasOwner u ones virtual

-- each object is of one of the frames, or of a frame above them
pub record OwnedBelow (u : Setup) (virtuals : Virtuals) (ones : List RunFrame) : Type 0 where
  pub owner : (number : ℕ) (virtual : Virtual)
      → slice_get virtuals number ≡ Some virtual
      → virtual.frame < length ones
      → HasOwner u ones virtual

on_top : (x : RunFrame) (ones : List RunFrame) → reverse (x ∷ ones) ≡ reverse ones ++ x ∷ []
on_top x ones = reverse-append (x ∷ []) ones

pub owned_below : {u : Setup} {virtuals : Virtuals} {x : RunFrame} {ones : List RunFrame}
    → OwnedBelow u virtuals (x ∷ ones)
    → OwnedBelow u virtuals ones
owned_below {u = u} {x = x} {ones = ones} owned = record {
  owner = λ number virtual is low.
      let was = owned.owner number virtual is (omega (arith, low)) in
      record {
        f = was.f;
        one = was.one;
        is_there =
            get_before (reverse ones) x virtual.frame (Method was.f)
            (λ same. absurd (let count = length-reverse ones in omega (arith, low, same, count)))
            (ap (λ (frames : List RunFrame). slice_get frames virtual.frame) (sym (on_top x ones)) ∙ was.is_there);
        is_written = was.is_written;
      };
}

pub owned_over : {u : Setup} {virtuals : Virtuals} (x : RunFrame) {ones : List RunFrame}
    → AllOwned u virtuals ones
    → AllOwned u virtuals (x ∷ ones)
owned_over x {ones = ones} owned = record {
  owner = λ number virtual is.
      let was = owned.owner number virtual is in
      record {
        f = was.f;
        one = was.one;
        is_there =
            ap (λ (frames : List RunFrame). slice_get frames virtual.frame) (on_top x ones)
            ∙ get_old (reverse ones) x virtual.frame (Method was.f) was.is_there;
        is_written = was.is_written;
      };
}

owned_above : {u : Setup} {virtuals : Virtuals} (frames : List RunFrame) {ones : List RunFrame}
    → AllOwned u virtuals ones
    → AllOwned u virtuals (frames ++ ones)
owned_above [] owned = owned
owned_above (x ∷ frames) owned = owned_over x (owned_above frames owned)

-- ---- those of frames below a height

abbrev is_under : ℕ → Virtual → Bool
is_under height virtual = nat_le (suc virtual.frame) height

abbrev pub under : ℕ → Virtuals → Virtuals
under height virtuals = filter (is_under height) virtuals

pub under_owned : {u : Setup} {virtuals : Virtuals} {ones : List RunFrame}
    → OwnedBelow u virtuals ones
    → AllOwned u (under (length ones) virtuals) ones
under_owned {virtuals = virtuals} {ones = ones} owned = record {
  owner = λ number virtual is.
      let was = was_in (is_under (length ones)) virtuals number virtual is in
      owned.owner was.number virtual was.is_there (leb-true (suc virtual.frame) (length ones) was.passes);
}

-- the frames at a height and above have none of them
pub none_under : (height : ℕ) (virtuals : Virtuals) (frame : ℕ) → height ≤ frame → HasNone (under height virtuals) frame
none_under height virtuals frame high = record {
  none = λ number virtual is of_frame.
      let was = was_in (is_under height) virtuals number virtual is in
      let low = leb-true (suc virtual.frame) height was.passes in
      absurd (omega (arith, high, of_frame, low));
}

pub same_under : (height : ℕ) (virtuals : Virtuals) → SameBelow virtuals (under height virtuals) height
same_under height virtuals = λ frame low. record {
  forth = λ site virtual there.
      let of_frame = there.of_frame in
      let found = still_in (is_under height) virtuals there.number virtual there.is_there
      (le-leb (suc virtual.frame) height (omega (arith, low, of_frame))) in
      record { number = found.0; is_there = found.1; of_frame = there.of_frame; of_site = there.of_site };
  back = λ site virtual there.
      let was = was_in (is_under height) virtuals there.number virtual there.is_there in
      record { number = was.number; is_there = was.is_there; of_frame = there.of_frame; of_site = there.of_site };
}

-- frames go together with their own virtual objects alone, and under more names
pub stands_under : {u : Setup} {virtuals : Virtuals} {known : Known} {waiting : Bool} {names more : Names} {ones others : List RunFrame}
    → NamesMore names more
    → Stands u virtuals known waiting names ones others
    → Stands u (under (length ones) virtuals) known waiting more ones others
stands_under {virtuals = virtuals} {ones = ones} grows below =
    stands_more (same_under (length ones) virtuals) (record { keeps = λ reference class is. is }) grows below

-- ---- behind a turn

-- frames go together with some of the virtual objects, each of which is of one of them
pub record GoesFewer (u : Setup) (virtuals : Virtuals) (known : Known) (names : Names) (ones others : List RunFrame) : Type 0 where
  pub left : Virtuals
  pub fewer : AreFewer virtuals left
  pub top : SameTop u left known names ones others
  pub owned : AllOwned u left ones

-- where frames stand above some that were there before
pub goes_above : {u : Setup} {virtuals : Virtuals} {known : Known} {names : Names} (frames frames_also rest rest_also : List RunFrame)
    → OwnedBelow u virtuals rest
    → SameTop u (under (length rest) virtuals) known names (frames ++ rest) (frames_also ++ rest_also)
    → GoesFewer u virtuals known names (frames ++ rest) (frames_also ++ rest_also)
goes_above {virtuals = virtuals} frames frames_also rest rest_also owned top = record {
  left = under (length rest) virtuals;
  fewer = record { keeps = is_under (length rest); is = refl };
  top = top;
  owned = owned_above frames (under_owned owned);
}

-- how runs are compared over a turn
abbrev pub over_turn : Setup → Virtuals → Known → Comparison
over_turn u virtuals known = record {
  allocated = (comparison u virtuals known).allocated;
  entered = (comparison u virtuals known).entered;
  shows_allocated = (comparison u virtuals known).shows_allocated;
  shows_entered = (comparison u virtuals known).shows_entered;
  apart = apart virtuals;
  frames = GoesFewer u virtuals known;
  lands = GoesFewer u virtuals known;
}

pub over_turn_compares : (u : Setup)
    → ((virtuals : Virtuals) (known : Known) → Compares (comparison u virtuals known))
    → (virtuals : Virtuals) (known : Known)
    → Compares (over_turn u virtuals known)
over_turn_compares u compares virtuals known = record {
  allocated = (compares virtuals known).allocated;
  entered = (compares virtuals known).entered;
  shows_allocated = (compares virtuals known).shows_allocated;
  shows_entered = (compares virtuals known).shows_entered;
  frames = λ names more ones others grows goes. record {
    left = goes.left;
    fewer = goes.fewer;
    top = (compares goes.left known).frames names more ones others grows goes.top;
    owned = goes.owned;
  };
}
