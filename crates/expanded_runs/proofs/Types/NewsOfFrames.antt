-- The uninitialised objects of the frames of a typed method are those of its news.
use Rattle.std.proofs.Common.{◌≡◌, ◌≢◌, ℕ, zero, suc, Bool, true, false, List, [], ◌∷◌, length, slice_get, Option, Some, None, if◌then◌else◌, refl, sym, ap, ◌∙◌}
use Rattle.std.specs.Prelude.{◌==◌, ◌&&◌, ◌||◌}
use Rattle.std.specs.List.{AllByRecursion}
use Rattle.std.proofs.lemmas.Bool.{eqb-true, eq-eqb, false≢true}
use Rattle.std.proofs.lemmas.List.{length-map}
use Rattle.std.proofs.lemmas.Option.{none-some, same_Some}
use Rattle.class_model.specs.Frames.{is_new, is_new_at}
use Rattle.class_model.specs.Methods.{home_of}
use Rattle.class_model.specs.declared.frame.Frame.{Frame}
use Rattle.class_model.specs.declared.frame.VType.{VType}
use Rattle.class_model.specs.declared.frame.VType.TheVariants as types
use Rattle.class_model.specs.declared.instr.Instr.{Instr}
use Rattle.class_model.specs.declared.instr.Instr.TheVariants.{New}
use Rattle.class_model.specs.declared.instr.Placed.{Placed}
use Rattle.class_tree.specs.Headers.{Classes, Name}
use Rattle.expanded_runs.proofs.Types.EachFrame.{each_frame}
use Rattle.expanded_runs.proofs.Types.ObjectsApart.{IsMadeIn, MadeAt, NamesNews}
use Rattle.expanded_runs.proofs.Types.OwnPoints.{IsTyped, TypingLaws, typed_method}
use Rattle.expanded_runs.proofs.Types.PlacedMembers.{IsWithout}
use Rattle.expanded_runs.proofs.Types.RowNews.{row_without}
use Rattle.expanded_runs.proofs.Types.StandingPlaces.{new_at}
use Rattle.expanded_runs.proofs.Types.StatedNews.{AreNewIn, entry_news, stated_news}
use Rattle.flow_code.specs.TypedFrames.{FolderFrames}
use Rattle.member_link.specs.Bodies.{falls_through, flows_on}
use Rattle.member_link.specs.BodyTyping.{RowHolds}
use Rattle.member_link.specs.Rows.Row.{access_aside, row_frame}
use Rattle.member_link.specs.Rows.Table.{row_of}
use Rattle.member_link.specs.Scope.{Scope, class_of_new, instructions, row_scope}
use Rattle.type_rules.specs.MethodBodies.{point_of}
use Rattle.type_rules.specs.Stated.{entry, stated_at}
use Rattle.type_rules.specs.Verified.{TypesFolder}

-- ---- news by offsets

record MadeAmong (instrs : List Placed) (at : ℕ) : Type 0 where
  number : ℕ
  placed : Placed
  is : slice_get instrs number ≡ Some placed
  offset : placed.at ≡ at
  index : ℕ
  instr : placed.instr ≡ New index

both_of : (a b : Bool) → (a && b) ≡ true → (a ≡ true) × (b ≡ true)
both_of true b is = (refl, is)
both_of false b is = absurd cc

new_instr : (instr : Instr) → is_new instr ≡ true → (index : ℕ) × (instr ≡ New index)
new_instr (New index) is = (index, refl)
new_instr other is = absurd cc

made_among : (instrs : List Placed) (at : ℕ) → is_new_at instrs at ≡ true → MadeAmong instrs at
made_among [] at is = absurd cc
made_among (first ∷ instrs) at is =
    by ((first.at == at) && is_new first.instr) refl is (made_among instrs at) where
      by : (b : Bool) → ((first.at == at) && is_new first.instr) ≡ b → (b || is_new_at instrs at) ≡ true
          → (is_new_at instrs at ≡ true → MadeAmong instrs at)
          → MadeAmong (first ∷ instrs) at
      by true here found rest =
          let both = both_of (first.at == at) (is_new first.instr) here in
          let new = new_instr first.instr both.1 in
          record { number = zero; placed = first; is = refl; offset = eqb-true first.at at both.0; index = new.0; instr = new.1 }
      by false here found rest =
          let later = rest found in
          record {
            number = suc later.number;
            placed = later.placed;
            is = later.is;
            offset = later.offset;
            index = later.index;
            instr = later.instr;
          }

or_second : (a b : Bool) → b ≡ true → (a || b) ≡ true
or_second true b is = refl
or_second false b is = is

new_among : (instrs : List Placed) (at : ℕ) (k : ℕ) (placed : Placed) → slice_get instrs k ≡ Some placed → placed.at ≡ at
    → (index : ℕ) → placed.instr ≡ New index
    → is_new_at instrs at ≡ true
new_among [] at k placed is offset index instr = absurd (none-some placed is)
new_among (first ∷ instrs) at zero placed is offset index instr =
    let same = same_Some first placed is in
    let here : (first.at == at) ≡ true = eq-eqb first.at at (ap (λ (p : Placed). p.at) same ∙ offset) in
    let new : is_new first.instr ≡ true = ap (λ (p : Placed). is_new p.instr) same ∙ ap is_new instr in
    rw (here, new) refl
new_among (first ∷ instrs) at (suc k) placed is offset index instr =
    or_second ((first.at == at) && is_new first.instr) (is_new_at instrs at) (new_among instrs at k placed is offset index instr)

module _ (s : Scope) where
  -- where no new stands none is made
  no_class : (at : ℕ) → is_new_at (instructions s) at ≡ false → class_of_new s at ≡ None
  no_class at none = by (class_of_new s at) refl where
    by : (found : Option Name) → class_of_new s at ≡ found → class_of_new s at ≡ None
    by None is = is
    by (Some class) is =
        let new = new_at s at class is in
        absurd (false≢true (sym none ∙ new_among (instructions s) at new.number new.placed new.is new.offset new.index new.instr))

  without_one : (at : ℕ) → is_new_at (instructions s) at ≡ false → (entries : List VType) → AreNewIn (instructions s) entries
      → IsWithout (types.Uninit at) entries
  without_one at none [] all = tt
  without_one at none (type ∷ entries) all = (λ is. false≢true (sym none ∙ all.0 at is), without_one at none entries all.1)

  all_new : (entries : List VType) → ((at : ℕ) → is_new_at (instructions s) at ≡ false → IsWithout (types.Uninit at) entries)
      → AreNewIn (instructions s) entries
  all_new [] without = tt
  all_new (type ∷ entries) without =
      (λ at is. by at (is_new_at (instructions s) at) refl is (λ none. (without at none).0), all_new entries (λ at none. (without at none).1)) where
        by : (at : ℕ) (new : Bool) → is_new_at (instructions s) at ≡ new → type ≡ types.Uninit at
            → (is_new_at (instructions s) at ≡ false → type ≢ types.Uninit at)
            → is_new_at (instructions s) at ≡ true
        by at true new is none = new
        by at false new is none = absurd (none new is)

  made_each : (entries : List VType) → AreNewIn (instructions s) entries → AllByRecursion (IsMadeIn s) entries
  made_each [] all = tt
  made_each (type ∷ entries) all = (λ at is. made_at at (made_among (instructions s) at (all.0 at is)), made_each entries all.1) where
    made_at : (at : ℕ) → MadeAmong (instructions s) at → MadeAt s at
    made_at at m = record { number = m.number; placed = m.placed; is = m.is; offset = m.offset; index = m.index; instr = m.instr }

  record HasNews (frame : Frame) : Type 0 where
    locals : AreNewIn (instructions s) frame.locals
    stack : AreNewIn (instructions s) frame.stack

  module _ (frames : List Frame) (typed : IsTyped s frames) (one_each : length frames ≡ length (instructions s)) where
    entry_has : HasNews (entry s)
    entry_has = record { locals = entry_news (instructions s) (home_of s.class) s.method s.part; stack = tt }

    -- a frame that is stated
    stated_has : (place : ℕ) (frame : Frame) → stated_at s place ≡ Some frame → HasNews frame
    stated_has place frame is =
        let has = stated_news (home_of s.class) s.method s.part place frame s.part.attrs is in
        record { locals = has.0; stack = has.1 }

    flowing : (falls : Bool) (found : Option Frame) (flows : Frame) → (if falls then found else None) ≡ Some flows → found ≡ Some flows
    flowing true found flows is = is
    flowing false found flows is = absurd (none-some flows is)

    behind_has : (k : ℕ) (placed : Placed) → slice_get (instructions s) k ≡ Some placed → (frame flows : Frame) → HasNews frame
        → RowHolds (row_scope s) frame (row_of (row_scope s) frame placed.at placed.instr)
        → flows_on (point_of s placed) frame ≡ Some flows
        → HasNews flows
    behind_has k placed there frame flows has row is =
        record { locals = all_new flows.locals (λ at none. (without at none).0); stack = all_new flows.stack (λ at none. (without at none).1) } where
          goes : row_frame frame (row_of (row_scope s) frame placed.at placed.instr) ≡ Some flows
          goes = flowing (falls_through placed.instr) (row_frame frame (row_of (row_scope s) frame placed.at placed.instr)) flows is

          held : RowHolds (row_scope s) frame (access_aside (row_of (row_scope s) frame placed.at placed.instr))
          held = record { operands = row.operands; local = row.local; depth_fits = row.depth_fits; further = row.further; access = tt }

          other : (at : ℕ) → is_new_at (instructions s) at ≡ false → (index : ℕ) → placed.instr ≡ New index → placed.at ≢ at
          other at none index instr same = false≢true (sym none ∙ new_among (instructions s) at k placed there same index instr)

          without : (at : ℕ) → is_new_at (instructions s) at ≡ false
              → IsWithout (types.Uninit at) flows.locals × IsWithout (types.Uninit at) flows.stack
          without at none =
              row_without (row_scope s) frame at (without_one at none frame.locals has.locals) (without_one at none frame.stack has.stack)
              (no_class at none) placed.at placed.instr (other at none) held flows goes

    -- Each frame.
    typed_news : (k : ℕ) (frame : Frame) → slice_get frames k ≡ Some frame → HasNews frame
    typed_news = each_frame s frames typed one_each HasNews entry_has stated_has behind_has

-- In each typed folder uninitialised objects are those of news.
pub names_news : TypingLaws → {classes : Classes} {typed : FolderFrames} → TypesFolder classes typed → NamesNews classes typed
names_news laws folder at s frames has k frame is =
    let method = typed_method laws folder has in
    let news = typed_news s frames method (method.has.one_each ∙ length-map (instructions s) (point_of s)) k frame is in
    (made_each s frame.locals news.locals, made_each s frame.stack news.stack)
