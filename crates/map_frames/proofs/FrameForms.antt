-- The kinds of frames, one at a time.
use Rattle.std.proofs.Common.{◌≡◌, ℕ, ◌-◌, ◌≤◌, Bool, true, false, cond, List, length, Option, Some, Result, Ok, Err, nat_lt, refl, sym, ap, ◌∙◌, subst}
use Rattle.class_model.specs.Answers.{Takes}
use Rattle.class_model.specs.Cutting.{Rest, Cut, behind}
use Rattle.class_model.specs.Frames.{Setting, Stated, FrameForm, frame_rows, frame_behind, frame_at, missing, table_u2_at, stated_frame, item_at, item_frame_at, chop_at, append_at, full_at}
use Rattle.class_model.specs.Instructions.{u1_in}
use Rattle.class_model.specs.Laws.Cuts.{same_done}
use Rattle.class_model.specs.Tables.{given_in}
use Rattle.class_model.specs.declared.fault.ClassFault.{ClassFault}
use Rattle.class_model.specs.declared.frame.VType.{VType}
use Rattle.map_frames.specs.Inner.Steps.{byte_at, Refuses, States}
use Rattle.map_frames.proofs.Faults.{refuses_same, refuses_bind, refuses_takes}
use Rattle.map_frames.proofs.KindRows.{item_row, chop_row, append_row}

-- the frame of a kind at a place, behind its first byte
abbrev frame_of : Setting → List VType → ℕ → ℕ → Rest → Cut Stated
frame_of s locals frame kind inside = frame_behind s locals frame (given_in frame_rows kind) inside

-- a frame is that of its first byte
of_kind : (s : Setting) (locals : List VType) (rest : Rest) (kind : ℕ) (inside : Rest) → byte_at rest ≡ Ok (kind, inside) → frame_at s locals rest ≡ frame_of s locals rest.at kind inside
of_kind s locals rest kind inside e = by_test (nat_lt (length rest.bytes) 1) e
  where
    read : ℕ × Rest
    read = (u1_in rest.bytes 0, behind 1 rest)

    by_test : (b : Bool) → cond b (Err missing) (Ok read) ≡ Ok (kind, inside) → cond b (Err missing) (frame_of s locals rest.at read.0 read.1) ≡ frame_of s locals rest.at kind inside
    by_test true e = absurd cc
    by_test false e = ap (λ (p : ℕ × Rest). frame_of s locals rest.at p.0 p.1) (same_done read (kind, inside) e)

-- what a frame's first byte is, and where it stands
pub record Begins (rest : Rest) (place kind : ℕ) (inside : Rest) : Type 0 where
  pub read : byte_at rest ≡ Ok (kind, inside)
  pub place_is : place ≡ rest.at

module _ (s : Setting) (locals : List VType) (rest : Rest) (place kind : ℕ) (inside : Rest) (begins : Begins rest place kind inside) where
  -- so the frame has the form of its kind
  of_begins : frame_at s locals rest ≡ frame_of s locals place kind inside
  of_begins = of_kind s locals rest kind inside begins.read ∙ ap (λ (at : ℕ). frame_of s locals at kind inside) (sym begins.place_is)

  of_this_kind : (form : ℕ → Cut Stated) (this : ℕ) → kind ≡ this → frame_of s locals place this inside ≡ form this → frame_at s locals rest ≡ form kind
  of_this_kind form this is e = of_begins ∙ subst (λ (n : ℕ). frame_of s locals place n inside ≡ form n) (sym is) e

  -- so of the row of this byte
  of_row : (form : FrameForm) → given_in frame_rows kind ≡ Some form → frame_at s locals rest ≡ frame_behind s locals place (Some form) inside
  of_row form e = of_begins ∙ ap (λ (found : Option FrameForm). frame_behind s locals place found inside) e

  -- same with one item
  pub item_kind : 64 ≤ kind → kind ≤ 127 → frame_at s locals rest ≡ item_frame_at s (kind - 64) locals place inside
  item_kind low high = of_row _ (item_row kind low high)

  pub item_reads : 64 ≤ kind → kind ≤ 127 → (after : Rest) (stack : List VType) → item_at s place inside ≡ Ok (stack, after) → frame_at s locals rest ≡ Ok (stated_frame (kind - 64) locals stack, after)
  item_reads low high after stack e = item_kind low high ∙ rw e refl

  pub item_fails : 64 ≤ kind → kind ≤ 127 → (after : Rest) (f : ClassFault) → Takes (item_at s place inside) after (Err f) → Refuses (frame_at s locals rest) f
  item_fails low high after f h = refuses_same _ _ f (item_kind low high) (refuses_bind _ _ f (refuses_takes _ after f h))

  -- the same with a delta of two bytes
  pub extended_kind : kind ≡ 247 → (delta : ℕ) (behind : Rest) → table_u2_at inside ≡ Ok (delta, behind) → frame_at s locals rest ≡ item_frame_at s delta locals place behind
  extended_kind is delta behind e = of_this_kind (λ _. item_frame_at s delta locals place behind) 247 is (rw e refl)

  pub extended_reads : kind ≡ 247 → (delta : ℕ) (behind after : Rest) (stack : List VType) → table_u2_at inside ≡ Ok (delta, behind) → item_at s place behind ≡ Ok (stack, after) → frame_at s locals rest ≡ Ok (stated_frame delta locals stack, after)
  extended_reads is delta behind after stack d e = extended_kind is delta behind d ∙ rw e refl

  pub extended_fails : kind ≡ 247 → (delta : ℕ) (behind after : Rest) (f : ClassFault) → table_u2_at inside ≡ Ok (delta, behind) → Takes (item_at s place behind) after (Err f) → Refuses (frame_at s locals rest) f
  extended_fails is delta behind after f d h = refuses_same _ _ f (extended_kind is delta behind d) (refuses_bind _ _ f (refuses_takes _ after f h))

  -- chop
  pub chop_kind : 248 ≤ kind → kind ≤ 250 → frame_at s locals rest ≡ chop_at (251 - kind) locals place inside
  chop_kind low high = of_row _ (chop_row kind low high)

  -- append
  pub append_kind : 252 ≤ kind → kind ≤ 254 → frame_at s locals rest ≡ append_at s (kind - 251) locals place inside
  append_kind low high = of_row _ (append_row kind low high)

  -- full
  pub full_kind : kind ≡ 255 → frame_at s locals rest ≡ full_at s place inside
  full_kind is = of_this_kind (λ _. full_at s place inside) 255 is refl

-- a cut that is another states what that states
pub states_same : (whole part : Cut Stated) (locals : List VType) (after : Rest) (r : Result (ℕ × List VType) ClassFault) → whole ≡ part → States part locals after r → States whole locals after r
states_same whole part locals after r e h = subst (λ (cut : Cut Stated). States cut locals after r) (sym e) h
