-- A table that is written is read back.
use Rattle.std.proofs.Common.{◌≡◌, ◌==◌, ◌||◌, ℕ, ◌+◌, ◌-◌, ◌≤◌, Bool, true, false, cond, ltb, List, [], ◌∷◌, ◌++◌, length, Result, Ok, Err, ap, ◌∙◌, append_assoc, arith}
use Rattle.std.specs.List.{AllByRecursion}
use Rattle.std.proofs.lemmas.Bool.Decides.{nat_tests}
use Rattle.std.proofs.lemmas.List.{append-nil}
use Rattle.class_model.specs.Checks.{Fault, fault, ◌>>=◌}
use Rattle.class_model.specs.Cutting.{Rest, Cut}
use Rattle.class_model.specs.Frames.{Setting, Stated, stated_frame, depth, filled, listed, frame_at, fits_at, frames_at, stack_map_table_at, missing}
use Rattle.class_model.specs.Instructions.{is_start}
use Rattle.class_model.specs.declared.fault.FileRule.TheVariants as rules
use Rattle.class_model.specs.declared.frame.Frame.{Frame}
use Rattle.class_model.specs.declared.frame.PlacedFrame.{PlacedFrame}
use Rattle.class_model.specs.declared.frame.VType.{VType}
use Rattle.map_frames.specs.Inner.Indices.{AreShort}
use Rattle.map_frames.specs.Writing.{FitsType, HasType, frame_kinds, FitsFrameKind, AreFrames, IsTable, listed_at, FitsFrame, PlacesIncrease, FitsTable, HasFrame, HasFrames}
use Rattle.map_frames.specs.declared.writing.NamedIndex.{NamedIndex}
use Rattle.map_frames.proofs.Chosen.{first_fits}
use Rattle.map_frames.proofs.FrameUnits.{all_listed, few_listed, IsListed, is_listed}
use Rattle.map_frames.proofs.KindsRead.{IsReadable, frame_read}
use Rattle.map_frames.proofs.TypesRead.{Reads, made_read, number_read}

-- ---- steps

-- a part, and then what depends on the place where it stood
placed_read : {X Y : Type 0} {part : Rest → Cut X} {bytes : List ℕ} {x : X} → Reads part bytes x → (next : ℕ → X × Rest → Cut Y) (more : List ℕ) (y : Y) → ((at : ℕ) → Reads (λ rest. next at (x, rest)) more y) → Reads (λ rest. part rest >>= next rest.at) (bytes ++ more) y
placed_read {part = part} {bytes = bytes} {x = x} first next more y second = record {
  read = λ at rest.
      let one = first.read at (more ++ rest) in
      let two = (second at).read one.0 rest in
      (two.0, rw (append_assoc bytes more rest, one.1) two.1);
}

-- what is known beforehand
known_read : {X Y : Type 0} (known : Result X Fault) (x : X) → known ≡ Ok x → (next : X → Rest → Cut Y) (more : List ℕ) (y : Y) → Reads (next x) more y → Reads (λ rest. known >>= λ k. next k rest) more y
known_read known x is next more y second = record { read = λ at rest. let two = second.read at rest in (two.0, rw is two.1) }

-- ---- frames

not_less : (a b : ℕ) → b ≤ a → ltb a b ≡ false
not_less a b h = grind (arith, nat_tests)

checked : {X : Type 0} (a b c : Bool) (size place : Fault) (x : X) → a ≡ false → b ≡ false → c ≡ true → cond (a || b) (Err size) (cond c (Ok x) (Err place)) ≡ Ok x
checked a b c size place x no_a no_b c_is = rw (no_a, no_b, c_is)

-- the units of a frame fit, and it stands at an instruction
frame_fits : (s : Setting) (at delta : ℕ) (placed : PlacedFrame) → IsListed placed.frame → length placed.frame.locals ≡ s.max_locals → depth placed.frame.stack ≤ s.max_stack → is_start s.code placed.at ≡ true
    → fits_at s at placed.at (stated_frame delta (listed placed.frame) placed.frame.stack) ≡ Ok placed
frame_fits s at delta placed is_listed all fits start =
    let back : filled s.max_locals (listed placed.frame) ≡ placed.frame.locals = rw (← all) is_listed.back in
    let found : PlacedFrame = record { at = placed.at; frame = record { locals = filled s.max_locals (listed placed.frame); stack = placed.frame.stack } } in
    let same : found ≡ placed = ap (λ (locals : List VType). record placed { frame = record placed.frame { locals = locals } }) back in
    checked (ltb s.max_locals (depth (listed placed.frame))) (ltb s.max_stack (depth placed.frame.stack)) (is_start s.code placed.at)
    (fault at rules.FrameSize) (fault at rules.FramePlace) found
    (not_less s.max_locals (depth (listed placed.frame)) (omega (arith, is_listed.fits))) (not_less s.max_stack (depth placed.frame.stack) fits) start
    ∙ ap (λ (one : PlacedFrame). Ok one) same

module _ (s : Setting) (classes : List NamedIndex) (short : AreShort classes) where
  readable : (from : ℕ) (placed : PlacedFrame) → placed.at ≤ 65535 → FitsFrame classes placed.frame → HasFrame s classes placed → IsReadable s classes (listed_at from placed)
  readable from placed at fits has = record {
    short = short;
    delta = omega arith;
    few_locals = omega (arith, few_listed placed.frame, fits.few_locals);
    few_stack = fits.few_stack;
    fits_locals = all_listed (FitsType classes) placed.frame fits.locals;
    fits_stack = fits.stack;
    has_locals = all_listed (HasType s classes) placed.frame has.locals;
    has_stack = has.stack;
  }

  pub frames_read : (from : ℕ) (before : List VType) (frames : List PlacedFrame) (bytes : List ℕ) → PlacesIncrease from frames → AllByRecursion (λ placed. FitsFrame classes placed.frame) frames → HasFrames s classes frames → AreFrames classes from before frames bytes
      → Reads (frames_at s (length frames) from before) bytes frames
  unfolding frames_at
  frames_read from before [] bytes places fits has are = record { read = λ at rest. (at, rw are) }
  frames_read from before (placed ∷ frames) bytes places fits has are =
      let frame = listed_at from placed in
      let found : Stated = stated_frame frame.delta frame.locals frame.stack in
      let one : Reads (frame_at s before) are.0 found =
      rw are.3.spelled (frame_read s classes before frame (readable from placed places.1 fits.0 has.0) are.3.kind (first_fits (FitsFrameKind before frame) frame_kinds are.3.kind are.3.first)) in
      let others = frames_read (placed.at + 1) (listed placed.frame) frames are.1 places.2 fits.1 has.1 are.4 in
      let here : from + (placed.at - from) ≡ placed.at = omega arith in
      let listed_is = is_listed placed.frame fits.0.by_unit in
      rw are.2 (placed_read one
      (λ at first. fits_at s at (from + first.0.delta) first.0 >>= λ p. frames_at s (length frames) (from + first.0.delta + 1) first.0.entries.locals first.1 >>= λ others. Ok (p ∷ others.0, others.1))
      are.1 (placed ∷ frames)
      (λ at. known_read (fits_at s at (from + (placed.at - from)) found) placed (rw here (frame_fits s at frame.delta placed listed_is has.0.all_locals has.0.fits_stack has.0.start))
      (λ p rest. frames_at s (length frames) (from + (placed.at - from) + 1) (listed placed.frame) rest >>= λ others. Ok (p ∷ others.0, others.1))
      are.1 (placed ∷ frames) (rw here (made_read others (λ (more : List PlacedFrame). placed ∷ more)))))

-- ---- the table

-- nothing is left behind the last part
whole_read : {X Y : Type 0} {first : Rest → Cut X} {bytes : List ℕ} {x : X} → Reads first bytes x → (next : X × Rest → Cut Y) (more : List ℕ) (y : Y) → Reads (λ rest. next (x, rest)) more y
    → (first (record { at = 0; bytes = bytes ++ more }) >>= λ got. next got >>= λ all. cond (length all.1.bytes == 0) (Ok all.0) (Err missing)) ≡ Ok y
whole_read {first = first} {bytes = bytes} one next more y two =
    let a = one.read 0 more in
    let b = two.read a.0 [] in
    let left = rw (append-nil more) at b.1 in
    rw (a.1, left)

pub table_read : (s : Setting) (classes : List NamedIndex) (entry : Frame) (frames : List PlacedFrame) (bytes : List ℕ) → AreShort classes → FitsTable classes frames → HasFrames s classes frames → IsTable classes entry frames bytes
    → stack_map_table_at s entry bytes ≡ Ok frames
table_read s classes entry frames bytes short fits has is =
    rw is.counted (whole_read (number_read (length frames) fits.few)
    (λ count. frames_at s count.0 0 (listed entry) count.1) is.inside frames
    (frames_read s classes short 0 (listed entry) frames is.inside fits.places fits.each has is.are_frames))
