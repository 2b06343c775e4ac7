-- A frame that is written in a kind that fits is read back.
use Rattle.std.proofs.Common.{◌≡◌, ℕ, suc, ◌+◌, ◌-◌, ◌≤◌, cond, ltb, List, [], ◌∷◌, ◌++◌, length, take, drop, Option, Some, Ok, Err, refl, ap, subst, ◌∙◌, arith}
use Rattle.std.specs.List.{AllByRecursion}
use Rattle.std.proofs.Math.Seq.{take-append_seam, drop-append_seam}
use Rattle.std.proofs.lemmas.Bool.Decides.{nat_tests}
use Rattle.std.proofs.lemmas.List.{append-nil, length-append}
use Rattle.class_model.specs.Checks.{◌>>=◌}
use Rattle.class_model.specs.Cutting.{Rest, Cut}
use Rattle.class_model.specs.Frames.{Setting, Stated, FrameForm, SameFrame, frame_rows, frame_behind, stated_frame, chopped, chop_at, append_at, counted_types_at, item_frame_at, verification_type_at, verification_types_at, table_u2_at, full_at, frame_at, missing}
use Rattle.class_model.specs.Instructions.{u1_in}
use Rattle.class_model.specs.Laws.Cuts.{u1_front}
use Rattle.class_model.specs.Spelling.{u2}
use Rattle.class_model.specs.Tables.{given_in}
use Rattle.class_model.specs.declared.frame.VType.{VType}
use Rattle.map_frames.specs.Inner.Indices.{AreShort}
use Rattle.map_frames.specs.Writing.{FitsType, HasType, Listed, FrameKind, Same, SameItem, SameItemExtended, Chop, SameExtended, Append, Full, FitsFrameKind, type_bytes, types_bytes, kind_bytes}
use Rattle.map_frames.specs.declared.writing.NamedIndex.{NamedIndex}
use Rattle.map_frames.proofs.KindRows.{same_row, item_row, chop_row, append_row}
use Rattle.map_frames.proofs.TypesRead.{Reads, then_read, made_read, number_read, type_read, types_read}

-- the frame at a place behind its first byte
abbrev of_kind : Setting → List VType → ℕ → ℕ → Rest → Cut Stated
of_kind s locals at kind rest = frame_behind s locals at (given_in frame_rows kind) rest

some_byte : {A : Type 0} (n : ℕ) (x y : A) → cond (ltb (suc n) 1) x y ≡ y
some_byte n x y = grind (arith, nat_tests)

at_kind : (s : Setting) (locals : List VType) (at kind : ℕ) (bytes : List ℕ) → frame_at s locals (record { at = at; bytes = kind ∷ bytes }) ≡ of_kind s locals at kind (record { at = at + 1; bytes = bytes })
at_kind s locals at kind bytes =
    let behind_kind : Rest = record { at = at + 1; bytes = bytes } in
    some_byte (length bytes) (Err missing) (of_kind s locals at (u1_in (kind ∷ bytes) 0) behind_kind)
    ∙ ap (λ (k : ℕ). of_kind s locals at k behind_kind) (u1_front kind bytes)

-- so many locals can go
chop_form : {A : Type 0} (count have : ℕ) (x y : A) → count ≤ have → cond (ltb have count) x y ≡ y
chop_form count have x y fits = grind (arith, nat_tests)

-- ---- each kind

module _ (s : Setting) (before : List VType) where
  -- a frame is read behind its first byte as its form is
  behind_kind : (kind : ℕ) (bytes : List ℕ) (frame : Stated) (form : ℕ → Rest → Cut Stated) → ((at : ℕ) (rest : Rest) → of_kind s before at kind rest ≡ form at rest) → ((at : ℕ) → Reads (form at) bytes frame) → Reads (frame_at s before) (kind ∷ bytes) frame
  behind_kind kind bytes frame form same reads = record {
    read = λ at rest.
        let inside = (reads at).read (at + 1) rest in
        (inside.0, at_kind s before at kind (bytes ++ rest) ∙ same at _ ∙ inside.1);
  }

  -- the form of the row of a first byte
  by_row : (kind : ℕ) (form : FrameForm) → given_in frame_rows kind ≡ Some form → (at : ℕ) (rest : Rest) → of_kind s before at kind rest ≡ frame_behind s before at (Some form) rest
  by_row kind form e at rest = ap (λ (found : Option FrameForm). frame_behind s before at found rest) e

  same_read : (delta : ℕ) → delta ≤ 63 → Reads (frame_at s before) (delta ∷ []) (stated_frame delta before [])
  same_read delta h =
      behind_kind delta [] (stated_frame delta before []) (λ at rest. Ok (stated_frame delta before [], rest))
      (by_row delta (SameFrame delta) (same_row delta h)) (λ at. record { read = λ at rest. (at, refl) })

  same_extended_read : (delta : ℕ) → delta ≤ 65535 → Reads (frame_at s before) (251 ∷ u2 delta) (stated_frame delta before [])
  same_extended_read delta h =
      behind_kind 251 (u2 delta) (stated_frame delta before []) (λ at rest. table_u2_at rest >>= λ delta. Ok (stated_frame delta.0 before [], delta.1))
      (λ at rest. refl) (λ at. made_read (number_read delta h) (λ n. stated_frame n before []))

  one_read : (delta frame : ℕ) (bytes : List ℕ) (type : VType) → Reads (verification_type_at s frame) bytes type → Reads (item_frame_at s delta before frame) bytes (stated_frame delta before (type ∷ []))
  one_read delta frame bytes type reads = made_read (made_read reads (λ item. item ∷ [])) (λ (stack : List VType). stated_frame delta before stack)

  item_read : (delta : ℕ) (bytes : List ℕ) (type : VType) → delta ≤ 63 → ((frame : ℕ) → Reads (verification_type_at s frame) bytes type) → Reads (frame_at s before) ((64 + delta) ∷ bytes) (stated_frame delta before (type ∷ []))
  item_read delta bytes type h reads =
      behind_kind (64 + delta) bytes (stated_frame delta before (type ∷ [])) (λ at rest. item_frame_at s delta before at rest)
      (λ at rest. by_row (64 + delta) _ (item_row (64 + delta) (omega arith) (omega arith)) at rest ∙ ap (λ (n : ℕ). item_frame_at s n before at rest) (omega arith))
      (λ at. one_read delta at bytes type (reads at))

  item_extended_read : (delta : ℕ) (bytes : List ℕ) (type : VType) → delta ≤ 65535 → ((frame : ℕ) → Reads (verification_type_at s frame) bytes type) → Reads (frame_at s before) (247 ∷ (u2 delta ++ bytes)) (stated_frame delta before (type ∷ []))
  item_extended_read delta bytes type h reads =
      behind_kind 247 (u2 delta ++ bytes) (stated_frame delta before (type ∷ []))
      (λ at rest. table_u2_at rest >>= λ delta. item_frame_at s delta.0 before at delta.1)
      (λ at rest. refl)
      (λ at. then_read (number_read delta h) _ bytes (stated_frame delta before (type ∷ [])) (one_read delta at bytes type (reads at)))

  chop_read : (delta count : ℕ) → delta ≤ 65535 → 1 ≤ count → count ≤ 3 → count ≤ length before → Reads (frame_at s before) ((251 - count) ∷ u2 delta) (stated_frame delta (chopped count before) [])
  chop_read delta count h some few fits =
      behind_kind (251 - count) (u2 delta) (stated_frame delta (chopped count before) [])
      (λ at rest. table_u2_at rest >>= λ delta. Ok (stated_frame delta.0 (chopped count before) [], delta.1))
      (λ at rest.
      by_row (251 - count) _ (chop_row (251 - count) (omega arith) (omega arith)) at rest
      ∙ ap (λ (n : ℕ). chop_at n before at rest) (omega arith)
      ∙ chop_form count (length before) _ _ fits)
      (λ at. made_read (number_read delta h) (λ n. stated_frame n (chopped count before) []))

  append_read : (delta : ℕ) (bytes : List ℕ) (more : List VType) → delta ≤ 65535 → 1 ≤ length more → length more ≤ 3 → ((frame : ℕ) → Reads (verification_types_at s frame (length more)) bytes more) → Reads (frame_at s before) ((251 + length more) ∷ (u2 delta ++ bytes)) (stated_frame delta (before ++ more) [])
  append_read delta bytes more h some few reads =
      behind_kind (251 + length more) (u2 delta ++ bytes) (stated_frame delta (before ++ more) []) (λ at rest. append_at s (length more) before at rest)
      (λ at rest. by_row (251 + length more) _ (append_row (251 + length more) (omega arith) (omega arith)) at rest ∙ ap (λ (n : ℕ). append_at s n before at rest) (omega arith))
      (λ at. then_read (number_read delta h) _ bytes (stated_frame delta (before ++ more) []) (made_read (reads at) (λ (types : List VType). stated_frame delta (before ++ types) [])))

  counted_read : (frame : ℕ) (types : List VType) (bytes : List ℕ) → length types ≤ 65535 → Reads (verification_types_at s frame (length types)) bytes types → Reads (counted_types_at s frame) (u2 (length types) ++ bytes) types
  counted_read frame types bytes few reads = then_read (number_read (length types) few) _ bytes types reads

  full_read : (delta : ℕ) (locals stack : List VType) (locals_bytes stack_bytes : List ℕ) → delta ≤ 65535 → length locals ≤ 65535 → length stack ≤ 65535
      → ((frame : ℕ) → Reads (verification_types_at s frame (length locals)) locals_bytes locals) → ((frame : ℕ) → Reads (verification_types_at s frame (length stack)) stack_bytes stack)
      → Reads (frame_at s before) (255 ∷ (u2 delta ++ ((u2 (length locals) ++ locals_bytes) ++ (u2 (length stack) ++ stack_bytes)))) (stated_frame delta locals stack)
  full_read delta locals stack locals_bytes stack_bytes h few_locals few_stack locals_reads stack_reads =
      behind_kind 255 _ (stated_frame delta locals stack) (λ at rest. full_at s at rest)
      (λ at rest. refl)
      (λ at. then_read (number_read delta h) _ _ _
      (then_read (counted_read at locals locals_bytes few_locals (locals_reads at)) _ _ _
      (made_read (counted_read at stack stack_bytes few_stack (stack_reads at)) (λ (types : List VType). stated_frame delta locals types))))

-- ---- the kinds that fit

-- what a frame has to be so that its spellings are read back
pub record IsReadable (s : Setting) (classes : List NamedIndex) (frame : Listed) : Type 0 where
  pub short : AreShort classes
  pub delta : frame.delta ≤ 65535
  pub few_locals : length frame.locals ≤ 65535
  pub few_stack : length frame.stack ≤ 65535
  pub fits_locals : AllByRecursion (FitsType classes) frame.locals
  pub fits_stack : AllByRecursion (FitsType classes) frame.stack
  pub has_locals : AllByRecursion (HasType s classes) frame.locals
  pub has_stack : AllByRecursion (HasType s classes) frame.stack

pub all_behind : {X : Type 0} (P : X → Type 0) (front back : List X) → AllByRecursion P (front ++ back) → AllByRecursion P back
all_behind P [] back all = all
all_behind P (x ∷ front) back all = all_behind P front back all.1

one_item : {X : Type 0} (items : List X) → length items ≡ 1 → (x : X) × (items ≡ x ∷ [])
one_item [] len = absurd (omega arith)
one_item (x ∷ []) len = (x, refl)
one_item (x ∷ y ∷ items) len = absurd (omega arith)

module _ (s : Setting) (classes : List NamedIndex) (before : List VType) where
  -- the bytes of a frame in this kind are read as the frame
  abbrev pub IsReadAs : Listed → FrameKind → Type 0
  IsReadAs frame kind = Reads (frame_at s before) (kind_bytes classes before frame kind) (stated_frame frame.delta frame.locals frame.stack)

  read_item : (frame : Listed) → IsReadable s classes frame → FitsFrameKind before frame SameItem → IsReadAs frame SameItem
  read_item frame can fits =
      let item = one_item frame.stack fits.1 in
      let fits_item = rw item.1 at can.fits_stack in
      let has_item = rw item.1 at can.has_stack in
      rw (fits.0, item.1, append-nil (type_bytes classes item.0))
      (item_read s before frame.delta (type_bytes classes item.0) item.0 fits.2 (λ at. type_read s classes can.short at item.0 fits_item.0 has_item.0))

  read_item_extended : (frame : Listed) → IsReadable s classes frame → FitsFrameKind before frame SameItemExtended → IsReadAs frame SameItemExtended
  read_item_extended frame can fits =
      let item = one_item frame.stack fits.1 in
      let fits_item = rw item.1 at can.fits_stack in
      let has_item = rw item.1 at can.has_stack in
      rw (fits.0, item.1, append-nil (type_bytes classes item.0))
      (item_extended_read s before frame.delta (type_bytes classes item.0) item.0 can.delta (λ at. type_read s classes can.short at item.0 fits_item.0 has_item.0))

  read_chop : (frame : Listed) → IsReadable s classes frame → FitsFrameKind before frame Chop → IsReadAs frame Chop
  read_chop frame can fits =
      let gone = fits.1.0 in
      let lengths : length before ≡ length frame.locals + length gone = ap length fits.1.1 ∙ length-append frame.locals gone in
      let count : length before - length frame.locals ≡ length gone = omega arith in
      let kept : length before - length gone ≡ length frame.locals = omega arith in
      let left : take (length before - length gone) before ≡ frame.locals = ap (λ (n : ℕ). take n before) kept ∙ ap (take (length frame.locals)) fits.1.1 ∙ take-append_seam frame.locals gone in
      rw (count, fits.0) (subst (λ (locals : List VType). Reads (frame_at s before) ((251 - length gone) ∷ u2 frame.delta) (stated_frame frame.delta locals [])) left
      (chop_read s before frame.delta (length gone) can.delta fits.1.2.0 fits.1.2.1 (omega arith)))

  read_append : (frame : Listed) → IsReadable s classes frame → FitsFrameKind before frame Append → IsReadAs frame Append
  read_append frame can fits =
      let more = fits.1.0 in
      let count : length frame.locals - length before ≡ length more = omega (arith, ap length fits.1.1, length-append before more) in
      let behind : drop (length before) frame.locals ≡ more = ap (drop (length before)) fits.1.1 ∙ drop-append_seam before more in
      let fits_more = all_behind (FitsType classes) before more (rw fits.1.1 at can.fits_locals) in
      let has_more = all_behind (HasType s classes) before more (rw fits.1.1 at can.has_locals) in
      rw (count, behind, fits.1.1, fits.0)
      (append_read s before frame.delta (types_bytes classes more) more can.delta fits.1.2.0 fits.1.2.1 (λ at. types_read s classes can.short at more fits_more has_more))

  pub frame_read : (frame : Listed) → IsReadable s classes frame → (kind : FrameKind) → FitsFrameKind before frame kind → IsReadAs frame kind
  frame_read frame can Same fits = rw (fits.0, fits.1) (same_read s before frame.delta fits.2)
  frame_read frame can SameItem fits = read_item frame can fits
  frame_read frame can SameItemExtended fits = read_item_extended frame can fits
  frame_read frame can Chop fits = read_chop frame can fits
  frame_read frame can SameExtended fits = rw (fits.0, fits.1) (same_extended_read s before frame.delta can.delta)
  frame_read frame can Append fits = read_append frame can fits
  frame_read frame can Full fits =
      full_read s before frame.delta frame.locals frame.stack (types_bytes classes frame.locals) (types_bytes classes frame.stack) can.delta can.few_locals can.few_stack
      (λ at. types_read s classes can.short at frame.locals can.fits_locals can.has_locals)
      (λ at. types_read s classes can.short at frame.stack can.fits_stack can.has_stack)
