-- Frames that are read one after the other.
use Rattle.std.proofs.Common.{◌≡◌, ◌==◌, ℕ, suc, ◌+◌, ◌-◌, ◌<◌, ◌≤◌, Bool, true, false, cond, List, [], ◌∷◌, ◌++◌, length, Result, Ok, Err, refl, ap, ◌∙◌, subst, arith}
use Rattle.std.proofs.lemmas.List.{append-nil}
use Rattle.class_model.specs.Answers.{Gives}
use Rattle.class_model.specs.Checks.{Fault, ◌>>=◌}
use Rattle.class_model.specs.Cutting.{Rest, Cut, uncut}
use Rattle.class_model.specs.Frames.{Setting, Stated, frame_at, frames_at, stack_map_table_at, listed, missing, fits_at, table_u2_at}
use Rattle.class_model.specs.Laws.Cuts.{in_front, in_front-append}
use Rattle.class_model.specs.declared.fault.ClassFault.{ClassFault}
use Rattle.class_model.specs.declared.frame.Frame.{Frame}
use Rattle.class_model.specs.declared.frame.PlacedFrame.{PlacedFrame}
use Rattle.class_model.specs.declared.frame.VType.{VType}
use Rattle.map_frames.specs.Reading.{Accepts}
use Rattle.map_frames.specs.Inner.Steps.{Refuses, Standing, IsStep, Steps, placed, end_at}
use Rattle.map_frames.proofs.Faults.{refuses_bind, refuses_same, refuses_gives, accepts_refused}
use Rattle.map_frames.proofs.Counts.{left_more}

-- so many frames from where a reader stands
abbrev frames_from : Setting → ℕ → Standing → Cut (List PlacedFrame)
frames_from s left w = frames_at s left w.from w.locals w.rest

frames_more : (s : Setting) (left : ℕ) (w next : Standing) (at : ℕ) (stack : List VType) → IsStep s w at stack next → frames_from s (suc left) w ≡ in_front (placed s at next.locals stack ∷ []) (frames_from s left next)
unfolding frames_at
frames_more s left w next at stack step = rw (step.read, step.fits, step.from) refl

-- the fault of a frame, whatever is done with one that is read
fault_stays : (s : Setting) (w : Standing) (cut : Cut Stated) (next : Stated × Rest → PlacedFrame → Cut (List PlacedFrame)) (f : ClassFault) → Refuses (cut >>= λ first. fits_at s w.rest.at (w.from + first.0.delta) first.0) f → Refuses (cut >>= λ first. fits_at s w.rest.at (w.from + first.0.delta) first.0 >>= next first) f
fault_stays s w (Ok first) next f h = refuses_bind (fits_at s w.rest.at (w.from + first.0.delta) first.0) (next first) f h
fault_stays s w (Err d) next f h = refuses_bind {X = PlacedFrame} (Err d) (λ x. Err d) f h

frames_fail : (s : Setting) (left : ℕ) (w : Standing) (f : ClassFault) → Refuses (frame_at s w.locals w.rest >>= λ first. fits_at s w.rest.at (w.from + first.0.delta) first.0) f → Refuses (frames_from s (suc left) w) f
unfolding frames_at
frames_fail s left w f h = fault_stays s w (frame_at s w.locals w.rest) _ f h

-- So many of some frames were read: the rest of them, behind those, are all.
pub record FramesRead (s : Setting) (count : ℕ) (start : Standing) (done : ℕ) (frames : List PlacedFrame) (w : Standing) : Type 0 where
  pub left : frames_from s count start ≡ in_front frames (frames_from s (count - done) w)

pub frames_next : (s : Setting) (count : ℕ) (start : Standing) (done : ℕ) (frames : List PlacedFrame) (w next : Standing) (at : ℕ) (stack : List VType) → done < count → FramesRead s count start done frames w → IsStep s w at stack next → FramesRead s count start (done + 1) (frames ++ placed s at next.locals stack ∷ []) next
frames_next s count start done frames w next at stack lt r step = record {
  left = r.left ∙ ap (λ (n : ℕ). in_front frames (frames_from s n w)) (left_more count done lt)
      ∙ ap (in_front frames) (frames_more s (count - (done + 1)) w next at stack step)
      ∙ in_front-append frames (placed s at next.locals stack ∷ []) (frames_from s (count - (done + 1)) next);
}

-- where a table is read: its count, and the entry frame before its frames
pub record TableStart (entry : Frame) (bytes : List ℕ) (count : ℕ) (start : Standing) : Type 0 where
  pub counted : table_u2_at (uncut bytes) ≡ Ok (count, start.rest)
  pub from : start.from ≡ 0
  pub locals : start.locals ≡ listed entry

pub table_start : (entry : Frame) (bytes : List ℕ) (count : ℕ) (first start : Standing) → first ≡ record { from = 0; locals = listed entry; rest = uncut bytes } → table_u2_at first.rest ≡ Ok (count, start.rest) → start.locals ≡ first.locals → start.from ≡ first.from → TableStart entry bytes count start
table_start entry bytes count first start is counted locals from = record {
  counted = subst (λ (w : Standing). table_u2_at w.rest ≡ Ok (count, start.rest)) is counted;
  from = from ∙ ap (λ (w : Standing). w.from) is;
  locals = locals ∙ ap (λ (w : Standing). w.locals) is;
}

-- what is told of all frames
abbrev finish : List PlacedFrame × Rest → Result (List PlacedFrame) Fault
finish frames = cond (length frames.1.bytes == 0) (Ok frames.0) (Err missing)

table_from : (s : Setting) (entry : Frame) (bytes : List ℕ) (count : ℕ) (start : Standing) → TableStart entry bytes count start → stack_map_table_at s entry bytes ≡ (frames_from s count start >>= finish)
table_from s entry bytes count start t = rw (t.counted, t.from, t.locals) refl

pub table_fails : (s : Setting) (entry : Frame) (bytes : List ℕ) (count : ℕ) (start : Standing) (done : ℕ) (frames : List PlacedFrame) (w next : Standing) (f : ClassFault) → TableStart entry bytes count start → done < count → FramesRead s count start done frames w → Steps s w next (Err f) → Refuses (stack_map_table_at s entry bytes) f
table_fails s entry bytes count start done frames w next f t lt r step =
    refuses_same _ _ f (table_from s entry bytes count start t)
    (refuses_bind (frames_from s count start) finish f
    (refuses_same _ _ f (r.left ∙ ap (λ (n : ℕ). in_front frames (frames_from s n w)) (left_more count done lt))
    (refuses_bind (frames_from s (suc (count - (done + 1))) w) _ f (frames_fail s (count - (done + 1)) w f step))))

frames_all : (s : Setting) (count : ℕ) (start : Standing) (done : ℕ) (frames : List PlacedFrame) (w : Standing) → count ≤ done → FramesRead s count start done frames w → frames_from s count start ≡ Ok (frames, w.rest)
unfolding frames_at
frames_all s count start done frames w le r =
    r.left ∙ ap (λ (n : ℕ). in_front frames (frames_from s n w)) {y = 0} (omega arith) ∙ ap (λ (l : List PlacedFrame). Ok (l, w.rest)) (append-nil frames)

-- all frames were read: the table is told by what is left
table_all : (s : Setting) (entry : Frame) (bytes : List ℕ) (count : ℕ) (start : Standing) (done : ℕ) (frames : List PlacedFrame) (w : Standing) → TableStart entry bytes count start → count ≤ done → FramesRead s count start done frames w → stack_map_table_at s entry bytes ≡ (end_at w.rest >>= λ end. Ok frames)
table_all s entry bytes count start done frames w t le r =
    table_from s entry bytes count start t ∙ ap (λ (cut : Cut (List PlacedFrame)). cut >>= finish) (frames_all s count start done frames w le r) ∙ by_test (length w.rest.bytes == 0)
  where
    by_test : (b : Bool) → cond b (Ok frames) (Err missing) ≡ (cond b (Ok tt) (Err missing) >>= λ (end : Unit {0}). Ok frames)
    by_test true = refl
    by_test false = refl

pub table_ends : (s : Setting) (entry : Frame) (bytes : List ℕ) (count : ℕ) (start : Standing) (done : ℕ) (frames : List PlacedFrame) (w : Standing) → TableStart entry bytes count start → count ≤ done → FramesRead s count start done frames w → Gives (end_at w.rest) (Ok tt) → stack_map_table_at s entry bytes ≡ Ok frames
table_ends s entry bytes count start done frames w t le r e = table_all s entry bytes count start done frames w t le r ∙ rw e refl

pub table_goes_on : (s : Setting) (entry : Frame) (bytes : List ℕ) (count : ℕ) (start : Standing) (done : ℕ) (frames : List PlacedFrame) (w : Standing) (f : ClassFault) → TableStart entry bytes count start → count ≤ done → FramesRead s count start done frames w → Gives (end_at w.rest) (Err f) → Refuses (stack_map_table_at s entry bytes) f
table_goes_on s entry bytes count start done frames w f t le r h =
    refuses_same _ _ f (table_all s entry bytes count start done frames w t le r) (refuses_bind (end_at w.rest) _ f (refuses_gives (end_at w.rest) f h))

pub table_told : (s : Setting) (entry : Frame) (bytes : List ℕ) (count : ℕ) (start : Standing) (done : ℕ) (frames : List PlacedFrame) (w : Standing) (r : Result (Unit {0}) ClassFault) → TableStart entry bytes count start → count ≤ done → FramesRead s count start done frames w → Gives (end_at w.rest) r → Accepts (stack_map_table_at s entry bytes) r
table_told s entry bytes count start done frames w (Ok end) t le r e = (frames, table_ends s entry bytes count start done frames w t le r e)
table_told s entry bytes count start done frames w (Err f) t le r h = accepts_refused _ f (table_goes_on s entry bytes count start done frames w f t le r h)
