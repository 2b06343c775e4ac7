-- Entries that are read one after the other.
use Rattle.std.proofs.Common.{◌≡◌, ℕ, suc, ◌+◌, ◌-◌, ◌<◌, ◌≤◌, List, [], ◌∷◌, ◌++◌, Ok, Err, refl, sym, ap, ◌∙◌, append_assoc, arith}
use Rattle.std.proofs.lemmas.List.{append-nil}
use Rattle.class_model.specs.Answers.{Takes}
use Rattle.class_model.specs.Cutting.{Rest}
use Rattle.class_model.specs.Frames.{Setting, verification_type_at, verification_types_at}
use Rattle.class_model.specs.Laws.Cuts.{in_front, in_front-none, in_front-append}
use Rattle.class_model.specs.declared.fault.ClassFault.{ClassFault}
use Rattle.class_model.specs.declared.frame.VType.{VType}
use Rattle.map_frames.specs.Inner.Steps.{Refuses, Appends}
use Rattle.map_frames.proofs.Counts.{left_more}
use Rattle.map_frames.proofs.Faults.{refuses_bind, refuses_same, refuses_takes}

entries_more : (s : Setting) (frame left : ℕ) (rest : Rest) (t : VType) (after : Rest) → verification_type_at s frame rest ≡ Ok (t, after) → verification_types_at s frame (suc left) rest ≡ in_front (t ∷ []) (verification_types_at s frame left after)
unfolding verification_types_at
entries_more s frame left rest t after e = rw e refl

entries_fail : (s : Setting) (frame left : ℕ) (rest : Rest) (f : ClassFault) → Refuses (verification_type_at s frame rest) f → Refuses (verification_types_at s frame (suc left) rest) f
unfolding verification_types_at
entries_fail s frame left rest f h = refuses_bind (verification_type_at s frame rest) _ f h

-- So many entries of some were read: the rest of them, behind those, are all.
pub record Read (s : Setting) (frame count : ℕ) (from : Rest) (before : List VType) (done : ℕ) (now : List VType) (rest : Rest) : Type 0 where
  pub more : List VType
  pub pushed : now ≡ before ++ more
  pub left : verification_types_at s frame count from ≡ in_front more (verification_types_at s frame (count - done) rest)

pub read_none : (s : Setting) (frame count : ℕ) (from : Rest) (before : List VType) → Read s frame count from before 0 before from
read_none s frame count from before = record { more = []; pushed = sym (append-nil before); left = in_front-none (verification_types_at s frame count from) ∙ ap (λ (n : ℕ). in_front [] (verification_types_at s frame n from)) (omega arith) }

pub read_more : (s : Setting) (frame count : ℕ) (from : Rest) (before : List VType) (done : ℕ) (now : List VType) (rest : Rest) (t : VType) (next : List VType) (after : Rest) → done < count → Read s frame count from before done now rest → verification_type_at s frame rest ≡ Ok (t, after) → next ≡ now ++ t ∷ [] → Read s frame count from before (done + 1) next after
read_more s frame count from before done now rest t next after lt r e pushed = record {
  more = r.more ++ t ∷ [];
  pushed = pushed ∙ ap (λ (l : List VType). l ++ t ∷ []) r.pushed ∙ append_assoc before r.more (t ∷ []);
  left = r.left ∙ ap (λ (n : ℕ). in_front r.more (verification_types_at s frame n rest)) (left_more count done lt)
      ∙ ap (in_front r.more) (entries_more s frame (count - (done + 1)) rest t after e) ∙ in_front-append r.more (t ∷ []) (verification_types_at s frame (count - (done + 1)) after);
}

pub read_fails : (s : Setting) (frame count : ℕ) (from : Rest) (before : List VType) (done : ℕ) (now : List VType) (rest after : Rest) (f : ClassFault) → done < count → Read s frame count from before done now rest → Takes (verification_type_at s frame rest) after (Err f) → Refuses (verification_types_at s frame count from) f
read_fails s frame count from before done now rest after f lt r e =
    refuses_same _ _ f (r.left ∙ ap (λ (n : ℕ). in_front r.more (verification_types_at s frame n rest)) (left_more count done lt))
    (refuses_bind (verification_types_at s frame (suc (count - (done + 1))) rest) _ f (entries_fail s frame (count - (done + 1)) rest f (refuses_takes _ after f e)))

pub read_all : (s : Setting) (frame count : ℕ) (from : Rest) (before : List VType) (done : ℕ) (now : List VType) (rest : Rest) → count ≤ done → Read s frame count from before done now rest → Appends (verification_types_at s frame count from) before now rest (Ok tt)
unfolding verification_types_at
read_all s frame count from before done now rest le r =
    (r.more, r.left ∙ ap (λ (n : ℕ). in_front r.more (verification_types_at s frame n rest)) {y = 0} (omega arith) ∙ ap (λ (l : List VType). Ok (l, rest)) (append-nil r.more), r.pushed)
