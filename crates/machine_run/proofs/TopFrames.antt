-- A call on the method of the top frame, in place.
use Rattle.std.proofs.Common.{◌≡◌, ℕ, ◌-◌, List, [], ◌∷◌, get_or, length, reverse, slice_set, OnOk, sym, ap, ◌∙◌}
use Rattle.std.proofs.lemmas.List.{length-reverse}
use Rattle.std.proofs.lemmas.Result.{on_ok_weaker}
use Rattle.std.specs.Prelude.{Result, Ok, Err}
use Rattle.machine_values.specs.Frames.{MethodState}
use Rattle.machine_values.specs.declared.frame.RunFrame.{RunFrame}
use Rattle.machine_values.specs.declared.frame.RunFrame.TheVariants.{Method}
use Rattle.machine_run.proofs.Tops.{top_read, top_set}

pub on_ok_always : {A E X : Type 0} (r : Result A E) → X → OnOk r X
on_ok_always (Ok a) x = x
on_ok_always (Err e) x = tt

pub method_went :
    {A E : Type 0} (r : Result A E) (goes : MethodState → MethodState) (items : List RunFrame) (frames : List RunFrame) (len : ℕ)
    (frame new : MethodState)
    → ((f : MethodState) (rest : List RunFrame) → frames ≡ Method f ∷ rest → frame ≡ f)
    → reverse items ≡ frames
    → len ≡ length items
    → OnOk r (new ≡ goes frame)
    → OnOk r ((f : MethodState) (rest : List RunFrame) → frames ≡ Method f ∷ rest
    → reverse (slice_set items (len - 1) (Method new)) ≡ Method (goes f) ∷ rest)
method_went r goes items frames len frame new top view many went =
    on_ok_weaker r
    (λ went f rest is.
    top_set items (Method f) (Method new) rest len (view ∙ is) many
    ∙ ap (λ (g : MethodState). Method g ∷ rest) (went ∙ ap goes (top f rest is)))
    went

-- the item that was read at the last index is the top one
pub top_there :
    (items frames : List RunFrame) (len : ℕ) (got : RunFrame)
    → reverse items ≡ frames → len ≡ length items → (len ≡ 0 → ⊥) → got ≡ get_or items (len - 1) got
    → (rest : List RunFrame) × (frames ≡ got ∷ rest)
top_there items [] len got view many some read = absurd (some (many ∙ sym (length-reverse items) ∙ ap length view))
top_there items (first ∷ rest) len got view many some read =
    (rest, ap (λ (top : RunFrame). top ∷ rest) (sym (top_read items first rest len got view many read)))
