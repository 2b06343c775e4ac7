-- The frame that a method's code begins with lists what its locals begin with.
use Rattle.std.proofs.Common.{◌≡◌, ℕ, zero, suc, ◌-◌, List, [], ◌∷◌, ◌++◌, length, replicate, map, Some, refl, sym, ap, ◌∙◌, append_assoc}
use Rattle.std.proofs.lemmas.List.{append-nil, reverse-append}
use Rattle.class_model.specs.Code.{verification_type}
use Rattle.class_model.specs.Descriptors.{parameters_of}
use Rattle.class_model.specs.Frames.{units_of_entries, listed}
use Rattle.class_model.specs.Methods.{Home, entry_of}
use Rattle.class_model.specs.PoolChecks.{utf8_at}
use Rattle.class_model.specs.declared.class_file.CodePart.{CodePart}
use Rattle.class_model.specs.declared.class_file.Method.{Method}
use Rattle.class_model.specs.declared.frame.VType.{VType}
use Rattle.class_model.specs.declared.frame.VType.TheVariants as types
use Rattle.code_bytes.specs.Entry.{this_entries}
use Rattle.code_bytes.specs.Laws.EntryFrames.{entry_is, frame_of}

-- ---- locals that are not listed

one_top : (locals : List VType) → listed (frame_of (locals ++ types.Top ∷ [])) ≡ listed (frame_of locals)
one_top locals = rw (reverse-append locals (types.Top ∷ [])) refl

tops : (count : ℕ) (locals : List VType) → listed (frame_of (locals ++ replicate count types.Top)) ≡ listed (frame_of locals)
tops zero locals = ap (λ (units : List VType). listed (frame_of units)) (append-nil locals)
tops (suc count) locals =
    ap (λ (units : List VType). listed (frame_of units)) (sym (append_assoc locals (types.Top ∷ []) (replicate count types.Top)))
    ∙ tops count (locals ++ types.Top ∷ [])
    ∙ one_top locals

-- ---- the frame

pub entry_lists : (home : Home) (method : Method) (text : List ℕ) (locals : List VType) → utf8_at home.pool method.desc ≡ Some text
    → locals ≡ this_entries method.flags (utf8_at home.pool method.name) home.name ++ units_of_entries (map verification_type (parameters_of text))
    → (part : CodePart) → listed (frame_of locals) ≡ listed (entry_of home method part)
entry_lists home method text locals there are part =
    sym (tops (part.max_locals - length locals) locals) ∙ ap listed (entry_is home method part text locals there are)
