-- The frame that a method's code begins with: this, the parameters, and Top in the other locals.
use Rattle.std.proofs.Common.{◌≡◌, inl, inr, ℕ, ◌-◌, Bool, true, false, cond, List, [], ◌∷◌, ◌++◌, length, replicate, map, Option, Some, None, refl, sym, ap, ◌∙◌}
use Rattle.std.proofs.lemmas.Bool.{cases_Bool}
use Rattle.std.proofs.lemmas.Grind.{flat_map-append}
use Rattle.class_model.specs.Code.{entry_frame, verification_type}
use Rattle.class_model.specs.Descriptors.{parameters_of}
use Rattle.class_model.specs.Frames.{units, units_of_entries, filled}
use Rattle.class_model.specs.Members.{has, STATIC, is_text}
use Rattle.class_model.specs.Methods.{Home, entry_of}
use Rattle.class_model.specs.Names.{init}
use Rattle.class_model.specs.PoolChecks.{utf8_at, text_or_empty}
use Rattle.class_model.specs.declared.class_file.CodePart.{CodePart}
use Rattle.class_model.specs.declared.class_file.Method.{Method}
use Rattle.class_model.specs.declared.descriptor.FieldType.{FieldType}
use Rattle.class_model.specs.declared.frame.Frame.{Frame}
use Rattle.class_model.specs.declared.frame.VType.{VType}
use Rattle.class_model.specs.declared.frame.VType.TheVariants as types
use Rattle.code_bytes.specs.Entry.{class_entry, this_entries}

-- ---- Top in the other locals

-- locals, and Top up to so many
abbrev pub with_tops : ℕ → List VType → List VType
with_tops max_locals locals = locals ++ replicate (max_locals - length locals) types.Top

-- ---- this

this_units : (static is_init : Bool) (class : Option (List ℕ)) → let this : List VType = cond static [] (cond is_init types.UninitThis (class_entry class) ∷ []) in units_of_entries this ≡ this
this_units true is_init class = refl
this_units false true class = refl
this_units false false (Some class) = refl
this_units false false None = refl

abbrev pub frame_of : List VType → Frame
frame_of locals = record { locals = locals; stack = [] }

frame_is : (flags : ℕ) (name class : Option (List ℕ)) (params : List FieldType) (max_locals : ℕ)
    → entry_frame flags (text_or_empty name) class params max_locals ≡ frame_of (filled max_locals (this_entries flags name class ++ map verification_type params))
frame_is flags None None params max_locals = elim (cases_Bool (has flags STATIC)) [ inl e ↦ rw e refl | inr e ↦ rw e refl ]
frame_is flags None (Some class) params max_locals = elim (cases_Bool (has flags STATIC)) [ inl e ↦ rw e refl | inr e ↦ rw e refl ]
frame_is flags (Some name) None params max_locals = elim (cases_Bool (has flags STATIC)) [
  | inl e ↦ rw e refl
  | inr e ↦ elim (cases_Bool (is_text init (Some name))) [ inl i ↦ rw (e, i) refl | inr i ↦ rw (e, i) refl ]
]
frame_is flags (Some name) (Some class) params max_locals = elim (cases_Bool (has flags STATIC)) [
  | inl e ↦ rw e refl
  | inr e ↦ elim (cases_Bool (is_text init (Some name))) [ inl i ↦ rw (e, i) refl | inr i ↦ rw (e, i) refl ]
]

-- ---- the frame

module _ (home : Home) (method : Method) (part : CodePart) (locals : List VType) where
  abbrev this_of : List VType
  this_of = this_entries method.flags (utf8_at home.pool method.name) home.name

  pub entry_with :
      (params : List FieldType)
      → params ≡ parameters_of (text_or_empty (utf8_at home.pool method.desc))
      → locals ≡ this_of ++ units_of_entries (map verification_type params)
      → frame_of (with_tops part.max_locals locals) ≡ entry_of home method part
  entry_with params params_are are =
      let name : Option (List ℕ) = utf8_at home.pool method.name in
      let parts : locals ≡ units_of_entries (this_of ++ map verification_type params) =
      are
      ∙ ap (λ (first : List VType). first ++ units_of_entries (map verification_type params)) (sym (this_units (has method.flags STATIC) (is_text init name) home.name))
      ∙ sym (flat_map-append units this_of (map verification_type params)) in
      ap (λ (of : List VType). frame_of (with_tops part.max_locals of)) parts
      ∙ sym (frame_is method.flags name home.name params part.max_locals)
      ∙ ap (λ (own : List FieldType). entry_frame method.flags (text_or_empty name) home.name own part.max_locals) params_are

pub entry_is :
    (home : Home) (method : Method) (part : CodePart) (text : List ℕ) (locals : List VType)
    → utf8_at home.pool method.desc ≡ Some text
    → locals ≡ this_entries method.flags (utf8_at home.pool method.name) home.name ++ units_of_entries (map verification_type (parameters_of text))
    → frame_of (with_tops part.max_locals locals) ≡ entry_of home method part
entry_is home method part text locals there are = entry_with home method part locals (parameters_of text) (ap (λ (of : Option (List ℕ)). parameters_of (text_or_empty of)) (sym there)) are
