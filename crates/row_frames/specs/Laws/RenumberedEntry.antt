-- The frame that a code begins with has no uninitialised objects but this, and a frame is assignable to itself.
use Rattle.std.proofs.Common.{◌≡◌, ◌-◌, ℕ, zero, suc, Bool, true, false, List, [], ◌∷◌, ◌++◌, length, map, replicate, Option, Some, None, if◌then◌else◌, refl, sym, ap, ◌∙◌}
use Rattle.std.proofs.lemmas.List.{map-append}
use Rattle.class_model.specs.Code.{verification_type}
use Rattle.class_model.specs.Descriptors.{parameters_of}
use Rattle.class_model.specs.Frames.{filled, units, units_of_entries}
use Rattle.class_model.specs.Members.{STATIC, has, is_text}
use Rattle.class_model.specs.Methods.{Home, entry_of}
use Rattle.class_model.specs.Names.{init}
use Rattle.class_model.specs.PoolChecks.{text_or_empty, utf8_at}
use Rattle.class_model.specs.declared.class_file.CodePart.{CodePart}
use Rattle.class_model.specs.declared.class_file.Method.{Method}
use Rattle.class_model.specs.declared.descriptor.FieldType.{FieldType}
use Rattle.class_model.specs.declared.frame.Frame.{Frame}
use Rattle.class_model.specs.declared.frame.VType.{VType}
use Rattle.class_model.specs.declared.frame.VType.TheVariants as types
use Rattle.class_tree.specs.Headers.{Name, Headers}
use Rattle.row_frames.specs.Laws.NumberedFrames.{numbered_type, numbered_frame}
use Rattle.row_frames.specs.Laws.RenumberedTypes.{units_same, verification_same}
use Rattle.member_link.specs.Assignability.{to_same}
use Rattle.member_link.specs.Rows.FrameAssignability.{AreAssignable, IsFrameAssignable}

module _ (number : ℕ → ℕ) where
  all_units_same : (entries : List VType)
      → map (numbered_type number) (units_of_entries entries) ≡ units_of_entries (map (numbered_type number) entries)
  all_units_same [] = refl
  all_units_same (type ∷ entries) =
      map-append (numbered_type number) (units type) (units_of_entries entries)
      ∙ ap (λ (l : List VType). l ++ map (numbered_type number) (units_of_entries entries)) (sym (units_same number type))
      ∙ ap (λ (l : List VType). units (numbered_type number type) ++ l) (all_units_same entries)

  tops_same : (count : ℕ) → map (numbered_type number) (replicate count types.Top) ≡ replicate count types.Top
  tops_same zero = refl
  tops_same (suc count) = ap (λ (l : List VType). types.Top ∷ l) (tops_same count)

  filled_same : (max : ℕ) (entries : List VType) → map (numbered_type number) entries ≡ entries
      → map (numbered_type number) (filled max entries) ≡ filled max entries
  filled_same max entries same =
      map-append (numbered_type number) (units_of_entries entries) (replicate (max - length (units_of_entries entries)) types.Top)
      ∙ ap (λ (l : List VType). map (numbered_type number) (units_of_entries entries) ++ l)
      (tops_same (max - length (units_of_entries entries)))
      ∙ ap (λ (l : List VType). l ++ replicate (max - length (units_of_entries entries)) types.Top)
      (all_units_same entries ∙ ap units_of_entries same)

  params_same : (params : List FieldType) → map (numbered_type number) (map verification_type params) ≡ map verification_type params
  params_same [] = refl
  params_same (param ∷ params) = rw (verification_same number param, params_same params) refl

  abbrev this_or_top : Option Name → List VType
  this_or_top (Some class) = types.Object class ∷ []
  this_or_top None = types.Top ∷ []

  abbrev this_of : Bool → Bool → Option Name → List VType
  this_of is_static is_init class = if is_static then [] else (if is_init then types.UninitThis ∷ [] else this_or_top class)

  this_same : (is_static is_init : Bool) (class : Option Name)
      → map (numbered_type number) (this_of is_static is_init class) ≡ this_of is_static is_init class
  this_same true is_init class = refl
  this_same false true class = refl
  this_same false false (Some name) = refl
  this_same false false None = refl

  pub entry_same : (home : Home) (method : Method) (part : CodePart)
      → numbered_frame number (entry_of home method part) ≡ entry_of home method part
  entry_same home method part =
      let this : List VType =
      this_of (has method.flags STATIC) (is_text init (Some (text_or_empty (utf8_at home.pool method.name)))) home.name in
      let params : List FieldType = parameters_of (text_or_empty (utf8_at home.pool method.desc)) in
      ap (λ (locals : List VType). record { locals = locals; stack = [] })
      (filled_same part.max_locals (this ++ map verification_type params)
      (map-append (numbered_type number) this (map verification_type params)
      ∙ ap (λ (l : List VType). l ++ map (numbered_type number) (map verification_type params)) (this_same _ _ home.name)
      ∙ ap (λ (l : List VType). this ++ l) (params_same params)))

-- ---- frames

each_itself : (headers : Headers) (entries : List VType) → AreAssignable headers entries entries
each_itself headers [] = tt
each_itself headers (entry ∷ entries) = (to_same entry, each_itself headers entries)

pub to_itself : (headers : Headers) (frame : Frame) → IsFrameAssignable headers frame frame
to_itself headers frame = record {
  locals = each_itself headers frame.locals;
  stack = each_itself headers frame.stack;
  keeps_this = λ has. has;
}

-- as many entries
pub as_many : (headers : Headers) (from to : List VType) → AreAssignable headers from to → length from ≡ length to
as_many headers [] [] are = refl
as_many headers [] (high ∷ highs) are = absurd are
as_many headers (low ∷ lows) [] are = absurd are
as_many headers (low ∷ lows) (high ∷ highs) are = ap suc (as_many headers lows highs are.1)
