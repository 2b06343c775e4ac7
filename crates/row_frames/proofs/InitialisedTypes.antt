-- Types behind the call of an instance initialiser, in a scope.
use Rattle.std.proofs.Common.{◌≡◌, ◌==◌, List, [], ◌∷◌, Bool, true, false, Some, None, if◌then◌else◌, map, refl, ap, ◌∙◌}
use Rattle.class_model.specs.declared.frame.VType.{VType}
use Rattle.class_model.specs.declared.frame.VType.TheVariants.{Top, Int, Float, Long, Double, Null, UninitThis, Object, Uninit}
use Rattle.member_link.specs.References.{Reference}
use Rattle.member_link.specs.RowScope.{RowScope}
use Rattle.member_link.specs.Rows.MemberRows.{initialised_type}
use Rattle.row_frames.specs.Inner.Becoming.{becomes, object_or}

module _ (s : RowScope) (r : Reference) where
  made_at : (other : Bool) (type : VType) → object_or (if other then Some r.class else None) type ≡ (if other then Object r.class else type)
  made_at true type = refl
  made_at false type = refl

  same : (receiver type : VType) → becomes s.own.name r.class receiver type ≡ initialised_type s r receiver type
  same (Uninit at) (Uninit other) = made_at (other == at) (Uninit other)
  same (Uninit at) Top = refl
  same (Uninit at) Int = refl
  same (Uninit at) Float = refl
  same (Uninit at) Long = refl
  same (Uninit at) Double = refl
  same (Uninit at) Null = refl
  same (Uninit at) UninitThis = refl
  same (Uninit at) (Object name) = refl
  same UninitThis (Uninit other) = refl
  same UninitThis Top = refl
  same UninitThis Int = refl
  same UninitThis Float = refl
  same UninitThis Long = refl
  same UninitThis Double = refl
  same UninitThis Null = refl
  same UninitThis UninitThis = refl
  same UninitThis (Object name) = refl
  same Top type = refl
  same Int type = refl
  same Float type = refl
  same Long type = refl
  same Double type = refl
  same Null type = refl
  same (Object name) type = refl

  pub all_same : (receiver : VType) (types : List VType) → map (becomes s.own.name r.class receiver) types ≡ map (initialised_type s r receiver) types
  all_same receiver [] = refl
  all_same receiver (type ∷ types) = ap (λ (first : VType). first ∷ map (becomes s.own.name r.class receiver) types) (same receiver type) ∙ ap (λ (rest : List VType). initialised_type s r receiver type ∷ rest) (all_same receiver types)
