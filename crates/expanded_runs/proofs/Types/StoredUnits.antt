-- The locals behind the stores of a callee's arguments: their units in a block, over those that were there.
use Rattle.flow_code.specs.ReadTypes.{class_of_site, read_type}
use Rattle.std.proofs.Common.{◌≡◌, ◌+◌, ◌≤◌, ℕ, zero, suc, Bool, true, false, List, [], ◌∷◌, ◌++◌, length, map, drop, take, reverse, slice_get, Option, Some, None, option_map, if◌then◌else◌, refl, sym, ap, ◌∙◌, arith, inl, append-nil}
use Rattle.std.specs.Prelude.{slice_set}
use Rattle.std.proofs.lemmas.List.{append_assoc, length-append, map-set, reverse-append, take-append-drop}
use Rattle.std.proofs.lemmas.Option.{same_Some, slice_get-map}
use Rattle.class_model.specs.Frames.{is_wide, units, units_of_entries}
use Rattle.class_model.specs.declared.descriptor.Kind.{Kind}
use Rattle.class_model.specs.declared.descriptor.Kind.TheVariants as kinds
use Rattle.class_model.specs.declared.frame.Frame.{Frame}
use Rattle.class_model.specs.declared.frame.VType.{VType}
use Rattle.class_model.specs.declared.frame.VType.TheVariants as types
use Rattle.class_tree.specs.Headers.{Name}
use Rattle.expanded_code.specs.Expanded.{Argument, frame_behind_stores, frame_stored, overlaid}
use Rattle.expanded_runs.proofs.Types.ReturnFrames.{lowest_back, under_back}
use Rattle.expanded_runs.proofs.Types.Units.{TopsFrom, get_outside}
use Rattle.flow_code.specs.FlatCode.{FlatCode}
use Rattle.member_link.specs.Rows.LocalRows.{cut_before, stored, with_units}
use Rattle.member_link.specs.Rows.Operands.{IsOfKind}

-- ---- units put in front of a block

abbrev laid : ℕ → List VType → List VType → List VType
laid zero own units = own ++ drop (length own) units
laid (suc unit) own [] = own
laid (suc unit) own (first ∷ units) = first ∷ laid unit own units

drop_nil : (n : ℕ) → drop {A = VType} n [] ≡ []
drop_nil zero = refl
drop_nil (suc n) = refl

laid_is : (unit : ℕ) (own units : List VType) → overlaid unit own units ≡ laid unit own units
laid_is zero own units = let same : 0 + length own ≡ length own = omega arith in ap (λ (n : ℕ). own ++ drop n units) same
laid_is (suc unit) own [] = ap (λ (rest : List VType). own ++ rest) (drop_nil (suc unit + length own)) ∙ append-nil own
laid_is (suc unit) own (first ∷ units) =
    let next : suc unit + length own ≡ suc (unit + length own) = omega arith in
    ap (λ (n : ℕ). (first ∷ take unit units) ++ own ++ drop n (first ∷ units)) next
    ∙ ap (λ (rest : List VType). first ∷ rest) (laid_is unit own units)

one_laid : (unit : ℕ) (type : VType) (own units : List VType) → unit + 1 ≤ length units
    → slice_set (laid (suc unit) own units) unit type ≡ laid unit (type ∷ own) units
one_laid unit type own [] fits = absurd (omega (arith, fits))
one_laid zero type own (first ∷ units) fits = refl
one_laid (suc unit) type own (first ∷ units) fits =
    ap (λ (rest : List VType). first ∷ rest) (one_laid unit type own units (omega (arith, fits)))

two_laid : (unit : ℕ) (type other : VType) (own units : List VType) → unit + 2 ≤ length units
    → slice_set (slice_set (laid (suc (suc unit)) own units) unit type) (suc unit) other ≡ laid unit (type ∷ other ∷ own) units
two_laid unit type other own [] fits = absurd (omega (arith, fits))
two_laid zero type other own (first ∷ []) fits = absurd (omega (arith, fits))
two_laid zero type other own (first ∷ second ∷ units) fits = refl
two_laid (suc unit) type other own (first ∷ units) fits =
    ap (λ (rest : List VType). first ∷ rest) (two_laid unit type other own units (omega (arith, fits)))

-- no value of two units stands across a unit's front
pub record IsClear (unit : ℕ) (locals : List VType) : Type 0 where
  pub narrow : (before : ℕ) (type : VType) → unit ≡ suc before → slice_get locals before ≡ Some type → is_wide type ≡ false

cut_none : (unit : ℕ) (locals : List VType) → IsClear unit locals → cut_before unit locals ≡ locals
cut_none zero locals clear = refl
cut_none (suc unit) locals clear = by (slice_get locals unit) refl where
  by : (found : Option VType) → slice_get locals unit ≡ found → cut_before (suc unit) locals ≡ locals
  by None is = rw (is) refl
  by (Some type) is = rw (is, clear.narrow unit type refl is) refl

clear_over : (unit at : ℕ) (own locals : List VType) → at + length own ≤ length locals → unit ≤ at → IsClear unit locals
    → IsClear unit (overlaid at own locals)
clear_over unit at own locals fits behind clear = record {
  narrow = λ before type same is.
      clear.narrow before type same (sym (get_outside at own locals fits before (inl (omega (arith, same, behind)))) ∙ is);
}

one_written : (unit : ℕ) (type : VType) (own locals : List VType) → unit + 1 ≤ length locals
    → with_units unit (type ∷ []) (overlaid (unit + 1) own locals) ≡ overlaid unit (type ∷ own) locals
one_written unit type own locals fits =
    let next : unit + 1 ≡ suc unit = omega arith in
    ap (λ (l : List VType). slice_set l unit type) (ap (λ (n : ℕ). overlaid n own locals) next ∙ laid_is (suc unit) own locals)
    ∙ one_laid unit type own locals fits
    ∙ sym (laid_is unit (type ∷ own) locals)

two_written : (unit : ℕ) (type other : VType) (own locals : List VType) → unit + 2 ≤ length locals
    → with_units unit (type ∷ other ∷ []) (overlaid (unit + 2) own locals) ≡ overlaid unit (type ∷ other ∷ own) locals
two_written unit type other own locals fits =
    let next : unit + 2 ≡ suc (suc unit) = omega arith in
    let one : unit + 1 ≡ suc unit = omega arith in
    ap (λ (l : List VType). slice_set (slice_set l unit type) (unit + 1) other)
    (ap (λ (n : ℕ). overlaid n own locals) next ∙ laid_is (suc (suc unit)) own locals)
    ∙ ap (λ (n : ℕ). slice_set (slice_set (laid (suc (suc unit)) own locals) unit type) n other) one
    ∙ two_laid unit type other own locals fits
    ∙ sym (laid_is unit (type ∷ other ∷ own) locals)

all_written : (unit : ℕ) (type : VType) (own locals : List VType) → unit + length (units type) + length own ≤ length locals
    → with_units unit (units type) (overlaid (unit + length (units type)) own locals) ≡ overlaid unit (units type ++ own) locals
all_written unit types.Long own locals fits = two_written unit types.Long types.Top own locals (omega (arith, fits))
all_written unit types.Double own locals fits = two_written unit types.Double types.Top own locals (omega (arith, fits))
all_written unit type own locals fits = one_written unit type own locals (omega (arith, fits))

pub stored_over : (unit : ℕ) (type : VType) (own locals : List VType) → unit + length (units type) + length own ≤ length locals
    → IsClear unit locals
    → stored unit type (overlaid (unit + length (units type)) own locals) ≡ overlaid unit (units type ++ own) locals
stored_over unit type own locals fits clear =
    let all = overlaid (unit + length (units type)) own locals in
    ap (with_units unit (units type)) (cut_none unit all (clear_over unit (unit + length (units type)) own locals fits (omega arith) clear))
    ∙ all_written unit type own locals fits

-- nothing laid over
none_over : (unit : ℕ) (locals : List VType) → overlaid unit [] locals ≡ locals
none_over unit locals =
    let same : unit + 0 ≡ unit = omega arith in
    ap (λ (n : ℕ). take unit locals ++ [] ++ drop n locals) same
    ∙ ap (λ (all : List VType). all ++ drop unit locals) (append-nil (take unit locals))
    ∙ take-append-drop unit locals

-- ---- units that are read

module _ (flat : FlatCode) where
  read_by : (Holds : VType → Type 0) (at : ℕ) → Holds (types.Uninit at) → ((name : Name) → Holds (types.Object name))
      → Holds (read_type flat (types.Uninit at))
  read_by Holds at itself object = by (class_of_site flat.sites at) refl where
    by : (class : Option Name) → class_of_site flat.sites at ≡ class → Holds (read_type flat (types.Uninit at))
    by None is = rw (is) itself
    by (Some name) is = rw (is) (object name)

  pub read_wide : (type : VType) → is_wide (read_type flat type) ≡ is_wide type
  read_wide (types.Uninit at) = read_by (λ type. is_wide type ≡ false) at refl (λ name. refl)
  read_wide other = refl

  pub read_units : (type : VType) → units (read_type flat type) ≡ map (read_type flat) (units type)
  read_units (types.Uninit at) = read_by (λ type. units type ≡ type ∷ []) at refl (λ name. refl)
  read_units other = refl

  pub read_kind : (kind : Kind) (type : VType) → IsOfKind kind type → IsOfKind kind (read_type flat type)
  read_kind kinds.Int type is = ap (read_type flat) is
  read_kind kinds.Long type is = ap (read_type flat) is
  read_kind kinds.Float type is = ap (read_type flat) is
  read_kind kinds.Double type is = ap (read_type flat) is
  read_kind kinds.Ref (types.Uninit at) is = read_by (IsOfKind kinds.Ref) at tt (λ name. tt)
  read_kind kinds.Ref other is = is

  written_read : (unit : ℕ) (written locals : List VType)
      → with_units unit (map (read_type flat) written) (map (read_type flat) locals) ≡ map (read_type flat) (with_units unit written locals)
  written_read unit [] locals = refl
  written_read unit (type ∷ written) locals =
      ap (with_units (unit + 1) (map (read_type flat) written)) (sym (map-set (read_type flat) locals unit type))
      ∙ written_read (unit + 1) written (slice_set locals unit type)

  cut_read : (unit : ℕ) (locals : List VType) → cut_before unit (map (read_type flat) locals) ≡ map (read_type flat) (cut_before unit locals)
  cut_read zero locals = refl
  cut_read (suc unit) locals = by (slice_get locals unit) refl where
    by : (found : Option VType) → slice_get locals unit ≡ found
        → cut_before (suc unit) (map (read_type flat) locals) ≡ map (read_type flat) (cut_before (suc unit) locals)
    by None is =
        let read : slice_get (map (read_type flat) locals) unit ≡ None = slice_get-map (read_type flat) locals unit ∙ ap (option_map (read_type flat)) is in
        rw (is, read) refl
    by (Some type) is =
        let read : slice_get (map (read_type flat) locals) unit ≡ Some (read_type flat type) =
        slice_get-map (read_type flat) locals unit ∙ ap (option_map (read_type flat)) is in
        rw (is, read, read_wide type) (wide (is_wide type))
      where
        wide : (w : Bool)
            → (if w then slice_set (map (read_type flat) locals) unit types.Top else map (read_type flat) locals) ≡ map (read_type flat)
            (if w then slice_set locals unit types.Top else locals)
        wide true = sym (map-set (read_type flat) locals unit types.Top)
        wide false = refl

  pub stored_read : (unit : ℕ) (type : VType) (locals : List VType)
      → stored unit (read_type flat type) (map (read_type flat) locals) ≡ map (read_type flat) (stored unit type locals)
  stored_read unit type locals =
      ap (λ (l : List VType). with_units unit l (cut_before unit (map (read_type flat) locals))) (read_units type)
      ∙ ap (with_units unit (map (read_type flat) (units type))) (cut_read unit locals)
      ∙ written_read unit (units type) (cut_before unit locals)

-- ---- arguments

-- arguments of these types lie in units one behind the other, from a unit on
pub data ArgumentsLaid : ℕ → List Argument → List VType → Type 0 where
  none_laid : {unit : ℕ} → ArgumentsLaid unit [] []
  one_more_laid : {unit : ℕ} {argument : Argument} {type : VType} {others : List Argument} {more : List VType}
      → argument.unit ≡ unit
      → IsOfKind argument.kind type
      → ArgumentsLaid (unit + length (units type)) others more
      → ArgumentsLaid unit (argument ∷ others) (type ∷ more)

pub behind_more : (frame : Frame) (ones : List Argument) (argument : Argument)
    → frame_behind_stores frame (ones ++ argument ∷ []) ≡ frame_stored (frame_behind_stores frame ones) argument
behind_more frame [] argument = refl
behind_more frame (one ∷ ones) argument = behind_more (frame_stored frame one) ones argument

pub last_reversed : (argument : Argument) (others : List Argument) → reverse (argument ∷ others) ≡ reverse others ++ argument ∷ []
last_reversed argument others = reverse-append (argument ∷ []) others

pub clear_tops : (unit at : ℕ) (locals : List VType) → unit + 1 ≤ at → at ≤ length locals → TopsFrom unit locals → IsClear at locals
clear_tops unit at locals behind within tops = record {
  narrow = λ before type same is.
      let top = tops.each before (omega (arith, behind, same)) (omega (arith, within, same)) in
      ap is_wide (same_Some type types.Top (sym is ∙ top));
}

pub some_units : (type : VType) → 1 ≤ length (units type)
some_units types.Long = omega arith
some_units types.Double = omega arith
some_units other = omega arith

pub later_tops : (unit at : ℕ) (locals : List VType) → unit ≤ at → TopsFrom unit locals → TopsFrom at locals
later_tops unit at locals behind tops = record { each = λ n least within. tops.each n (omega (arith, behind, least)) within }

pub units_cons : (type : VType) (more : List VType) → units_of_entries (type ∷ more) ≡ units type ++ units_of_entries more
units_cons type more = refl

-- The frame behind all stores.
pub stores_over : (unit : ℕ) (args : List Argument) (entries locals below : List VType) → ArgumentsLaid unit args entries
    → unit + length (units_of_entries entries) ≤ length locals
    → IsClear unit locals
    → TopsFrom unit locals
    → frame_behind_stores (record { locals = locals; stack = below ++ entries }) (reverse args)
    ≡ record { locals = overlaid unit (units_of_entries entries) locals; stack = below }
stores_over unit _ _ locals below none_laid fits clear tops =
    λ i. record { locals = sym (none_over unit locals) i; stack = append-nil below i }
stores_over unit _ _ locals below (one_more_laid {argument = argument} {type = type} {others = others} {more = more} at kind laid) fits clear tops =
    let next = unit + length (units type) in
    let some = some_units type in
    let both : length (units type ++ units_of_entries more) ≡ length (units type) + length (units_of_entries more) =
    length-append (units type) (units_of_entries more) in
    let stack : below ++ type ∷ more ≡ (below ++ type ∷ []) ++ more = sym (append_assoc below (type ∷ []) more) in
    let rest = stores_over next others more locals (below ++ type ∷ []) laid (omega (arith, fits, both))
    (clear_tops unit next locals (omega (arith, some)) (omega (arith, fits, both)) tops) (later_tops unit next locals (omega arith) tops) in
    let over = stored_over unit type (units_of_entries more) locals (omega (arith, fits, both)) clear in
    ap (frame_behind_stores (record { locals = locals; stack = below ++ type ∷ more })) (last_reversed argument others)
    ∙ behind_more (record { locals = locals; stack = below ++ type ∷ more }) (reverse others) argument
    ∙ ap (λ (l : List VType). frame_stored (frame_behind_stores (record { locals = locals; stack = l }) (reverse others)) argument) stack
    ∙ ap (λ (f : Frame). frame_stored f argument) rest
    ∙ (λ i. record {
      locals = stored (at i) (lowest_back below type i) (overlaid next (units_of_entries more) locals);
      stack = under_back below (type ∷ []) i;
    })
    ∙ ap (λ (l : List VType). record { locals = l; stack = below }) over
