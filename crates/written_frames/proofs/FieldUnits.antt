-- The units of the fields of sites, one after the other.
use Rattle.std.proofs.Common.{◌≡◌, ◌+◌, ◌-◌, ◌≤◌, ℕ, zero, suc, Bool, true, false, List, [], ◌∷◌, ◌++◌, length, drop, replicate, slice_get, Some, refl, sym, ap, ◌∙◌, append_assoc, arith}
use Rattle.std.proofs.lemmas.List.{length-append, length-replicate}
use Rattle.std.proofs.lemmas.List.Sums.{sum_by-cons}
use Rattle.class_model.specs.Code.{verification_type}
use Rattle.class_model.specs.Descriptors.{kind_of, parameter_units, units_of}
use Rattle.class_model.specs.Frames.{units}
use Rattle.class_model.specs.Laws.Lists.{drop_item}
use Rattle.class_model.specs.declared.descriptor.FieldType.{FieldType}
use Rattle.class_model.specs.declared.descriptor.FieldType.TheVariants.{Byte, Char, Short, Bool as Boolean, Int, Long, Float, Double, Named}
use Rattle.class_model.specs.declared.frame.VType.{VType}
use Rattle.class_model.specs.declared.frame.VType.TheVariants.{Top}
use Rattle.flow_code.specs.FlatCode.{FlatCode}
use Rattle.flow_code.specs.WrittenUnits.{field_units, greatest_depth}
use Rattle.flow_code.specs.declared.point.Site.{Site}
use Rattle.making_code.specs.StateFrames.{field_types, site_types_from}
use Rattle.virtual_state.specs.States.{State, is_present}
use Rattle.written_frames.specs.Inner.FieldUnits.{HasSites, units_of_fields}
use Rattle.written_frames.specs.Inner.Rooms.{IsRoom}

-- ---- fields

units_first_field : (type : FieldType) (fields : List FieldType) → parameter_units (type ∷ fields) ≡ units_of (kind_of type) + parameter_units fields
units_first_field type fields = sum_by-cons (λ (one : FieldType). units_of (kind_of one)) type fields

units_many : (type : FieldType) → length (units (verification_type type)) ≡ units_of (kind_of type)
units_many Byte = refl
units_many Char = refl
units_many Short = refl
units_many Boolean = refl
units_many Int = refl
units_many Long = refl
units_many Float = refl
units_many Double = refl
units_many (Named name) = refl

fields_many : (fields : List FieldType) → length (units_of_fields fields) ≡ parameter_units fields
fields_many [] = refl
fields_many (type ∷ fields) =
    let first = units_first_field type fields in
    let own = units_many type in
    let rest = fields_many fields in
    let both = length-append (units (verification_type type)) (units_of_fields fields) in
    omega (arith, first, own, rest, both)

-- ---- a site

site_many : (present : Bool) (fields : List FieldType) → length (field_types present fields) ≡ parameter_units fields
site_many true fields = fields_many fields
site_many false fields = length-replicate (parameter_units fields) Top

-- ---- sites

next_site : (state : State) (sites : List Site) (number : ℕ) (site : Site) → slice_get sites number ≡ Some site
    → site_types_from state number (drop number sites) ≡ field_types (is_present state.objects number) site.fields ++ site_types_from state (number + 1) (drop (number + 1) sites)
next_site state sites number site is =
    let next : suc number ≡ number + 1 = omega arith in
    ap (site_types_from state number) (drop_item sites number site is)
    ∙ ap (λ (n : ℕ). field_types (is_present state.objects number) site.fields ++ site_types_from state n (drop (number + 1) sites)) next

site_units : (sites : List Site) (number : ℕ) (site : Site) → slice_get sites number ≡ Some site
    → field_units (drop number sites) ≡ parameter_units site.fields + field_units (drop (number + 1) sites)
site_units sites number site is = ap field_units (drop_item sites number site is)

pub site_next : (state : State) (start : List VType) (sites : List Site) (locals new : List VType) (number : ℕ) (site : Site) → slice_get sites number ≡ Some site
    → new ≡ locals ++ field_types (is_present state.objects number) site.fields
    → HasSites state start sites locals number → HasSites state start sites new (number + 1)
site_next state start sites locals new number site is new_is before =
    let own = field_types (is_present state.objects number) site.fields in
    let rest = site_types_from state (number + 1) (drop (number + 1) sites) in
    let next = site_units sites number site is in
    let many = site_many (is_present state.objects number) site.fields in
    let long : length new ≡ length locals + length own = ap length new_is ∙ length-append locals own in
    record {
      few = before.few;
      room = omega (arith, next, many, long, before.room);
      all = ap (λ (list : List VType). list ++ rest) new_is
          ∙ append_assoc locals own rest
          ∙ ap (λ (list : List VType). locals ++ list) (sym (next_site state sites number site is))
          ∙ before.all;
    }

sites_many : (state : State) (number : ℕ) (sites : List Site) → length (site_types_from state number sites) ≡ field_units sites
sites_many state number [] = refl
sites_many state number (site ∷ sites) =
    let own = site_many (is_present state.objects number) site.fields in
    let rest = sites_many state (suc number) sites in
    let both = length-append (field_types (is_present state.objects number) site.fields) (site_types_from state (suc number) sites) in
    omega (arith, own, rest, both)

-- ---- all units

pub behind_fits : (flat : FlatCode) (state : State) (behind : ℕ) (own locals : List VType) → IsRoom flat behind → length own ≤ 18446744073709486080
    → locals ≡ own ++ site_types_from state 0 flat.sites → length locals + behind ≤ 18446744073709551615
behind_fits flat state behind own locals room few is =
    let long : length locals ≡ length own + length (site_types_from state 0 flat.sites) = ap length is ∙ length-append own (site_types_from state 0 flat.sites) in
    let many = sites_many state 0 flat.sites in
    omega (arith, long, many, few, room.few, room.is)

replicate_more : (a b : ℕ) → replicate (a + b) Top ≡ replicate a Top ++ replicate b Top
replicate_more zero b = let same : 0 + b ≡ b = omega arith in ap (λ (n : ℕ). replicate n Top) same
replicate_more (suc a) b =
    let same : suc a + b ≡ suc (a + b) = omega arith in
    ap (λ (n : ℕ). replicate n Top) same ∙ ap (λ (list : List VType). Top ∷ list) (replicate_more a b)

pub whole_locals : (flat : FlatCode) (state : State) (behind len : ℕ) (own sites locals new : List VType) → IsRoom flat behind
    → own ≡ sites
    → locals ≡ own ++ site_types_from state 0 flat.sites
    → len ≡ length locals + behind
    → new ≡ locals ++ replicate (len - length locals) Top
    → new ≡ sites ++ site_types_from state 0 flat.sites ++ replicate (length flat.sites) Top ++ replicate (greatest_depth flat.points) Top
whole_locals flat state behind len own sites locals new room own_is is len_is new_is =
    let count : len - length locals ≡ length flat.sites + greatest_depth flat.points = omega (arith, len_is, room.is) in
    new_is
    ∙ ap (λ (n : ℕ). locals ++ replicate n Top) count
    ∙ ap (λ (list : List VType). locals ++ list) (replicate_more (length flat.sites) (greatest_depth flat.points))
    ∙ sym (append_assoc locals (replicate (length flat.sites) Top) (replicate (greatest_depth flat.points) Top))
    ∙ ap (λ (list : List VType). list ++ replicate (length flat.sites) Top ++ replicate (greatest_depth flat.points) Top) (is ∙ ap (λ (list : List VType). list ++ site_types_from state 0 flat.sites) own_is)
