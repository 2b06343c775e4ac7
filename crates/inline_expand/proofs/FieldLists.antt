-- Lists of fields: their descriptors and their local units.
use Rattle.std.proofs.Common.{◌≡◌, ◌+◌, ◌<◌, ◌≤◌, ◌++◌, not, cond, ℕ, Bool, true, false, List, [], ◌∷◌, drop, filter, get_or, length, map, take, sym, ap, ◌∙◌, arith}
use Rattle.std.proofs.lemmas.List.{map-append, take_all, take_more, take-append-drop}
use Rattle.std.proofs.lemmas.List.Elements.{filter-append}
use Rattle.std.proofs.lemmas.List.Sums.{sum_by-append}
use Rattle.class_model.specs.Descriptors.{kind_of, parameter_units, type_of, units_of}
use Rattle.class_model.specs.Members.{STATIC, has}
use Rattle.class_model.specs.declared.descriptor.FieldType.{FieldType}
use Rattle.class_model.specs.declared.header.Member.{Member}
use Rattle.inline_expand.specs.Inner.CandidateWords.{units_of_all}

-- ---- local units

abbrev unit : FieldType → ℕ
unit type = units_of (kind_of type)

both_units : (ones others : List (List ℕ)) → units_of_all (ones ++ others) ≡ units_of_all ones + units_of_all others
both_units ones others = ap parameter_units (map-append type_of ones others) ∙ sum_by-append unit (map type_of ones) (map type_of others)

pub units_more : (fields : List (List ℕ)) (i : ℕ) (x : List ℕ) → i < length fields → x ≡ get_or fields i x
    → units_of_all (take (i + 1) fields) ≡ units_of_all (take i fields) + unit (type_of x)
units_more fields i x within is =
    let last = both_units (take i fields) (x ∷ []) in
    let whole : take (i + 1) fields ≡ take i fields ++ x ∷ [] = take_more fields i x within ∙ ap (λ (y : List ℕ). take i fields ++ y ∷ []) (sym is) in
    ap units_of_all whole ∙ omega (arith, last)

pub units_part : (fields : List (List ℕ)) (i : ℕ) → units_of_all (take i fields) ≤ units_of_all fields
units_part fields i =
    let both = both_units (take i fields) (drop i fields) in
    let whole = ap units_of_all (take-append-drop i fields) in
    omega (arith, both, whole)

pub units_whole : (fields : List (List ℕ)) (i : ℕ) → length fields ≤ i → units_of_all (take i fields) ≡ units_of_all fields
units_whole fields i end = ap units_of_all (take_all i fields end)

-- ---- descriptors

abbrev pub descs_of : List Member → List (List ℕ)
descs_of members = map (λ (field : Member). field.desc) (filter (λ (field : Member). not (has field.flags STATIC)) members)

descs_append : (ones others : List Member) → descs_of (ones ++ others) ≡ descs_of ones ++ descs_of others
descs_append ones others =
    ap (map (λ (field : Member). field.desc)) (filter-append (λ (field : Member). not (has field.flags STATIC)) ones others)
    ∙ map-append (λ (field : Member). field.desc) (filter (λ (field : Member). not (has field.flags STATIC)) ones) (filter (λ (field : Member). not (has field.flags STATIC)) others)

one_desc : (field : Member) (static : Bool) → has field.flags STATIC ≡ static → descs_of (field ∷ []) ≡ cond static [] (field.desc ∷ [])
one_desc field true is = ap (λ (b : Bool). map (λ (field : Member). field.desc) (cond (not b) (field ∷ []) [])) is
one_desc field false is = ap (λ (b : Bool). map (λ (field : Member). field.desc) (cond (not b) (field ∷ []) [])) is

pub descs_more : (members : List Member) (i : ℕ) (x : Member) (static : Bool) → i < length members → x ≡ get_or members i x → has x.flags STATIC ≡ static
    → descs_of (take (i + 1) members) ≡ descs_of (take i members) ++ cond static [] (x.desc ∷ [])
descs_more members i x static within is flag =
    ap descs_of (take_more members i x within ∙ ap (λ (y : Member). take i members ++ y ∷ []) (sym is))
    ∙ descs_append (take i members) (x ∷ [])
    ∙ ap (λ (l : List (List ℕ)). descs_of (take i members) ++ l) (one_desc x static flag)

pub descs_whole : (members : List Member) (i : ℕ) → length members ≤ i → descs_of (take i members) ≡ descs_of members
descs_whole members i end = ap descs_of (take_all i members end)
