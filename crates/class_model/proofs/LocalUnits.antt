-- Lists of units that a function gives.
use Rattle.std.proofs.Common.{◌≡◌, ◌≢◌, ◌≤◌, ◌<◌, ◌+◌, ◌-◌, ℕ, [], ◌∷◌, ◌++◌, length, get_or, max, drop, set, replicate, sym, ap, ◌∙◌, arith, inl, inr, Some, None}
use Rattle.std.proofs.lemmas.Bool.{cases_eq, cases_lt}
use Rattle.std.proofs.lemmas.List.{ext_get_or, get_or-append_right, get_or_append_left, get_or-replicate, get_or-drop, get_or-set_same, get_or-set_other, length-set, length-drop, length-append, length-replicate}
use Rattle.std.proofs.lemmas.List.FromFn.{length-map-range_with_len, get_or-map-range_with_len, map-range_with_len_more, fill_by_all}
use Rattle.std.proofs.lemmas.Option.{slice_get-get_or, slice_get_past}
use Rattle.std.specs.List.{slice_get}
use Rattle.class_model.specs.LocalTypes.{units_below}
use Rattle.class_model.specs.Inner.LocalTypes.{IsPut, IsTopFrom}
use Rattle.class_model.specs.declared.frame.VType.{VType}
use Rattle.class_model.specs.declared.frame.VType.TheVariants.{Top}

-- how many there are
pub length-units_below : (n : ℕ) (f : ℕ → VType) → length (units_below n f) ≡ n
length-units_below n f = length-map-range_with_len f 0 n

-- the one at an index
get_or-units_below : (n : ℕ) (f : ℕ → VType) (k : ℕ) → k < n → get_or (units_below n f) k Top ≡ f k
get_or-units_below n f k h = get_or-map-range_with_len f 0 n k k Top h (omega arith)

pub slice_get-units_below : (n : ℕ) (f : ℕ → VType) (k : ℕ) → k < n → slice_get (units_below n f) k ≡ Some (f k)
slice_get-units_below n f k h =
    slice_get-get_or (units_below n f) k Top (rw (length-units_below n f) h) ∙ ap (λ unit. Some unit) (get_or-units_below n f k h)

pub slice_get-units_below_past : (n : ℕ) (f : ℕ → VType) (k : ℕ) → n ≤ k → slice_get (units_below n f) k ≡ None
slice_get-units_below_past n f k h = slice_get_past (units_below n f) k (rw (length-units_below n f) h)

-- the list of the same units
units_below-same : (n : ℕ) (f g : ℕ → VType) → ((k : ℕ) → k < n → g k ≡ f k) → units_below n g ≡ units_below n f
units_below-same n f g same =
    fill_by_all f (units_below n g) n Top (length-units_below n g) (λ k h. get_or-units_below n g k h ∙ same k h)

-- one more unit
pub units_below-push : (n m : ℕ) {f g : ℕ → VType} {unit : VType} → IsPut f g n unit → m ≡ n + 1 → units_below m g ≡ units_below n f ++ unit ∷ []
units_below-push n m {f} {g} {unit} put more =
    ap (λ k. units_below k g) more
    ∙ (map-range_with_len_more g 0 n n (omega arith)
    ∙ (ap (λ front. front ++ g n ∷ []) (units_below-same n f g (λ k h. put.others k (omega arith)))
    ∙ ap (λ last. units_below n f ++ last ∷ []) put.here))

-- another unit at an index
pub units_below-set : (n : ℕ) {f g : ℕ → VType} {at : ℕ} {unit : VType} → IsPut f g at unit → at < n → units_below n g ≡ set (units_below n f) at unit
units_below-set n {f} {g} {at} {unit} put h =
    let all : length (units_below n f) ≡ n = length-units_below n f in
    let here : (k : ℕ) → k ≡ at → get_or (set (units_below n f) at unit) k Top ≡ g k = λ k e. rw e (get_or-set_same (units_below n f) at unit Top (omega arith) ∙ sym put.here) in
    let other : (k : ℕ) → k < n → k ≢ at → get_or (set (units_below n f) at unit) k Top ≡ g k = λ k below ne. get_or-set_other (units_below n f) at k unit Top ne ∙ (get_or-units_below n f k below ∙ sym (put.others k ne)) in
    sym (fill_by_all g (set (units_below n f) at unit) n Top (length-set (units_below n f) at unit ∙ all) (λ k below. elim (cases_eq k at) [ inl e ↦ here k e | inr ne ↦ other k below ne ]))

-- tops to the end
pub units_below-tops : (n from : ℕ) {f : ℕ → VType} → IsTopFrom from f → drop from (units_below n f) ≡ replicate (n - from) Top
units_below-tops n from {f} tops =
    let all : length (units_below n f) ≡ n = length-units_below n f in
    let many : length (drop from (units_below n f)) ≡ n - from = length-drop from (units_below n f) ∙ ap (λ l. l - from) all in
    ext_get_or Top (drop from (units_below n f)) (replicate (n - from) Top) (many ∙ sym (length-replicate (n - from) Top)) (λ i h.
    let below : i < n - from = rw many at h in
    get_or-drop from (units_below n f) i Top
    ∙ (get_or-units_below n f (from + i) (omega arith)
    ∙ (tops.each (from + i) (omega arith) ∙ sym (get_or-replicate (n - from) i Top Top below))))

-- more tops
pub units_below-fill : (n m : ℕ) {f : ℕ → VType} → IsTopFrom n f → units_below (max n m) f ≡ units_below n f ++ replicate (m - n) Top
units_below-fill n m {f} tops =
    let all : length (units_below n f) ≡ n = length-units_below n f in
    let more : length (replicate (m - n) Top) ≡ m - n = length-replicate (m - n) Top in
    let many : length (units_below n f ++ replicate (m - n) Top) ≡ max n m = length-append (units_below n f) (replicate (m - n) Top) ∙ omega arith in
    let left : (k : ℕ) → k < n → get_or (units_below n f ++ replicate (m - n) Top) k Top ≡ f k = λ k below. get_or_append_left (units_below n f) (replicate (m - n) Top) Top k (omega arith) ∙ get_or-units_below n f k below in
    let right : (k : ℕ) → k < max n m → n ≤ k → get_or (units_below n f ++ replicate (m - n) Top) k Top ≡ f k = λ k below from. get_or-append_right (units_below n f) (replicate (m - n) Top) n k Top all from ∙ (get_or-replicate (m - n) (k - n) Top Top (omega arith) ∙ sym (tops.each k from)) in
    sym (fill_by_all f (units_below n f ++ replicate (m - n) Top) (max n m) Top many (λ k below. elim (cases_lt k n) [ inl under ↦ left k under | inr from ↦ right k below from ]))

pub tops-put : (n : ℕ) {f g : ℕ → VType} {at : ℕ} {unit : VType} → IsTopFrom n f → IsPut f g at unit → at < n → IsTopFrom n g
tops-put n {f} {g} {at} {unit} tops put below = record { each = λ k from. let ne : k ≢ at = omega arith in put.others k ne ∙ tops.each k from }
