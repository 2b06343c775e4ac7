-- Instructions that take the topmost values do the same over a longer stack: what is below stays.
use Rattle.std.proofs.Common.{◌≡◌, ◌==◌, ◌+◌, ◌≤◌, ℕ, zero, suc, Bool, true, false, List, [], ◌∷◌, ◌++◌, length, not, take, drop, reverse, Option, Some, None, option_map, if◌then◌else◌, refl, sym, ap, subst, ◌∙◌, arith}
use Rattle.std.proofs.lemmas.Bool.{false≢true}
use Rattle.std.proofs.lemmas.List.{append_assoc, drop-append-le, length-append, length-reverse, reverse-append, take-append-drop, take-append-le}
use Rattle.class_model.specs.declared.opcodes.TheConstants.{POP, POP2, DUP, DUP_X1, DUP_X2, DUP2, DUP2_X1, DUP2_X2, SWAP}
use Rattle.machine_values.specs.declared.value.Value.{Value}
use Rattle.machine_values.specs.declared.value.Value.TheVariants.{Int, Long, Float, Double, Null, Ref}
use Rattle.member_link.specs.Machine.Locals.{chosen_values, fit_widths, fits_width, form_for, jump_of_int, jump_of_ints, jump_of_null, jump_of_references, shuffled, topmost, with_rest}
use Rattle.member_link.specs.Rows.ShuffleRows.{Form, Width, forms_of}
use Rattle.member_link.specs.Rows.ShuffleRows as widths
use Rattle.same_runs.specs.Laws.Moves.{shuffled_by}

-- the jump that is taken over a longer stack
abbrev pub jump_over : List Value → Bool × List Value → Bool × List Value
jump_over below jump = (jump.0, jump.1 ++ below)

rest_over : (taken : Option Bool) (rest below : List Value) (jump : Bool × List Value) → with_rest rest taken ≡ Some jump
    → with_rest (rest ++ below) taken ≡ Some (jump_over below jump)
rest_over None rest below jump is = cc is
rest_over (Some taken) rest below jump is =
    let same : (taken, rest) ≡ jump = cc is in
    ap (λ (p : Bool × List Value). Some (jump_over below p)) same

-- ifeq and the like
pub jump_of_int_over : (opcode : ℕ) (stack below : List Value) (jump : Bool × List Value) → jump_of_int opcode stack ≡ Some jump
    → jump_of_int opcode (stack ++ below) ≡ Some (jump_over below jump)
jump_of_int_over opcode [] below jump is = cc is
jump_of_int_over opcode (Int number ∷ rest) below jump is = rest_over _ rest below jump is
jump_of_int_over opcode (Long number ∷ rest) below jump is = cc is
jump_of_int_over opcode (Float bits ∷ rest) below jump is = cc is
jump_of_int_over opcode (Double bits ∷ rest) below jump is = cc is
jump_of_int_over opcode (Null ∷ rest) below jump is = cc is
jump_of_int_over opcode (Ref reference ∷ rest) below jump is = cc is

-- if_icmpeq and the like
pub jump_of_ints_over : (opcode : ℕ) (stack below : List Value) (jump : Bool × List Value) → jump_of_ints opcode stack ≡ Some jump
    → jump_of_ints opcode (stack ++ below) ≡ Some (jump_over below jump)
jump_of_ints_over opcode [] below jump is = cc is
jump_of_ints_over opcode (Long number ∷ rest) below jump is = cc is
jump_of_ints_over opcode (Float bits ∷ rest) below jump is = cc is
jump_of_ints_over opcode (Double bits ∷ rest) below jump is = cc is
jump_of_ints_over opcode (Null ∷ rest) below jump is = cc is
jump_of_ints_over opcode (Ref reference ∷ rest) below jump is = cc is
jump_of_ints_over opcode (Int other ∷ []) below jump is = cc is
jump_of_ints_over opcode (Int other ∷ Int one ∷ rest) below jump is = rest_over _ rest below jump is
jump_of_ints_over opcode (Int other ∷ Long number ∷ rest) below jump is = cc is
jump_of_ints_over opcode (Int other ∷ Float bits ∷ rest) below jump is = cc is
jump_of_ints_over opcode (Int other ∷ Double bits ∷ rest) below jump is = cc is
jump_of_ints_over opcode (Int other ∷ Null ∷ rest) below jump is = cc is
jump_of_ints_over opcode (Int other ∷ Ref reference ∷ rest) below jump is = cc is

-- if_acmpeq and if_acmpne
pub jump_of_references_over : (opcode : ℕ) (stack below : List Value) (jump : Bool × List Value)
    → jump_of_references opcode stack ≡ Some jump
    → jump_of_references opcode (stack ++ below) ≡ Some (jump_over below jump)
jump_of_references_over opcode [] below jump is = cc is
jump_of_references_over opcode (other ∷ []) below jump is = cc is
jump_of_references_over opcode (other ∷ one ∷ rest) below jump is = rest_over _ rest below jump is

-- ifnull and ifnonnull
pub jump_of_null_over : (opcode : ℕ) (stack below : List Value) (jump : Bool × List Value) → jump_of_null opcode stack ≡ Some jump
    → jump_of_null opcode (stack ++ below) ≡ Some (jump_over below jump)
jump_of_null_over opcode [] below jump is = cc is
jump_of_null_over opcode (Int number ∷ rest) below jump is = cc is
jump_of_null_over opcode (Long number ∷ rest) below jump is = cc is
jump_of_null_over opcode (Float bits ∷ rest) below jump is = cc is
jump_of_null_over opcode (Double bits ∷ rest) below jump is = cc is
jump_of_null_over opcode (Null ∷ rest) below jump is = rest_over (Some _) rest below jump is
jump_of_null_over opcode (Ref reference ∷ rest) below jump is = rest_over (Some _) rest below jump is

-- ---- shuffles

fits_length : (all : List Width) (values : List Value) → fit_widths all values ≡ true → length values ≡ length all
fits_length [] [] fits = refl
fits_length [] (value ∷ values) fits = cc fits
fits_length (width ∷ all) [] fits = cc fits
fits_length (width ∷ all) (value ∷ values) fits = ap suc (fits_length all values (grind (arith, fits)))

take_enough : (count : ℕ) (values : List Value) → length (take count values) ≡ count → count ≤ length values
take_enough zero values is = omega arith
take_enough (suc count) [] is = absurd (omega (arith, is))
take_enough (suc count) (value ∷ values) is =
    let low = take_enough count values (omega (arith, is)) in omega (arith, low)

take_less : (less count : ℕ) (values : List Value) → less ≤ count → take less (take count values) ≡ take less values
take_less zero count values low = refl
take_less (suc less) zero values low = absurd (omega (arith, low))
take_less (suc less) (suc count) [] low = refl
take_less (suc less) (suc count) (value ∷ values) low =
    ap (λ (xs : List Value). value ∷ xs) (take_less less count values (omega (arith, low)))

topmost_over : (count : ℕ) (stack below : List Value) → count ≤ length stack → topmost count (stack ++ below) ≡ topmost count stack
topmost_over count stack below low = ap reverse (take-append-le count stack below low)

fits_enough : (all : List Width) (stack : List Value) → fit_widths all (topmost (length all) stack) ≡ true → length all ≤ length stack
fits_enough all stack fits =
    take_enough (length all) stack (sym (length-reverse (take (length all) stack)) ∙ fits_length all (topmost (length all) stack) fits)

-- what is fit at the end of more
fits_end : (extra all : List Width) (more values : List Value) → length values ≡ length all
    → fit_widths (extra ++ all) (more ++ values) ≡ true
    → fit_widths all values ≡ true
fits_end [] all [] values count fits = fits
fits_end [] all (value ∷ more) values count fits =
    let long = fits_length all (value ∷ more ++ values) fits in
    let sum = length-append more values in
    absurd (omega (arith, long, sum, count))
fits_end (width ∷ extra) all [] values count fits =
    let long = fits_length (width ∷ extra ++ all) values fits in
    let sum = length-append extra all in
    absurd (omega (arith, long, sum, count))
fits_end (width ∷ extra) all (value ∷ more) values count fits = fits_end extra all more values count (grind (arith, fits))

one_width : (width other : Width) (value : Value) → fits_width width value ≡ true → fits_width other value ≡ true → width ≡ other
one_width widths.one widths.one value fits also = refl
one_width widths.one widths.two value fits also = absurd (false≢true (sym (ap not also) ∙ fits))
one_width widths.two widths.one value fits also = absurd (false≢true (sym (ap not fits) ∙ also))
one_width widths.two widths.two value fits also = refl

-- values fit one list of widths
fits_one : (all others : List Width) (values : List Value) → fit_widths all values ≡ true → fit_widths others values ≡ true → all ≡ others
fits_one [] [] [] fits also = refl
fits_one [] others (value ∷ values) fits also = cc fits
fits_one [] (width ∷ others) [] fits also = cc also
fits_one (width ∷ all) others [] fits also = cc fits
fits_one (width ∷ all) [] (value ∷ values) fits also = cc also
fits_one (width ∷ all) (other ∷ others) (value ∷ values) fits also =
    let first = one_width width other value (grind (arith, fits)) (grind (arith, also)) in
    let rest = fits_one all others values (grind (arith, fits)) (grind (arith, also)) in
    rw (first, rest) refl

-- an earlier form that is fit by no stack of which the topmost values fit a later one
record Apart (earlier later : List Width) : Type 0 where
  pub extra : List Width
  pub end : List Width
  pub is : earlier ≡ extra ++ end
  pub count : length end ≡ length later
  pub differ : end ≡ later → ⊥

clash : (earlier later : List Width) (stack below : List Value) → Apart earlier later
    → fit_widths later (topmost (length later) stack) ≡ true
    → fit_widths earlier (topmost (length earlier) (stack ++ below)) ≡ true
    → ⊥
clash earlier later stack below apart fits fits_earlier =
    apart.differ (fits_one apart.end later (topmost (length later) stack) ends fits) where
      all : List Value
      all = stack ++ below

      count : length earlier ≡ length apart.extra + length apart.end
      count = ap length apart.is ∙ length-append apart.extra apart.end

      low : length later ≤ length earlier
      low = let same = apart.count in let sum = count in omega (arith, same, sum)

      more : List Value
      more = drop (length later) (take (length earlier) all)

      parts : topmost (length earlier) all ≡ reverse more ++ topmost (length later) stack
      parts =
          ap reverse (sym (take-append-drop (length later) (take (length earlier) all)))
          ∙ reverse-append (take (length later) (take (length earlier) all)) more
          ∙ ap (λ (xs : List Value). reverse more ++ reverse xs)
          (take_less (length later) (length earlier) all low
          ∙ take-append-le (length later) stack below (fits_enough later stack fits))

      ends : fit_widths apart.end (topmost (length later) stack) ≡ true
      ends =
          fits_end apart.extra apart.end (reverse more) (topmost (length later) stack)
          (fits_length later (topmost (length later) stack) fits ∙ sym apart.count)
          (sym (ap (λ (ws : List Width). fit_widths ws (reverse more ++ topmost (length later) stack)) apart.is)
          ∙ ap (fit_widths earlier) (sym parts)
          ∙ fits_earlier)

-- each later form is apart from one
data AllBehind (earlier : List Width) : List Form → Type 0 where
  none_behind : AllBehind earlier []
  one_behind : {form : Form} {forms : List Form} → Apart earlier form.takes → AllBehind earlier forms → AllBehind earlier (form ∷ forms)

data AreApart : List Form → Type 0 where
  no_forms : AreApart []
  and_form : {form : Form} {forms : List Form} → AllBehind form.takes forms → AreApart forms → AreApart (form ∷ forms)

-- the first form that fits
form_fits : (forms : List Form) (stack : List Value) (form : Form) → form_for forms stack ≡ Some form
    → fit_widths form.takes (topmost (length form.takes) stack) ≡ true
form_fits [] stack form is = cc is
form_fits (first ∷ forms) stack form is =
    by (fit_widths first.takes (topmost (length first.takes) stack)) refl is (form_fits forms stack form) where
      by : (b : Bool) → fit_widths first.takes (topmost (length first.takes) stack) ≡ b
          → (if b then Some first else form_for forms stack) ≡ Some form
          → (form_for forms stack ≡ Some form → fit_widths form.takes (topmost (length form.takes) stack) ≡ true)
          → fit_widths form.takes (topmost (length form.takes) stack) ≡ true
      by true e same rest =
          subst (λ (f : Form). fit_widths f.takes (topmost (length f.takes) stack) ≡ true) (let found : first ≡ form = cc same in found) e
      by false e found rest = rest found

found_behind : (earlier : List Width) (forms : List Form) (stack : List Value) (form : Form) → AllBehind earlier forms
    → form_for forms stack ≡ Some form
    → Apart earlier form.takes
found_behind earlier [] stack form all is = cc is
found_behind earlier (first ∷ forms) stack form (one_behind one all) is =
    by (fit_widths first.takes (topmost (length first.takes) stack)) is (found_behind earlier forms stack form all) where
      by : (b : Bool) → (if b then Some first else form_for forms stack) ≡ Some form
          → (form_for forms stack ≡ Some form → Apart earlier form.takes)
          → Apart earlier form.takes
      by true same rest = subst (λ (f : Form). Apart earlier f.takes) (let found : first ≡ form = cc same in found) one
      by false found rest = rest found

fits_over : (all : List Width) (stack below : List Value) → fit_widths all (topmost (length all) stack) ≡ true
    → fit_widths all (topmost (length all) (stack ++ below)) ≡ true
fits_over all stack below fits = ap (fit_widths all) (topmost_over (length all) stack below (fits_enough all stack fits)) ∙ fits

form_over : (forms : List Form) (stack below : List Value) (form : Form) → AreApart forms → form_for forms stack ≡ Some form
    → form_for forms (stack ++ below) ≡ Some form
form_over [] stack below form apart is = cc is
form_over (first ∷ forms) stack below form (and_form behind apart) is =
    by (fit_widths first.takes (topmost (length first.takes) stack)) refl is (form_over forms stack below form apart) where
      later : (b : Bool) → fit_widths first.takes (topmost (length first.takes) (stack ++ below)) ≡ b → form_for forms stack ≡ Some form
          → form_for forms (stack ++ below) ≡ Some form
          → (if b then Some first else form_for forms (stack ++ below)) ≡ Some form
      later true e short long =
          absurd
          (clash first.takes form.takes stack below (found_behind first.takes forms stack form behind short)
          (form_fits forms stack form short) e)
      later false e short long = long

      by : (b : Bool) → fit_widths first.takes (topmost (length first.takes) stack) ≡ b
          → (if b then Some first else form_for forms stack) ≡ Some form
          → (form_for forms stack ≡ Some form → form_for forms (stack ++ below) ≡ Some form)
          → form_for (first ∷ forms) (stack ++ below) ≡ Some form
      by true e same rest = rw (fits_over first.takes stack below e) same
      by false e found rest = later (fit_widths first.takes (topmost (length first.takes) (stack ++ below))) refl found (rest found)

-- the forms of each opcode
one_form : {form : Form} → AreApart (form ∷ [])
one_form = and_form none_behind no_forms

apart : (extra end : List Width) {later : List Width} → length end ≡ length later → (end ≡ later → ⊥) → Apart (extra ++ end) later
apart extra end count differ = record { extra = extra; end = end; is = refl; count = count; differ = differ }

two_widths : Apart (widths.one ∷ widths.one ∷ []) (widths.two ∷ [])
two_widths = record { extra = widths.one ∷ []; end = widths.one ∷ []; is = refl; count = refl; differ = λ same. cc same }

forms_apart : (opcode : ℕ) → AreApart (forms_of opcode)
forms_apart opcode =
    by (opcode == POP) (opcode == POP2) (opcode == DUP) (opcode == DUP_X1) (opcode == DUP_X2) (opcode == DUP2) (opcode == DUP2_X1)
    (opcode == DUP2_X2) (opcode == SWAP) where
      form : List Width → List ℕ → Form
      form takes gives = record { takes = takes; gives = gives }

      four : List Form
      four =
          form (widths.one ∷ widths.one ∷ widths.one ∷ widths.one ∷ []) (2 ∷ 3 ∷ 0 ∷ 1 ∷ 2 ∷ 3 ∷ [])
          ∷ form (widths.one ∷ widths.one ∷ widths.two ∷ []) (2 ∷ 0 ∷ 1 ∷ 2 ∷ [])
          ∷ form (widths.two ∷ widths.one ∷ widths.one ∷ []) (1 ∷ 2 ∷ 0 ∷ 1 ∷ 2 ∷ [])
          ∷ form (widths.two ∷ widths.two ∷ []) (1 ∷ 0 ∷ 1 ∷ [])
          ∷ []

      by : (pop pop2 dup dup_x1 dup_x2 dup2 dup2_x1 dup2_x2 swap : Bool)
          → AreApart (if pop then form (widths.one ∷ []) [] ∷ []
          else (if pop2 then form (widths.one ∷ widths.one ∷ []) [] ∷ form (widths.two ∷ []) [] ∷ []
          else (if dup then form (widths.one ∷ []) (0 ∷ 0 ∷ []) ∷ []
          else (if dup_x1 then form (widths.one ∷ widths.one ∷ []) (1 ∷ 0 ∷ 1 ∷ []) ∷ []
          else (if dup_x2 then form (widths.one ∷ widths.one ∷ widths.one ∷ []) (2 ∷ 0 ∷ 1 ∷ 2 ∷ [])
          ∷ form (widths.two ∷ widths.one ∷ []) (1 ∷ 0 ∷ 1 ∷ [])
          ∷ []
          else (if dup2 then form (widths.one ∷ widths.one ∷ []) (0 ∷ 1 ∷ 0 ∷ 1 ∷ [])
          ∷ form (widths.two ∷ []) (0 ∷ 0 ∷ [])
          ∷ []
          else (if dup2_x1 then form (widths.one ∷ widths.one ∷ widths.one ∷ []) (1 ∷ 2 ∷ 0 ∷ 1 ∷ 2 ∷ [])
          ∷ form (widths.one ∷ widths.two ∷ []) (1 ∷ 0 ∷ 1 ∷ [])
          ∷ []
          else (if dup2_x2 then four
          else (if swap then form (widths.one ∷ widths.one ∷ []) (1 ∷ 0 ∷ []) ∷ []
          else [])))))))))
      by true pop2 dup dup_x1 dup_x2 dup2 dup2_x1 dup2_x2 swap =
          one_form
      by false true dup dup_x1 dup_x2 dup2 dup2_x1 dup2_x2 swap =
          and_form (one_behind two_widths none_behind) one_form
      by false false true dup_x1 dup_x2 dup2 dup2_x1 dup2_x2 swap =
          one_form
      by false false false true dup_x2 dup2 dup2_x1 dup2_x2 swap =
          one_form
      by false false false false true dup2 dup2_x1 dup2_x2 swap =
          and_form (one_behind (apart (widths.one ∷ []) (widths.one ∷ widths.one ∷ []) refl (λ same. cc same)) none_behind) one_form
      by false false false false false true dup2_x1 dup2_x2 swap =
          and_form (one_behind two_widths none_behind) one_form
      by false false false false false false true dup2_x2 swap =
          and_form (one_behind (apart (widths.one ∷ []) (widths.one ∷ widths.one ∷ []) refl (λ same. cc same)) none_behind) one_form
      by false false false false false false false true swap =
          and_form
          (one_behind (apart (widths.one ∷ []) (widths.one ∷ widths.one ∷ widths.one ∷ []) refl (λ same. cc same))
          (one_behind (apart (widths.one ∷ []) (widths.one ∷ widths.one ∷ widths.one ∷ []) refl (λ same. cc same))
          (one_behind (apart (widths.one ∷ widths.one ∷ []) (widths.one ∷ widths.one ∷ []) refl (λ same. cc same)) none_behind)))
          (and_form
          (one_behind (apart [] (widths.one ∷ widths.one ∷ widths.two ∷ []) refl (λ same. cc same))
          (one_behind (apart (widths.one ∷ []) (widths.one ∷ widths.two ∷ []) refl (λ same. cc same)) none_behind))
          (and_form (one_behind (apart (widths.two ∷ []) (widths.one ∷ widths.one ∷ []) refl (λ same. cc same)) none_behind) one_form))
      by false false false false false false false false true =
          one_form
      by false false false false false false false false false =
          no_forms

-- pop, dup, swap and the like
pub shuffled_over : (opcode : ℕ) (stack below result : List Value) → shuffled opcode stack ≡ Some result
    → shuffled opcode (stack ++ below) ≡ Some (result ++ below)
shuffled_over opcode stack below result is = by (form_for (forms_of opcode) stack) refl is where
  by : (found : Option Form) → form_for (forms_of opcode) stack ≡ found → option_map (shuffled_by stack) found ≡ Some result
      → shuffled opcode (stack ++ below) ≡ Some (result ++ below)
  by None e none = cc none
  by (Some form) e same =
      let low = fits_enough form.takes stack (form_fits (forms_of opcode) stack form e) in
      let made : shuffled_by stack form ≡ result = cc same in
      rw (form_over (forms_of opcode) stack below form (forms_apart opcode) e)
      (ap Some (rw (topmost_over (length form.takes) stack below low, drop-append-le (length form.takes) stack below low)
      (sym (append_assoc (reverse (chosen_values (topmost (length form.takes) stack) form.gives)) (drop (length form.takes) stack) below)
      ∙ ap (λ (xs : List Value). xs ++ below) made)))
