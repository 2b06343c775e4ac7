-- The table of a method's candidate sites.
use Rattle.std.proofs.Common.{◌≡◌, ◌≢◌, ◌⊎◌, ◌==◌, ◌+◌, ◌<◌, ℕ, zero, suc, Bool, true, false, List, [], ◌∷◌, ◌++◌, length, slice_get, slice_set, Option, Some, None, option_and_then, is_some, Bor, if◌then◌else◌, refl, sym, ap, subst, ◌∙◌, inl, inr, arith}
use Rattle.std.proofs.lemmas.Bool.{cases_eq, eqb-true}
use Rattle.std.proofs.lemmas.Option.{none-some, same_Some}
use Rattle.std.specs.Option.{option_copied}
use Rattle.class_model.specs.declared.class_file.MethodAt.{MethodAt}
use Rattle.class_model.specs.declared.frame.Frame.{Frame}
use Rattle.class_model.specs.declared.frame.VType.TheVariants.{Uninit, UninitThis}
use Rattle.class_model.specs.declared.instr.Placed.{Placed}
use Rattle.class_tree.specs.Headers.{Name, Classes}
use Rattle.expanded_code.specs.Alone.{number_at}
use Rattle.expanded_code.specs.Callees.{InitialisesAt}
use Rattle.expanded_code.specs.Sites.{Constructs, HasFrames, IsSite}
use Rattle.flow_code.specs.TypedFrames.{FolderFrames}
use Rattle.inline_expand.proofs.CalledMethods.{placed_by_number}
use Rattle.inline_expand.proofs.Initialisations.{new_is_not_this, one_object}
use Rattle.inline_expand.proofs.OwnCallees.{PlacedThere, instr_there}
use Rattle.inline_expand.proofs.ReadyCalls.{one_list, one_scope}
use Rattle.inline_expand.specs.Inner.Coded.{Stands}
use Rattle.inline_expand.specs.Inner.Initialised.{IsInitialisation, type_of_object}
use Rattle.inline_expand.specs.Inner.SiteTables.{AreCandidates, AreSites, IsCandidateOf, IsKeptSoFar, IsNewInitialised, IsSiteFound, IsSoFar, SpoilsAt, StaysOrFalls, class_made, joined, new_of}
use Rattle.inline_expand.specs.declared.coded.CodedMethod.{CodedMethod}
use Rattle.inline_expand.specs.declared.initialised.Object.{Object}
use Rattle.inline_expand.specs.declared.initialised.Object.TheVariants as made
use Rattle.member_link.specs.CodedMethods.{placed_at}
use Rattle.member_link.specs.References.{Reference}
use Rattle.member_link.specs.Scope.{Scope, class_of_new, instructions}

-- ---- the class of a new is that of the first instruction at its offset

module _ (s : Scope) (at : ℕ) where
  abbrev new_among : List Placed → Option Name
  new_among [] = None
  new_among (placed ∷ others) = if placed.at == at then class_made s placed.instr else new_among others

  abbrev made_by : Option Placed → Option Name
  made_by found = option_and_then (λ placed. class_made s placed.instr) found

  one_more : (here : Bool) (placed : Placed) (found : Option Placed) (name : Option Name) → made_by found ≡ name
      → made_by (if here then Some placed else found) ≡ (if here then class_made s placed.instr else name)
  one_more true placed found name is = refl
  one_more false placed found name is = is

  first_made : (instrs : List Placed) → made_by (placed_at instrs at) ≡ new_among instrs
  first_made [] = refl
  first_made (placed ∷ others) = one_more (placed.at == at) placed (placed_at others at) (new_among others) (first_made others)

  pub new_of_placed : (found : Option Placed) → placed_at (instructions s) at ≡ found → class_of_new s at ≡ made_by found
  new_of_placed found is = sym (first_made (instructions s)) ∙ ap made_by is

-- ---- offsets and numbers

pub placed_has_offset : (instrs : List Placed) (at : ℕ) (placed : Placed) → placed_at instrs at ≡ Some placed → placed.at ≡ at
placed_has_offset [] at placed is = absurd (none-some placed is)
placed_has_offset (first ∷ instrs) at placed is = by (first.at == at) refl is (placed_has_offset instrs at placed) where
  by : (b : Bool) → first.at == at ≡ b → (if b then Some first else placed_at instrs at) ≡ Some placed → (placed_at instrs at ≡ Some placed → placed.at ≡ at) → placed.at ≡ at
  by true same is later = ap (λ (p : Placed). p.at) (sym (same_Some first placed is)) ∙ eqb-true first.at at same
  by false same is later = later is

pub number_within : (s : Scope) (at : ℕ) (placed : Placed) → placed_at (instructions s) at ≡ Some placed → slice_get (instructions s) (number_at s at) ≡ Some placed
number_within s at placed is = sym (placed_by_number s at) ∙ is

-- offsets of one number are one
pub one_offset : (s : Scope) (one other : ℕ) (placed : Placed) → placed_at (instructions s) one ≡ Some placed → number_at s one ≡ number_at s other → one ≡ other
one_offset s one other placed is same =
    let there : placed_at (instructions s) other ≡ Some placed = placed_by_number s other ∙ ap (slice_get (instructions s)) (sym same) ∙ number_within s one placed is in
    sym (placed_has_offset (instructions s) one placed is) ∙ placed_has_offset (instructions s) other placed there

-- ---- lists

module _ {X : Type 0} where
  pub get_within : (xs : List X) (number : ℕ) (x : X) → slice_get xs number ≡ Some x → number < length xs
  get_within [] number x is = absurd (none-some x is)
  get_within (first ∷ xs) zero x is = omega arith
  get_within (first ∷ xs) (suc number) x is = omega (arith, get_within xs number x is)

  pub get_there : (xs : List X) (number : ℕ) → number < length xs → (x : X) × (slice_get xs number ≡ Some x)
  get_there [] number within = absurd (omega arith)
  get_there (first ∷ xs) zero within = (first, refl)
  get_there (first ∷ xs) (suc number) within = get_there xs number (omega (arith, within))

  pub set_here : (xs : List X) (number : ℕ) (x : X) → number < length xs → slice_get (slice_set xs number x) number ≡ Some x
  set_here [] number x within = absurd (omega arith)
  set_here (first ∷ xs) zero x within = refl
  set_here (first ∷ xs) (suc number) x within = set_here xs number x (omega (arith, within))

  pub set_apart : (xs : List X) (number other : ℕ) (x : X) → other ≢ number → slice_get (slice_set xs number x) other ≡ slice_get xs other
  set_apart [] number other x apart = refl
  set_apart (first ∷ xs) zero zero x apart = absurd (apart refl)
  set_apart (first ∷ xs) zero (suc other) x apart = refl
  set_apart (first ∷ xs) (suc number) zero x apart = refl
  set_apart (first ∷ xs) (suc number) (suc other) x apart = set_apart xs number other x (λ e. apart (ap suc e))

pub uninit_same : (one other : ℕ) → Uninit one ≡ Uninit other → one ≡ other
uninit_same one other e = cc

-- ---- candidates

module _ (classes : Classes) (s : Scope) where
  pub no_candidates : (table : List (Option Name)) → table ≡ [] → AreCandidates classes s 0 table
  no_candidates table none = record { long = ap length none; each = λ number placed class below. absurd (omega (arith, below)) }

  pub one_more_candidate : (count : ℕ) (before after : List (Option Name)) (placed : Placed) (class : Option Name)
      → slice_get (instructions s) count ≡ Some placed
      → AreCandidates classes s count before
      → IsCandidateOf classes (class_made s placed.instr) class
      → after ≡ before ++ class ∷ []
      → AreCandidates classes s (count + 1) after
  one_more_candidate count before after placed class there are is grown =
      subst (AreCandidates classes s (count + 1)) (sym grown) (record {
        long = omega (arith, are.long, length_grown before);
        each = λ number other found below is_other is_found. by number other found below is_other is_found (cases_eq number count);
      }) where
        length_grown : (list : List (Option Name)) → length (list ++ class ∷ []) ≡ length list + 1
        length_grown [] = refl
        length_grown (first ∷ list) = omega (arith, length_grown list)

        last : (list : List (Option Name)) → slice_get (list ++ class ∷ []) (length list) ≡ Some class
        last [] = refl
        last (first ∷ list) = last list

        front : (list : List (Option Name)) (number : ℕ) → number < length list → slice_get (list ++ class ∷ []) number ≡ slice_get list number
        front [] number within = absurd (omega arith)
        front (first ∷ list) zero within = refl
        front (first ∷ list) (suc number) within = front list number (omega (arith, within))

        by : (number : ℕ) (other : Placed) (found : Option Name) → number < count + 1 → slice_get (instructions s) number ≡ Some other → slice_get (before ++ class ∷ []) number ≡ Some found → (number ≡ count) ⊎ (number ≢ count) → IsCandidateOf classes (class_made s other.instr) found
        by number other found below is_other is_found (inl same) =
            let here : placed ≡ other = same_Some placed other (sym there ∙ ap (slice_get (instructions s)) (sym same) ∙ is_other) in
            let at_end : number ≡ length before = omega (arith, same, are.long) in
            let found_is : class ≡ found = same_Some class found (sym (last before) ∙ ap (slice_get (before ++ class ∷ [])) (sym at_end) ∙ is_found) in
            subst (IsCandidateOf classes (class_made s other.instr)) found_is (subst (λ (p : Placed). IsCandidateOf classes (class_made s p.instr) class) here is)
        by number other found below is_other is_found (inr apart) =
            let within : number < length before = omega (arith, below, apart, are.long) in
            are.each number other found (omega (arith, below, apart)) is_other (sym (front before number within) ∙ is_found)

-- ---- sites

module _ (classes : Classes) (typed : FolderFrames) (host : MethodAt) (chain : List MethodAt) (method : CodedMethod) (stands : Stands classes typed method) where
  scope_here : (scope : Scope) (frames : List Frame) → HasFrames classes typed method.at scope frames → scope ≡ method.host
  scope_here scope frames is = one_scope classes typed method.at scope method.host frames method.frames.now is stands

  frames_here : (scope : Scope) (frames : List Frame) → HasFrames classes typed method.at scope frames → frames ≡ method.frames.now
  frames_here scope frames is = one_list classes typed method.at scope method.host frames method.frames.now is stands

  makes_here : (at : ℕ) (class : Name) → (site : IsSite classes typed host chain method.at at class) → class_of_new method.host at ≡ Some class
  makes_here at class site = subst (λ (s : Scope). class_of_new s at ≡ Some class) (scope_here site.scope site.frames site.is) site.makes

  constructs_here : (at : ℕ) (class : Name) → (site : IsSite classes typed host chain method.at at class) → (call : ℕ) (reference : Reference) → InitialisesAt method.host method.frames.now call (Uninit at) reference → Constructs classes typed host chain method.at call
  constructs_here at class site call reference init =
      site.constructed call reference
      (subst (λ (f : List Frame). InitialisesAt site.scope f call (Uninit at) reference) (sym (frames_here site.scope site.frames site.is))
      (subst (λ (s : Scope). InitialisesAt s method.frames.now call (Uninit at) reference) (sym (scope_here site.scope site.frames site.is)) init))

  -- before any call
  pub sites_begin : (count : ℕ) (table : List (Option Name)) → count ≡ length (instructions method.host) → AreCandidates classes method.host count table → AreSites classes typed host chain method 0 table
  sites_begin count table all are = record {
    long = are.long ∙ all;
    each = λ at placed is. of_entry at placed is (get_there table (number_at method.host at) (omega (arith, get_within (instructions method.host) (number_at method.host at) placed (number_within method.host at placed is), are.long, all)));
  } where
    of_class : (at : ℕ) (placed : Placed) (class : Option Name) → class_of_new method.host at ≡ class_made method.host placed.instr → IsCandidateOf classes (class_made method.host placed.instr) class → IsSoFar classes typed host chain method 0 at (Some class)
    of_class at placed (Some class) made is = record { makes = made ∙ is.0; candidate = is.1; constructed = λ number call reference below. absurd (omega (arith, below)) }
    of_class at placed None made none = λ class site. none class (sym made ∙ makes_here at class site) site.candidate

    of_entry : (at : ℕ) (placed : Placed) → placed_at (instructions method.host) at ≡ Some placed → (class : Option Name) × (slice_get table (number_at method.host at) ≡ Some class) → IsSoFar classes typed host chain method 0 at (slice_get table (number_at method.host at))
    of_entry at placed is (class, entry) =
        let there = number_within method.host at placed is in
        let within = get_within (instructions method.host) (number_at method.host at) placed there in
        subst (IsSoFar classes typed host chain method 0 at) (sym entry)
        (of_class at placed class (new_of_placed method.host at (Some placed) is)
        (are.each (number_at method.host at) placed class (omega (arith, within, all)) there entry))

  -- a call more
  pub sites_more : (count : ℕ) (before after : List (Option Name)) (call : Placed)
      → slice_get (instructions method.host) count ≡ Some call
      → AreSites classes typed host chain method count before
      → SpoilsAt classes typed host chain method call.at before after
      → AreSites classes typed host chain method (count + 1) after
  sites_more count before after call there sites spoils = record {
    long = spoils.long ∙ sites.long;
    each = λ at placed is. by at (slice_get before (number_at method.host at)) (slice_get after (number_at method.host at)) (sites.each at placed is) (spoils.each at placed is);
  } where
    kept : (at : ℕ) (class : Name) → IsKeptSoFar classes typed host chain method count at class → ((reference : Reference) → InitialisesAt method.host method.frames.now call.at (Uninit at) reference → Constructs classes typed host chain method.at call.at) → IsKeptSoFar classes typed host chain method (count + 1) at class
    kept at class is last = record {
      makes = is.makes;
      candidate = is.candidate;
      constructed = λ number other reference below is_other init. one number other reference below is_other init (cases_eq number count);
    } where
      one : (number : ℕ) (other : Placed) (reference : Reference) → number < count + 1 → slice_get (instructions method.host) number ≡ Some other → InitialisesAt method.host method.frames.now other.at (Uninit at) reference → (number ≡ count) ⊎ (number ≢ count) → Constructs classes typed host chain method.at other.at
      one number other reference below is_other init (inl same) =
          let here : call ≡ other = same_Some call other (sym there ∙ ap (slice_get (instructions method.host)) (sym same) ∙ is_other) in
          subst (λ (p : Placed). Constructs classes typed host chain method.at p.at) here
          (last reference (subst (λ (p : Placed). InitialisesAt method.host method.frames.now p.at (Uninit at) reference) (sym here) init))
      one number other reference below is_other init (inr apart) = is.constructed number other reference (omega (arith, below, apart)) is_other init

    stays : (at : ℕ) (entry : Option (Option Name)) → IsSoFar classes typed host chain method count at entry → ((class : Name) (reference : Reference) → entry ≡ Some (Some class) → InitialisesAt method.host method.frames.now call.at (Uninit at) reference → Constructs classes typed host chain method.at call.at) → IsSoFar classes typed host chain method (count + 1) at entry
    stays at None is last = is
    stays at (Some None) is last = is
    stays at (Some (Some class)) is last = kept at class is (λ reference init. last class reference refl init)

    by : (at : ℕ) (old new : Option (Option Name)) → IsSoFar classes typed host chain method count at old → StaysOrFalls classes typed host chain method call.at at old new → IsSoFar classes typed host chain method (count + 1) at new
    by at old new is (inl (same, last)) = subst (IsSoFar classes typed host chain method (count + 1) at) (sym same) (stays at old is last)
    by at old new is (inr (fell, init, not)) =
        subst (IsSoFar classes typed host chain method (count + 1) at) (sym fell)
        (λ class site. not (constructs_here at class site call.at init.0 init.1))

  -- all calls
  module _ (count : ℕ) (sites : List (Option Name)) (all : count ≡ length (instructions method.host)) (are : AreSites classes typed host chain method count sites) (at : ℕ) where
    is_site : (class : Name) → IsKeptSoFar classes typed host chain method count at class → IsSite classes typed host chain method.at at class
    is_site class is = record {
      scope = method.host;
      frames = method.frames.now;
      is = stands;
      makes = is.makes;
      candidate = is.candidate;
      constructed = λ call reference init. of_call call reference init (instr_there method.host call _ init.is_call.is);
    } where
      of_call : (call : ℕ) (reference : Reference) → InitialisesAt method.host method.frames.now call (Uninit at) reference → PlacedThere (instructions method.host) call → Constructs classes typed host chain method.at call
      of_call call reference init there =
          subst (Constructs classes typed host chain method.at) there.here
          (is.constructed there.number there.placed reference (omega (arith, there.within, all)) there.is
          (subst (λ (n : ℕ). InitialisesAt method.host method.frames.now n (Uninit at) reference) (sym there.here) init))

    so_far : (entry : Option (Option Name)) (class : Option Name) → joined entry ≡ class → IsSoFar classes typed host chain method count at entry → IsSiteFound classes typed host chain method.at at class
    so_far None class is none = elim none [ ]
    so_far (Some None) class is none = subst (IsSiteFound classes typed host chain method.at at) is none
    so_far (Some (Some name)) class is kept = subst (IsSiteFound classes typed host chain method.at at) is (is_site name kept)

    -- where no instruction stands
    nothing_there : placed_at (instructions method.host) at ≡ None → IsSiteFound classes typed host chain method.at at None
    nothing_there none class site = none-some class (sym (new_of_placed method.host at None none) ∙ makes_here at class site)

    no_entry : placed_at (instructions method.host) at ≡ None → (entry : Option (Option Name)) → slice_get sites (number_at method.host at) ≡ entry → joined entry ≡ None
    no_entry none None is = refl
    no_entry none (Some class) is =
        let within : number_at method.host at < length (instructions method.host) = omega (arith, get_within sites (number_at method.host at) class is, are.long) in
        let there = get_there (instructions method.host) (number_at method.host at) within in
        absurd (none-some there.0 (sym none ∙ placed_by_number method.host at ∙ there.1))

    by_placed : (placed : Option Placed) → placed_at (instructions method.host) at ≡ placed → IsSiteFound classes typed host chain method.at at (joined (slice_get sites (number_at method.host at)))
    by_placed None none = subst (IsSiteFound classes typed host chain method.at at) (sym (no_entry none (slice_get sites (number_at method.host at)) refl)) (nothing_there none)
    by_placed (Some placed) is = so_far (slice_get sites (number_at method.host at)) (joined (slice_get sites (number_at method.host at))) refl (are.each at placed is)

    pub site_found : IsSiteFound classes typed host chain method.at at (joined (slice_get sites (number_at method.host at)))
    site_found = by_placed (placed_at (instructions method.host) at) refl

-- ---- one call

module _ (classes : Classes) (typed : FolderFrames) (host : MethodAt) (chain : List MethodAt) (method : CodedMethod) (at : ℕ) (sites : List (Option Name)) where
  -- the table stays where no initialiser is called on a site's object, or the call is replaced
  pub all_stay : ((new : ℕ) (class : Name) (reference : Reference) → slice_get sites (number_at method.host new) ≡ Some (Some class) → InitialisesAt method.host method.frames.now at (Uninit new) reference → Constructs classes typed host chain method.at at)
      → SpoilsAt classes typed host chain method at sites sites
  all_stay constructed = record {
    long = refl;
    each = λ new placed is. inl (refl, λ class reference entry init. constructed new class reference entry init);
  }

  module _ (new : ℕ) (reference : Reference) (init : InitialisesAt method.host method.frames.now at (Uninit new) reference) where
    one_new : (other : ℕ) (also : Reference) → InitialisesAt method.host method.frames.now at (Uninit other) also → new ≡ other
    one_new other also init_also = uninit_same new other (one_object method.host method.frames.now at (Uninit new) (Uninit other) reference also init init_also)

    pub no_site_stays : joined (slice_get sites (number_at method.host new)) ≡ None → SpoilsAt classes typed host chain method at sites sites
    no_site_stays none = all_stay (λ other class also entry init_also.
        let same = one_new other also init_also in
        absurd (none-some class (sym none ∙ ap (λ (n : ℕ). joined (slice_get sites (number_at method.host n))) same ∙ ap joined entry)))

    pub replaced_stays : Constructs classes typed host chain method.at at → SpoilsAt classes typed host chain method at sites sites
    replaced_stays constructed = all_stay (λ other class also entry init_also. constructed)

    pub one_falls : length sites ≡ length (instructions method.host) → number_at method.host new < length sites → ¬ Constructs classes typed host chain method.at at
        → SpoilsAt classes typed host chain method at sites (slice_set sites (number_at method.host new) None)
    one_falls long within not = record {
      long = set_long sites (number_at method.host new);
      each = λ other placed is. by other placed is (cases_eq other new);
    } where
      set_long : (list : List (Option Name)) (number : ℕ) → length (slice_set list number None) ≡ length list
      set_long [] number = refl
      set_long (first ∷ list) zero = refl
      set_long (first ∷ list) (suc number) = ap suc (set_long list number)

      by : (other : ℕ) (placed : Placed) → placed_at (instructions method.host) other ≡ Some placed → (other ≡ new) ⊎ (other ≢ new)
          → StaysOrFalls classes typed host chain method at other (slice_get sites (number_at method.host other)) (slice_get (slice_set sites (number_at method.host new) None) (number_at method.host other))
      by other placed is (inl same) =
          inr (
            ap (λ (n : ℕ). slice_get (slice_set sites (number_at method.host new) None) (number_at method.host n)) same ∙ set_here sites (number_at method.host new) None within,
            (reference, subst (λ (n : ℕ). InitialisesAt method.host method.frames.now at (Uninit n) reference) (sym same) init),
            not,
          )
      by other placed is (inr apart) =
          inl (
            set_apart sites (number_at method.host new) (number_at method.host other) None (λ e. apart (one_offset method.host other new placed is e)),
            λ class also entry init_also. absurd (apart (sym (one_new other also init_also))),
          )

  pub none_new_stays : ((new : ℕ) (reference : Reference) → ¬ InitialisesAt method.host method.frames.now at (Uninit new) reference) → SpoilsAt classes typed host chain method at sites sites
  none_new_stays none = all_stay (λ new class reference entry init. absurd (none new reference init))

pub joined_within : (sites : List (Option Name)) (number : ℕ) → ¬ (joined (slice_get sites number) ≡ None) → number < length sites
joined_within sites number some = by (slice_get sites number) refl where
  by : (entry : Option (Option Name)) → slice_get sites number ≡ entry → number < length sites
  by None is = absurd (some (ap joined is))
  by (Some class) is = get_within sites number class is

-- ---- the new of an initialiser's object

pub new_of_call : (method : CodedMethod) (at : ℕ) (object : Object) (reference : Reference) → InitialisesAt method.host method.frames.now at (type_of_object object) reference → IsNewInitialised method at (new_of object)
new_of_call method at (made.New new) reference init = (reference, init)
new_of_call method at made.This reference init = λ new also init_also. new_is_not_this new (sym (one_object method.host method.frames.now at UninitThis (Uninit new) reference also init init_also))

pub no_new_call : (method : CodedMethod) (at : ℕ) → IsInitialisation method.host method.frames.now at None → IsNewInitialised method at None
no_new_call method at none new reference init = none (made.New new) reference init

-- ---- options

module _ {X : Type 0} where
  pub is_none_there : (found : Option X) → is_some found ≡ false → found ≡ None
  is_none_there None is = refl
  is_none_there (Some x) is = absurd cc

  pub is_some_there : (found : Option X) → is_some found ≡ true → ¬ (found ≡ None)
  is_some_there None is none = absurd cc
  is_some_there (Some x) is none = absurd cc

pub copied_some : {X : Type 0} (found : Option (Bor X)) → is_some found ≡ true → ¬ (option_copied found ≡ None)
copied_some None is none = absurd cc
copied_some (Some x) is none = absurd cc
