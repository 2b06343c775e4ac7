-- Objects that do not reach themselves can be made in some order.
use Rattle.std.proofs.Common.{◌≡◌, ◌==◌, ◌&&◌, ◌||◌, ◌<◌, ◌≤◌, ◌⊎◌, ℕ, zero, suc, leb, Bool, true, false, cond, not, List, [], ◌∷◌, length, Option, Some, None, IsTrue, refl, sym, ap, subst, ◌∙◌, inl, inr, arith}
use Rattle.std.specs.List.{filter, list_any}
use Rattle.std.proofs.lemmas.Bool.{cases_Bool, or_cases, or_left, or_right, and_from, eq-eqb, eqb-true, not_from_false, false≢true, leb-false, leb-true}
use Rattle.std.proofs.lemmas.List.Elements.{filter_agree}
use Rattle.std.proofs.lemmas.Map.Views.{any-filter_same}
use Rattle.making_code.specs.MakeOrder.{IsMakeOrder, all_made, left_of, names_one, one_next}
use Rattle.virtual_state.specs.Sites.{has}
use Rattle.virtual_state.specs.States.{IsEdge, IsPath, edge_and_path, names, object_of, one_edge}
use Rattle.virtual_state.specs.declared.slot.Slot.{Slot}
use Rattle.virtual_state.specs.declared.slot.VObject.{VObject}

-- ---- sites that are left

pub has_left : (sites made : List ℕ) (site : ℕ)
    → has (left_of sites made) site ≡ (not (has made site) && has sites site)
has_left sites made site =
    any-filter_same (λ (one : ℕ). one == site) (λ (one : ℕ). not (has made one)) (not (has made site))
    (λ one same. ap (λ (n : ℕ). not (has made n)) (eqb-true one site same)) sites

pub left_is : (sites made : List ℕ) (site : ℕ) → IsTrue (has sites site) → has made site ≡ false → IsTrue (has (left_of sites made) site)
left_is sites made site there unmade = has_left sites made site
    ∙ and_from (not (has made site)) (has sites site) (not_from_false (has made site) unmade) there

abbrev pub other_than : ℕ → ℕ → Bool
other_than site other = not (other == site)

filtered_twice : (p q : ℕ → Bool) (sites : List ℕ) → filter p (filter q sites) ≡ filter (λ site. q site && p site) sites
filtered_twice p q [] = refl
filtered_twice p q (site ∷ sites) = by (q site) (filtered_twice p q sites) where
  by : (test : Bool) → filter p (filter q sites) ≡ filter (λ one. q one && p one) sites
      → filter p (cond test (site ∷ filter q sites) (filter q sites))
      ≡ cond (test && p site) (site ∷ filter (λ one. q one && p one) sites) (filter (λ one. q one && p one) sites)
  by true rest = ap (λ (others : List ℕ). cond (p site) (site ∷ others) others) rest
  by false rest = rest

negated : (a b : Bool) → not (a || b) ≡ (not a && not b)
negated true b = refl
negated false b = refl

pub same_back : (one other : ℕ) → (one == other) ≡ (other == one)
same_back one other = by (one == other) refl (other == one) refl where
  by : (a : Bool) → (one == other) ≡ a → (b : Bool) → (other == one) ≡ b → a ≡ b
  by true is true also = refl
  by false is false also = refl
  by true is false also = sym (eq-eqb other one (sym (eqb-true one other is))) ∙ also
  by false is true also = sym is ∙ eq-eqb one other (sym (eqb-true other one also))

pub left_without : (sites made more : List ℕ) (site : ℕ)
    → ((one : ℕ) → has more one ≡ (has made one || site == one))
    → left_of sites more ≡ filter (other_than site) (left_of sites made)
left_without sites made more site adds =
    filter_agree (λ (one : ℕ). not (has more one)) (λ (one : ℕ). not (has made one) && other_than site one)
    (λ one. ap not (adds one) ∙ negated (has made one) (site == one) ∙ ap (λ (b : Bool). not (has made one) && not b) (same_back site one)) sites
    ∙ sym (filtered_twice (other_than site) (λ (one : ℕ). not (has made one)) sites)

no_longer : (p : ℕ → Bool) (sites : List ℕ) → length (filter p sites) ≤ length sites
no_longer p [] = omega arith
no_longer p (site ∷ sites) = by (p site) (no_longer p sites) where
  by : (test : Bool) → length (filter p sites) ≤ length sites → length (cond test (site ∷ filter p sites) (filter p sites)) ≤ length (site ∷ sites)
  by true rest = omega arith
  by false rest = omega arith

shorter : (sites : List ℕ) (site : ℕ) → IsTrue (has sites site) → length (filter (other_than site) sites) < length sites
shorter [] site there = absurd (false≢true there)
shorter (first ∷ sites) site there = by (first == site) there (λ behind. shorter sites site behind) where
  by : (test : Bool) → (test || has sites site) ≡ true
      → (IsTrue (has sites site) → length (filter (other_than site) sites) < length sites)
      → length (cond (not test) (first ∷ filter (other_than site) sites) (filter (other_than site) sites)) < length (first ∷ sites)
  by true either rest = let few = no_longer (other_than site) sites in omega arith
  by false either rest = let few = rest either in omega arith

pub fewer_left : (sites made more : List ℕ) (site : ℕ)
    → ((one : ℕ) → has more one ≡ (has made one || site == one))
    → IsTrue (has (left_of sites made) site)
    → length (left_of sites more) < length (left_of sites made)
fewer_left sites made more site adds left =
    subst (λ (others : List ℕ). length others < length (left_of sites made)) (sym (left_without sites made more site adds))
    (shorter (left_of sites made) site left)

-- a field that names one of these sites
pub record NamesOne (objects : List VObject) (left : List ℕ) (site : ℕ) : Type 0 where
  pub to : ℕ
  pub edge : IsEdge objects site to
  pub left_over : IsTrue (has left to)

some_named : (fields : List Slot) (left : List ℕ) → IsTrue (list_any (names fields) left) → (to : ℕ) × IsTrue (names fields to) × IsTrue (has left to)
some_named fields [] any = absurd (false≢true any)
some_named fields (first ∷ left) any =
    elim (or_cases (names fields first) (list_any (names fields) left) any) [
      | inl here ↦ (first, here, or_left (first == first) (has left first) (eq-eqb first first refl))
      | inr behind ↦ let rest = some_named fields left behind in (rest.0, rest.1, or_right (first == rest.0) (has left rest.0) rest.2)
    ]

pub names_of_none : (objects : List VObject) (left : List ℕ) (site : ℕ) → object_of objects site ≡ None → names_one objects left site ≡ false
names_of_none objects left site is = rw is refl

pub names_of_some : (objects : List VObject) (left : List ℕ) (site : ℕ) (object : VObject)
    → object_of objects site ≡ Some object
    → names_one objects left site ≡ list_any (names object.fields) left
names_of_some objects left site object is = rw is refl

names_some : (objects : List VObject) (left : List ℕ) (site : ℕ) → IsTrue (names_one objects left site) → NamesOne objects left site
names_some objects left site named = by (object_of objects site) refl where
  by : (found : Option VObject) → object_of objects site ≡ found → NamesOne objects left site
  by None is = absurd (false≢true (sym (names_of_none objects left site is) ∙ named))
  by (Some object) is =
      let some = some_named object.fields left (sym (names_of_some objects left site object is) ∙ named) in
      record { to = some.0; edge = record { object = object; there = is; named = some.1 }; left_over = some.2 }

path_and_edge : (objects : List VObject) {from middle : ℕ} (to : ℕ) → IsPath objects from middle → IsEdge objects middle to → IsPath objects from to
path_and_edge objects to (one_edge from middle edge) last = edge_and_path from middle to edge (one_edge middle to last)
path_and_edge objects to (edge_and_path from first middle edge path) last = edge_and_path from first to edge (path_and_edge objects to path last)

-- where each one that is left names one that is left, a walk over them comes back to where it was
module _ (objects : List VObject) (left : List ℕ)
    (acyclic : (site : ℕ) → ¬ IsPath objects site site)
    (each : (site : ℕ) → IsTrue (has left site) → IsTrue (names_one objects left site)) where
  comes_back : (room : ℕ) (seen : List ℕ) (site : ℕ)
      → IsTrue (has left site)
      → ((one : ℕ) → IsTrue (has seen one) → IsPath objects one site)
      → length (left_of left seen) < room
      → ⊥
  comes_back zero seen site there paths few = absurd (omega (arith, few))
  comes_back (suc room) seen site there paths few = elim (cases_Bool (has seen site)) [
    | inl is_seen ↦ acyclic site (paths site is_seen)
    | inr unseen ↦
        let next = names_some objects left site (each site there) in
        let more : (one : ℕ) → has (site ∷ seen) one ≡ (has seen one || site == one) = λ one. turned (site == one) (has seen one) in
        let less = fewer_left left seen (site ∷ seen) site more (left_is left seen site there unseen) in
        comes_back room (site ∷ seen) next.to next.left_over
        (λ one is. elim (or_cases (site == one) (has seen one) is) [
          | inl same ↦ subst (λ (n : ℕ). IsPath objects n next.to) (eqb-true site one same) (one_edge site next.to next.edge)
          | inr before ↦ path_and_edge objects next.to (paths one before) next.edge
        ])
        (omega (arith, few, less))
  ] where
    turned : (a b : Bool) → (a || b) ≡ (b || a)
    turned true true = refl
    turned true false = refl
    turned false true = refl
    turned false false = refl

  pub none_left : left ≡ []
  none_left = by left refl where
    by : (sites : List ℕ) → left ≡ sites → left ≡ []
    by [] is = is
    by (site ∷ sites) is =
        absurd (comes_back (suc (length (left_of left []))) [] site
        (subst (λ (all : List ℕ). IsTrue (has all site)) (sym is) (or_left (site == site) (has sites site) (eq-eqb site site refl)))
        (λ one seen. absurd (false≢true seen)) (omega arith))

-- ---- the least that can be made

-- Of some sites one is the least that names none of those left, or each names one.
pub record LeastReady (objects : List VObject) (left sites : List ℕ) : Type 0 where
  pub site : ℕ
  pub among : IsTrue (has sites site)
  pub ready : names_one objects left site ≡ false
  pub least : (other : ℕ) → IsTrue (has sites other) → names_one objects left other ≡ false → site ≤ other

abbrev EachNames : List VObject → List ℕ → List ℕ → Type 0
EachNames objects left sites = (other : ℕ) → IsTrue (has sites other) → IsTrue (names_one objects left other)

least_ready : (objects : List VObject) (left sites : List ℕ) → LeastReady objects left sites ⊎ EachNames objects left sites
least_ready objects left [] = inr (λ other there. absurd (false≢true there))
least_ready objects left (first ∷ sites) = by (names_one objects left first) refl (least_ready objects left sites) where
  by : (b : Bool) → names_one objects left first ≡ b → LeastReady objects left sites ⊎ EachNames objects left sites
      → LeastReady objects left (first ∷ sites) ⊎ EachNames objects left (first ∷ sites)
  by true names_it (inr each) =
      inr (λ other there. elim (or_cases (first == other) (has sites other) there) [
        | inl same ↦ subst (λ (n : ℕ). IsTrue (names_one objects left n)) (eqb-true first other same) names_it
        | inr behind ↦ each other behind
      ])
  by true names_it (inl found) =
      inl (record {
        site = found.site;
        among = or_right (first == found.site) (has sites found.site) found.among;
        ready = found.ready;
        least = λ other there is. elim (or_cases (first == other) (has sites other) there) [
          | inl same ↦ absurd (false≢true (sym is ∙ ap (names_one objects left) (sym (eqb-true first other same)) ∙ names_it))
          | inr behind ↦ found.least other behind is
        ];
      })
  by false ready (inr each) =
      inl (record {
        site = first;
        among = or_left (first == first) (has sites first) (eq-eqb first first refl);
        ready = ready;
        least = λ other there is. elim (or_cases (first == other) (has sites other) there) [
          | inl same ↦ let equal = eqb-true first other same in omega (arith, equal)
          | inr behind ↦ absurd (false≢true (sym is ∙ each other behind))
        ];
      })
  by false ready (inl found) = by_low (cases_Bool (leb first found.site)) where
    by_low : (leb first found.site ≡ true) ⊎ (leb first found.site ≡ false)
        → LeastReady objects left (first ∷ sites) ⊎ EachNames objects left (first ∷ sites)
    by_low (inl low) =
        inl (record {
          site = first;
          among = or_left (first == first) (has sites first) (eq-eqb first first refl);
          ready = ready;
          least = λ other there is. elim (or_cases (first == other) (has sites other) there) [
            | inl same ↦ let equal = eqb-true first other same in omega (arith, equal)
            | inr behind ↦ let least = found.least other behind is in let less = leb-true first found.site low in omega (arith, least, less)
          ];
        })
    by_low (inr high) =
        inl (record {
          site = found.site;
          among = or_right (first == found.site) (has sites found.site) found.among;
          ready = found.ready;
          least = λ other there is. elim (or_cases (first == other) (has sites other) there) [
            | inl same ↦ let equal = eqb-true first other same in let more = leb-false first found.site high in omega (arith, equal, more)
            | inr behind ↦ found.least other behind is
          ];
        })

-- ---- an order

order_from : (objects : List VObject) → ((site : ℕ) → ¬ IsPath objects site site) → (room : ℕ) (left : List ℕ) → length left < room
    → (order : List ℕ) × IsMakeOrder objects left order
order_from objects acyclic zero left few = absurd (omega (arith, few))
order_from objects acyclic (suc room) [] few = ([], all_made)
order_from objects acyclic (suc room) (first ∷ left) few =
    by (least_ready objects (first ∷ left) (first ∷ left)) (λ site among. order_from objects acyclic room (filter (other_than site) (first ∷ left))
    (let less = shorter (first ∷ left) site among in omega (arith, less, few))) where
      by : LeastReady objects (first ∷ left) (first ∷ left) ⊎ EachNames objects (first ∷ left) (first ∷ left)
          → ((site : ℕ) → IsTrue (has (first ∷ left) site)
          → (order : List ℕ) × IsMakeOrder objects (filter (other_than site) (first ∷ left)) order)
          → (order : List ℕ) × IsMakeOrder objects (first ∷ left) order
      by (inl found) rest =
          let more = rest found.site found.among in (
            found.site ∷ more.0,
            one_next (first ∷ left) more.0 found.site (record { left_over = found.among; ready = found.ready; least = found.least }) more.1,
          )
      by (inr each) rest = absurd (cc (none_left objects (first ∷ left) acyclic each))

-- Objects of which none reaches itself can be made in an order.
pub some_order : (objects : List VObject) (left : List ℕ) → ((site : ℕ) → ¬ IsPath objects site site) → (order : List ℕ)
    × IsMakeOrder objects left order
some_order objects left acyclic = order_from objects acyclic (suc (length left)) left (omega arith)
