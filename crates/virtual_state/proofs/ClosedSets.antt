-- The least closed set that has some sites.
use Rattle.std.proofs.Common.{◌≡◌, ◌==◌, ◌||◌, ◌+◌, ◌<◌, ℕ, List, [], length, take, get_or, refl, sym, ap, ◌∙◌}
use Rattle.std.proofs.lemmas.List.{take_more}
use Rattle.virtual_state.proofs.Marking.{has_push}
use Rattle.virtual_state.proofs.Spreading.{spread_in_closed}
use Rattle.virtual_state.specs.Inner.Marks.{HasMarked, HasSpread}
use Rattle.virtual_state.specs.Sites.{has, IsClosure}
use Rattle.virtual_state.specs.declared.slot.VObject.{VObject}

-- The first sites of a list, so many, are in a set, and no others.
pub record HasFirst (set sites : List ℕ) (count : ℕ) : Type 0 where
  pub each : (site : ℕ) → has set site ≡ has (take count sites) site

pub none_first : (sites : List ℕ) → HasFirst [] sites 0
none_first sites = record { each = λ site. refl }

pub one_more :
    (before after sites : List ℕ) (at site : ℕ)
    → HasFirst before sites at
    → at < length sites
    → site ≡ get_or sites at 0
    → ((one : ℕ) → has after one ≡ (has before one || site == one))
    → HasFirst after sites (at + 1)
one_more before after sites at site first low is added = record {
  each = λ one.
      added one
      ∙ (λ i. first.each one i || is i == one)
      ∙ sym (ap (λ (list : List ℕ). has list one) (take_more sites at 0 low) ∙ has_push (take at sites) (get_or sites at 0) one);
}

pub spread_is_closure :
    (none start reached sites closed_set : List ℕ) (objects : List VObject)
    → none ≡ []
    → HasMarked none start (has sites)
    → HasSpread start reached objects objects
    → ((site : ℕ) → has closed_set site ≡ has reached site)
    → IsClosure sites objects closed_set
spread_is_closure none start reached sites closed_set objects empty marked spread same =
    let begins : (site : ℕ) → has start site ≡ has sites site = λ site. marked.marked site ∙ ap (λ (list : List ℕ). has list site || has sites site) empty in
    record {
      starts = λ site among. same site ∙ spread.kept site (begins site ∙ among);
      closed = λ from to edge among. same to ∙ spread.in_one from to edge (sym (same from) ∙ among);
      least = λ other all closed site among. spread_in_closed start objects objects other closed closed (λ one there. all one (sym (begins one) ∙ there)) (spread.reached site (sym (same site) ∙ among));
    }
