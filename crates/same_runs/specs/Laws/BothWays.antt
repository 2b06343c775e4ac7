-- Runs that a simulation relates show the same in both directions.
use Rattle.std.proofs.Common.{◌≡◌, ◌+◌, ◌<◌, ◌≤◌, ℕ, zero, suc, refl, sym, ap, subst, ◌∙◌, inl, inr, ◌⊎◌, arith}
use Rattle.machine_values.specs.declared.event.Shown.{Shown}
use Rattle.member_link.specs.Machine.Programs.{Program}
use Rattle.member_link.specs.Machine.Runs.{Run, shown, turn, turns}
use Rattle.same_runs.specs.Simulations.{IsSimulation, Keeps, Quietly, at_once, turn_first, ShowBothWays}

-- n + m turns are n turns and then m
turns_add : (P : Program) (n m : ℕ) (r : Run) → turns P (n + m) r ≡ turns P m (turns P n r)
turns_add P zero m r = let e : zero + m ≡ m = omega arith in rw e refl
turns_add P (suc n) m r = let e : suc n + m ≡ suc (n + m) = omega arith in rw e (turns_add P n m (turn P r))

-- ---- quiet turns

quiet_count : (Q : Program) {r later : Run} → Quietly Q r later → (count : ℕ) × (turns Q count r ≡ later)
quiet_count Q at_once = (0, refl)
quiet_count Q (turn_first same rest) = let more = quiet_count Q rest in (suc more.0, more.1)

quiet_shown : (Q : Program) {r later : Run} → Quietly Q r later → shown later ≡ shown r
quiet_shown Q at_once = refl
quiet_shown Q (turn_first same rest) = quiet_shown Q rest ∙ same

-- so many turns end among the quiet ones, or go on behind them
within_or_past :
    (Q : Program) {r later : Run}
    → Quietly Q r later
    → (count : ℕ)
    → (shown (turns Q count r) ≡ shown r) ⊎ ((left : ℕ) × (left ≤ count) × (turns Q count r ≡ turns Q left later))
within_or_past Q at_once count = inr (count, omega arith, refl)
within_or_past Q (turn_first same rest) zero = inl refl
within_or_past Q (turn_first same rest) (suc count) =
    elim (within_or_past Q rest count) [
      | inl quiet ↦ inl (quiet ∙ same)
      | inr past ↦ inr (past.0, (let few = past.1 in omega (arith, few)), past.2)
    ]

-- ---- both directions

module _ (P Q : Program) (Same : Shown → Shown → Type 0) (Relates : ℕ → Run → Run → Type 0) (sim : IsSimulation P Q Same Relates) where
  abbrev Forth : ℕ → Run → Run → Type 0
  Forth count one other = (also : ℕ) × Same (shown (turns P count one)) (shown (turns Q also other))

  abbrev Back : ℕ → Run → Run → Type 0
  Back also one other = (count : ℕ) × Same (shown (turns P count one)) (shown (turns Q also other))

  -- one turn of the first, and what follows behind it
  forth_by :
      (count measure : ℕ) (one other : Run)
      → Keeps P Q Relates measure one other
      → ((then : ℕ) (also : Run) → Relates then (turn P one) also → Forth count (turn P one) also)
      → Forth (suc count) one other
  forth_by count measure one other kept rest =
      let quiet = quiet_count Q kept.quietly in
      elim kept.goes_on [
        | inl stays ↦
            let more = rest kept.measure_then kept.waits stays.1 in
            let same : turns Q (quiet.0 + more.0) other ≡ turns Q more.0 kept.waits = turns_add Q quiet.0 more.0 other
            ∙ ap (turns Q more.0) quiet.1 in
            (quiet.0 + more.0, subst (λ (r : Run). Same (shown (turns P count (turn P one))) (shown r)) (sym same) more.1)
        | inr moves ↦
            let more = rest kept.measure_then (turn Q kept.waits) moves in
            let same : turns Q (quiet.0 + suc more.0) other ≡ turns Q more.0 (turn Q kept.waits) =
            turns_add Q quiet.0 (suc more.0) other ∙ ap (turns Q (suc more.0)) quiet.1 in
            (quiet.0 + suc more.0, subst (λ (r : Run). Same (shown (turns P count (turn P one))) (shown r)) (sym same) more.1)
      ]

  forth : (count measure : ℕ) (one other : Run) → Relates measure one other → Forth count one other
  forth zero measure one other related = (0, sim.shows measure one other related)
  forth (suc count) measure one other related =
      forth_by count measure one other (sim.keeps measure one other related) (λ then also. forth count then (turn P one) also)

  -- behind the first's turn: so many turns of the second are left
  moved :
      (also measure : ℕ) (one other waits : Run) (then left : ℕ)
      → Relates measure one other
      → shown waits ≡ shown other
      → Relates then (turn P one) (turn Q waits)
      → left ≤ also
      → turns Q also other ≡ turns Q left waits
      → ((fewer : ℕ) → fewer < also → Back fewer (turn P one) (turn Q waits))
      → Back also one other
  moved also measure one other waits then zero related quiet moves less same rest =
      (0, subst (Same (shown one)) (sym quiet ∙ sym (ap shown same)) (sim.shows measure one other related))
  moved also measure one other waits then (suc left) related quiet moves less same rest =
      let more = rest left (omega (arith, less)) in
      (suc more.0, subst (λ (r : Run). Same (shown (turns P more.0 (turn P one))) (shown r)) (sym same) more.1)

  back_step :
      (also measure : ℕ) (one other : Run)
      → Relates measure one other
      → Keeps P Q Relates measure one other
      → ((left then : ℕ) (waits : Run) → left ≤ also → then < measure → Relates then (turn P one) waits → Back left (turn P one) waits)
      → ((left then : ℕ) (after : Run) → left < also → Relates then (turn P one) after → Back left (turn P one) after)
      → Back also one other
  back_step also measure one other related kept stay move =
      elim (within_or_past Q kept.quietly also) [
        | inl within ↦ (0, subst (Same (shown one)) (sym within) (sim.shows measure one other related))
        | inr past ↦ elim kept.goes_on [
          | inl stays ↦
              let more = stay past.0 kept.measure_then kept.waits past.1 stays.0 stays.1 in
              (suc more.0, subst (λ (r : Run). Same (shown (turns P more.0 (turn P one))) (shown r)) (sym past.2) more.1)
          | inr moves ↦
              moved also measure one other kept.waits kept.measure_then past.0 related (quiet_shown Q kept.quietly) moves past.1 past.2
              (λ fewer low. move fewer kept.measure_then (turn Q kept.waits) low moves)
        ]
      ]

  -- the second's turns are fewer than a number, or as many and the measure is below a bound
  back_by :
      (most : ℕ)
      → ((also measure : ℕ) (one other : Run) → also < most → Relates measure one other → Back also one other)
      → (bound also measure : ℕ) (one other : Run)
      → also ≤ most
      → measure < bound
      → Relates measure one other
      → Back also one other
  back_by most fewer zero also measure one other few low related = absurd (omega (arith, low))
  back_by most fewer (suc bound) also measure one other few low related =
      back_step also measure one other related (sim.keeps measure one other related)
      (λ left then waits less falls. back_by most fewer bound left then (turn P one) waits (omega (arith, less, few))
      (omega (arith, falls, low)))
      (λ left then after less. fewer left then (turn P one) after (omega (arith, less, few)))

  back_below : (most also measure : ℕ) (one other : Run) → also < most → Relates measure one other → Back also one other
  back_below zero also measure one other few related = absurd (omega (arith, few))
  back_below (suc most) also measure one other few related =
      back_by most (back_below most) (suc measure) also measure one other (omega (arith, few)) (omega arith) related

  pub both_ways : (measure : ℕ) (one other : Run) → Relates measure one other → ShowBothWays P Q Same one other
  both_ways measure one other related = record {
    forth = λ count. forth count measure one other related;
    back = λ also. back_below (suc also) also measure one other (omega arith) related;
  }
