-- The names of generated methods are plain.
use Rattle.std.proofs.Common.{◌≡◌, ◌≤◌, ℕ, true, refl, arith}
use Rattle.std.specs.Fmt.{digits}
use Rattle.class_model.specs.ModifiedUtf8.{is_plain_text}
use Rattle.work_gen.specs.Generated.{method_name}
use Rattle.work_gen.specs.Laws.Below.{below, passes_below}

plain_names : below 1001 (λ number. is_plain_text (method_name number)) ≡ true
unfolding digits
plain_names = refl

pub plain_name : (number : ℕ) → number ≤ 1000 → is_plain_text (method_name number) ≡ true
plain_name number few = passes_below 1001 (λ number. is_plain_text (method_name number)) plain_names number (omega (arith, few))
