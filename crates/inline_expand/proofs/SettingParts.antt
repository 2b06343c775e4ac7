-- A method in its place.
use Rattle.std.proofs.Common.{◌≡◌, ◌++◌, ◌∷◌, [], ℕ, ℤ, map, Option, None, refl, sym, ap, ◌∙◌, append-nil}
use Rattle.class_model.specs.declared.descriptor.Kind.{Kind}
use Rattle.class_model.specs.declared.frame.Frame.{Frame}
use Rattle.class_model.specs.declared.instr.Instr.{Instr}
use Rattle.class_model.specs.declared.instr.Instr.TheVariants.{Iinc, Load, Store}
use Rattle.expanded_code.specs.Alone.{handlers_by}
use Rattle.expanded_code.specs.Expanded.{Narrowing, Setting, narrows, point_in, with_unit}
use Rattle.flow_code.specs.declared.point.FlatInstr.TheVariants.{Of}
use Rattle.inline_expand.specs.Inner.Numbers.{handlers_for, number_by}
use Rattle.inline_expand.specs.Inner.Settings.{IsSpot, caught_by, number_in, setting_of}
use Rattle.inline_expand.specs.declared.expanded.settings.Call.{Call}
use Rattle.inline_expand.specs.declared.expanded.settings.Setting.{Setting as Placing}
use Rattle.inline_expand.specs.declared.expanded.settings.Spot.{Spot}
use Rattle.inline_expand.specs.declared.numbers.Numbers.{Numbers}
use Rattle.member_link.specs.Scope.{Scope}

-- of a host, the handlers by its numbers are its own
pub host-handlers : (s : Placing) (numbers : Numbers) (at : ℕ) → s.call ≡ None → numbers.host.now ≡ s.body.now.host → number_by numbers ≡ number_in s
    → handlers_for numbers at ≡ (setting_of s).handlers at
host-handlers s numbers at none host same =
    ap (λ (scope : Scope). handlers_by scope (number_by numbers) at) host
    ∙ ap (λ (number : ℕ → ℕ). handlers_by s.body.now.host number at) same
    ∙ ap (λ (call : Option Call). caught_by call (handlers_by s.body.now.host (number_in s)) at) (sym none)

-- an instruction without a local keeps it
pub kept-unit : (unit : ℕ) (instr : Instr) → ((kind : Kind) (local : ℕ) → instr ≡ Load kind local → ⊥) → ((kind : Kind) (local : ℕ) → instr ≡ Store kind local → ⊥) → ((local : ℕ) (by : ℤ) → instr ≡ Iinc local by → ⊥)
    → with_unit unit instr ≡ instr
kept-unit unit (Load kind local) load store iinc = absurd (load kind local refl)
kept-unit unit (Store kind local) load store iinc = absurd (store kind local refl)
kept-unit unit (Iinc local by) load store iinc = absurd (iinc local by refl)
kept-unit unit instr load store iinc = refl

-- ---- points at a spot

pub spot-point : (t : Setting) (at : ℕ) (spot : Spot) (typed : Frame) (instr : Instr) → IsSpot t at spot
    → record { instr = Of spot.class instr; typed = typed; handlers = spot.handlers.now } ≡ point_in t at typed instr
spot-point t at spot typed instr is = λ i. record { instr = Of (is.class i) instr; typed = typed; handlers = is.handlers i }

-- a conversion narrows by itself
pub narrowed-alone : (t : Setting) (at : ℕ) (typed : Frame) (instr : Instr) → point_in t at typed instr ∷ [] ≡ map (λ (n : Narrowing). point_in t at (record typed { stack = typed.stack ++ n.above }) n.instr) (narrows instr)
narrowed-alone t at typed instr = λ i. point_in t at (record typed { stack = sym (append-nil typed.stack) i }) instr ∷ []
