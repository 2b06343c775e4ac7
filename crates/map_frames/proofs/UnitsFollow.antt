-- Local units that are changed behind the entries that are kept.
use Rattle.std.proofs.Common.{◌≡◌, ℕ, ◌+◌, ◌-◌, ◌≤◌, List, ◌++◌, length, take, drop, replicate, Result, Ok, Err, OnOk, ap, sym, ◌∙◌, append_assoc, arith, length-append}
use Rattle.std.proofs.Math.Seq.{take-append_seam, drop-append-add}
use Rattle.std.proofs.lemmas.List.{take-append-drop, take_rest, drop-replicate, length-replicate, replicate-append-replicate}
use Rattle.class_model.specs.Frames.{depth, filled, units_of_entries}
use Rattle.class_model.specs.Laws.Frames.{units-append}
use Rattle.class_model.specs.declared.frame.VType.{VType}
use Rattle.class_model.specs.declared.frame.VType.TheVariants.{Top}
use Rattle.map_frames.specs.Inner.Units.{Follows}

-- what is Top behind some units, from behind them on
behind_gone : (gone : List VType) (n width : ℕ) → length gone ≤ width → drop width (gone ++ replicate n Top) ≡ replicate (n - (width - length gone)) Top
behind_gone gone n width le =
    let is : width ≡ length gone + (width - length gone) = omega arith in
    ap (λ (k : ℕ). drop k (gone ++ replicate n Top)) is ∙ drop-append-add gone (replicate n Top) (width - length gone) ∙ drop-replicate (width - length gone) n Top

all_tops : (front more : List VType) (d a b : ℕ) → d + a ≡ b → (front ++ (more ++ replicate d Top)) ++ replicate a Top ≡ (front ++ more) ++ replicate b Top
all_tops front more d a b is =
    ap (λ (l : List VType). l ++ replicate a Top) (sym (append_assoc front more (replicate d Top)))
    ∙ append_assoc (front ++ more) (replicate d Top) (replicate a Top)
    ∙ ap (λ (l : List VType). (front ++ more) ++ l) (replicate-append-replicate d a Top ∙ ap (λ (k : ℕ). replicate k Top) is)

-- Units behind the first ones, and Top behind those, take the place of others and of Top behind them.
pub overwritten : (front gone more units changed : List VType) (max_locals : ℕ) → length front + length gone ≤ max_locals → length front + length more ≤ max_locals
    → units ≡ (front ++ gone) ++ replicate (max_locals - (length front + length gone)) Top → changed ≡ more ++ replicate (length gone - length more) Top
    → take (length front) units ++ changed ++ drop (length front + length changed) units ≡ (front ++ more) ++ replicate (max_locals - (length front + length more)) Top
overwritten front gone more units changed max_locals fit fits units_are changed_is =
    let n = max_locals - (length front + length gone) in
    let rest = gone ++ replicate n Top in
    let whole : units ≡ front ++ rest = units_are ∙ append_assoc front gone (replicate n Top) in
    let width : length changed ≡ length more + (length gone - length more) = ap length changed_is ∙ length-append more (replicate (length gone - length more) Top) ∙ ap (λ (k : ℕ). length more + k) (length-replicate (length gone - length more) Top) in
    let first : take (length front) units ≡ front = ap (take (length front)) whole ∙ take-append_seam front rest in
    let last : drop (length front + length changed) units ≡ replicate (n - (length changed - length gone)) Top =
    ap (drop (length front + length changed)) whole ∙ drop-append-add front rest (length changed) ∙ behind_gone gone n (length changed) (omega arith) in
    ap (λ (l : List VType). l ++ changed ++ drop (length front + length changed) units) first
    ∙ ap (λ (l : List VType). front ++ l ++ drop (length front + length changed) units) changed_is
    ∙ ap (λ (l : List VType). front ++ (more ++ replicate (length gone - length more) Top) ++ l) last
    ∙ all_tops front more (length gone - length more) (n - (length changed - length gone)) (max_locals - (length front + length more)) (omega arith)

-- The units of the entries that are kept, and those behind them that are gone.
pub record Turn (max_locals kept before : ℕ) (entries units : List VType) : Type 0 where
  pub front : List VType
  pub gone : List VType
  pub units_are : units ≡ (front ++ gone) ++ replicate (max_locals - (length front + length gone)) Top
  pub before_is : before ≡ length front + length gone
  pub entries_are : units_of_entries entries ≡ front ++ units_of_entries (drop kept entries)
  pub lengths : depth entries ≡ length front + depth (drop kept entries)

units_split : (kept : ℕ) (entries : List VType) → units_of_entries entries ≡ units_of_entries (take kept entries) ++ units_of_entries (drop kept entries)
units_split kept entries = ap units_of_entries (sym (take-append-drop kept entries)) ∙ units-append (take kept entries) (drop kept entries)

pub turn : (max_locals kept before : ℕ) (entries units : List VType) → Follows max_locals kept before entries units → Turn max_locals kept before entries units
turn max_locals kept before entries units follows =
    let front = units_of_entries (take kept entries) in
    let gone = units_of_entries (drop kept follows.others) in
    let all : units_of_entries follows.others ≡ front ++ gone = units_split kept follows.others ∙ ap (λ (l : List VType). units_of_entries l ++ gone) follows.keeps.same in
    let depth_is : depth follows.others ≡ length front + length gone = ap length all ∙ length-append front gone in
    record {
      front = front;
      gone = gone;
      units_are = follows.units_are ∙ ap (λ (l : List VType). l ++ replicate (max_locals - depth follows.others) Top) all ∙ ap (λ (k : ℕ). (front ++ gone) ++ replicate (max_locals - k) Top) depth_is;
      before_is = follows.before_is ∙ depth_is;
      entries_are = units_split kept entries;
      lengths = ap length (units_split kept entries) ∙ length-append front (units_of_entries (drop kept entries));
    }

-- Where all units fit, those that are changed make the units of the entries.
pub followed : (max_locals kept before from : ℕ) (entries units changed : List VType) → Follows max_locals kept before entries units → before ≤ max_locals
    → from ≡ depth entries - depth (drop kept entries) → changed ≡ units_of_entries (drop kept entries) ++ replicate (before - from - depth (drop kept entries)) Top
    → take from units ++ changed ++ drop (from + length changed) units ≡ filled max_locals entries
followed max_locals kept before from entries units changed follows fits from_is changed_is =
    let t = turn max_locals kept before entries units follows in
    let at : from ≡ length t.front = omega (arith, t.lengths) in
    let count : before - from - depth (drop kept entries) ≡ length t.gone - depth (drop kept entries) = omega (arith, t.before_is) in
    let more = units_of_entries (drop kept entries) in
    let filled_are : (t.front ++ more) ++ replicate (max_locals - (length t.front + length more)) Top ≡ filled max_locals entries =
    ap (λ (l : List VType). l ++ replicate (max_locals - (length t.front + length more)) Top) (sym t.entries_are) ∙ ap (λ (k : ℕ). units_of_entries entries ++ replicate (max_locals - k) Top) (sym t.lengths) in
    ap (λ (k : ℕ). take k units ++ changed ++ drop (k + length changed) units) at
    ∙ overwritten t.front t.gone more units changed max_locals (omega (arith, t.before_is)) (omega (arith, t.lengths, follows.fits)) t.units_are (changed_is ∙ ap (λ (k : ℕ). more ++ replicate k Top) count)
    ∙ filled_are

-- the units of the entries behind those that are kept
pub changed_are : (kept : ℕ) (entries types changed : List VType) → types ≡ entries → changed ≡ units_of_entries (take (length types - kept) (drop kept types)) → changed ≡ units_of_entries (drop kept entries)
changed_are kept entries types changed same is =
    is ∙ ap units_of_entries (take_rest types kept) ∙ ap (λ (l : List VType). units_of_entries (drop kept l)) same

-- all places of the units
pub room : {max_locals kept before : ℕ} {entries units : List VType} → Turn max_locals kept before entries units → before ≤ max_locals → length units ≡ max_locals
room {max_locals = max_locals} t fits =
    omega (arith, ap length t.units_are, length-append (t.front ++ t.gone) (replicate (max_locals - (length t.front + length t.gone)) Top), length-append t.front t.gone, length-replicate (max_locals - (length t.front + length t.gone)) Top, t.before_is)

pub on_ok-same : {E X : Type 0} (r : Result (Unit {0}) E) (new was is : X) → was ≡ is → OnOk r (new ≡ was) → OnOk r (new ≡ is)
on_ok-same (Ok done) new was is same h = h ∙ same
on_ok-same (Err fault) new was is same h = tt
