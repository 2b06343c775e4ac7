-- Layouts in the chosen form.
use Rattle.std.proofs.Common.{◌≡◌, ℕ, ◌≤◌, ◌<◌, Bool, true, false, List, if◌then◌else◌, inl, sym, subst, arith}
use Rattle.std.proofs.lemmas.Bool.{le-leb, lt-leb}
use Rattle.code_layout.specs.ChosenForm.{IsLaidOut, IsLong, IsWithin, is_short}
use Rattle.code_layout.specs.EmittedCode.{HasCodeOf}
use Rattle.code_layout.specs.Layout.{IsLaid, end_from, short_spelled, table_len, wide_spelled}
use Rattle.code_layout.specs.WideForm.{widened}
use Rattle.code_layout.specs.declared.emitted.EmitItem.{EmitItem}
use Rattle.code_layout.specs.declared.laid.Laid.{Laid}

module _ (items : List EmitItem) where
  abbrev len : ℕ
  len = end_from short_spelled 0 items

  module _ (fits : len ≤ 32767) where
    short : is_short items ≡ true
    short = le-leb len 32767 fits

    pub short-laid : (laid : Laid) → IsLaid short_spelled items laid → HasCodeOf items laid → IsLaidOut items laid
    short-laid laid is code = record {
      is = subst (λ (b : Bool). IsLaid (if b then short_spelled else wide_spelled) (if b then items else widened items) laid) (sym short) is;
      code = subst (λ (b : Bool). HasCodeOf (if b then items else widened items) laid) (sym short) code;
    }

    pub short-within : table_len items ≤ 65535 → IsWithin items
    short-within table = record {
      code = subst (λ (b : Bool). end_from (if b then short_spelled else wide_spelled) 0 (if b then items else widened items) ≤ 65535) (sym short) (omega (arith, fits));
      table = table;
    }

  module _ (long : 32767 < len) where
    wide : is_short items ≡ false
    wide = lt-leb len 32767 long

    pub wide-laid : (laid : Laid) → IsLaid wide_spelled (widened items) laid → HasCodeOf (widened items) laid → IsLaidOut items laid
    wide-laid laid is code = record {
      is = subst (λ (b : Bool). IsLaid (if b then short_spelled else wide_spelled) (if b then items else widened items) laid) (sym wide) is;
      code = subst (λ (b : Bool). HasCodeOf (if b then items else widened items) laid) (sym wide) code;
    }

    pub wide-within : end_from wide_spelled 0 (widened items) ≤ 65535 → table_len items ≤ 65535 → IsWithin items
    wide-within fits table = record {
      code = subst (λ (b : Bool). end_from (if b then short_spelled else wide_spelled) 0 (if b then items else widened items) ≤ 65535) (sym wide) fits;
      table = table;
    }

    pub wide-long : 65535 < end_from wide_spelled 0 (widened items) → IsLong items
    wide-long past =
        inl (subst (λ (b : Bool). 65535 < end_from (if b then short_spelled else wide_spelled) 0 (if b then items else widened items)) (sym wide) past)
