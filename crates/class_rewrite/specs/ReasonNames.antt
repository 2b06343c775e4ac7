-- The names of reasons, as they are printed.
use Rattle.std.specs.Prelude.{ℕ, List, codes}
use Rattle.flow_code.specs.declared.reason.Reason.{Reason}
use Rattle.flow_code.specs.declared.reason.Reason.TheVariants as reasons

abbrev pub reason_name : Reason → List ℕ
reason_name reasons.Host = codes "Host"
reason_name reasons.Float = codes "Float"
reason_name reasons.Expanded = codes "Expanded"
reason_name reasons.NoSite = codes "NoSite"
reason_name reasons.Wide = codes "Wide"
reason_name reasons.NoGain = codes "NoGain"
reason_name reasons.Long = codes "Long"
reason_name reasons.PoolFull = codes "PoolFull"
reason_name reasons.Rewritten = codes "Rewritten"
