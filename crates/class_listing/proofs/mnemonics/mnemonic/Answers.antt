-- That of the table at the opcode.
use Rattle.std.proofs.Common.{ℕ, [], slice_index_or, ap, sym, ◌∙◌}
use Rattle.std.proofs.lemmas.Bool.{ltb-true, ltb-false}
use Rattle.class_listing.specs.Mnemonics.{mnemonics}
use Rattle.class_listing.proofs.MnemonicTable.{name_found, no_name}
use Rattle.class_listing.proofs.mnemonics.mnemonic.Goals as goal

pub returns-in-Some : goal.returns-in-Some
returns-in-Some c =
    name_found c.all_mnemonics.result.now mnemonics c.from.result c.in-Some.name.now c.all_mnemonics.ensures (ltb-true _ _ (sym c.in-Some.ensures.lookup.0)) c.in-Some.ensures.lookup.1
    ∙ ap (λ (n : ℕ). slice_index_or mnemonics n []) c.from.ensures

pub returns-in-None : goal.returns-in-None
returns-in-None c =
    no_name c.all_mnemonics.result.now mnemonics c.from.result c.all_mnemonics.ensures (ltb-false _ _ (sym c.in-None.ensures.lookup.0))
    ∙ ap (λ (n : ℕ). slice_index_or mnemonics n []) c.from.ensures
