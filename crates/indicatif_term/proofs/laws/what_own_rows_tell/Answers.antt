use Rattle.std.proofs.Common.{◌≡◌, refl}
use Rattle.std.specs.Prelude.{IsTrue}
use Rattle.std.proofs.lemmas.Bool.{false≢true}
use Rattle.indicatif_term.specs.Calls.{TermView, is_told}
use Rattle.indicatif_term.specs.OwnRows.{inner, rows_view}
use Rattle.indicatif_term.specs.declared.target.own_rows.Rows.{Rows}
use Rattle.indicatif_term.specs.declared.target.own_rows.Rows.TheVariants.{Left, Ended}
use Rattle.indicatif_term.proofs.laws.what_own_rows_tell.Goals as goal

told_rows : {T : Type 0} (view : T → TermView) (rows : Rows T) → IsTrue (is_told (rows_view view rows).told) → rows_view view rows ≡ view (inner rows)
told_rows view (Left term) told = refl
told_rows view (Ended own) told = absurd (false≢true told)

pub returns : goal.returns
returns g c = record {
  left = λ view term. refl;
  ended = λ view term row. refl;
  told = λ view own told. told_rows view own.rows told;
}
