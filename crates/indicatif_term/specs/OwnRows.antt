-- A terminal whose rows are ended by the program, or by the terminal.
use Rattle.std.specs.Prelude.{◌≡◌, false, ◌+◌, ◌%◌, ◌^◌, if◌then◌else◌, Option, Some, None, Result, MatchResult}
use Rattle.std.specs.IoError.{error_kind}
use Rattle.std.specs.declared.io.Error.{Error}
use Rattle.std.specs.Result.{is_err}
use Rattle.indicatif_term.specs.Calls.{Nothing, TermView}
use Rattle.indicatif_term.specs.declared.target.ended_rows.EndedRows.{EndedRows}
use Rattle.indicatif_term.specs.declared.target.ended_rows.Phase.{Phase}
use Rattle.indicatif_term.specs.declared.target.ended_rows.Phase.TheVariants.{Resting, Waiting}
use Rattle.indicatif_term.specs.declared.target.ended_rows.Shown.TheVariants.{AtOnce, AsWritten}
use Rattle.indicatif_term.specs.declared.target.own_row.OwnRow.{OwnRow}
use Rattle.indicatif_term.specs.declared.target.own_rows.OwnRows.{OwnRows}
use Rattle.indicatif_term.specs.declared.target.own_rows.Rows.{Rows}
use Rattle.indicatif_term.specs.declared.target.own_rows.Rows.TheVariants.{Left, Ended}

-- the view of a terminal whose bytes can't be read
abbrev pub quiet : TermView → TermView
quiet v = record { told = Nothing; columns = v.columns; rows = v.rows; faults = v.faults; kind = v.kind }

-- the size stays, and a call that fails counts one fault, of its kind
pub record Quietly (old new : TermView) (result : Result Unit Error) : Type 0 where
  pub columns_are : new.columns ≡ old.columns
  pub rows_are : new.rows ≡ old.rows
  pub faults_are : new.faults ≡ (if is_err result then (old.faults + 1) % 2 ^ 64 else old.faults)
  pub kind_is : MatchResult result (λ _. new.kind ≡ old.kind) (λ e. new.kind ≡ error_kind e)

-- where the cursor waits before the first draw: at the front of a row; on one row of several its column is unknown
abbrev pub first_place : Option OwnRow → Phase
first_place None = Resting
first_place (Some row) = Waiting

-- rows of a terminal that the program ends, before the first draw
abbrev pub new_rows : {T : Type 0} → T → Option OwnRow → EndedRows T
new_rows term row = record { term = term; row = row; shown = AtOnce; place = first_place row; column = 0; faults = 0; sent = 0; written = false }

module _ {T : Type 0} where
  -- a terminal with such rows, before the first draw
  abbrev pub own_rows : T → Option OwnRow → OwnRows T
  own_rows term row = record { rows = Ended (new_rows term row) }

  -- a terminal that ends its own rows
  abbrev pub left_rows : T → OwnRows T
  left_rows term = record { rows = Left term }

  -- the terminal behind rows
  abbrev pub inner : Rows T → T
  inner (Left term) = term
  inner (Ended own) = own.term

  -- the terminal behind an `OwnRows`
  abbrev pub inner_term : OwnRows T → T
  inner_term own = inner own.rows

  -- the view of rows: if the terminal ends them, that of the terminal; otherwise only its size and its faults
  abbrev pub rows_view : (T → TermView) → Rows T → TermView
  rows_view view (Left term) = view term
  rows_view view (Ended own) = quiet (view own.term)

  -- the same for a terminal
  abbrev pub own_view : (T → TermView) → OwnRows T → TermView
  own_view view own = rows_view view own.rows

  -- rows that the program ends, without synchronized updates
  abbrev pub as_written : Rows T → Rows T
  as_written (Left term) = Left term
  as_written (Ended own) = Ended (record own { shown = AsWritten })

  -- the same for a terminal
  abbrev pub unsynchronized : OwnRows T → OwnRows T
  unsynchronized own = record { rows = as_written own.rows }
