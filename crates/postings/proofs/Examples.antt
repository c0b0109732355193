-- The lines, computed.
use mathlib.Core.Path.{◌≡◌, refl}
use Rattle.ledger.specs.Balances.{cell_of, with_cell, credited_row, debited_row, row_of, with_row, balance_in, credited, debited, fresh_ledger}
use Rattle.ledger.specs.Postings.{balance_of, credit_of, debit_of, credit_row_of, debit_row_of}
use Rattle.postings.specs.Lines.{fresh_books, alone_of, two_of, three_of}
use Rattle.postings.specs.Examples.{posted, lines}

pub lines_hold : posted fresh_books lines ≡ lines
unfolding lines posted fresh_books alone_of two_of three_of balance_of credit_of debit_of credit_row_of debit_row_of cell_of with_cell credited_row debited_row row_of with_row balance_in credited debited fresh_ledger
lines_hold = refl
