-- `row_responses::response_of` meets its contract. Assumes nothing.
use Rattle.rows.specs.Rows.{response_row}
use Rattle.row_responses.proofs.response_of.Goals as goal

pub returns : goal.returns
unfolding response_row
returns c = rw (c.at-7.ensures, c.result_of-result.ensures, c.at-6.ensures, c.maybe-error.ensures, c.at-5.ensures, c.at-4.ensures, c.at-3.ensures, c.place-terminal.ensures, c.at-2.ensures, c.at.ensures)
